use mathlib.Core.Path.{refl}
use Rattle.source_lookup.proofs.SourcedLaws.{node_below, node_small, last_of_lem, table_at, table_within, table_tells}
use Rattle.source_names.proofs.NameLaws.{table_alone}
use native.Mathlib.Omega.{arith}
use Rattle.source_lookup.proofs.Sources.last_field.Goals as goal

pub place_of-i-requires : goal.place_of-i-requires
place_of-i-requires c = (c.requires.0.directory.root_small, node_small c.requires.0 c.args.slot c.select-sheet.ensures c.number-number.ensures c.requires.2)

pub bounds-work-at : goal.bounds-work-at
bounds-work-at c = let t = table_at c.requires.0 c.args.slot c.select-sheet.ensures c.number-number.ensures c.requires.2 c.place_of-i.ensures refl refl c.if-i-self.true refl c.if-at-gt0.true in omega (arith, table_within c.requires.0 c.args.slot c.select-sheet.ensures c.number-number.ensures t)

pub bounds-work-at-then-work-at : goal.bounds-work-at-then-work-at
bounds-work-at-then-work-at c = let t = table_at c.requires.0 c.args.slot c.select-sheet.ensures c.number-number.ensures c.requires.2 c.place_of-i.ensures refl refl c.if-i-self.true refl c.if-at-gt0.true in omega (arith, table_within c.requires.0 c.args.slot c.select-sheet.ensures c.number-number.ensures t)

pub named-requires : goal.named-requires
named-requires c =
    let t = table_at c.requires.0 c.args.slot c.select-sheet.ensures c.number-number.ensures c.requires.2 c.place_of-i.ensures refl refl c.if-i-self.true refl c.if-at-gt0.true in
    table_alone (table_tells c.requires.0 c.args.slot c.select-sheet.ensures c.number-number.ensures t refl c.if-work-at.true refl) (table_within c.requires.0 c.args.slot c.select-sheet.ensures c.number-number.ensures t) (omega arith)

pub returns-then-work-at : goal.returns-then-work-at
returns-then-work-at c = last_of_lem c.requires.0 c.args.slot c.select-sheet.ensures c.number-number.ensures c.named.ensures

pub walked-requires : goal.walked-requires
walked-requires c = node_below c.requires.0 c.args.slot c.select-sheet.ensures c.number-number.ensures c.requires.2

pub returns : goal.returns
returns c = last_of_lem c.requires.0 c.args.slot c.select-sheet.ensures c.number-number.ensures c.walked.ensures
