use mathlib.Core.Path.{refl, subst, sym}
use Rattle.sheet_rows.specs.Rows.{rows}
use Rattle.sheet_lookup.specs.Lookup.{sheet_of}
use Rattle.sheet_walks.specs.Walk.{Below}
use Rattle.source_directory.specs.Directory.{number_of}
use Rattle.source_lookup.proofs.SourcedLaws.{pick_cached}
use Rattle.source_lookup.proofs.PickedLaws.{row_settled, row_picked, row_missing}
use native.Mathlib.Omega.{arith}
use Rattle.source_lookup.proofs.Sources.picked.Goals as goal

pub overflow_add-s : goal.overflow_add-s
overflow_add-s c = omega (arith, c.requires.1.upto, c.requires.0.directory.few, c.requires.0.directory.long)

pub offset_bounds-self-s : goal.offset_bounds-self-s
offset_bounds-self-s c = omega (arith, c.requires.1.upto, c.requires.0.directory.few, c.requires.0.directory.long)

pub bounds-self-s : goal.bounds-self-s
bounds-self-s c = omega (arith, c.requires.1.upto, c.requires.0.directory.few, c.requires.0.directory.long)

pub overflow_mul-at : goal.overflow_mul-at
overflow_mul-at c = omega arith

pub overflow_add-at : goal.overflow_add-at
overflow_add-at c = omega arith

pub overflow_add-at-2 : goal.overflow_add-at-2
overflow_add-at-2 c = omega arith

pub overflow_add-s-2 : goal.overflow_add-s-2
overflow_add-s-2 c = omega (arith, c.requires.1.upto, c.requires.0.directory.few, c.requires.0.directory.long)

pub overflow_add-at-3 : goal.overflow_add-at-3
overflow_add-at-3 c = omega (arith, c.requires.1.upto, c.requires.0.directory.few, c.requires.0.directory.long)

pub offset_bounds-self-s-2 : goal.offset_bounds-self-s-2
offset_bounds-self-s-2 c = omega (arith, c.requires.1.upto, c.requires.0.directory.few, c.requires.0.directory.long)

pub bounds-self-s-2 : goal.bounds-self-s-2
bounds-self-s-2 c = omega (arith, c.requires.1.upto, c.requires.0.directory.few, c.requires.0.directory.long)

pub bounds-work-at : goal.bounds-work-at
bounds-work-at c = let p = pick_cached c.requires.0 c.args.id.0 c.requires.1 refl (omega arith) refl c.if-at-self.true in omega (arith, p.1)

pub bounds-work-at-then-at-self : goal.bounds-work-at-then-at-self
bounds-work-at-then-at-self c = let p = pick_cached c.requires.0 c.args.id.0 c.requires.1 refl (omega arith) refl c.if-at-self.true in omega (arith, p.1)

pub returns-then-at-self : goal.returns-then-at-self
returns-then-at-self c = let p = pick_cached c.requires.0 c.args.id.0 c.requires.1 refl (omega arith) refl c.if-at-self.true in rw (c.unpack.ensures.0, c.unpack.ensures.1) p.0

pub extern_proto-requires : goal.extern_proto-requires
extern_proto-requires c = c.requires

pub returns-in_default : goal.returns-in_default
returns-in_default c = row_missing c.requires.0.directory c.requires.1 c.args.id.0 c.extern_proto.ensures c.in_default.is

pub pick_row-requires : goal.pick_row-requires
pick_row-requires c = record { directory = (c.requires.0.directory, c.requires.1, subst (Below (rows (sheet_of c.args.self.now.root.now c.args.self.now.library.now (number_of c.args.self.now.dir.now c.args.slot)))) c.in-At.is c.extern_proto.ensures.below); row_value = (row_settled c.requires.0.directory c.requires.1 c.args.id.0 c.extern_proto.ensures c.in-At.is, c.fresh-memo.ensures (rows c.args.self.now.library.now)) }

pub returns : goal.returns
returns c = rw (sym (row_picked c.requires.0.directory c.requires.1 c.args.id.0 c.extern_proto.ensures c.in-At.is)) c.pick_row.ensures.0
