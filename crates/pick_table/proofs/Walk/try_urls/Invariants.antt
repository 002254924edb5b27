use mathlib.Core.Path.{◌≡◌}
use Rattle.sheet_rows.specs.declared.part.Part.TheVariants.{Urls}
use Rattle.sheet_rows.specs.Rows.{rows}
use Rattle.sheet_walks.proofs.OverLaws.{Over}
use Rattle.pick_table.specs.Chosen.{Scratch, NoExtern}
use Rattle.pick_table.proofs.PickLaws.{Trying}
use Rattle.pick_table.proofs.Walk.try_urls.Given as goal

abbrev pub invariant-loop-q : goal.invariant-loop-q
invariant-loop-q l =
    let library = l.initial.self.library.now in
    Over Urls (rows l.sheet) l.q-iterator × Trying (rows l.sheet) l.at (rows library) l.initial.self.table l.self.table l.q-iterator.next × Scratch library l.self.files.now l.self.slots.now l.self.memo × (l.self.library.now ≡ library) × NoExtern (rows l.sheet) l.at l.behind × (l.q-iterator.next ≡ l.behind)
