use Rattle.std.proofs.Common.{◌≡◌, ℕ, ◌*◌}
use Rattle.sheet_rows.specs.Rows.{rows}
use Rattle.sheet_walks.specs.declared.walk.Found.TheVariants.{At}
use Rattle.sheet_walks.specs.Walk.{Nth}
use Rattle.sheet_index.specs.Index.{Indexed}
use Rattle.sheet_index.proofs.index.Given as goal

abbrev pub invariant-loop-n : goal.invariant-loop-n
invariant-loop-n l = record {
  filled : Indexed l.part (rows l.sheet) l.from l.stride l.initial.slots l.slots l.n;
  ready : (q : ℕ) → l.next ≡ At q → Nth l.part (rows l.sheet) l.from (l.n * l.stride) (At q);
}
