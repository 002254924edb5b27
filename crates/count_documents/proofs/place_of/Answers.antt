use mathlib.Core.Path.{subst, sym}
use Prim.Native.Nat.{◌+◌}
use Rattle.count_documents.specs.Steps.{PlaceUpTo}
use Rattle.count_documents.proofs.PlaceLaws.{place_hit, place_miss}
use Rattle.count_documents.proofs.place_of.Goals.{then-known-name, else-known-name}
use Rattle.count_documents.proofs.place_of.Goals as goal

pub loop-i-preserved : goal.loop-i-preserved
loop-i-preserved c =
    let names = c.args.names.now in
    let l = c.loop-i in
    elim c.if-known-name.branch [
      | then-known-name w ↦ subst (PlaceUpTo names c.args.name (l.i + 1)) (sym w.found-is) (place_hit names c.args.name l.i w.if-known-name.true)
      | else-known-name w ↦ subst (PlaceUpTo names c.args.name (l.i + 1)) (sym w.found-is) (place_miss names c.args.name l.i l.found l.invariant w.if-known-name.false)
    ]
