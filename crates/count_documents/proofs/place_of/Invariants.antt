use Rattle.count_documents.specs.Steps.{PlaceUpTo}
use Rattle.count_documents.proofs.place_of.Given as goal

abbrev pub invariant-loop-i : goal.invariant-loop-i
invariant-loop-i l = PlaceUpTo l.names l.name l.i l.found
