use Rattle.source_setup.proofs.CacheLaws.{Remembering}
use Rattle.source_setup.proofs.cache.remember.Given as goal

abbrev pub invariant-loop-slot : goal.invariant-loop-slot
invariant-loop-slot l = Remembering l.root l.library l.initial.dir l.dir l.initial.work l.work l.memo l.slot l.at
