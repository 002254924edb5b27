use lib.ListN.{length-set}
use Rattle.source_setup.proofs.CacheLaws.{kept_words}
use native.Mathlib.Omega.{arith}
use Rattle.source_setup.proofs.cache.keep.Goals as goal

pub bounds-work-at : goal.bounds-work-at
bounds-work-at c = omega (arith, c.requires.0)

pub bounds-work-at-2 : goal.bounds-work-at-2
bounds-work-at-2 c = simp length-set (omega (arith, c.requires.0))

pub returns : goal.returns
returns c = kept_words c.args.work.now c.args.at c.requires.0 _ _ c.pack-word.ensures.0 c.pack-word.ensures.1
