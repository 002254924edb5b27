use lib.ListN.{length-set}
use Rattle.source_setup.proofs.ListingLaws.{listing_none, listing_some, count_stays}
use native.Mathlib.Omega.{arith}
use Rattle.source_setup.proofs.listing.list.Goals as goal

pub bounds-dir-197 : goal.bounds-dir-197
bounds-dir-197 c = simp length-set (omega (arith, c.requires.2))

pub bounds-dir-203 : goal.bounds-dir-203
bounds-dir-203 c = simp length-set (omega (arith, c.requires.2))

pub bounds-dir-205 : goal.bounds-dir-205
bounds-dir-205 c = simp length-set (omega (arith, c.requires.2))

pub returns-then-protos-externs : goal.returns-then-protos-externs
returns-then-protos-externs c = listing_none c.args.root.now c.args.library.now c.args.dir.now c.args.work.now c.args.free c.args.at c.args.end c.requires.2 c.requires.5

pub returns-then-end-at : goal.returns-then-end-at
returns-then-end-at c = listing_none c.args.root.now c.args.library.now c.args.dir.now c.args.work.now c.args.free c.args.at c.args.end c.requires.2 c.requires.5

pub bounds-dir-197-2 : goal.bounds-dir-197-2
bounds-dir-197-2 c = simp length-set (omega (arith, c.requires.2))

pub of_all-requires : goal.of_all-requires
of_all-requires c = (c.requires.0, c.requires.1, simp length-set c.requires.2, rw (count_stays c.args.root.now c.args.library.now c.args.dir.now c.args.work.now c.args.free c.args.at c.args.end c.requires.2 _) c.requires.3, c.requires.4, omega (arith, c.if-end-at.false, c.requires.5), c.requires.6, c.requires.7)

pub returns : goal.returns
returns c = listing_some c.args.root.now c.args.library.now c.args.dir.now c.args.work.now c.args.free c.args.at c.args.end c.requires.2 _ c.of_all.ensures
