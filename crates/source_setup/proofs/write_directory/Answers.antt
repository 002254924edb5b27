use borrow.Author.Rules.{rules}
use mathlib.Core.Path.{◌∙◌}
use Prim.Native.Nat.{◌≤◌}
use lib.ListN.{length, length-set}
use lib.Seq.{length-take-le}
use Rattle.source_setup.proofs.PrepareLaws.{opened}
use native.Mathlib.Omega.{arith}
use Rattle.source_setup.proofs.write_directory.Goals as goal

pub slice_bounds-bases_of-end-2 : goal.slice_bounds-bases_of-end-2
slice_bounds-bases_of-end-2 c = let h : c.args.at ≤ length c.args.work.now = omega (arith, c.requires.within) in let z = length-take-le c.args.at c.args.work.now h in search rules

pub bases_of-table-requires : goal.bases_of-table-requires
bases_of-table-requires c = c.requires.library_small

pub store-requires : goal.store-requires
store-requires c = (c.requires.library_small, c.requires.long, c.bases_of-table.ensures.sound)

pub bounds-dir-195 : goal.bounds-dir-195
bounds-dir-195 c = omega (arith, c.store.ensures.0, c.requires.long)

pub bounds-dir-198 : goal.bounds-dir-198
bounds-dir-198 c = simp length-set (omega (arith, c.store.ensures.0, c.requires.long))

pub bounds-dir-199 : goal.bounds-dir-199
bounds-dir-199 c = simp length-set (omega (arith, c.store.ensures.0, c.requires.long))

pub returns : goal.returns
returns c =
    let h : c.args.at ≤ length c.args.work.now = omega (arith, c.requires.within) in
    opened c.args.root.now c.args.library.now c.store.new.dir c.args.work.now c.bases_of-table.result c.stride.result c.args.at c.args.len c.bases_of-table.new.slots c.bases_of-table.ensures c.store.ensures.1 c.requires.library_small c.requires.root_small (omega (arith, c.store.ensures.0, c.requires.long)) h (c.bases_of-table.auto.slots ∙ length-take-le c.args.at c.args.work.now h)
