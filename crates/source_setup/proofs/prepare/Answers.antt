use Rattle.source_setup.proofs.PrepareLaws.{started, prepared}
use native.Mathlib.Omega.{arith}
use Rattle.source_setup.proofs.prepare.Goals as goal

pub write_directory-requires : goal.write_directory-requires
write_directory-requires c = c.requires

pub index_all-indexed-requires : goal.index_all-indexed-requires
index_all-indexed-requires c = (c.write_directory.ensures.directory, omega arith, omega (arith, c.requires.within, c.write_directory.ensures.stays.long), c.requires.words)

pub list-next-requires : goal.list-next-requires
list-next-requires c = (c.requires.root_small, c.requires.library_small, c.index_all-indexed.ensures.indexing.directory.long, c.index_all-indexed.ensures.indexing.directory.few, c.index_all-indexed.ensures.indexing.after, c.index_all-indexed.ensures.upto, omega (arith, c.requires.within, c.index_all-indexed.ensures.work_stays.long, c.write_directory.ensures.stays.long), c.requires.words)

pub clear-requires : goal.clear-requires
clear-requires c = omega (arith, c.list-next.ensures.dir_stays.long, c.index_all-indexed.ensures.indexing.directory.long)

pub overflow_cast-dir : goal.overflow_cast-dir
overflow_cast-dir c = omega (arith, c.requires.words, c.list-next.ensures.grown.upto)

pub bounds-dir-590 : goal.bounds-dir-590
bounds-dir-590 c = omega (arith, c.clear.ensures.stays.long, c.list-next.ensures.dir_stays.long, c.index_all-indexed.ensures.indexing.directory.long)

pub remember-requires : goal.remember-requires
remember-requires c = started c.write_directory.ensures c.index_all-indexed.ensures c.list-next.ensures c.clear.ensures c.requires.within

pub returns : goal.returns
returns c = prepared c.write_directory.ensures c.index_all-indexed.ensures c.list-next.ensures c.clear.ensures c.remember.ensures
