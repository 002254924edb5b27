use lib.ListN.{length-set}
use Rattle.sheet_rows.specs.Rows.{rows}
use Rattle.source_directory.proofs.DirectoryLaws.{stored_more}
use Rattle.source_directory.proofs.store.Goals as goal

pub loop-j-preserved : goal.loop-j-preserved
loop-j-preserved c =
    let i = c.loop-j.invariant in
    let e = c.words_of-number.ensures in
    (simp length-set i.0, simp length-set (simp length-set at i.1), rw e.0 (stored_more (rows c.args.library.now) c.args.table c.loop-j.dir i.0 c.loop-j.j c.words_of-number.result.1 c.loop-j-test.true i.2 e.1))
