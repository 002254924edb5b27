use Rattle.writer_lists.proofs.Records.{route_row_lem}
use Rattle.writer_lists.proofs.route.Goals as goal

pub returns : goal.returns
returns c = rw (c.line.ensures, c.word-b.ensures, c.word-c.ensures, c.word-d.ensures, c.word-e.ensures, c.word.ensures, c.word-2.ensures) (route_row_lem _ _)
