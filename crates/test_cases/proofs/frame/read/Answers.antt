use Rattle.std.proofs.lemmas.Result.{err_from_is_err_and}
use Rattle.test_cases.proofs.FrameLaws.{all_good, not_read}
use Rattle.test_cases.proofs.frame.read.Goals as goal

pub returns : goal.returns
returns g c = all_good _ c.args.words.now _ _ c.read_lines.ensures _ c.in_ok-read_lines.was

pub returns-in_err-read_lines : goal.returns-in_err-read_lines
returns-in_err-read_lines g c = let p = err_from_is_err_and c.from_residual.result c.from_residual.ensures.1 in rw p.1 (not_read _ c.args.words.now _ _ c.read_lines.ensures _ c.in_err-read_lines.was)
