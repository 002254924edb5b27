use native.Mathlib.Omega.{arith}
use Rattle.writer_nodes.proofs.NodeRows.{first_plain, first_id, first_other}
use Rattle.writer_nodes.proofs.first.Goals as goal

pub returns-then-origin-eq-BUILTIN : goal.returns-then-origin-eq-BUILTIN
returns-then-origin-eq-BUILTIN c = rw (c.line.ensures, c.word-of.ensures, c.word-name.ensures) (first_plain _ _ (rw c.word-origin.ensures at c.if-origin-eq-BUILTIN.true))

pub returns-then-origin-lt-UNKNOWN : goal.returns-then-origin-lt-UNKNOWN
returns-then-origin-lt-UNKNOWN c = rw (c.line-then-origin-lt-UNKNOWN.ensures, c.word-of.ensures, c.word-name.ensures, c.word-origin.ensures, c.word.ensures) (first_id _ _ (omega (arith, c.if-origin-eq-BUILTIN.false, c.word-origin.ensures)) (rw c.word-origin.ensures at c.if-origin-lt-UNKNOWN.true))

pub returns : goal.returns
returns c = rw (c.line-2.ensures, c.word-of.ensures, c.word-name.ensures) (first_other _ _ (omega (arith, c.if-origin-lt-UNKNOWN.false, c.word-origin.ensures)))
