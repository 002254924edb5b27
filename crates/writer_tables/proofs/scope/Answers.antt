use Rattle.writer_tables.proofs.TableRows.{scope_root, scope_body, scope_default}
use Rattle.writer_tables.proofs.scope.Goals as goal

pub returns-then-kind-eq-ROOT : goal.returns-then-kind-eq-ROOT
returns-then-kind-eq-ROOT c = rw (scope_root _ _ c.requires.r_in_bounds.1 (rw c.word-kind.ensures at c.if-kind-eq-ROOT.true)) c.paste.ensures

pub returns-then-kind-eq-BODY : goal.returns-then-kind-eq-BODY
returns-then-kind-eq-BODY c = rw (scope_body _ _ c.requires.r_in_bounds.1 (rw c.word-kind.ensures at c.if-kind-eq-ROOT.false) (rw c.word-kind.ensures at c.if-kind-eq-BODY.true)) (rw (c.word-document.ensures, c.word-proto.ensures, c.word-opener.ensures) at c.paste-then-kind-eq-BODY.ensures)

pub returns : goal.returns
returns c = rw (scope_default _ _ c.requires.r_in_bounds.1 (rw c.word-kind.ensures at c.if-kind-eq-ROOT.false) (rw c.word-kind.ensures at c.if-kind-eq-BODY.false)) (rw (c.word-document.ensures, c.word-proto.ensures, c.word-index.ensures, c.word-opener.ensures) at c.paste-2.ensures)
