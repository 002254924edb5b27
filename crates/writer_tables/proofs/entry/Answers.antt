use native.Mathlib.Omega.{arith}
use Rattle.writer_tables.proofs.TableRows.{entry_text_lem, document_inside}
use Rattle.writer_tables.proofs.entry.Goals as goal

pub bounds-scopes-at : goal.bounds-scopes-at
bounds-scopes-at c = omega (arith, c.word-scope.ensures, document_inside c.requires.scopes c.requires.node)

pub returns : goal.returns
returns c = rw (entry_text_lem c.requires.scopes c.requires.node) (rw (c.word-scope.ensures, c.word-source.ensures) at c.paste.ensures)
