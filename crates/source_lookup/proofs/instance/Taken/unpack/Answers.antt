use mathlib.Core.Path.{refl}
use borrow.Author.Tests.{eq-eqb, ne_eqb}
use native.Mathlib.Omega.{arith}
use Rattle.source_lookup.proofs.instance.Taken.unpack.Goals as goal

pub returns-then-word-eq0 : goal.returns-then-word-eq0
returns-then-word-eq0 c = (rw (eq-eqb _ _ c.if-word-eq0.true), omega (arith, c.if-word-eq0.true))

pub returns : goal.returns
returns c = (rw (ne_eqb _ _ c.if-word-eq0.false), refl)
