use lib.ListN.{length-take}
use Rattle.expand_text.proofs.InputLaws.{bytes_within}
use Rattle.expand_text.proofs.AnswerLaws.{few_refused}
use native.Mathlib.Omega.{arith}
use Rattle.expand.proofs.respond.Goals as goal

pub returns-in-Ok : goal.returns-in-Ok
returns-in-Ok g c = c.expand_text.ensures.few

pub returns-in-Err : goal.returns-in-Err
returns-in-Err g c = few_refused _

pub slice_bounds-expand_text-end : goal.slice_bounds-expand_text-end
slice_bounds-expand_text-end g c = omega (arith, bytes_within _ _ _ c.in-Ok.is c.read.ensures)

pub slice_bounds-expand_text-end-in-Ok : goal.slice_bounds-expand_text-end-in-Ok
slice_bounds-expand_text-end-in-Ok g c = simp length-take (omega (arith, bytes_within _ _ _ c.in-Ok.is c.read.ensures))
