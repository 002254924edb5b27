use mathlib.Core.Path.{ap, ◌∙◌}
use Prim.Native.Nat.{◌+◌}
use lib.ListN.{length}
use lib.Seq.{length-sets}
use native.Mathlib.Omega.{arith}
use Rattle.text_decimal.specs.Decimal.{justified}
use Rattle.text_decimal.proofs.DecimalLaws.{justified_length}
use Rattle.text_decimal.proofs.StoreLaws.{part_put}
use Rattle.pages_definition.proofs.TextLaws.{three_put}
use Rattle.pages_text.proofs.put_three.Goals as goal

pub returns : goal.returns
returns c =
    let t = c.args.text.now in
    let at = c.args.at in
    let a = c.args.a in
    let b = c.args.b in
    let d = c.args.c in
    let e = part_put at _ 12 t (λ w. justified w a) (λ w. justified_length w a) (omega arith) (omega (arith, c.requires)) c.put_number.ensures in
    let m = ap length e ∙ length-sets t at (justified 12 a) in
    let f = part_put (at + 12) _ 12 _ (λ w. justified w b) (λ w. justified_length w b) (omega arith) (omega (arith, m, c.requires)) c.put_number-2.ensures in
    let n = ap length f ∙ length-sets _ (at + 12) (justified 12 b) ∙ m in
    let g = part_put (at + 24) _ 12 _ (λ w. justified w d) (λ w. justified_length w d) (omega arith) (omega (arith, n, c.requires)) c.put_number-3.ensures in
    three_put t at (justified 12 a) (justified 12 b) (justified 12 d) (justified_length 12 a) (justified_length 12 b) e f g
