use mathlib.Core.Path.{ap, ◌∙◌}
use Prim.Native.Nat.{◌+◌, ◌*◌}
use lib.ListN.{length, get_or}
use lib.Seq.{length-sets}
use native.Mathlib.Omega.{arith}
use Rattle.text_decimal.specs.Decimal.{justified}
use Rattle.text_decimal.proofs.DecimalLaws.{justified_length}
use Rattle.text_decimal.proofs.StoreLaws.{part_put}
use Rattle.pages_definition.proofs.PageLaws.{six_put}
use Rattle.pages_text.proofs.put_node_line.Goals as goal

pub returns : goal.returns
returns c =
    let at = c.args.at in
    let source = get_or c.args.ledger.now (3 * c.args.i + 2) 0 in
    let name = c.row_at-r.result.a in
    let t = c.put_three.new.text in
    let long = c.put_three.auto.text in
    let e = part_put (at + 36) _ 12 t (λ w. justified w source) (λ w. justified_length w source) (omega arith) (omega (arith, long, c.requires.fits)) c.put_number.ensures in
    let m = ap length e ∙ length-sets t (at + 36) (justified 12 source) ∙ long in
    let f = part_put (at + 48) _ 12 _ (λ w. justified w name) (λ w. justified_length w name) (omega arith) (omega (arith, m, c.requires.fits)) c.put_number-2.ensures in
    six_put c.args.sheet.now c.args.ledger.now c.args.q c.args.i at c.args.text.now c.row_at-r.ensures c.put_three.ensures e f c.put_name.ensures
