use Prim.Native.Nat.{◌/◌, ◌≤◌}
use native.Mathlib.Nat.{div-le_self, div-mul-le_self, mul-le-mul_right}
use native.Mathlib.Omega.{arith}
use Rattle.sheet_index.proofs.PartIndex.slot_of.Goals as goal

pub returns : goal.returns
returns c =
    let n = c.args.n in
    let stride = c.args.self.now.stride in
    let low : c.min.result ≤ n / stride = omega (arith, c.min.ensures) in
    (omega (arith, c.min.ensures), omega (arith, mul-le-mul_right stride low, div-mul-le_self n stride), omega (arith, low, div-le_self n stride))
