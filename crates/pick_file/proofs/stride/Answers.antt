use native.Mathlib.Nat.{div-le_self, lt-div-mul-add}
use native.Mathlib.Omega.{arith}
use Rattle.pick_file.proofs.stride.Goals as goal

pub overflow_add-result : goal.overflow_add-result
overflow_add-result c = omega (arith, div-le_self c.args.count c.args.room)

pub overflow_cast-result : goal.overflow_cast-result
overflow_cast-result c = omega (arith, div-le_self c.args.count c.args.room)

pub returns : goal.returns
returns c = λ h. omega (arith, lt-div-mul-add {a = c.args.count} h)
