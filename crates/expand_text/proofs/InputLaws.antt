-- What reading to the end found.
use mathlib.Core.Path.{◌≡◌}
use Prim.Native.Nat.{ℕ, ◌≤◌}
use Rattle.std.specs.Prelude.{Result, Ok}
use Rattle.expand_text.specs.declared.input.InputError.{InputError}
use Rattle.expand_text.specs.Input.{EndsWithin}

pub bytes_within : (r : Result ℕ InputError) (m n : ℕ) → r ≡ Ok m → EndsWithin r n → m ≤ n
bytes_within r m n e w = rw e at w
