-- What reading and writing answer, in document 01's numbers.
use Rattle.std.specs.Prelude.{ℕ}

-- the refusal, or 0 if accepted; the place of a refusal, and the count of what is accepted, where there is one
pub record Answer : Type 0 where
  pub refusal : ℕ
  pub place : ℕ
  pub count : ℕ

abbrev pub accepted : ℕ → Answer
accepted n = record { refusal = 0; place = 0; count = n }

abbrev pub refused : ℕ → ℕ → Answer
refused n at = record { refusal = n; place = at; count = 0 }
