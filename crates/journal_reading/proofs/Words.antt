-- Words that never change, and what reads only those.
use mathlib.Core.Path.{◌≡◌, refl}
use mathlib.Core.Bool.{Bool, true, false}
use mathlib.Core.List.{List}
use Prim.Native.Nat.{ℕ, suc, ◌<◌}
use native.Mathlib.Omega.{arith}
use lib.Dec.{ltb}
use borrow.Author.Tests.{lt-ltb, ltb-true}
use Rattle.ast.specs.Choice.{choose}
use Rattle.journal_records.specs.Records.{cell, stays, Steady, Fixed}
use Rattle.journal_records.proofs.Frame.{steady_tag}
use Rattle.journal_reading.specs.Reading.{fixed_word}

-- a word that never changes is the record's word
pub kept_is : (w : List ℕ) (r t j v : ℕ) → cell w r 0 ≡ t → j < stays t → cell w r j ≡ v → fixed_word w r j ≡ v
unfolding fixed_word
kept_is w r t j v e l q = rw (e, lt-ltb j (stays t) l) q

-- it is the same where such words are
pub kept_steady : {r : ℕ} {w w' : List ℕ} → Steady r w w' → (j : ℕ) → fixed_word w' r j ≡ fixed_word w r j
unfolding fixed_word
kept_steady {r} {w} {w'} s j = rw (steady_tag s) (by (ltb j (stays (cell w r 0))) refl)
  where
    by : (t : Bool) → ltb j (stays (cell w r 0)) ≡ t → choose t (cell w' r j) 0 ≡ choose t (cell w r j) 0
    by true e = s.keeps j (ltb-true j (stays (cell w r 0)) e)
    by false e = refl

pub kept_fixed : {c : ℕ} {w w' : List ℕ} → Fixed c w w' → (r j : ℕ) → r < c → fixed_word w' r j ≡ fixed_word w r j
kept_fixed f r j l = kept_steady (f.steady r l) j

-- what reads, of the records up to r, only words that never change
pub record Lasting {A : Type 0} (d : List ℕ → ℕ → A) : Type 0 where
  pub same : (r : ℕ) (w w' : List ℕ) → Fixed (suc r) w w' → d w' r ≡ d w r

pub lasting_word : (j : ℕ) → Lasting (λ w r. fixed_word w r j)
lasting_word j = record { same = λ r w w' f. kept_fixed f r j (omega arith) }
