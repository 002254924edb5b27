-- Walks along a list of records from its handle.
use mathlib.Core.Path.{◌≡◌, refl, ◌∙◌}
use mathlib.Core.Bool.{true}
use mathlib.Core.List.{List, [], ◌∷◌}
use Prim.Native.Nat.{ℕ, ◌+◌, ◌*◌, ◌-◌, ◌<◌, ◌≤◌}
use native.Mathlib.Omega.{arith}
use lib.ListN.{length}
use Rattle.journal_records.specs.Records.{cell}
use Rattle.journal_records.specs.Logs.{rev_onto}
use Rattle.journal_records.proofs.Lists.{scan_low, scan_push, scan_end}
use Rattle.journal_reading.specs.Reading.{fixed_word, back}
use Rattle.journal_reading.specs.WellFormed.{HandleAt, listed, AllWellFormed, Walkable}
use Rattle.journal_reading.proofs.Words.{kept_is}
use Rattle.journal_reading.proofs.Fair.{listed_stays}

-- a handle can be walked from
pub walkable : {w : List ℕ} {c t h : ℕ} → AllWellFormed w c → c * 12 ≤ length w → listed t ≡ true → HandleAt w c t h → Walkable w t h
walkable fair room l x = record { room = omega (arith, x.low); tag = x.tag; linked = λ r k e. rw e at ((fair.each r (omega (arith, x.low))).linked (rw e l)) }

module _ {w : List ℕ} {t h : ℕ} (x : Walkable w t h) (some : 0 < h) where
  abbrev next : ℕ
  next = cell w (h - 1) 8

  handle : HandleAt w (h - 1) t next
  handle = x.linked (h - 1) (omega arith) (x.tag some)

  -- the record before it
  pub walk_less : cell w (h - 1) 8 < h
  walk_less = omega (arith, handle.low)

  pub walk_next : Walkable w t (cell w (h - 1) 8)
  walk_next = record { room = omega (arith, handle.low, x.room); tag = handle.tag; linked = λ r l e. x.linked r (omega (arith, handle.low)) e }

  -- a word of the record
  pub walk_word : listed t ≡ true → (j : ℕ) → j < 9 → fixed_word w (h - 1) j ≡ cell w (h - 1) j
  walk_word l j lj = kept_is w (h - 1) t j (cell w (h - 1) j) (x.tag some) (omega (arith, listed_stays t l)) refl

  pub walk_back : {A : Type 0} (d : ℕ → A) → listed t ≡ true → back d w h h ≡ d (h - 1) ∷ back d w (cell w (h - 1) 8) (cell w (h - 1) 8)
  walk_back {A} d l =
      let z : (h - 1) + 1 ≡ h = omega arith in
      (rw z at (scan_push d (λ r. fixed_word w r 8) (h - 1))) ∙ rw (walk_word l 8 (omega arith), scan_low d (λ r. fixed_word w r 8) (h - 1) next handle.low)

-- the end
pub walk_end : {A : Type 0} (w : List ℕ) (d : ℕ → A) (h : ℕ) → h ≤ 0 → back d w h h ≡ []
walk_end w d h l = let z : h ≡ 0 = omega arith in rw z (scan_end d (λ r. fixed_word w r 8))

-- a list is as long either way round
pub rev_length : {A : Type 0} (xs ys : List A) → length (rev_onto xs ys) ≡ length xs + length ys
unfolding rev_onto
rev_length [] ys = omega arith
rev_length (x ∷ xs) ys = rev_length xs (x ∷ ys) ∙ omega arith
