-- Moving totals along the coast (document 02, wish 11).
use Rattle.std.specs.Prelude.{Result, Ok, Err, Bool, true, false, ◌||◌, List, [], ◌∷◌, ◌++◌, ℕ, zero, suc, ◌+◌, ◌-◌, max, length, take, drop, ltb, eqb}
use Rattle.ast.specs.Choice.{choose}
use Rattle.words_lent.specs.Words.{over}
use Rattle.words_answer.specs.Answer.{Said}
use Rattle.moving_definition.specs.declared.Totals.{Totals}
use Rattle.moving_definition.specs.declared.MovingError.{MovingError}
use Rattle.moving_definition.specs.declared.MovingError.TheVariants.{WidthOutside, CountOver, TooFew}

-- ---- "A season is a long run of legs, each with its 64-bit count. Analysts choose a width W of 1 to 64 legs and want, for each
-- leg from the W-th on, the total of the last W, with the largest total and its first place among them, from 0."

abbrev pub sum : List ℕ → ℕ
sum [] = 0
sum (x ∷ l) = x + sum l

-- "the total of the last W": of the w legs from p on
unfoldable pub total : (w : ℕ) → (counts : List ℕ) → (p : ℕ) → ℕ
total w counts p = sum (take w (drop p counts))

-- "for each leg from the W-th on": how many there are; "A run shorter than W gives no totals"
abbrev pub totals_count : ℕ → List ℕ → ℕ
totals_count w counts = length counts + 1 - w

-- f of the first n places, in order
abbrev pub along : ℕ → (ℕ → ℕ) → List ℕ
along zero f = []
along (suc n) f = along n f ++ (f n ∷ [])

unfoldable pub totals : (w : ℕ) → (counts : List ℕ) → List ℕ
totals w counts = along (totals_count w counts) (total w counts)

-- "the largest total"; of none: "largest and place 0"
abbrev pub largest_of : List ℕ → ℕ
largest_of [] = 0
largest_of (x ∷ l) = max x (largest_of l)

-- "and its first place among them, from 0"
abbrev pub first_place : ℕ → List ℕ → ℕ
first_place x [] = 0
first_place x (y ∷ l) = choose (eqb y x) 0 (suc (first_place x l))

-- ---- "Refused: 25, W outside 1 to 64; 26, a count over 4,294,967,295; 27, too few lent totals."

-- "25, W outside 1 to 64"
abbrev pub outside : ℕ → Bool
outside w = ltb w 1 || ltb 64 w

-- "26, a count over 4,294,967,295"
abbrev pub any_over : List ℕ → Bool
any_over [] = false
any_over (x ∷ l) = ltb 4294967295 x || any_over l

-- ---- the answer, and the lent totals after the call

-- refusal: its number, or 0; count: how many totals are written
pub record Answer : Type 0 where
  pub refusal : ℕ
  pub count : ℕ
  pub largest : ℕ
  pub place : ℕ

abbrev pub refused : ℕ → Answer
refused n = record { refusal = n; count = 0; largest = 0; place = 0 }

-- "Of several refusals the lower number is given"; next: the answer where this is no refusal
abbrev pub refuse_if : Bool → ℕ → Answer → Answer
refuse_if true n next = refused n
refuse_if false n next = next

abbrev pub accepted : List ℕ → Answer
accepted l = record { refusal = 0; count = length l; largest = largest_of l; place = first_place (largest_of l) l }

-- room: how many totals are lent
unfoldable pub outcome : (counts : List ℕ) → (w room : ℕ) → Answer
outcome counts w room =
    refuse_if (outside w) 25 (refuse_if (any_over counts) 26 (refuse_if (ltb room (totals_count w counts)) 27 (accepted (totals w counts))))

-- "lent slices .. are kept" on a refusal; "lent places past that stay"
abbrev pub lent_after : ℕ → (new lent : List ℕ) → List ℕ
lent_after zero new lent = over new lent
lent_after (suc n) new lent = lent

unfoldable pub moved : (counts : List ℕ) → (w : ℕ) → (lent : List ℕ) → Answer × List ℕ
moved counts w lent = let a = outcome counts w (length lent) in (a, lent_after a.refusal (totals w counts) lent)

-- document 02's number for each error, and its numbers for the code's answer
abbrev pub number_of : MovingError → ℕ
number_of WidthOutside = 25
number_of CountOver = 26
number_of TooFew = 27

abbrev pub answer_of : Result Totals MovingError → Answer
answer_of (Ok t) = record { refusal = 0; count = t.count; largest = t.largest; place = t.place }
answer_of (Err e) = refused (number_of e)

-- as a C export says it: "refusal, totals, largest, place"
abbrev pub said_of : Answer × List ℕ → Said
said_of r = record { refusal = r.0.refusal; numbers = r.0.count ∷ r.0.largest ∷ r.0.place ∷ []; lent = r.1 }
