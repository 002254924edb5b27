-- What is promised of every call of the moving totals (document 02, wish 11). This page states; nothing is proved on it.
use Rattle.std.specs.Prelude.{◌≡◌, List, ℕ, zero, suc, ◌+◌, ◌-◌, ◌≤◌, ◌<◌, length, get_or, drop}
use Rattle.moving_definition.specs.Moving.{total, Answer, refused}

-- ---- refusals

-- "a width W of 1 to 64 legs"
pub record Width (w : ℕ) : Type 0 where
  pub low : 1 ≤ w
  pub high : w ≤ 64

-- no "count over 4,294,967,295"
pub record CountsSmall (counts : List ℕ) : Type 0 where
  pub small : (leg : ℕ) → get_or counts leg 0 ≤ 4294967295

-- a refusal by its number: all else is 0, and the lent totals stay
pub record Refused (lent : List ℕ) (a : Answer) (after : List ℕ) (n : ℕ) : Type 0 where
  pub answer : a ≡ refused n
  pub kept : after ≡ lent

-- ---- an accepted call

-- the plain sum of the last w counts up to a leg: its own and those of the legs before it
abbrev pub sum_of_last : (w : ℕ) → (counts : List ℕ) → (leg : ℕ) → ℕ
sum_of_last zero counts leg = 0
sum_of_last (suc w) counts leg = get_or counts leg 0 + sum_of_last w counts (leg - 1)

pub record Accepted (counts : List ℕ) (w : ℕ) (lent : List ℕ) (a : Answer) (after : List ℕ) : Type 0 where
  pub refusal : a.refusal ≡ 0
  -- "for each leg from the W-th on": one total each; "A run shorter than W gives no totals"
  pub count : a.count ≡ length counts + 1 - w
  -- "the total of the last W", "The result must equal the plain sums for every W at once, by one fact over the width."
  pub plain : (leg : ℕ) → leg < length counts → w ≤ leg + 1 → get_or after (leg + 1 - w) 0 ≡ sum_of_last w counts leg
  -- "the largest total and its first place among them, from 0": it is one of them, none is larger, none before it is as large
  pub among : 0 < a.count → (a.place < a.count) × (get_or after a.place 0 ≡ a.largest)
  pub most : (p : ℕ) → p < a.count → get_or after p 0 ≤ a.largest
  pub first : (p : ℕ) → p < a.place → get_or after p 0 < a.largest
  -- "A run shorter than W gives .. largest and place 0"
  pub none : length counts < w → (a.count ≡ 0) × (a.largest ≡ 0) × (a.place ≡ 0)
  -- 64 counts of 32 bits: below 2^38, so nothing wraps
  pub fits : (p : ℕ) → p < a.count → get_or after p 0 < 274877906944
  -- "lent places past that stay"
  pub long : length after ≡ length lent
  pub kept : drop a.count after ≡ drop a.count lent

-- ---- the promises

-- Which calls are refused, with what, and that everything else is accepted: each call is in one of these cases, and they exclude one another.
pub data Promises (counts : List ℕ) (w : ℕ) (lent : List ℕ) (a : Answer) (after : List ℕ) : Type 0 where
  -- "25, W outside 1 to 64"
  wrong_width : (Width w → ⊥) → Refused lent a after 25 → Promises counts w lent a after
  -- "26, a count over 4,294,967,295": of some leg
  count_over : Width w → (leg : ℕ) → leg < length counts → 4294967295 < get_or counts leg 0 → Refused lent a after 26 → Promises counts w lent a after
  -- "27, too few lent totals"
  too_few : Width w → CountsSmall counts → length lent < length counts + 1 - w → Refused lent a after 27 → Promises counts w lent a after
  -- everything else
  otherwise : Width w → CountsSmall counts → length counts + 1 - w ≤ length lent → Accepted counts w lent a after → Promises counts w lent a after

-- "The program moves the window by adding one count and taking one away.": of every width at once
abbrev pub Moves : List ℕ → Type 0
Moves counts = (w p : ℕ) → total w counts (p + 1) + get_or counts p 0 ≡ total w counts p + get_or counts (p + w) 0
