-- A number and its field: what is written is read back, and nothing else is read.
use mathlib.Core.Path.{◌≡◌, refl, sym, ap, ◌∙◌}
use mathlib.Core.Bool.{Bool, true, false, ◌&&◌}
use mathlib.Core.List.{List, [], ◌∷◌, ◌++◌}
use Prim.Native.Nat.{ℕ, zero, suc, ◌+◌, ◌*◌, ◌-◌, ◌/◌, ◌%◌, ◌^◌, ◌≤◌, ◌<◌}
use native.Mathlib.Omega.{arith}
use native.Mathlib.Nat.{pow-zero, pow-suc}
use native.Mathlib.Decide.{ℕ_discrete}
use borrow.Author.Tests.{leb-true, le-leb, eq-eqb, ne_eqb}
use lib.Dec.{leb, eqb}
use lib.ListN.{length, take, get_or}
use lib.Seq.{take-suc}
use Rattle.ast.proofs.Basics.{and_l, and_r}
use Rattle.text_lines.specs.declared.Field.{Field}
use Rattle.text_lines.specs.declared.Field.TheVariants.{Spaces, Number, Bad}
use Rattle.ast.specs.Choice.{choose}
use Rattle.text_lines.specs.Read.{with_digit, next, reads, column_read}
use Rattle.text_decimal.specs.Decimal.{digit_left, before, justified}
use Rattle.text_lines.specs.Write.{column}
use Rattle.text_lines.proofs.ReadLaws.{reads_append}

-- ---- what is written is read back

digit_read : (m d n : ℕ) → d < 10 → 10 * m + d ≡ n → n ≤ 4294967295 → with_digit m (48 + d) ≡ Number n
unfolding with_digit
digit_read m d n h e k =
    let z : 48 + d - 48 ≡ d = omega arith in
    rw (z, e, le-leb 48 (48 + d) (omega arith), le-leb (48 + d) 57 (omega arith), le-leb n 4294967295 k)

-- what the bytes of what is left of a number come to
abbrev left : ℕ → Field
left n = choose (eqb n 0) Spaces (Number n)

last_read : (n : ℕ) → n ≤ 4294967295 → next (left (n / 10)) (48 + n % 10) ≡ Number n
unfolding next
last_read n h = go (ℕ_discrete (n / 10) 0)
  where
    go : Dec (n / 10 ≡ 0) → next (left (n / 10)) (48 + n % 10) ≡ Number n
    go (yes z) =
        rw (eq-eqb (n / 10) 0 z, ne_eqb (48 + n % 10) 32 (λ e. omega arith)) (digit_read 0 (n % 10) n (omega arith) (omega arith) h)
    go (no z) = rw (ne_eqb (n / 10) 0 z, ne_eqb (n / 10) 0 z) (digit_read (n / 10) (n % 10) n (omega arith) (omega arith) h)

left_read : (n : ℕ) → n ≤ 4294967295 → next (left (n / 10)) (digit_left n) ≡ left n
unfolding next digit_left
left_read n h = go (ℕ_discrete n 0)
  where
    go : Dec (n ≡ 0) → next (left (n / 10)) (digit_left n) ≡ left n
    go (yes z) = rw z
    go (no z) = rw (ne_eqb n 0 z) (last_read n h)

before_read : (k n : ℕ) → n ≤ 4294967295 → n < 10 ^ k → reads Spaces (before k n) ≡ left n
unfolding before
before_read zero n h p = let z : n ≡ 0 = omega (arith, pow-zero 10) in rw z
before_read (suc k) n h p =
    reads_append Spaces (before k (n / 10)) (digit_left n ∷ []) ∙
    rw (before_read k (n / 10) (omega arith) (omega (arith, pow-suc 10 k))) (left_read n h)

pub field_read : (n : ℕ) → n ≤ 4294967295 → column_read (column n) ≡ Number n
unfolding justified
field_read n h =
    reads_append Spaces (before 10 (n / 10)) ((48 + n % 10) ∷ []) ∙
    rw (before_read 10 (n / 10) (omega arith) (omega arith)) (last_read n h)

-- ---- and nothing else is read

-- the three cases of a field are apart
no_spaces : {n : ℕ} → Spaces ≡ Number n → ⊥
no_spaces {n} e = let x : ◌≡◌ {A = ℕ} 0 1 = cc in omega arith

no_bad : {n : ℕ} → Bad ≡ Number n → ⊥
no_bad {n} e = let x : ◌≡◌ {A = ℕ} 0 1 = cc in omega arith

not_both : Bad ≡ Spaces → ⊥
not_both e = let x : ◌≡◌ {A = ℕ} 0 1 = cc in omega arith

ruleset tests = (and_l, and_r, leb-true)

-- a byte b after the bytes a ends a number n
record Ends (k : ℕ) (a : List ℕ) (b n : ℕ) : Type 0 where
  pub small : n ≤ 4294967295
  pub bytes : a ++ (b ∷ []) ≡ before k (n / 10) ++ ((48 + n % 10) ∷ [])

chosen : (t : Bool) (m n : ℕ) → choose t (Number m) Bad ≡ Number n → (t ≡ true) × (m ≡ n)
chosen true m n h = (refl, cc)
chosen false m n h = absurd (no_bad h)

digit_ends : (k : ℕ) (a : List ℕ) (m b n : ℕ) → a ≡ before k m → with_digit m b ≡ Number n → Ends k a b n
unfolding with_digit
digit_ends k a m b n h e =
    let c = chosen (leb 48 b && leb b 57 && leb (10 * m + (b - 48)) 4294967295) (10 * m + (b - 48)) n e in
    let t = c.0 in
    let v = c.1 in
    let lo : 48 ≤ b = search tests in
    let hi : b ≤ 57 = search tests in
    let top : 10 * m + (b - 48) ≤ 4294967295 = search tests in
    let q : n / 10 ≡ m = omega arith in
    let r : 48 + n % 10 ≡ b = omega arith in
    record { small = omega arith; bytes = rw (q, r, h) }

-- what bytes are that come to a field
abbrev Shows : ℕ → List ℕ → Field → Type 0
Shows k a Spaces = a ≡ before k 0
Shows k a (Number n) = (n ≡ 0 → ⊥) → a ≡ before k n
Shows k a Bad = Unit {0}

ends : (k : ℕ) (a : List ℕ) (f : Field) (b n : ℕ) → Shows k a f → next f b ≡ Number n → Ends k a b n
unfolding next
ends k a Spaces b n h e = go (ℕ_discrete b 32)
  where
    go : Dec (b ≡ 32) → Ends k a b n
    go (yes z) = absurd (no_spaces (rw (eq-eqb b 32 z) at e))
    go (no z) = digit_ends k a 0 b n h (rw (ne_eqb b 32 z) at e)
ends k a (Number m) b n h e = go (ℕ_discrete m 0)
  where
    go : Dec (m ≡ 0) → Ends k a b n
    go (yes z) = absurd (no_bad (rw (eq-eqb m 0 z) at e))
    go (no z) = digit_ends k a m b n (h z) (rw (ne_eqb m 0 z) at e)
ends k a Bad b n h e = absurd (no_bad e)

digit_no_spaces : (m b : ℕ) → with_digit m b ≡ Spaces → ⊥
unfolding with_digit
digit_no_spaces m b e = go (leb 48 b && leb b 57 && leb (10 * m + (b - 48)) 4294967295) (10 * m + (b - 48)) e
  where
    go : (t : Bool) (v : ℕ) → choose t (Number v) Bad ≡ Spaces → ⊥
    go true v h = no_spaces (sym h)
    go false v h = not_both h

-- spaces alone end in a space
spaces : (f : Field) (b : ℕ) → next f b ≡ Spaces → (f ≡ Spaces) × (b ≡ 32)
unfolding next
spaces Spaces b e = go (ℕ_discrete b 32)
  where
    go : Dec (b ≡ 32) → (Spaces ≡ Spaces) × (b ≡ 32)
    go (yes z) = (refl, z)
    go (no z) = absurd (digit_no_spaces 0 b (rw (ne_eqb b 32 z) at e))
spaces (Number m) b e = go (ℕ_discrete m 0)
  where
    go : Dec (m ≡ 0) → (Number m ≡ Spaces) × (b ≡ 32)
    go (yes z) = absurd (not_both (rw (eq-eqb m 0 z) at e))
    go (no z) = absurd (digit_no_spaces m b (rw (ne_eqb m 0 z) at e))
spaces Bad b e = absurd (not_both e)

shows_next : (k : ℕ) (a : List ℕ) (f : Field) (b : ℕ) → Shows k a f → Shows (suc k) (a ++ (b ∷ [])) (next f b)
unfolding before digit_left
shows_next k a f b h = go (next f b) refl
  where
    go : (g : Field) → next f b ≡ g → Shows (suc k) (a ++ (b ∷ [])) g
    go Spaces e = let p = spaces f b e in let q : a ≡ before k 0 = rw p.0 at h in rw (q, p.1)
    go (Number n) e = λ z. (ends k a f b n h e).bytes ∙ rw (ne_eqb n 0 z)
    go Bad e = tt

shown : (l : List ℕ) (k : ℕ) → k ≤ length l → Shows k (take k l) (column_read (take k l))
unfolding before
shown l zero h = refl
shown l (suc k) h =
    rw (take-suc l k 0 h, reads_append Spaces (take k l) (get_or l k 0 ∷ [])) (shows_next k (take k l) (column_read (take k l)) (get_or l k 0) (shown l k (omega arith)))

pub number_shown : (l : List ℕ) (n : ℕ) → 11 ≤ length l → column_read (take 11 l) ≡ Number n → (n ≤ 4294967295) × (column n ≡ take 11 l)
unfolding justified
number_shown l n h e =
    let t = take-suc l 10 0 h in
    let f = reads_append Spaces (take 10 l) (get_or l 10 0 ∷ []) in
    let z = ends 10 (take 10 l) (column_read (take 10 l)) (get_or l 10 0) n (shown l 10 (omega arith)) (sym f ∙ ap column_read (sym t) ∙ e) in
    (z.small, sym (t ∙ z.bytes))
