-- Words and their lines: what is written is read back, and nothing else is read.
use mathlib.Core.Path.{◌≡◌, refl, sym, ap, ap₂, ◌∙◌}
use mathlib.Core.Bool.{Bool, true, false, ◌&&◌}
use mathlib.Core.List.{List, [], ◌∷◌, ◌++◌, append_assoc}
use Prim.Native.Nat.{ℕ, zero, suc, ◌+◌, ◌*◌, ◌≤◌}
use native.Mathlib.Omega.{arith}
use borrow.Author.Tests.{eqb-true}
use lib.Dec.{eqb}
use lib.ListN.{length, take, drop, get_or, length-take, length-drop, take-append-drop}
use lib.Seq.{take_at, drop_at, get_or_at, get_or-drop, take-add, take-suc}
use Rattle.ast.proofs.Basics.{and_l, and_r}
use Rattle.text_lines.specs.declared.Field.{Field}
use Rattle.text_lines.specs.declared.Field.TheVariants.{Spaces, Number, Bad}
use Rattle.ast.specs.Choice.{choose}
use Rattle.text_lines.specs.Read.{column_read, is_number, field_number, are_numbers, numbers, good_line, good_lines, words_of}
use Rattle.text_lines.specs.Write.{column, fields, line, lines_of}
use Rattle.text_lines.proofs.WriteLaws.{field_length, fields_length, line_length}
use Rattle.text_lines.proofs.FieldLaws.{field_read, number_shown}

-- words: each at most 4294967295
abbrev pub Words : List ℕ → Type 0
Words w = (k : ℕ) → get_or w k 0 ≤ 4294967295

none_words : Words []
none_words k = omega arith

cons_words : (n : ℕ) (w : List ℕ) → n ≤ 4294967295 → Words w → Words (n ∷ w)
cons_words n w h i zero = h
cons_words n w h i (suc k) = i k

append_words : (v w : List ℕ) → Words v → Words w → Words (v ++ w)
append_words [] w h i = i
append_words (n ∷ v) w h i = cons_words n (v ++ w) (h 0) (append_words v w (λ k. h (suc k)) i)

pub drop_words : (n : ℕ) (w : List ℕ) → Words w → Words (drop n w)
drop_words n w h k = rw get_or-drop (h (n + k))

pub take_words : (n : ℕ) (w : List ℕ) → Words w → Words (take n w)
take_words zero w h = none_words
take_words (suc n) [] h = none_words
take_words (suc n) (x ∷ w) h = cons_words x (take n w) (h 0) (take_words n w (λ k. h (suc k)))

-- ---- what is written is read back

fields_read : (w t : List ℕ) → Words w → (are_numbers (length w) (fields w ++ t) ≡ true) × (numbers (length w) (fields w ++ t) ≡ w)
fields_read [] t h = (refl, refl)
fields_read (n ∷ w) t h =
    let ih = fields_read w t (λ k. h (suc k)) in
    rw (append_assoc (column n) (fields w) t, take_at (column n) (fields w ++ t) 11 (field_length n), drop_at (column n) (fields w ++ t) 11 (field_length n), field_read n (h 0))
    (ih.0, ap (λ (r : List ℕ). n ∷ r) ih.1)

pub line_read : (w t : List ℕ) → length w ≡ 8 → Words w → (good_line (line w ++ t) ≡ true) × (numbers 8 (line w ++ t) ≡ w)
unfolding good_line
line_read w t h i =
    let f = rw h at (fields_read w (10 ∷ t) i) in
    let n : length (fields w) ≡ 88 = fields_length w ∙ omega arith in
    rw (append_assoc (fields w) (10 ∷ []) t) (ap₂ (λ (x y : Bool). x && y) f.0 (ap (λ (b : ℕ). eqb b 10) (get_or_at (fields w) 10 t 0 88 n)), f.1)

empty : (w : List ℕ) → length w ≡ 0 → w ≡ []
empty [] h = refl
empty (n ∷ w) h = absurd (omega arith)

pub lines_read : (n : ℕ) (w : List ℕ) → length w ≡ 8 * n → Words w → (good_lines n (lines_of n w) ≡ n) × (words_of n (lines_of n w) ≡ w)
lines_read zero w h i = (refl, sym (empty w h))
lines_read (suc n) w h i =
    let a : length (take 8 w) ≡ 8 = length-take 8 w ∙ omega arith in
    let b : length (drop 8 w) ≡ 8 * n = length-drop 8 w ∙ omega arith in
    let r = line_read (take 8 w) (lines_of n (drop 8 w)) a (take_words 8 w i) in
    let d = drop_at (line (take 8 w)) (lines_of n (drop 8 w)) 89 (line_length (take 8 w) a) in
    let ih = lines_read n (drop 8 w) b (drop_words 8 w i) in
    (rw (r.0, d) (ap suc ih.0), ap₂ (λ (x y : List ℕ). x ++ y) r.1 (rw d ih.1) ∙ take-append-drop 8 w)

-- ---- and nothing else is read

number_is : (f : Field) → is_number f ≡ true → f ≡ Number (field_number f)
number_is Spaces h = let z : false ≡ true = h in cc
number_is (Number n) h = refl
number_is Bad h = let z : false ≡ true = h in cc

fields_shown : (m : ℕ) (l : List ℕ) → 11 * m ≤ length l → are_numbers m l ≡ true → Words (numbers m l) × (fields (numbers m l) ≡ take (11 * m) l)
fields_shown zero l h e = (none_words, refl)
fields_shown (suc m) l h e =
    let a = number_shown l (field_number (column_read (take 11 l))) (omega arith) (number_is (column_read (take 11 l)) (and_l _ (are_numbers m (drop 11 l)) e)) in
    let ih = fields_shown m (drop 11 l) (rw length-drop (omega arith)) (and_r (is_number (column_read (take 11 l))) _ e) in
    let s : 11 * suc m ≡ 11 + 11 * m = omega arith in
    (cons_words (field_number (column_read (take 11 l))) (numbers m (drop 11 l)) a.0 ih.0, ap₂ (λ (x y : List ℕ). x ++ y) a.1 ih.1 ∙ sym (ap (λ (k : ℕ). take k l) s ∙ take-add 11 (11 * m) l))

pub line_shown : (l : List ℕ) → 89 ≤ length l → good_line l ≡ true → Words (numbers 8 l) × (line (numbers 8 l) ≡ take 89 l)
unfolding good_line
line_shown l h e =
    let f = fields_shown 8 l (omega arith) (and_l _ (eqb (get_or l 88 0) 10) e) in
    let b = eqb-true (get_or l 88 0) 10 (and_r (are_numbers 8 l) _ e) in
    (f.0, sym (take-suc l 88 0 h ∙ rw (b, f.1)))

-- a first line that comes before the first bad one
first_good : (t : Bool) (m n : ℕ) → suc n ≤ choose t (suc m) 0 → (t ≡ true) × (n ≤ m)
first_good true m n h = (refl, omega arith)
first_good false m n h = absurd (omega arith)

pub lines_shown : (n : ℕ) (l : List ℕ) → 89 * n ≤ length l → n ≤ good_lines n l → Words (words_of n l) × (lines_of n (words_of n l) ≡ take (89 * n) l)
lines_shown zero l h e = (none_words, refl)
lines_shown (suc n) l h e =
    let g = first_good (good_line l) (good_lines n (drop 89 l)) n e in
    let a = line_shown l (omega arith) g.0 in
    let ih = lines_shown n (drop 89 l) (rw length-drop (omega arith)) g.1 in
    let s : 89 * suc n ≡ 89 + 89 * n = omega arith in
    (append_words (numbers 8 l) (words_of n (drop 89 l)) a.0 ih.0, ap₂ (λ (x y : List ℕ). x ++ y) a.1 ih.1 ∙ sym (ap (λ (k : ℕ). take k l) s ∙ take-add 89 (89 * n) l))
