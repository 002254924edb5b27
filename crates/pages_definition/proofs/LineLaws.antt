-- The lines of the pages, found again in the bytes.
use mathlib.Core.Path.{◌≡◌, refl, sym, ap, ◌∙◌}
use mathlib.Core.List.{List, [], ◌∷◌, ◌++◌, append_assoc}
use mathlib.Core.Option.{Option, none, some}
use Prim.Native.Nat.{ℕ, zero, suc, ◌+◌, ◌*◌, ◌-◌, ◌/◌, ◌%◌, ◌≤◌, ◌<◌}
use native.Mathlib.Omega.{arith}
use native.Mathlib.Decide.{ℕ_discrete}
use lib.ListN.{length, take, drop, get_or, get_elem?, length-append, get_or-append}
use lib.Seq.{take_at, drop_at, drop-drop, get_or-take}
use Rattle.ast.specs.Ast.{Node}
use Rattle.text_decimal.specs.Decimal.{justified}
use Rattle.text_decimal.proofs.DecimalLaws.{justified_length, justified_tells, justified_last, justified_blank, wider}
use Rattle.words_lent.specs.Words.{over}
use Rattle.pages_definition.specs.Pages.{each, line_end, heading, node_line, blank_line, line_for, page, page_count, text}
use Rattle.pages_definition.specs.Promises.{line_at, line_of_node, Line, first, node, blank, PagesFor}
use Rattle.pages_definition.proofs.TextLaws.{split}
use Rattle.pages_definition.proofs.PageLaws.{heading_length, line_length, lines_of, some_length, all_length}

-- ---- a place in a list

pub at_none : {A : Type 0} (l : List A) (i : ℕ) → get_elem? l i ≡ none → length l ≤ i
at_none [] i e = omega arith
at_none (a ∷ l) zero e = let z : ◌≡◌ {A = ℕ} 0 1 = cc in absurd (omega arith)
at_none (a ∷ l) (suc i) e = let h = at_none l i e in omega arith

pub at_some : {A : Type 0} (l : List A) (i : ℕ) {x : A} → get_elem? l i ≡ some x → i < length l
at_some [] i e = let z : ◌≡◌ {A = ℕ} 0 1 = cc in absurd (omega arith)
at_some (a ∷ l) zero e = omega arith
at_some (a ∷ l) (suc i) e = let h = at_some l i e in omega arith

-- ---- how many pages

pub pages_for : (nodes : List Node) (n : ℕ) → length nodes ≡ n → PagesFor nodes ((n + 58) / 59)
pages_for nodes n e = record { enough = omega arith; last = λ p h. omega arith }

module _ (nodes : List Node) (ledger lent : List ℕ) where
  abbrev pages : ℕ
  pages = page_count nodes ledger

  abbrev pub after : List ℕ
  after = over (text nodes ledger) lent

  pub text_length : length (text nodes ledger) ≡ 4380 * pages
  unfolding text
  text_length = all_length nodes ledger pages

  -- ---- a page and what follows it

  record Found (p : ℕ) : Type 0 where
    pub rest : List ℕ
    pub is : drop (4380 * p) after ≡ page nodes ledger p ++ rest

  found : (p : ℕ) → p < pages → Found p
  unfolding text
  found p h =
      let s = split pages p (page nodes ledger) h in
      let tail = drop (length (text nodes ledger)) lent in
      let front = each p (page nodes ledger) in
      let e : after ≡ front ++ (page nodes ledger p ++ (s.after ++ tail)) = ap (λ (l : List ℕ). l ++ tail) s.is ∙ simp append_assoc in
      record { rest = s.after ++ tail; is = ap (λ (l : List ℕ). drop (4380 * p) l) e ∙ drop_at front (page nodes ledger p ++ (s.after ++ tail)) (4380 * p) (all_length nodes ledger p) }

  pub heading_found : (p : ℕ) → p < pages → line_at after (60 * p) ≡ heading p
  unfolding page
  heading_found p h =
      let f = found p h in
      let z : 73 * (60 * p) ≡ 4380 * p = omega arith in
      let e : page nodes ledger p ++ f.rest ≡ heading p ++ (lines_of nodes ledger p 59 ++ f.rest) = append_assoc (heading p) (lines_of nodes ledger p 59) f.rest in
      ap (λ (n : ℕ). take 73 (drop n after)) z ∙
      ap (λ (l : List ℕ). take 73 l) (f.is ∙ e) ∙
      take_at (heading p) (lines_of nodes ledger p 59 ++ f.rest) 73 (heading_length p)

  pub line_found : (p k : ℕ) → p < pages → k < 59 → line_at after (60 * p + 1 + k) ≡ line_for nodes ledger (59 * p + k)
  unfolding page
  line_found p k h g =
      let f = found p h in
      let line : ℕ → List ℕ = λ j. line_for nodes ledger (59 * p + j) in
      let s = split 59 k line g in
      let front = heading p ++ each k line in
      let z : 73 * (60 * p + 1 + k) ≡ 4380 * p + 73 * (1 + k) = omega arith in
      let n : length front ≡ 73 * (1 + k) = omega (arith, length-append (heading p) (each k line), heading_length p, some_length nodes ledger p k) in
      let e : page nodes ledger p ++ f.rest ≡ front ++ (line k ++ (s.after ++ f.rest)) = ap (λ (l : List ℕ). (heading p ++ l) ++ f.rest) s.is ∙ simp append_assoc in
      ap (λ (m : ℕ). take 73 (drop m after)) z ∙
      ap (λ (l : List ℕ). take 73 l) (sym (drop-drop (73 * (1 + k)) (4380 * p) after) ∙ ap (λ (l : List ℕ). drop (73 * (1 + k)) l) (f.is ∙ e) ∙ drop_at front (line k ++ (s.after ++ f.rest)) (73 * (1 + k)) n) ∙
      take_at (line k) (s.after ++ f.rest) 73 (line_length nodes ledger (59 * p + k))

  -- ---- every line, and every node

  place_of : (p k : ℕ) → k < 59 → line_of_node (59 * p + k) ≡ 60 * p + 1 + k
  place_of p k h = omega arith

  pub line_is : (l : ℕ) → l < 60 * pages → Line nodes ledger after l
  unfolding line_for
  line_is l h = go (ℕ_discrete (l % 60) 0)
    where
      p : ℕ
      p = l / 60

      at_node_lem : (k : ℕ) → l ≡ 60 * p + 1 + k → k < 59 → p < pages → Line nodes ledger after l
      at_node_lem k e g b = by (get_elem? nodes (59 * p + k)) refl
        where
          placed : l ≡ line_of_node (59 * p + k)
          placed = e ∙ sym (place_of p k g)

          shown : line_at after l ≡ line_for nodes ledger (59 * p + k)
          shown = ap (λ (n : ℕ). line_at after n) e ∙ line_found p k b g

          by : (x : Option Node) → get_elem? nodes (59 * p + k) ≡ x → Line nodes ledger after l
          by none w = blank (59 * p + k) (at_none nodes (59 * p + k) w) placed (shown ∙ rw w)
          by (some x) w = node (59 * p + k) x w placed (shown ∙ rw w)

      go : Dec (l % 60 ≡ 0) → Line nodes ledger after l
      go (yes e) = let z : l ≡ 60 * p = omega arith in first p z (ap (λ (n : ℕ). line_at after n) z ∙ heading_found p (omega arith))
      go (no e) = at_node_lem (l % 60 - 1) (omega arith) (omega arith) (omega arith)

  pub node_found : (i : ℕ) (x : Node) → get_elem? nodes i ≡ some x → line_at after (line_of_node i) ≡ node_line i (drop (3 * i) ledger) x
  unfolding line_for
  node_found i x e =
      let b = at_some nodes i e in
      let z : 59 * (i / 59) + i % 59 ≡ i = omega arith in
      line_found (i / 59) (i % 59) (omega arith) (omega arith) ∙ ap (line_for nodes ledger) z ∙ rw e

  -- ---- no other line begins with a node's id

  -- a byte of the first twelve
  twelfth : (a b : List ℕ) (c d : ℕ) → take 12 a ≡ b → get_or a 11 0 ≡ c → get_or b 11 0 ≡ d → c ≡ d
  twelfth a b c d e p q = sym p ∙ sym (get_or-take 12 a 11 0 (omega arith)) ∙ ap (λ (l : List ℕ). get_or l 11 0) e ∙ q

  heading_blank : (p : ℕ) → p < 4294967296 → get_or (heading p) 11 0 ≡ 32
  unfolding heading
  heading_blank p h = get_or-append (justified 72 (p + 1)) line_end 0 11 (omega (arith, justified_length 72 (p + 1))) ∙ justified_blank 71 (p + 1) 11 59 refl (wider 49 10 ((p + 1) / 10) 59 refl (omega arith))

  blank_blank : get_or blank_line 11 0 ≡ 32
  unfolding blank_line
  blank_blank = refl

  id_first : (i : ℕ) (entry : List ℕ) (x : Node) → take 12 (node_line i entry x) ≡ justified 12 i
  unfolding node_line
  id_first i entry x = take_at (justified 12 i) _ 12 (justified_length 12 i)

  pub line_once : length nodes ≤ 4294967295 → (l i : ℕ) → l < 60 * pages → i < length nodes → take 12 (line_at after l) ≡ justified 12 i → l ≡ line_of_node i
  line_once few l i h b e = by (line_is l h)
    where
      no_digit : (a : List ℕ) → line_at after l ≡ a → get_or a 11 0 ≡ 32 → ⊥
      no_digit a s z = let w : 32 ≡ 48 + i % 10 = twelfth a (justified 12 i) 32 (48 + i % 10) (ap (λ (x : List ℕ). take 12 x) (sym s) ∙ e) z (justified_last 11 i) in omega arith

      by : Line nodes ledger after l → l ≡ line_of_node i
      by (first p z s) = absurd (no_digit (heading p) s (heading_blank p (omega arith)))
      by (blank j g z s) = absurd (no_digit blank_line s blank_blank)
      by (node j x w z s) =
          let q = at_some nodes j w in
          let t : justified 12 j ≡ justified 12 i = sym (id_first j (drop (3 * j) ledger) x) ∙ ap (λ (y : List ℕ). take 12 y) (sym s) ∙ e in
          let y : j ≡ i = justified_tells 12 j i (omega arith) (omega arith) (omega arith) t in
          z ∙ ap line_of_node y
