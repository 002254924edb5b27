-- A row of the right shape is the row that what it says is written in.
use mathlib.Core.Path.{◌≡◌, refl, sym, ap, ◌∙◌}
use mathlib.Core.List.{List, [], ◌∷◌, map}
use mathlib.Core.Logic.{⊎_elim}
use mathlib.Core.Bool.{Bool, true, false, ◌&&◌}
use Prim.Native.Nat.{ℕ, zero, suc, ◌≤◌, suc-le-suc}
use native.Mathlib.Omega.{arith}
use native.Mathlib.Decide.{ℕ_discrete}
use lib.ListN.{length}
use lib.Dec.{leb, eqb}
use borrow.Author.Tests.{eq-eqb, ne_eqb, leb-true}
use Rattle.ast.proofs.Basics.{and_l, and_r}
use Rattle.sheet_rows.specs.declared.row.Row.{Row}
use Rattle.ast.specs.Ast.{FieldData}
use Rattle.sheet_shape.proofs.Numbers.{between}
use Rattle.ast.specs.Choice.{choose}
use Rattle.sheet_rows.specs.Rows.{none#}
use Rattle.sheet_shape.specs.Shape.{is_name, has_value, zero_from_c, zero_from_e, origin_fits, route_fits, node_fits, field_fits, interface_fits, statement_fits, order_fits, name_fits, url_fits, top_fits, association_fits, zero_from_b}
use Rattle.sheet_rows.specs.Parse.{optional, ids_of, field_of, interface_of, statement_of, route_of, body_element_of, origin_of, association_of, url_of}
use Rattle.sheet_rows.specs.Print.{row, class, amount, data_rows, top_row, or_none, id_row, field_rows, interface_rows, statement_row, route_row, body_element_row, node_row, association_row, mark, url_row}
use Rattle.sheet_roundtrip.proofs.Tests.{or_e, tests}

-- a number or none is written as it is read
num_opt : (n : ℕ) → or_none (optional n) ≡ n
num_opt n = go (ℕ_discrete n none#)
  where
    go : Dec (n ≡ none#) → or_none (optional n) ≡ n
    go (yes h) = rw (eq-eqb _ _ h) (sym h)
    go (no h) = rw (ne_eqb _ _ h)

-- ---- columns that are 0

-- a row whose columns e to g are 0 is the row of its first columns
pub zero_e : (k a b c d e f g : ℕ) → zero_from_e (row k a b c d e f g) ≡ true → row k a b c d 0 0 0 ≡ row k a b c d e f g
zero_e k a b c d e f g h =
    let he : e ≡ 0 = search tests in
    let hf : f ≡ 0 = search tests in
    let hg : g ≡ 0 = search tests in
    rw (he, hf, hg)

-- the same from c on
pub zero_c : (k a b c d e f g : ℕ) → zero_from_c (row k a b c d e f g) ≡ true → row k a b 0 0 0 0 0 ≡ row k a b c d e f g
zero_c k a b c d e f g h =
    let hc : c ≡ 0 = search tests in
    let hd : d ≡ 0 = search tests in
    rw (hc, hd) (zero_e k a b 0 0 e f g (and_r (eqb c 0 && eqb d 0) _ h))

-- the same from b on
pub zero_b : (k a b c d e f g : ℕ) → zero_from_b (row k a b c d e f g) ≡ true → row k a 0 0 0 0 0 0 ≡ row k a b c d e f g
zero_b k a b c d e f g h = let hb : b ≡ 0 = search tests in rw hb (zero_c k a 0 c d e f g (and_r (eqb b 0) _ h))

-- ---- rows of names

-- the row of a name, a base or an id alone is its print
pub name_back : (k a b c d e f g : ℕ) → name_fits (row k a b c d e f g) ≡ true → row k a 0 0 0 0 0 0 ≡ row k a b c d e f g
name_back k a b c d e f g h = zero_b k a b c d e f g (and_r (is_name a) _ h)

-- row 11 is its print
pub top_back : (a b c d e f g : ℕ) → top_fits (row 11 a b c d e f g) ≡ true → top_row ≡ row 11 a b c d e f g
top_back a b c d e f g h = let ha : a ≡ 0 = search tests in rw ha (zero_b 11 0 b c d e f g (and_r (eqb a 0) _ h))

-- a mark is read as it is written
used_back : (m : Bool) (c : ℕ) → c ≤ mark m → mark (eqb c 1) ≡ c
used_back m zero h = refl
used_back m (suc zero) h = refl
used_back true (suc (suc n)) h = absurd (omega arith)
used_back false (suc (suc n)) h = absurd (omega arith)

-- a url's row is the print of what it says
pub url_back : (m : Bool) (a b c d e f g : ℕ) (l : List Row) → url_fits m (row 10 a b c d e f g) ≡ true → url_row (url_of (row 10 a b c d e f g ∷ l)) ≡ row 10 a b c d e f g
unfolding url_of
url_back m a b c d e f g l h =
    let hc : c ≤ mark m = search tests in
    let hd : d ≡ 0 = search tests in
    rw (num_opt b, used_back m c hc, hd) (zero_e 10 a b c 0 e f g (and_r (is_name a && leb c (mark m) && eqb d 0) _ h))

-- so is an association's
pub assoc_back : (a b c d e f g : ℕ) (l : List Row) → association_fits (row 14 a b c d e f g) ≡ true → association_row (association_of (row 14 a b c d e f g ∷ l)) ≡ row 14 a b c d e f g
unfolding association_of
assoc_back a b c d e f g l h = let hd : d ≡ 0 = search tests in rw hd (zero_e 14 a b c 0 e f g (and_r (is_name a && is_name b && is_name c && eqb d 0) _ h))

-- ---- marks, statements

-- a mark of body order is the print of what it says
pub mark_back : (a b c d e f g : ℕ) (l : List Row) → order_fits (row 6 a b c d e f g) ≡ true → body_element_row (body_element_of (row 6 a b c d e f g ∷ l)) ≡ row 6 a b c d e f g
unfolding body_element_of
mark_back a b c d e f g l h =
    between (λ (n : ℕ). body_element_row (body_element_of (row 6 n b c d e f g ∷ l)) ≡ row 6 n 0 0 0 0 0 0) 3 0 a (refl, (refl, (refl, tt))) (omega arith) (suc-le-suc (leb-true a 2 (and_l (leb a 2) _ h))) ∙
    zero_b 6 a b c d e f g (and_r (leb a 2) _ h)

-- so is a route's row, where an instance owes it
pub route_back : (a b c d e f g : ℕ) (l : List Row) → a ≡ 3 → route_row (route_of (row 5 a b c d e f g ∷ l)) ≡ row 5 a b c d e f g
unfolding route_of
route_back a b c d e f g l h = rw (h, num_opt f, num_opt g)

-- and a statement's, of any of its five sorts
pub stmt_back : (a b c d e f g : ℕ) (l : List Row) → statement_fits (row 5 a b c d e f g) ≡ true → statement_row (statement_of (row 5 a b c d e f g ∷ l)) ≡ row 5 a b c d e f g
unfolding statement_of route_of
stmt_back a b c d e f g l h = ⊎_elim (λ u. ⊎_elim id_stmt route_stmt (or_e _ _ u)) other_stmt (or_e _ (eqb a 4 && zero_from_c (row 5 a b c d e f g)) h)
  where
    id_stmt : (leb a 2 && is_name b && zero_from_c (row 5 a b c d e f g)) ≡ true → statement_row (statement_of (row 5 a b c d e f g ∷ l)) ≡ row 5 a b c d e f g
    id_stmt u =
        between (λ (n : ℕ). statement_row (statement_of (row 5 n b c d e f g ∷ l)) ≡ row 5 n b 0 0 0 0 0) 3 0 a (refl, (refl, (refl, tt))) (omega arith) (suc-le-suc (search tests)) ∙
        zero_c 5 a b c d e f g (and_r (leb a 2 && is_name b) _ u)

    route_stmt : route_fits (row 5 a b c d e f g) ≡ true → statement_row (statement_of (row 5 a b c d e f g ∷ l)) ≡ row 5 a b c d e f g
    route_stmt u = let ha : a ≡ 3 = search tests in rw (ha, num_opt f, num_opt g)

    other_stmt : (eqb a 4 && zero_from_c (row 5 a b c d e f g)) ≡ true → statement_row (statement_of (row 5 a b c d e f g ∷ l)) ≡ row 5 a b c d e f g
    other_stmt u =
        let ha : a ≡ 4 = search tests in
        (let z : statement_row (statement_of (row 5 a b c d e f g ∷ l)) ≡ row 5 a b 0 0 0 0 0 = rw ha in z) ∙ zero_c 5 a b c d e f g (and_r (eqb a 4) _ u)

-- ---- nodes

-- a node's row is the print of what it says, by its origin
pub node_back : (a b c d e f g : ℕ) (l : List Row) → node_fits (row 2 a b c d e f g) ≡ true → node_row a (optional b) (origin_of (row 2 a b c d e f g ∷ l)) ≡ row 2 a b c d e f g
unfolding origin_of
node_back a b c d e f g l h =
    between P 4 0 c (at0, (at1, (at2, (at3, tt)))) (omega arith) (suc-le-suc (search tests)) (and_r (is_name a) _ (and_l _ (zero_from_e (row 2 a b c d e f g)) h)) ∙
    zero_e 2 a b c d e f g (and_r (is_name a && origin_fits (row 2 a b c d e f g)) _ h)
  where
    P : ℕ → Type 0
    P n = origin_fits (row 2 a b n d e f g) ≡ true → node_row a (optional b) (origin_of (row 2 a b n d e f g ∷ l)) ≡ row 2 a b n d 0 0 0

    at0 : P 0
    at0 u = let hd : d ≡ 0 = search tests in rw (hd, num_opt b)

    at1 : P 1
    at1 u = rw (num_opt b)

    at2 : P 2
    at2 u = rw (num_opt b)

    at3 : P 3
    at3 u = let hd : d ≡ 0 = search tests in rw (hd, num_opt b)

-- ---- values: what follows is as many ids as the row owes

-- the ids that a row owes by its class and its count
abbrev pub owes : ℕ → ℕ → ℕ
owes f g = choose (eqb f 2) g 0

-- a list of length 0 is empty
pub empty : {A : Type 0} (l : List A) → length l ≡ 0 → l ≡ []
empty [] h = refl
empty (x ∷ l) h = absurd (omega arith)

-- the id rows in front
abbrev pub id_rows : List Row → List Row
id_rows l = map id_row (ids_of l)

-- the value of a row of class 1 or 2, with its ids
module _ (e f g : ℕ) (l : List Row) (owed : length (ids_of l) ≡ owes f g) where
  -- a row with the columns e, f and g of its value
  abbrev pub value_is : (ℕ → ℕ → ℕ → Row) → Type 0
  value_is r = (r e (class (choose (eqb f 2) (FieldData.Nodes (ids_of l)) (FieldData.Payload g))) (amount (choose (eqb f 2) (FieldData.Nodes (ids_of l)) (FieldData.Payload g))) ∷ data_rows (choose (eqb f 2) (FieldData.Nodes (ids_of l)) (FieldData.Payload g))) ≡ r e f g ∷ id_rows l

  -- the row of a value with its ids is the print of that value
  pub value_back : (r : ℕ → ℕ → ℕ → Row) → 1 ≤ f → f ≤ 2 → value_is r
  value_back r h i = go (ℕ_discrete f 2)
    where
      go : Dec (f ≡ 2) → value_is r
      go (yes j) = let n : length (ids_of l) ≡ g = owed ∙ rw (eq-eqb f 2 j) in rw (eq-eqb f 2 j, n) (ap (λ (m : ℕ). r e m g ∷ id_rows l) (sym j))
      go (no j) = let n : f ≡ 1 = omega arith in let z : length (ids_of l) ≡ 0 = owed ∙ rw (ne_eqb f 2 j) in rw (ne_eqb f 2 j, empty (ids_of l) z) (ap (λ (m : ℕ). r e m g ∷ []) (sym n))

-- a field's row with its ids is the print of the field
pub field_back : (a b c d e f g : ℕ) (l : List Row) → length (ids_of l) ≡ owes f g → field_fits (row 3 a b c d e f g) ≡ true → field_rows (field_of (row 3 a b c d e f g ∷ l)) ≡ row 3 a b c d e f g ∷ id_rows l
unfolding field_of
field_back a b c d e f g l o h = ⊎_elim by_value by_is (or_e _ _ (and_r (is_name a && leb d 1) _ h))
  where
    by_value : (eqb b 0 && eqb c 0 && has_value (row 3 a b c d e f g)) ≡ true → field_rows (field_of (row 3 a b c d e f g ∷ l)) ≡ row 3 a b c d e f g ∷ id_rows l
    by_value u =
        let hb : b ≡ 0 = search tests in
        let hc : c ≡ 0 = search tests in
        rw (hb, hc) (value_back e f g l o (λ x y z. row 3 a 0 0 d x y z) (search tests) (search tests))

    by_is : (eqb b 1 && is_name c && zero_from_e (row 3 a b c d e f g)) ≡ true → field_rows (field_of (row 3 a b c d e f g ∷ l)) ≡ row 3 a b c d e f g ∷ id_rows l
    by_is u =
        let hb : b ≡ 1 = search tests in
        let he : e ≡ 0 = search tests in
        let hf : f ≡ 0 = search tests in
        let hg : g ≡ 0 = search tests in
        let z : length (ids_of l) ≡ 0 = o ∙ rw hf in
        rw (hb, he, hf, hg, empty (ids_of l) z)

-- an interface's row with its ids is the print of the interface
pub iface_back : (a b c d e f g : ℕ) (l : List Row) → length (ids_of l) ≡ owes f g → interface_fits (row 4 a b c d e f g) ≡ true → interface_rows (interface_of (row 4 a b c d e f g ∷ l)) ≡ row 4 a b c d e f g ∷ id_rows l
unfolding interface_of
iface_back a b c d e f g l o h = ⊎_elim by_value by_none (or_e _ _ (and_r (leb a 3 && leb b 41 && is_name c) _ h))
  where
    by_value : has_value (row 4 a b c d e f g) ≡ true → interface_rows (interface_of (row 4 a b c d e f g ∷ l)) ≡ row 4 a b c d e f g ∷ id_rows l
    by_value u =
        let hf : 1 ≤ f = search tests in
        let n : f ≡ 0 → ⊥ = λ i. omega arith in
        rw (ne_eqb f 0 n, num_opt d) (value_back e f g l o (λ x y z. row 4 a b c d x y z) hf (search tests))

    by_none : zero_from_e (row 4 a b c d e f g) ≡ true → interface_rows (interface_of (row 4 a b c d e f g ∷ l)) ≡ row 4 a b c d e f g ∷ id_rows l
    by_none u =
        let he : e ≡ 0 = search tests in
        let hf : f ≡ 0 = search tests in
        let hg : g ≡ 0 = search tests in
        let z : length (ids_of l) ≡ 0 = o ∙ rw hf in
        rw (he, hf, hg, num_opt d, empty (ids_of l) z)
