-- Rows that fit are cut into what they were printed from: laws for one row, for rows that are owed, and for each of a list.
use mathlib.Core.Path.{◌≡◌, refl, sym, ap, subst, ◌∙◌}
use mathlib.Core.List.{List, [], ◌∷◌, ◌++◌, map, append_assoc}
use mathlib.Core.Logic.{◌⊎◌, inl, ⊎_elim}
use mathlib.Core.Bool.{Bool, true, false}
use Prim.Native.Nat.{ℕ, zero, suc, ◌≤◌, ◌<◌}
use native.Mathlib.Omega.{arith}
use native.Mathlib.Decide.{ℕ_discrete, dec_lt}
use lib.ListN.{length}
use Rattle.sheet_rows.specs.declared.row.Row.{Row}
use Rattle.sheet_check.specs.declared.grammar.Form.{Form}
use Rattle.sheet_check.specs.declared.grammar.State.{State}
use Rattle.sheet_check.specs.declared.grammar.Role.{Role}
use Rattle.sheet_check.specs.declared.grammar.Role.TheVariants.{Starts, Opens, Inner, Files, Owed, Never}
use Rattle.std.specs.Prelude.{Some, None}
use Rattle.ast.specs.Choice.{choose}
use Rattle.sheet_shape.specs.Shape.{shape_fits}
use Rattle.sheet_check.specs.Grammar.{takes_marks, role_of, stands_in, comes_in, after_inner, by_role, moves, allowed, go_if, fits, has_ended}
use Rattle.ast.specs.Lists.{flat}
use Rattle.sheet_rows.specs.Print.{row}
use Rattle.sheet_shape.proofs.Numbers.{between}
use Rattle.sheet_shape.proofs.ShapeLaws.{shape_none}
use Rattle.ast.specs.Each.{Each}
use Rattle.sheet_roundtrip.proofs.Tests.{never, among, by_member, tests}
use Rattle.sheet_roundtrip.proofs.Accepts.{bare, no_go, go_inj, go_l, go_r, Accepts}

-- ---- one row

-- a row by its kind
pub as_kind : (r : Row) (k : ℕ) → r.kind ≡ k → r ≡ row k r.a r.b r.c r.d r.e r.f r.g
as_kind r k h i = record { kind = h i; a = r.a; b = r.b; c = r.c; d = r.d; e = r.e; f = r.f; g = r.g }

-- a step that is made
pub made : (b : Bool) (u t : State) → go_if b u ≡ Some t → (b ≡ true) × (u ≡ t)
made true u t h = (refl, go_inj h)
made false u t h = no_go h

-- a row that fits has its shape, and moves on
pub moved : (form : Form) (s : State) (r : Row) (l : List Row) → Accepts form s (r ∷ l) → (shape_fits (takes_marks form) r ≡ true) × ((t : State) × (moves form s r ≡ Some t) × Accepts form t l)
unfolding fits
moved form s r l k =
    let x = go_r (allowed form s r) (choose (shape_fits (takes_marks form) r) (moves form s r) None) k.0 k.1 in
    (go_l (shape_fits (takes_marks form) r) (moves form s r) k.0 x, (k.0, go_r (shape_fits (takes_marks form) r) (moves form s r) k.0 x, k.2))

-- with nothing owed it moves by its role
pub by_role_lem : (form : Form) (p la : ℕ) (r : Row) (l : List Row) (role : Role) → role_of r.kind ≡ role → Accepts form (bare p la) (r ∷ l) → (shape_fits (takes_marks form) r ≡ true) × ((t : State) × (by_role form (bare p la) r role ≡ Some t) × Accepts form t l)
unfolding moves
by_role_lem form p la r l role h k = let x = moved form (bare p la) r l k in (x.0, (x.1.0, ap (by_role form (bare p la) r) (sym h) ∙ x.1.1, x.1.2))

-- where a step is made by a test, the test holds, and the rest fits after it
pub tested : (form : Form) (b : Bool) (u : State) (l : List Row) → (t : State) × (go_if b u ≡ Some t) × Accepts form t l → (b ≡ true) × Accepts form u l
tested form b u l w = let x = made b u w.0 w.1 in (x.0, subst (λ (t : State). Accepts form t l) (sym x.1) w.2)

-- ---- rows that are owed

-- a row of a kind that lessens a count
abbrev pub Lessens : {A : Type 0} → Form → (ℕ → State) → (A → Row) → (A → Type 0) → Type 0
Lessens form S print G = (n : ℕ) (r : Row) (l : List Row) → Accepts form (S (suc n)) (r ∷ l) → (x : _) × (r ≡ print x) × G x × Accepts form (S n) l

-- as many rows as a count says
pub cut_owed : {A : Type 0} (form : Form) (S : ℕ → State) (print : A → Row) (G : A → Type 0) → ((n : ℕ) → has_ended form (S (suc n)) ≡ true → ⊥) → Lessens form S print G → (n : ℕ) (R : List Row) → Accepts form (S n) R → (xs : List A) × (l : List Row) × (R ≡ map print xs ++ l) × (length xs ≡ n) × Each G xs × Accepts form (S 0) l
cut_owed form S print G e f zero R k = ([], R, refl, refl, tt, k)
cut_owed form S print G e f (suc n) [] k = absurd (e n k)
cut_owed form S print G e f (suc n) (r ∷ l) k =
    let w = f n r l k in
    let y = cut_owed form S print G e f n l w.3 in
    (w.0 ∷ y.0, y.1, ap (λ (q : Row). q ∷ l) w.1 ∙ ap (◌∷◌ (print w.0)) y.2, ap suc y.3, (w.2, y.4), y.5)

-- ---- the elements of a list

-- P of the first row's kind, if there is a row
abbrev pub Begins : (ℕ → Type 0) → List Row → Type 0
Begins P [] = Unit {0}
Begins P (r ∷ l) = P r.kind

-- an element in front of rows, by what holds of a state and the rows that are left
pub record Cut {A : Type 0} (form : Form) (print : A → List Row) (G : A → Type 0) (I : ℕ → ℕ → List Row → Type 0) (R : List Row) : Type 0 where
  pub item : A
  pub left : List Row
  pub part : ℕ
  pub last : ℕ
  pub is : R ≡ print item ++ left
  pub less : length left < length R
  pub given : G item
  pub holds : I part last left
  pub goes : Accepts form (bare part last) left

-- a list of them, up to a row of another kind
pub record Cuts {A : Type 0} (form : Form) (k : ℕ) (print : A → List Row) (G : A → Type 0) (I : ℕ → ℕ → List Row → Type 0) (R : List Row) : Type 0 where
  pub items : List A
  pub left : List Row
  pub part : ℕ
  pub last : ℕ
  pub is : R ≡ flat print items ++ left
  pub given : Each G items
  pub holds : I part last left
  pub goes : Accepts form (bare part last) left
  pub ahead : Begins (λ j. j ≡ k → ⊥) left

module _ {A : Type 0} (form : Form) (k : ℕ) (print : A → List Row) (G : A → Type 0) (I : ℕ → ℕ → List Row → Type 0)
    (one : (p la a b c d e f g : ℕ) (l : List Row) → I p la (row k a b c d e f g ∷ l) → Accepts form (bare p la) (row k a b c d e f g ∷ l) → Cut form print G I (row k a b c d e f g ∷ l)) where
  -- no element is in front
  none_cut : (R : List Row) (p la : ℕ) → I p la R → Accepts form (bare p la) R → Begins (λ j. j ≡ k → ⊥) R → Cuts form k print G I R
  none_cut R p la w t m = record { items = []; left = R; part = p; last = la; is = refl; given = tt; holds = w; goes = t; ahead = m }

  -- by the number of rows
  cuts_in : (n : ℕ) (R : List Row) → length R ≤ n → (p la : ℕ) → I p la R → Accepts form (bare p la) R → Cuts form k print G I R
  cuts_in zero [] h p la w t = none_cut [] p la w t tt
  cuts_in (suc n) [] h p la w t = none_cut [] p la w t tt
  cuts_in zero (r ∷ l) h p la w t = absurd (omega arith)
  cuts_in (suc n) (r ∷ l) h p la w t = go (λ R i q lb v u. cuts_in n R i q lb v u) (ℕ_discrete r.kind k)
    where
      go : ((R : List Row) → length R ≤ n → (q lb : ℕ) → I q lb R → Accepts form (bare q lb) R → Cuts form k print G I R) → Dec (r.kind ≡ k) → Cuts form k print G I (r ∷ l)
      go ih (no m) = none_cut (r ∷ l) p la w t m
      go ih (yes m) =
          let e = as_kind r k m in
          let c = subst (λ (q : Row). I p la (q ∷ l) → Accepts form (bare p la) (q ∷ l) → Cut form print G I (q ∷ l)) (sym e) (one p la r.a r.b r.c r.d r.e r.f r.g l) w t in
          let y = ih c.left (let z = c.less in omega arith) c.part c.last c.holds c.goes in
          record {
            items = c.item ∷ y.items;
            left = y.left;
            part = y.part;
            last = y.last;
            is = c.is ∙ ap (◌++◌ (print c.item)) y.is ∙ sym (append_assoc (print c.item) (flat print y.items) y.left);
            given = (c.given, y.given);
            holds = y.holds;
            goes = y.goes;
            ahead = y.ahead;
          }

  -- as many as there are
  pub cuts : (R : List Row) (p la : ℕ) → I p la R → Accepts form (bare p la) R → Cuts form k print G I R
  cuts R = cuts_in (length R) R (omega arith)

-- ---- what cannot come any more

-- past kind j: what counts is beyond it, or no such row comes next
abbrev pub Past : ℕ → List Row → ℕ → Type 0
Past n R j = (j < n) ⊎ Begins (λ i. i ≡ j → ⊥) R

-- below a number all is past
pub beyond : (n : ℕ) (R : List Row) (J : List ℕ) → Each (λ j. j < n) J → Each (Past n R) J
beyond n R [] h = tt
beyond n R (j ∷ J) h = (inl h.0, beyond n R J h.1)

-- in part q, where rows of kind k come next and those of the kinds J no more
abbrev pub Inside : ℕ → ℕ → List ℕ → ℕ → ℕ → List Row → Type 0
Inside q k J p la R = (p ≡ q) × (la ≤ k) × Each (Past la R) J

-- the next row is not inside a part
abbrev pub Outer : List Row → Type 0
Outer R = Begins (λ i. role_of i ≡ Inner → ⊥) R

-- before a part of kind k, with no row inside the last one to come, and parts of the kinds J no more
abbrev pub Outside : ℕ → List ℕ → ℕ → ℕ → List Row → Type 0
Outside k J p la R = (1 ≤ p) × (p ≤ k) × Outer R × Each (Past p R) J

-- ---- kinds by role

-- the kinds of each role
abbrev kinds_of : Role → List ℕ
kinds_of Starts = 1 ∷ []
kinds_of Opens = 2 ∷ 7 ∷ 8 ∷ 11 ∷ []
kinds_of Inner = 3 ∷ 4 ∷ 5 ∷ 6 ∷ 10 ∷ 13 ∷ []
kinds_of Files = 12 ∷ []
kinds_of Owed = 9 ∷ 14 ∷ []
kinds_of Never = 0 ∷ []

-- what holds of each kind of a role holds of a row of that role
pub kind_by_role : (m : Bool) (r : Row) → shape_fits m r ≡ true → (role : Role) → role_of r.kind ≡ role → (P : ℕ → Type 0) → Each P (kinds_of role) → P r.kind
unfolding role_of
kind_by_role m r s role h P p =
    by_member P (kinds_of role) p r.kind (rw h at (between (λ (k : ℕ). among k (kinds_of (role_of k)) ≡ true) 15 0 r.kind (refl, (refl, (refl, (refl, (refl, (refl, (refl, (refl, (refl, (refl, (refl, (refl, (refl, (refl, (refl, tt))))))))))))))) (omega arith) (small (dec_lt r.kind 15))))
  where
    small : Dec (r.kind < 15) → r.kind < 15
    small (yes z) = z
    small (no z) = never (shape_none m r (omega arith) ∙ s)

-- no row of kind j stands in part q
abbrev pub NotIn : ℕ → ℕ → Type 0
NotIn q j = (r : Row) → r.kind ≡ j → stands_in q r ≡ false

-- no row of kind j can come next in part q: there was an instance, or it is past, or it does not stand there
abbrev pub Closed : ℕ → ℕ → List Row → ℕ → Type 0
Closed q la R j = (13 ≤ la) ⊎ (Past la R j ⊎ NotIn q j)

-- where no row inside the part can come next, none does
pub outer : (form : Form) (q la : ℕ) (R : List Row) → Each (Closed q la R) (kinds_of Inner) → Accepts form (bare q la) R → Outer R
outer form q la [] c t = tt
outer form q la (r ∷ l) c t = go
  where
    barred : stands_in q r ≡ true → la ≤ r.kind → la < 13 → (j : ℕ) → Closed q la (r ∷ l) j → r.kind ≡ j → ⊥
    barred s h i j x e = ⊎_elim (λ (y : 13 ≤ la). omega arith) (λ y. ⊎_elim (λ z. ⊎_elim (λ (v : j < la). omega arith) (λ v. v e) z) (λ z. never (sym (z r e) ∙ s)) y) x

    each_as : (P Q : ℕ → Type 0) → ((k : ℕ) → P k → Q k) → (K : List ℕ) → Each P K → Each Q K
    each_as P Q f [] p = tt
    each_as P Q f (k ∷ K) p = (f k p.0, each_as P Q f K p.1)

    go : role_of r.kind ≡ Inner → ⊥
    go h =
        let x = by_role_lem form q la r l Inner h t in
        let y : comes_in (bare q la) r ≡ true = (tested form (comes_in (bare q la) r) (after_inner (bare q la) r) l x.1).0 in
        kind_by_role (takes_marks form) r x.0 Inner h (λ j. r.kind ≡ j → ⊥) (each_as (Closed q la (r ∷ l)) (λ j. r.kind ≡ j → ⊥) (barred (search tests) (search tests) (search tests)) (kinds_of Inner) c) refl
