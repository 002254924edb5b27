-- The rows of a prototype, taken out of its sheet, say that prototype.
use mathlib.Core.Path.{◌≡◌, refl, sym, ap, ap₂, subst, ◌∙◌}
use mathlib.Core.List.{List, [], ◌∷◌, ◌++◌, map}
use mathlib.Core.Option.{Option, none, some}
use mathlib.Core.Bool.{Bool, true, false, ◌&&◌, ◌||◌}
use Prim.Native.Nat.{ℕ, zero, suc, ◌+◌, ◌-◌, ◌*◌, ◌≤◌, ◌<◌, ◌/◌}
use native.Mathlib.Omega.{arith}
use lib.ListN.{length, take, drop, get_or, length-take, length-drop, take-append-drop}
use lib.Dec.{leb, eqb}
use lib.Seq.{get_or-take, get_or-drop, drop-cons, drop-drop, drop-append-le, length-take-le}
use borrow.Author.Tests.{leb-false, le-leb, lt-leb, ne_eqb}
use Rattle.ast.specs.Ast.{ProtoDecl}
use Rattle.ast.specs.Choice.{choose, map_o}
use Rattle.sheet_rows.specs.declared.row.Row.{Row}
use Rattle.sheet_rows.specs.declared.part.Part.{Part}
use Rattle.sheet_rows.specs.declared.part.Part.TheVariants.{Interfaces, Statements, BodyOrder, Ids}
use Rattle.sheet_rows.specs.Rows.{rows, blank, front, rest}
use Rattle.sheet_rows.specs.Parse.{elements, kind_of, passes, ids_of, interface_of, statement_of, route_of, interfaces_of, statements_of, proto_of}
use Rattle.sheet_rows.proofs.RowLaws.{rows_length, rows_count, skip0}
use Rattle.sheet_walks.specs.declared.walk.Found.{Found}
use Rattle.sheet_walks.specs.declared.walk.Found.TheVariants.{At, Nothing}
use Rattle.sheet_walks.specs.Walk.{rows_at, Below, Stands}
use Rattle.sheet_lookup.specs.Lookup.{sheet_of, Located}
use Rattle.sheet_part.specs.Part.{part_of, Says, HandedBack, Ends, Cut, ProtoPart}
use Rattle.sheet_walks.proofs.WalkLaws.{elements_stop, elements_end, front_drop}

-- ---- rows of a part of the words

empty : {A : Type 0} (l : List A) → length l < 1 → l ≡ []
empty [] h = refl
empty (x ∷ l) h = absurd (omega arith)

-- fewer than eight words are no row
short : (s : List ℕ) → length s < 8 → rows s ≡ []
short s h = empty (rows s) (omega (arith, rows_length s))

short_drop : (p : ℕ) (s : List ℕ) → length s < 8 → rows (drop (8 * suc p) s) ≡ drop (suc p) (rows s)
short_drop p s h = short (drop (8 * suc p) s) (omega (arith, length-drop (8 * suc p) s)) ∙ rw (short s h)

short_take : (n : ℕ) (s : List ℕ) → length s < 8 → rows (take (8 * suc n) s) ≡ take (suc n) (rows s)
short_take n s h = short (take (8 * suc n) s) (omega (arith, length-take (8 * suc n) s)) ∙ rw (short s h)

-- the rows after the first p are those of the words after the first 8 * p
pub rows_drop : (p : ℕ) (s : List ℕ) → rows (drop (8 * p) s) ≡ drop p (rows s)
unfolding rows
rows_drop zero s = refl
rows_drop (suc p) [] = short_drop p _ (omega arith)
rows_drop (suc p) (k ∷ []) = short_drop p _ (omega arith)
rows_drop (suc p) (k ∷ a ∷ []) = short_drop p _ (omega arith)
rows_drop (suc p) (k ∷ a ∷ b ∷ []) = short_drop p _ (omega arith)
rows_drop (suc p) (k ∷ a ∷ b ∷ c ∷ []) = short_drop p _ (omega arith)
rows_drop (suc p) (k ∷ a ∷ b ∷ c ∷ d ∷ []) = short_drop p _ (omega arith)
rows_drop (suc p) (k ∷ a ∷ b ∷ c ∷ d ∷ e ∷ []) = short_drop p _ (omega arith)
rows_drop (suc p) (k ∷ a ∷ b ∷ c ∷ d ∷ e ∷ f ∷ []) = short_drop p _ (omega arith)
rows_drop (suc p) (k ∷ a ∷ b ∷ c ∷ d ∷ e ∷ f ∷ g ∷ l) = rw (← skip0 p) (rows_drop p l)

-- the first n rows are those of the first 8 * n words
pub rows_take : (n : ℕ) (s : List ℕ) → rows (take (8 * n) s) ≡ take n (rows s)
unfolding rows
rows_take zero s = refl
rows_take (suc n) [] = short_take n _ (omega arith)
rows_take (suc n) (k ∷ []) = short_take n _ (omega arith)
rows_take (suc n) (k ∷ a ∷ []) = short_take n _ (omega arith)
rows_take (suc n) (k ∷ a ∷ b ∷ []) = short_take n _ (omega arith)
rows_take (suc n) (k ∷ a ∷ b ∷ c ∷ []) = short_take n _ (omega arith)
rows_take (suc n) (k ∷ a ∷ b ∷ c ∷ d ∷ []) = short_take n _ (omega arith)
rows_take (suc n) (k ∷ a ∷ b ∷ c ∷ d ∷ e ∷ []) = short_take n _ (omega arith)
rows_take (suc n) (k ∷ a ∷ b ∷ c ∷ d ∷ e ∷ f ∷ []) = short_take n _ (omega arith)
rows_take (suc n) (k ∷ a ∷ b ∷ c ∷ d ∷ e ∷ f ∷ g ∷ l) = rw (← skip0 n) (ap (λ (x : List Row). record { kind = k; a = a; b = b; c = c; d = d; e = e; f = f; g = g } ∷ x) (rows_take n l))

-- the rows of a part are those from one to the other
pub rows_part : (s : List ℕ) (from to : ℕ) → from ≤ to → to ≤ length s / 8 → rows (part_of s from to) ≡ take (to - from) (drop from (rows s))
rows_part s from to h i =
    let z : 8 * to - 8 * from ≡ 8 * (to - from) = omega arith in
    rw (le-leb from to h, le-leb to (length s / 8) i, z) (rows_take (to - from) (drop (8 * from) s) ∙ ap (take (to - from)) (rows_drop from s))

-- ---- rows cut off behind an element, or behind the part, change nothing

-- what f reads at an element does not change with rows that come behind it
module _ {A : Type 0} (f : List Row → A) (Q : List Row) (same : (r : Row) (x : List Row) → f (r ∷ (x ++ Q)) ≡ f (r ∷ x)) (t : Part) (ends : Ends t Q) where
  cut : (P : List Row) → map f (elements t (P ++ Q)) ≡ map f (elements t P)
  unfolding elements
  cut [] = ap (map f) ends
  cut (r ∷ P) = go (eqb r.kind (kind_of t)) (passes t r.kind) (cut P)
    where
      go : (b c : Bool) → map f (elements t (P ++ Q)) ≡ map f (elements t P) → map f (choose b ((r ∷ (P ++ Q)) ∷ elements t (P ++ Q)) (choose c (elements t (P ++ Q)) [])) ≡ map f (choose b ((r ∷ P) ∷ elements t P) (choose c (elements t P) []))
      go true c ih = ap₂ ◌∷◌ (same r P) ih
      go false true ih = ih
      go false false ih = refl

module _ (Q : List Row) (e : Cut Q) where
  cut_ids : (P : List Row) → ids_of (P ++ Q) ≡ ids_of P
  unfolding ids_of
  cut_ids = cut (λ x. (front x).a) Q (λ r x. refl) Ids e.ids

  cut_interface : (r : Row) (x : List Row) → interface_of (r ∷ (x ++ Q)) ≡ interface_of (r ∷ x)
  unfolding interface_of
  cut_interface r x = rw (cut_ids x)

  cut_interfaces : (P : List Row) → interfaces_of (P ++ Q) ≡ interfaces_of P
  unfolding interfaces_of
  cut_interfaces = cut interface_of Q cut_interface Interfaces e.interfaces

  cut_statements : (P : List Row) → statements_of (P ++ Q) ≡ statements_of P
  unfolding statements_of statement_of route_of
  cut_statements = cut statement_of Q (λ r x. refl) Statements e.statements

  pub cut_proto : (r : Row) (P : List Row) → proto_of (r ∷ (P ++ Q)) ≡ proto_of (r ∷ P)
  unfolding proto_of
  cut_proto r P = rw (cut_interfaces P, cut_statements P)

-- ---- where a prototype ends

pub true_false : true ≡ false → ⊥
true_false e = let y : ◌≡◌ {A = ℕ} 0 1 = cc in omega arith

-- a row that can't stand in a prototype ends it
pub cut_at : (R : List Row) (p : ℕ) {r : Row} → p < length R → r ≡ get_or R p blank → (r.kind ≡ 5 → ⊥) → passes Statements r.kind ≡ false → Cut (drop p R)
cut_at R p {r} h is n s = record { interfaces = elements_stop Interfaces R p h (at (not 4 refl)) (stop (λ k. eqb k 3 || eqb k 9) (rw (ne_eqb _ 3 (not 3 refl), ne_eqb _ 9 (not 9 refl)))); statements = elements_stop Statements R p h (at n) (rw is at s); ids = elements_stop Ids R p h (at (not 9 refl)) refl }
  where
    -- a kind that the walk over statements passes is not the row's
    not : (k : ℕ) → passes Statements k ≡ true → r.kind ≡ k → ⊥
    not k t e = let z : false ≡ true = sym s ∙ ap (passes Statements) e ∙ t in let y : ◌≡◌ {A = ℕ} 0 1 = cc in omega arith

    at : {k : ℕ} → (r.kind ≡ k → ⊥) → (get_or R p blank).kind ≡ k → ⊥
    at f = rw is at f

    stop : (f : ℕ → Bool) → f r.kind ≡ false → f (get_or R p blank).kind ≡ false
    stop f e = rw is at e

-- the kinds of a prototype's rows, with its body statements
pub passes_less : (k : ℕ) → passes BodyOrder k ≡ false → passes Statements k ≡ false
passes_less k e = by (leb 3 k) (leb k 5) (eqb k 9) refl refl refl e
  where
    by : (a b c : Bool) → leb 3 k ≡ a → leb k 5 ≡ b → eqb k 9 ≡ c → (a && b || c) ≡ false → passes Statements k ≡ false
    by true true c x y z f = absurd (true_false f)
    by true false true x y z f = absurd (true_false f)
    by true false false x y z f = rw (x, lt-leb k 4 (omega (arith, leb-false k 5 y)), z)
    by false b true x y z f = absurd (true_false f)
    by false b false x y z f = rw (x, z)

pub cut_stop : (R : List Row) (p : ℕ) → p < length R → passes BodyOrder (get_or R p blank).kind ≡ false → Cut (drop p R)
cut_stop R p h e = cut_at R p h refl (λ k. true_false (sym (ap (passes BodyOrder) k) ∙ e)) (passes_less (get_or R p blank).kind e)

pub cut_end : (R : List Row) (p : ℕ) → length R ≤ p → Cut (drop p R)
cut_end R p h = record { interfaces = elements_end Interfaces R p h; statements = elements_end Statements R p h; ids = elements_end Ids R p h }

-- a prototype's row with the rows up to its end is read as it is read in the sheet
cut_rows : (R : List Row) (q to : ℕ) → q < length R → q + 1 ≤ to → Cut (drop to R) → proto_of (take (to - q) (drop q R)) ≡ proto_of (drop q R)
cut_rows R q to h i c =
    let m = to - (q + 1) in
    let z : to - q ≡ suc m = omega arith in
    let y : suc q + m ≡ to = omega arith in
    let D = drop (suc q) R in
    let w : drop m D ≡ drop to R = drop-drop m (suc q) R ∙ ap (λ (n : ℕ). drop n R) y in
    let e : drop q R ≡ get_or R q blank ∷ (take m D ++ drop to R) = drop-cons R q blank h ∙ ap (◌∷◌ (get_or R q blank)) (sym (take-append-drop m D) ∙ ap (◌++◌ (take m D)) w) in
    rw (z, drop-cons R q blank h) (sym (cut_proto (drop to R) c (get_or R q blank) (take m D))) ∙ ap proto_of (sym e)

-- ---- the part of a prototype: it is walked as its sheet is

-- the elements of a part do not change with rows that come behind it, but for those rows
behind : (t : Part) (Q : List Row) → Ends t Q → (P : List Row) → elements t (P ++ Q) ≡ map (λ (l : List Row). l ++ Q) (elements t P)
unfolding elements
behind t Q e [] = e
behind t Q e (r ∷ P) = go (eqb r.kind (kind_of t)) (passes t r.kind) (behind t Q e P)
  where
    go : (b c : Bool) → elements t (P ++ Q) ≡ map (λ (l : List Row). l ++ Q) (elements t P) → choose b ((r ∷ (P ++ Q)) ∷ elements t (P ++ Q)) (choose c (elements t (P ++ Q)) []) ≡ map (λ (l : List Row). l ++ Q) (choose b ((r ∷ P) ∷ elements t P) (choose c (elements t P) []))
    go true c ih = ap (◌∷◌ (r ∷ (P ++ Q))) ih
    go false true ih = ih
    go false false ih = refl

module _ {s : List ℕ} {from : ℕ} {w : List ℕ} (h : from < length (rows s)) (x : ProtoPart s from w) where
  abbrev R : List Row
  R = rows s

  abbrev Q : List Row
  Q = drop x.to R

  upto : x.to ≤ length R
  upto = x.end.within (omega arith)

  is_part : rows w ≡ take (x.to - from) (drop from R)
  is_part = ap rows x.part ∙ rows_part s from x.to (omega (arith, x.end.after)) (omega (arith, upto, rows_count s))

  pub part_long : from + length (rows w) ≡ x.to
  part_long = omega (arith, ap length is_part ∙ length-take-le (x.to - from) (drop from R) (omega (arith, length-drop from R, upto)), x.end.after)

  pub part_some : 1 ≤ length (rows w)
  part_some = omega (arith, part_long, x.end.after)

  pub part_row : (i : ℕ) → i < length (rows w) → get_or (rows w) i blank ≡ get_or R (from + i) blank
  part_row i l = ap (λ (P : List Row). get_or P i blank) is_part ∙ get_or-take (x.to - from) (drop from R) i blank (omega (arith, part_long)) ∙ get_or-drop from R i blank

  part_drop : (p : ℕ) → p ≤ length (rows w) → drop (from + p) R ≡ drop p (rows w) ++ Q
  part_drop p l =
      let m = x.to - from in
      let y : from + m ≡ x.to = omega (arith, x.end.after) in
      let e : rows w ++ Q ≡ drop from R = ap (λ (P : List Row). P ++ Q) is_part ∙ ap (◌++◌ (take m (drop from R))) (sym (drop-drop m from R ∙ ap (λ (n : ℕ). drop n R) y)) ∙ take-append-drop m (drop from R) in
      sym (drop-drop p from R) ∙ ap (drop p) (sym e) ∙ drop-append-le p (rows w) Q l

  module _ (t : Part) (ends : Ends t Q) (p : ℕ) (l : p ≤ length (rows w)) where
    part_elements : elements t (drop (from + p) R) ≡ map (λ (P : List Row). P ++ Q) (elements t (drop p (rows w)))
    part_elements = ap (elements t) (part_drop p l) ∙ behind t Q ends (drop p (rows w))

    pub part_missing : elements t (drop p (rows w)) ≡ [] → elements t (drop (from + p) R) ≡ []
    part_missing e = part_elements ∙ ap (map (λ (P : List Row). P ++ Q)) e

  pub part_stands : (t : Part) → Ends t Q → (p : ℕ) {q : ℕ} → Stands t (rows w) p q → Stands t R (from + p) (from + q)
  part_stands t ends p {q} st =
      let below : q < length (rows w) = st.below in
      let l : p ≤ length (rows w) = omega (arith, st.from) in
      let n : from + suc q ≡ suc (from + q) = omega arith in
      let here : drop (from + q) R ≡ drop q (rows w) ++ Q = part_drop q (omega arith) in
      let after : elements t (drop (suc (from + q)) R) ≡ map (λ (P : List Row). P ++ Q) (elements t (drop (suc q) (rows w))) = ap (λ (k : ℕ). elements t (drop k R)) (sym n) ∙ part_elements t ends (suc q) (omega arith) in
      record {
        from = omega (arith, st.from);
        below = omega (arith, part_long, upto);
        kind = ap (λ (r : Row). r.kind) (sym (front_drop R (from + q)) ∙ ap front (here ∙ ap (λ (P : List Row). P ++ Q) (drop-cons (rows w) q blank below))) ∙ st.kind;
        here = part_elements t ends p l ∙ ap (map (λ (P : List Row). P ++ Q)) st.here ∙ ap₂ ◌∷◌ (sym here) (sym after);
      }

  part_proto : proto_of (rows w) ≡ proto_of (drop from R)
  part_proto = ap proto_of is_part ∙ cut_rows R from x.to h x.end.after x.end.cut

  -- its body is the prototype's
  pub part_body : statements_of (rest (rows w)) ≡ statements_of (rest (drop from R))
  unfolding proto_of
  part_body = ap (λ (d : ProtoDecl). d.body) part_proto

-- the rows from a prototype's row up to its end say it
pub handed : (s : List ℕ) (P : Option ProtoDecl) {x : Found} {w : List ℕ} {q : ℕ} → x ≡ At q → Located proto_of P (rows s) x → ProtoPart s q w → HandedBack P s w
handed s P {w = w} {q} e l z =
    let below : q < length (rows s) = subst (Below (rows s)) e l.below in
    let p : P ≡ some (proto_of (drop q (rows s))) = l.is ∙ ap (λ (y : Found). map_o proto_of (rows_at (rows s) y)) e in
    record { from = q; to = z.to; part = z.part; says = subst (λ (o : Option ProtoDecl). Says o w) (sym p) (part_proto below z) }

-- where there is no such prototype, no rows
pub handed_none : (s : List ℕ) (P : Option ProtoDecl) {x : Found} → x ≡ Nothing → Located proto_of P (rows s) x → HandedBack P s (part_of s 0 0)
handed_none s P e l =
    let p : P ≡ none = l.is ∙ ap (λ (y : Found). map_o proto_of (rows_at (rows s) y)) e in
    record { from = 0; to = 0; part = refl; says = subst (λ (o : Option ProtoDecl). Says o (part_of s 0 0)) (sym p) (rw (le-leb 0 (length s / 8) (omega arith))) }

-- what holds of both sheets holds of the one selected
pub of_both : (P : List ℕ → Type 0) (root library : List ℕ) (doc : ℕ) → P root → P library → P (sheet_of root library doc)
of_both P root library doc p q = go (eqb doc 0)
  where
    go : (b : Bool) → P (choose b root library)
    go true = p
    go false = q
