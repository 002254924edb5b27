-- The check at one printed row: what it asks of the row, and the state after it.
use mathlib.Core.Path.{◌≡◌, refl}
use mathlib.Core.List.{List, [], ◌∷◌, map}
use mathlib.Core.Option.{Option, none, some}
use mathlib.Core.Logic.{⊎_elim}
use mathlib.Core.Bool.{Bool, true, false, not, ◌&&◌}
use Prim.Native.Nat.{ℕ, suc, ◌-◌, ◌≤◌, ◌<◌}
use native.Mathlib.Omega.{arith}
use lib.ListN.{length}
use lib.Dec.{ltb, leb, eqb}
use borrow.Author.Tests.{ne_eqb, lt-ltb, le-leb, leb-true}
use Rattle.ast.proofs.Basics.{and_l, and_r}
use Rattle.sheet_rows.specs.declared.row.Row.{Row}
use Rattle.sheet_check.specs.declared.grammar.Form.{Form}
use Rattle.sheet_check.specs.declared.grammar.Form.TheVariants.{Library}
use Rattle.sheet_check.specs.declared.grammar.State.{State}
use Rattle.sheet_check.specs.declared.grammar.Role.TheVariants.{Inner, Opens}
use Rattle.ast.specs.Ast.{FieldData, Route, Statement, NodeOrigin, BodyElement, Association, Url}
use Rattle.ast.specs.Choice.{choose}
use Rattle.sheet_rows.specs.Rows.{none#}
use Rattle.sheet_shape.specs.Shape.{is_name, has_value, zero_from_e, shape_fits}
use Rattle.sheet_check.specs.Grammar.{takes_marks, role_of, begins_in, moves, stands_in, comes_in, after_inner, fits, opened_part}
use Rattle.sheet_rows.specs.Print.{row, or_none, id_row, class, amount, data_rows, route_row, statement_row, body_element_row, node_row, association_row, mark, url_row, top_row}
use Rattle.ast.specs.Each.{Each}
use Rattle.sheet_roundtrip.specs.Ranges.{IsName, IsPresent, DataInRange, RouteInRange, StatementInRange, AssociationInRange, OriginInRange, MarkInRange, UrlInRange}
use Rattle.ast.specs.Expanded.{TopKept, InnerKept, OriginKept}
use Rattle.sheet_roundtrip.proofs.Tests.{never, and_i, or_e, or_l, tests}
use Rattle.sheet_roundtrip.proofs.Accepts.{at, bare}
use Rattle.sheet_roundtrip.proofs.Passes.{Asks, nothing, Keeps, GoesOn, Through, through, refused, instead, counted, stay, each}

-- ---- where nothing is asked, and where too much

-- what holds of all holds of each of a list
pub all : {A : Type 0} {P : A → Type 0} → ((x : A) → P x) → (l : List A) → Each P l
all f [] = tt
all f (x ∷ l) = (f x, all f l)

-- nothing to ask
abbrev pub Sure : Type 0
Sure = Unit {0}

-- nothing asked, and nothing tested
free : {A : Type 0} → (Sure → true ≡ true) × (A → true ≡ true → Sure)
free = ((λ x. refl), (λ o x. tt))

-- the impossible asked, and refused
barred : {A : Type 0} → (⊥ → false ≡ true) × (A → false ≡ true → ⊥)
barred = ((λ x. absurd x), (λ o x. never x))

-- ---- where a row may stand

-- a part that takes every row of a kind
abbrev pub Takes : ℕ → ℕ → Type 0
Takes q k = (r : Row) → r.kind ≡ k → stands_in q r ≡ true

module _ (form : Form) (r : Row) (a : Asks) (f : a.range → shape_fits (takes_marks form) r ≡ true) (g : a.given → shape_fits (takes_marks form) r ≡ true → a.range) where
  -- at a place that holds
  pub placed : (s t : State) (C : Bool) → GoesOn form s t r C → C ≡ true → Keeps s r a → Through form s t a (r ∷ [])
  placed s t C h c e = through form s t r C a h (λ x. and_i (f x) c) (λ o x. g o (and_l (shape_fits (takes_marks form) r) C x)) e

  -- inside a part
  pub inner : (q la : ℕ) → role_of r.kind ≡ Inner → stands_in q r ≡ true → la ≤ r.kind → la < 13 → Keeps (bare q la) r a → Through form (bare q la) (after_inner (bare q la) r) a (r ∷ [])
  unfolding fits moves
  inner q la h i j k e = placed (bare q la) (after_inner (bare q la) r) (comes_in (bare q la) r) (rw h) (rw (i, le-leb la r.kind j, lt-ltb la 13 k)) e

  -- as the first row of a part
  pub opening : (p la : ℕ) → role_of r.kind ≡ Opens → 1 ≤ p → p ≤ r.kind → p < 11 → Keeps (bare p la) r a → Through form (bare p la) (opened_part r.kind) a (r ∷ [])
  unfolding fits moves
  opening p la h i j k e = placed (bare p la) (opened_part r.kind) (leb 1 p && leb p r.kind && ltb p 11) (rw h) (rw (le-leb 1 p i, le-leb p r.kind j, lt-ltb p 11 k)) e

-- ---- rows that are owed

-- what is asked of an id or a name
abbrev pub name_asks : ℕ → Asks
name_asks i = record { given = Sure; range = IsName i; kept = Sure }

-- of a route
abbrev pub route_asks : Route → Asks
route_asks x = record { given = IsPresent x.from_id × IsPresent x.to_id; range = RouteInRange x; kept = Sure }

-- of an association
abbrev pub association_asks : Association → Asks
association_asks x = record { given = Sure; range = AssociationInRange x; kept = Sure }

-- what is present in a statement is not none
abbrev pub StatementGiven : Statement → Type 0
StatementGiven (Statement.Node i) = Sure
StatementGiven (Statement.Proto i) = Sure
StatementGiven (Statement.ExternProto i) = Sure
StatementGiven (Statement.Route x) = IsPresent x.from_id × IsPresent x.to_id
StatementGiven (Statement.Other p) = Sure

-- of a statement, where K stays in an expanded document
abbrev pub statement_asks : (Statement → Type 0) → Statement → Asks
statement_asks K x = record { given = StatementGiven x; range = StatementInRange x; kept = K x }

-- of a url
abbrev pub url_asks : Form → Url → Asks
url_asks form x = record { given = IsPresent x.fragment; range = UrlInRange (takes_marks form) x; kept = Sure }

-- a mark has its shape if it is in range
mark_fits : (m u : Bool) → MarkInRange m u → leb (mark u) (mark m) ≡ true
mark_fits true true h = refl
mark_fits true false h = refl
mark_fits false true h = let z : ◌≡◌ {A = ℕ} 0 1 = cc in absurd (omega arith)
mark_fits false false h = refl

-- and only then
mark_in : (m u : Bool) → mark u ≤ mark m → MarkInRange m u
mark_in true u h = tt
mark_in false true h = absurd (omega arith)
mark_in false false h = refl

-- of a node's row
abbrev pub node_row_asks : ℕ → Option ℕ → NodeOrigin → Asks
node_row_asks t n x = record { given = IsPresent n; range = IsName t × IsPresent n × OriginInRange x; kept = OriginKept x }

-- of a proto's row: there is none in an expanded document
abbrev pub proto_row_asks : ℕ → Asks
proto_row_asks n = record { given = Sure; range = IsName n; kept = ⊥ }

-- of what a value holds
abbrev pub data_asks : FieldData → Asks
data_asks d = record { given = Sure; range = DataInRange d; kept = Sure }

module _ (form : Form) where
  -- an id that is owed
  id_step : (p la ro ass n i : ℕ) → Through form (at p la (suc n) ro ass) (at p la n ro ass) (name_asks i) (id_row i ∷ [])
  unfolding fits moves shape_fits
  id_step p la ro ass n i =
      let e : suc n - 1 ≡ n = omega arith in
      placed form (id_row i) (name_asks i) (λ x. rw (lt-ltb i none# x)) (λ o x. search tests) (at p la (suc n) ro ass) (at p la n ro ass) true (rw (lt-ltb 0 (suc n) (omega arith), e)) refl free

  -- the ids that are owed
  pub ids : (p la ro ass : ℕ) (l : List ℕ) → Through form (at p la (length l) ro ass) (at p la 0 ro ass) (each name_asks l) (map id_row l)
  ids p la ro ass = counted form (λ n. at p la n ro ass) id_row name_asks (id_step p la ro ass)

  -- a route's row has its shape if the route is in range
  pub route_fits_lem : (x : Route) → RouteInRange x → shape_fits (takes_marks form) (route_row x) ≡ true
  unfolding shape_fits
  route_fits_lem x r = rw (lt-ltb _ _ r.from_node, lt-ltb _ _ r.from_field, lt-ltb _ _ r.to_node, lt-ltb _ _ r.to_field)

  -- and only then
  pub route_in : (x : Route) → IsPresent x.from_id × IsPresent x.to_id → shape_fits (takes_marks form) (route_row x) ≡ true → RouteInRange x
  unfolding shape_fits
  route_in x o h = record { from_node = search tests; from_field = search tests; to_node = search tests; to_field = search tests; from_id = o.0; to_id = o.1 }

  -- a route that is owed
  route_step : (ass n : ℕ) (x : Route) → Through form (at 2 13 0 (suc n) ass) (at 2 13 0 n ass) (route_asks x) (route_row x ∷ [])
  unfolding fits moves
  route_step ass n x =
      let e : suc n - 1 ≡ n = omega arith in
      placed form (route_row x) (route_asks x) (route_fits_lem x) (route_in x) (at 2 13 0 (suc n) ass) (at 2 13 0 n ass) true (rw (lt-ltb 0 (suc n) (omega arith), e)) refl free

  -- the routes that are owed
  pub routes : (ass : ℕ) (l : List Route) → Through form (at 2 13 0 (length l) ass) (at 2 13 0 0 ass) (each route_asks l) (map route_row l)
  routes ass = counted form (λ n. at 2 13 0 n ass) route_row route_asks (route_step ass)

  -- an association that is owed
  association_step : (n : ℕ) (x : Association) → Through form (at 2 13 0 0 (suc n)) (at 2 13 0 0 n) (association_asks x) (association_row x ∷ [])
  unfolding fits moves shape_fits
  association_step n x =
      let e : suc n - 1 ≡ n = omega arith in
      placed form (association_row x) (association_asks x) (λ r. rw (lt-ltb _ _ r.interface, lt-ltb _ _ r.node, lt-ltb _ _ r.field))
      (λ o h. record { interface = search tests; node = search tests; field = search tests }) (at 2 13 0 0 (suc n)) (at 2 13 0 0 n) true (rw (lt-ltb 0 (suc n) (omega arith), e)) refl free

  -- the associations that are owed
  pub associations : (l : List Association) → Through form (at 2 13 0 0 (length l)) (at 2 13 0 0 0) (each association_asks l) (map association_row l)
  associations = counted form (λ n. at 2 13 0 0 n) association_row association_asks association_step

  -- ---- rows inside a part

  -- the ids of a value
  pub data_rows_lem : (p k : ℕ) (d : FieldData) → Through form (at p k (choose (eqb (class d) 2) (amount d) 0) 0 0) (bare p k) (data_asks d) (data_rows d)
  data_rows_lem p k (FieldData.Payload n) = stay form (bare p k)
  data_rows_lem p k (FieldData.Nodes l) = instead (λ x. all (λ i. tt) l) ((λ x. x), (λ x. x)) ((λ x. tt), (λ x. all (λ i. tt) l)) (ids p k 0 0 l)

  -- the class of what a value holds is at least 1
  class_low : (d : FieldData) → leb 1 (class d) ≡ true
  class_low (FieldData.Payload n) = refl
  class_low (FieldData.Nodes l) = refl

  -- and at most 2
  class_high : (d : FieldData) → leb (class d) 2 ≡ true
  class_high (FieldData.Payload n) = refl
  class_high (FieldData.Nodes l) = refl

  -- a field with a value
  pub value_step : (la n i t : ℕ) (d : FieldData) → la ≤ 3 →
      Through form (bare 2 la) (at 2 3 (choose (eqb (class d) 2) (amount d) 0) 0 0) (record { given = Sure; range = (n < none#) × (i ≤ 1) × (t ≤ 41); kept = Sure }) (row 3 n 0 0 i t (class d) (amount d) ∷ [])
  unfolding shape_fits role_of
  value_step la n i t d h =
      inner form (row 3 n 0 0 i t (class d) (amount d)) _ (λ x. rw (lt-ltb n _ x.0, le-leb i _ x.1, le-leb t _ x.2, class_low d, class_high d)) (λ o x. let y : has_value (row 3 n 0 0 i t (class d) (amount d)) ≡ true = or_l _ (and_r (is_name n && leb i 1) _ x) in (search tests, search tests, search tests))
      2 la refl refl h (omega arith) free

  -- a field with an IS
  pub is_step : (la n i t : ℕ) → la ≤ 3 → Through form (bare 2 la) (bare 2 3) (record { given = Sure; range = (n < none#) × (i ≤ 1) × (t < none#); kept = Sure }) (row 3 n 1 t i 0 0 0 ∷ [])
  unfolding shape_fits role_of
  is_step la n i t h =
      inner form (row 3 n 1 t i 0 0 0) _ (λ x. rw (lt-ltb n _ x.0, le-leb i _ x.1, lt-ltb t _ x.2)) (λ o x. (search tests, search tests, search tests)) 2 la refl refl h (omega arith) free

  -- an interface with no value, in a part that takes it
  pub bare_interface_step : (q la a b c : ℕ) (d : Option ℕ) → la ≤ 4 → stands_in q (row 4 a b c (or_none d) 0 0 0) ≡ true → Through form (bare q la) (bare q 4) (record { given = IsPresent d; range = (a ≤ 3) × (b ≤ 41) × (c < none#) × IsPresent d; kept = Sure }) (row 4 a b c (or_none d) 0 0 0 ∷ [])
  unfolding shape_fits role_of
  bare_interface_step q la a b c d h i =
      inner form (row 4 a b c (or_none d) 0 0 0) _ (λ x. rw (le-leb a _ x.0, le-leb b _ x.1, lt-ltb c _ x.2)) (λ o x. (search tests, search tests, search tests, o)) q la refl i h (omega arith)
      ((λ x. kept (not (eqb (or_none d) none#))), (λ o x. tt))
    where
      kept : (z : Bool) → not (z && false) ≡ true
      kept true = refl
      kept false = refl

  -- an interface with a value: in an expanded document it has no IS
  module _ (q la a b c t : ℕ) (d : Option ℕ) (v : FieldData) where
    -- its row
    abbrev r4 : Row
    r4 = row 4 a b c (or_none d) t (class v) (amount v)

    -- its shape tells its ranges
    value_in : shape_fits (takes_marks form) r4 ≡ true → (a ≤ 3) × (b ≤ 41) × (c < none#) × (t ≤ 41)
    unfolding shape_fits
    value_in h = (search tests, search tests, search tests, ⊎_elim (λ (x : has_value r4 ≡ true). leb-true t 41 (search tests)) (λ (x : zero_from_e r4 ≡ true). let e : t ≡ 0 = search tests in omega arith) (or_e (has_value r4) (zero_from_e r4) (and_r (leb a 3 && leb b 41 && is_name c) _ h)))

    -- it has a class
    class_positive : (v : FieldData) → ltb 0 (class v) ≡ true
    class_positive (FieldData.Payload n) = refl
    class_positive (FieldData.Nodes l) = refl

    -- with no IS it stays
    no_is : (d : Option ℕ) → d ≡ none → not (not (eqb (or_none d) none#) && ltb 0 (class v)) ≡ true
    no_is none h = refl
    no_is (some n) h = let z : ◌≡◌ {A = ℕ} 0 1 = cc in absurd (omega arith)

    -- and only then
    is_none : (d : Option ℕ) → IsPresent d → not (not (eqb (or_none d) none#) && ltb 0 (class v)) ≡ true → d ≡ none
    is_none none o h = refl
    is_none (some n) o h = never (rw (ne_eqb n none# o, class_positive v) at h)

    -- in a part that takes it
    pub interface_step : la ≤ 4 → Takes q 4 → Through form (bare q la) (at q 4 (choose (eqb (class v) 2) (amount v) 0) 0 0) (record { given = IsPresent d; range = (a ≤ 3) × (b ≤ 41) × (c < none#) × IsPresent d × (t ≤ 41); kept = d ≡ none }) (r4 ∷ [])
    unfolding shape_fits role_of
    interface_step h i =
        inner form r4 _ (λ x. rw (le-leb a _ x.0, le-leb b _ x.1, lt-ltb c _ x.2, le-leb t _ x.4, class_low v, class_high v)) (λ o x. let y = value_in x in (y.0, y.1, y.2, o, y.3)) q la refl (i r4 refl) h (omega arith) (no_is d, is_none d)

    -- its class is not 0
    class_not_zero : (v : FieldData) → eqb (class v) 0 ≡ false
    class_not_zero (FieldData.Payload n) = refl
    class_not_zero (FieldData.Nodes l) = refl

    -- an extern takes no such interface
    pub extern_value : (A : Asks) (R : List Row) → (A.range → ⊥) → Through form (bare 8 la) (bare 8 4) A (r4 ∷ R)
    unfolding fits moves role_of
    extern_value A R f = refused form (bare 8 la) (bare 8 4) (after_inner (bare 8 la) r4) r4 R (comes_in (bare 8 la) r4) A refl (rw (class_not_zero v)) f

  -- a statement, in a part that takes it
  module _ (q la a b c d e f g : ℕ) (A : Asks) (h : A.range → shape_fits (takes_marks form) (row 5 a b c d e f g) ≡ true) (i : A.given → shape_fits (takes_marks form) (row 5 a b c d e f g) ≡ true → A.range) where
    -- by its row
    row5 : la ≤ 5 → Takes q 5 → Keeps (bare q la) (row 5 a b c d e f g) A → Through form (bare q la) (bare q 5) A (row 5 a b c d e f g ∷ [])
    unfolding role_of
    row5 j k u = inner form (row 5 a b c d e f g) A h i q la refl (k (row 5 a b c d e f g) refl) j (omega arith) u

  -- a statement of any sort
  pub statement_step_lem : (q la : ℕ) (K : Statement → Type 0) (x : Statement) → la ≤ 5 → Takes q 5 → Keeps (bare q la) (statement_row x) (statement_asks K x) → Through form (bare q la) (bare q 5) (statement_asks K x) (statement_row x ∷ [])
  unfolding shape_fits
  statement_step_lem q la K (Statement.Node i) h j e = row5 q la 0 i 0 0 0 0 0 _ (λ r. rw (lt-ltb i _ r)) (λ o x. search tests) h j e
  statement_step_lem q la K (Statement.Proto i) h j e = row5 q la 1 i 0 0 0 0 0 _ (λ r. rw (lt-ltb i _ r)) (λ o x. search tests) h j e
  statement_step_lem q la K (Statement.ExternProto i) h j e = row5 q la 2 i 0 0 0 0 0 _ (λ r. rw (lt-ltb i _ r)) (λ o x. search tests) h j e
  statement_step_lem q la K (Statement.Route x) h j e = row5 q la 3 _ _ _ _ _ _ _ (route_fits_lem x) (route_in x) h j e
  statement_step_lem q la K (Statement.Other p) h j e = row5 q la 4 p 0 0 0 0 0 _ (λ r. refl) (λ o x. tt) h j e

  -- in a node only Route and ExternProto stay
  pub inner_kept : (la : ℕ) (x : Statement) → Keeps (bare 2 la) (statement_row x) (statement_asks InnerKept x)
  inner_kept la (Statement.Node i) = barred
  inner_kept la (Statement.Proto i) = barred
  inner_kept la (Statement.ExternProto i) = free
  inner_kept la (Statement.Route x) = free
  inner_kept la (Statement.Other p) = barred

  -- elsewhere all but Proto
  pub top_kept : (q la : ℕ) → eqb q 2 ≡ false → (x : Statement) → Keeps (bare q la) (statement_row x) (statement_asks TopKept x)
  top_kept q la h (Statement.Node i) = rw h free
  top_kept q la h (Statement.Proto i) = barred
  top_kept q la h (Statement.ExternProto i) = rw h free
  top_kept q la h (Statement.Route x) = rw h free
  top_kept q la h (Statement.Other p) = rw h free

  -- body order
  pub order_step : (la : ℕ) (x : BodyElement) → la ≤ 6 → Through form (bare 2 la) (bare 2 6) nothing (body_element_row x ∷ [])
  unfolding shape_fits role_of
  order_step la BodyElement.Field h = inner form (body_element_row BodyElement.Field) _ (λ r. refl) (λ o x. tt) 2 la refl refl h (omega arith) free
  order_step la BodyElement.Interface h = inner form (body_element_row BodyElement.Interface) _ (λ r. refl) (λ o x. tt) 2 la refl refl h (omega arith) free
  order_step la BodyElement.Statement h = inner form (body_element_row BodyElement.Statement) _ (λ r. refl) (λ o x. tt) 2 la refl refl h (omega arith) free

  -- a url of an extern
  pub url_step : (la : ℕ) (x : Url) → la ≤ 10 → Through form (bare 8 la) (bare 8 10) (url_asks form x) (url_row x ∷ [])
  unfolding shape_fits role_of
  url_step la x h = inner form (url_row x) (url_asks form x) (λ r. rw (lt-ltb _ _ r.base, mark_fits (takes_marks form) x.used r.used)) (λ o i. let m : mark x.used ≤ mark (takes_marks form) = search tests in record { base = search tests; fragment = o; used = mark_in (takes_marks form) x.used m }) 8 la refl refl h (omega arith) free

  -- an instance's row: what it owes is what it counts
  pub instance_step_lem : (la n b c d : ℕ) → la ≤ 6 → Through form (bare 2 la) (at 2 13 b c d) (name_asks n) (row 13 n b c d 0 0 0 ∷ [])
  unfolding shape_fits role_of
  instance_step_lem la n b c d h = inner form (row 13 n b c d 0 0 0) (name_asks n) (λ r. rw (lt-ltb n _ r)) (λ o i. search tests) 2 la refl refl (omega arith) (omega arith) free

  -- ---- rows that open a part

  -- a node's row
  pub node_step : (p la t : ℕ) (n : Option ℕ) (x : NodeOrigin) → 1 ≤ p → p ≤ 2 → Through form (bare p la) (bare 2 0) (node_row_asks t n x) (node_row t n x ∷ [])
  unfolding shape_fits role_of
  node_step p la t n NodeOrigin.Builtin h i = opening form (node_row t n NodeOrigin.Builtin) (node_row_asks t n NodeOrigin.Builtin) (λ r. rw (lt-ltb t _ r.0)) (λ o k. (search tests, o, tt)) p la refl h i (omega arith) free
  node_step p la t n (NodeOrigin.Proto j) h i = opening form (node_row t n (NodeOrigin.Proto j)) (node_row_asks t n (NodeOrigin.Proto j)) (λ r. rw (lt-ltb t _ r.0, lt-ltb j _ r.2)) (λ o k. (search tests, o, search tests)) p la refl h i (omega arith) barred
  node_step p la t n (NodeOrigin.ExternProto j) h i = opening form (node_row t n (NodeOrigin.ExternProto j)) (node_row_asks t n (NodeOrigin.ExternProto j)) (λ r. rw (lt-ltb t _ r.0, lt-ltb j _ r.2)) (λ o k. (search tests, o, search tests)) p la refl h i (omega arith) free
  node_step p la t n NodeOrigin.Unknown h i = opening form (node_row t n NodeOrigin.Unknown) (node_row_asks t n NodeOrigin.Unknown) (λ r. rw (lt-ltb t _ r.0)) (λ o k. (search tests, o, tt)) p la refl h i (omega arith) free

  -- in an expanded document there is no proto
  pub proto_step : (p la n : ℕ) → 1 ≤ p → p ≤ 7 → Through form (bare p la) (bare 7 0) (proto_row_asks n) (row 7 n 0 0 0 0 0 0 ∷ [])
  unfolding shape_fits role_of
  proto_step p la n h i = opening form (row 7 n 0 0 0 0 0 0) (proto_row_asks n) (λ r. rw (lt-ltb n _ r)) (λ o k. search tests) p la refl h i (omega arith) barred

  -- an extern's row
  pub extern_step : (p la n : ℕ) → 1 ≤ p → p ≤ 8 → Through form (bare p la) (bare 8 0) (name_asks n) (row 8 n 0 0 0 0 0 0 ∷ [])
  unfolding shape_fits role_of
  extern_step p la n h i = opening form (row 8 n 0 0 0 0 0 0) (name_asks n) (λ r. rw (lt-ltb n _ r)) (λ o k. search tests) p la refl h i (omega arith) free

  -- row 11
  pub top_step : (p la : ℕ) → 1 ≤ p → p < 11 → Through form (bare p la) (bare 11 0) nothing (top_row ∷ [])
  unfolding shape_fits role_of
  top_step p la h i = opening form top_row nothing (λ r. refl) (λ o k. tt) p la refl h (omega arith) i free

  -- a document's row, where one begins in part 0
  pub document_step : begins_in form 0 ≡ true → (la n : ℕ) → Through form (bare 0 la) (bare 1 0) nothing (row 1 n 0 0 0 0 0 0 ∷ [])
  unfolding fits moves shape_fits role_of
  document_step b la n = placed form (row 1 n 0 0 0 0 0 0) nothing (λ r. refl) (λ o k. tt) (bare 0 la) (bare 1 0) (begins_in form 0) refl b free

-- a file's row, in a library
pub file_step : (p la n : ℕ) → 11 ≤ p → Through Library (bare p la) (bare 0 0) (name_asks n) (row 12 n 0 0 0 0 0 0 ∷ [])
unfolding fits moves shape_fits role_of
file_step p la n h = placed Library (row 12 n 0 0 0 0 0 0) (name_asks n) (λ r. rw (lt-ltb n _ r)) (λ o k. search tests) (bare p la) (bare 0 0) (leb 11 p) refl (le-leb 11 p h) free
