-- A sheet that fits is cut into a document: each element, and each list of elements.
use mathlib.Core.Path.{◌≡◌, refl, sym, ap, ap₂, ◌∙◌}
use mathlib.Core.List.{List, [], ◌∷◌, ◌++◌, map, append_assoc, append-nil}
use mathlib.Core.Option.{Option, none, some}
use mathlib.Core.Logic.{inl, inr, ⊎_elim}
use mathlib.Core.Bool.{Bool, true, false, ◌&&◌}
use Prim.Native.Nat.{ℕ, suc, ◌-◌, ◌≤◌, ◌<◌}
use native.Mathlib.Omega.{arith}
use native.Mathlib.Decide.{ℕ_discrete}
use lib.ListN.{length, length-append}
use lib.Dec.{ltb, leb, eqb}
use borrow.Author.Tests.{eqb-true, lt-ltb, leb-true}
use Rattle.ast.proofs.Basics.{and_l, and_r}
use Rattle.sheet_rows.specs.declared.row.Row.{Row}
use Rattle.sheet_check.specs.declared.grammar.Form.{Form}
use Rattle.sheet_check.specs.declared.grammar.State.{State}
use Rattle.sheet_check.specs.declared.grammar.Role.{Role}
use Rattle.sheet_check.specs.declared.grammar.Role.TheVariants.{Starts, Opens, Inner, Files, Owed, Never}
use Rattle.ast.specs.Ast.{InterfaceDecl, Route, Association, ProtoInstance, Node, ProtoDecl, ExternProtoDecl, Document, File}
use Rattle.sheet_shape.specs.Shape.{is_name, shape_fits}
use Rattle.sheet_check.specs.Grammar.{takes_marks, role_of, stands_in, comes_in, after_inner, moves, is_library, begins_in, ends_in, go_if, opened_part}
use Rattle.sheet_rows.specs.Parse.{optional, ids_of, field_of, interface_of, route_of, statement_of, body_element_of, association_of, url_of, origin_of}
use Rattle.ast.specs.Lists.{flat}
use Rattle.sheet_rows.specs.Print.{row, id_row, field_rows, interface_rows, route_row, statement_row, body_element_row, association_row, instance_rows, any_instance_rows, node_rows, proto_rows, url_row, extern_proto_rows, top_row, document_rows, file_rows, library_rows}
use Rattle.ast.specs.Each.{Each}
use Rattle.sheet_roundtrip.specs.Ranges.{IsPresent}
use Rattle.sheet_roundtrip.proofs.Tests.{never, tests}
use Rattle.sheet_roundtrip.proofs.Back.{owes, empty, field_back, iface_back, stmt_back, route_back, mark_back, node_back, assoc_back, url_back, name_back, top_back, zero_b, zero_e}
use Rattle.sheet_roundtrip.proofs.Accepts.{at, bare, no_go, Accepts}
use Rattle.sheet_roundtrip.proofs.Passes.{Single}
use Rattle.sheet_roundtrip.proofs.Steps.{Sure, route_asks, StatementGiven}
use Rattle.sheet_roundtrip.proofs.Walk.{InstanceGiven, NodeGiven, ProtoGiven, ExternProtoGiven, DocumentGiven, FileGiven}
use Rattle.sheet_roundtrip.proofs.Present.{present, route_given, statement_given}
use Rattle.sheet_roundtrip.proofs.Scan.{one, rows_map}
use Rattle.sheet_roundtrip.proofs.Parsed.{ids_parsed}
use Rattle.sheet_roundtrip.proofs.Cuts.{Begins, as_kind, moved, by_role_lem, tested, Lessens, cut_owed, Cut, cuts, Past, beyond, Inside, Outer, Outside, kind_by_role, outer}

-- five lists of rows, one after the other
five : (f i s o n z l l1 l2 l3 l4 : List Row) → l ≡ f ++ l1 → l1 ≡ i ++ l2 → l2 ≡ s ++ l3 → l3 ≡ o ++ l4 → l4 ≡ n ++ z → l ≡ (f ++ (i ++ (s ++ (o ++ n)))) ++ z
five f i s o n z l l1 l2 l3 l4 a b c d e = rw (a, b, c, d, e) (simp append_assoc)

-- three lists, as an instance has them
three : (i r a z l l1 l2 : List Row) → l ≡ i ++ l1 → l1 ≡ r ++ l2 → l2 ≡ a ++ z → l ≡ ((i ++ r) ++ a) ++ z
three i r a z l l1 l2 b c d = rw (b, c, d) (simp append_assoc)

-- single rows in front, written as a map
as_map : {A : Type 0} (print : A → Row) (xs : List A) {R : List Row} (left : List Row) → R ≡ flat (one print) xs ++ left → R ≡ map print xs ++ left
as_map print xs left h = rw (rows_map print xs) h

module _ (form : Form) (single : Single form) where
  -- ---- rows that are owed

  -- a row that is owed: its shape, its test, and what fits after it
  owed : (s u : State) (r : Row) (l : List Row) (b : Bool) → moves form s r ≡ go_if b u → Accepts form s (r ∷ l) → (shape_fits (takes_marks form) r ≡ true) × ((b ≡ true) × Accepts form u l)
  owed s u r l b h k = let x = moved form s r l k in (x.0, tested form b u l (x.1.0, sym h ∙ x.1.1, x.1.2))

  -- an id that is owed
  id_owed : (p la ro ass : ℕ) → Lessens form (λ n. at p la n ro ass) id_row (λ i. Sure)
  unfolding moves shape_fits
  id_owed p la ro ass n r l k =
      let e : suc n - 1 ≡ n = omega arith in
      let w = owed (at p la (suc n) ro ass) (at p la n ro ass) r l (eqb r.kind 9) (rw (lt-ltb 0 (suc n) (omega arith), e)) k in
      let m = as_kind r 9 (eqb-true r.kind 9 w.1.0) in
      (r.a, m ∙ sym (name_back 9 r.a r.b r.c r.d r.e r.f r.g (rw m at w.0)), tt, w.1.1)

  -- the ids that are owed
  cut_ids : (p la ro ass n : ℕ) (R : List Row) → Accepts form (at p la n ro ass) R → (xs : List ℕ) × (l : List Row) × (R ≡ map id_row xs ++ l) × (length xs ≡ n) × Each (λ i. Sure) xs × Accepts form (at p la 0 ro ass) l
  cut_ids p la ro ass = cut_owed form (λ n. at p la n ro ass) id_row (λ i. Sure) (λ n h. let z : suc n ≡ 0 = search tests in omega arith) (id_owed p la ro ass)

  -- an instance's route
  route_owed : (ass : ℕ) → Lessens form (λ n. at 2 13 0 n ass) route_row (λ x. (route_asks x).given)
  unfolding moves
  route_owed ass n r l k =
      let e : suc n - 1 ≡ n = omega arith in
      let w = owed (at 2 13 0 (suc n) ass) (at 2 13 0 n ass) r l (eqb r.kind 5 && eqb r.a 3) (rw (lt-ltb 0 (suc n) (omega arith), e)) k in
      let m = as_kind r 5 (eqb-true r.kind 5 (and_l _ (eqb r.a 3) w.1.0)) in
      (route_of (r ∷ []), m ∙ sym (route_back r.a r.b r.c r.d r.e r.f r.g [] (eqb-true r.a 3 (and_r (eqb r.kind 5) _ w.1.0))) ∙ ap (λ (q : Row). route_row (route_of (q ∷ []))) (sym m), route_given (r ∷ []), w.1.1)

  -- an instance's association
  association_owed : Lessens form (λ n. at 2 13 0 0 n) association_row (λ x. Sure)
  unfolding moves shape_fits
  association_owed n r l k =
      let e : suc n - 1 ≡ n = omega arith in
      let w = owed (at 2 13 0 0 (suc n)) (at 2 13 0 0 n) r l (eqb r.kind 14) (rw (lt-ltb 0 (suc n) (omega arith), e)) k in
      let m = as_kind r 14 (eqb-true r.kind 14 w.1.0) in
      (association_of (r ∷ []), m ∙ sym (assoc_back r.a r.b r.c r.d r.e r.f r.g [] (rw m at w.0)) ∙ ap (λ (q : Row). association_row (association_of (q ∷ []))) (sym m), tt, w.1.1)

  -- ---- lists inside a part

  -- a list of elements of kind k in part q, the rows of the kinds J being past, up to a row of another kind
  record Section {A : Type 0} (q k : ℕ) (J : List ℕ) (print : A → List Row) (G : A → Type 0) (R : List Row) : Type 0 where
    pub items : List A
    pub left : List Row
    pub last : ℕ
    pub is : R ≡ flat print items ++ left
    pub given : Each G items
    pub most : last ≤ k
    pub past : Each (Past last left) (k ∷ J)
    pub goes : Accepts form (bare q last) left

  -- a row of kind k owes ids by its columns f and g, and is with them the print of an element
  module _ {A : Type 0} (q k : ℕ) (J : List ℕ) (print : A → List Row) (G : A → Type 0) (owing : ℕ → ℕ → ℕ) (role : role_of k ≡ Inner) (small : Each (λ j. j < k) J)
      (after : (la a b c d e f g : ℕ) → after_inner (bare q la) (row k a b c d e f g) ≡ at q k (owing f g) 0 0)
      (back : (a b c d e f g : ℕ) (xs : List ℕ) → shape_fits (takes_marks form) (row k a b c d e f g) ≡ true → length xs ≡ owing f g → (x : A) × (print x ≡ row k a b c d e f g ∷ map id_row xs) × G x) where
    -- one element, with its ids
    element_cut : (p la a b c d e f g : ℕ) (l : List Row) → Inside q k J p la (row k a b c d e f g ∷ l) → Accepts form (bare p la) (row k a b c d e f g ∷ l) → Cut form print G (Inside q k J) (row k a b c d e f g ∷ l)
    element_cut p la a b c d e f g l w t =
        let r = row k a b c d e f g in
        let x = by_role_lem form q la r l Inner role (rw w.0 at t) in
        let y = tested form (comes_in (bare q la) r) (after_inner (bare q la) r) l x.1 in
        let z = cut_ids q k 0 0 (owing f g) l (rw (after la a b c d e f g) at y.1) in
        let b = back a b c d e f g z.0 x.0 z.3 in
        let n = ap length z.2 ∙ length-append (map id_row z.0) z.1 in
        record {
          item = b.0;
          left = z.1;
          part = q;
          last = k;
          is = ap (◌∷◌ r) z.2 ∙ ap (λ (R : List Row). R ++ z.1) (sym b.1);
          less = omega arith;
          given = b.2;
          holds = (refl, omega arith, beyond k z.1 J small);
          goes = z.5;
        }

    -- the whole list
    section : (la : ℕ) (R : List Row) → la ≤ k → Each (Past la R) J → Accepts form (bare q la) R → Section q k J print G R
    section la R h j t =
        let c = cuts form k print G (Inside q k J) element_cut R q la (refl, h, j) t in
        record { items = c.items; left = c.left; last = c.last; is = c.is; given = c.given; most = c.holds.1; past = (inr c.ahead, c.holds.2); goes = rw c.holds.0 at c.goes }

  -- ids alone are read back
  ids_alone : (xs : List ℕ) → ids_of (map id_row xs) ≡ xs
  ids_alone xs = rw append-nil at (ids_parsed xs [] tt)

  -- a single row, which owes nothing
  alone : (r s : Row) (xs : List ℕ) → length xs ≡ 0 → r ≡ s → ◌≡◌ {A = List Row} (r ∷ []) (s ∷ map id_row xs)
  alone r s xs n e = rw (empty xs n) (ap (λ (x : Row). x ∷ []) e)

  -- the fields of a node
  fields_section : (la : ℕ) (R : List Row) → la ≤ 3 → Sure → Accepts form (bare 2 la) R → Section 2 3 [] field_rows (λ x. Sure) R
  unfolding role_of shape_fits
  fields_section =
      section 2 3 [] field_rows (λ x. Sure) owes refl tt (λ la a b c d e f g. refl)
      (λ a b c d e f g xs h n. (field_of (row 3 a b c d e f g ∷ map id_row xs), field_back a b c d e f g (map id_row xs) (ap length (ids_alone xs) ∙ n) h ∙ ap (λ (ys : List ℕ). row 3 a b c d e f g ∷ map id_row ys) (ids_alone xs), tt))

  -- the interfaces of a node, a proto or an extern
  interfaces_section : (q : ℕ) (J : List ℕ) → Each (λ j. j < 4) J → (la : ℕ) (R : List Row) → la ≤ 4 → Each (Past la R) J → Accepts form (bare q la) R → Section q 4 J interface_rows (λ x. IsPresent x.is) R
  unfolding role_of shape_fits interface_of
  interfaces_section q J s =
      section q 4 J interface_rows (λ x. IsPresent x.is) owes refl s (λ la a b c d e f g. refl)
      (λ a b c d e f g xs h n. (interface_of (row 4 a b c d e f g ∷ map id_row xs), iface_back a b c d e f g (map id_row xs) (ap length (ids_alone xs) ∙ n) h ∙ ap (λ (ys : List ℕ). row 4 a b c d e f g ∷ map id_row ys) (ids_alone xs), present d))

  -- the statements of a node, a body or the top
  statements_section : (q : ℕ) (J : List ℕ) → Each (λ j. j < 5) J → (la : ℕ) (R : List Row) → la ≤ 5 → Each (Past la R) J → Accepts form (bare q la) R → Section q 5 J (one statement_row) StatementGiven R
  unfolding role_of shape_fits
  statements_section q J s =
      section q 5 J (one statement_row) StatementGiven (λ f g. 0) refl s (λ la a b c d e f g. refl)
      (λ a b c d e f g xs h n. let r = row 5 a b c d e f g in (statement_of (r ∷ []), alone (statement_row (statement_of (r ∷ []))) r xs n (stmt_back a b c d e f g [] h), statement_given (r ∷ [])))

  -- the body order of a node
  order_section : (la : ℕ) (R : List Row) → la ≤ 6 → Each (Past la R) (5 ∷ 4 ∷ 3 ∷ []) → Accepts form (bare 2 la) R → Section 2 6 (5 ∷ 4 ∷ 3 ∷ []) (one body_element_row) (λ x. Sure) R
  unfolding role_of shape_fits
  order_section =
      section 2 6 (5 ∷ 4 ∷ 3 ∷ []) (one body_element_row) (λ x. Sure) (λ f g. 0) refl (omega arith) (λ la a b c d e f g. refl)
      (λ a b c d e f g xs h n. let r = row 6 a b c d e f g in (body_element_of (r ∷ []), alone (body_element_row (body_element_of (r ∷ []))) r xs n (mark_back a b c d e f g [] h), tt))

  -- the urls of an extern
  urls_section : (la : ℕ) (R : List Row) → la ≤ 10 → Each (Past la R) (4 ∷ []) → Accepts form (bare 8 la) R → Section 8 10 (4 ∷ []) (one url_row) (λ x. IsPresent x.fragment) R
  unfolding role_of shape_fits url_of
  urls_section =
      section 8 10 (4 ∷ []) (one url_row) (λ x. IsPresent x.fragment) (λ f g. 0) refl (omega arith) (λ la a b c d e f g. refl)
      (λ a b c d e f g xs h n. let r = row 10 a b c d e f g in (url_of (r ∷ []), alone (url_row (url_of (r ∷ []))) r xs n (url_back (takes_marks form) a b c d e f g [] h), present b))

  -- ---- an instance

  -- what an instance owes follows it
  instance_cut : (la a b c d e f g : ℕ) (l : List Row) → Accepts form (bare 2 la) (row 13 a b c d e f g ∷ l) → (x : ProtoInstance) × (left : List Row) × (row 13 a b c d e f g ∷ l ≡ instance_rows x ++ left) × InstanceGiven (some x) × Accepts form (bare 2 13) left
  unfolding role_of shape_fits
  instance_cut la a b c d e f g l t =
      let r = row 13 a b c d e f g in
      let x = by_role_lem form 2 la r l Inner refl t in
      let i = cut_ids 2 13 c d b l (tested form (comes_in (bare 2 la) r) (after_inner (bare 2 la) r) l x.1).1 in
      let o = cut_owed form (λ n. at 2 13 0 n d) route_row (λ y. (route_asks y).given) (λ n h. let z : suc n ≡ 0 = search tests in omega arith) (route_owed d) c i.1 i.5 in
      let s = cut_owed form (λ n. at 2 13 0 0 n) association_row (λ y. Sure) (λ n h. let z : suc n ≡ 0 = search tests in omega arith) association_owed d o.1 o.5 in (
        record { proto_name = a; extra_roots = i.0; routes = o.0; is_map = s.0 },
        s.1,
        ap₂ ◌∷◌ (head i.0 o.0 s.0 i.3 o.3 s.3 x.0) (three (map id_row i.0) (map route_row o.0) (map association_row s.0) s.1 l i.1 o.1 i.2 o.2 s.2),
        o.4,
        s.5,
      )
    where
      head : (xs : List ℕ) (ys : List Route) (zs : List Association) → length xs ≡ b → length ys ≡ c → length zs ≡ d → shape_fits (takes_marks form) (row 13 a b c d e f g) ≡ true → row 13 a b c d e f g ≡ row 13 a (length xs) (length ys) (length zs) 0 0 0
      head xs ys zs i j k h = rw (i, j, k) (sym (zero_e 13 a b c d e f g (and_r (is_name a) _ h)))

  -- at most one, and then no other row of the node
  any_instance_cut : (la : ℕ) (R : List Row) → Each (Past la R) (6 ∷ 5 ∷ 4 ∷ 3 ∷ []) → Accepts form (bare 2 la) R → (x : Option ProtoInstance) × (left : List Row) × (lb : ℕ) × (R ≡ any_instance_rows x ++ left) × InstanceGiven x × Outer left × Accepts form (bare 2 lb) left
  any_instance_cut la R j t = go R j t
    where
      none_left : (R : List Row) → Each (Past la R) (6 ∷ 5 ∷ 4 ∷ 3 ∷ []) → Begins (λ i. i ≡ 13 → ⊥) R → Accepts form (bare 2 la) R → Outer R
      none_left R j m t = outer form 2 la R (inr (inl j.1.1.1.0), (inr (inl j.1.1.0), (inr (inl j.1.0), (inr (inl j.0), (inr (inr (λ r e. rw e)), (inr (inl (inr m)), tt)))))) t

      go : (R : List Row) → Each (Past la R) (6 ∷ 5 ∷ 4 ∷ 3 ∷ []) → Accepts form (bare 2 la) R → (x : Option ProtoInstance) × (left : List Row) × (lb : ℕ) × (R ≡ any_instance_rows x ++ left) × InstanceGiven x × Outer left × Accepts form (bare 2 lb) left
      go [] j t = (none, [], la, refl, tt, tt, t)
      go (r ∷ l) j t = by (ℕ_discrete r.kind 13)
        where
          by : Dec (r.kind ≡ 13) → (x : Option ProtoInstance) × (left : List Row) × (lb : ℕ) × (r ∷ l ≡ any_instance_rows x ++ left) × InstanceGiven x × Outer left × Accepts form (bare 2 lb) left
          by (no m) = (none, r ∷ l, la, refl, tt, none_left (r ∷ l) j m t, t)
          by (yes m) =
              let e = as_kind r 13 m in
              let w = instance_cut la r.a r.b r.c r.d r.e r.f r.g l (rw e at t) in
              let z : 13 ≤ 13 = omega arith in
              (some w.0, w.1, 13, ap (λ (q : Row). q ∷ l) e ∙ w.2, w.3, outer form 2 13 w.1 (inl z, (inl z, (inl z, (inl z, (inl z, (inl z, tt)))))) w.4, w.4)

  -- ---- nodes, protos, externs

  -- a part of kind k that is cut off
  part_cut : {A : Type 0} (k : ℕ) (J : List ℕ) (print : A → List Row) (G : A → Type 0) (x : A) (R left : List Row) (lb : ℕ) → 1 ≤ k → Each (λ j. j < k) J → R ≡ print x ++ left → 0 < length (print x) → G x → Outer left → Accepts form (bare k lb) left → Cut form print G (Outside k J) R
  part_cut k J print G x R left lb i s e n g o t =
      let m = ap length e ∙ length-append (print x) left in
      record { item = x; left = left; part = k; last = lb; is = e; less = omega arith; given = g; holds = (i, omega arith, o, beyond k left J s); goes = t }

  -- a row that opens a part: its shape, and what fits in the part
  opened_by : (k : ℕ) → role_of k ≡ Opens → (p la a b c d e f g : ℕ) (l : List Row) → Accepts form (bare p la) (row k a b c d e f g ∷ l) → (shape_fits (takes_marks form) (row k a b c d e f g) ≡ true) × Accepts form (bare k 0) l
  opened_by k role p la a b c d e f g l t =
      let x = by_role_lem form p la (row k a b c d e f g) l Opens role t in
      (x.0, (tested form (leb 1 p && leb p k && ltb p 11) (opened_part k) l x.1).1)

  -- a node: its row, then its five lists
  node_cut : (p la a b c d e f g : ℕ) (l : List Row) → Outside 2 [] p la (row 2 a b c d e f g ∷ l) → Accepts form (bare p la) (row 2 a b c d e f g ∷ l) → Cut form node_rows NodeGiven (Outside 2 []) (row 2 a b c d e f g ∷ l)
  unfolding role_of shape_fits
  node_cut p la a b c d e f g l w t =
      let r = row 2 a b c d e f g in
      let x = opened_by 2 refl p la a b c d e f g l t in
      let F = fields_section 0 l (omega arith) tt x.1 in
      let I = interfaces_section 2 (3 ∷ []) (omega arith) F.last F.left (let m = F.most in omega arith) F.past F.goes in
      let S = statements_section 2 (4 ∷ 3 ∷ []) (omega arith) I.last I.left (let m = I.most in omega arith) I.past I.goes in
      let O = order_section S.last S.left (let m = S.most in omega arith) S.past S.goes in
      let N = any_instance_cut O.last O.left O.past O.goes in
      let X : Node = record { type_name = a; def_name = optional b; origin = origin_of (r ∷ []); fields = F.items; interface = I.items; statements = S.items; body_order = O.items; instance = N.0 } in
      part_cut 2 [] node_rows NodeGiven X (r ∷ l) N.1 N.2 (omega arith) tt
      (ap₂ ◌∷◌ (sym (node_back a b c d e f g [] x.0))
      (five (flat field_rows F.items) (flat interface_rows I.items) (map statement_row S.items) (map body_element_row O.items) (any_instance_rows N.0) N.1 l F.left I.left S.left O.left F.is I.is (as_map statement_row S.items S.left S.is) (as_map body_element_row O.items O.left O.is) N.3))
      (omega arith) (present b, I.given, S.given, N.4) N.5 N.6

  -- interfaces and then single rows: what a proto and an extern hold
  two_lists : {A : Type 0} (print : A → Row) (is : List InterfaceDecl) (xs : List A) (l m left : List Row) → l ≡ flat interface_rows is ++ m → m ≡ flat (one print) xs ++ left → l ≡ (flat interface_rows is ++ map print xs) ++ left
  two_lists print is xs l m left h i = rw (h, i, rows_map print xs) (simp append_assoc)

  -- a proto
  proto_cut : (p la a b c d e f g : ℕ) (l : List Row) → Outside 7 (2 ∷ []) p la (row 7 a b c d e f g ∷ l) → Accepts form (bare p la) (row 7 a b c d e f g ∷ l) → Cut form proto_rows ProtoGiven (Outside 7 (2 ∷ [])) (row 7 a b c d e f g ∷ l)
  unfolding role_of shape_fits
  proto_cut p la a b c d e f g l w t =
      let r = row 7 a b c d e f g in
      let x = opened_by 7 refl p la a b c d e f g l t in
      let I = interfaces_section 7 [] tt 0 l (omega arith) tt x.1 in
      let S = statements_section 7 (4 ∷ []) (omega arith) I.last I.left (let m = I.most in omega arith) I.past I.goes in
      let X : ProtoDecl = record { name = a; interface = I.items; body = S.items } in
      part_cut 7 (2 ∷ []) proto_rows ProtoGiven X (r ∷ l) S.left S.last (omega arith) (omega arith)
      (ap₂ ◌∷◌ (sym (name_back 7 a b c d e f g x.0)) (two_lists statement_row I.items S.items l I.left S.left I.is S.is))
      (omega arith) (I.given, S.given)
      (outer form 7 S.last S.left (inr (inr (λ q z. rw z)), (inr (inl S.past.1.0), (inr (inl S.past.0), (inr (inr (λ q z. rw z)), (inr (inr (λ q z. rw z)), (inr (inr (λ q z. rw z)), tt)))))) S.goes) S.goes

  -- an extern
  extern_cut : (p la a b c d e f g : ℕ) (l : List Row) → Outside 8 (7 ∷ 2 ∷ []) p la (row 8 a b c d e f g ∷ l) → Accepts form (bare p la) (row 8 a b c d e f g ∷ l) → Cut form extern_proto_rows ExternProtoGiven (Outside 8 (7 ∷ 2 ∷ [])) (row 8 a b c d e f g ∷ l)
  unfolding role_of shape_fits
  extern_cut p la a b c d e f g l w t =
      let r = row 8 a b c d e f g in
      let x = opened_by 8 refl p la a b c d e f g l t in
      let I = interfaces_section 8 [] tt 0 l (omega arith) tt x.1 in
      let U = urls_section I.last I.left (let m = I.most in omega arith) I.past I.goes in
      let X : ExternProtoDecl = record { name = a; interface = I.items; urls = U.items } in
      part_cut 8 (7 ∷ 2 ∷ []) extern_proto_rows ExternProtoGiven X (r ∷ l) U.left U.last (omega arith) (omega arith)
      (ap₂ ◌∷◌ (sym (name_back 8 a b c d e f g x.0)) (two_lists url_row I.items U.items l I.left U.left I.is U.is))
      (omega arith) (I.given, U.given)
      (outer form 8 U.last U.left (inr (inr (λ q z. rw z)), (inr (inl U.past.1.0), (inr (inr (λ q z. rw z)), (inr (inr (λ q z. rw z)), (inr (inl U.past.0), (inr (inr (λ q z. rw z)), tt)))))) U.goes) U.goes

  -- ---- a document

  -- a row that fits with nothing owed, by its role
  roles : {X : Type 0} (p la : ℕ) (r : Row) (l : List Row) → Accepts form (bare p la) (r ∷ l) → (p ≡ 0 → r.kind ≡ 1 → shape_fits (takes_marks form) r ≡ true → Accepts form (bare 1 0) l → X) →
      (1 ≤ p → p < 11 → p ≤ r.kind → role_of r.kind ≡ Opens → shape_fits (takes_marks form) r ≡ true → Accepts form (bare r.kind 0) l → X) → (role_of r.kind ≡ Inner → X) → (is_library form ≡ true → 11 ≤ p → r.kind ≡ 12 → X) → X
  roles {X} p la r l t starts opens inner files = go (role_of r.kind) refl
    where
      go : (role : Role) → role_of r.kind ≡ role → X
      go Starts h =
          let x = by_role_lem form p la r l Starts h t in
          let y = tested form (begins_in form p) (opened_part 1) l x.1 in
          starts (eqb-true p 0 (sym (single.begins p) ∙ y.0)) (kind_by_role (takes_marks form) r x.0 Starts h (λ k. k ≡ 1) (refl, tt)) x.0 y.1
      go Opens h =
          let x = by_role_lem form p la r l Opens h t in
          let y = tested form (leb 1 p && leb p r.kind && ltb p 11) (opened_part r.kind) l x.1 in
          let z : (leb 1 p && leb p r.kind && ltb p 11) ≡ true = y.0 in
          opens (search tests) (search tests) (search tests) h x.0 y.1
      go Inner h = inner h
      go Files h =
          let x = by_role_lem form p la r l Files h t in
          let y = tested form (is_library form && leb 11 p) (opened_part 0) l x.1 in
          files (and_l (is_library form) (leb 11 p) y.0) (leb-true 11 p (and_r (is_library form) (leb 11 p) y.0)) (kind_by_role (takes_marks form) r x.0 Files h (λ k. k ≡ 12) (refl, tt))
      go Owed h = no_go (by_role_lem form p la r l Owed h t).1.1
      go Never h = no_go (by_role_lem form p la r l Never h t).1.1

  -- no row stands inside part 0, 1 or 12
  outer_none : (q la : ℕ) (R : List Row) → ((r : Row) → stands_in q r ≡ false) → Accepts form (bare q la) R → Outer R
  outer_none q la R n t = let z : (r : Row) → stands_in q r ≡ false = n in outer form q la R (inr (inr (λ r e. z r)), (inr (inr (λ r e. z r)), (inr (inr (λ r e. z r)), (inr (inr (λ r e. z r)), (inr (inr (λ r e. z r)), (inr (inr (λ r e. z r)), tt)))))) t

  -- after the externs comes row 11
  top_cut : (p la : ℕ) (R : List Row) → 1 ≤ p → p ≤ 8 → Outer R → Each (Past p R) (8 ∷ 7 ∷ 2 ∷ []) → Accepts form (bare p la) R → (l : List Row) × (R ≡ top_row ∷ l) × Accepts form (bare 11 0) l
  unfolding shape_fits
  top_cut p la [] h i o j t = let y : ends_in form p ≡ true = search tests in let z : 11 ≤ p = leb-true 11 p (sym (single.ends p) ∙ y) in absurd (omega arith)
  top_cut p la (r ∷ l) h i o j t = roles p la r l t (λ e k s u. absurd (omega arith)) top (λ k. absurd (o k)) (λ b k e. absurd (omega arith))
    where
      gone : (k : ℕ) → Past p (r ∷ l) k → p ≤ r.kind → r.kind ≡ k → ⊥
      gone k x m e = ⊎_elim (λ (y : k < p). omega arith) (λ y. y e) x

      top : 1 ≤ p → p < 11 → p ≤ r.kind → role_of r.kind ≡ Opens → shape_fits (takes_marks form) r ≡ true → Accepts form (bare r.kind 0) l → (m : List Row) × (r ∷ l ≡ top_row ∷ m) × Accepts form (bare 11 0) m
      top a b c k s u =
          let e = kind_by_role (takes_marks form) r s Opens k (λ n. r.kind ≡ n → r.kind ≡ 11) ((λ z. absurd (gone 2 j.1.1.0 c z)), ((λ z. absurd (gone 7 j.1.0 c z)), ((λ z. absurd (gone 8 j.0 c z)), ((λ z. z), tt)))) refl in
          let m = as_kind r 11 e in
          (l, ap (λ (q : Row). q ∷ l) (m ∙ sym (top_back r.a r.b r.c r.d r.e r.f r.g (rw m at s))), rw e at u)

  -- from its row on, up to the end of its top
  document_cut : (la : ℕ) (R : List Row) → Accepts form (bare 0 la) R → (D : Document) × (left : List Row) × (lb : ℕ) × (R ≡ document_rows D ++ left) × DocumentGiven D × Outer left × Accepts form (bare 11 lb) left
  unfolding shape_fits document_rows
  document_cut la [] t = let y : ends_in form 0 ≡ true = search tests in never (sym (single.ends 0) ∙ y)
  document_cut la (r ∷ l) t = roles 0 la r l t (λ e. body) (λ h. absurd (omega arith)) (λ h. absurd (outer_none 0 la (r ∷ l) (λ q. refl) t h)) (λ b h. absurd (omega arith))
    where
      body : r.kind ≡ 1 → shape_fits (takes_marks form) r ≡ true → Accepts form (bare 1 0) l → (D : Document) × (left : List Row) × (lb : ℕ) × (r ∷ l ≡ document_rows D ++ left) × DocumentGiven D × Outer left × Accepts form (bare 11 lb) left
      body e s u =
          let m = as_kind r 1 e in
          let N = cuts form 2 node_rows NodeGiven (Outside 2 []) node_cut l 1 0 (omega arith, omega arith, outer_none 1 0 l (λ q. refl) u, tt) u in
          let P = cuts form 7 proto_rows ProtoGiven (Outside 7 (2 ∷ [])) proto_cut N.left N.part N.last (N.holds.0, (let h = N.holds.1 in omega arith), N.holds.2, (inr N.ahead, tt)) N.goes in
          let E = cuts form 8 extern_proto_rows ExternProtoGiven (Outside 8 (7 ∷ 2 ∷ [])) extern_cut P.left P.part P.last (P.holds.0, (let h = P.holds.1 in omega arith), P.holds.2, (inr P.ahead, P.holds.3)) P.goes in
          let T = top_cut E.part E.last E.left E.holds.0 E.holds.1 E.holds.2 (inr E.ahead, E.holds.3) E.goes in
          let S = statements_section 11 [] tt 0 T.0 (omega arith) tt T.2 in (
            record { header = r.a; nodes = N.items; protos = P.items; extern_protos = E.items; statements = S.items },
            S.left,
            S.last,
            ap₂ ◌∷◌ (m ∙ sym (zero_b 1 r.a r.b r.c r.d r.e r.f r.g (rw m at s)))
                (five (flat node_rows N.items) (flat proto_rows P.items) (flat extern_proto_rows E.items) (top_row ∷ []) (map statement_row S.items) S.left l N.left P.left E.left T.0 N.is P.is E.is T.1 (as_map statement_row S.items S.left S.is)),
            (N.given, P.given, E.given, S.given),
            outer form 11 S.last S.left (inr (inr (λ q z. rw z)), (inr (inr (λ q z. rw z)), (inr (inl S.past.0), (inr (inr (λ q z. rw z)), (inr (inr (λ q z. rw z)), (inr (inr (λ q z. rw z)), tt)))))) S.goes,
            S.goes,
          )

  -- ---- a library, a sheet

  -- before a file
  abbrev BeforeFile : ℕ → ℕ → List Row → Type 0
  BeforeFile p la R = (11 ≤ p) × Outer R

  -- a file: its row, then a document
  file_cut : (p la a b c d e f g : ℕ) (l : List Row) → BeforeFile p la (row 12 a b c d e f g ∷ l) → Accepts form (bare p la) (row 12 a b c d e f g ∷ l) → Cut form file_rows FileGiven BeforeFile (row 12 a b c d e f g ∷ l)
  unfolding role_of shape_fits
  file_cut p la a b c d e f g l w t =
      let r = row 12 a b c d e f g in
      let x = by_role_lem form p la r l Files refl t in
      let D = document_cut 0 l (tested form (is_library form && leb 11 p) (opened_part 0) l x.1).1 in
      let y : r ∷ l ≡ file_rows (record { base = a; document = D.0 }) ++ D.1 = ap₂ ◌∷◌ (sym (name_back 12 a b c d e f g x.0)) D.3 in
      let n = ap length y ∙ length-append (file_rows (record { base = a; document = D.0 })) D.1 in
      record { item = record { base = a; document = D.0 }; left = D.1; part = 11; last = D.2; is = y; less = omega arith; given = D.4; holds = (omega arith, D.5); goes = D.6 }

  -- a sheet ends after its top, if no file follows
  at_end : (p la : ℕ) (R : List Row) → 11 ≤ p → Outer R → (is_library form ≡ true → Begins (λ k. k ≡ 12 → ⊥) R) → Accepts form (bare p la) R → R ≡ []
  at_end p la [] h o f t = refl
  at_end p la (r ∷ l) h o f t = roles p la r l t (λ e k s u. absurd (omega arith)) (λ i j k m s u. absurd (omega arith)) (λ k. absurd (o k)) (λ b k e. absurd (f b e))

  -- a root sheet or an expanded document that fits is the print of a document
  pub document_whole : is_library form ≡ false → (R : List Row) → Accepts form (bare 0 0) R → (D : Document) × (R ≡ document_rows D) × DocumentGiven D
  document_whole f R t =
      let D = document_cut 0 R t in
      let e = at_end 11 D.2 D.1 (omega arith) D.5 (λ b. never (sym f ∙ b)) D.6 in
      (D.0, D.3 ∙ ap (◌++◌ (document_rows D.0)) e ∙ append-nil (document_rows D.0), D.4)

  -- a library that fits is the print of files
  pub library_whole : (R : List Row) → Accepts form (bare 12 0) R → (L : List File) × (R ≡ library_rows L) × Each FileGiven L
  unfolding library_rows
  library_whole R t =
      let C = cuts form 12 file_rows FileGiven BeforeFile file_cut R 12 0 (omega arith, outer_none 12 0 R (λ q. refl) t) t in
      let e = at_end C.part C.last C.left C.holds.0 C.holds.1 (λ b. C.ahead) C.goes in
      (C.items, C.is ∙ ap (◌++◌ (flat file_rows C.items)) e ∙ append-nil (flat file_rows C.items), C.given)
