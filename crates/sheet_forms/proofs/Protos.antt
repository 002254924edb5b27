-- Sheets of protos without body statements (document 02, wish 14): the sheet and what it says determine each other.
-- A sheet of protos is what stands between a document's row and row 11, in a root sheet of nothing else.
use mathlib.Core.Path.{◌≡◌, refl, sym, ap, ap₂, subst, ◌∙◌}
use mathlib.Core.List.{List, [], ◌∷◌, ◌++◌, map, append-nil}
use mathlib.Core.Option.{Option, none, some}
use mathlib.Core.Bool.{Bool, true, false, ◌&&◌, ◌||◌}
use mathlib.Core.Logic.{◌↔◌, ⊎_elim}
use Prim.Native.Nat.{ℕ, ◌≤◌, ◌<◌}
use native.Mathlib.Omega.{arith}
use lib.Dec.{ltb, leb, eqb}
use borrow.Author.Tests.{eqb-true, le-leb, lt-ltb}
use Rattle.ast.specs.Ast.{Document, ProtoDecl, Node, NodeOrigin, ExternProtoDecl, Statement, InterfaceDecl, FieldData, FieldValue}
use Rattle.ast.proofs.Basics.{and_l, and_r}
use Rattle.ast.specs.Choice.{choose}
use Rattle.ast.specs.Lists.{flat}
use Rattle.ast.specs.Each.{Each}
use Rattle.sheet_rows.specs.declared.row.Row.{Row}
use Rattle.sheet_rows.specs.Rows.{rest}
use Rattle.sheet_rows.specs.Parse.{document_of, protos_of}
use Rattle.sheet_rows.specs.Print.{row, top_row, id_row, data_rows, default_rows, node_row, node_rows, proto_rows, extern_proto_rows, statement_row, interface_rows, document_rows, protos_rows}
use Rattle.sheet_shape.specs.Shape.{shape_fits}
use Rattle.sheet_check.specs.declared.grammar.Form.TheVariants.{Root, Protos}
use Rattle.sheet_check.specs.declared.grammar.State.{State}
use Rattle.sheet_check.specs.declared.grammar.Role.{Role}
use Rattle.sheet_check.specs.declared.grammar.Role.TheVariants.{Starts, Opens, Inner, Files, Owed, Never}
use Rattle.std.specs.Prelude.{Option as Maybe, Some, None}
use Rattle.sheet_check.specs.Checked.{Fits}
use Rattle.sheet_check.specs.Grammar.{role_of, opened_part, go_if, less_id, less_route, less_association, by_role, comes_in, after_inner, moves, row_fits, stays_bare, fits, has_ended, checked}
use Rattle.sheet_roundtrip.specs.Ranges.{InRange, ProtoInRange}
use Rattle.sheet_roundtrip.proofs.Tests.{never, or_e, among}
use Rattle.sheet_roundtrip.proofs.Accepts.{bare, no_go, go_inj, go_l, go_r, Accepts, accepts, accepted}
use Rattle.sheet_roundtrip.proofs.Scan.{Among}
use Rattle.sheet_roundtrip.proofs.Cuts.{as_kind}
use Rattle.sheet_roundtrip.proofs.Parsed.{protos_parsed}
use Rattle.sheet_roundtrip.proofs.RoundTrip.{root_printed_back, root_fits, root_in_range}
use Rattle.sheet_forms.specs.Several.{Bodiless}
use Rattle.sheet_forms.proofs.Rows.{none_owed, owes_none, goes}

-- each row is one of a proto without body statements
abbrev Bare : List Row → Type 0
Bare R = Each (λ r. stays_bare r ≡ true) R

-- in a root sheet
abbrev framed : List Row → List Row
framed R = row 1 0 0 0 0 0 0 0 ∷ R ++ (top_row ∷ [])

-- ---- one row

-- but for what is allowed, a row of protos moves as one of a root sheet
same_moves : (s : State) (r : Row) → moves Protos s r ≡ moves Root s r
unfolding moves
same_moves s r = ap (λ (x : Maybe State). choose (ltb 0 s.ids) (go_if (eqb r.kind 9) (less_id s)) (choose (ltb 0 s.routes) (go_if (eqb r.kind 5 && eqb r.a 3) (less_route s)) (choose (ltb 0 s.associations) (go_if (eqb r.kind 14) (less_association s)) x))) (go (role_of r.kind))
  where
    go : (role : Role) → by_role Protos s r role ≡ by_role Root s r role
    go Starts = refl
    go Opens = refl
    go Inner = refl
    go Files = refl
    go Owed = refl
    go Never = refl

same_fits : (s : State) (r : Row) → row_fits Protos s r ≡ fits Root s r
unfolding fits
same_fits s r = ap (λ (x : Maybe State). choose (shape_fits false r) x None) (same_moves s r)

-- ---- from a root sheet to protos

-- row 11 comes where nothing is owed
top_row_lem : (s : State) → fits Root s top_row ≡ choose true (choose (ltb 0 s.ids) None (choose (ltb 0 s.routes) None (choose (ltb 0 s.associations) None (go_if (leb 1 s.part && leb s.part 11 && ltb s.part 11) (opened_part 11))))) None
unfolding fits moves role_of shape_fits
top_row_lem s = refl

bare_of : (R : List Row) (s : State) → Bare R → Accepts Root s (R ++ (top_row ∷ [])) → Accepts Protos s R
unfolding fits
bare_of [] s b k =
    let g = goes (ltb 0 s.ids) (ltb 0 s.routes) (ltb 0 s.associations) true (leb 1 s.part && leb s.part 11 && ltb s.part 11) (opened_part 11) k.0 (sym (top_row_lem s) ∙ k.1) in
    rw (none_owed s.ids g.ids, none_owed s.routes g.routes, none_owed s.associations g.associations)
bare_of (r ∷ R) s b k = (k.0, rw b.0 (same_fits s r ∙ k.1), bare_of R k.0 b.1 k.2)

-- ---- from protos to a root sheet

-- before the first proto, or in one
abbrev Inside : State → Type 0
Inside s = (1 ≤ s.part) × (s.part ≤ 7)

-- a row that pays an id, or else none
pays : (A B C S : Bool) (u t : State) → choose S (choose A (Some u) (choose B None (choose C None None))) None ≡ Some t → u ≡ t
pays A B C false u t h = no_go h
pays true B C true u t h = go_inj h
pays false true C true u t h = no_go h
pays false false true true u t h = no_go h
pays false false false true u t h = no_go h

-- a row keeps inside
module _ (s t : State) (a b c d e f g : ℕ) (i : Inside s) where
  seven : fits Root s (row 7 a b c d e f g) ≡ Some t → Inside t
  unfolding fits moves role_of
  seven h = let x = goes (ltb 0 s.ids) (ltb 0 s.routes) (ltb 0 s.associations) (shape_fits false (row 7 a b c d e f g)) (leb 1 s.part && leb s.part 7 && ltb s.part 11) (opened_part 7) t h in subst Inside x.to (omega arith)

  four : fits Root s (row 4 a b c d e f g) ≡ Some t → Inside t
  unfolding fits moves role_of
  four h = let x = goes (ltb 0 s.ids) (ltb 0 s.routes) (ltb 0 s.associations) (shape_fits false (row 4 a b c d e f g)) (comes_in s (row 4 a b c d e f g)) (after_inner s (row 4 a b c d e f g)) t h in subst Inside x.to i

  nine : fits Root s (row 9 a b c d e f g) ≡ Some t → Inside t
  unfolding fits moves role_of
  nine h = subst Inside (pays (ltb 0 s.ids) (ltb 0 s.routes) (ltb 0 s.associations) (shape_fits false (row 9 a b c d e f g)) (less_id s) t h) i

stays_inside : (s t : State) (r : Row) → stays_bare r ≡ true → fits Root s r ≡ Some t → Inside s → Inside t
stays_inside s t r b h i = ⊎_elim (λ x. ⊎_elim (λ (e : eqb r.kind 7 ≡ true). seven s t r.a r.b r.c r.d r.e r.f r.g i (of_kind 7 (eqb-true r.kind 7 e))) (λ (e : eqb r.kind 4 ≡ true). four s t r.a r.b r.c r.d r.e r.f r.g i (of_kind 4 (eqb-true r.kind 4 e))) (or_e (eqb r.kind 7) (eqb r.kind 4) x)) (λ (e : eqb r.kind 9 ≡ true). nine s t r.a r.b r.c r.d r.e r.f r.g i (of_kind 9 (eqb-true r.kind 9 e))) (or_e (eqb r.kind 7 || eqb r.kind 4) (eqb r.kind 9) b)
  where
    of_kind : (k : ℕ) → r.kind ≡ k → fits Root s (row k r.a r.b r.c r.d r.e r.f r.g) ≡ Some t
    of_kind k m = ap (fits Root s) (sym (as_kind r k m)) ∙ h

root_of_lem : (R : List Row) (s : State) → Inside s → Accepts Protos s R → Bare R × Accepts Root s (R ++ (top_row ∷ []))
unfolding fits
root_of_lem [] s i k =
    let a = and_l (eqb s.ids 0 && eqb s.routes 0) (eqb s.associations 0) k in
    let e : choose true (choose (ltb 0 s.ids) None (choose (ltb 0 s.routes) None (choose (ltb 0 s.associations) None (go_if (leb 1 s.part && leb s.part 11 && ltb s.part 11) (opened_part 11))))) None ≡ Some (opened_part 11) =
    rw (owes_none s.ids (and_l (eqb s.ids 0) (eqb s.routes 0) a), owes_none s.routes (and_r (eqb s.ids 0) (eqb s.routes 0) a), owes_none s.associations (and_r (eqb s.ids 0 && eqb s.routes 0) (eqb s.associations 0) k), le-leb 1 s.part i.0, le-leb s.part 11 (omega arith), lt-ltb s.part 11 (omega arith)) in
    (tt, (opened_part 11, top_row_lem s ∙ e, refl))
root_of_lem (r ∷ R) s i k =
    let b = go_l (stays_bare r) (row_fits Protos s r) k.0 k.1 in
    let e : fits Root s r ≡ Some k.0 = sym (same_fits s r) ∙ go_r (stays_bare r) (row_fits Protos s r) k.0 k.1 in
    let w = root_of_lem R k.0 (stays_inside s k.0 r b e i) k.2 in
    ((b, w.0), (k.0, e, w.1))

-- ---- the whole sheet

first_row : fits Root (bare 0 0) (row 1 0 0 0 0 0 0 0) ≡ Some (bare 1 0)
unfolding fits moves role_of shape_fits
first_row = refl

protos_framed : (R : List Row) → checked Protos R ≡ Fits → Bare R × (checked Root (framed R) ≡ Fits)
protos_framed R h =
    let w = root_of_lem R (bare 1 0) (omega arith) (accepts Protos R (bare 1 0) 0 h) in
    (w.0, accepted Root (framed R) (bare 0 0) 0 (bare 1 0, first_row, w.1))

framed_protos : (R : List Row) → Bare R → checked Root (framed R) ≡ Fits → checked Protos R ≡ Fits
framed_protos R b h =
    let a = accepts Root (framed R) (bare 0 0) 0 h in
    accepted Protos R (bare 1 0) 0 (bare_of R (bare 1 0) b (subst (λ (t : State). Accepts Root t (R ++ (top_row ∷ []))) (go_inj (sym a.1 ∙ first_row)) a.2))

-- ---- protos are printed in such rows

bare_append : (Q R : List Row) → Bare Q → Bare R → Bare (Q ++ R)
bare_append [] R a b = b
bare_append (r ∷ Q) R a b = (a.0, bare_append Q R a.1 b)

ids_bare : (l : List ℕ) → Bare (map id_row l)
ids_bare [] = tt
ids_bare (i ∷ l) = (refl, ids_bare l)

data_bare : (d : FieldData) → Bare (data_rows d)
data_bare (FieldData.Payload p) = tt
data_bare (FieldData.Nodes l) = ids_bare l

default_bare : (x : InterfaceDecl) (v : Option FieldValue) → Bare (default_rows x v)
default_bare x none = (refl, tt)
default_bare x (some v) = (refl, data_bare v.«data»)

interfaces_bare : (l : List InterfaceDecl) → Bare (flat interface_rows l)
interfaces_bare [] = tt
interfaces_bare (x ∷ l) = bare_append (interface_rows x) (flat interface_rows l) (default_bare x x.value) (interfaces_bare l)

protos_bare : (P : List ProtoDecl) → Each Bodiless P → Bare (flat proto_rows P)
protos_bare [] h = tt
protos_bare (x ∷ P) h = bare_append (proto_rows x) (flat proto_rows P) (refl, bare_append (flat interface_rows x.interface) (map statement_row x.body) (interfaces_bare x.interface) (subst (λ (l : List Statement). Bare (map statement_row l)) (sym h.0) tt)) (protos_bare P h.1)

-- ---- such rows are those of protos

-- of these kinds are all rows before and with row 11
abbrev K : List ℕ
K = 7 ∷ 4 ∷ 9 ∷ 11 ∷ []

bare_among : (R : List Row) → Bare R → Among K (R ++ (top_row ∷ []))
bare_among [] b = (refl, tt)
bare_among (r ∷ R) b = (go (eqb r.kind 7) (eqb r.kind 4) (eqb r.kind 9) (eqb r.kind 11 || false) b.0, bare_among R b.1)
  where
    go : (x y z w : Bool) → (x || y || z) ≡ true → (x || (y || (z || w))) ≡ true
    go true y z w h = refl
    go false true z w h = refl
    go false false true w h = refl
    go false false false w h = never h

split : (Q R : List Row) → Among K (Q ++ R) → Among K Q × Among K R
split [] R h = (tt, h)
split (r ∷ Q) R h = let w = split Q R h.1 in ((h.0, w.0), w.1)

no_nodes_lem : (l : List Node) → Among K (flat node_rows l) → l ≡ []
no_nodes_lem [] h = refl
no_nodes_lem (x ∷ l) h = absurd (go x.type_name x.def_name x.origin h.0)
  where
    go : (t : ℕ) (n : Option ℕ) (o : NodeOrigin) → among (node_row t n o).kind K ≡ true → ⊥
    go t n NodeOrigin.Builtin e = never e
    go t n (NodeOrigin.Proto i) e = never e
    go t n (NodeOrigin.ExternProto i) e = never e
    go t n NodeOrigin.Unknown e = never e

no_externs : (l : List ExternProtoDecl) → Among K (flat extern_proto_rows l) → l ≡ []
no_externs [] h = refl
no_externs (x ∷ l) h = never h.0

no_statements : (l : List Statement) → Among K (map statement_row l) → l ≡ []
no_statements [] h = refl
no_statements (x ∷ l) h = absurd (go x h.0)
  where
    go : (x : Statement) → among (statement_row x).kind K ≡ true → ⊥
    go (Statement.Node i) e = never e
    go (Statement.Proto i) e = never e
    go (Statement.ExternProto i) e = never e
    go (Statement.Route x) e = never e
    go (Statement.Other p) e = never e

bodiless : (P : List ProtoDecl) → Among K (flat proto_rows P) → Each Bodiless P
bodiless [] h = tt
bodiless (x ∷ P) h =
    let w = split (proto_rows x) (flat proto_rows P) h in
    (no_statements x.body (split (flat interface_rows x.interface) (map statement_row x.body) w.0.1).1, bodiless P w.1)

-- all but the last row
but_last : List Row → List Row
but_last [] = []
but_last (r ∷ []) = []
but_last (r ∷ q ∷ l) = r ∷ but_last (q ∷ l)

but_last_lem : (R : List Row) (q : Row) → but_last (R ++ (q ∷ [])) ≡ R
unfolding but_last
but_last_lem [] q = refl
but_last_lem (r ∷ []) q = refl
but_last_lem (r ∷ p ∷ R) q = ap (◌∷◌ r) (but_last_lem (p ∷ R) q)

record Read (R : List Row) : Type 0 where
  pub protos : List ProtoDecl
  pub range : Each ProtoInRange protos
  pub bare : Each Bodiless protos
  pub is : protos_rows protos ≡ R

read : (R : List Row) → checked Protos R ≡ Fits → Read R
unfolding document_rows protos_rows
read R h =
    let w = protos_framed R h in
    let D = document_of (framed R) in
    let e : document_rows D ≡ framed R = root_printed_back (framed R) w.1 in
    let d = ap rest e in
    let a = subst (Among K) (sym d) (bare_among R w.0) in
    let n = split (flat node_rows D.nodes) _ a in
    let p = split (flat proto_rows D.protos) _ n.1 in
    let x = split (flat extern_proto_rows D.extern_protos) _ p.1 in
    let l : flat proto_rows D.protos ++ (top_row ∷ []) ≡ R ++ (top_row ∷ []) = rw (no_nodes_lem D.nodes n.0, no_externs D.extern_protos x.0, no_statements D.statements x.1.1) at d in
    record { protos = D.protos; range = (root_in_range (framed R) w.1).protos; bare = bodiless D.protos p.0; is = sym (but_last_lem (flat proto_rows D.protos) top_row) ∙ ap but_last l ∙ but_last_lem R top_row }

-- ---- the theorems

-- a sheet of protos that fits says protos in range, without body statements, and is written in its own rows
pub protos_in_range : (R : List Row) → checked Protos R ≡ Fits → Each ProtoInRange (protos_of R) × Each Bodiless (protos_of R) × (protos_rows (protos_of R) ≡ R)
protos_in_range R h =
    let w = read R h in
    let e : protos_of R ≡ w.protos = ap protos_of (sym w.is) ∙ protos_parsed w.protos w.range in
    rw e (w.range, w.bare, w.is)

-- such protos are what their rows say
pub protos_parsed_back : (P : List ProtoDecl) → Each ProtoInRange P → protos_of (protos_rows P) ≡ P
protos_parsed_back = protos_parsed

-- and these fit
pub protos_fit : (P : List ProtoDecl) → Each ProtoInRange P → Each Bodiless P → checked Protos (protos_rows P) ≡ Fits
unfolding document_rows protos_rows
protos_fit P r b = framed_protos (flat proto_rows P) (protos_bare P b) (root_fits (record { header = 0; nodes = []; protos = P; extern_protos = []; statements = [] }) (record { nodes = tt; protos = r; extern_protos = tt; statements = tt }))

-- so the sheets that fit are the prints of such protos
pub protos_sheets : (R : List Row) → (checked Protos R ≡ Fits) ↔ ((P : List ProtoDecl) × Each ProtoInRange P × Each Bodiless P × (protos_rows P ≡ R))
protos_sheets R = ((λ h. let w = protos_in_range R h in (protos_of R, w.0, w.1, w.2)), (λ w. ap (checked Protos) (sym w.3) ∙ protos_fit w.0 w.1 w.2))
