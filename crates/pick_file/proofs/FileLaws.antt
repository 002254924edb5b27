-- The pick within a file: the walk over the top-level Proto statements, and the lookup of their prototypes.
use mathlib.Core.Path.{◌≡◌, refl, sym, ap, subst, ◌∙◌}
use mathlib.Core.Bool.{Bool, true, false}
use mathlib.Core.List.{List, [], ◌∷◌, map}
use mathlib.Core.Option.{Option, none, some}
use Prim.Native.Nat.{ℕ, zero, suc, ◌+◌, ◌≤◌}
use native.Mathlib.Omega.{arith}
use lib.ListN.{length, get_or, drop, get_elem?, length-drop, length-map, drop_of_length-le}
use lib.Dec.{eqb}
use Rattle.ast.specs.Ast.{ProtoDecl, Route, Statement, Document}
use Rattle.ast.specs.Choice.{first}
use Rattle.sheet_rows.specs.declared.row.Row.{Row}
use Rattle.sheet_rows.specs.declared.part.Part.{Part}
use Rattle.sheet_rows.specs.declared.part.Part.TheVariants.{Protos, Statements, Tops}
use Rattle.sheet_rows.specs.Rows.{blank, front}
use Rattle.sheet_rows.specs.Parse.{elements, statement_of, statements_of, proto_of, document_of}
use Rattle.sheet_walks.specs.declared.walk.Found.{Found}
use Rattle.sheet_walks.specs.declared.walk.Found.TheVariants.{At, Nothing}
use Rattle.sheet_walks.specs.Walk.{Stands, Nth}
use Rattle.sheet_lookup.specs.Lookup.{document_at}
use Rattle.sheet_walks.proofs.ElementsLaws.{elements_few}
use Rattle.sheet_walks.proofs.WalkLaws.{each_at, each_none, at_map, front_drop, rest_drop, from_here}
use Rattle.std.specs.Prelude.{Option as Maybe, Some, None}
use Rattle.pick_file.specs.declared.TopProto.{TopProto}
use Rattle.pick_definition.specs.PickIn.{top_protos, is_named, first_named, pick_in}
use Rattle.pick_file.specs.File.{id_of, option_of, protos_from, StandsProto, NextProto, protos_at, FirstNamed}

-- a column of the row that was read
column : (R : List Row) (q : ℕ) {r : Row} (f : Row → ℕ) → r ≡ get_or R q blank → f (front (drop q R)) ≡ f r
column R q f is = ap f (front_drop R q ∙ sym is)

-- ---- the next Proto statement

-- a statement of another kind than 1 names no prototype
passed : (a i p x o : ℕ) (r : Route) (l : List Statement) → (a ≡ 1 → ⊥) → top_protos (get_or (Statement.Node i ∷ Statement.Proto p ∷ Statement.ExternProto x ∷ Statement.Route r ∷ []) a (Statement.Other o) ∷ l) ≡ top_protos l
unfolding top_protos
passed zero i p x o r l n = refl
passed (suc zero) i p x o r l n = absurd (n refl)
passed (suc (suc zero)) i p x o r l n = refl
passed (suc (suc (suc zero))) i p x o r l n = refl
passed (suc (suc (suc (suc a)))) i p x o r l n = refl

module _ (R : List Row) where
  -- no statement is left
  pub proto_none : (p : ℕ) → elements Statements (drop p R) ≡ [] → protos_from R p ≡ []
  unfolding statements_of top_protos
  proto_none p e = ap top_protos (each_none statement_of Statements R p e)

  module _ {p q : ℕ} {r : Row} (h : Stands Statements R p q) (is : r ≡ get_or R q blank) where
    -- the next statement is a Proto
    pub proto_here : r.a ≡ 1 → protos_from R p ≡ r.b ∷ protos_from R (q + 1)
    unfolding statements_of statement_of top_protos
    proto_here e = ap top_protos (each_at statement_of h) ∙ rw (column R q (λ x. x.a) is, e, column R q (λ x. x.b) is)

    -- from its row on the statements are the same
    pub proto_from : protos_from R p ≡ protos_from R q
    unfolding statements_of
    proto_from = ap (λ (l : List (List Row)). top_protos (map statement_of l)) (sym (from_here Statements R p q h))

    -- it is another
    pub proto_pass : (r.a ≡ 1 → ⊥) → protos_from R p ≡ protos_from R (q + 1)
    unfolding statements_of statement_of
    proto_pass n = ap top_protos (each_at statement_of h) ∙ passed _ _ _ _ _ _ _ (λ e. n (sym (column R q (λ x. x.a) is) ∙ e))

-- what was found, by its answer
module _ (R : List Row) (p : ℕ) {x : Maybe TopProto} (s : NextProto R p x) where
  pub next_at : {top : TopProto} → x ≡ Some top → StandsProto R p top.id.0 top.row
  next_at e = subst (NextProto R p) e s

  pub next_none : x ≡ None → protos_from R p ≡ []
  next_none e = subst (NextProto R p) e s

pub next_first : (R : List Row) (p : ℕ) (x : Maybe TopProto) → NextProto R p x → id_of x ≡ first (protos_from R p)
next_first R p (Some top) s = rw s.is
next_first R p None s = rw s

-- ---- how many elements a part has

-- a part has at most as many elements as there are rows
pub few : (t : Part) (R : List Row) (p : ℕ) → length (elements t (drop p R)) ≤ length R
few t R p = omega (arith, elements_few t (drop p R), length-drop p R)

top_few : (l : List Statement) → length (top_protos l) ≤ length l
unfolding top_protos
top_few [] = omega arith
top_few (Statement.Node i ∷ l) = omega (arith, top_few l)
top_few (Statement.Proto i ∷ l) = omega (arith, top_few l)
top_few (Statement.ExternProto i ∷ l) = omega (arith, top_few l)
top_few (Statement.Route i ∷ l) = omega (arith, top_few l)
top_few (Statement.Other i ∷ l) = omega (arith, top_few l)

-- no more Proto statements than rows
pub protos_few : (R : List Row) (p : ℕ) → length (protos_from R p) ≤ length R
unfolding statements_of
protos_few R p = omega (arith, top_few (statements_of (drop p R)), length-map (elements Statements (drop p R)) statement_of, few Statements R p)

-- ---- the prototype of an id

past : {A : Type 0} (l : List A) (n : ℕ) → length l ≤ n → get_elem? l n ≡ none
past [] n h = refl
past (x ∷ l) zero h = absurd (omega arith)
past (x ∷ l) (suc n) h = past l n (omega arith)

-- an id that is not below their number has none
pub nth_past : (t : Part) (R : List Row) (from id : ℕ) → length (elements t (drop from R)) ≤ id → Nth t R from id Nothing
nth_past t R from id h = record { is = past (elements t (drop from R)) id h; below = tt; here = tt; past = tt }

module _ (R : List Row) (from id name : ℕ) {x : Found} (s : Nth Protos R from id x) where
  -- a dangling id has no name
  pub named_none : x ≡ Nothing → false ≡ is_named name (get_elem? (protos_at R from) id)
  named_none e = rw (at_map proto_of (elements Protos (drop from R)) id, s.is, e)

  -- the name of a prototype stands in its row
  pub named_at : {q : ℕ} {r : Row} → x ≡ At q → r ≡ get_or R q blank → eqb r.a name ≡ is_named name (get_elem? (protos_at R from) id)
  unfolding proto_of
  named_at {q} e is = rw (at_map proto_of (elements Protos (drop from R)) id, s.is, e, column R q (λ y. y.a) is)

-- ---- the first Proto statement of a name

-- none of those from row p on, before row `at`, has the name
pub record Passing (R : List Row) (protos name p at : ℕ) : Type 0 where
  pub is : (file : Document) → file.protos ≡ protos_at R protos → first_named file name (protos_from R p) ≡ first_named file name (protos_from R at)

-- the walk begins with none passed
pub pass_start : (R : List Row) (protos name p : ℕ) → Passing R protos name p p
pass_start R protos name p = record { is = λ file h. refl }

module _ {R : List Row} {protos name : ℕ} where
  module _ {p at : ℕ} (w : Passing R protos name p at) where
    -- no Proto statement is left
    pub first_none : protos_from R at ≡ [] → FirstNamed R protos name p None
    unfolding first_named
    first_none e file h = sym (w.is file h ∙ ap (first_named file name) e)

    module _ {top : TopProto} (s : StandsProto R at top.id.0 top.row) {b : Bool} (is : b ≡ is_named name (get_elem? (protos_at R protos) top.id.0)) where
      -- the next has the name
      pub first_here : b ≡ true → FirstNamed R protos name p (Some top)
      unfolding first_named
      first_here e file h = sym (w.is file h ∙ rw (s.is, h, sym is, e))

      -- it has another, or dangles
      pub first_pass : b ≡ false → Passing R protos name p (top.row + 1)
      unfolding first_named
      first_pass e =
          record {
            is = λ file h.
                let z : is_named name (get_elem? file.protos top.id.0) ≡ false = ap (λ (ps : List ProtoDecl). is_named name (get_elem? ps top.id.0)) h ∙ sym is ∙ e in
                w.is file h ∙ rw (s.is, z);
          }

-- ---- the pick in a document

module _ (R : List Row) (document : ℕ) where
  -- a document without a top has no statements
  pub top_none : elements Tops (drop (document + 1) R) ≡ [] → (document_at R document).statements ≡ []
  unfolding document_of statements_of elements
  top_none e = rw (rest_drop R document, e)

  -- its statements are those after the row of its top
  pub top_at : {q : ℕ} → Stands Tops R (document + 1) q → (document_at R document).statements ≡ statements_of (drop (q + 1) R)
  unfolding document_of
  top_at {q} s = rw (rest_drop R document, s.here, rest_drop R q)

  -- its prototypes are those after its first row
  pub protos_are : (document_at R document).protos ≡ protos_at R (document + 1)
  unfolding document_of
  protos_are = rw (rest_drop R document)

  -- no statements, no pick
  pub pick_none : (fragment : Option ℕ) → (document_at R document).statements ≡ [] → none ≡ pick_in (document_at R document) fragment
  unfolding pick_in top_protos first_named
  pick_none none e = rw e
  pick_none (some name) e = rw e

  -- past the last row there is none
  pub pick_past : (fragment : Option ℕ) → length R ≤ document → none ≡ pick_in (document_at R document) fragment
  unfolding document_of statements_of elements
  pick_past fragment h = pick_none fragment (ap (λ (l : List Row). (document_of l).statements) (drop_of_length-le R h))

  module _ (p : ℕ) (e : (document_at R document).statements ≡ statements_of (drop p R)) (fragment : Maybe ℕ) where
    -- without a fragment
    pub pick_first : (x : Maybe TopProto) → fragment ≡ None → NextProto R p x → id_of x ≡ pick_in (document_at R document) (option_of fragment)
    unfolding pick_in
    pick_first x z s = rw (z, e) (next_first R p x s)

    -- with a fragment
    pub pick_named : {name : ℕ} (x : Maybe TopProto) → fragment ≡ Some name → FirstNamed R (document + 1) name p x → id_of x ≡ pick_in (document_at R document) (option_of fragment)
    unfolding pick_in
    pick_named {name} x n s =
        rw n
        (s (document_at R document) protos_are ∙ ap (λ (l : List Statement). first_named (document_at R document) name (top_protos l)) (sym e))
