-- The check at one row of several documents: as in one document, but for a row of kind 1.
use mathlib.Core.Path.{◌≡◌, refl, sym, ap, ◌∙◌}
use mathlib.Core.List.{◌∷◌, []}
use mathlib.Core.Bool.{Bool, true, false, ◌&&◌}
use Prim.Native.Nat.{ℕ, zero, suc, ◌≤◌, ◌<◌}
use native.Mathlib.Omega.{arith}
use native.Mathlib.Decide.{dec_lt}
use lib.Dec.{ltb, leb, eqb}
use borrow.Author.Tests.{lt-ltb, le-ltb, eqb-true}
use Rattle.sheet_rows.specs.declared.row.Row.{Row}
use Rattle.sheet_rows.specs.declared.part.Part.TheVariants.{Documents as DocumentsPart}
use Rattle.sheet_rows.specs.Parse.{passes}
use Rattle.sheet_check.specs.declared.grammar.Form.TheVariants.{Expanded, Documents}
use Rattle.sheet_check.specs.declared.grammar.State.{State}
use Rattle.sheet_check.specs.declared.grammar.Role.{Role}
use Rattle.sheet_check.specs.declared.grammar.Role.TheVariants.{Starts, Opens, Inner, Files, Owed, Never}
use Rattle.std.specs.Prelude.{Option, Some, None}
use Rattle.ast.specs.Choice.{choose}
use Rattle.ast.proofs.Basics.{and_l, and_r}
use Rattle.sheet_shape.specs.Shape.{shape_fits}
use Rattle.sheet_shape.proofs.Numbers.{between}
use Rattle.sheet_shape.proofs.ShapeLaws.{shape_none}
use Rattle.sheet_check.specs.Grammar.{role_of, opened_part, go_if, by_role, less_id, less_route, less_association, moves, stays_expanded, fits, has_ended}
use Rattle.sheet_roundtrip.proofs.Tests.{never, and_i}
use Rattle.sheet_roundtrip.proofs.Accepts.{no_go, go_inj, go_l, go_r}
use Rattle.sheet_roundtrip.proofs.Cuts.{as_kind, kind_by_role}

-- ---- what is owed

pub none_owed : (n : ℕ) → ltb 0 n ≡ false → eqb n 0 ≡ true
none_owed zero h = refl
none_owed (suc n) h = never (sym h ∙ lt-ltb 0 (suc n) (omega arith))

pub owes_none : (n : ℕ) → eqb n 0 ≡ true → ltb 0 n ≡ false
owes_none n h = le-ltb 0 n (omega (arith, eqb-true n 0 h))

-- a row that pays nothing goes on only where nothing is owed
pub record Goes (A B C S E : Bool) (u t : State) : Type 0 where
  pub ids : A ≡ false
  pub routes : B ≡ false
  pub associations : C ≡ false
  pub shape : S ≡ true
  pub place : E ≡ true
  pub to : u ≡ t

pub goes : (A B C S E : Bool) (u t : State) → choose S (choose A None (choose B None (choose C None (go_if E u)))) None ≡ Some t → Goes A B C S E u t
goes A B C false E u t h = no_go h
goes true B C true E u t h = no_go h
goes false true C true E u t h = no_go h
goes false false true true E u t h = no_go h
goes false false false true false u t h = no_go h
goes false false false true true u t h = record { ids = refl; routes = refl; associations = refl; shape = refl; place = refl; to = go_inj h }

-- ---- a row of kind 1

abbrev Owing : State → Row → Bool → Option State
Owing s r E = choose (shape_fits true r) (choose (ltb 0 s.ids) None (choose (ltb 0 s.routes) None (choose (ltb 0 s.associations) None (go_if E (opened_part 1))))) None

several_row : (s : State) (r : Row) → r.kind ≡ 1 → fits Documents s r ≡ Owing s r (leb 11 s.part)
unfolding fits moves role_of
several_row s r k = rw (as_kind r 1 k)

one_row : (s : State) (r : Row) → r.kind ≡ 1 → fits Expanded s r ≡ Owing s r (eqb s.part 0)
unfolding fits moves role_of
one_row s r k = rw (as_kind r 1 k)

-- the documents before it may end, and it starts one
pub starts_here : (s t : State) (r : Row) → r.kind ≡ 1 → fits Documents s r ≡ Some t → (has_ended Expanded s ≡ true) × (opened_part 1 ≡ t) × (fits Expanded (opened_part 0) r ≡ Some (opened_part 1))
starts_here s t r k h =
    let g = goes (ltb 0 s.ids) (ltb 0 s.routes) (ltb 0 s.associations) (shape_fits true r) (leb 11 s.part) (opened_part 1) t (sym (several_row s r k) ∙ h) in
    (rw (g.place, none_owed s.ids g.ids, none_owed s.routes g.routes, none_owed s.associations g.associations), g.to, one_row (opened_part 0) r k ∙ rw g.shape)

-- where they have ended, it does
pub starts_again : (s t : State) (r : Row) → r.kind ≡ 1 → has_ended Expanded s ≡ true → fits Expanded (opened_part 0) r ≡ Some t → fits Documents s r ≡ Some t
starts_again s t r k e h =
    let g = goes false false false (shape_fits true r) true (opened_part 1) t (sym (one_row (opened_part 0) r k) ∙ h) in
    let a = and_l (leb 11 s.part && eqb s.ids 0 && eqb s.routes 0) (eqb s.associations 0) e in
    let b = and_l (leb 11 s.part && eqb s.ids 0) (eqb s.routes 0) a in
    several_row s r k ∙ rw (g.shape, owes_none s.ids (and_r (leb 11 s.part) (eqb s.ids 0) b), owes_none s.routes (and_r (leb 11 s.part && eqb s.ids 0) (eqb s.routes 0) a), owes_none s.associations (and_r (leb 11 s.part && eqb s.ids 0 && eqb s.routes 0) (eqb s.associations 0) e), and_l (leb 11 s.part) (eqb s.ids 0) b) (ap Some g.to)

-- ---- a row of another kind

-- what a choice gives where it is made
when : (b : Bool) (x y : Option State) → (b ≡ true → x ≡ y) → choose b x None ≡ choose b y None
when true x y f = f refl
when false x y f = refl

pub same_row : (s : State) (r : Row) → eqb r.kind 1 ≡ false → fits Documents s r ≡ fits Expanded s r
unfolding fits moves
same_row s r n = ap (λ (x : Option State). choose (stays_expanded s r) x None) (when (shape_fits true r) (moves Documents s r) (moves Expanded s r) by_roles)
  where
    by_roles : shape_fits true r ≡ true → moves Documents s r ≡ moves Expanded s r
    by_roles h = ap (λ (x : Option State). choose (ltb 0 s.ids) (go_if (eqb r.kind 9) (less_id s)) (choose (ltb 0 s.routes) (go_if (eqb r.kind 5 && eqb r.a 3) (less_route s)) (choose (ltb 0 s.associations) (go_if (eqb r.kind 14) (less_association s)) x))) (go (role_of r.kind) refl)
      where
        go : (role : Role) → role_of r.kind ≡ role → by_role Documents s r role ≡ by_role Expanded s r role
        go Starts e = absurd (kind_by_role true r h Starts e (λ k. eqb k 1 ≡ false → ⊥) ((λ z. never (sym z)), tt) n)
        go Opens e = refl
        go Inner e = refl
        go Files e = refl
        go Owed e = refl
        go Never e = refl

-- a row that fits is of a kind from 1 to 14
pub kind_passes : (r : Row) → shape_fits true r ≡ true → passes DocumentsPart r.kind ≡ true
unfolding shape_fits
kind_passes r h =
    between (λ (k : ℕ). passes DocumentsPart k ≡ true) 14 1 r.kind (refl, (refl, (refl, (refl, (refl, (refl, (refl, (refl, (refl, (refl, (refl, (refl, (refl, (refl, tt)))))))))))))) (low (dec_lt 0 r.kind)) (high (dec_lt r.kind 15))
  where
    low : Dec (0 < r.kind) → 1 ≤ r.kind
    low (yes z) = z
    low (no z) = let e : r.kind ≡ 0 = omega arith in never (rw (as_kind r 0 e) at h)

    high : Dec (r.kind < 15) → r.kind < 15
    high (yes z) = z
    high (no z) = never (shape_none true r (omega arith) ∙ h)

-- a row that fits has its shape
pub has_shape : (s t : State) (r : Row) → fits Documents s r ≡ Some t → shape_fits true r ≡ true
unfolding fits
has_shape s t r h = go_l (shape_fits true r) (moves Documents s r) t (go_r (stays_expanded s r) (choose (shape_fits true r) (moves Documents s r) None) t h)
