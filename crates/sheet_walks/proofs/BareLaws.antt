-- A node without interfaces, statements and body order: the walks over these pass its fields and their ids, and stop where another element begins.
use mathlib.Core.Path.{◌≡◌, refl, sym, ◌∙◌}
use mathlib.Core.Bool.{Bool, true, false, ◌||◌}
use mathlib.Core.List.{List, [], ◌∷◌}
use Prim.Native.Nat.{ℕ, suc, ◌+◌, ◌≤◌, ◌<◌}
use native.Mathlib.Omega.{arith}
use lib.ListN.{length, get_or, drop}
use lib.Dec.{eqb, ltb}
use borrow.Author.Tests.{eqb-true, eqb-false, le-leb, lt-leb, ltb-true, ltb-false}
use native.Mathlib.Decide.{ℕ_discrete}
use Rattle.ast.proofs.Basics.{neither}
use Rattle.sheet_rows.specs.declared.row.Row.{Row}
use Rattle.sheet_rows.specs.declared.part.Part.{Part}
use Rattle.sheet_rows.specs.declared.part.Part.TheVariants.{Interfaces, Statements, BodyOrder}
use Rattle.sheet_rows.specs.Rows.{blank}
use Rattle.sheet_rows.specs.Parse.{elements, kind_of, passes}
use Rattle.sheet_walks.specs.Walk.{Bare, Bared}
use Rattle.sheet_walks.proofs.WalkLaws.{walk_take, walk_pass, walk_stop, elements_end}

-- the walk over interfaces passes 3 and 9, and so do the later ones
record Passed (k : ℕ) : Type 0 where
  statements : passes Statements k ≡ true
  body_order : passes BodyOrder k ≡ true
  apart : (m : ℕ) → 4 ≤ m → m ≤ 6 → k ≡ m → ⊥

three : Passed 3
three = record { statements = refl; body_order = refl; apart = λ m u v e. absurd (omega arith) }

nine : Passed 9
nine = record { statements = refl; body_order = refl; apart = λ m u v e. absurd (omega arith) }

passed : (k : ℕ) (a b : Bool) → eqb k 3 ≡ a → eqb k 9 ≡ b → (a || b) ≡ true → Passed k
passed k true b x y e = rw (eqb-true k 3 x) three
passed k false true x y e = rw (eqb-true k 9 y) nine
passed k false false x y e = let z : false ≡ true = e in absurd (let x : ◌≡◌ {A = ℕ} 0 1 = cc in omega arith)

module _ (R : List Row) (p : ℕ) where
  pub bare_end : length R ≤ p → Bare R p
  bare_end h = record { interface = elements_end Interfaces R p h; statements = elements_end Statements R p h; body_order = elements_end BodyOrder R p h }

  module _ {r : Row} (h : p < length R) (is : r ≡ get_or R p blank) where
    -- a field or an id
    pub bare_pass : passes Interfaces r.kind ≡ true → Bare R (p + 1) → Bare R p
    bare_pass e x =
        let y : Passed r.kind = passed r.kind _ _ refl refl e in
        record {
          interface = walk_pass Interfaces R p h is (y.apart 4 (omega arith) (omega arith)) e ∙ x.interface;
          statements = walk_pass Statements R p h is (y.apart 5 (omega arith) (omega arith)) y.statements ∙ x.statements;
          body_order = walk_pass BodyOrder R p h is (y.apart 6 (omega arith) (omega arith)) y.body_order ∙ x.body_order;
        }

    bare_back : passes Interfaces r.kind ≡ true → Bare R p → Bare R (p + 1)
    bare_back e x =
        let y : Passed r.kind = passed r.kind _ _ refl refl e in
        record {
          interface = sym (walk_pass Interfaces R p h is (y.apart 4 (omega arith) (omega arith)) e) ∙ x.interface;
          statements = sym (walk_pass Statements R p h is (y.apart 5 (omega arith) (omega arith)) y.statements) ∙ x.statements;
          body_order = sym (walk_pass BodyOrder R p h is (y.apart 6 (omega arith) (omega arith)) y.body_order) ∙ x.body_order;
        }

    -- an interface, a statement or a mark of the body order
    not_bare : 4 ≤ r.kind → r.kind ≤ 6 → Bare R p → ⊥
    not_bare u v x = go (ℕ_discrete r.kind 4) (ℕ_discrete r.kind 5)
      where
        some : (t : Part) → r.kind ≡ kind_of t → elements t (drop p R) ≡ [] → ⊥
        some t k e = let z : ◌≡◌ {A = List (List Row)} (drop p R ∷ elements t (drop (suc p) R)) [] = sym (walk_take t R p h is k) ∙ e in let y : ◌≡◌ {A = ℕ} 0 1 = cc in omega arith

        go : Dec (r.kind ≡ 4) → Dec (r.kind ≡ 5) → ⊥
        go (yes k) d = some Interfaces k x.interface
        go (no a) (yes k) = some Statements k x.statements
        go (no a) (no b) = some BodyOrder (omega arith) x.body_order

    -- another element
    module _ (e : passes Interfaces r.kind ≡ false) where
      pub bare_low : r.kind < 4 → Bare R p
      bare_low l =
          let n = neither (eqb r.kind 3) (eqb r.kind 9) e in
          let u : r.kind < 3 = omega (arith, eqb-false r.kind 3 n.0) in
          record {
            interface = walk_stop Interfaces R p h is (λ q. absurd (omega arith)) e;
            statements = walk_stop Statements R p h is (λ q. absurd (omega arith)) (rw (lt-leb 3 r.kind u, n.1));
            body_order = walk_stop BodyOrder R p h is (λ q. absurd (omega arith)) (rw (lt-leb 3 r.kind u, n.1));
          }

      pub bare_high : 6 < r.kind → Bare R p
      bare_high l =
          let n = neither (eqb r.kind 3) (eqb r.kind 9) e in
          record {
            interface = walk_stop Interfaces R p h is (λ q. absurd (omega arith)) e;
            statements = walk_stop Statements R p h is (λ q. absurd (omega arith)) (rw (le-leb 3 r.kind (omega arith), lt-leb r.kind 4 (omega arith), n.1));
            body_order = walk_stop BodyOrder R p h is (λ q. absurd (omega arith)) (rw (le-leb 3 r.kind (omega arith), lt-leb r.kind 5 (omega arith), n.1));
          }

-- ---- the walk of `bare`: what holds from the row at on holds from the first row on, and conversely
pub record Walking (R : List Row) (from at : ℕ) : Type 0 where
  pub on : Bare R at → Bare R from
  pub back : Bare R from → Bare R at

pub walking : (R : List Row) (from : ℕ) → Walking R from from
walking R from = record { on = λ x. x; back = λ x. x }

module _ {R : List Row} {from at : ℕ} (w : Walking R from at) where
  pub bared_end : length R ≤ at → Bared R from true
  bared_end h = record { yes = λ e. w.on (bare_end R at h); no = λ e. absurd (let z : ◌≡◌ {A = ℕ} 0 1 = cc in omega arith) }

  module _ {r : Row} (h : at < length R) (is : r ≡ get_or R at blank) where
    pub walking_on : passes Interfaces r.kind ≡ true → Walking R from (at + 1)
    walking_on e = record { on = λ x. w.on (bare_pass R at h is e x); back = λ x. bare_back R at h is e (w.back x) }

    module _ (e : passes Interfaces r.kind ≡ false) where
      pub bared_low : r.kind < 4 → Bared R from true
      bared_low l = record { yes = λ z. w.on (bare_low R at h is e l); no = λ z. absurd (let y : ◌≡◌ {A = ℕ} 0 1 = cc in omega arith) }

      pub bared_at : (r.kind < 4 → ⊥) → Bared R from (ltb 6 r.kind)
      bared_at n = record { yes = λ z. w.on (bare_high R at h is e (ltb-true 6 r.kind z)); no = λ z x. not_bare R at h is (omega arith) (omega (arith, ltb-false 6 r.kind z)) (w.back x) }
