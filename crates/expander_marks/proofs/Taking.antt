-- What a mark takes, by its kind.
use mathlib.Core.Path.{◌≡◌, refl, sym, ◌∙◌}
use mathlib.Core.Bool.{Bool, true, false, not, ◌&&◌, ◌||◌}
use mathlib.Core.List.{List, [], ◌∷◌, map}
use mathlib.Core.Option.{Option, none, some}
use Prim.Native.Nat.{ℕ, zero, suc, ◌+◌}
use native.Mathlib.Omega.{arith}
use lib.ListN.{get_or, drop}
use lib.Dec.{eqb, ltb}
use borrow.Author.Tests.{ltb-true, ltb-false, ne_eqb, le-ltb}
use Rattle.ast.specs.Ast.{Field, Statement, BodyElement}
use Rattle.ast.specs.Choice.{choose}
use Rattle.sheet_rows.specs.declared.row.Row.{Row}
use Rattle.sheet_rows.specs.Rows.{blank}
use Rattle.expansion_definition.specs.Values.{Values}
use Rattle.expansion_definition.specs.PlainCopy.{kept_order}
use Rattle.expander_marks.specs.declared.Reach.{Reach}
use Rattle.expander_marks.specs.declared.Run.{Run}
use Rattle.expander_marks.specs.declared.Positions.{Positions}
use Rattle.expander_marks.specs.declared.Filter.{Filter}
use Rattle.expander_marks.specs.Positions.{Stepped, field_step, statement_step, kept_by, by_positions, is_some, SameKept}
use Rattle.expander_marks.specs.Kept.{kept_fields, kept_statements}
use Rattle.expander_marks.specs.Contract.{RunFrom, Ahead, reach_after, Knows, Takes}
use Rattle.expander_marks.proofs.Runs.{ahead_same, ahead_kept, ahead_next, ahead_is, ahead_run}
use Rattle.expander_marks.proofs.Steps.{element_by, element_is}

-- the tests of a mark's number, by its kind
abbrev known : ℕ → ℕ → ℕ → ℕ → ℕ → Bool
known a f s fields statements = (not (eqb a 0) || ltb f fields) && (ltb a 2 || ltb s statements)

both : (a b : Bool) → (a && b) ≡ true → (a ≡ true) × (b ≡ true)
both true b h = (refl, h)
both false b h = absurd (let z : ◌≡◌ {A = ℕ} 0 1 = cc in omega arith)

module _ {vs : Option Values} {R : List Row} {node : ℕ} {x : Filter} (k : Knows vs R node x) where
  abbrev f : ℕ
  f = x.positions.field

  abbrev s : ℕ
  s = x.positions.statement

  -- by the mark's kind: whether it is kept, and how far the lists are looked through after it
  abbrev TakesAs : BodyElement → Reach → Reach → Bool → Type 0
  TakesAs m g h b = (b ≡ kept_by (kept_fields vs R (node + 1)) (kept_statements R (node + 1)) m f s) × Ahead (kept_fields vs R) (node + 1) (f + field_step m) g × Ahead (kept_statements R) (node + 1) (s + statement_step m) h

  module _ (at : ℕ) {p : Positions} (st : Stepped R node at f s p.field p.statement) {r : Row} (is : r ≡ get_or R at blank) where
    takes_as : {g h : Reach} {b : Bool} → TakesAs (element_by r.a) g h b → Takes vs R node at x (record { positions = p; fields = g; statements = h }) b
    takes_as t = let q = rw (← element_is R at is) at t in record { kept = q.0; step = st; known = record { fields = rw st.fields q.1; statements = rw st.statements q.2 } }

    -- the entry is known to be kept, or there is none
    pub takes_known : known r.a f s x.fields.upto x.statements.upto ≡ true → Takes vs R node at x (record { positions = p; fields = x.fields; statements = x.statements }) true
    takes_known h = takes_as (by r.a h)
      where
        by : (n : ℕ) → known n f s x.fields.upto x.statements.upto ≡ true → TakesAs (element_by n) x.fields x.statements true
        by zero t = let b = ltb-true f x.fields.upto (both (ltb f x.fields.upto) true t).0 in (sym (ahead_kept k.fields b), ahead_next k.fields b, ahead_same k.statements)
        by (suc zero) t = (refl, ahead_same k.fields, ahead_same k.statements)
        by (suc (suc n)) t =
            let b = ltb-true s x.statements.upto (rw (ne_eqb (suc (suc n)) 0 (λ z. omega arith), le-ltb (suc (suc n)) 2 (omega arith)) at t) in
            (sym (ahead_kept k.statements b), ahead_same k.fields, ahead_next k.statements b)

    module _ (h : known r.a f s x.fields.upto x.statements.upto ≡ false) {n : ℕ} {run : Run} where
      -- a field is looked at
      pub takes_field : r.a ≡ 0 → RunFrom (kept_fields vs R) n x.fields.row run → {z : Reach} → z ≡ reach_after f run → Takes vs R node at x (record { positions = p; fields = z; statements = x.statements }) (ltb 0 run.count)
      takes_field e u q = rw q (takes_as (rw e (by (rw e at h))))
        where
          by : known 0 f s x.fields.upto x.statements.upto ≡ false → TakesAs BodyElement.Field (reach_after f run) x.statements (ltb 0 run.count)
          by t = let b = ltb-false f x.fields.upto (first (ltb f x.fields.upto) t) in (ahead_is k.fields b u, ahead_run k.fields b u, ahead_same k.statements)
            where
              first : (a : Bool) → (a && true) ≡ false → a ≡ false
              first true q = q
              first false q = refl

      -- a statement is looked at
      pub takes_statement : (r.a ≡ 0 → ⊥) → RunFrom (kept_statements R) n x.statements.row run → {z : Reach} → z ≡ reach_after s run → Takes vs R node at x (record { positions = p; fields = x.fields; statements = z }) (ltb 0 run.count)
      takes_statement ne u q = rw q (takes_as (by r.a ne h))
        where
          by : (m : ℕ) → (m ≡ 0 → ⊥) → known m f s x.fields.upto x.statements.upto ≡ false → TakesAs (element_by m) x.fields (reach_after s run) (ltb 0 run.count)
          by zero c t = absurd (c refl)
          by (suc zero) c t = absurd (let z : ◌≡◌ {A = ℕ} 0 1 = cc in omega arith)
          by (suc (suc m)) c t =
              let b = ltb-false s x.statements.upto (rw (ne_eqb (suc (suc m)) 0 (λ z. omega arith), le-ltb (suc (suc m)) 2 (omega arith)) at t) in
              (ahead_is k.statements b u, ahead_same k.fields, ahead_run k.statements b u)

-- ---- what is kept by the positions is what the definition keeps
field_turn : (fs : List (Option Field)) (f : ℕ) (ss : List (Option Statement)) (l : List BodyElement) → kept_order (drop f fs) ss (BodyElement.Field ∷ l) ≡ choose (get_or (map is_some fs) f false) (BodyElement.Field ∷ kept_order (drop (suc f) fs) ss l) (kept_order (drop (suc f) fs) ss l)
unfolding kept_order
field_turn [] zero ss l = refl
field_turn [] (suc f) ss l = refl
field_turn (none ∷ fs) zero ss l = refl
field_turn (some x ∷ fs) zero ss l = refl
field_turn (x ∷ fs) (suc f) ss l = field_turn fs f ss l

statement_turn : (fs : List (Option Field)) (ss : List (Option Statement)) (s : ℕ) (l : List BodyElement) → kept_order fs (drop s ss) (BodyElement.Statement ∷ l) ≡ choose (get_or (map is_some ss) s false) (BodyElement.Statement ∷ kept_order fs (drop (suc s) ss) l) (kept_order fs (drop (suc s) ss) l)
unfolding kept_order
statement_turn fs [] zero l = refl
statement_turn fs [] (suc s) l = refl
statement_turn fs (none ∷ ss) zero l = refl
statement_turn fs (some x ∷ ss) zero l = refl
statement_turn fs (x ∷ ss) (suc s) l = statement_turn fs ss s l

one : (n : ℕ) → n + 1 ≡ suc n
one n = omega arith

none_more : (n : ℕ) → n + 0 ≡ n
none_more n = omega arith

-- one mark
pub turn : (fs : List (Option Field)) (ss : List (Option Statement)) (m : BodyElement) (l : List BodyElement) (f s : ℕ) → kept_order (drop f fs) (drop s ss) (m ∷ l) ≡ choose (kept_by (map is_some fs) (map is_some ss) m f s) (m ∷ kept_order (drop (f + field_step m) fs) (drop (s + statement_step m) ss) l) (kept_order (drop (f + field_step m) fs) (drop (s + statement_step m) ss) l)
unfolding kept_order
turn fs ss BodyElement.Field l f s = rw (one f, none_more s) (field_turn fs f (drop s ss) l)
turn fs ss BodyElement.Interface l f s = rw (none_more f, none_more s)
turn fs ss BodyElement.Statement l f s = rw (none_more f, one s) (statement_turn (drop f fs) ss s l)

pub same_kept : SameKept
unfolding kept_order
same_kept fs ss l = go l 0 0
  where
    go : (l : List BodyElement) (f s : ℕ) → kept_order (drop f fs) (drop s ss) l ≡ by_positions (map is_some fs) (map is_some ss) f s l
    go [] f s = refl
    go (m ∷ l) f s = turn fs ss m l f s ∙ rw (go l (f + field_step m) (s + statement_step m))
