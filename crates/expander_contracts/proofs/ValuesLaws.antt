-- `values`: `given` for each interface of the PROTO, in order.
use mathlib.Core.Path.{◌≡◌, refl, subst}
use mathlib.Core.List.{List, [], ◌∷◌, map}
use mathlib.Core.Option.{Option}
use Prim.Native.Nat.{ℕ, suc, ◌+◌, ◌≤◌}
use native.Mathlib.Omega.{arith}
use native.Mathlib.Numerals.{add-one}
use lib.ListN.{drop}
use Rattle.ast.specs.Ast.{FieldValue, Field, InterfaceDecl}
use Rattle.sheet_rows.specs.declared.row.Row.{Row}
use Rattle.sheet_rows.specs.declared.part.Part.TheVariants.{Interfaces}
use Rattle.sheet_rows.specs.Rows.{rest}
use Rattle.sheet_rows.specs.Parse.{elements, interface_of, interfaces_of}
use Rattle.sheet_walks.specs.Walk.{Stands}
use Rattle.sheet_walks.proofs.WalkLaws.{rest_drop, each_at}
use Rattle.pick_definition.specs.Picks.{Prototype}
use Rattle.expansion_definition.specs.Input.{Input, last_field}
use Rattle.expansion_definition.specs.Scopes.{Scope}
use Rattle.expansion_definition.specs.State.{State, Result, refusal, ok, Comp, bind_r, ◌>>=◌, ret}
use Rattle.expansion_definition.specs.Values.{Values, Env, Copier}
use Rattle.expansion_definition.specs.Instances.{interface_value, store, values}
use Rattle.expansion_definition.specs.Copy.{copy}
use Rattle.journal_records.specs.Records.{tag_stored}
use Rattle.journal_records.specs.Logs.{scan}
use Rattle.journal_reading.specs.Reading.{values_at}
use Rattle.journal_reading.specs.WellFormed.{HandleAt}
use Rattle.refine_records.specs.declared.Limits.{Limits}
use Rattle.std.specs.declared.result.Result.TheVariants.{Err}
use Rattle.refine_records.specs.declared.Refusal.{Refusal}
use Rattle.refine_records.specs.declared.Counts.{Counts}
use Rattle.refine_records.specs.declared.Env as code
use Rattle.refine_records.specs.Sound.{input_of, env_of}
use Rattle.refine_records.specs.Does.{Answer, did, at}
use Rattle.refine_records.proofs.Later.{env_later}
use Rattle.expander_parts.specs.Contract.{source_of, rows_of, node_at_row}
use Rattle.expander_contracts.specs.Contract.{Here, Yields, StoredValues, prototype_at, given_by, ValueStored, ValuesStored}
use Rattle.expander_contracts.proofs.Run.{Run, begin, turn, end, go, halt, gave, yields_young, since, here_later}

values_none : (w : List ℕ) → values_at w 0 ≡ []
unfolding values_at scan
values_none w = refl

-- one interface, and those after it
one_more : (I : Input) (f : Env → Copier) (env : Env) (p : Prototype) (fields : List Field) (k : ℕ) (d : InterfaceDecl) (l : List InterfaceDecl) (vs : Values) (st : State) → values I f env p fields k (d ∷ l) vs st ≡ bind_r (given_by I f env p fields k d vs st) (λ z. values I f env p fields (k + 1) l z)
unfolding values given_by bind_r
one_more I f env p fields k d l vs st = rw (add-one k) (by (interface_value I f env (Scope.Default p k env.scope) d.value (last_field d.name fields) st))
  where
    by : (x : Result (Option FieldValue)) → bind_r {B = Values} x (λ v. store I d.name vs v >>= (λ z. values I f env p fields (suc k) l z)) ≡ bind_r {B = Values} (bind_r {B = Values} x (store I d.name vs)) (λ z. values I f env p fields (suc k) l z)
    by (refusal c i j) = refl
    by (ok v s) = refl

module _ (root library dir w : List ℕ) (L : Limits) (t : Counts) (e : code.Env) (row slot proto decl depth : ℕ) where
  abbrev R : List Row
  R = rows_of root library dir slot

  -- from the k-th on, which are l, behind those of vs
  abbrev left : ℕ → List InterfaceDecl → Values → Input → Comp Values
  left k l vs I = values I (copy I depth) (env_of w e) (prototype_at dir slot proto) (node_at_row root library dir e.slot row).fields k l vs

  abbrev m : Input → Comp Values
  m = left 0 (interfaces_of (rest (drop decl R))) []

  -- where the loop stands: at row p, before the k-th; h is the handle of the values so far
  pub record Storing (w₁ : List ℕ) (t₁ : Counts) (h p k : ℕ) : Type 0 where
    pub run : Run root library L t.scopes m w t (left k (map interface_of (elements Interfaces (drop p R))) (values_at w₁ h)) w₁ t₁
    pub handle : HandleAt w₁ t₁.charges tag_stored h
    pub few : k ≤ p

  module _ (here : Here root library dir w L t e) where
    pub values_start : Storing w t 0 (decl + 1) 0
    unfolding interfaces_of
    values_start = record {
      run = turn (begin t.scopes m here.standing.sound) (left 0 (map interface_of (elements Interfaces (drop (decl + 1) R))) (values_at w 0)) (λ D. rw (rest_drop R decl, values_none w));
      handle = record { low = omega arith; tag = λ l. absurd (omega arith) };
      few = omega arith;
    }

    module _ {w₁ : List ℕ} {t₁ : Counts} {h p k : ℕ} (x : Storing w₁ t₁ h p k) where
      pub values_end : elements Interfaces (drop p R) ≡ [] → ValuesStored root library dir w L t e row slot proto decl depth w₁ (did t₁ h 0)
      unfolding values
      values_end z = end (turn x.run (λ I. ret (values_at w₁ h)) (λ D. rw z)) (record { handle = x.handle; all = refl })

      pub values_here : Here root library dir w₁ L t₁ e
      values_here = here_later (since x.run) here

      module _ {q : ℕ} (s : Stands Interfaces R p q) {w₂ : List ℕ} {a : Answer} (y : ValueStored root library dir w₁ L t₁ e row slot proto q k h depth w₂ a) where
        abbrev one : Env → Input → Comp Values
        one E I = given_by I (copy I depth) E (prototype_at dir slot proto) (node_at_row root library dir e.slot row).fields k (interface_of (drop q R)) (values_at w₁ h)

        abbrev after : Input → Values → Comp Values
        after I z = left (k + 1) (map interface_of (elements Interfaces (drop (q + 1) R))) z I

        next : Run root library L t.scopes m w t (λ I. one (env_of w e) I >>= after I) w₁ t₁
        next =
            turn x.run (λ I. one (env_of w e) I >>= after I)
            (λ D. rw (each_at interface_of s) (one_more (input_of (source_of root library D) L) (copy (input_of (source_of root library D) L) depth) (env_of w e) (prototype_at dir slot proto) (node_at_row root library dir e.slot row).fields k (interface_of (drop q R)) (map interface_of (elements Interfaces (drop (q + 1) R))) (values_at w₁ h) (at (source_of root library D) w₁ t₁)))

        same : Yields root library L t.scopes (one (env_of w e)) StoredValues w₁ t₁ w₂ a
        same = yields_young (since x.run).scoped (subst (λ (E : Env). Yields root library L t₁.scopes (one E) StoredValues w₁ t₁ w₂ a) (env_later (since x.run) here.env) y)

        pub values_again : {t₂ : Counts} {v o : ℕ} → a ≡ did t₂ v o → {p' : ℕ} → p' ≡ q + 1 → Storing w₂ t₂ v p' (k + 1)
        values_again {t₂} {v} eq z = record {
          run = rw (z, ← (gave same eq).all) (go after next same eq);
          handle = (gave same eq).handle;
          few = omega (arith, x.few, s.from);
        }

        pub values_stop : {x' : Refusal} → a ≡ Err x' → ValuesStored root library dir w L t e row slot proto decl depth w₂ a
        values_stop eq = halt after next same eq []
