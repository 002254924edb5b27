-- Routes: an end is its copy in the scope, or none.
use mathlib.Core.Path.{◌≡◌, refl, sym, ap, ◌∙◌}
use mathlib.Core.Bool.{true, false}
use mathlib.Core.List.{List, [], ◌∷◌}
use mathlib.Core.Option.{Option}
use Prim.Native.Nat.{ℕ, ◌+◌, ◌-◌, ◌<◌}
use native.Mathlib.Omega.{arith}
use Rattle.ast.specs.Ast.{Statement}
use Rattle.ast.specs.Choice.{and_then}
use Rattle.sheet_rows.specs.declared.row.Row.{Row}
use Rattle.sheet_rows.specs.Parse.{optional, route_of, statement_of}
use Rattle.expansion_definition.specs.State.{bind_r, lookup}
use Rattle.expansion_definition.specs.Charges.{paid}
use Rattle.expansion_definition.specs.Values.{Env}
use Rattle.expansion_definition.specs.PlainCopy.{remap_route, copy_route}
use Rattle.journal_records.specs.declared.Record.{Record}
use Rattle.journal_records.specs.Records.{tag_statement, cell, Pushed}
use Rattle.journal_records.specs.Made.{route_statement_record}
use Rattle.journal_records.proofs.Frame.{same_fixed}
use Rattle.journal_reading.specs.Reading.{map_of, fixed_word, statement_rec, statement_new}
use Rattle.journal_reading.specs.WellFormed.{HandleAt}
use Rattle.journal_reading.proofs.Words.{kept_is}
use Rattle.journal_reading.proofs.Fair.{handle_new}
use Rattle.journal_reading.proofs.Chains.{statements_new}
use Rattle.refine_records.specs.declared.Limits.{Limits}
use Rattle.std.specs.declared.result.Result.TheVariants.{Ok, Err}
use Rattle.refine_records.specs.declared.Counts.{Counts}
use Rattle.refine_records.specs.Sound.{Source}
use Rattle.refine_records.specs.Does.{Answer, at}
use Rattle.refine_records.specs.Contract.{EndOf, Keepable, RecordKept}
use Rattle.expander_parts.specs.Contract.{StatementAppended, Routed}

-- ---- a statement's record, behind those of its handle
module _ (w w' : List ℕ) (t : Counts) (r : Record) (is : r.tag ≡ tag_statement) (p : Pushed w w' t.charges r) where
  abbrev c : ℕ
  c = t.charges

  put : (j v : ℕ) → j < 12 → cell w' c j ≡ v → fixed_word w' c j ≡ v
  put j v l e = kept_is w' c tag_statement j v (p.holds.at0 ∙ is) l e

  -- it reads as the statement of its words
  pub stated_new : statement_rec w' c ≡ statement_new r
  stated_new =
      rw (
        put 1 r.a (omega arith) p.holds.at1,
        put 2 r.b (omega arith) p.holds.at2,
        put 3 r.c (omega arith) p.holds.at3,
        put 4 r.d (omega arith) p.holds.at4,
        put 5 r.e (omega arith) p.holds.at5,
        put 6 r.f (omega arith) p.holds.at6,
        put 7 r.g (omega arith) p.holds.at7,
      )

  pub stated : HandleAt w c tag_statement r.h → (t' : Counts) → t'.charges ≡ c + 1 → StatementAppended w r.h w' t' (c + 1)
  stated h t' e =
      let z : c + 1 - 1 ≡ c = omega arith in
      record {
        handle = rw e (handle_new w' c tag_statement (p.holds.at0 ∙ is));
        list = rw z (statements_new (same_fixed p.same) r p.holds (rw is (omega arith)) h.low ∙ rw stated_new);
      }

-- ---- a Route
pub route_keepable : (w : List ℕ) (c : ℕ) (r : Row) (from to h : ℕ) → HandleAt w c tag_statement h → Keepable w c (route_statement_record r.b r.c r.d r.e from to h)
route_keepable w c r from to h x = record { least = omega arith; most = omega arith; before = x; value = λ e. absurd (never e) }
  where
    never : false ≡ true → ⊥
    never y = let k : ◌≡◌ {A = ℕ} 0 1 = cc in omega arith

module _ (L : Limits) (w : List ℕ) (t : Counts) (scope : ℕ) (r : Row) (h : ℕ) (x : HandleAt w t.charges tag_statement h) (from to : ℕ) (f : EndOf w t.charges scope r.f from) (g : EndOf w t.charges scope r.g to) where
  -- the definition's statement is the record's
  same_route : (e : Env) → e.scope ≡ scope → (S : Source) → Statement.Route (remap_route (at S w t).world e.scope (route_of (r ∷ []))) ≡ statement_new (route_statement_record r.b r.c r.d r.e from to h)
  unfolding route_of statement_of
  same_route e q S = rw q (ap (λ (o : Option ℕ). made o (and_then (optional r.g) (lookup (map_of w t.charges) scope))) (sym f) ∙ ap (made (optional from)) (sym g))
    where
      made : Option ℕ → Option ℕ → Statement
      made a b = Statement.Route (record { from_node = r.b; from_field = r.c; to_node = r.d; to_field = r.e; from_id = a; to_id = b })

  pub route_law : {w' : List ℕ} (a : Answer) → RecordKept L w t (route_statement_record r.b r.c r.d r.e from to h) w' a → Routed L w t scope r h w' a
  unfolding copy_route paid bind_r
  route_law {w'} (Err x') k = record { does = λ S young e q. let z = (k.does S young).same in record { same = rw (← z); later = tt }; done = tt }
  route_law {w'} (Ok a') k =
      let d = k.done in
      let y : a'.st.charges ≡ t.charges + 1 = rw d.counts in
      let u : t.charges + 1 - 1 ≡ t.charges = omega arith in
      record {
        does = λ S young e q.
            let z = (k.does S young).same in
            record {
              same = rw (← z, d.handle, u, stated_new w w' t (route_statement_record r.b r.c r.d r.e from to h) refl d.pushed, same_route e q S);
              later = (k.does S young).later;
            };
        done = rw d.handle (stated w w' t (route_statement_record r.b r.c r.d r.e from to h) refl d.pushed x a'.st y);
      }
