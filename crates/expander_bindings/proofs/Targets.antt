-- The value that an IS target has: in a body the stored value of its name, read from its record.
use mathlib.Core.Path.{◌≡◌, refl, sym, ap, ◌∙◌}
use mathlib.Core.Bool.{Bool, true, false}
use mathlib.Core.List.{List}
use mathlib.Core.Option.{none, some}
use Prim.Native.Nat.{ℕ, ◌<◌}
use native.Mathlib.Omega.{arith}
use lib.Dec.{eqb}
use borrow.Author.Tests.{eqb-true}
use Rattle.ast.specs.Ast.{FieldData, FieldValue}
use Rattle.ast.specs.Choice.{choose, map_o}
use Rattle.expansion_definition.specs.State.{ok}
use Rattle.expansion_definition.specs.Values.{value_named, clone}
use Rattle.expansion_definition.specs.PlainCopy.{is_value}
use Rattle.expansion_definition.specs.Reached.{is_given}
use Rattle.journal_index.specs.Index.{Newest, found_of}
use Rattle.std.specs.Option.{is_some}
use Rattle.std.specs.declared.option.Option.TheVariants.{None, Some}
use Rattle.journal_records.specs.Records.{tag_id, tag_stored, cell}
use Rattle.journal_records.proofs.Lists.{scan_low}
use Rattle.journal_reading.specs.Reading.{fixed_word, ids_in, ids_at, value_at, value_rec, values_at}
use Rattle.journal_reading.specs.WellFormed.{HandleAt, RecordWellFormed}
use Rattle.journal_reading.proofs.Words.{kept_is}
use Rattle.journal_reading.proofs.Chains.{value_fixed}
use Rattle.journal_reading.proofs.Fair.{handle_fixed}
use Rattle.journal_records.proofs.Frame.{fixed_refl}
use Rattle.refine_records.specs.declared.Limits.{Limits}
use Rattle.std.specs.declared.result.Result.TheVariants.{Err}
use Rattle.refine_records.specs.declared.Refusal.{Refusal}
use Rattle.refine_records.specs.declared.Counts.{Counts}
use Rattle.refine_records.specs.declared.Env as code
use Rattle.refine_records.specs.Sound.{Source, input_of, Standing, EnvAt, env_of}
use Rattle.refine_records.specs.Does.{Answer, did, at, Does}
use Rattle.refine_records.specs.Contract.{ValueFound, Cloned}
use Rattle.refine_records.proofs.Later.{env_values, later_handle}
use Rattle.expander_bindings.specs.Contract.{ClassRead, NotGiven, GivenValue, GivenRefused, HasValue}
use Rattle.expander_bindings.proofs.Steps.{any_source, done_later}

-- a record of a stored value, with its class as 1 or 2
pub stored_value : (w : List ℕ) (c r ty x g class : ℕ) → cell w r 0 ≡ tag_stored → RecordWellFormed w c r → ty ≡ cell w r 5 → x ≡ cell w r 6 → g ≡ cell w r 7 → eqb class 2 ≡ eqb x 2 → value_rec w r ≡ value_at w ty class g
unfolding ids_at
stored_value w c r ty x g class e f e5 e6 e7 s =
    rw (
      kept_is w r tag_stored 5 ty e (omega arith) (sym e5),
      kept_is w r tag_stored 6 x e (omega arith) (sym e6),
      kept_is w r tag_stored 7 g e (omega arith) (sym e7),
      s,
    )
    (by (eqb x 2) refl)
  where
    by : (t : Bool) → eqb x 2 ≡ t
        → ◌≡◌ {A = FieldValue} (record { ty = ty; «data» = choose t (FieldData.Nodes (ids_in w r g)) (FieldData.Payload g) }) (record { ty = ty; «data» = choose t (FieldData.Nodes (ids_in w g g)) (FieldData.Payload g) })
    by true q =
        let z : x ≡ 2 = eqb-true x 2 q in
        let h : HandleAt w r tag_id (cell w r 7) = f.value (rw e) (sym e6 ∙ z) in
        rw (scan_low (λ n. fixed_word w n 1) (λ n. fixed_word w n 8) r g (omega (arith, h.low)))
    by false q = refl

module _ (L : Limits) (w : List ℕ) (t : Counts) (e : code.Env) (target : ℕ) where
  -- in a body
  module _ {h : ℕ} (body : e.values ≡ Some h) {f : Newest} (v : ValueFound w h target f) where
    -- no value
    pub without : f ≡ None → NotGiven w t e target (some none) w t
    without n = record { words = refl; counts = refl; value = rw body (ap some (v.same ∙ rw n)) }

    -- whether there is one
    pub has_searched : HasValue w e target (is_some f)
    has_searched = record { same = rw body (by f v.same) }
      where
        by : (g : Newest) → value_named target (values_at w h) ≡ map_o (value_rec w) (found_of g) → is_given (value_named target (values_at w h)) ≡ is_some g
        by None q = ap is_given q
        by (Some r) q = ap is_given q

  module _ (st : Standing L w t) (env : EnvAt w t.charges e) where
    module _ {h : ℕ} (body : e.values ≡ Some h) (f : Newest) (v : ValueFound w h target f) where
      -- a value
      module _ (r : ℕ) (here : f ≡ Some r) where
        below : r < t.charges
        below = omega (arith, v.low r here, (env_values env body).low)

        fair : RecordWellFormed w t.charges r
        fair = st.sound.fair.each r below

        module _ (ty x g class : ℕ) (e5 : ty ≡ cell w r 5) (e6 : x ≡ cell w r 6) (k : ClassRead x class) (e7 : g ≡ cell w r 7) where
          pub payload : class ≡ 2 → HandleAt w t.charges tag_id g
          payload q =
              let z : eqb x 2 ≡ true = sym k.same ∙ rw q in
              rw e7 (handle_fixed (fixed_refl t.charges w) (omega (arith, below)) (omega (arith, below)) (fair.value (rw (v.stored r here)) (sym e6 ∙ eqb-true x 2 z)))

          found : is_value (env_of w e) target ≡ some (some (value_at w ty class g))
          found = rw body (ap some (v.same ∙ rw here (ap some (stored_value w t.charges r ty x g class (v.stored r here) fair e5 e6 e7 k.same))))

          module _ (w' : List ℕ) (a : Answer) (c : Cloned L w t class g w' a) where
            same : {t' : Counts} {y p : ℕ} → a ≡ did t' y p → value_at w' ty class g ≡ value_at w ty class g
            same q = value_fixed (done_later (c.does any_source 0 0) q).kept ty class g (λ z. (payload z).low)

            pub cloned : {t' : Counts} {y p : ℕ} → a ≡ did t' y p → GivenValue L w t e target w' t' ty class g
            cloned {t'} {y} {p} q = record {
              cloning = record { value = found; does = done };
              some = k.some;
              ids = λ z. later_handle (done_later (c.does any_source 0 0) q) (payload z);
              same = same q;
            }
              where
                done : (S : Source) (young : ℕ) → Does S L young (λ u n p. value_at w ty class g) (clone (input_of S L) (value_at w ty class g)) w t w' (did t' g 0)
                done S young =
                    let d : Does S L young (λ u n p. value_at u ty class n) (clone (input_of S L) (value_at w ty class g)) w t w' (did t' y p) = rw q at (c.does S young ty) in
                    let z : y ≡ g = rw q at c.done in
                    record { same = ap (λ (v : FieldValue). ok v (at S w' t')) (sym (same q) ∙ ap (λ (n : ℕ). value_at w' ty class n) (sym z)) ∙ d.same; later = d.later }

            pub refused : {x' : Refusal} → a ≡ Err x' → GivenRefused L w t e target w' x'
            refused {x'} q = record {
              found = value_at w ty class g;
              cloning = record { value = found; does = done };
            }
              where
                done : (S : Source) (young : ℕ) → Does S L young (λ u x p. value_at w ty class g) (clone (input_of S L) (value_at w ty class g)) w t w' (Err x')
                done S young =
                    let d : Does S L young (λ u n p. value_at u ty class n) (clone (input_of S L) (value_at w ty class g)) w t w' (Err x') = rw q at (c.does S young ty) in
                    record { same = d.same; later = tt }
