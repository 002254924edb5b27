-- The value of an IS target, stored under a name.
use mathlib.Core.Path.{◌≡◌, refl, sym, ap, ◌∙◌}
use mathlib.Core.List.{List, ◌∷◌}
use mathlib.Core.Option.{Option, none, some}
use Prim.Native.Nat.{ℕ}
use Rattle.ast.specs.Ast.{FieldValue}
use Rattle.ast.specs.Choice.{and_then, map_o}
use Rattle.expansion_definition.specs.State.{Comp, bind_r, ◌>>=◌, ret}
use Rattle.expansion_definition.specs.Values.{Values, value_named, clone}
use Rattle.expansion_definition.specs.PlainCopy.{is_value}
use Rattle.expansion_definition.specs.Instances.{clone_or, store}
use Rattle.journal_records.specs.Records.{tag_stored}
use Rattle.journal_reading.specs.Reading.{value_at, values_at}
use Rattle.journal_reading.specs.WellFormed.{HandleAt}
use Rattle.journal_reading.proofs.Chains.{values_fixed}
use Rattle.refine_records.specs.declared.Limits.{Limits}
use Rattle.std.specs.declared.result.Result.TheVariants.{Ok, Err}
use Rattle.refine_records.specs.declared.Refusal.{Refusal}
use Rattle.refine_records.specs.declared.Counts.{Counts}
use Rattle.refine_records.specs.declared.Env as code
use Rattle.refine_records.specs.Sound.{Source, input_of, Standing, Later, env_of}
use Rattle.refine_records.specs.Does.{Answer, did, at, Doing}
use Rattle.refine_records.specs.Contract.{Storable, StoredAt, ValueKept}
use Rattle.refine_records.proofs.Later.{later_standing, later_handle}
use Rattle.refine_records.proofs.Calculus.{start, turn, finish, step, stop, inner}
use Rattle.expander_bindings.specs.declared.Given.{Given}
use Rattle.expander_bindings.specs.Contract.{Targeted, NotGiven, GivenValue, GivenRefused, TargetValueGiven, GivenDone}
use Rattle.expander_bindings.proofs.Steps.{any_source, done_later, if_map, pays, paid_there}

-- what a target has, in a body or not
joined : (target : ℕ) (o : Option Values) → and_then o (value_named target) ≡ and_then (map_o (value_named target) o) (λ y. y)
joined target none = refl
joined target (some vs) = refl

module _ (L : Limits) (w : List ℕ) (t : Counts) (e : code.Env) (target name h : ℕ) (st : Standing L w t) (hd : HandleAt w t.charges tag_stored h) {w2 : List ℕ} {s2 : Counts} {g : Targeted} (gv : TargetValueGiven L w t e target w2 s2 g) where
  abbrev put : Source → Option FieldValue → Comp Values
  put S x = store (input_of S L) name (values_at w h) x

  abbrev rest : Source → Option FieldValue → Comp Values
  rest S x = clone_or (input_of S L) (ret none) x >>= put S

  abbrev whole : Source → Comp Values
  whole S = rest S (and_then (env_of w e).is_values (value_named target))

  next : (S : Source) (young : ℕ) (x : Option (Option FieldValue)) → is_value (env_of w e) target ≡ x → Doing S L young (whole S) w t (rest S (and_then x (λ y. y))) w t
  next S young x z =
      turn (start S young (whole S) st.sound) (rest S (and_then x (λ y. y)))
      (ap (λ (o : Option FieldValue). rest S o (at S w t)) (joined target (env_of w e).is_values ∙ ap (λ (o : Option (Option FieldValue)). and_then o (λ y. y)) z))

  -- there is none
  none_given : (x : Option (Option FieldValue)) → and_then x (λ y. y) ≡ none → NotGiven w t e target x w2 s2 → GivenDone L w t e target name h w2 (did s2 h 0)
  unfolding clone_or store bind_r
  none_given x nil n =
      rw (n.words, n.counts)
      (record {
        does = λ S young.
            finish (turn (next S young x n.value) (ret (values_at w h)) (ap (λ (o : Option FieldValue). rest S o (at S w t)) nil)) (λ u v p. values_at u v) h 0 refl;
        done = hd;
      })

  pub given_outside : g ≡ Ok Given.Outside → GivenDone L w t e target name h w2 (did s2 h 0)
  given_outside o = none_given none refl (rw o at gv.case)

  pub given_without : g ≡ Ok Given.Without → GivenDone L w t e target name h w2 (did s2 h 0)
  given_without o = none_given (some none) refl (rw o at gv.case)

  -- a value
  module _ {ty class payload : ℕ} (o : g ≡ Ok (Given.With ty class payload)) where
    gw : GivenValue L w t e target w2 s2 ty class payload
    gw = rw o at gv.case

    l2 : Later L 0 w t w2 s2
    l2 = done_later (gw.cloning.does any_source 0) refl

    pub storable : Standing L w2 s2 × Storable w2 s2.charges class payload h
    storable = (later_standing l2 st, record { before = later_handle l2 hd; value = gw.ids })

    pub given_stored : {w3 : List ℕ} {b : Answer} → ValueKept L w2 s2 name ty class payload h w3 b → GivenDone L w t e target name h w3 b
    unfolding clone_or store bind_r
    given_stored {w3} {b} k = record {
      does = λ S young.
          pays ((name, value_at w ty class payload) ∷ values_at w h) (λ u v p. values_at u v)
          (paid_there ((name, value_at w ty class payload) ∷ values_at w h)
          (step (λ v'. put S (some v')) (inner (clone (input_of S L) (value_at w ty class payload)) (λ v'. ret (some v')) (put S) (next S young (some (some (value_at w ty class payload))) gw.cloning.value)) (gw.cloning.does S young) refl))
          (k.does S young)
          (if_map (λ t' v p. StoredAt w2 name ty class payload h w3 t' v) (λ t' v p. (name, value_at w ty class payload) ∷ values_at w h ≡ values_at w3 v) (λ t' v p x. sym (x.list ∙ rw (gw.same, values_fixed l2.kept h hd.low))) b k.done);
      done = if_map (λ t' v p. StoredAt w2 name ty class payload h w3 t' v) (λ t' v p. HandleAt w3 t'.charges tag_stored v) (λ t' v p x. x.handle) b k.done;
    }

  pub given_full : {x' : Refusal} → g ≡ Err x' → GivenDone L w t e target name h w2 (Err x')
  unfolding clone_or
  given_full {x'} o =
      let gr : GivenRefused L w t e target w2 x' = rw o at gv.case in
      record {
        does = λ S young. stop (λ v'. ret (some v') >>= put S) (inner (clone (input_of S L) gr.found) (λ v'. ret (some v')) (put S) (next S young (some (some gr.found)) gr.cloning.value)) (gr.cloning.does S young) refl (λ u v p. values_at u v);
        done = tt;
      }
