-- A field with an IS.
use mathlib.Core.Path.{◌≡◌, refl, sym, ap, ◌∙◌}
use mathlib.Core.List.{List, append-nil}
use mathlib.Core.Option.{Option, none, some}
use Prim.Native.Nat.{ℕ, ◌≤◌}
use native.Mathlib.Omega.{arith}
use Rattle.ast.specs.Ast.{FieldValue, Field}
use Rattle.sheet_rows.specs.declared.row.Row.{Row}
use Rattle.expansion_definition.specs.State.{Comp, ◌>>=◌, ◌>>◌, ret}
use Rattle.expansion_definition.specs.Charges.{charge}
use Rattle.expansion_definition.specs.Values.{Copier, clone}
use Rattle.expansion_definition.specs.PlainCopy.{associate, is_value, with_value, is_field, copy_binding, copy_field, somes}
use Rattle.journal_records.specs.Records.{tag_id, tag_field}
use Rattle.journal_records.specs.Made.{field_record}
use Rattle.journal_records.proofs.Frame.{same_fixed}
use Rattle.journal_reading.specs.Reading.{value_at, fields_at, field_new}
use Rattle.journal_reading.specs.WellFormed.{HandleAt}
use Rattle.journal_reading.proofs.Chains.{fields_fixed, fields_new}
use Rattle.journal_reading.proofs.Fair.{handle_new}
use Rattle.refine_records.specs.declared.Limits.{Limits}
use Rattle.std.specs.declared.result.Result.TheVariants.{Ok, Err}
use Rattle.refine_records.specs.declared.Refusal.{Refusal}
use Rattle.refine_records.specs.declared.Counts.{Counts}
use Rattle.refine_records.specs.declared.Env as code
use Rattle.refine_records.specs.Sound.{Source, input_of, Standing, Later, EnvAt, env_of}
use Rattle.refine_records.specs.Does.{Answer, did, at, Doing}
use Rattle.refine_records.specs.Contract.{Keepable, KeptAt, RecordKept}
use Rattle.refine_records.proofs.Later.{later_trans, later_standing, later_handle}
use Rattle.refine_records.proofs.Calculus.{start, turn, finish, step, stop, paying}
use Rattle.expander_bindings.specs.declared.Given.{Given}
use Rattle.expander_bindings.specs.Contract.{Targeted, Associated, NotGiven, GivenValue, GivenRefused, TargetValueGiven, is_field_of, bound_field, FieldsAfter, FieldDone}
use Rattle.expander_bindings.proofs.Steps.{any_source, done_later, always, if_map, pays, paid_there}
use Rattle.expander_bindings.proofs.Associations.{then_later, then_standing, then_value}

module _ (w : List ℕ) (c name bound target inferred ty class payload h : ℕ) (hd : HandleAt w c tag_field h) (load : class ≡ 2 → HandleAt w c tag_id payload) where
  pub field_keepable : Keepable w c (field_record name bound target inferred ty class payload h)
  field_keepable = record { least = omega arith; most = omega arith; before = hd; value = λ z. load }

  -- the fields after it
  pub field_kept_lem : (t : Counts) → t.charges ≡ c → (y : Field) → field_new w (field_record name bound target inferred ty class payload h) ≡ y → (w' : List ℕ) (t' : Counts) (v : ℕ) → KeptAt w t (field_record name bound target inferred ty class payload h) w' t' v → FieldsAfter w h (some y) w' t' v
  unfolding somes
  field_kept_lem t e y z w' t' v k = record {
    handle = rw (k.counts, k.handle) (handle_new w' t.charges tag_field k.pushed.holds.at0);
    list = rw k.handle (fields_new (same_fixed k.pushed.same) (field_record name bound target inferred ty class payload h) k.pushed.holds (omega arith) (omega (arith, hd.low)) (λ q. omega (arith, (load q).low)) ∙ rw z);
  }

-- behind the fields of a moment before
pub fields_since : {L : Limits} {young : ℕ} {w w2 : List ℕ} {t t2 : Counts} → Later L young w t w2 t2 → (h : ℕ) → h ≤ t.charges → {x : Option Field} {w3 : List ℕ} {t3 : Counts} {v : ℕ} → FieldsAfter w2 h x w3 t3 v → FieldsAfter w h x w3 t3 v
fields_since l h le x = record { handle = x.handle; list = x.list ∙ rw (fields_fixed l.kept h le) }

module _ (L : Limits) (w : List ℕ) (t : Counts) (e : code.Env) (new : ℕ) (r : Row) (h : ℕ) (st : Standing L w t) (env : EnvAt w t.charges e) (hd : HandleAt w t.charges tag_field h) {w1 : List ℕ} {a : Answer} (ad : Associated L w t e r.c new r.a w1 a) where
  abbrev whole : Source → Copier → Comp (Option Field)
  whole S c = copy_field (input_of S L) c (env_of w e) new (is_field_of r)

  abbrev rest : Source → Option (Option FieldValue) → Comp (Option Field)
  rest S x = is_field (input_of S L) (is_field_of r) x

  abbrev is : Option (Option FieldValue)
  is = is_value (env_of w e) r.c

  begin : (S : Source) (young : ℕ) (c : Copier) → Doing S L young (whole S c) w t (associate (input_of S L) (env_of w e) (record { interface = r.c; node = new; field = r.a }) >>= (λ u. rest S is)) w t
  unfolding copy_field copy_binding
  begin S young c = start S young (whole S c) st.sound

  pub field_refused : {x' : Refusal} → a ≡ Err x' → FieldDone L w t e new r h w1 a
  field_refused q = record { does = λ S young c. stop (λ u. rest S is) (begin S young c) (ad.does S young) q (λ u v p. bound_field (is_field_of r) is); done = rw q tt }

  module _ {s : Counts} {v p : ℕ} (q : a ≡ did s v p) where
    l1 : Later L 0 w t w1 s
    l1 = then_later st env ad q

    same : {x : Option (Option FieldValue)} → is_value (env_of w1 e) r.c ≡ x → is ≡ x
    same z = then_value st env ad q r.c z

    next : (S : Source) (young : ℕ) (c : Copier) (x : Option (Option FieldValue)) → is ≡ x → Doing S L young (whole S c) w t (rest S x) w1 s
    next S young c x z = turn (step (λ u. rest S is) (begin S young c) (ad.does S young) q) (rest S x) (ap (λ (o : Option (Option FieldValue)). rest S o (at S w1 s)) z)

    module _ {w2 : List ℕ} {s2 : Counts} {g : Targeted} (gv : TargetValueGiven L w1 s e r.c w2 s2 g) where
      -- outside a body: it stays
      module _ (o : g ≡ Ok Given.Outside) where
        n1 : NotGiven w1 s e r.c none w2 s2
        n1 = rw o at gv.case

        pub stays_keepable : Standing L w2 s2 × Keepable w2 s2.charges (field_record r.a 1 r.c r.d 0 0 0 h)
        stays_keepable = rw (n1.words, n1.counts) (then_standing st env ad q, field_keepable w1 s.charges r.a 1 r.c r.d 0 0 0 h (later_handle l1 hd) (λ z. absurd (omega arith)))

        pub field_stays : {w3 : List ℕ} {b : Answer} → RecordKept L w2 s2 (field_record r.a 1 r.c r.d 0 0 0 h) w3 b → FieldDone L w t e new r h w3 b
        unfolding is_field
        field_stays {w3} {b} k =
            let z : is ≡ none = same n1.value in
            let k1 : RecordKept L w1 s (field_record r.a 1 r.c r.d 0 0 0 h) w3 b = rw (n1.words, n1.counts) at k in
            record {
              does = λ S young c. pays (some (is_field_of r)) (λ u v p. bound_field (is_field_of r) is) (paid_there (some (is_field_of r)) (next S young c none z)) (k1.does S young) (always (λ t' v p. some (is_field_of r) ≡ bound_field (is_field_of r) is) (λ t' v p. rw z) b);
              done = if_map (λ t' v p. KeptAt w1 s (field_record r.a 1 r.c r.d 0 0 0 h) w3 t' v) (λ t' v p. FieldsAfter w h (bound_field (is_field_of r) is) w3 t' v) (λ t' v p y. rw z (fields_since l1 h hd.low (field_kept_lem w1 s.charges r.a 1 r.c r.d 0 0 0 h (later_handle l1 hd) (λ z. absurd (omega arith)) s refl (is_field_of r) refl w3 t' v y))) b k1.done;
            }

      -- in a body without a value: it is dropped
      pub field_dropped : g ≡ Ok Given.Without → FieldDone L w t e new r h w2 (did s2 h 0)
      unfolding is_field somes
      field_dropped o =
          let n : NotGiven w1 s e r.c (some none) w2 s2 = rw o at gv.case in
          let z : is ≡ some none = same n.value in
          rw (n.words, n.counts)
          (record {
            does = λ S young c. finish (next S young c (some none) z) (λ u v p. bound_field (is_field_of r) is) h 0 (rw z);
            done = rw z (record { handle = later_handle l1 hd; list = fields_fixed l1.kept h hd.low ∙ sym (append-nil (fields_at w h)) });
          })

      -- with a value: the value
      module _ {ty class payload : ℕ} (o : g ≡ Ok (Given.With ty class payload)) where
        gw : GivenValue L w1 s e r.c w2 s2 ty class payload
        gw = rw o at gv.case

        l2 : Later L 0 w1 s w2 s2
        l2 = done_later (gw.cloning.does any_source 0) refl

        l12 : Later L 0 w t w2 s2
        l12 = later_trans l1 l2

        pub value_keepable : Standing L w2 s2 × Keepable w2 s2.charges (field_record r.a 0 0 r.d ty class payload h)
        value_keepable = (later_standing l12 st, field_keepable w2 s2.charges r.a 0 0 r.d ty class payload h (later_handle l12 hd) gw.ids)

        pub field_value : {w3 : List ℕ} {b : Answer} → RecordKept L w2 s2 (field_record r.a 0 0 r.d ty class payload h) w3 b → FieldDone L w t e new r h w3 b
        unfolding is_field
        field_value {w3} {b} k =
            let z : is ≡ some (some (value_at w1 ty class payload)) = same gw.cloning.value in
            record {
              does = λ S young c.
                  pays (some (with_value (is_field_of r) (value_at w1 ty class payload))) (λ u v p. bound_field (is_field_of r) is)
                  (step (λ v'. charge (input_of S L) >> ret (some (with_value (is_field_of r) v'))) (paying (input_of S L) (clone (input_of S L) (value_at w1 ty class payload)) (λ v'. ret (some (with_value (is_field_of r) v'))) (next S young c (some (some (value_at w1 ty class payload))) z)) (gw.cloning.does S young) refl)
                  (k.does S young) (always (λ t' v p. some (with_value (is_field_of r) (value_at w1 ty class payload)) ≡ bound_field (is_field_of r) is) (λ t' v p. rw z) b);
              done =
                  if_map (λ t' v p. KeptAt w2 s2 (field_record r.a 0 0 r.d ty class payload h) w3 t' v) (λ t' v p. FieldsAfter w h (bound_field (is_field_of r) is) w3 t' v)
                  (λ t' v p x. rw z (fields_since l12 h hd.low (field_kept_lem w2 s2.charges r.a 0 0 r.d ty class payload h (later_handle l12 hd) gw.ids s2 refl (with_value (is_field_of r) (value_at w1 ty class payload)) (rw gw.same) w3 t' v x))) b k.done;
            }

      pub field_full : {x' : Refusal} → g ≡ Err x' → FieldDone L w t e new r h w2 (Err x')
      unfolding is_field
      field_full {x'} o =
          let gr : GivenRefused L w1 s e r.c w2 x' = rw o at gv.case in
          let z : is ≡ some (some gr.found) = same gr.cloning.value in
          record {
            does = λ S young c. stop (λ v'. charge (input_of S L) >> ret (some (with_value (is_field_of r) v'))) (paying (input_of S L) (clone (input_of S L) gr.found) (λ v'. ret (some (with_value (is_field_of r) v'))) (next S young c (some (some gr.found)) z)) (gr.cloning.does S young) refl (λ u v p. bound_field (is_field_of r) is);
            done = tt;
          }
