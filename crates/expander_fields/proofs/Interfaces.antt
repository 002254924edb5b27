-- An interface with an IS.
use mathlib.Core.Path.{◌≡◌, refl, ap, ◌∙◌}
use mathlib.Core.List.{List}
use mathlib.Core.Option.{Option, none, some}
use Prim.Native.Nat.{ℕ, ◌≤◌}
use native.Mathlib.Omega.{arith}
use borrow.Author.Tests.{ne_eqb}
use Rattle.ast.specs.Ast.{FieldValue, InterfaceDecl}
use Rattle.sheet_rows.specs.declared.row.Row.{Row}
use Rattle.expansion_definition.specs.State.{Comp, bind_r, ◌>>=◌, ◌>>◌, ret}
use Rattle.expansion_definition.specs.Charges.{charge}
use Rattle.expansion_definition.specs.Values.{Copier, clone}
use Rattle.expansion_definition.specs.PlainCopy.{associate, is_value, interface_with, is_interface, copy_target, copy_interface}
use Rattle.journal_records.specs.Records.{tag_id, tag_interface}
use Rattle.journal_records.specs.Made.{interface_record}
use Rattle.journal_records.proofs.Frame.{same_fixed}
use Rattle.journal_reading.specs.Reading.{value_at, interface_new}
use Rattle.journal_reading.specs.WellFormed.{HandleAt}
use Rattle.journal_reading.proofs.Chains.{interfaces_fixed, interfaces_new}
use Rattle.journal_reading.proofs.Fair.{handle_new}
use Rattle.refine_records.specs.declared.Limits.{Limits}
use Rattle.std.specs.declared.result.Result.TheVariants.{Ok, Err}
use Rattle.refine_records.specs.declared.Refusal.{Refusal}
use Rattle.refine_records.specs.declared.Counts.{Counts}
use Rattle.refine_records.specs.declared.Env as code
use Rattle.refine_records.specs.Sound.{Source, input_of, Standing, Later, EnvAt, env_of}
use Rattle.refine_records.specs.Does.{Answer, did, at, Doing}
use Rattle.refine_records.specs.Contract.{Keepable, KeptAt, RecordKept}
use Rattle.refine_records.proofs.Later.{later_trans, later_standing, later_handle}
use Rattle.refine_records.proofs.Calculus.{start, turn, step, stop, inner}
use Rattle.expander_bindings.specs.declared.Given.{Given}
use Rattle.expander_bindings.specs.Contract.{Targeted, Associated, NotGiven, GivenValue, GivenRefused, TargetValueGiven, is_interface_of, bound_interface, InterfacesAfter, InterfaceDone}
use Rattle.expander_bindings.proofs.Steps.{any_source, done_later, always, if_map, pays, paid_last}
use Rattle.expander_bindings.proofs.Associations.{then_later, then_standing, then_value}

module _ (w : List ℕ) (c : ℕ) (r : Row) (target ty class payload h : ℕ) (hd : HandleAt w c tag_interface h) (load : class ≡ 2 → HandleAt w c tag_id payload) where
  pub interface_keepable : Keepable w c (interface_record r.a r.b r.c target ty class payload h)
  interface_keepable = record { least = omega arith; most = omega arith; before = hd; value = λ z. load }

  -- the interfaces after it
  pub interface_kept : (t : Counts) → t.charges ≡ c → (y : InterfaceDecl) → interface_new w (interface_record r.a r.b r.c target ty class payload h) ≡ y → (w' : List ℕ) (t' : Counts) (v : ℕ) → KeptAt w t (interface_record r.a r.b r.c target ty class payload h) w' t' v → InterfacesAfter w h y w' t' v
  interface_kept t e y z w' t' v k = record {
    handle = rw (k.counts, k.handle) (handle_new w' t.charges tag_interface k.pushed.holds.at0);
    list = rw k.handle (interfaces_new (same_fixed k.pushed.same) (interface_record r.a r.b r.c target ty class payload h) k.pushed.holds (omega arith) (omega (arith, hd.low)) (λ q. omega (arith, (load q).low)) ∙ rw z);
  }

-- behind the interfaces of a moment before
pub interfaces_since : {L : Limits} {young : ℕ} {w w2 : List ℕ} {t t2 : Counts} → Later L young w t w2 t2 → (h : ℕ) → h ≤ t.charges → {x : InterfaceDecl} {w3 : List ℕ} {t3 : Counts} {v : ℕ} → InterfacesAfter w2 h x w3 t3 v → InterfacesAfter w h x w3 t3 v
interfaces_since l h le x = record { handle = x.handle; list = x.list ∙ rw (interfaces_fixed l.kept h le) }

module _ (L : Limits) (w : List ℕ) (t : Counts) (e : code.Env) (new : ℕ) (r : Row) (h : ℕ) (st : Standing L w t) (env : EnvAt w t.charges e) (hd : HandleAt w t.charges tag_interface h) {w1 : List ℕ} {a : Answer} (ad : Associated L w t e r.d new r.c w1 a) where
  abbrev whole : Source → Copier → Option FieldValue → Comp InterfaceDecl
  whole S c own = copy_interface (input_of S L) c (env_of w e) new (is_interface_of r own)

  abbrev rest : Source → Option FieldValue → Option (Option FieldValue) → Comp InterfaceDecl
  rest S own x = is_interface (input_of S L) (is_interface_of r own) r.d x

  abbrev pay : Source → InterfaceDecl → Comp InterfaceDecl
  pay S y = charge (input_of S L) >> ret y

  abbrev is : Option (Option FieldValue)
  is = is_value (env_of w e) r.d

  begin : (S : Source) (young : ℕ) (c : Copier) (own : Option FieldValue) → Doing S L young (whole S c own) w t (associate (input_of S L) (env_of w e) (record { interface = r.d; node = new; field = r.c }) >>= (λ u. rest S own is >>= pay S)) w t
  unfolding copy_interface copy_target
  begin S young c own =
      inner (associate (input_of S L) (env_of w e) (record { interface = r.d; node = new; field = r.c })) (λ u. rest S own is) (pay S)
      (paid_last (associate (input_of S L) (env_of w e) (record { interface = r.d; node = new; field = r.c }) >>= (λ u. rest S own is)) (start S young (whole S c own) st.sound))

  pub interface_refused : {x' : Refusal} → a ≡ Err x' → InterfaceDone L w t e new r h w1 a
  interface_refused q = record { does = λ S young c own. stop (λ u. rest S own is >>= pay S) (begin S young c own) (ad.does S young) q (λ u v p. bound_interface r is); done = rw q tt }

  module _ {s : Counts} {v p : ℕ} (q : a ≡ did s v p) where
    l1 : Later L 0 w t w1 s
    l1 = then_later st env ad q

    next : (S : Source) (young : ℕ) (c : Copier) (own : Option FieldValue) (x : Option (Option FieldValue)) → is ≡ x → Doing S L young (whole S c own) w t (rest S own x >>= pay S) w1 s
    next S young c own x z = turn (step (λ u. rest S own is >>= pay S) (begin S young c own) (ad.does S young) q) (rest S own x >>= pay S) (ap (λ (o : Option (Option FieldValue)). bind_r (rest S own o (at S w1 s)) (pay S)) z)

    -- the interface y is kept at a later moment
    keeps : {w2 : List ℕ} {s2 : Counts} (target ty class payload : ℕ) (y : InterfaceDecl) → y ≡ bound_interface r is → Later L 0 w t w2 s2 → (class ≡ 2 → HandleAt w2 s2.charges tag_id payload) → interface_new w2 (interface_record r.a r.b r.c target ty class payload h) ≡ y
        → ((S : Source) (young : ℕ) (c : Copier) (own : Option FieldValue) → Doing S L young (whole S c own) w t (pay S y) w2 s2)
        → {w3 : List ℕ} {b : Answer} → RecordKept L w2 s2 (interface_record r.a r.b r.c target ty class payload h) w3 b → InterfaceDone L w t e new r h w3 b
    keeps {w2} {s2} target ty class payload y z l load made g {w3} {b} k = record {
      does = λ S young c own. pays y (λ u v p. bound_interface r is) (g S young c own) (k.does S young) (always (λ t' v p. y ≡ bound_interface r is) (λ t' v p. z) b);
      done =
          if_map (λ t' v p. KeptAt w2 s2 (interface_record r.a r.b r.c target ty class payload h) w3 t' v) (λ t' v p. InterfacesAfter w h (bound_interface r is) w3 t' v)
          (λ t' v p x. rw (← z) (interfaces_since l h hd.low (interface_kept w2 s2.charges r target ty class payload h (later_handle l hd) load s2 refl y made w3 t' v x))) b k.done;
    }

    module _ {w2 : List ℕ} {s2 : Counts} {g : Targeted} (gv : TargetValueGiven L w1 s e r.d w2 s2 g) where
      -- outside a body: it stays
      module _ (o : g ≡ Ok Given.Outside) where
        n1 : NotGiven w1 s e r.d none w2 s2
        n1 = rw o at gv.case

        pub stays_keepable : Standing L w2 s2 × Keepable w2 s2.charges (interface_record r.a r.b r.c r.d 0 0 0 h)
        stays_keepable = rw (n1.words, n1.counts) (then_standing st env ad q, interface_keepable w1 s.charges r r.d 0 0 0 h (later_handle l1 hd) (λ z. absurd (omega arith)))

        pub interface_stays : (r.d ≡ 4294967295 → ⊥) → {w3 : List ℕ} {b : Answer} → RecordKept L w2 s2 (interface_record r.a r.b r.c r.d 0 0 0 h) w3 b → InterfaceDone L w t e new r h w3 b
        unfolding is_interface bind_r
        interface_stays ne {w3} {b} k =
            let z : is ≡ none = then_value st env ad q r.d n1.value in
            keeps r.d 0 0 0 (interface_with (is_interface_of r none) none (some r.d)) (rw z) l1 (λ z. absurd (omega arith)) (rw (ne_eqb r.d 4294967295 ne)) (λ S young c own. next S young c own none z) (rw (n1.words, n1.counts) at k)

      -- in a body without a value: it has none
      module _ (o : g ≡ Ok Given.Without) where
        n2 : NotGiven w1 s e r.d (some none) w2 s2
        n2 = rw o at gv.case

        pub bare_keepable : Standing L w2 s2 × Keepable w2 s2.charges (interface_record r.a r.b r.c 4294967295 0 0 0 h)
        bare_keepable = rw (n2.words, n2.counts) (then_standing st env ad q, interface_keepable w1 s.charges r 4294967295 0 0 0 h (later_handle l1 hd) (λ z. absurd (omega arith)))

        pub interface_bare : {w3 : List ℕ} {b : Answer} → RecordKept L w2 s2 (interface_record r.a r.b r.c 4294967295 0 0 0 h) w3 b → InterfaceDone L w t e new r h w3 b
        unfolding is_interface bind_r
        interface_bare {w3} {b} k =
            let z : is ≡ some none = then_value st env ad q r.d n2.value in
            keeps 4294967295 0 0 0 (interface_with (is_interface_of r none) none none) (rw z) l1 (λ z. absurd (omega arith)) refl (λ S young c own. next S young c own (some none) z) (rw (n2.words, n2.counts) at k)

      -- with a value: the value
      module _ {ty class payload : ℕ} (o : g ≡ Ok (Given.With ty class payload)) where
        gw : GivenValue L w1 s e r.d w2 s2 ty class payload
        gw = rw o at gv.case

        l12 : Later L 0 w t w2 s2
        l12 = later_trans l1 (done_later (gw.cloning.does any_source 0) refl)

        pub value_keepable : Standing L w2 s2 × Keepable w2 s2.charges (interface_record r.a r.b r.c 4294967295 ty class payload h)
        value_keepable = (later_standing l12 st, interface_keepable w2 s2.charges r 4294967295 ty class payload h (later_handle l12 hd) gw.ids)

        pub interface_value_lem : {w3 : List ℕ} {b : Answer} → RecordKept L w2 s2 (interface_record r.a r.b r.c 4294967295 ty class payload h) w3 b → InterfaceDone L w t e new r h w3 b
        unfolding is_interface bind_r
        interface_value_lem {w3} {b} k =
            let z : is ≡ some (some (value_at w1 ty class payload)) = then_value st env ad q r.d gw.cloning.value in
            keeps 4294967295 ty class payload (interface_with (is_interface_of r none) (some (value_at w1 ty class payload)) none) (rw z) l12 gw.ids (rw (ne_eqb class 0 gw.some, gw.same))
            (λ S young c own.
            step (λ v'. pay S (interface_with (is_interface_of r own) (some v') none))
            (inner (clone (input_of S L) (value_at w1 ty class payload)) (λ v'. ret (interface_with (is_interface_of r own) (some v') none)) (pay S) (next S young c own (some (some (value_at w1 ty class payload))) z))
            (gw.cloning.does S young) refl) k

      pub interface_full : {x' : Refusal} → g ≡ Err x' → InterfaceDone L w t e new r h w2 (Err x')
      unfolding is_interface bind_r
      interface_full {x'} o =
          let gr : GivenRefused L w1 s e r.d w2 x' = rw o at gv.case in
          let z : is ≡ some (some gr.found) = then_value st env ad q r.d gr.cloning.value in
          record {
            does = λ S young c own.
                stop (λ v'. pay S (interface_with (is_interface_of r own) (some v') none))
                (inner (clone (input_of S L) gr.found) (λ v'. ret (interface_with (is_interface_of r own) (some v') none)) (pay S) (next S young c own (some (some gr.found)) z))
                (gr.cloning.does S young) refl (λ u v p. bound_interface r is);
            done = tt;
          }
