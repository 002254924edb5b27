-- `given`: the last field of the name, what its IS has, or the default in a scope of its own; then what is stored.
use mathlib.Core.Path.{◌≡◌, refl, sym, ap, subst, ◌∙◌}
use mathlib.Core.Bool.{true, false}
use mathlib.Core.List.{List, [], ◌∷◌}
use mathlib.Core.Option.{Option, none, some}
use Prim.Native.Nat.{ℕ}
use native.Mathlib.Omega.{arith}
use lib.ListN.{drop, get_or}
use lib.Dec.{eqb}
use borrow.Author.Tests.{eq-eqb, ne_eqb}
use Rattle.ast.specs.Choice.{choose, and_then, map_o}
use Rattle.ast.specs.Ast.{FieldValue, FieldBinding}
use Rattle.sheet_rows.specs.declared.row.Row.{Row}
use Rattle.sheet_rows.specs.Rows.{blank, front}
use Rattle.sheet_rows.specs.Parse.{value_of, field_of, interface_of}
use Rattle.sheet_walks.specs.declared.walk.Found.{Found}
use Rattle.sheet_walks.specs.declared.walk.Found.TheVariants.{At, Nothing}
use Rattle.sheet_walks.specs.Walk.{rows_at}
use Rattle.sheet_walks.proofs.WalkLaws.{front_drop}
use Rattle.source_directory.specs.Directory.{number_of, Slot}
use Rattle.source_names.specs.Names.{LastField}
use Rattle.expansion_definition.specs.Input.{Input}
use Rattle.expansion_definition.specs.Scopes.{Scope}
use Rattle.expansion_definition.specs.State.{State, Result, refusal, ok, Comp, bind_r, ◌>>=◌, ret}
use Rattle.expansion_definition.specs.Charges.{charge, paid}
use Rattle.expansion_definition.specs.Values as values
use Rattle.expansion_definition.specs.Values.{Values, Env, value, src}
use Rattle.expansion_definition.specs.Instances.{open_scope, take_default, clone_or, interface_value, store}
use Rattle.expansion_definition.specs.Copy.{copy}
use Rattle.expansion_definition.specs.Reached.{is_given}
use Rattle.journal_records.specs.Records.{tag_stored}
use Rattle.journal_reading.specs.Reading.{values_at}
use Rattle.journal_reading.specs.WellFormed.{HandleAt}
use Rattle.journal_reading.proofs.Chains.{values_fixed}
use Rattle.refine_records.specs.declared.Limits.{Limits}
use Rattle.std.specs.declared.option.Option.TheVariants.{None}
use Rattle.std.specs.declared.result.Result.TheVariants.{Ok, Err}
use Rattle.refine_records.specs.declared.Refusal.{Refusal}
use Rattle.refine_records.specs.declared.Counts.{Counts}
use Rattle.refine_records.specs.declared.Env as code
use Rattle.refine_records.specs.Sound.{input_of, Standing, Later, env_of}
use Rattle.refine_records.specs.Does.{Answer, did, at, IfDone}
use Rattle.refine_records.specs.Contract.{Storable, StoredAt, ValueKept, OpenedAt, ScopeOpened}
use Rattle.refine_records.proofs.Later.{later_standing, later_handle}
use Rattle.refine_records.proofs.Opening.{open_env, env_open}
use Rattle.expander_parts.specs.Contract.{source_of, rows_of, node_at_row}
use Rattle.expander_parts.proofs.Lending.{lent_later}
use Rattle.expander_bindings.specs.Contract.{HasValue, GivenDone}
use Rattle.expander_contracts.specs.Contract.{Here, AtRow, Yields, Is, StoredValues, prototype_at, given_by, ValueStored, ValueCopied}
use Rattle.expander_contracts.proofs.Run.{Run, begin, turn, end, go, halt, through, went, gave, leaf, yields_young, yields_as}
use Rattle.expander_contracts.proofs.Keeps.{charged, stored_yields, charging, keeping_stop}

-- what a value is stored as
abbrev put : ℕ → Values → FieldValue → Values
put name vs v = (name, v) ∷ vs

-- a value, and then stored: as a charge asks
store_some : (I : Input) (name : ℕ) (vs : Values) (x : Result FieldValue) → bind_r {B = Values} (bind_r {B = Option FieldValue} x (λ v. ret (some v))) (store I name vs) ≡ bind_r {B = Values} x (λ v. charge I >>= (λ z. ret (put name vs v)))
unfolding bind_r store paid
store_some I name vs (refusal c i j) = refl
store_some I name vs (ok v s) = refl

-- ---- a value of a row, copied in an Env and stored behind those of h
module _ {root library dir w : List ℕ} {L : Limits} {t : Counts} {e : code.Env} (row depth name h : ℕ) (here : Here root library dir w L t e) (r : Row) (is : r ≡ get_or (rows_of root library dir e.slot) row blank) where
  abbrev R : List Row
  R = rows_of root library dir e.slot

  is_front : front (drop row R) ≡ r
  is_front = front_drop R row ∙ sym is

  abbrev storing : List ℕ → Input → Comp Values
  storing u = charged (λ I. value I (copy I depth (env_of w e)) (value_of (drop row R))) (put name (values_at u h))

  module _ {w' : List ℕ} {a : Answer} (y : ValueCopied root library dir w L t e row depth w' a) where
    stored_stop : (u : List ℕ) {x' : Refusal} → a ≡ Err x' → Yields root library L t.scopes (storing u) StoredValues w t w' a
    stored_stop u q = keeping_stop here.standing.sound (put name (values_at u h)) y q

    module _ (hl : HandleAt w t.charges tag_stored h) {s : Counts} {v p : ℕ} (q : a ≡ did s v p) where
      stored_ready : Storable w' s.charges r.f v h
      stored_ready = record { before = later_handle (went y q) hl; value = λ z. (gave y q).ids (rw is_front z) }

      stored_kept : {w'' : List ℕ} {b : Answer} → ValueKept L w' s name r.e r.f v h w'' b → Yields root library L t.scopes (storing w) StoredValues w t w'' b
      stored_kept k =
          charging here.standing.sound (put name (values_at w h)) y {K = StoredAt w' name r.e r.f v h} q (stored_yields t.scopes k)
          (λ t'' v'' p'' x. record { handle = x.handle; all = sym (x.list ∙ rw (values_fixed (went y q).kept h hl.low, (gave y q).value, is_front)) })

-- ---- what an IS target has
module _ {w : List ℕ} {e : code.Env} {target : ℕ} where
  some_is : HasValue w e target true → (v : FieldValue) × (and_then (env_of w e).is_values (values.value_named target) ≡ some v)
  some_is h = by (and_then (env_of w e).is_values (values.value_named target)) refl h.same
    where
      by : (o : Option FieldValue) → and_then (env_of w e).is_values (values.value_named target) ≡ o → is_given o ≡ true → (v : FieldValue) × (and_then (env_of w e).is_values (values.value_named target) ≡ some v)
      by none q z = absurd (let y : ◌≡◌ {A = ℕ} 0 1 = cc in omega arith)
      by (some v) q z = (v, q)

  none_is : HasValue w e target false → and_then (env_of w e).is_values (values.value_named target) ≡ none
  none_is h = by (and_then (env_of w e).is_values (values.value_named target)) h.same
    where
      by : (o : Option FieldValue) → is_given o ≡ false → o ≡ none
      by none z = refl
      by (some v) z = absurd (let y : ◌≡◌ {A = ℕ} 0 1 = cc in omega arith)

-- ---- `given`
-- the Env of a default's scope
abbrev pub default_env : ℕ → ℕ → ℕ → code.Env
default_env n place slot = record { scope = n; place = place; slot = slot; values = None }

module _ (root library dir w : List ℕ) (L : Limits) (t : Counts) (e : code.Env) (row slot proto q k h depth : ℕ) (here : Here root library dir w L t e) (d : Row) (is : d ≡ get_or (rows_of root library dir slot) q blank) {x : Found} (lf : LastField d.c (rows_of root library dir e.slot) row x) where
  abbrev F : List Row
  F = rows_of root library dir e.slot

  abbrev Q : List Row
  Q = rows_of root library dir slot

  abbrev m : Input → Comp Values
  m I = given_by I (copy I depth) (env_of w e) (prototype_at dir slot proto) (node_at_row root library dir e.slot row).fields k (interface_of (drop q Q)) (values_at w h)

  abbrev scope : Scope
  scope = Scope.Default (prototype_at dir slot proto) k e.scope

  -- by the row of the interface, and the field that was found
  by_rows : (I : Input) (st : State) → m I st ≡ bind_r (interface_value I (copy I depth) (env_of w e) scope (choose (eqb d.f 0) none (some (value_of (drop q Q)))) (map_o (λ l. (field_of l).binding) (rows_at F x)) st) (store I d.c (values_at w h))
  unfolding given_by interface_of
  by_rows I st = let f : front (drop q Q) ≡ d = front_drop Q q ∙ sym is in rw (f, lf.is)

  -- a field
  module _ {f : ℕ} (eq : x ≡ At f) (r : Row) (ir : r ≡ get_or F f blank) where
    pub given_row : AtRow root library dir e.slot f
    given_row = record { below = rw eq at lf.below }

    is_row : front (drop f F) ≡ r
    is_row = front_drop F f ∙ sym ir

    is_bound : r.b ≡ 1 → (field_of (drop f F)).binding ≡ FieldBinding.Is r.c
    unfolding field_of
    is_bound b = rw (is_row, eq-eqb r.b 1 b)

    has_value : (r.b ≡ 1 → ⊥) → (field_of (drop f F)).binding ≡ FieldBinding.Value (value_of (drop f F))
    unfolding field_of
    has_value b = rw (is_row, ne_eqb r.b 1 b)

    pub given_is : r.b ≡ 1 → HasValue w e r.c true → {w' : List ℕ} {a : Answer} → GivenDone L w t e r.c d.c h w' a → ValueStored root library dir w L t e row slot proto q k h depth w' a
    unfolding interface_value clone_or
    given_is b has {w'} {a} g =
        yields_as {n = λ I. clone_or I (ret none) (and_then (env_of w e).is_values (values.value_named r.c)) >>= store I d.c (values_at w h)}
        (leaf {P = StoredValues} [] (λ D. g.does (source_of root library D) t.scopes) (by a g.done)) m
        (λ D. sym (by_rows (input_of (source_of root library D) L) (at (source_of root library D) w t) ∙ rw (eq, is_bound b, (some_is has).1)))
      where
        by : (a : Answer) → IfDone (λ t' v p. HandleAt w' t'.charges tag_stored v) a → IfDone (λ t' v p. StoredValues w' t' v p (values_at w' v)) a
        by (Ok a') z = record { handle = z; all = refl }
        by (Err x') z = tt

    as_given : (r.b ≡ 1 → ⊥) → {w' : List ℕ} {a : Answer} → Yields root library L t.scopes (storing f depth d.c h here r ir w) StoredValues w t w' a → ValueStored root library dir w L t e row slot proto q k h depth w' a
    unfolding interface_value
    as_given b y =
        yields_as y m
        (λ D.
        let I : Input = input_of (source_of root library D) L in
        sym (by_rows I (at (source_of root library D) w t) ∙ rw (eq, has_value b) (store_some I d.c (values_at w h) (value I (copy I depth (env_of w e)) (value_of (drop f F)) (at (source_of root library D) w t)))))

    module _ (b : r.b ≡ 1 → ⊥) {w' : List ℕ} {a : Answer} (y : ValueCopied root library dir w L t e f depth w' a) where
      pub given_stop : {x' : Refusal} → a ≡ Err x' → ValueStored root library dir w L t e row slot proto q k h depth w' a
      given_stop z = as_given b (stored_stop f depth d.c h here r ir y w z)

      module _ (hl : HandleAt w t.charges tag_stored h) {s : Counts} {v p : ℕ} (z : a ≡ did s v p) where
        pub given_ready : Standing L w' s × Storable w' s.charges r.f v h
        given_ready = (later_standing (went y z) here.standing, stored_ready f depth d.c h here r ir y hl z)

        pub given_kept : {w'' : List ℕ} {o : Answer} → ValueKept L w' s d.c r.e r.f v h w'' o → ValueStored root library dir w L t e row slot proto q k h depth w'' o
        given_kept kp = as_given b (stored_kept f depth d.c h here r ir y hl z kp)

  -- no field gives a value: none is there, or its IS finds none
  pub data Ungiven : Type 0 where
    absent : x ≡ Nothing → Ungiven
    unset : {f : ℕ} → x ≡ At f → (r : Row) → r ≡ get_or F f blank → r.b ≡ 1 → HasValue w e r.c false → Ungiven

  -- Then the default is taken, if there is one.
  ungiven_default : Ungiven → (I : Input) (default : Option FieldValue) (st : State) → interface_value I (copy I depth) (env_of w e) scope default (map_o (λ l. (field_of l).binding) (rows_at F x)) st ≡ take_default I (copy I depth) scope default st
  unfolding interface_value clone_or
  ungiven_default (absent eq) I default st = rw eq
  ungiven_default (unset eq r ir b has) I default st = rw (eq, is_bound eq r ir b, none_is has)

  -- no field gives a value, and no default
  pub given_none : Ungiven → d.f ≡ 0 → HandleAt w t.charges tag_stored h → ValueStored root library dir w L t e row slot proto q k h depth w (did t h 0)
  unfolding take_default store bind_r
  given_none u z hl =
      end
      (turn (begin t.scopes m here.standing.sound) (λ I. ret (values_at w h)) (λ D. by_rows (input_of (source_of root library D) L) (at (source_of root library D) w t) ∙ rw (ungiven_default u, eq-eqb d.f 0 z)))
      (record { handle = hl; all = refl })

  -- no field gives a value: the default, in its scope
  module _ (u : Ungiven) (z : d.f ≡ 0 → ⊥) where
    -- the default, copied in the scope n
    abbrev in_scope : ℕ → Input → Comp Values
    in_scope n = charged (λ I. value I (copy I depth (record { scope = n; entry = scope; is_values = none })) (value_of (drop q Q))) (put d.c (values_at w h))

    opens : Run root library L t.scopes m w t (λ I. open_scope I scope >>= (λ n. in_scope n I)) w t
    unfolding take_default bind_r
    opens =
        turn (begin t.scopes m here.standing.sound) (λ I. open_scope I scope >>= (λ n. in_scope n I))
        (λ D. by_rows (input_of (source_of root library D) L) (at (source_of root library D) w t) ∙ rw (ungiven_default u, ne_eqb d.f 0 z) (by (input_of (source_of root library D) L) (open_scope (input_of (source_of root library D) L) scope (at (source_of root library D) w t))))
      where
        by : (I : Input) (o : Result ℕ) → bind_r {B = Values} (bind_r {B = Option FieldValue} o (λ n. value I (copy I depth (record { scope = n; entry = scope; is_values = none })) (value_of (drop q Q)) >>= (λ v. ret (some v)))) (store I d.c (values_at w h)) ≡ bind_r {B = Values} o (λ n. in_scope n I)
        by I (refusal c i j) = refl
        by I (ok n s) = store_some I d.c (values_at w h) (value I (copy I depth (record { scope = n; entry = scope; is_values = none })) (value_of (drop q Q)) s)

    module _ {doc : ℕ} (ed : doc ≡ number_of dir slot) {w₁ : List ℕ} {a : Answer} (o : ScopeOpened L w t 2 doc proto k e.scope w₁ a) where
      opened : Yields root library L t.scopes (λ I. open_scope I scope) Is w t w₁ a
      opened = leaf 0 (λ D. (rw ed at o).does (source_of root library D) t.scopes) (by a)
        where
          by : (a : Answer) → IfDone (λ t' v p. Is w₁ t' v p v) a
          by (Ok a') = record { value = refl }
          by (Err x') = tt

      pub default_stop : {x' : Refusal} → a ≡ Err x' → ValueStored root library dir w L t e row slot proto q k h depth w₁ a
      default_stop c = halt (λ I n. in_scope n I) opens opened c []

      module _ {t₁ : Counts} {n p : ℕ} (ok : a ≡ did t₁ n p) {place : ℕ} (ep : place ≡ p) (sl : Slot dir slot) where
        abbrev inner : code.Env
        inner = default_env n place slot

        y : Later L t.scopes w t w₁ t₁
        y = went opened ok

        oa : OpenedAt w t 2 (number_of dir slot) proto k e.scope w₁ t₁ n p
        oa = rw (ed, ok) at o.done

        is_env : env_of w₁ inner ≡ record { scope = n; entry = scope; is_values = none }
        is_env = env_open oa here.standing.sound y inner refl ep tt

        pub default_here : Here root library dir w₁ L t₁ inner
        default_here = record {
          standing = later_standing y here.standing;
          lent = lent_later y here.lent;
          env = open_env oa here.standing.sound y inner refl ep tt;
          slot = sl;
          number = sym (ap (λ (E : Env). src E) is_env);
        }

        as_default : {w' : List ℕ} {b : Answer} → Yields root library L t₁.scopes (storing q depth d.c h default_here d is w) StoredValues w₁ t₁ w' b → ValueStored root library dir w L t e row slot proto q k h depth w' b
        as_default {w'} {b} v =
            through (go (λ I n. in_scope n I) opens opened ok)
            (rw (gave opened ok).value (yields_young y.scoped (subst (λ (E : Env). Yields root library L t₁.scopes (charged (λ I. value I (copy I depth E) (value_of (drop q Q))) (put d.c (values_at w h))) StoredValues w₁ t₁ w' b) is_env v)))

        module _ {w' : List ℕ} {b : Answer} (v : ValueCopied root library dir w₁ L t₁ inner q depth w' b) where
          pub default_value_stop : {x' : Refusal} → b ≡ Err x' → ValueStored root library dir w L t e row slot proto q k h depth w' b
          default_value_stop c = as_default (stored_stop q depth d.c h default_here d is v w c)

          module _ (hl : HandleAt w t.charges tag_stored h) {s : Counts} {g p' : ℕ} (said : b ≡ did s g p') where
            pub default_ready : Standing L w' s × Storable w' s.charges d.f g h
            default_ready = (later_standing (went v said) default_here.standing, stored_ready q depth d.c h default_here d is v (later_handle y hl) said)

            pub default_kept : {w'' : List ℕ} {u : Answer} → ValueKept L w' s d.c d.e d.f g h w'' u → ValueStored root library dir w L t e row slot proto q k h depth w'' u
            default_kept kp = as_default (rw (← values_fixed y.kept h hl.low) (stored_kept q depth d.c h default_here d is v (later_handle y hl) said kp))
