-- `fields` and `field`.
use mathlib.Core.Path.{◌≡◌, refl, sym, ap, subst, ◌∙◌}
use mathlib.Core.List.{List, [], ◌∷◌, ◌++◌}
use mathlib.Core.Option.{Option, none, some}
use Prim.Native.Nat.{ℕ, ◌+◌}
use native.Mathlib.Omega.{arith}
use lib.ListN.{drop, get_or}
use borrow.Author.Tests.{eq-eqb, ne_eqb}
use Rattle.ast.specs.Ast.{FieldValue, FieldBinding, Field}
use Rattle.sheet_rows.specs.declared.row.Row.{Row}
use Rattle.sheet_rows.specs.declared.part.Part.TheVariants.{Fields}
use Rattle.sheet_rows.specs.Rows.{blank, front}
use Rattle.sheet_rows.specs.Parse.{elements, value_of, field_of, fields_of, node_of}
use Rattle.sheet_walks.specs.Walk.{Stands}
use Rattle.sheet_walks.proofs.WalkLaws.{front_drop}
use Rattle.expansion_definition.specs.Input.{Input}
use Rattle.expansion_definition.specs.State.{Comp, ret, map_m}
use Rattle.expansion_definition.specs.Values.{Env, value}
use Rattle.expansion_definition.specs.PlainCopy.{is_value, copy_field, copy_binding, somes}
use Rattle.expansion_definition.specs.Copy.{copy}
use Rattle.journal_records.specs.Records.{tag_id, tag_field}
use Rattle.journal_records.specs.Made.{field_record}
use Rattle.journal_reading.specs.Reading.{fields_at}
use Rattle.journal_reading.specs.WellFormed.{HandleAt}
use Rattle.journal_reading.proofs.Chains.{fields_none, fields_fixed}
use Rattle.refine_records.specs.declared.Limits.{Limits}
use Rattle.std.specs.declared.result.Result.TheVariants.{Ok, Err}
use Rattle.refine_records.specs.declared.Refusal.{Refusal}
use Rattle.refine_records.specs.declared.Counts.{Counts}
use Rattle.refine_records.specs.declared.Env as code
use Rattle.refine_records.specs.Sound.{input_of, env_of}
use Rattle.refine_records.specs.Does.{Answer, did, at, IfDone}
use Rattle.refine_records.specs.Contract.{Keepable, RecordKept}
use Rattle.refine_records.proofs.Later.{env_later, later_handle}
use Rattle.refine_records.proofs.Keeping.{kept_handle, kept_fields_lem}
use Rattle.expander_parts.specs.Contract.{source_of, rows_of, node_at_row}
use Rattle.expander_parts.proofs.Said.{somes_more}
use Rattle.expander_bindings.specs.Contract.{is_field_of, bound_field, FieldsAfter, FieldDone}
use Rattle.expander_contracts.specs.Contract.{Here, Yields, list, AddsField, FieldAdded, FieldsCopied, ValueCopied}
use Rattle.expander_contracts.proofs.Run.{begin, last, end, went, gave, leaf, yields_as, since, here_later}
use Rattle.expander_contracts.proofs.Keeps.{charged, paid_then, keeping, keeping_stop}
use Rattle.expander_contracts.proofs.Walks.{Mapping, loop_start, loop_again, loop_stop, loop_end}

-- ---- lists of those kept
pub somes_one : {A : Type 0} (b : Option A) → somes (b ∷ []) ≡ list b
unfolding somes
somes_one none = refl
somes_one (some a) = refl

pub somes_last : {A : Type 0} (bs : List (Option A)) (b : Option A) → somes (bs ++ (b ∷ [])) ≡ somes bs ++ list b
somes_last bs b = somes_more bs (b ∷ []) ∙ ap (λ l. somes bs ++ l) (somes_one b)

pub field_keepable : {w : List ℕ} {c v h : ℕ} (r : Row) → HandleAt w c tag_field h → (r.f ≡ 2 → HandleAt w c tag_id v) → Keepable w c (field_record r.a 0 0 r.d r.e r.f v h)
field_keepable r x y = record { least = omega arith; most = omega arith; before = x; value = λ z q. y q }

module _ (root library dir w : List ℕ) (L : Limits) (t : Counts) (e : code.Env) (new row depth : ℕ) where
  abbrev R : List Row
  R = rows_of root library dir e.slot

  -- ---- `fields`
  abbrev each : Input → Field → Comp (Option Field)
  each I f = copy_field I (copy I depth (env_of w e)) (env_of w e) new f

  abbrev m : Input → Comp (List (Option Field))
  m I = map_m (each I) (node_at_row root library dir e.slot row).fields

  abbrev pub Fielding : List ℕ → Counts → ℕ → ℕ → Type 0
  Fielding = Mapping root library L t.scopes m w t each field_of (λ I l. ret l) Fields R tag_field fields_at somes

  module _ (h : Here root library dir w L t e) where
    pub fields_start : Fielding w t 0 (row + 1)
    unfolding node_of fields_of somes
    fields_start = loop_start row (last (begin t.scopes m h.standing.sound)) (fields_none w)

    pub fields_end : {w₁ : List ℕ} {t₁ : Counts} {l p : ℕ} → Fielding w₁ t₁ l p → elements Fields (drop p R) ≡ [] → FieldsCopied root library dir w L t e new row depth w₁ (did t₁ l 0)
    fields_end x z = end (loop_end z x) (record { handle = x.handle; all = x.all })

    module _ {w₁ : List ℕ} {t₁ : Counts} {l p : ℕ} (x : Fielding w₁ t₁ l p) where
      pub fields_here : Here root library dir w₁ L t₁ e
      fields_here = here_later (since x.run) h

      module _ {q : ℕ} (s : Stands Fields R p q) {w₂ : List ℕ} {a : Answer} (y : FieldAdded root library dir w₁ L t₁ e new q l depth w₂ a) where
        same : Yields root library L t₁.scopes (λ I. each I (field_of (drop q R))) (AddsField (fields_at w₁ l)) w₁ t₁ w₂ a
        same = subst (λ (E : Env). Yields root library L t₁.scopes (λ I. copy_field I (copy I depth E) E new (field_of (drop q R))) (AddsField (fields_at w₁ l)) w₁ t₁ w₂ a) (env_later (since x.run) h.env) y

        pub fields_again : {t₂ : Counts} {v o : ℕ} → a ≡ did t₂ v o → Fielding w₂ t₂ v (q + 1)
        fields_again eq = loop_again s x same (since x.run).scoped somes_last eq

        pub fields_stop : {x' : Refusal} → a ≡ Err x' → FieldsCopied root library dir w L t e new row depth w₂ a
        fields_stop eq = loop_stop s x same (since x.run).scoped eq []

    -- ---- `field`
    module _ (r : Row) (is : r ≡ get_or R row blank) (l : ℕ) where
      is_front : front (drop row R) ≡ r
      is_front = front_drop R row ∙ sym is

      is_field : r.b ≡ 1 → field_of (drop row R) ≡ is_field_of r
      unfolding field_of
      is_field q = rw (is_front, eq-eqb r.b 1 q)

      has_value : (r.b ≡ 1 → ⊥) → field_of (drop row R) ≡ record { name = r.a; binding = FieldBinding.Value (value_of (drop row R)); inferred = r.d }
      unfolding field_of
      has_value n = rw (is_front, ne_eqb r.b 1 n)

      abbrev bound : Option Field
      bound = bound_field (is_field_of r) (is_value (env_of w e) r.c)

      pub field_is : r.b ≡ 1 → {w' : List ℕ} {a : Answer} → FieldDone L w t e new r l w' a → FieldAdded root library dir w L t e new row l depth w' a
      field_is q {w'} {a} x =
          rw (is_field q) (leaf {P = AddsField (fields_at w l)} none (λ D. x.does (source_of root library D) t.scopes (copy (input_of (source_of root library D) L) depth (env_of w e))) (by a x.done))
        where
          by : (a : Answer) → IfDone (λ t' v p. FieldsAfter w l bound w' t' v) a → IfDone (λ t' v p. AddsField (fields_at w l) w' t' v p bound) a
          by (Ok a') z = record { handle = z.handle; all = z.list ∙ ap (λ k. fields_at w l ++ k) (somes_one bound) }
          by (Err x') z = tt

      -- a value, and the charge
      abbrev made : FieldValue → Option Field
      made v = some (record { name = r.a; binding = FieldBinding.Value v; inferred = r.d })

      abbrev copied : Input → Comp FieldValue
      copied I = value I (copy I depth (env_of w e)) (value_of (drop row R))

      as_field : (r.b ≡ 1 → ⊥) → {w' : List ℕ} {a : Answer} → Yields root library L t.scopes (charged copied made) (AddsField (fields_at w l)) w t w' a → FieldAdded root library dir w L t e new row l depth w' a
      unfolding copy_field copy_binding
      as_field n y =
          yields_as y (λ I. each I (field_of (drop row R)))
          (λ D. rw (has_value n) (sym (paid_then (input_of (source_of root library D) L) (copied (input_of (source_of root library D) L)) made (at (source_of root library D) w t))))

      module _ (n : r.b ≡ 1 → ⊥) {w' : List ℕ} {a : Answer} (y : ValueCopied root library dir w L t e row depth w' a) where
        pub field_stop : {x' : Refusal} → a ≡ Err x' → FieldAdded root library dir w L t e new row l depth w' a
        field_stop q = as_field n (keeping_stop h.standing.sound made y q)

        module _ (hl : HandleAt w t.charges tag_field l) {s : Counts} {v p : ℕ} (q : a ≡ did s v p) where
          pub field_ready : Keepable w' s.charges (field_record r.a 0 0 r.d r.e r.f v l)
          field_ready = field_keepable r (later_handle (went y q) hl) (λ z. (gave y q).ids (rw is_front z))

          pub field_kept_lem : {w'' : List ℕ} {b : Answer} → RecordKept L w' s (field_record r.a 0 0 r.d r.e r.f v l) w'' b → FieldAdded root library dir w L t e new row l depth w'' b
          field_kept_lem k = as_field n (keeping h.standing.sound made y q k (λ t'' v'' p'' x. record {
            handle = kept_handle x field_ready;
            all = kept_fields_lem x field_ready refl ∙ rw (fields_fixed (went y q).kept l hl.low, (gave y q).value, is_front);
          }))
