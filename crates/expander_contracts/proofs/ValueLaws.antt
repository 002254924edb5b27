-- `value`: a payload, or the copies of ids, each behind a charge.
use mathlib.Core.Path.{◌≡◌, refl, sym, ap, subst, ◌∙◌}
use mathlib.Core.Bool.{true, false}
use mathlib.Core.List.{List, []}
use Prim.Native.Nat.{ℕ, ◌+◌}
use native.Mathlib.Omega.{arith}
use lib.ListN.{drop, get_or}
use lib.Dec.{eqb}
use borrow.Author.Tests.{eq-eqb, ne_eqb}
use Rattle.ast.specs.Ast.{FieldData, FieldValue}
use Rattle.sheet_rows.specs.declared.row.Row.{Row}
use Rattle.sheet_rows.specs.declared.part.Part.TheVariants.{Ids}
use Rattle.sheet_rows.specs.Rows.{blank, front, rest}
use Rattle.sheet_rows.specs.Parse.{elements, ids_of, value_of}
use Rattle.sheet_walks.specs.Walk.{Stands}
use Rattle.sheet_walks.proofs.WalkLaws.{front_drop}
use Rattle.expansion_definition.specs.Input.{Input}
use Rattle.expansion_definition.specs.State.{Result, refusal, ok, Comp, bind_r, ◌>>=◌, ret, map_m}
use Rattle.expansion_definition.specs.Charges.{paid}
use Rattle.expansion_definition.specs.Values.{Env, copy_data, value}
use Rattle.expansion_definition.specs.Copy.{copy}
use Rattle.journal_records.specs.Records.{tag_id}
use Rattle.journal_records.specs.Made.{id_record}
use Rattle.journal_reading.specs.Reading.{ids_at}
use Rattle.journal_reading.specs.WellFormed.{HandleAt}
use Rattle.journal_reading.proofs.Chains.{ids_none, ids_fixed}
use Rattle.refine_records.specs.declared.Limits.{Limits}
use Rattle.std.specs.declared.result.Result.TheVariants.{Err}
use Rattle.refine_records.specs.declared.Refusal.{Refusal}
use Rattle.refine_records.specs.declared.Counts.{Counts}
use Rattle.refine_records.specs.declared.Env as code
use Rattle.refine_records.specs.Sound.{input_of, env_of}
use Rattle.refine_records.specs.Does.{Answer, did, at}
use Rattle.refine_records.specs.Contract.{Keepable, RecordKept}
use Rattle.refine_records.proofs.Later.{env_later, later_handle}
use Rattle.refine_records.proofs.Keeping.{kept_handle, kept_ids}
use Rattle.expander_parts.specs.Contract.{source_of, rows_of}
use Rattle.expander_contracts.specs.Contract.{Here, Yields, ListAppended, one, Copied, ValueCopied}
use Rattle.expander_contracts.proofs.Run.{begin, turn, end, went, gave, since, here_later}
use Rattle.expander_contracts.proofs.Keeps.{keeping, keeping_stop}
use Rattle.expander_contracts.proofs.Walks.{Mapping, loop_start, loop_again, loop_stop, loop_end}

never : false ≡ true → ⊥
never z = let k : ◌≡◌ {A = ℕ} 0 1 = cc in omega arith

-- the record of an id behind those of h
pub id_keepable : {w : List ℕ} {c o h : ℕ} → HandleAt w c tag_id h → Keepable w c (id_record o h)
id_keepable x = record { least = omega arith; most = omega arith; before = x; value = λ z. absurd (never z) }

-- ---- an id: its copy, and the charge
module _ {root library dir w : List ℕ} {L : Limits} {t : Counts} {e : code.Env} (i depth : ℕ) (h : Here root library dir w L t e) {w' : List ℕ} {a : Answer} (y : Copied root library w L t e i depth w' a) where
  pub id_stop : (l : ℕ) {x' : Refusal} → a ≡ Err x' → Yields root library L t.scopes (λ I. paid I (copy I depth (env_of w e) i)) (ListAppended tag_id ids_at one (ids_at w l)) w t w' a
  unfolding paid
  id_stop l q = keeping_stop h.standing.sound (λ x. x) y q

  module _ {l : ℕ} (hl : HandleAt w t.charges tag_id l) {s : Counts} {o p : ℕ} (q : a ≡ did s o p) where
    pub id_handle : HandleAt w' s.charges tag_id l
    id_handle = later_handle (went y q) hl

    pub id_kept : {w'' : List ℕ} {b : Answer} → RecordKept L w' s (id_record o l) w'' b → Yields root library L t.scopes (λ I. paid I (copy I depth (env_of w e) i)) (ListAppended tag_id ids_at one (ids_at w l)) w t w'' b
    unfolding paid
    id_kept k = keeping h.standing.sound (λ x. x) y q k (λ t'' v p'' x. record {
      handle = kept_handle x (id_keepable id_handle);
      all = kept_ids x (id_keepable id_handle) ∙ rw (ids_fixed (went y q).kept l hl.low, (gave y q).value);
    })

module _ (root library dir w : List ℕ) (L : Limits) (t : Counts) (e : code.Env) (row depth : ℕ) where
  abbrev R : List Row
  R = rows_of root library dir e.slot

  abbrev m : Input → Comp FieldValue
  m I = value I (copy I depth (env_of w e)) (value_of (drop row R))

  abbrev each : Input → ℕ → Comp ℕ
  each I i = paid I (copy I depth (env_of w e) i)

  abbrev last : Input → List ℕ → Comp FieldValue
  last I out = ret (record { ty = (front (drop row R)).e; «data» = FieldData.Nodes out })

  -- the loop over the ids
  abbrev pub Valuing : List ℕ → Counts → ℕ → ℕ → Type 0
  Valuing = Mapping root library L t.scopes m w t each (λ x. (front x).a) last Ids R tag_id ids_at (λ l. l)

  module _ (h : Here root library dir w L t e) {r : Row} (is : r ≡ get_or R row blank) where
    is_front : front (drop row R) ≡ r
    is_front = front_drop R row ∙ sym is

    pub value_payload : (r.f ≡ 2 → ⊥) → ValueCopied root library dir w L t e row depth w (did t r.g 0)
    unfolding value copy_data bind_r
    value_payload n =
        end (turn (begin t.scopes m h.standing.sound) (λ I. ret (record { ty = r.e; «data» = FieldData.Payload r.g })) (λ D. rw (is_front, ne_eqb r.f 2 n)))
        (record { value = rw (is_front, ne_eqb r.f 2 n); ids = λ q. absurd (n (rw is_front at q)) })

    module _ (n : r.f ≡ 2) where
      pub value_start : Valuing w t 0 (row + 1)
      unfolding value copy_data bind_r ids_of
      value_start =
          loop_start row
          (turn (begin t.scopes m h.standing.sound) (λ I. map_m (each I) (ids_of (rest (drop row R))) >>= last I)
          (λ D. rw twos (by (map_m (each (input_of (source_of root library D) L)) (ids_of (rest (drop row R))) (at (source_of root library D) w t)))))
          (ids_none w)
        where
          twos : eqb (front (drop row R)).f 2 ≡ true
          twos = rw is_front (eq-eqb r.f 2 n)

          by : (x : Result (List ℕ)) → bind_r {B = FieldValue} (bind_r {B = FieldData} x (λ out. ret (FieldData.Nodes out))) (λ d. ret (record { ty = (front (drop row R)).e; «data» = d })) ≡ bind_r {B = FieldValue} x (λ out. ret (record { ty = (front (drop row R)).e; «data» = FieldData.Nodes out }))
          by (refusal c i j) = refl
          by (ok out st) = refl

      pub value_end : {w₁ : List ℕ} {t₁ : Counts} {l p : ℕ} → Valuing w₁ t₁ l p → elements Ids (drop p R) ≡ [] → ValueCopied root library dir w L t e row depth w₁ (did t₁ l 0)
      value_end x z = end (loop_end z x) (record { value = rw (is_front, eq-eqb r.f 2 n, x.all); ids = λ q. x.handle })

  -- ---- a turn: the id of row q is copied, then its record
  module _ (h : Here root library dir w L t e) {w₁ : List ℕ} {t₁ : Counts} {l p : ℕ} (x : Valuing w₁ t₁ l p) where
    pub value_here : Here root library dir w₁ L t₁ e
    value_here = here_later (since x.run) h

    module _ {q : ℕ} (s : Stands Ids R p q) {i : Row} (ir : i ≡ get_or R q blank) {w₂ : List ℕ} {a : Answer} (y : Copied root library w₁ L t₁ e i.a depth w₂ a) where
      -- the same, in the words of the start
      turned : {w₃ : List ℕ} {b : Answer} → Yields root library L t₁.scopes (λ I. paid I (copy I depth (env_of w₁ e) i.a)) (ListAppended tag_id ids_at one (ids_at w₁ l)) w₁ t₁ w₃ b → Yields root library L t₁.scopes (λ I. each I (front (drop q R)).a) (ListAppended tag_id ids_at one (ids_at w₁ l)) w₁ t₁ w₃ b
      turned {w₃} {b} z =
          subst (λ (j : ℕ). Yields root library L t₁.scopes (λ I. each I j) (ListAppended tag_id ids_at one (ids_at w₁ l)) w₁ t₁ w₃ b) (ap (λ (k : Row). k.a) (ir ∙ sym (front_drop R q)))
          (subst (λ (E : Env). Yields root library L t₁.scopes (λ I. paid I (copy I depth E i.a)) (ListAppended tag_id ids_at one (ids_at w₁ l)) w₁ t₁ w₃ b) (env_later (since x.run) h.env) z)

      pub value_stop : {x' : Refusal} → a ≡ Err x' → (b : FieldValue) → ValueCopied root library dir w L t e row depth w₂ a
      value_stop eq b = loop_stop s x (turned (id_stop i.a depth value_here y l eq)) (since x.run).scoped eq b

      module _ {s₂ : Counts} {o o' : ℕ} (eq : a ≡ did s₂ o o') where
        pub value_ready : Keepable w₂ s₂.charges (id_record o l)
        value_ready = id_keepable (id_handle i.a depth value_here y x.handle eq)

        module _ {w₃ : List ℕ} {b : Answer} (k : RecordKept L w₂ s₂ (id_record o l) w₃ b) where
          z : Yields root library L t₁.scopes (λ I. each I (front (drop q R)).a) (ListAppended tag_id ids_at one (ids_at w₁ l)) w₁ t₁ w₃ b
          z = turned (id_kept i.a depth value_here y x.handle eq k)

          pub value_halt : {x' : Refusal} → b ≡ Err x' → (v : FieldValue) → ValueCopied root library dir w L t e row depth w₃ b
          value_halt e₃ v = loop_stop s x z (since x.run).scoped e₃ v

          pub value_again : {t₃ : Counts} {v g : ℕ} → b ≡ did t₃ v g → Valuing w₃ t₃ v (q + 1)
          value_again e₃ = loop_again s x z (since x.run).scoped (λ bs b. refl) e₃
