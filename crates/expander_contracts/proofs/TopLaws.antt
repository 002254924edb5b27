-- The top statements: one by its row, all of them, and the whole from nothing.
use mathlib.Core.Path.{◌≡◌, refl, sym, ap, subst, ◌∙◌}
use mathlib.Core.Bool.{true, false}
use mathlib.Core.List.{List, [], ◌∷◌, ◌++◌, append-nil}
use mathlib.Core.Option.{Option, none, some}
use Prim.Native.Nat.{ℕ, zero, suc, ◌+◌, ◌≤◌, ◌<◌}
use native.Mathlib.Omega.{arith}
use lib.ListN.{length, drop, get_or}
use Rattle.ast.specs.Ast.{Statement}
use Rattle.sheet_rows.specs.declared.row.Row.{Row}
use Rattle.sheet_rows.specs.declared.part.Part.TheVariants.{Statements, Tops}
use Rattle.sheet_rows.specs.Rows.{rows, blank, rest}
use Rattle.sheet_rows.specs.Parse.{elements, route_of, statement_of, statements_of, after_top, document_of}
use Rattle.sheet_walks.specs.Walk.{Stands}
use Rattle.sheet_walks.proofs.WalkLaws.{front_drop, rest_drop}
use Rattle.source_directory.specs.Directory.{number_of}
use Rattle.expansion_definition.specs.Input.{Input}
use Rattle.expansion_definition.specs.Scopes.{Scope}
use Rattle.expansion_definition.specs.State.{State, Comp, refusal, bind_r, ◌>>=◌, ◌>>◌, ret, map_m, start_state}
use Rattle.expansion_definition.specs.Charges.{paid, one_more}
use Rattle.expansion_definition.specs.Values.{Env, src}
use Rattle.expansion_definition.specs.PlainCopy.{somes}
use Rattle.expansion_definition.specs.Instances.{open_scope}
use Rattle.expansion_definition.specs.Copy.{copy}
use Rattle.expansion_definition.specs.Expand.{statement, statements, root_env}
use Rattle.journal_records.specs.Records.{tag_statement, Paid}
use Rattle.journal_records.specs.Made.{statement_record}
use Rattle.journal_reading.specs.Reading.{statements_at}
use Rattle.journal_reading.specs.WellFormed.{HandleAt}
use Rattle.journal_reading.proofs.Fair.{handle_none}
use Rattle.journal_reading.proofs.Chains.{statements_none, statements_fixed}
use Rattle.refine_records.specs.declared.Limits.{Limits}
use Rattle.std.specs.declared.option.Option.TheVariants.{None}
use Rattle.std.specs.declared.result.Result.TheVariants.{Ok, Err}
use Rattle.refine_records.specs.declared.Refusal.{Refusal}
use Rattle.refine_records.specs.declared.Refusal.TheVariants.{TooManyRows}
use Rattle.refine_records.specs.declared.Counts.{Counts}
use Rattle.refine_records.specs.declared.Env as code
use Rattle.refine_records.specs.Sound.{Source, input_of, nothing_yet, Standing, Later, ValuesBelow, env_of}
use Rattle.refine_records.specs.Does.{Answer, did, at, IfDone, Does, Doing}
use Rattle.refine_records.specs.Contract.{Keepable, RecordKept, OpenedAt, ScopeOpened}
use Rattle.refine_records.proofs.Beginning.{state_none}
use Rattle.refine_records.proofs.Charges.{charge_full, charge_some}
use Rattle.refine_values.proofs.Cloning.{paid_later, paid_state}
use Rattle.refine_records.proofs.Later.{env_later, later_handle, later_standing}
use Rattle.refine_records.proofs.Keeping.{kept_handle, kept_statements_lem}
use Rattle.refine_records.proofs.Opening.{open_env, env_open}
use Rattle.refine_records.proofs.Calculus as calculus
use Rattle.expander_parts.specs.Contract.{source_of, statement_at, StatementAppended, Routed, ExternStated}
use Rattle.expander_parts.proofs.Lending.{lent_later}
use Rattle.expander_marks.proofs.Entries.{said_same}
use Rattle.source_lookup.proofs.SourcedLaws.{slot_root, number_root}
use Rattle.expander_contracts.specs.Contract.{Here, Yields, list, AddsStatement, Copied, StatementAdded, TopStatements as AllTops, TopsCopied, NothingRecorded, TopStatementsCopied}
use Rattle.expander_contracts.proofs.Run.{begin, last, end, went, gave, leaf, yields_as, since, here_later}
use Rattle.expander_contracts.proofs.Keeps.{charged, paid_then, keeping, keeping_stop}
use Rattle.expander_contracts.proofs.Walks.{Mapping, loop_start, loop_again, loop_stop, loop_end}
use Rattle.expander_contracts.proofs.FieldLaws.{somes_last}

-- the record of a statement that is a kind and an id
pub statement_keepable : {w : List ℕ} {c h : ℕ} (kind id : ℕ) → HandleAt w c tag_statement h → Keepable w c (statement_record kind id h)
statement_keepable kind id x = record { least = omega arith; most = omega arith; before = x; value = λ e. absurd (never e) }
  where
    never : false ≡ true → ⊥
    never z = let k : ◌≡◌ {A = ℕ} 0 1 = cc in omega arith

past : {A : Type 0} (x y z u d : A) (n : ℕ) → (n ≡ 0 → ⊥) → (n ≡ 1 → ⊥) → (n ≡ 2 → ⊥) → (n ≡ 3 → ⊥) → get_or (x ∷ y ∷ z ∷ u ∷ []) n d ≡ d
past x y z u d zero p q r s = absurd (p refl)
past x y z u d (suc zero) p q r s = absurd (q refl)
past x y z u d (suc (suc zero)) p q r s = absurd (r refl)
past x y z u d (suc (suc (suc zero))) p q r s = absurd (s refl)
past x y z u d (suc (suc (suc (suc n)))) p q r s = refl

-- ---- one statement
module _ (root library dir w : List ℕ) (L : Limits) (t : Counts) (e : code.Env) (row l depth : ℕ) (h : Here root library dir w L t e) (hl : HandleAt w t.charges tag_statement l) {r : Row} (is : r ≡ get_or (rows root) row blank) where
  -- it is said by its row alone
  said : {s : Statement} → statement_of (r ∷ []) ≡ s → {w' : List ℕ} {a : Answer} → Yields root library L t.scopes (λ I. statement I (copy I depth (env_of w e)) (env_of w e) s) (AddsStatement (statements_at w l)) w t w' a → StatementAdded root library w L t e row l depth w' a
  said {s} q {w'} {a} y =
      subst (λ (x : Statement). Yields root library L t.scopes (λ I. statement I (copy I depth (env_of w e)) (env_of w e) x) (AddsStatement (statements_at w l)) w t w' a)
      (sym q ∙ ap (λ (k : Row). statement_of (k ∷ [])) (is ∙ sym (front_drop (rows root) row)) ∙ sym (said_same (drop row (rows root)))) y

  -- a Node: its copy, then the charge
  is_node : r.a ≡ 0 → statement_of (r ∷ []) ≡ Statement.Node r.b
  unfolding statement_of
  is_node q = rw q

  abbrev made : ℕ → Option Statement
  made o = some (Statement.Node o)

  as_node : r.a ≡ 0 → {w' : List ℕ} {a : Answer} → Yields root library L t.scopes (charged (λ I. copy I depth (env_of w e) r.b) made) (AddsStatement (statements_at w l)) w t w' a → StatementAdded root library w L t e row l depth w' a
  unfolding statement
  as_node q y =
      said (is_node q)
      (yields_as y (λ I. statement I (copy I depth (env_of w e)) (env_of w e) (Statement.Node r.b))
      (λ D. sym (paid_then (input_of (source_of root library D) L) (copy (input_of (source_of root library D) L) depth (env_of w e) r.b) made (at (source_of root library D) w t))))

  module _ (q : r.a ≡ 0) {w' : List ℕ} {a : Answer} (y : Copied root library w L t e r.b depth w' a) where
    pub top_node_stop : {x' : Refusal} → a ≡ Err x' → StatementAdded root library w L t e row l depth w' a
    top_node_stop z = as_node q (keeping_stop h.standing.sound made y z)

    module _ {s : Counts} {o p : ℕ} (z : a ≡ did s o p) where
      pub top_node_ready : Keepable w' s.charges (statement_record 0 o l)
      top_node_ready = statement_keepable 0 o (later_handle (went y z) hl)

      pub top_node_kept : {w'' : List ℕ} {b : Answer} → RecordKept L w' s (statement_record 0 o l) w'' b → StatementAdded root library w L t e row l depth w'' b
      unfolding statement_of
      top_node_kept k = as_node q (keeping h.standing.sound made y z k (λ t'' v p'' x. record {
        handle = kept_handle x top_node_ready;
        all = kept_statements_lem x top_node_ready ∙ rw (statements_fixed (went y z).kept l hl.low, (gave y z).value);
      }))

  -- a Proto is dropped
  is_proto : r.a ≡ 1 → statement_of (r ∷ []) ≡ Statement.Proto r.b
  unfolding statement_of
  is_proto q = rw q

  pub top_proto : r.a ≡ 1 → StatementAdded root library w L t e row l depth w (did t l 0)
  unfolding statement
  top_proto q = said (is_proto q) (end (begin t.scopes (λ I. statement I (copy I depth (env_of w e)) (env_of w e) (Statement.Proto r.b)) h.standing.sound) (record { handle = hl; all = sym (append-nil (statements_at w l)) }))

  -- an ExternProto, and a Route
  added : (w' : List ℕ) (a : Answer) → IfDone (λ t' v p. StatementAppended w l w' t' v) a → IfDone (λ t' v p. AddsStatement (statements_at w l) w' t' v p (statement_at w' v p)) a
  added w' (Ok a') z = record { handle = z.handle; all = z.list }
  added w' (Err x') z = tt

  is_extern : r.a ≡ 2 → statement_of (r ∷ []) ≡ Statement.ExternProto r.b
  unfolding statement_of
  is_extern q = rw q

  pub top_extern : r.a ≡ 2 → e.slot ≡ 0 → {w' : List ℕ} {a : Answer} → ExternStated L root library dir w t 0 r.b l w' a → StatementAdded root library w L t e row l depth w' a
  unfolding statement
  top_extern q sl {w'} {a} x =
      said (is_extern q) (leaf {P = AddsStatement (statements_at w l)} none (λ D. x.does D t.scopes (env_of w e) (sym h.number ∙ ap (number_of dir) sl)) (added w' a x.done))

  is_route : r.a ≡ 3 → statement_of (r ∷ []) ≡ Statement.Route (route_of (r ∷ []))
  unfolding statement_of
  is_route q = rw q

  pub top_route : r.a ≡ 3 → {w' : List ℕ} {a : Answer} → Routed L w t e.scope r l w' a → StatementAdded root library w L t e row l depth w' a
  unfolding statement
  top_route q {w'} {a} x = said (is_route q) (leaf {P = AddsStatement (statements_at w l)} none (λ D. x.does (source_of root library D) t.scopes (env_of w e) refl) (added w' a x.done))

  -- any other stays
  is_other : (r.a ≡ 0 → ⊥) → (r.a ≡ 1 → ⊥) → (r.a ≡ 2 → ⊥) → (r.a ≡ 3 → ⊥) → statement_of (r ∷ []) ≡ Statement.Other r.b
  unfolding statement_of
  is_other n₀ n₁ n₂ n₃ = past _ _ _ _ _ r.a n₀ n₁ n₂ n₃

  pub top_other_ready : Keepable w t.charges (statement_record r.a r.b l)
  top_other_ready = statement_keepable r.a r.b hl

  abbrev other : Option Statement
  other = some (Statement.Other r.b)

  nothing_done : Yields root library L t.scopes (λ I. ret other) (λ u s v p x. x ≡ other) w t w (did t 0 0)
  nothing_done = end (begin t.scopes (λ I. ret other) h.standing.sound) refl

  pub top_other : (r.a ≡ 0 → ⊥) → (r.a ≡ 1 → ⊥) → (r.a ≡ 2 → ⊥) → (r.a ≡ 3 → ⊥) → {w' : List ℕ} {a : Answer} → RecordKept L w t (statement_record r.a r.b l) w' a → StatementAdded root library w L t e row l depth w' a
  unfolding statement paid statement_of
  top_other n₀ n₁ n₂ n₃ k =
      said (is_other n₀ n₁ n₂ n₃)
      (keeping h.standing.sound (λ x. x) nothing_done refl k (λ t'' v p'' x. record {
        handle = kept_handle x top_other_ready;
        all = kept_statements_lem x top_other_ready ∙ ap (λ s. statements_at w l ++ (s ∷ [])) (past _ _ _ _ _ r.a n₀ n₁ n₂ n₃) ∙ ap (λ s. statements_at w l ++ list s) (sym (gave nothing_done refl));
      }))

-- ---- all of them
module _ (root library dir w : List ℕ) (L : Limits) (t : Counts) (e : code.Env) (row depth : ℕ) where
  abbrev each : Input → Statement → Comp (Option Statement)
  each I s = statement I (copy I depth (env_of w e)) (env_of w e) s

  abbrev m : Input → Comp (List (Option Statement))
  m I = map_m (each I) (statements_of (rest (drop row (rows root))))

  abbrev pub Topping : List ℕ → Counts → ℕ → ℕ → Type 0
  Topping = Mapping root library L t.scopes m w t each statement_of (λ I l. ret l) Statements (rows root) tag_statement statements_at somes

  module _ (h : Here root library dir w L t e) where
    pub tops_start : Topping w t 0 (row + 1)
    unfolding statements_of somes
    tops_start = loop_start row (last (begin t.scopes m h.standing.sound)) (statements_none w)

    pub tops_end : {w₁ : List ℕ} {t₁ : Counts} {l p : ℕ} → Topping w₁ t₁ l p → elements Statements (drop p (rows root)) ≡ [] → TopsCopied root library w L t e row depth w₁ (did t₁ l 0)
    tops_end x z = end (loop_end z x) (record { handle = x.handle; all = x.all })

    module _ {w₁ : List ℕ} {t₁ : Counts} {l p : ℕ} (x : Topping w₁ t₁ l p) where
      pub tops_here : Here root library dir w₁ L t₁ e
      tops_here = here_later (since x.run) h

      module _ {q : ℕ} (s : Stands Statements (rows root) p q) {w₂ : List ℕ} {a : Answer} (y : StatementAdded root library w₁ L t₁ e q l depth w₂ a) where
        same : Yields root library L t₁.scopes (λ I. each I (statement_of (drop q (rows root)))) (AddsStatement (statements_at w₁ l)) w₁ t₁ w₂ a
        same = subst (λ (E : Env). Yields root library L t₁.scopes (λ I. statement I (copy I depth E) E (statement_of (drop q (rows root)))) (AddsStatement (statements_at w₁ l)) w₁ t₁ w₂ a) (env_later (since x.run) h.env) y

        pub tops_again : {t₂ : Counts} {v o : ℕ} → a ≡ did t₂ v o → Topping w₂ t₂ v (q + 1)
        tops_again eq = loop_again s x same (since x.run).scoped somes_last eq

        pub tops_stop : {x' : Refusal} → a ≡ Err x' → TopsCopied root library w L t e row depth w₂ a
        tops_stop eq = loop_stop s x same (since x.run).scoped eq []

-- ---- from nothing
module _ (root library dir w : List ℕ) (L : Limits) (depth : ℕ) (b : NothingRecorded root library dir w L) where
  abbrev S : Source
  S = source_of root library depth

  abbrev I : Input
  I = input_of S L

  -- what is left behind scope 0
  abbrev left_of : List Statement → Comp (List Statement)
  left_of l = map_m (statement I (copy I depth root_env) root_env) l >>= (λ l. ret (somes l))

  abbrev left : Comp (List Statement)
  left = left_of I.root.statements

  whole : {w' : List ℕ} {a : Answer} → Does S L 0 (λ u v p. statements_at u v) (statements I) w nothing_yet w' a → IfDone (λ t' v p. HandleAt w' t'.charges tag_statement v) a → TopStatementsCopied root library w L depth w' a
  whole d x = record { same = d.same ∙ ap (statements I) (state_none S w); later = d.later; handle = x }

  -- fewer than three charges
  pub top_few : L.rows < 3 → {a : Answer} → a ≡ Err TooManyRows → TopStatementsCopied root library w L depth w a
  unfolding statements open_scope bind_r
  top_few few {a} q = rw q (record { same = sym (by L.rows refl few); later = tt; handle = tt })
    where
      by : (n : ℕ) → L.rows ≡ n → n < 3 → statements I start_state ≡ refusal 10 0 0
      by zero r l = rw (charge_full I start_state (omega arith))
      by (suc zero) r l = rw (charge_some I start_state (omega arith), charge_full I (one_more start_state) (omega arith))
      by (suc (suc zero)) r l = rw (charge_some I start_state (omega arith), charge_some I (one_more start_state) (omega arith), charge_full I (one_more (one_more start_state)) (omega arith))
      by (suc (suc (suc n))) r l = absurd (omega arith)

  -- two charges that keep nothing
  abbrev pub two : Counts
  two = record { nodes = 0; scopes = 0; externs = 0; charges = 2 }

  module _ (some : 3 ≤ L.rows) {w₁ : List ℕ} (long : length w₁ ≡ length w) (p : Paid w w₁ 0 2) where
    later₁ : Later L 0 w nothing_yet w₁ two
    later₁ = paid_later b.standing.sound {n = 2} (omega (arith, some)) long p 0

    doing₁ : Doing S L 0 (statements I) w nothing_yet (open_scope I Scope.Root >> left) w₁ two
    unfolding statements bind_r
    doing₁ = record {
      left = rw (charge_some I (at S w nothing_yet) (omega (arith, some)), charge_some I (one_more (at S w nothing_yet)) (omega (arith, some))) (ap (λ (st : State). bind_r (open_scope I Scope.Root st) (λ n. left)) (sym (paid_state b.standing.sound {n = 2} (omega (arith, some)) long p S)));
      later = later₁;
    }

    pub top_standing : Standing L w₁ two
    top_standing = later_standing later₁ b.standing

    module _ {w₂ : List ℕ} {a : Answer} (o : ScopeOpened L w₁ two 0 0 0 0 0 w₂ a) where
      pub top_stop : {x' : Refusal} → a ≡ Err x' → TopStatementsCopied root library w L depth w₂ a
      top_stop q = whole (calculus.stop (λ n. left) doing₁ (o.does S 0) q (λ u v p. statements_at u v)) (rw q tt)

      module _ {t : Counts} {n g : ℕ} (q : a ≡ did t n g) (e : code.Env) (scope : e.scope ≡ n) (place : e.place ≡ g) (slot : e.slot ≡ 0) (vs : e.values ≡ None) where
        opened : OpenedAt w₁ two 0 0 0 0 0 w₂ t n g
        opened = rw q at o.done

        later₂ : Later L 0 w₁ two w₂ t
        later₂ = rw q at (o.does S 0).later

        doing₂ : Doing S L 0 (statements I) w nothing_yet left w₂ t
        doing₂ = calculus.step (λ n. left) doing₁ (o.does S 0) q

        values : ValuesBelow w₁ 2 e.values
        values = rw vs tt

        is_root : env_of w₂ e ≡ root_env
        is_root = env_open opened top_standing.sound later₂ e scope place values ∙ rw (vs, opened.value)

        pub top_here : Here root library dir w₂ L t e
        top_here = record {
          standing = later_standing later₂ top_standing;
          lent = lent_later later₂ (lent_later later₁ b.lent);
          env = open_env opened top_standing.sound later₂ e scope place values;
          slot = rw slot (slot_root b.lent.sourced);
          number = ap (number_of dir) slot ∙ number_root b.lent.sourced ∙ sym (ap (λ (E : Env). src E) is_root);
        }

        -- the statements of the document stand behind its row of kind 11
        said_by : (x : List (List Row)) → elements Tops (drop 1 (rows root)) ≡ x → I.root.statements ≡ statements_of (after_top x)
        unfolding document_of
        said_by x z = ap (λ (l : List (List Row)). statements_of (after_top l)) (ap (elements Tops) (rest_drop (rows root) 0) ∙ z)

        doing₃ : (x : List (List Row)) → elements Tops (drop 1 (rows root)) ≡ x → Doing S L 0 (statements I) w nothing_yet (left_of (statements_of (after_top x))) w₂ t
        doing₃ x z = calculus.turn doing₂ (left_of (statements_of (after_top x))) (ap (λ (l : List Statement). left_of l (at S w₂ t)) (said_by x z))

        pub top_none : elements Tops (drop 1 (rows root)) ≡ [] → TopStatementsCopied root library w L depth w₂ (did t 0 0)
        unfolding statements_of map_m bind_r somes elements
        top_none z = whole (calculus.finish (calculus.turn (doing₃ [] z) (ret []) refl) (λ u v p. statements_at u v) 0 0 (sym (statements_none w₂))) (handle_none w₂ t.charges tag_statement)

        pub top_all : {k : ℕ} → Stands Tops (rows root) 1 k → {w₃ : List ℕ} {a : Answer} → TopsCopied root library w₂ L t e k depth w₃ a → TopStatementsCopied root library w L depth w₃ a
        top_all {k} st {w₃} {a} y = by a (subst (λ (E : Env). Yields root library L t.scopes (λ I. map_m (statement I (copy I depth E) E) (statements_of (rest (drop k (rows root))))) AllTops w₂ t w₃ a) is_root y)
          where
            by : (a : Answer) → Yields root library L t.scopes (λ I. map_m (statement I (copy I depth root_env) root_env) (statements_of (rest (drop k (rows root))))) AllTops w₂ t w₃ a → TopStatementsCopied root library w L depth w₃ a
            by (Ok a') y = whole (calculus.finish (calculus.step (λ l. ret (somes l)) (doing₃ _ st.here) (calculus.does_young (omega arith) (y.does depth)) refl) (λ u v p. statements_at u v) a'.value a'.place (sym y.done.all)) y.done.handle
            by (Err x') y = whole (calculus.stop (λ l. ret (somes l)) (doing₃ _ st.here) (calculus.does_young (omega arith) (y.does depth)) refl (λ u v p. statements_at u v)) tt
