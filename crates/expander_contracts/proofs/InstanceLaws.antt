-- `instantiate`: the PROTO, the values of its interfaces, its body in a scope of its own, and the record of the instance.
use mathlib.Core.Path.{◌≡◌, refl, sym, ap, subst, ◌∙◌}
use mathlib.Core.List.{List, []}
use mathlib.Core.Option.{none, some}
use Prim.Native.Nat.{ℕ, ◌≤◌}
use native.Mathlib.Omega.{arith}
use lib.ListN.{drop, get_or}
use borrow.Author.Tests.{eq-eqb, ne_eqb}
use Rattle.ast.specs.Ast.{Statement, Node}
use Rattle.ast.specs.Choice.{map_o}
use Rattle.ast.specs.Lookups.{proto_at}
use Rattle.sheet_rows.specs.declared.row.Row.{Row}
use Rattle.sheet_rows.specs.Rows.{blank, front, rest}
use Rattle.sheet_rows.specs.Parse.{optional, interfaces_of, statements_of, node_of, proto_of}
use Rattle.sheet_walks.specs.declared.walk.Found.{Found}
use Rattle.sheet_walks.specs.declared.walk.Found.TheVariants.{At, Nothing}
use Rattle.sheet_lookup.specs.Lookup.{root_and_files, Located}
use Rattle.sheet_walks.specs.Walk.{rows_at}
use Rattle.sheet_walks.proofs.WalkLaws.{front_drop}
use Rattle.pick_definition.specs.Picks.{Prototype}
use Rattle.source_directory.specs.Directory.{number_of, Slot}
use Rattle.expansion_definition.specs.Input.{Input, docs}
use Rattle.expansion_definition.specs.Scopes.{Scope}
use Rattle.expansion_definition.specs.State.{State, Comp, bind_r, ◌>>=◌, ◌>>◌, fail, fold_m}
use Rattle.expansion_definition.specs.Charges.{charge}
use Rattle.expansion_definition.specs.Values.{Values, Env, src}
use Rattle.expansion_definition.specs.Instances.{open_scope, values, Body, body_statement, root_of, record_instance, instantiate}
use Rattle.expansion_definition.specs.Copy.{copy}
use Rattle.journal_reading.specs.Reading.{values_at, body_of}
use Rattle.journal_reading.specs.WellFormed.{NodeAt}
use Rattle.refine_records.specs.declared.Limits.{Limits}
use Rattle.std.specs.declared.option.Option.TheVariants.{Some}
use Rattle.std.specs.declared.result.Result.TheVariants.{Ok, Err}
use Rattle.refine_records.specs.declared.Refusal.{Refusal}
use Rattle.refine_records.specs.declared.Refusal.TheVariants.{NoRoot, DanglingProto}
use Rattle.refine_records.specs.declared.Counts.{Counts}
use Rattle.refine_records.specs.declared.Env as code
use Rattle.refine_records.specs.Sound.{input_of, Standing, Later, env_of}
use Rattle.refine_records.specs.Does.{Answer, did, number, at, IfDone}
use Rattle.refine_records.specs.Contract.{OpenedAt, ScopeOpened}
use Rattle.refine_records.proofs.Later.{env_later, later_node, later_standing}
use Rattle.refine_records.proofs.Opening.{open_env, env_open, body_open, unrecorded_open}
use Rattle.expander_parts.specs.Contract.{source_of, rows_of, node_at_row}
use Rattle.expander_bindings.specs.Contract.{Recordable, Recorded}
use Rattle.expander_contracts.specs.Contract.{Here, AtRow, Yields, Placed, BodySoFar, InBody, prototype_at, Instantiated, ValuesStored, BodyCopied}
use Rattle.expander_contracts.proofs.Run.{Run, begin, turn, go, halt, refuse, through, went, gave, leaf, yields_young, here_later}

-- a body that gave nothing yet
abbrev empty : Body
empty = record { root = none; extra_roots = []; routes = [] }

module _ (root library dir w : List ℕ) (L : Limits) (t : Counts) (e : code.Env) (id row slot proto depth : ℕ) (h : Here root library dir w L t e) (sl : Slot dir slot) {x : Found} (lo : Located proto_of (proto_at (root_and_files root library) (number_of dir slot) proto) (rows_of root library dir slot) x) where
  abbrev R : List Row
  R = rows_of root library dir slot

  abbrev node : Node
  node = node_at_row root library dir e.slot row

  abbrev pick : Prototype
  pick = prototype_at dir slot proto

  abbrev m : Input → Comp ℕ
  m I = instantiate I (copy I depth) (env_of w e) id node pick (proto_at (docs I) (number_of dir slot) proto)

  says : (D : ℕ) → proto_at (docs (input_of (source_of root library D) L)) (number_of dir slot) proto ≡ map_o proto_of (rows_at R x)
  unfolding root_and_files
  says D = lo.is

  pub instance_6 : {d : ℕ} → x ≡ Nothing → d ≡ number_of dir slot → Instantiated root library dir w L t e id row slot proto depth w (Err (DanglingProto d proto))
  unfolding instantiate
  instance_6 lacks ed = rw ed (refuse (DanglingProto (number_of dir slot) proto) (turn (begin t.scopes m h.standing.sound) (λ I. fail 6 (number_of dir slot) proto) (λ D. rw (says D, lacks))) 0)

  module _ {decl : ℕ} (there : x ≡ At decl) where
    pub proto_row : AtRow root library dir slot decl
    proto_row = record { below = rw there at lo.below }

    -- ---- what is left after the body, and before it
    abbrev recording : Input → ℕ → Body → Comp ℕ
    recording I n b = root_of pick b.root >>= (λ o. charge I >> record_instance (front (drop decl R)).a node.def_name n b o)

    abbrev bodied : Input → Env → Env → Body → Comp Body
    bodied I E E' b = fold_m (body_statement I (copy I depth) E id E') b (statements_of (rest (drop decl R)))

    abbrev opened : Input → Values → ℕ → Comp ℕ
    opened I vs n = bodied I (env_of w e) (record { scope = n; entry = Scope.Body pick e.scope; is_values = some vs }) empty >>= recording I n

    abbrev valued : Input → Values → Comp ℕ
    valued I vs = open_scope I (Scope.Body pick e.scope) >>= opened I vs

    run : Run root library L t.scopes m w t (λ I. values I (copy I depth) (env_of w e) pick node.fields 0 (interfaces_of (rest (drop decl R))) [] >>= valued I) w t
    unfolding instantiate proto_of
    run = turn (begin t.scopes m h.standing.sound) (λ I. values I (copy I depth) (env_of w e) pick node.fields 0 (interfaces_of (rest (drop decl R))) [] >>= valued I) (λ D. rw (says D, there))

    -- ---- the values
    module _ {w₁ : List ℕ} {a₁ : Answer} (y₁ : ValuesStored root library dir w L t e row slot proto decl depth w₁ a₁) where
      pub instance_values : {x' : Refusal} → a₁ ≡ Err x' → Instantiated root library dir w L t e id row slot proto depth w₁ a₁
      instance_values z = halt valued run y₁ z 0

      module _ {s : Counts} {vs p₁ : ℕ} (z₁ : a₁ ≡ did s vs p₁) where
        pub values_here : Here root library dir w₁ L s e
        values_here = here_later (went y₁ z₁) h

        -- ---- the scope
        module _ {d : ℕ} (ed : d ≡ number_of dir slot) {w₂ : List ℕ} {a₂ : Answer} (y₂ : ScopeOpened L w₁ s 1 d proto 0 e.scope w₂ a₂) where
          opens : Yields root library L t.scopes (λ I. open_scope I (Scope.Body pick e.scope)) (λ u s₂ v p n. OpenedAt w₁ s 1 d proto 0 e.scope u s₂ n p) w₁ s w₂ a₂
          opens = leaf {d = number} 0 (λ D. rw (← ed) (y₂.does (source_of root library D) t.scopes)) y₂.done

          pub instance_open : {x' : Refusal} → a₂ ≡ Err x' → Instantiated root library dir w L t e id row slot proto depth w₂ a₂
          instance_open z = halt (λ I. opened I y₁.given) (go valued run y₁ z₁) opens z 0

          module _ {s₂ : Counts} {n p₂ : ℕ} (z₂ : a₂ ≡ did s₂ n p₂) (place₂ : ℕ) (ep : place₂ ≡ p₂) where
            abbrev inner : code.Env
            inner = record { scope = n; place = place₂; slot = slot; values = Some vs }

            new : OpenedAt w₁ s 1 d proto 0 e.scope w₂ s₂ n p₂
            new = rw z₂ at y₂.done

            later : Later L t.scopes w₁ s w₂ s₂
            later = went opens z₂

            numbered : opens.given ≡ n
            numbered = (gave opens z₂).value ∙ sym new.value

            is_env : env_of w₂ inner ≡ record { scope = n; entry = Scope.Body pick e.scope; is_values = some (values_at w₁ vs) }
            is_env = rw ed at (env_open new values_here.standing.sound later inner refl ep (gave y₁ z₁).handle)

            pub inner_body : InBody root library dir w₂ L s₂ e inner 0 0
            inner_body =
                let now : Here root library dir w₂ L s₂ e = here_later later values_here in
                record {
                  env = now.env;
                  here = record {
                    standing = now.standing;
                    lent = now.lent;
                    env = open_env new values_here.standing.sound later inner refl ep (gave y₁ z₁).handle;
                    slot = sl;
                    number = sym (ap (λ (E : Env). src E) is_env);
                  };
                  opened = rw new.counts (omega (arith, new.value));
                  rooted = λ l. absurd (omega arith);
                  unrecorded = unrecorded_open new values_here.standing.sound later inner refl ep (gave y₁ z₁).handle;
                }

            -- the body is left, as it is asked for
            bodies : Run root library L t.scopes m w t (λ I. bodied I (env_of w₂ e) (env_of w₂ inner) (body_of w₂ s₂.charges n 0 0) >>= recording I n) w₂ s₂
            bodies =
                turn (go (λ I. opened I y₁.given) (go valued run y₁ z₁) opens z₂) (λ I. bodied I (env_of w₂ e) (env_of w₂ inner) (body_of w₂ s₂.charges n 0 0) >>= recording I n)
                (λ D.
                let I : Input = input_of (source_of root library D) L in
                let st : State = at (source_of root library D) w₂ s₂ in
                ap (λ (k : ℕ). opened I y₁.given k st) numbered
                ∙ ap (λ (v : Values). opened I v n st) (gave y₁ z₁).all
                ∙ ap (λ (E : Env). bind_r (bodied I (env_of w e) E empty st) (recording I n)) (sym is_env)
                ∙ ap (λ (E : Env). bind_r (bodied I E (env_of w₂ inner) empty st) (recording I n)) (sym (env_later later values_here.env ∙ env_later (went y₁ z₁) h.env))
                ∙ ap (λ (b : Body). bind_r (bodied I (env_of w₂ e) (env_of w₂ inner) b st) (recording I n)) (sym (body_open new values_here.standing.sound later inner refl ep (gave y₁ z₁).handle)))

            -- ---- the body
            module _ (P : List Row) (same : statements_of (rest P) ≡ statements_of (rest (drop decl R))) {w₃ : List ℕ} {a₃ : Answer} (y₃ : BodyCopied root library w₂ L s₂ e id inner P depth w₃ a₃) where
              body_young : Yields root library L t.scopes (λ I. bodied I (env_of w₂ e) (env_of w₂ inner) (body_of w₂ s₂.charges n 0 0)) (BodySoFar n) w₂ s₂ w₃ a₃
              body_young =
                  yields_young (omega (arith, new.value, (went y₁ z₁).scoped))
                  (subst (λ (l : List Statement). Yields root library L n (λ I. fold_m (body_statement I (copy I depth) (env_of w₂ e) id (env_of w₂ inner)) (body_of w₂ s₂.charges n 0 0) l) (BodySoFar n) w₂ s₂ w₃ a₃) same y₃)

              pub instance_body : {x' : Refusal} → a₃ ≡ Err x' → Instantiated root library dir w L t e id row slot proto depth w₃ a₃
              instance_body z = halt (λ I. recording I n) bodies body_young z 0

              module _ {u : Counts} {out place : ℕ} (z₃ : a₃ ≡ did u out place) where
                abbrev gives : Body
                gives = body_of w₃ u.charges n out place

                records : Run root library L t.scopes m w t (λ I. recording I n gives) w₃ u
                records = turn (go (λ I. recording I n) bodies body_young z₃) (λ I. recording I n gives) (λ D. ap (λ (b : Body). recording (input_of (source_of root library D) L) n b (at (source_of root library D) w₃ u)) (gave body_young z₃).body)

                pub instance_7 : place ≡ 0 → Instantiated root library dir w L t e id row slot proto depth w₃ (Err (NoRoot d proto))
                unfolding root_of bind_r
                instance_7 z = rw ed (refuse (NoRoot (number_of dir slot) proto) (turn records (λ I. fail 7 (number_of dir slot) proto) (λ D. rw (eq-eqb place 0 z))) 0)

                -- ---- the record
                module _ (ne : place ≡ 0 → ⊥) where
                  pub record_standing : Standing L w₃ u
                  record_standing = later_standing (went y₃ z₃) inner_body.here.standing

                  root_node : NodeAt w₃ u.charges out place
                  root_node = (gave y₃ z₃).rooted (omega arith)

                  pub record_ready : Recordable w₃ u.charges inner out place
                  record_ready = record { remap = record { env = (here_later (went y₃ z₃) inner_body.here).env; unrecorded = (gave y₃ z₃).unrecorded }; node = root_node }

                  module _ {rn rd : Row} (en : rn ≡ get_or R decl blank) (er : rd ≡ get_or (rows_of root library dir e.slot) row blank) where
                    name_is : (front (drop decl R)).a ≡ rn.a
                    name_is = ap (λ (r : Row). r.a) (front_drop R decl ∙ sym en)

                    def_is : node.def_name ≡ optional rd.b
                    unfolding node_of
                    def_is = ap (λ (r : Row). optional r.b) (front_drop (rows_of root library dir e.slot) row ∙ sym er)

                    recorded : Run root library L t.scopes m w t (λ I. charge I >> record_instance rn.a (optional rd.b) n gives out) w₃ u
                    unfolding root_of bind_r
                    recorded = turn records (λ I. charge I >> record_instance rn.a (optional rd.b) n gives out) (λ D. rw (ne_eqb place 0 ne, name_is, def_is))

                    pub instance_record_lem : {w₄ : List ℕ} (a₄ : Answer) → Recorded L w₃ u inner rn.a rd.b out place w₄ a₄ → Instantiated root library dir w L t e id row slot proto depth w₄ a₄
                    instance_record_lem {w₄} a₄ y₄ = through recorded (leaf {d = number} 0 (λ D. y₄.does (source_of root library D) t.scopes old) (by a₄ y₄))
                      where
                        old : t.scopes ≤ n
                        old = omega (arith, new.value, (went y₁ z₁).scoped)

                        by : (a : Answer) → Recorded L w₃ u inner rn.a rd.b out place w₄ a → IfDone (λ t₄ v p. Placed w₄ t₄ v p v) a
                        by (Ok a') y = record { value = refl; node = rw (y.done.value, y.done.node) (later_node (y.does (source_of root library 0) t.scopes old).later root_node) }
                        by (Err x') y = tt
