-- `plain`: a node is reserved, each of its contents is made, and then it gets them.
use mathlib.Core.Path.{◌≡◌, refl, sym, ap, subst, ◌∙◌}
use mathlib.Core.Bool.{true}
use mathlib.Core.List.{List, [], ◌∷◌, map}
use mathlib.Core.Option.{Option, none, some}
use Prim.Native.Nat.{ℕ, ◌+◌, ◌-◌}
use native.Mathlib.Omega.{arith}
use lib.ListN.{length, drop, get_or, set}
use Rattle.ast.specs.Ast.{NodeOrigin, BodyElement, FieldValue, FieldBinding, Field, InterfaceDecl, Statement, Node}
use Rattle.sheet_rows.specs.declared.row.Row.{Row}
use Rattle.sheet_rows.specs.Rows.{blank, front}
use Rattle.sheet_rows.specs.Parse.{origin_of, node_of}
use Rattle.sheet_walks.specs.Walk.{Bare}
use Rattle.sheet_walks.proofs.WalkLaws.{front_drop}
use Rattle.expansion_definition.specs.Input.{Input}
use Rattle.expansion_definition.specs.State.{State, Result, refusal, ok, Comp, bind_r, ◌>>=◌, ◌>>◌, ret, map_m, with_nodes}
use Rattle.expansion_definition.specs.Charges.{charge, charge_each, paid}
use Rattle.expansion_definition.specs.Values.{Env, Copier, value, clone}
use Rattle.expansion_definition.specs.PlainCopy.{reserve, copy_origin, associate, is_value, with_value, is_field, copy_binding, copy_field, copy_interface, copy_statement, somes, kept_order, contents, copy_plain}
use Rattle.expansion_definition.specs.Copy.{copy}
use Rattle.journal_records.specs.Records.{tag_order, Pushed}
use Rattle.journal_reading.specs.Reading.{order_at, instance_at, node_by}
use Rattle.journal_reading.specs.WellFormed.{HandleAt, NodeAt}
use Rattle.journal_reading.proofs.Chains.{fields_fixed, interfaces_fixed, statements_fixed}
use Rattle.journal_reading.proofs.Nodes.{node_blank}
use Rattle.refine_records.specs.declared.Limits.{Limits}
use Rattle.std.specs.declared.result.Result.TheVariants.{Err}
use Rattle.refine_records.specs.declared.Refusal.{Refusal}
use Rattle.refine_records.specs.declared.Counts.{Counts}
use Rattle.refine_records.specs.declared.Env as code
use Rattle.refine_records.specs.Sound.{input_of, Later, env_of}
use Rattle.refine_records.specs.Does.{Answer, did, Decode, at, Does}
use Rattle.refine_records.specs.Contract.{Reserved, ReservedAt, contents_of, Fillable}
use Rattle.refine_records.proofs.Later.{later_trans, later_handle, later_node, env_later}
use Rattle.refine_nodes.proofs.Filling.{fill_later, fill_does}
use Rattle.refine_records.proofs.Calculus as calculus
use Rattle.expander_marks.specs.Positions.{is_some}
use Rattle.expander_marks.specs.Kept.{kept_target, kept_binding, kept_field}
use Rattle.expander_parts.specs.Contract.{source_of, rows_of, node_at_row, StatementsKept, StatementsCopied, OrderCopied}
use Rattle.expander_parts.proofs.Said.{said_start, said_end}
use Rattle.expander_parts.proofs.Ordered.{no_marks}
use Rattle.expander_contracts.specs.Contract.{Here, Yields, Origin, PlainNodeCopied, OriginCopied, Fields, FieldsCopied, Interfaces, InterfacesCopied}
use Rattle.expander_contracts.proofs.Run.{Run, begin, turn, go, halt, through, leaf, went, gave, since, yields_young, here_later}
use Rattle.expander_contracts.proofs.InterfaceLaws.{interfaces_start, interfaces_end}

-- ---- what holds of the answer of a step, if it is no refusal
abbrev IfOk : {A : Type 0} → (A → Type 0) → Result A → Type 0
IfOk P (refusal c i j) = Unit {0}
IfOk P (ok a st) = P a

after : {A B : Type 0} (P : A → Type 0) (Q : B → Type 0) (x : Result A) (k : A → Comp B) → IfOk P x → ((a : A) → P a → (st : State) → IfOk Q (k a st)) → IfOk Q (bind_r x k)
unfolding bind_r
after P Q (refusal c i j) k p q = tt
after P Q (ok a st) k p q = q a p st

any : {A : Type 0} (x : Result A) → IfOk (λ a. Unit {0}) x
any (refusal c i j) = tt
any (ok a st) = tt

-- which fields are kept
module _ (I : Input) (c : Copier) (env : Env) (new : ℕ) where
  -- the last of two steps keeps it
  some_kept : {A : Type 0} (x : Result A) (g : A → Field) → IfOk (λ o. is_some o ≡ true) (bind_r x (λ a. ret (some (g a))))
  some_kept x g = after (λ a. Unit {0}) (λ o. is_some o ≡ true) x (λ a. ret (some (g a))) (any x) (λ a p st. refl)

  target_kept : (f : Field) (v : Option (Option FieldValue)) (st : State) → IfOk (λ o. is_some o ≡ kept_target v) (is_field I f v st)
  unfolding is_field paid bind_r
  target_kept f none st = some_kept (charge I st) (λ z. f)
  target_kept f (some none) st = refl
  target_kept f (some (some v)) st = some_kept (paid I (clone I v) st) (with_value f)

  binding_kept : (f : Field) (b : FieldBinding) (st : State) → IfOk (λ o. is_some o ≡ kept_binding env.is_values b) (copy_binding I c env new f b st)
  unfolding copy_binding
  binding_kept f (FieldBinding.Value v) st = some_kept (paid I (value I c v) st) (with_value f)
  binding_kept f (FieldBinding.Is g) st =
      let a = associate I env (record { interface = g; node = new; field = f.name }) st in
      after (λ z. Unit {0}) (λ o. is_some o ≡ kept_target (is_value env g)) a (λ z. is_field I f (is_value env g)) (any a) (λ z p. target_kept f (is_value env g))

  pub fields_kept : (l : List Field) (st : State) → IfOk (λ os. map is_some os ≡ map (kept_field env.is_values) l) (map_m (copy_field I c env new) l st)
  unfolding map_m copy_field
  fields_kept [] st = refl
  fields_kept (f ∷ l) st =
      after (λ o. is_some o ≡ kept_field env.is_values f) (λ os. map is_some os ≡ map (kept_field env.is_values) (f ∷ l)) (copy_field I c env new f st) (λ o. map_m (copy_field I c env new) l >>= (λ os. ret (o ∷ os))) (binding_kept f f.binding st)
      (λ o p s. after (λ os. map is_some os ≡ map (kept_field env.is_values) l) (λ os. map is_some os ≡ map (kept_field env.is_values) (f ∷ l)) (map_m (copy_field I c env new) l s) (λ os. ret (o ∷ os)) (fields_kept l s) (λ os q z. rw (p, q)))

-- ---- steps in a row, each with its decode
module _ {M : Type 0} {root library : List ℕ} {L : Limits} {young : ℕ} {m : Input → Comp M} {w₀ : List ℕ} {t₀ : Counts} {w : List ℕ} {t : Counts} where
  inner : {A B : Type 0} (n : Input → Comp A) (g : Input → A → Comp B) (k : Input → B → Comp M) → Run root library L young m w₀ t₀ (λ I. (n I >>= g I) >>= k I) w t → Run root library L young m w₀ t₀ (λ I. n I >>= (λ a. g I a >>= k I)) w t
  inner n g k r = record { doing = λ D. let I : Input = input_of (source_of root library D) L in calculus.inner (n I) (g I) (k I) (r.doing D) }

  module _ {A : Type 0} (n : Input → Comp A) (k : Input → A → Comp M) {d : Decode A} {w' : List ℕ} {a : Answer} (r : Run root library L young m w₀ t₀ (λ I. n I >>= k I) w t) (x : (D : ℕ) → Does (source_of root library D) L young d (n (input_of (source_of root library D) L)) w t w' a) where
    pass : {t' : Counts} {v p : ℕ} → a ≡ did t' v p → Run root library L young m w₀ t₀ (λ I. k I (d w' v p)) w' t'
    pass e = record { doing = λ D. calculus.step (k (input_of (source_of root library D) L)) (r.doing D) (x D) e }

    bar : {x' : Refusal} {Q : List ℕ → Counts → ℕ → ℕ → M → Type 0} → a ≡ Err x' → (b : M) → Yields root library L young m Q w₀ t₀ w' a
    bar e b = record { given = b; does = λ D. calculus.stop (k (input_of (source_of root library D) L)) (r.doing D) (x D) e (λ u v p. b); done = rw e tt }

-- what a step gave is what its piece gives
gives : {B : Type 0} {root library : List ℕ} {L : Limits} {young : ℕ} {n : Input → Comp B} {P : List ℕ → Counts → ℕ → ℕ → B → Type 0} {w : List ℕ} {t : Counts} {w' : List ℕ} {a : Answer} (y : Yields root library L young n P w t w' a) {t' : Counts} {v p : ℕ} → a ≡ did t' v p → (D : ℕ) → ok y.given (at (source_of root library D) w' t') ≡ n (input_of (source_of root library D) L) (at (source_of root library D) w t)
gives y e D = rw e at (y.does D).same

-- charges for a list, and then the list
charges_then : {B M : Type 0} (x : Result (Unit {0})) (l : B) (u : B → Node) (k : Node → Comp M) → bind_r (bind_r x (λ z. ret (u l))) k ≡ bind_r (bind_r x (λ z. ret l)) (λ b. k (u b))
unfolding bind_r
charges_then (refusal c i j) l u k = refl
charges_then (ok z st) l u k = refl

no_instance_lem : (w : List ℕ) → instance_at w 0 ≡ none
unfolding node_by
no_instance_lem w = ap (λ (n : Node). n.instance) (node_blank w)

module _ (root library dir w : List ℕ) (L : Limits) (t : Counts) (e : code.Env) (id row depth : ℕ) (h : Here root library dir w L t e) where
  abbrev R : List Row
  R = rows_of root library dir e.slot

  abbrev E : Env
  E = env_of w e

  abbrev node : Node
  node = node_at_row root library dir e.slot row

  abbrev m : Input → Comp ℕ
  m I = copy_plain I (copy I depth E) E id node

  abbrev Left : (Input → Comp ℕ) → List ℕ → Counts → Type 0
  Left l w' t' = Run root library L t.scopes m w t l w' t'

  -- ---- the pieces
  abbrev filled : ℕ → Node → Comp ℕ
  filled new x st = ok new (with_nodes (set st.nodes new x) st)

  abbrev made : NodeOrigin → List (Option Field) → List InterfaceDecl → List (Option Statement) → List BodyElement → Node
  made o fs is ss os = record { type_name = node.type_name; def_name = node.def_name; origin = o; fields = somes fs; interface = is; statements = somes ss; body_order = os; instance = none }

  abbrev order : List (Option Field) → List (Option Statement) → List BodyElement
  order fs ss = kept_order fs ss node.body_order

  abbrev then_order : Input → NodeOrigin → List (Option Field) → List InterfaceDecl → List (Option Statement) → Comp Node
  then_order I o fs is ss = charge_each I (order fs ss) >> ret (made o fs is ss (order fs ss))

  abbrev then_statements : Input → NodeOrigin → List (Option Field) → List InterfaceDecl → Comp Node
  then_statements I o fs is = map_m (copy_statement I E) node.statements >>= then_order I o fs is

  abbrev then_interfaces : Input → ℕ → NodeOrigin → List (Option Field) → Comp Node
  then_interfaces I new o fs = map_m (copy_interface I (copy I depth E) E new) node.interface >>= then_statements I o fs

  abbrev then_fields : Input → ℕ → NodeOrigin → Comp Node
  then_fields I new o = map_m (copy_field I (copy I depth E) E new) node.fields >>= then_interfaces I new o

  abbrev then_origin : Input → ℕ → Comp Node
  then_origin I new = copy_origin I E node.origin >>= then_fields I new

  run_0 : Left (λ I. reserve I E id >>= (λ new. then_origin I new >>= filled new)) w t
  unfolding copy_plain contents
  run_0 = turn (begin t.scopes m h.standing.sound) (λ I. reserve I E id >>= (λ new. then_origin I new >>= filled new)) (λ D. refl)

  -- ---- reserved
  module _ {w₁ : List ℕ} {a₁ : Answer} (x₁ : Reserved L w t e id w₁ a₁) where
    pub plain_stop_1 : {x' : Refusal} → a₁ ≡ Err x' → PlainNodeCopied root library dir w L t e id row depth w₁ a₁
    plain_stop_1 q = bar (λ I. reserve I E id) (λ I new. then_origin I new >>= filled new) run_0 (λ D. x₁.does (source_of root library D) t.scopes) q 0

    module _ {t₁ : Counts} {new place : ℕ} (q₁ : a₁ ≡ did t₁ new place) where
      run_1 : Left (λ I. copy_origin I E node.origin >>= (λ o. then_fields I new o >>= filled new)) w₁ t₁
      run_1 = inner (λ I. copy_origin I E node.origin) (λ I. then_fields I new) (λ I. filled new) (pass (λ I. reserve I E id) (λ I new. then_origin I new >>= filled new) run_0 (λ D. x₁.does (source_of root library D) t.scopes) q₁)

      pub plain_here_1 : Here root library dir w₁ L t₁ e
      plain_here_1 = here_later (since run_1) h

      node_at : NodeAt w₁ t₁.charges new place
      node_at = let z : ReservedAt w t w₁ t₁ new place = rw q₁ at x₁.done in z.node

      -- ---- the origin
      module _ {w₂ : List ℕ} {a₂ : Answer} (x₂ : OriginCopied root library dir w₁ L t₁ e row w₂ a₂) where
        origin : Yields root library L t.scopes (λ I. copy_origin I E node.origin) (Origin (front (drop row R)).c) w₁ t₁ w₂ a₂
        unfolding node_of
        origin = yields_young (since run_1).scoped (subst (λ (F : Env). Yields root library L t₁.scopes (λ I. copy_origin I F (origin_of (drop row R))) (Origin (front (drop row R)).c) w₁ t₁ w₂ a₂) (env_later (since run_1) h.env) x₂)

        pub plain_stop_2 : {x' : Refusal} → a₂ ≡ Err x' → PlainNodeCopied root library dir w L t e id row depth w₂ a₂
        plain_stop_2 q = halt (λ I o. then_fields I new o >>= filled new) run_1 origin q 0

        module _ {t₂ : Counts} {from p₂ : ℕ} (q₂ : a₂ ≡ did t₂ from p₂) where
          abbrev o : NodeOrigin
          o = origin.given

          run_2 : Left (λ I. map_m (copy_field I (copy I depth E) E new) node.fields >>= (λ fs. then_interfaces I new o fs >>= filled new)) w₂ t₂
          run_2 = inner (λ I. map_m (copy_field I (copy I depth E) E new) node.fields) (λ I. then_interfaces I new o) (λ I. filled new) (go (λ I o. then_fields I new o >>= filled new) run_1 origin q₂)

          pub plain_here_2 : Here root library dir w₂ L t₂ e
          plain_here_2 = here_later (since run_2) h

          -- ---- the fields
          module _ {w₃ : List ℕ} {a₃ : Answer} (x₃ : FieldsCopied root library dir w₂ L t₂ e new row depth w₃ a₃) where
            fields : Yields root library L t.scopes (λ I. map_m (copy_field I (copy I depth E) E new) node.fields) Fields w₂ t₂ w₃ a₃
            fields = yields_young (since run_2).scoped (subst (λ (F : Env). Yields root library L t₂.scopes (λ I. map_m (copy_field I (copy I depth F) F new) node.fields) Fields w₂ t₂ w₃ a₃) (env_later (since run_2) h.env) x₃)

            pub plain_stop_3 : {x' : Refusal} → a₃ ≡ Err x' → PlainNodeCopied root library dir w L t e id row depth w₃ a₃
            plain_stop_3 q = halt (λ I fs. then_interfaces I new o fs >>= filled new) run_2 fields q 0

            module _ {t₃ : Counts} {f p₃ : ℕ} (q₃ : a₃ ≡ did t₃ f p₃) where
              abbrev fs : List (Option Field)
              fs = fields.given

              run_3 : Left (λ I. map_m (copy_interface I (copy I depth E) E new) node.interface >>= (λ is. then_statements I o fs is >>= filled new)) w₃ t₃
              run_3 = inner (λ I. map_m (copy_interface I (copy I depth E) E new) node.interface) (λ I. then_statements I o fs) (λ I. filled new) (go (λ I fs. then_interfaces I new o fs >>= filled new) run_2 fields q₃)

              pub plain_here_3 : Here root library dir w₃ L t₃ e
              plain_here_3 = here_later (since run_3) h

              flags : map is_some fs ≡ map (kept_field E.is_values) node.fields
              flags =
                  let I : Input = input_of (source_of root library 0) L in
                  subst (IfOk (λ os. map is_some os ≡ map (kept_field E.is_values) node.fields)) (sym (gives fields q₃ 0)) (fields_kept I (copy I depth E) E new node.fields (at (source_of root library 0) w₂ t₂))

              -- ---- the interfaces
              module _ {w₄ : List ℕ} {a₄ : Answer} (x₄ : InterfacesCopied root library dir w₃ L t₃ e new row depth w₄ a₄) where
                interfaces : Yields root library L t.scopes (λ I. map_m (copy_interface I (copy I depth E) E new) node.interface) Interfaces w₃ t₃ w₄ a₄
                interfaces = yields_young (since run_3).scoped (subst (λ (F : Env). Yields root library L t₃.scopes (λ I. map_m (copy_interface I (copy I depth F) F new) node.interface) Interfaces w₃ t₃ w₄ a₄) (env_later (since run_3) h.env) x₄)

                pub plain_stop_4 : {x' : Refusal} → a₄ ≡ Err x' → PlainNodeCopied root library dir w L t e id row depth w₄ a₄
                plain_stop_4 q = halt (λ I is. then_statements I o fs is >>= filled new) run_3 interfaces q 0

                module _ {t₄ : Counts} {i p₄ : ℕ} (q₄ : a₄ ≡ did t₄ i p₄) where
                  abbrev is : List InterfaceDecl
                  is = interfaces.given

                  run_4 : Left (λ I. map_m (copy_statement I E) node.statements >>= (λ ss. then_order I o fs is ss >>= filled new)) w₄ t₄
                  run_4 = inner (λ I. map_m (copy_statement I E) node.statements) (λ I. then_order I o fs is) (λ I. filled new) (go (λ I is. then_statements I o fs is >>= filled new) run_3 interfaces q₄)

                  pub plain_here_4 : Here root library dir w₄ L t₄ e
                  plain_here_4 = here_later (since run_4) h

                  -- ---- the statements
                  module _ {w₅ : List ℕ} {a₅ : Answer} (x₅ : StatementsCopied L root library dir w₄ t₄ e row w₅ a₅) where
                    abbrev ss : List (Option Statement)
                    ss = x₅.out

                    states : (D : ℕ) → Does (source_of root library D) L t.scopes (λ u v p. ss) (map_m (copy_statement (input_of (source_of root library D) L) E) node.statements) w₄ t₄ w₅ a₅
                    states D = x₅.does D t.scopes E refl (sym h.number)

                    pub plain_stop_5 : {x' : Refusal} → a₅ ≡ Err x' → PlainNodeCopied root library dir w L t e id row depth w₅ a₅
                    plain_stop_5 q = bar (λ I. map_m (copy_statement I E) node.statements) (λ I ss. then_order I o fs is ss >>= filled new) run_4 states q 0

                    module _ {t₅ : Counts} {s p₅ : ℕ} (q₅ : a₅ ≡ did t₅ s p₅) where
                      said : StatementsKept node.statements ss w₅ t₅ s
                      said = rw q₅ at x₅.done

                      run_5 : Left (λ I. (charge_each I (order fs ss) >> ret (order fs ss)) >>= (λ os. filled new (made o fs is ss os))) w₅ t₅
                      run_5 =
                          turn (pass (λ I. map_m (copy_statement I E) node.statements) (λ I ss. then_order I o fs is ss >>= filled new) run_4 states q₅) (λ I. (charge_each I (order fs ss) >> ret (order fs ss)) >>= (λ os. filled new (made o fs is ss os)))
                          (λ D. charges_then (charge_each (input_of (source_of root library D) L) (order fs ss) (at (source_of root library D) w₅ t₅)) (order fs ss) (made o fs is ss) (filled new))

                      pub plain_here_5 : Here root library dir w₅ L t₅ e
                      plain_here_5 = here_later (since run_5) h

                      -- ---- the body order
                      module _ {w₆ : List ℕ} {a₆ : Answer} (x₆ : OrderCopied L root library dir w₅ t₅ e row w₆ a₆) where
                        orders : (D : ℕ) → Does (source_of root library D) L t.scopes (λ u v p. order_at u v) (charge_each (input_of (source_of root library D) L) (order fs ss) >> ret (order fs ss)) w₅ t₅ w₆ a₆
                        orders D = x₆.does (source_of root library D) t.scopes fs ss (flags ∙ ap (λ (F : Env). map (kept_field F.is_values) node.fields) (sym (env_later (since run_5) h.env))) said.kept

                        pub plain_stop_6 : {x' : Refusal} → a₆ ≡ Err x' → PlainNodeCopied root library dir w L t e id row depth w₆ a₆
                        plain_stop_6 q = bar (λ I. charge_each I (order fs ss) >> ret (order fs ss)) (λ I os. filled new (made o fs is ss os)) run_5 orders q 0

                        module _ {t₆ : Counts} {b p₆ : ℕ} (q₆ : a₆ ≡ did t₆ b p₆) where
                          run_6 : Left (λ I. filled new (made o fs is ss (order_at w₆ b))) w₆ t₆
                          run_6 = pass (λ I. charge_each I (order fs ss) >> ret (order fs ss)) (λ I os. filled new (made o fs is ss os)) run_5 orders q₆

                          pub plain_here_6 : Here root library dir w₆ L t₆ e
                          plain_here_6 = here_later (since run_6) h

                          -- from each step to here
                          from_5 : Later L t.scopes w₅ t₅ w₆ t₆
                          from_5 = rw q₆ at (orders 0).later

                          from_4 : Later L t.scopes w₄ t₄ w₆ t₆
                          from_4 = let z : Later L t.scopes w₄ t₄ w₅ t₅ = rw q₅ at (states 0).later in later_trans z from_5

                          from_3 : Later L t.scopes w₃ t₃ w₆ t₆
                          from_3 = later_trans (went interfaces q₄) from_4

                          node_here : NodeAt w₆ t₆.charges new place
                          node_here = later_node (later_trans (went origin q₂) (later_trans (went fields q₃) from_3)) node_at

                          pub plain_fillable : Fillable w₆ place
                          plain_fillable = record { some = node_here.some; room = omega (arith, node_here.low, plain_here_6.standing.ready.room, plain_here_6.standing.sound.charges) }

                          -- ---- the node gets them
                          module _ (r : Row) (is_row : r ≡ get_or R row blank) where
                            is_front : front (drop row R) ≡ r
                            is_front = front_drop R row ∙ sym is_row

                            ordered_handle : HandleAt w₆ t₆.charges tag_order b
                            ordered_handle = rw q₆ at x₆.done

                            all_made : made o fs is ss (order_at w₆ b) ≡ node_by w₆ r.a r.b r.c from f i s b 0
                            unfolding node_by node_of
                            all_made =
                                rw (
                                  (gave origin q₂).value,
                                  is_front,
                                  fields_fixed from_3.kept f (gave fields q₃).handle.low,
                                  (gave fields q₃).all,
                                  interfaces_fixed from_4.kept i (gave interfaces q₄).handle.low,
                                  (gave interfaces q₄).all,
                                  statements_fixed from_5.kept s said.handle.low,
                                  said.list,
                                  no_instance_lem w₆,
                                )

                            pub plain_done : {w₇ : List ℕ} → length w₇ ≡ length w₆ → Pushed w₆ w₇ (place - 1) (contents_of w₆ (place - 1) r.a r.b r.c from f i s b) → PlainNodeCopied root library dir w L t e id row depth w₇ (did t₆ new place)
                            plain_done {w₇} long p =
                                through (turn run_6 (λ I. filled new (node_by w₆ r.a r.b r.c from f i s b 0)) (λ D. rw all_made))
                                (leaf 0 (λ D. fill_does plain_here_6.standing.sound node_here r.a r.b r.c from f i s b (later_handle from_3 (gave fields q₃).handle) (later_handle from_4 (gave interfaces q₄).handle) (later_handle from_5 said.handle) ordered_handle long p (source_of root library D) t.scopes place)
                                (record { value = refl; node = later_node (fill_later plain_here_6.standing.sound node_here r.a r.b r.c from f i s b (later_handle from_3 (gave fields q₃).handle) (later_handle from_4 (gave interfaces q₄).handle) (later_handle from_5 said.handle) ordered_handle long p t.scopes) node_here }))

              -- ---- a node with fields only gets them at once
              module _ (z : Bare R (row + 1)) where
                no_interfaces : InterfacesCopied root library dir w₃ L t₃ e new row depth w₃ (did t₃ 0 0)
                no_interfaces = interfaces_end root library dir w₃ L t₃ e new row depth plain_here_3 (interfaces_start root library dir w₃ L t₃ e new row depth plain_here_3) z.interface

                no_statements : StatementsCopied L root library dir w₃ t₃ e row w₃ (did t₃ 0 0)
                no_statements = said_end L root library dir w₃ t₃ e row (said_start L root library dir w₃ t₃ e row plain_here_3.standing plain_here_3.env plain_here_3.lent) z.statements

                no_order : OrderCopied L root library dir w₃ t₃ e row w₃ (did t₃ 0 0)
                no_order = no_marks L root library dir w₃ t₃ e row plain_here_3.standing plain_here_3.env z.body_order

                pub bare_fillable : Fillable w₃ place
                bare_fillable = plain_fillable no_interfaces refl no_statements refl no_order refl

                pub bare_done : (r : Row) → r ≡ get_or R row blank → {w₇ : List ℕ} → length w₇ ≡ length w₃ → Pushed w₃ w₇ (place - 1) (contents_of w₃ (place - 1) r.a r.b r.c from f 0 0 0) → PlainNodeCopied root library dir w L t e id row depth w₇ (did t₃ new place)
                bare_done r is long p = plain_done no_interfaces refl no_statements refl no_order refl r is long p
