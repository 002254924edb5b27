-- A plain node charges just for what it leaves and for what its run counts.
use mathlib.Core.Path.{◌≡◌, refl, ap, sym, ◌∙◌, subst}
use mathlib.Core.List.{List, [], ◌∷◌, ◌++◌, map, append_assoc}
use mathlib.Core.Option.{Option, none, some}
use mathlib.Core.Bool.{Bool, true, false}
use Prim.Native.Nat.{ℕ, suc, ◌+◌}
use native.Mathlib.Omega.{arith}
use lib.ListN.{length, set, length-map}
use lib.Dec.{ltb}
use Rattle.ast.proofs.Basics.{map_append}
use Rattle.ast.specs.Ast.{FieldData, FieldValue, FieldBinding, Field, InterfaceDecl, Statement, Node}
use Rattle.ast.specs.Lists.{flat}
use Rattle.expansion_steps.specs.Steps.{copy_id, add_plain, one, all}
use Rattle.expansion_steps.specs.Steps
use Rattle.expansion_definition.specs.Input.{Input}
use Rattle.ast.specs.Ids.{data_ids, option_ids, binding_ids, statement_ids}
use Rattle.expansion_definition.specs.State.{State, map_m, with_nodes}
use Rattle.expansion_definition.specs.Charges.{one_more, paid}
use Rattle.expansion_definition.specs.Values.{Values, Env, Copier, copy_data, value}
use Rattle.expansion_definition.specs.PlainCopy.{blank_node, add_node, reserve_if, reserve, is_value, copy_binding, copy_field, copy_target, copy_interface, kept_order, contents, copy_plain}
use Rattle.expansion_definition.specs.Expand.{statement}
use Rattle.expansion_definition.specs.Reached.{Known, interface_ids, plain_nexts}
use Rattle.expansion_definition.specs.Outputs.{interface_row_count}
use Rattle.expansion_definition.specs.Counted.{of_node, is_in, is_set, associations_in}
use Rattle.expansion_definition.specs.Until.{ids_first}
use Rattle.expansion_definition.proofs.Outcome.{refused, accepted, bind_out}
use Rattle.expansion_definition.proofs.Types.{set_map, set_behind}
use Rattle.expansion_definition.proofs.Books.{sum_append, option_row, option_field, somes_fields, somes_rows}
use Rattle.expansion_definition.proofs.Sizes.{Out, total, sum_map, id_count}
use Rattle.expansion_definition.proofs.Costs.{worth, kepts, Spent, spent_then, spent_still, Sees, sees_same, Costs}
use Rattle.expansion_definition.proofs.Paying.{After, Pays, charge_is, P, pays_ret, pays_is, pays_then, pays_copies, pays_after, pays_one, charge_each_pays, paid_pays, paid_ret, map_m_pays, map_m_still, associate_pays, copy_origin_pays, is_field_pays, is_interface_pays, copy_route_pays, copy_extern_pays, copy_statement_pays}

module _ (I : Input) where
  module _ {vs : Values} {n : ℕ} {e : Known} where
    -- ---- plain nodes

    module _ (c : Copier) (hc : (x i : ℕ) → Pays I vs (one n e i) x (c i) (λ o. x)) where
      one_paid : (x i : ℕ) → Pays I vs (one n e i) x (paid I (c i)) (λ o. suc x)
      unfolding paid
      one_paid x i w w' k cs st s =
          bind_out (hc x i w w' k cs st s) (λ o s1 r. bind_out (charge_is I s1) (λ u s2 q. accepted (record { sees = sees_same I refl (ap (λ (y : State). y.world) q) r.sees; spent = spent_then I r.spent (subst (λ (y : State). (Spent I) (k + x) s1 y (k + suc x)) (sym q) (spent_still I s1 (one_more s1) refl (omega arith))) })))

      ids_pay : (x : ℕ) (l : List ℕ) → P I vs n e (map copy_id l) x (map_m (λ i. paid I (c i)) l) (λ os. length os + x)
      unfolding map_m
      ids_pay x [] = pays_ret I [] (omega arith)
      ids_pay x (i ∷ l) = pays_one I (one_paid x i) (λ o. pays_then I (map copy_id l) (ids_pay (suc x) l) (λ os. pays_ret I (o ∷ os) (omega arith)))

      pub ids_first_lem : (x : ℕ) (l : List ℕ) → P I vs n e (map copy_id l) x (ids_first I c l) (λ os. length l + x)
      unfolding ids_first map_m
      ids_first_lem x [] = pays_ret I [] (omega arith)
      ids_first_lem x (i ∷ l) = pays_one I (one_paid x i) (λ o. pays_then I (map copy_id l) (ids_first_lem (suc x) l) (λ os. pays_ret I (o ∷ os) (omega arith)))

      copy_data_pays : (x : ℕ) (d : FieldData) → P I vs n e (map copy_id (data_ids d)) x (copy_data I c d) (λ d'. length (data_ids d') + x)
      unfolding copy_data
      copy_data_pays x (FieldData.Payload p) = pays_ret I _ (omega arith)
      copy_data_pays x (FieldData.Nodes ids) = pays_then I (map copy_id ids) (ids_pay x ids) (λ os. pays_ret I _ refl)

      pub value_pays : (x : ℕ) (v : FieldValue) → P I vs n e (map copy_id (data_ids v.«data»)) x (value I c v) (λ v'. id_count v' + x)
      unfolding value
      value_pays x v = pays_then I (map copy_id (data_ids v.«data»)) (copy_data_pays x v.«data») (λ d. pays_ret I _ refl)

      pub copy_field_pays : (env : Env) (new x : ℕ) (f : Field) → P I vs n e (map copy_id (binding_ids f.binding)) x (copy_field I c env new f) (λ r. is_in f.binding + option_field r + x)
      unfolding copy_field copy_binding
      copy_field_pays env new x f = go f.binding refl
        where
          go : (b : FieldBinding) → f.binding ≡ b → P I vs n e (map copy_id (binding_ids b)) x (copy_binding I c env new f b) (λ r. is_in b + option_field r + x)
          go (FieldBinding.Value v) q = pays_then I (map copy_id (data_ids v.«data»)) (paid_pays I (map copy_id (data_ids v.«data»)) (value_pays x v)) (λ v'. pays_ret I _ (omega arith))
          go (FieldBinding.Is t) q = pays_is I (λ r. omega arith) (pays_after I (associate_pays I x env _) (λ u. is_field_pays I (suc x) f t q (is_value env t)))

      pub copy_interface_pays : (env : Env) (new x : ℕ) (d : InterfaceDecl) → P I vs n e (map copy_id (interface_ids d.is d.value)) x (copy_interface I c env new d) (λ r. is_set d.is + interface_row_count r + x)
      unfolding copy_interface copy_target
      copy_interface_pays env new x d = pays_is I (λ r. omega arith) (paid_pays I (map copy_id (interface_ids d.is d.value)) (go d.is d.value))
        where
          go : (t : Option ℕ) (v : Option FieldValue) → P I vs n e (map copy_id (interface_ids t v)) x (copy_target I c env new d t v) (λ r. is_set t + length (option_ids r.value) + x)
          go (some t) v = pays_is I (λ r. omega arith) (pays_after I (associate_pays I x env _) (λ u. is_interface_pays I (suc x) d t (is_value env t)))
          go none none = pays_ret I _ (omega arith)
          go none (some v) = pays_then I (map copy_id (data_ids v.«data»)) (value_pays x v) (λ v'. pays_ret I _ (omega arith))

      contents_pays : (env : Env) (new x : ℕ) (node : Node) → P I vs n e (map copy_id (plain_nexts node)) (2 + x) (contents I c env new node) (λ y. associations_in (some node) + of_node y + x)
      unfolding contents
      contents_pays env new x node =
          pays_after I (copy_origin_pays I (2 + x) env node.origin) (λ og. pays_copies I (flat (λ f. binding_ids f.binding) node.fields) (flat (λ d. interface_ids d.is d.value) node.interface) (map_m_pays I (λ f. binding_ids f.binding) (λ f. is_in f.binding) option_field _ (copy_field_pays env new) (2 + x) node.fields)
          (λ fs. pays_then I (map copy_id (flat (λ d. interface_ids d.is d.value) node.interface)) (map_m_pays I (λ d. interface_ids d.is d.value) (λ d. is_set d.is) interface_row_count _ (copy_interface_pays env new) _ node.interface)
          (λ is. pays_after I (map_m_still I option_row _ (copy_statement_pays I env) _ node.statements) (λ ss. pays_after I (charge_each_pays I _ (kept_order fs ss node.body_order)) (λ u. pays_ret I _ (omega (arith, somes_fields fs, somes_rows ss)))))))

      pub statement_pays : (env : Env) (x : ℕ) (s : Statement) → P I vs n e (map copy_id (statement_ids s)) x (statement I c env s) (λ o. 0 + option_row o + x)
      unfolding statement
      statement_pays env x (Statement.Node i) = pays_one I (one_paid x i) (λ o. pays_ret I _ (omega arith))
      statement_pays env x (Statement.Proto p) = pays_ret I none (omega arith)
      statement_pays env x (Statement.ExternProto y) = pays_is I (λ o. omega arith) (copy_extern_pays I x env y)
      statement_pays env x (Statement.Route r) = pays_is I (λ o. omega arith) (copy_route_pays I x env r)
      statement_pays env x (Statement.Other p) = paid_ret I _ (omega arith)

      -- a node is reserved: mapped, listed, and there with nothing in it
      pub record Reserved (s i new : ℕ) (st st' : State) : Type 0 where
        pub number : new ≡ length (kepts I st)
        pub sees : (w : Steps.World Known) → Sees I w st.world → Sees I (add_plain s i w) st'.world
        pub nodes : kepts I st' ≡ kepts I st ++ (2 ∷ [])
        pub paid' : st'.charges + worth I st ≡ st.charges + worth I st'

      pub reserved : (env : Env) (i : ℕ) (st : State) → Out (λ new st'. Reserved env.scope i new st st') (reserve I env i st)
      unfolding reserve reserve_if
      reserved env i st = go (ltb (length st.nodes) I.limits.max_nodes)
        where
          added : Reserved env.scope i (length st.nodes) st (add_node env.scope i (one_more (one_more st)))
          added = record {
            number = sym (length-map st.nodes of_node);
            sees = λ w s. record { mapped = ap (λ (l : List (ℕ × ℕ)). (env.scope, i) ∷ l) s.mapped; scopes = s.scopes };
            nodes = map_append of_node st.nodes (blank_node ∷ []);
            paid' = omega (arith, sum_append of_node st.nodes (blank_node ∷ []));
          }

          go : (b : Bool) → Out (λ new st'. Reserved env.scope i new st st') (reserve_if b I env i st)
          go false = refused tt
          go true = bind_out (charge_is I st) (λ u s1 q1. bind_out (charge_is I s1) (λ u2 s2 q2. accepted (subst (λ (s : State). Reserved env.scope i (length s.nodes) st (add_node env.scope i s)) (sym (q2 ∙ ap one_more q1)) added)))

      -- A plain node.
      pub copy_plain_pays : (env : Env) → env.scope ≡ n → (x i : ℕ) (node : Node) (w w' : Steps.World Known) (k : ℕ) → Costs I vs (all n e (map copy_id (plain_nexts node))) (add_plain n i w) w' k → (st : State) → Sees I w st.world → Out (λ o st'. After I w' x st (associations_in (some node) + k) x st') (copy_plain I c env i node st)
      unfolding copy_plain
      copy_plain_pays env en x i node w w' k cs st s =
          bind_out (reserved env i st) (λ new s1 r. bind_out (contents_pays env new x node (add_plain n i w) w' k cs s1 (subst (λ (m : ℕ). (Sees I) (add_plain m i w) s1.world) en (r.sees w s))) (λ y s2 q. accepted (record { sees = q.sees; spent = whole new s1 r y s2 q.spent })))
        where
          whole : (new : ℕ) (s1 : State) → Reserved env.scope i new st s1 → (y : Node) (s2 : State) → Spent I (2 + x) s1 s2 (k + (associations_in (some node) + of_node y + x)) → Spent I x st (with_nodes (set s2.nodes new y) s2) (associations_in (some node) + k + x)
          whole new s1 r y s2 p = record { more = of_node y ∷ p.more; nodes = now; paid' = omega (arith, p.paid', r.paid', sum_map of_node (set s2.nodes new y), ap total now, sum_append (λ z. z) (kepts I st) (of_node y ∷ p.more), sum_map of_node s2.nodes, ap total was, sum_append (λ z. z) (kepts I st) (2 ∷ p.more), sum_map of_node st.nodes) }
            where
              was : kepts I s2 ≡ kepts I st ++ (2 ∷ p.more)
              was = p.nodes ∙ ap (λ (l : List ℕ). l ++ p.more) r.nodes ∙ append_assoc (kepts I st) (2 ∷ []) p.more

              now : map of_node (set s2.nodes new y) ≡ kepts I st ++ (of_node y ∷ p.more)
              now = set_map of_node s2.nodes new y ∙ ap (λ (l : List ℕ). set l new (of_node y)) (p.nodes ∙ ap (λ (l : List ℕ). l ++ p.more) r.nodes) ∙ ap (λ (m : ℕ). set ((kepts I st ++ (2 ∷ [])) ++ p.more) m (of_node y)) r.number ∙ set_behind (kepts I st) 2 (of_node y) p.more ∙ append_assoc (kepts I st) (of_node y ∷ []) p.more
