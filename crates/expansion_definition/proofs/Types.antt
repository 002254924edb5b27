-- The nodes of the output in order, beside the ledger in order: each has the type name of the node that its entry names.
use mathlib.Core.Path.{◌≡◌, refl, ap, sym, ◌∙◌, subst}
use mathlib.Core.List.{List, [], ◌∷◌, ◌++◌, map, append_assoc, append-nil, Memᴰ}
use mathlib.Core.Option.{Option, none, some}
use mathlib.Core.Bool.{Bool, true, false}
use Prim.Native.Nat.{ℕ, zero, suc}
use lib.ListN.{length, get_or, set, length-map}
use lib.Dec.{ltb}
use Rattle.ast.proofs.Basics.{map_append}
use Rattle.ast.specs.Ast.{NodeOrigin, FieldData, FieldValue, FieldBinding, Field, InterfaceDecl, Statement, Node, ProtoDecl}
use Rattle.ast.specs.Choice.{and_then, map_o}
use Rattle.ast.specs.Lookups.{node_at, proto_at}
use Rattle.pick_definition.specs.Picks.{Prototype}
use Rattle.expansion_definition.specs.Input.{Input, docs, proto_of_origin, last_field}
use Rattle.expansion_definition.specs.Scopes.{Scope, scope_document}
use Rattle.expansion_definition.specs.State.{Bookkeeping, State, Result, refusal, ok, Comp, bind_r, ◌>>=◌, ◌>>◌, ret, map_m, fold_m, lookup, start_state}
use Rattle.expansion_definition.specs.Charges.{charge, paid}
use Rattle.expansion_definition.specs.Values.{Values, value_named, Env, src, Copier, copy_data, value}
use Rattle.expansion_definition.specs.PlainCopy.{blank_node, reserve_if, reserve, is_value, copy_binding, copy_field, copy_target, copy_interface, contents, copy_plain}
use Rattle.expansion_definition.specs.Instances.{push_scope, open_scope, take_default, clone_or, interface_value, values, Body, place, body_statement, root_of, record_instance, instantiate}
use Rattle.expansion_definition.specs.Copy.{copy_node, mapped_or, copy}
use Rattle.expansion_definition.specs.Expand.{statement, root_env, statements}
use Rattle.expansion_definition.proofs.Outcome.{Outcome, refused, accepted, Any, bind_out, map_out, turn_out, both}
use Rattle.expansion_definition.proofs.Worlds.{types_of, Same, Short, Keep, keep_ret, keep_bind, charge_keep, charge_each_keep, paid_keep, clone_keep, associate_keep, extern_proto_keep, copy_origin_keep, is_field_keep, is_interface_keep, copy_route_keep, copy_extern_keep, copy_statement_keep, map_m_keep, store_keep, record_instance_keep}

-- ---- lists

pub set_map : {A : Type 0} (f : A → ℕ) (l : List A) (n : ℕ) (x : A) → map f (set l n x) ≡ set (map f l) n (f x)
set_map f [] n x = refl
set_map f (a ∷ l) zero x = refl
set_map f (a ∷ l) (suc n) x = ap (λ (r : List ℕ). f a ∷ r) (set_map f l n x)

-- The element behind a list, replaced.
pub set_behind : (a : List ℕ) (z y : ℕ) (b : List ℕ) → set ((a ++ (z ∷ [])) ++ b) (length a) y ≡ (a ++ (y ∷ [])) ++ b
set_behind [] z y b = refl
set_behind (x ∷ a) z y b = ap (λ (r : List ℕ). x ∷ r) (set_behind a z y b)

-- The element behind a list stands at its length.
get_behind : (l : List Scope) (e : Scope) (r : List Scope) → get_or ((l ++ (e ∷ [])) ++ r) (length l) Scope.Root ≡ e
get_behind [] e r = refl
get_behind (x ∷ l) e r = get_behind l e r

abbrev Out : {A : Type 0} → (A → State → Type 0) → Result A → Type 0
Out P m = Outcome Any P m

-- Nothing is said of the answer.
anything : {A : Type 0} (m : Result A) → Out (λ a s. Unit {0}) m
anything (refusal c d i) = refused tt
anything (ok a s) = accepted tt

module _ (I : Input) where
  -- the type name of the node that a scope's number and a source id name
  abbrev pub source_type : List Scope → ℕ × ℕ → Option ℕ
  source_type scopes x = map_o (λ n. n.type_name) (node_at (docs I) (scope_document (get_or scopes x.0 Scope.Root)) x.1)

  -- what a step adds: scopes, ledger entries, and nodes with the type names of these entries, whatever scopes follow
  pub record Grown (st st' : State) : Type 0 where
    pub more : List Scope
    pub scopes : st'.world.scopes ≡ st.world.scopes ++ more
    pub new : List (ℕ × ℕ)
    pub ledger : st'.world.ledger ≡ st.world.ledger ++ new
    pub types : List ℕ
    pub nodes : types_of st' ≡ types_of st ++ types
    pub named : (x : List Scope) → map some types ≡ map (source_type (st'.world.scopes ++ x)) new

  -- A step that keeps the world adds nothing.
  same_grown : {st st' : State} → Same I st st' → Grown st st'
  same_grown {st} q = record {
    more = [];
    scopes = ap (λ (w : Bookkeeping). w.scopes) q.world ∙ sym (append-nil st.world.scopes);
    new = [];
    ledger = ap (λ (w : Bookkeeping). w.ledger) q.world ∙ sym (append-nil st.world.ledger);
    types = [];
    nodes = q.types ∙ sym (append-nil (types_of st));
    named = λ x. refl;
  }

  behind : {A : Type 0} {b c : List A} (a x y : List A) → b ≡ a ++ x → c ≡ b ++ y → c ≡ a ++ (x ++ y)
  behind a x y p q = q ∙ ap (λ l. l ++ y) p ∙ append_assoc a x y

  -- One step, then the next.
  grown_then : {a b c : State} → Grown a b → Grown b c → Grown a c
  grown_then {a} {b} {c} p q = record {
    more = p.more ++ q.more;
    scopes = behind a.world.scopes p.more q.more p.scopes q.scopes;
    new = p.new ++ q.new;
    ledger = behind a.world.ledger p.new q.new p.ledger q.ledger;
    types = p.types ++ q.types;
    nodes = behind (types_of a) p.types q.types p.nodes q.nodes;
    named = named;
  }
    where
      first : (x : List Scope) → map some p.types ≡ map (source_type (c.world.scopes ++ x)) p.new
      first x = p.named (q.more ++ x) ∙ ap (λ (l : List Scope). map (source_type l) p.new) (sym (append_assoc b.world.scopes q.more x) ∙ ap (λ (l : List Scope). l ++ x) (sym q.scopes))

      named : (x : List Scope) → map some (p.types ++ q.types) ≡ map (source_type (c.world.scopes ++ x)) (p.new ++ q.new)
      named x = map_append some p.types q.types ∙ ap (λ (l : List (Option ℕ)). l ++ map some q.types) (first x) ∙ ap (λ (l : List (Option ℕ)). map (source_type (c.world.scopes ++ x)) p.new ++ l) (q.named x) ∙ sym (map_append (source_type (c.world.scopes ++ x)) p.new q.new)

  -- the scope of env is open, whatever scopes follow
  abbrev Open : Env → State → Type 0
  Open env st = (x : List Scope) → get_or (st.world.scopes ++ x) env.scope Scope.Root ≡ env.entry

  open_still : (env : Env) {st st' : State} → Grown st st' → Open env st → Open env st'
  open_still env {st} {st'} g h x = ap (λ (l : List Scope). get_or (l ++ x) env.scope Scope.Root) g.scopes ∙ ap (λ (l : List Scope). get_or l env.scope Scope.Root) (append_assoc st.world.scopes g.more x) ∙ h (g.more ++ x)

  -- where the scope of env is open, the step adds nodes with their type names
  abbrev Grows : {A : Type 0} → Env → Comp A → Type 0
  Grows env c = (st : State) → Open env st → Out (λ a st'. Grown st st') (c st)

  -- any extern id
  abbrev Every : ℕ → Type 0
  Every x = Unit {0}

  module _ (env : Env) where
    kept : {A : Type 0} {c : Comp A} → Keep I (src env) Every c → Grows env c
    kept h st o = turn_out (h st) (λ c d i r. tt) (λ a s q. same_grown q)

    grow_bind : {A B : Type 0} {c : Comp A} {k : A → Comp B} → Grows env c → ((a : A) → Grows env (k a)) → Grows env (c >>= k)
    grow_bind h f st o = bind_out (h st o) (λ a s g. map_out (f a s (open_still env g o)) (λ b s' g'. grown_then g g'))

    grow_paid : {A : Type 0} {m : Comp A} → Grows env m → Grows env (paid I m)
    unfolding paid
    grow_paid h = grow_bind h (λ a. kept (keep_bind I (charge_keep I) (λ u. keep_ret I a)))

    grow_map_m : {A B : Type 0} {g : A → Comp B} → ((a : A) → Grows env (g a)) → (l : List A) → Grows env (map_m g l)
    unfolding map_m
    grow_map_m h [] = kept (keep_ret I [])
    grow_map_m h (a ∷ l) = grow_bind (h a) (λ b. grow_bind (grow_map_m h l) (λ bs. kept (keep_ret I (b ∷ bs))))

    module _ (c : Copier) (hc : (i : ℕ) → Grows env (c i)) where
      grow_data : (d : FieldData) → Grows env (copy_data I c d)
      unfolding copy_data
      grow_data (FieldData.Payload p) = kept (keep_ret I _)
      grow_data (FieldData.Nodes ids) = grow_bind (grow_map_m (λ i. grow_paid (hc i)) ids) (λ os. kept (keep_ret I _))

      grow_value : (v : FieldValue) → Grows env (value I c v)
      unfolding value
      grow_value v = grow_bind (grow_data v.«data») (λ d. kept (keep_ret I _))

      grow_field : (new : ℕ) (f : Field) → Grows env (copy_field I c env new f)
      unfolding copy_field copy_binding
      grow_field new f = go f.binding
        where
          go : (b : FieldBinding) → Grows env (copy_binding I c env new f b)
          go (FieldBinding.Value v) = grow_bind (grow_paid (grow_value v)) (λ v'. kept (keep_ret I _))
          go (FieldBinding.Is target) = kept (keep_bind I (associate_keep I env _) (λ u. is_field_keep I f (is_value env target)))

      grow_interface : (new : ℕ) (d : InterfaceDecl) → Grows env (copy_interface I c env new d)
      unfolding copy_interface copy_target
      grow_interface new d = grow_paid (go d.is d.value)
        where
          go : (target : Option ℕ) (v : Option FieldValue) → Grows env (copy_target I c env new d target v)
          go (some target) v = kept (keep_bind I (associate_keep I env _) (λ u. is_interface_keep I d target (is_value env target)))
          go none none = kept (keep_ret I _)
          go none (some v) = grow_bind (grow_value v) (λ v'. kept (keep_ret I _))

      grow_contents : (new : ℕ) (node : Node) → Grows env (contents I c env new node)
      unfolding contents
      grow_contents new node =
          grow_bind (kept (copy_origin_keep I env refl node.origin (λ x q. tt))) (λ origin. grow_bind (grow_map_m (grow_field new) node.fields) (λ fields. grow_bind (grow_map_m (grow_interface new) node.interface)
          (λ interface. kept (keep_bind I (map_m_keep I _ node.statements (λ s m. copy_statement_keep I env refl s (λ x q. tt))) (λ statements. keep_bind I (charge_each_keep I _) (λ u. keep_ret I _))))))

      -- The contents have the node's type name.
      contents_type : (new : ℕ) (node : Node) (st : State) → Out (λ x s. x.type_name ≡ node.type_name) (contents I c env new node st)
      unfolding contents
      contents_type new node st = bind_out (anything _) (λ a1 s1 u1. bind_out (anything _) (λ a2 s2 u2. bind_out (anything _) (λ a3 s3 u3. bind_out (anything _) (λ a4 s4 u4. bind_out (anything _) (λ a5 s5 u5. accepted refl)))))

      -- what a reserved node adds: its entry, and a node that has no type name yet
      record Reserved (i new : ℕ) (st st' : State) : Type 0 where
        number : new ≡ length (types_of st)
        scopes : st'.world.scopes ≡ st.world.scopes
        ledger : st'.world.ledger ≡ st.world.ledger ++ ((env.scope, i) ∷ [])
        types : types_of st' ≡ types_of st ++ (0 ∷ [])

      reserved : (i : ℕ) (st : State) → Out (λ new st'. Reserved i new st st') (reserve I env i st)
      unfolding reserve reserve_if
      reserved i st = go (ltb (length st.nodes) I.limits.max_nodes)
        where
          go : (b : Bool) → Out (λ new st'. Reserved i new st st') (reserve_if b I env i st)
          go false = refused tt
          go true = turn_out (keep_then (charge_keep I {d = 0} {X = Every} st)) (λ c d i r. tt) (λ a s h. h)
            where
              add : (s : State) → Same I st s → (s2 : State) → Same I s s2 → Reserved i (length s2.nodes) st (Rattle.expansion_definition.specs.PlainCopy.add_node env.scope i s2)
              add s q s2 q2 = record {
                number = q2.size ∙ q.size ∙ sym (length-map st.nodes (λ x. x.type_name));
                scopes = ap (λ (w : Bookkeeping). w.scopes) (q2.world ∙ q.world);
                ledger = ap (λ (w : Bookkeeping). w.ledger ++ ((env.scope, i) ∷ [])) (q2.world ∙ q.world);
                types = map_append (λ x. x.type_name) s2.nodes (blank_node ∷ []) ∙ ap (λ (l : List ℕ). l ++ (0 ∷ [])) (q2.types ∙ q.types);
              }

              keep_then : Outcome (Short I 0 Every) (λ a s. Same I st s) (charge I st) → Outcome (Short I 0 Every) (λ new st'. Reserved i new st st') (reserve_if true I env i st)
              keep_then h = bind_out h (λ u s q. bind_out (charge_keep I s) (λ v s2 q2. accepted (add s q s2 q2)))

      -- A plain node.
      grow_plain : (i : ℕ) (node : Node) → node_at (docs I) (src env) i ≡ some node → Grows env (copy_plain I c env i node)
      unfolding copy_plain
      grow_plain i node en st o =
          bind_out (reserved i st) (λ new s1 r. bind_out (both _ (grow_contents new node s1 (open1 s1 r.scopes)) (contents_type new node s1)) (λ x s2 h. accepted (all new s1 r x s2 h.0 h.1)))
        where
          open1 : (s1 : State) → s1.world.scopes ≡ st.world.scopes → Open env s1
          open1 s1 e x = rw e (o x)

          all : (new : ℕ) (s1 : State) → Reserved i new st s1 → (x : Node) (s2 : State) → Grown s1 s2 → x.type_name ≡ node.type_name → Grown st (Rattle.expansion_definition.specs.State.with_nodes (set s2.nodes new x) s2)
          all new s1 r x s2 g q = record {
            more = g.more;
            scopes = g.scopes ∙ ap (λ (l : List Scope). l ++ g.more) r.scopes;
            new = (env.scope, i) ∷ g.new;
            ledger = behind st.world.ledger ((env.scope, i) ∷ []) g.new r.ledger g.ledger;
            types = node.type_name ∷ g.types;
            nodes = set_map (λ y. y.type_name) s2.nodes new x ∙ ap (λ (l : List ℕ). set l new x.type_name) (g.nodes ∙ ap (λ (l : List ℕ). l ++ g.types) r.types) ∙ ap (λ (n : ℕ). set ((types_of st ++ (0 ∷ [])) ++ g.types) n x.type_name) r.number ∙ set_behind (types_of st) 0 x.type_name g.types ∙ append_assoc (types_of st) (x.type_name ∷ []) g.types ∙ ap (λ (n : ℕ). types_of st ++ (n ∷ g.types)) q;
            named = λ y. ap (λ (l : List (Option ℕ)). some node.type_name ∷ l) (g.named y) ∙ ap (λ (t : Option ℕ). t ∷ map (source_type (s2.world.scopes ++ y)) g.new) (sym (type y));
          }
            where
              type : (y : List Scope) → source_type (s2.world.scopes ++ y) (env.scope, i) ≡ some node.type_name
              type y = ap (λ (e : Scope). map_o (λ n. n.type_name) (node_at (docs I) (scope_document e) i)) (open_still env g (open1 s1 r.scopes) y) ∙ ap (map_o (λ n. n.type_name)) en

      grow_statement : (s : Statement) → Grows env (statement I c env s)
      unfolding statement
      grow_statement (Statement.Node i) = grow_bind (grow_paid (hc i)) (λ o. kept (keep_ret I _))
      grow_statement (Statement.Proto p) = kept (keep_ret I none)
      grow_statement (Statement.ExternProto x) = kept (copy_extern_keep I env refl x tt)
      grow_statement (Statement.Route r) = kept (copy_route_keep I env r)
      grow_statement (Statement.Other p) = kept (paid_keep I (keep_ret I _))

  -- ---- instances

  -- a scope more, which is open
  record Opened (e : Scope) (n : ℕ) (st st' : State) : Type 0 where
    number : n ≡ length st.world.scopes
    grown : Grown st st'
    here : (x : List Scope) → get_or (st'.world.scopes ++ x) n Scope.Root ≡ e

  open_scope_lem : (e : Scope) (st : State) → Out (λ n st'. Opened e n st st') (open_scope I e st)
  unfolding open_scope push_scope
  open_scope_lem e st = turn_out (then_push (charge_keep I {d = 0} {X = Every} st)) (λ c d i r. tt) (λ a s h. h)
    where
      push : (s : State) → Same I st s → Outcome Any (λ n st'. Opened e n st st') (push_scope e s)
      push s q = accepted (record {
        number = ap (λ (w : Bookkeeping). length w.scopes) q.world;
        grown = record {
          more = e ∷ [];
          scopes = ap (λ (w : Bookkeeping). w.scopes ++ (e ∷ [])) q.world;
          new = [];
          ledger = ap (λ (w : Bookkeeping). w.ledger) q.world ∙ sym (append-nil st.world.ledger);
          types = [];
          nodes = q.types ∙ sym (append-nil (types_of st));
          named = λ x. refl;
        };
        here = λ x. get_behind s.world.scopes e x;
      })

      then_push : Outcome (Short I 0 Every) (λ a s. Same I st s) (charge I st) → Outcome Any (λ n st'. Opened e n st st') (open_scope I e st)
      then_push h = bind_out (turn_out h (λ c d i r. tt) (λ a s q. q)) (λ u s q. push s q)

  module _ (f : Env → Copier) (hf : (env : Env) (i : ℕ) → Grows env (f env i)) where
    grow_default : (env : Env) (e : Scope) (v : Option FieldValue) → Grows env (take_default I f e v)
    unfolding take_default
    grow_default env e none st o = kept env (keep_ret I none) st o
    grow_default env e (some v) st o = bind_out (open_scope_lem e st) (λ n s1 h. bind_out (grow_value (denv n) (f (denv n)) (hf (denv n)) v s1 h.here) (λ v' s2 g. accepted (grown_then h.grown g)))
      where
        denv : ℕ → Env
        denv n = record { scope = n; entry = e; is_values = none }

    grow_interface_value : (env : Env) (e : Scope) (default : Option FieldValue) (given : Option FieldBinding) → Grows env (interface_value I f env e default given)
    unfolding interface_value clone_or
    grow_interface_value env e default (some (FieldBinding.Value v)) = grow_bind env (grow_value env (f env) (hf env) v) (λ v'. kept env (keep_ret I _))
    grow_interface_value env e default (some (FieldBinding.Is target)) = is (and_then env.is_values (value_named target))
      where
        is : (o : Option FieldValue) → Grows env (clone_or I (take_default I f e default) o)
        is none = grow_default env e default
        is (some v) = kept env (keep_bind I (clone_keep I v) (λ v'. keep_ret I _))
    grow_interface_value env e default none = grow_default env e default

    grow_values : (env : Env) (p : Prototype) (fields : List Field) (j : ℕ) (l : List InterfaceDecl) (vs : Values) → Grows env (values I f env p fields j l vs)
    unfolding values
    grow_values env p fields j [] vs = kept env (keep_ret I vs)
    grow_values env p fields j (d ∷ l) vs = grow_bind env (grow_interface_value env (Scope.Default p j env.scope) d.value (last_field d.name fields)) (λ v. grow_bind env (kept env (store_keep I d.name vs v)) (λ vs'. grow_values env p fields (suc j) l vs'))

    -- The instance's map entry is no node.
    grow_place : (env inner : Env) (i o : ℕ) (b : Body) (root : Option ℕ) → Grows inner (place I env i o b root)
    unfolding place
    grow_place env inner i o b none st op = bind_out (kept inner (charge_keep I) st op) (λ u s g. accepted (record { more = g.more; scopes = g.scopes; new = g.new; ledger = g.ledger; types = g.types; nodes = g.nodes; named = g.named }))
    grow_place env inner i o b (some root) st op = kept inner (paid_keep I (keep_ret I _)) st op

    grow_body : (env inner : Env) (i : ℕ) (b : Body) (s : Statement) → Grows inner (body_statement I f env i inner b s)
    unfolding body_statement
    grow_body env inner i b (Statement.Node j) = grow_bind inner (hf inner j) (λ o. grow_place env inner i o b b.root)
    grow_body env inner i b (Statement.Proto p) = kept inner (keep_ret I b)
    grow_body env inner i b (Statement.ExternProto x) = kept inner (keep_bind I (extern_proto_keep I inner refl x tt) (λ n. keep_ret I b))
    grow_body env inner i b (Statement.Route r) = kept inner (paid_keep I (keep_ret I _))
    grow_body env inner i b (Statement.Other p) = kept inner (keep_ret I b)

    grow_fold_m : (env inner : Env) (i : ℕ) (b : Body) (l : List Statement) → Grows inner (fold_m (body_statement I f env i inner) b l)
    unfolding fold_m
    grow_fold_m env inner i b [] = kept inner (keep_ret I b)
    grow_fold_m env inner i b (s ∷ l) = grow_bind inner (grow_body env inner i b s) (λ c. grow_fold_m env inner i c l)

    grow_root : (env : Env) (p : Prototype) (o : Option ℕ) → Grows env (root_of p o)
    unfolding root_of
    grow_root env p none st o = refused tt
    grow_root env p (some n) st o = kept env (keep_ret I n) st o

    grow_instance : (env : Env) (i : ℕ) (node : Node) (p : Prototype) (decl : Option ProtoDecl) → Grows env (instantiate I f env i node p decl)
    unfolding instantiate
    grow_instance env i node p none st o = refused tt
    grow_instance env i node p (some decl) st o =
        grow_bind env (grow_values env p node.fields 0 decl.interface []) (λ vs s1 o1. bind_out (open_scope_lem (Scope.Body p env.scope) s1) (λ n s2 h. map_out (grow_bind (inner n vs) (grow_fold_m env (inner n vs) i (record { root = none; extra_roots = []; routes = [] }) decl.body) (λ b. grow_bind (inner n vs) (grow_root (inner n vs) p b.root)
        (λ o. kept (inner n vs) (keep_bind I (charge_keep I) (λ u. record_instance_keep I decl.name node.def_name n b o)))) s2 h.here) (λ o s3 g. grown_then h.grown g))) st o
      where
        inner : ℕ → Values → Env
        inner n vs = record { scope = n; entry = Scope.Body p env.scope; is_values = some vs }

    grow_node : (env : Env) (i : ℕ) (node : Node) → node_at (docs I) (src env) i ≡ some node → (p : Option Prototype) → Grows env (copy_node I f env i node p)
    unfolding copy_node
    grow_node env i node en none = grow_plain env (f env) (hf env) i node en
    grow_node env i node en (some p) = grow_instance env i node p (proto_at (docs I) p.document p.proto)

  grow_mapped : (env : Env) (i : ℕ) (next : Node → Comp ℕ) → ((node : Node) → node_at (docs I) (src env) i ≡ some node → Grows env (next node)) → (o : Option ℕ) (node : Option Node) → node_at (docs I) (src env) i ≡ node → Grows env (mapped_or env i next o node)
  unfolding mapped_or
  grow_mapped env i next h (some n) node en st o = kept env (keep_ret I n) st o
  grow_mapped env i next h none none en st o = refused tt
  grow_mapped env i next h none (some node) en st o = h node en st o

  grow_copy : (left : ℕ) (env : Env) (i : ℕ) → Grows env (copy I left env i)
  unfolding copy
  grow_copy zero env i st = grow_mapped env i _ (λ node en s o. refused tt) (lookup st.world.map env.scope i) (node_at (docs I) (src env) i) refl st
  grow_copy (suc left) env i st = grow_mapped env i _ (λ node en. grow_node (copy I left) (grow_copy left) env i node en (proto_of_origin I (src env) node.origin)) (lookup st.world.map env.scope i) (node_at (docs I) (src env) i) refl st

  -- The nodes of an accepted expansion have the type names that the ledger's entries name, in order.
  pub types_listed : Out (λ l st. map some (types_of st) ≡ map (source_type st.world.scopes) st.world.ledger) (statements I start_state)
  unfolding statements
  types_listed = map_out whole (λ l st g. last st g)
    where
      last : (st : State) → Grown start_state st → map some (types_of st) ≡ map (source_type st.world.scopes) st.world.ledger
      last st g = ap (map some) g.nodes ∙ g.named [] ∙ ap (λ (l : List Scope). map (source_type l) g.new) (append-nil st.world.scopes) ∙ ap (map (source_type st.world.scopes)) (sym g.ledger)

      whole : Out (λ l st. Grown start_state st) (statements I start_state)
      whole =
          bind_out (turn_out (charge_keep I {d = 0} {X = Every} start_state) (λ c d i r. tt) (λ a s q. q)) (λ u s1 q1. bind_out (turn_out (charge_keep I {d = 0} {X = Every} s1) (λ c d i r. tt) (λ a s q. q)) (λ v s2 q2. bind_out (open_scope_lem Scope.Root s2)
          (λ n s3 h. map_out (grow_bind root_env (grow_map_m root_env (grow_statement root_env (copy I I.limits.max_depth root_env) (grow_copy I.limits.max_depth root_env)) I.root.statements) (λ l. kept root_env (keep_ret I _)) s3 (root_open n s2 s3 (q2.world ∙ q1.world) h.number h.here)) (λ l s4 g. grown_then (same_grown q1) (grown_then (same_grown q2) (grown_then h.grown g))))))
        where
          root_open : (n : ℕ) (s2 s3 : State) → s2.world ≡ start_state.world → n ≡ length s2.world.scopes → ((x : List Scope) → get_or (s3.world.scopes ++ x) n Scope.Root ≡ Scope.Root) → Open root_env s3
          root_open n s2 s3 e q h x = subst (λ (m : ℕ). get_or (s3.world.scopes ++ x) m Scope.Root ≡ Scope.Root) (q ∙ ap (λ (w : Bookkeeping). length w.scopes) e) (h x)
