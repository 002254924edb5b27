-- How many rows an input needs: the charges that the steps make, whatever the limit on rows, up to their end.
use mathlib.Core.Path.{◌≡◌, refl, ap, sym, ◌∙◌, subst}
use mathlib.Core.List.{List, [], ◌∷◌, ◌++◌, map}
use mathlib.Core.Logic.{◌⊎◌, inl, inr}
use mathlib.Core.Option.{Option, none, some}
use mathlib.Core.Bool.{Bool, true, false}
use Prim.Native.Nat.{ℕ, zero, suc, ◌+◌, ◌≤◌, ◌<◌}
use native.Mathlib.Nat.{le_refl, le_trans}
use native.Mathlib.Decide.{dec_lt}
use native.Mathlib.Omega.{arith}
use lib.ListN.{length, get_elem?, set, length-append}
use lib.Dec.{T, ltb, ltb→lt, lt→ltb}
use Rattle.ast.specs.Ast.{NodeOrigin, FieldData, FieldValue, FieldBinding, Field, InterfaceDecl, Route, Statement, Association, Node, ProtoDecl, ExternProtoDecl}
use Rattle.ast.specs.Choice.{and_then}
use Rattle.ast.specs.Lookups.{node_at, proto_at, extern_proto_at}
use Rattle.pick_definition.specs.Picks.{Prototype}
use Rattle.expansion_steps.specs.Steps.{World, WholeRun}
use Rattle.expansion_definition.specs.Input.{Input, docs, proto_of_origin, last_field}
use Rattle.expansion_definition.specs.Scopes.{Scope}
use Rattle.ast.specs.Ids.{data_ids}
use Rattle.expansion_definition.specs.State.{State, Result, refusal, ok, Comp, bind_r, ◌>>=◌, ◌>>◌, ret, fail, map_m, fold_m, with_world, lookup, start_state}
use Rattle.expansion_definition.specs.Charges.{one_more, charge_if, charge, charge_each, paid}
use Rattle.expansion_definition.specs.Values.{Values, value_named, Env, src, Copier, copy_data, value, clone}
use Rattle.expansion_definition.specs.Externs.{lookup_extern, declare, extern_proto}
use Rattle.expansion_definition.specs.PlainCopy.{reserve_if, reserve, copy_origin, associate, is_value, is_field, copy_binding, copy_field, is_interface, copy_target, copy_interface, copy_route, copy_extern, copy_statement, somes, kept_order, contents, copy_plain}
use Rattle.expansion_definition.specs.Instances.{push_scope, open_scope, take_default, clone_or, interface_value, store, values, Body, place, body_statement, root_of, record_instance, instantiate}
use Rattle.expansion_definition.specs.Copy.{copy_node, mapped_or, copy}
use Rattle.expansion_definition.specs.Expand.{statement, root_env, statements, Expansion, Answer, expansion, answer, expand}
use Rattle.expansion_definition.specs.Reached.{Known, graph}
use Rattle.expansion_definition.specs.Counted.{counted, tops}
use Rattle.expansion_definition.specs.Expanded.{with_rows, Until, Needs}
use Rattle.expansion_definition.specs.Until.{ids_first, plain_first, given_first, default_env, default_first, body_env, BodyPart, body_first, NoneGiven, Copied, IdIn, PlainPlace, in_field, in_interface, Open, five, nine, eight, four_origin, in_plain, four_statement, six, in_given, in_default, in_body, four_body, seven, OpenTop, in_node, four_top}
use Rattle.expansion_definition.proofs.Outcome.{at_ok}
use Rattle.expansion_definition.proofs.Counted.{charges_counted}
use Rattle.expansion_definition.proofs.Stopped.{tops_done}

-- ---- a result for each limit

-- each scope has its charge
abbrev Inv : State → Type 0
Inv st = length st.world.scopes ≤ st.charges

-- what is told of a refusal: the state in which it is given, its number and places
abbrev Telling : Type 1
Telling = State → ℕ → ℕ → ℕ → Type 0

-- an end that is no 10, where so many charges are made
data Ends {A : Type 0} (E : Telling) : ℕ → Result A → Type 0 where
  by_other : {n d i : ℕ} {s : State} → (n ≡ 10 → ⊥) → E s n d i → Ends E s.charges (refusal n d i)
  done : {a : A} {s : State} → Inv s → Ends E s.charges (ok a s)

-- From c charges on: with need or more charges allowed the same end, with fewer 10.
record Threshold {A : Type 0} (E : Telling) (c : ℕ) (m : ℕ → Result A) : Type 0 where
  need : ℕ
  end : Result A
  ends : Ends E need end
  least : c ≤ need
  enough : (k : ℕ) → need ≤ k → m k ≡ end
  short : (k : ℕ) → c ≤ k → k < need → m k ≡ refusal 10 0 0

-- an answer, with room for the charges made until then
record Got {A : Type 0} (c : ℕ) (m : ℕ → Result A) (a : A) (s : State) : Type 0 where
  inv : Inv s
  more : c ≤ s.charges
  made : (k : ℕ) → s.charges ≤ k → m k ≡ ok a s

-- The same of equal results.
retold : {A : Type 0} {E : Telling} {c : ℕ} {m m' : ℕ → Result A} → ((k : ℕ) → m k ≡ m' k) → Threshold E c m' → Threshold E c m
retold q t = record { need = t.need; end = t.end; ends = t.ends; least = t.least; enough = λ k h. q k ∙ t.enough k h; short = λ k h l. q k ∙ t.short k h l }

-- The same told in other words.
told : {A : Type 0} {E F : Telling} {c : ℕ} {m : ℕ → Result A} → ((s : State) (n d i : ℕ) → c ≤ s.charges → E s n d i → F s n d i) → Threshold E c m → Threshold F c m
told {A} {E} {F} {c} q t = record { need = t.need; end = t.end; ends = go t.ends t.least; least = t.least; enough = t.enough; short = t.short }
  where
    go : {n : ℕ} {r : Result A} → Ends E n r → c ≤ n → Ends F n r
    go (by_other {s = s} h e) l = by_other {s = s} h (q s _ _ _ l e)
    go (done {s = s} h) l = done {s = s} h

-- One step, then the next.
threshold_bind : {A B : Type 0} {E : Telling} {c : ℕ} {m : ℕ → Result A} {f : ℕ → A → Comp B} → Threshold E c m → ((a : A) (s : State) → Got c m a s → Threshold E s.charges (λ k. f k a s)) → Threshold E c (λ k. bind_r (m k) (f k))
unfolding bind_r
threshold_bind {A} {B} {E} {c} {m} {f} t g = go t.need t.end t.ends t.least t.enough t.short
  where
    go : (need : ℕ) (end : Result A) → Ends E need end → c ≤ need → ((k : ℕ) → need ≤ k → m k ≡ end) → ((k : ℕ) → c ≤ k → k < need → m k ≡ refusal 10 0 0) → Threshold E c (λ k. bind_r (m k) (f k))
    go need (refusal n d i) (by_other {s = st} h y) le e s = record { need = st.charges; end = refusal n d i; ends = by_other {s = st} h y; least = le; enough = λ k q. ap (λ (r : Result A). bind_r r (f k)) (e k q); short = λ k q l. ap (λ (r : Result A). bind_r r (f k)) (s k q l) }
    go need (ok a st) (done h) le e s = record {
      need = u.need;
      end = u.end;
      ends = u.ends;
      least = le_trans le u.least;
      enough = λ k q. ap (λ (r : Result A). bind_r r (f k)) (e k (le_trans u.least q)) ∙ u.enough k q;
      short = λ k q l. by k q l (dec_lt k st.charges);
    }
      where
        u : Threshold E st.charges (λ k. f k a st)
        u = g a st (record { inv = h; more = le; made = e })

        by : (k : ℕ) → c ≤ k → k < u.need → Dec (k < st.charges) → bind_r (m k) (f k) ≡ refusal 10 0 0
        by k q l (yes y) = ap (λ (r : Result A). bind_r r (f k)) (s k q y)
        by k q l (no y) = let le' : st.charges ≤ k = omega arith in ap (λ (r : Result A). bind_r r (f k)) (e k le') ∙ u.short k le' l

-- A step that gives an answer, then the next.
step : {A B : Type 0} {m : Result A} (f : A → Comp B) {a : A} {s : State} {r : Result B} → m ≡ ok a s → f a s ≡ r → bind_r m f ≡ r
unfolding bind_r
step {A} f e q = ap (λ (x : Result A). bind_r x f) e ∙ q

-- a step for each limit
abbrev Counted : {A : Type 0} → Telling → (ℕ → Comp A) → Type 0
Counted E m = (st : State) → Inv st → Threshold E st.charges (λ k. m k st)

-- A step that is the same for each limit, and charges nothing.
free : {A : Type 0} {E : Telling} (c : ℕ) (a : A) (s : State) → s.charges ≡ c → Inv s → Threshold E c (λ k. ok a s)
free c a s q h = record { need = s.charges; end = ok a s; ends = done h; least = omega arith; enough = λ k l. refl; short = λ k l r. absurd (omega arith) }

count_ret : {A : Type 0} {E : Telling} (a : A) → Counted E (λ k. ret a)
count_ret a st h = free st.charges a st refl h

-- A refusal that is no 10.
count_fail : {A : Type 0} {E : Telling} (n d i : ℕ) → (n ≡ 10 → ⊥) → (st : State) → E st n d i → Threshold E st.charges (λ k. fail {A = A} n d i st)
count_fail n d i q st e = record { need = st.charges; end = refusal n d i; ends = by_other {s = st} q e; least = le_refl _; enough = λ k l. refl; short = λ k l r. absurd (omega arith) }

count_bind : {A B : Type 0} {E : Telling} {m : ℕ → Comp A} {f : ℕ → A → Comp B} → Counted E m → ((a : A) → Counted E (λ k. f k a)) → Counted E (λ k. m k >>= f k)
count_bind h g st inv = threshold_bind (h st inv) (λ a s i. g a s i.inv)

module _ (I : Input) where
  abbrev J : ℕ → Input
  J k = with_rows k I

  -- what is told where an id of v is refused, those in front of it copied
  abbrev InValue : Telling → (ℕ → Copier) → FieldValue → State → Type 0
  InValue E c v st = (ids : List ℕ) (j : ℕ) → IdIn v ids j → (os : List ℕ) (s : State) → Got st.charges (λ k. ids_first (J k) (c k) ids st) os s → Threshold E s.charges (λ k. c k j s)

  -- ---- steps that 10 alone refuses

  module _ {E : Telling} where
    count_charge : Counted E (λ k. charge (J k))
    unfolding charge charge_if
    count_charge st h = record { need = suc st.charges; end = ok tt (one_more st); ends = done {s = one_more st} (omega arith); least = omega arith; enough = λ k l. enough k (ltb st.charges k) (lt→ltb st.charges k l); short = λ k l r. short k r (ltb st.charges k) (ltb→lt st.charges k) }
      where
        enough : (k : ℕ) (b : Bool) → T b → charge_if b st ≡ ok tt (one_more st)
        enough k true l = refl
        enough k false l = absurd l

        short : (k : ℕ) → k < suc st.charges → (b : Bool) → (T b → st.charges < k) → charge_if b st ≡ refusal 10 0 0
        short k r true l = absurd (omega (arith, l tt))
        short k r false l = refl

    count_each : {A : Type 0} (l : List A) → Counted E (λ k. charge_each (J k) l)
    unfolding charge_each
    count_each [] = count_ret tt
    count_each (x ∷ l) = count_bind count_charge (λ u. count_each l)

    -- a step that is charged, in a state
    paid_at : {A : Type 0} (m : ℕ → Comp A) (st : State) → Threshold E st.charges (λ k. m k st) → Threshold E st.charges (λ k. paid (J k) (m k) st)
    unfolding paid
    paid_at m st h = threshold_bind h (λ a s q. count_bind count_charge (λ u. count_ret a) s q.inv)

    count_paid : {A : Type 0} {m : ℕ → Comp A} → Counted E m → Counted E (λ k. paid (J k) (m k))
    count_paid h st inv = paid_at _ st (h st inv)

    count_clone : (v : FieldValue) → Counted E (λ k. clone (J k) v)
    unfolding clone
    count_clone v = count_bind (count_each (data_ids v.«data»)) (λ u. count_ret v)

    count_associate : (env : Env) (a : Association) → Counted E (λ k. associate (J k) env a)
    unfolding associate
    count_associate env a = count_bind count_charge (λ u st h. free st.charges tt _ refl h)

    count_is_field : (f : Field) (o : Option (Option FieldValue)) → Counted E (λ k. is_field (J k) f o)
    unfolding is_field
    count_is_field f none = count_paid (count_ret _)
    count_is_field f (some none) = count_ret none
    count_is_field f (some (some v)) = count_bind (count_paid (count_clone v)) (λ a. count_ret _)

    count_is_interface : (d : InterfaceDecl) (target : ℕ) (o : Option (Option FieldValue)) → Counted E (λ k. is_interface (J k) d target o)
    unfolding is_interface
    count_is_interface d target none = count_ret _
    count_is_interface d target (some none) = count_ret _
    count_is_interface d target (some (some v)) = count_bind (count_clone v) (λ a. count_ret _)

    count_route : (env : Env) (r : Route) → Counted E (λ k. copy_route (J k) env r)
    unfolding copy_route
    count_route env r = count_paid (λ st h. free st.charges _ st refl h)

    -- A scope has a charge of its own.
    count_open_scope : (e : Scope) → Counted E (λ k. open_scope (J k) e)
    unfolding open_scope push_scope bind_r count_charge
    count_open_scope e st h = record {
      need = suc st.charges;
      end = ok (length st.world.scopes) after;
      ends = done {s = after} (omega (arith, length-append st.world.scopes (e ∷ [])));
      least = omega arith;
      enough = λ k l. ap (λ (r : Result (Unit {0})). bind_r r (λ u. push_scope e)) (t.enough k l);
      short = λ k q l. ap (λ (r : Result (Unit {0})). bind_r r (λ u. push_scope e)) (t.short k q l);
    }
      where
        t : Threshold E st.charges (λ k. charge (J k) st)
        t = count_charge st h

        after : State
        after = with_world (record { map = st.world.map; ledger = st.world.ledger; scopes = st.world.scopes ++ (e ∷ []) }) (one_more st)

    count_store : (name : ℕ) (vs : Values) (v : Option FieldValue) → Counted E (λ k. store (J k) name vs v)
    unfolding store
    count_store name vs none = count_ret vs
    count_store name vs (some v) = count_paid (count_ret _)

    count_place : (env : Env) (i o : ℕ) (b : Body) (root : Option ℕ) → Counted E (λ k. place (J k) env i o b root)
    unfolding place
    count_place env i o b none = count_bind count_charge (λ u st h. free st.charges _ _ refl h)
    count_place env i o b (some root) = count_paid (count_ret _)

    count_record : (name : ℕ) (def_name : Option ℕ) (n : ℕ) (b : Body) (o : ℕ) → Counted E (λ k. record_instance name def_name n b o)
    unfolding record_instance
    count_record name def_name n b o st h = free st.charges o _ refl h

    -- ---- lists: what is told of an element is told with those in front of it done

    map_m_at : {A B : Type 0} {g : ℕ → A → Comp B} (l : List A) (st : State) → Inv st
        → ((front : List A) (a : A) (behind : List A) → l ≡ front ++ (a ∷ behind) → (bs : List B) (s : State) → Got st.charges (λ k. map_m (g k) front st) bs s → Threshold E s.charges (λ k. g k a s)) → Threshold E st.charges (λ k. map_m (g k) l st)
    unfolding map_m
    map_m_at [] st inv h = count_ret [] st inv
    map_m_at {A} {B} {g} (a ∷ l) st inv h = threshold_bind (h [] a l refl [] st (record { inv = inv; more = le_refl _; made = λ k q. refl }))
        (λ b s y. threshold_bind (map_m_at l s y.inv (λ front x behind e bs t z. h (a ∷ front) x behind (ap (λ (r : List A). a ∷ r) e) (b ∷ bs) t (record { inv = z.inv; more = le_trans y.more z.more; made = λ k q. step _ (y.made k (le_trans z.more q)) (step _ (z.made k q) refl) }))) (λ bs t z. count_ret (b ∷ bs) t z.inv))

    fold_m_at : {A B : Type 0} {g : ℕ → B → A → Comp B} (b : B) (l : List A) (st : State) → Inv st
        → ((front : List A) (a : A) (behind : List A) → l ≡ front ++ (a ∷ behind) → (c : B) (s : State) → Got st.charges (λ k. fold_m (g k) b front st) c s → Threshold E s.charges (λ k. g k c a s)) → Threshold E st.charges (λ k. fold_m (g k) b l st)
    unfolding fold_m
    fold_m_at b [] st inv h = count_ret b st inv
    fold_m_at {A} {B} {g} b (a ∷ l) st inv h = threshold_bind (h [] a l refl b st (record { inv = inv; more = le_refl _; made = λ k q. refl }))
        (λ c s y. fold_m_at c l s y.inv (λ front x behind e d t z. h (a ∷ front) x behind (ap (λ (r : List A). a ∷ r) e) d t (record { inv = z.inv; more = le_trans y.more z.more; made = λ k q. step _ (y.made k (le_trans z.more q)) (z.made k q) })))

    -- ---- externs: 4

    extern_at : (env : Env) (x : ℕ) (st : State) → Inv st → (extern_proto_at (docs I) (src env) x ≡ none → E st 4 (src env) x) → Threshold E st.charges (λ k. extern_proto (J k) env x st)
    unfolding extern_proto declare
    extern_at env x st inv h = go (lookup_extern st.extern_map (src env) x) (extern_proto_at (docs I) (src env) x) refl
      where
        go : (o : Option ℕ) (decl : Option ExternProtoDecl) → extern_proto_at (docs I) (src env) x ≡ decl → Threshold E st.charges (λ k. declare (J k) (src env) x o decl st)
        go (some n) decl e = count_ret n st inv
        go none none e = count_fail 4 (src env) x (λ q. omega arith) st (h e)
        go none (some decl) e = count_bind count_charge (λ a. count_bind (count_each decl.interface) (λ b. count_bind (count_each decl.urls) (λ c s h. free s.charges (length s.extern_protos) _ refl h))) st inv

    origin_at : (env : Env) (o : NodeOrigin) (st : State) → Inv st → ((x : ℕ) → o ≡ NodeOrigin.ExternProto x → extern_proto_at (docs I) (src env) x ≡ none → E st 4 (src env) x) → Threshold E st.charges (λ k. copy_origin (J k) env o st)
    unfolding copy_origin
    origin_at env NodeOrigin.Builtin st inv h = count_ret _ st inv
    origin_at env (NodeOrigin.Proto p) st inv h = count_ret _ st inv
    origin_at env (NodeOrigin.ExternProto x) st inv h = threshold_bind (extern_at env x st inv (h x refl)) (λ n s q. count_ret _ s q.inv)
    origin_at env NodeOrigin.Unknown st inv h = count_ret _ st inv

    copy_extern_at : (env : Env) (x : ℕ) (st : State) → Inv st → (extern_proto_at (docs I) (src env) x ≡ none → E st 4 (src env) x) → Threshold E st.charges (λ k. copy_extern (J k) env x st)
    unfolding copy_extern
    copy_extern_at env x st inv h = threshold_bind (paid_at _ st (extern_at env x st inv h)) (λ n s q. count_ret _ s q.inv)

    statement_at_lem : (env : Env) (s : Statement) (st : State) → Inv st → ((x : ℕ) → s ≡ Statement.ExternProto x → extern_proto_at (docs I) (src env) x ≡ none → E st 4 (src env) x) → Threshold E st.charges (λ k. copy_statement (J k) env s st)
    unfolding copy_statement
    statement_at_lem env (Statement.Node i) st inv h = count_ret none st inv
    statement_at_lem env (Statement.Proto p) st inv h = count_ret none st inv
    statement_at_lem env (Statement.ExternProto x) st inv h = copy_extern_at env x st inv (h x refl)
    statement_at_lem env (Statement.Route r) st inv h = count_route env r st inv
    statement_at_lem env (Statement.Other p) st inv h = count_ret none st inv

    -- ---- values: an id that is refused, with those in front of it done

    module _ (c : ℕ → Copier) where
      value_at_lem : (v : FieldValue) (st : State) → Inv st → InValue E c v st → Threshold E st.charges (λ k. value (J k) (c k) v st)
      unfolding value copy_data ids_first
      value_at_lem v st inv h = threshold_bind (go v.«data» refl) (λ d s q. count_ret _ s q.inv)
        where
          go : (d : FieldData) → v.«data» ≡ d → Threshold E st.charges (λ k. copy_data (J k) (c k) d st)
          go (FieldData.Payload p) e = count_ret _ st inv
          go (FieldData.Nodes ids) e = threshold_bind (map_m_at ids st inv (λ front j behind q os s y. paid_at _ s (h front j (record { behind = behind; place = e ∙ ap FieldData.Nodes q }) os s y))) (λ os s q. count_ret _ s q.inv)

      field_at : (env : Env) (new : ℕ) (f : Field) (st : State) → Inv st → ((v : FieldValue) → f.binding ≡ FieldBinding.Value v → InValue E c v st) → Threshold E st.charges (λ k. copy_field (J k) (c k) env new f st)
      unfolding copy_field copy_binding
      field_at env new f st inv h = go f.binding refl
        where
          go : (b : FieldBinding) → f.binding ≡ b → Threshold E st.charges (λ k. copy_binding (J k) (c k) env new f b st)
          go (FieldBinding.Value v) e = threshold_bind (paid_at _ st (value_at_lem v st inv (h v e))) (λ v' s q. count_ret _ s q.inv)
          go (FieldBinding.Is target) e = count_bind (count_associate env _) (λ u. count_is_field f (is_value env target)) st inv

      interface_at : (env : Env) (new : ℕ) (d : InterfaceDecl) (st : State) → Inv st → ((v : FieldValue) → d.is ≡ none → d.value ≡ some v → InValue E c v st) → Threshold E st.charges (λ k. copy_interface (J k) (c k) env new d st)
      unfolding copy_interface copy_target
      interface_at env new d st inv h = paid_at _ st (go d.is d.value refl refl)
        where
          go : (target : Option ℕ) (v : Option FieldValue) → d.is ≡ target → d.value ≡ v → Threshold E st.charges (λ k. copy_target (J k) (c k) env new d target v st)
          go (some target) v e q = count_bind (count_associate env _) (λ u. count_is_interface d target (is_value env target)) st inv
          go none none e q = count_ret _ st inv
          go none (some v) e q = threshold_bind (value_at_lem v st inv (h v e q)) (λ v' s y. count_ret _ s y.inv)

    -- ---- the parts of an instance

    default_at : (f : ℕ → Env → Copier) (e : Scope) (v : Option FieldValue) (st : State) → Inv st → ((w : FieldValue) → v ≡ some w → (n : ℕ) (s : State) → Got st.charges (λ k. open_scope (J k) e st) n s → InValue E (λ k. f k (record { scope = n; entry = e; is_values = none })) w s) → Threshold E st.charges (λ k. take_default (J k) (f k) e v st)
    unfolding take_default
    default_at f e none st inv h = count_ret none st inv
    default_at f e (some v) st inv h = threshold_bind (count_open_scope e st inv) (λ n s g. threshold_bind (value_at_lem (λ k. f k (record { scope = n; entry = e; is_values = none })) v s g.inv (h v refl n s g)) (λ v' t q. count_ret _ t q.inv))

    interface_value_at : (f : ℕ → Env → Copier) (env : Env) (e : Scope) (default : Option FieldValue) (given : Option FieldBinding) (st : State) → Inv st → ((v : FieldValue) → given ≡ some (FieldBinding.Value v) → InValue E (λ k. f k env) v st)
        → (NoneGiven env given → (w : FieldValue) → default ≡ some w → (n : ℕ) (s : State) → Got st.charges (λ k. open_scope (J k) e st) n s → InValue E (λ k. f k (record { scope = n; entry = e; is_values = none })) w s) → Threshold E st.charges (λ k. interface_value (J k) (f k) env e default given st)
    unfolding interface_value clone_or
    interface_value_at f env e default (some (FieldBinding.Value v)) st inv h g = threshold_bind (value_at_lem (λ k. f k env) v st inv (h v refl)) (λ v' s q. count_ret _ s q.inv)
    interface_value_at f env e default (some (FieldBinding.Is target)) st inv h g = go (and_then env.is_values (value_named target)) refl
      where
        go : (o : Option FieldValue) → and_then env.is_values (value_named target) ≡ o → Threshold E st.charges (λ k. clone_or (J k) (take_default (J k) (f k) e default) o st)
        go none q = default_at f e default st inv (g q)
        go (some v) q = count_bind (count_clone v) (λ v'. count_ret _) st inv
    interface_value_at f env e default none st inv h g = default_at f e default st inv (g tt)

    -- j: the index of the first interface
    values_at_lem : (f : ℕ → Env → Copier) (env : Env) (p : Prototype) (fields : List Field) (j : ℕ) (l : List InterfaceDecl) (vs : Values) (st : State) → Inv st
        → ((front : List InterfaceDecl) (a : InterfaceDecl) (behind : List InterfaceDecl) → l ≡ front ++ (a ∷ behind) → (n : ℕ) → length front + j ≡ n → (ws : Values) (s : State) → Got st.charges (λ k. values (J k) (f k) env p fields j front vs st) ws s
        → Threshold E s.charges (λ k. interface_value (J k) (f k) env (Scope.Default p n env.scope) a.value (last_field a.name fields) s)) → Threshold E st.charges (λ k. values (J k) (f k) env p fields j l vs st)
    unfolding values
    values_at_lem f env p fields j [] vs st inv h = count_ret vs st inv
    values_at_lem f env p fields j (a ∷ l) vs st inv h = threshold_bind (h [] a l refl j (omega arith) vs st (record { inv = inv; more = le_refl _; made = λ k q. refl }))
        (λ v s y. threshold_bind (count_store a.name vs v s y.inv) (λ vs' s2 z. values_at_lem f env p fields (suc j) l vs' s2 z.inv
        (λ front b behind e n q ws t g. h (a ∷ front) b behind (ap (λ (r : List InterfaceDecl). a ∷ r) e) n (omega (arith, q)) ws t (record { inv = g.inv; more = omega (arith, y.more, z.more, g.more); made = λ k q. step _ (y.made k (omega (arith, z.more, g.more))) (step _ (z.made k (le_trans g.more q)) (g.made k q)) }))))

    body_statement_at : (f : ℕ → Env → Copier) (env : Env) (i : ℕ) (inner : Env) (b : Body) (y : Statement) (st : State) → Inv st → ((j : ℕ) → y ≡ Statement.Node j → Threshold E st.charges (λ k. f k inner j st))
        → ((x : ℕ) → y ≡ Statement.ExternProto x → extern_proto_at (docs I) (src inner) x ≡ none → E st 4 (src inner) x) → Threshold E st.charges (λ k. body_statement (J k) (f k) env i inner b y st)
    unfolding body_statement
    body_statement_at f env i inner b (Statement.Node j) st inv h g = threshold_bind (h j refl) (λ o s q. count_place env i o b b.root s q.inv)
    body_statement_at f env i inner b (Statement.Proto p) st inv h g = count_ret b st inv
    body_statement_at f env i inner b (Statement.ExternProto x) st inv h g = threshold_bind (extern_at inner x st inv (g x refl)) (λ n s q. count_ret b s q.inv)
    body_statement_at f env i inner b (Statement.Route r) st inv h g = count_paid (count_ret _) st inv
    body_statement_at f env i inner b (Statement.Other p) st inv h g = count_ret b st inv

    root_at_lem : (p : Prototype) (o : Option ℕ) (st : State) → Inv st → (o ≡ none → E st 7 p.document p.proto) → Threshold E st.charges (λ k. root_of p o st)
    unfolding root_of
    root_at_lem p none st inv h = count_fail 7 p.document p.proto (λ q. omega arith) st (h refl)
    root_at_lem p (some o) st inv h = count_ret o st inv

  -- ---- a copy

  -- The PROTO of a node is no matter of the limits.
  proto_same : (k d : ℕ) (o : NodeOrigin) → proto_of_origin (J k) d o ≡ proto_of_origin I d o
  proto_same k d o = refl

  -- the way to a refusal, with room for the charges made until then
  abbrev Way : ℕ → Env → ℕ → State → Telling
  Way left env i st = λ t c d x. (k : ℕ) → t.charges ≤ k → Open (J k) left env i st t c d x

  -- a copier of each scope tells its way
  abbrev Ways : ℕ → Type 0
  Ways left = (env : Env) (i : ℕ) (st : State) → Inv st → Threshold (Way left env i st) st.charges (λ k. copy (J k) left env i st)

  module _ (left : ℕ) (hf : Ways left) (env : Env) (i : ℕ) (st : State) (inv : Inv st) (un : lookup st.world.map env.scope i ≡ none) (node : Node) (there : node_at (docs I) (src env) i ≡ some node) where
    abbrev E : Telling
    E = Way (suc left) env i st

    -- what it is of, whatever the limit
    is : (p : Option Prototype) → proto_of_origin I (src env) node.origin ≡ p → (k : ℕ) → Copied (J k) env i st node p
    is p q k = record { unmapped = un; there = there; kind = q }

    abbrev c : ℕ → Copier
    c k = copy (J k) left env

    -- ---- a plain node

    module _ (ep : proto_of_origin I (src env) node.origin ≡ none) where
      reserve_at : Threshold E st.charges (λ k. reserve (J k) env i st)
      unfolding reserve reserve_if
      reserve_at = go (ltb (length st.nodes) I.limits.max_nodes) (lt→ltb (length st.nodes) I.limits.max_nodes)
        where
          go : (b : Bool) → (length st.nodes < I.limits.max_nodes → T b) → Threshold E st.charges (λ k. reserve_if b (J k) env i st)
          go false q = count_fail 8 0 0 (λ z. omega arith) st (λ k l. eight (is none ep k) (omega (arith, q)))
          go true q = count_bind count_charge (λ u. count_bind count_charge (λ v s h. free s.charges (length s.nodes) _ refl h)) st inv

      plain_at : Threshold E st.charges (λ k. copy_plain (J k) (c k) env i node st)
      unfolding copy_plain contents plain_first map_m ids_first bind_r
      plain_at = threshold_bind reserve_at (λ new s1 g1. threshold_bind
          (threshold_bind (origin_at env node.origin s1 g1.inv (λ x q e k l. four_origin (is none ep k) (g1.made k l) q e))
          (λ og s2 g2. threshold_bind (map_m_at node.fields s2 g2.inv
          (λ front f behind q fs s3 g3. field_at c env new f s3 g3.inv (λ v b ids j y os s g4. told (λ t n d x l w k h. in_plain {fs = front} {is = []} {ids = ids} (is none ep k) (in_field f behind q b y)
          (step _ (g1.made k (omega (arith, g2.more, g3.more, g4.more))) (step _ (g2.made k (omega (arith, g3.more, g4.more))) (step _ (g3.made k (omega (arith, g4.more))) (step _ (g4.made k (le_trans l h)) refl)))) (w k h)) (hf env j s g4.inv))))
          (λ fs s3 g3. threshold_bind (map_m_at node.interface s3 g3.inv
          (λ front a behind q ds s4 g4. interface_at c env new a s4 g4.inv (λ v b b2 ids j y os s g5. told (λ t n d x l w k h. in_plain {fs = node.fields} {is = front} {ids = ids} (is none ep k) (in_interface a behind q b b2 y)
          (step _ (g1.made k (omega (arith, g2.more, g3.more, g4.more, g5.more))) (step _ (g2.made k (omega (arith, g3.more, g4.more, g5.more))) (step _ (g3.made k (omega (arith, g4.more, g5.more))) (step _ (g4.made k (omega (arith, g5.more))) (step _ (g5.made k (le_trans l h)) refl))))) (w k h)) (hf env j s g5.inv))))
          (λ ds s4 g4. threshold_bind (map_m_at node.statements s4 g4.inv
          (λ front y behind q ss s5 g5. statement_at_lem env y s5 g5.inv (λ x a e k l. four_statement front behind (is none ep k) (q ∙ ap (λ (z : Statement). front ++ (z ∷ behind)) a)
          (step _ (g1.made k (omega (arith, g2.more, g3.more, g4.more, g5.more))) (step _ (g2.made k (omega (arith, g3.more, g4.more, g5.more))) (step _ (g3.made k (omega (arith, g4.more, g5.more))) (step _ (g4.made k (omega (arith, g5.more))) (step _ (g5.made k l) refl))))) e)))
          (λ ss s5 g5. count_bind (count_each (kept_order fs ss node.body_order)) (λ u. count_ret _) s5 g5.inv)))))
          (λ x s g. free s.charges new _ refl g.inv))

    -- ---- an instance

    module _ (p : Prototype) (ep : proto_of_origin I (src env) node.origin ≡ some p) where
      instance_at_lem : Threshold E st.charges (λ k. instantiate (J k) (copy (J k) left) env i node p (proto_at (docs I) p.document p.proto) st)
      unfolding instantiate given_first default_first body_first bind_r
      instance_at_lem = go (proto_at (docs I) p.document p.proto) refl
        where
          f : ℕ → Env → Copier
          f k = copy (J k) left

          go : (decl : Option ProtoDecl) → proto_at (docs I) p.document p.proto ≡ decl → Threshold E st.charges (λ k. instantiate (J k) (copy (J k) left) env i node p decl st)
          go none ed = count_fail 6 p.document p.proto (λ z. omega arith) st (λ k l. six (is (some p) ep k) ed)
          go (some decl) ed = threshold_bind (values_at_lem f env p node.fields 0 decl.interface [] st inv in_values_lem)
              (λ vs s1 g1. threshold_bind (count_open_scope (Scope.Body p env.scope) s1 g1.inv) (λ m s2 g2. threshold_bind (fold_m_at _ decl.body s2 g2.inv
              (λ front y behind q b s3 g3. body_statement_at f env i (body_env env p m vs) b y s3 g3.inv
              (λ j a. told (λ t n d x l w k h. in_body front behind (is (some p) ep k) ed (q ∙ ap (λ (z : Statement). front ++ (z ∷ behind)) a) (step _ (g1.made k (omega (arith, g2.more, g3.more))) (step _ (g2.made k (omega (arith, g3.more))) (step _ (g3.made k (le_trans l h)) refl))) (w k h)) (hf (body_env env p m vs) j s3 g3.inv))
              (λ x a e k l. four_body front behind (is (some p) ep k) ed (q ∙ ap (λ (z : Statement). front ++ (z ∷ behind)) a) (step _ (g1.made k (omega (arith, g2.more, g3.more))) (step _ (g2.made k (omega (arith, g3.more))) (step _ (g3.made k l) refl))) e)))
              (λ b s3 g3. threshold_bind (root_at_lem p b.root s3 g3.inv (λ e k l. seven (is (some p) ep k) ed (step _ (g1.made k (omega (arith, g2.more, g3.more))) (step _ (g2.made k (omega (arith, g3.more))) (step _ (g3.made k l) refl))) e))
              (λ o s4 g4. count_bind count_charge (λ u. count_record decl.name node.def_name m b o) s4 g4.inv))))
            where
              in_values_lem : (front : List InterfaceDecl) (a : InterfaceDecl) (behind : List InterfaceDecl) → decl.interface ≡ front ++ (a ∷ behind) → (n : ℕ) → length front + 0 ≡ n → (ws : Values) (s : State) → Got st.charges (λ k. values (J k) (f k) env p node.fields 0 front [] st) ws s
                  → Threshold E s.charges (λ k. interface_value (J k) (f k) env (Scope.Default p n env.scope) a.value (last_field a.name node.fields) s)
              in_values_lem front a behind q n e ws s g = subst (λ (m : ℕ). Threshold E s.charges (λ k. interface_value (J k) (f k) env (Scope.Default p m env.scope) a.value (last_field a.name node.fields) s)) (omega (arith, e))
                  (interface_value_at f env (Scope.Default p (length front) env.scope) a.value (last_field a.name node.fields) s g.inv
                  (λ v b ids j y os s2 g2. told (λ t n d x l w k h. in_given front a behind (is (some p) ep k) ed q b y (step _ (g.made k (omega (arith, g2.more))) (step _ (g2.made k (le_trans l h)) refl)) (w k h)) (hf env j s2 g2.inv))
                  (λ ng v b m s1 g1 ids j y os s2 g2. told (λ t n d x l w k h. in_default front a behind (is (some p) ep k) ed q ng b y (step _ (g.made k (omega (arith, g1.more, g2.more))) (step _ (g1.made k (omega (arith, g2.more))) (step _ (g2.made k (le_trans l h)) refl))) (w k h)) (hf (default_env env p (length front) m) j s2 g2.inv)))

    node_at_lem : Threshold E st.charges (λ k. copy_node (J k) (copy (J k) left) env i node (proto_of_origin (J k) (src env) node.origin) st)
    unfolding copy_node
    node_at_lem = retold (λ k. ap (λ (p : Option Prototype). copy_node (J k) (copy (J k) left) env i node p st) (proto_same k (src env) node.origin)) (go (proto_of_origin I (src env) node.origin) refl)
      where
        go : (p : Option Prototype) → proto_of_origin I (src env) node.origin ≡ p → Threshold E st.charges (λ k. copy_node (J k) (copy (J k) left) env i node p st)
        go none e = plain_at e
        go (some p) e = instance_at_lem p e

  -- ---- the copier

  module _ (left : ℕ) (env : Env) (i : ℕ) (st : State) (inv : Inv st) (next : ℕ → Node → Comp ℕ) where
    mapped_at : (lookup st.world.map env.scope i ≡ none → (node : Node) → node_at (docs I) (src env) i ≡ some node → Threshold (Way left env i st) st.charges (λ k. next k node st))
        → (o : Option ℕ) → lookup st.world.map env.scope i ≡ o → (node : Option Node) → node_at (docs I) (src env) i ≡ node → Threshold (Way left env i st) st.charges (λ k. mapped_or env i (next k) o node st)
    unfolding mapped_or
    mapped_at h (some o) e node q = count_ret o st inv
    mapped_at h none e none q = count_fail 5 (src env) i (λ z. omega arith) st (λ k l. five e q)
    mapped_at h none e (some node) q = h e node q

  ways : (left : ℕ) → Ways left
  unfolding copy
  ways zero env i st inv = mapped_at zero env i st inv (λ k node. fail 9 0 0) (λ e node q. count_fail 9 0 0 (λ z. omega arith) st (λ k l. nine e q)) (lookup st.world.map env.scope i) refl (node_at (docs I) (src env) i) refl
  ways (suc left) env i st inv = mapped_at (suc left) env i st inv (λ k node. copy_node (J k) (copy (J k) left) env i node (proto_of_origin (J k) (src env) node.origin)) (λ e node q. node_at_lem left (ways left) env i st inv e node q) (lookup st.world.map env.scope i) refl (node_at (docs I) (src env) i) refl

  -- ---- the top

  top_at : (y : Statement) (st : State) → Inv st → Threshold (λ t c d x. (k : ℕ) → t.charges ≤ k → OpenTop (J k) y st t c d x) st.charges (λ k. statement (J k) (copy (J k) I.limits.max_depth root_env) root_env y st)
  unfolding statement
  top_at (Statement.Node i) st inv = threshold_bind (paid_at _ st (told (λ t n d x l w k h. in_node (w k h)) (ways I.limits.max_depth root_env i st inv))) (λ o s q. count_ret _ s q.inv)
  top_at (Statement.Proto p) st inv = count_ret none st inv
  top_at (Statement.ExternProto x) st inv = copy_extern_at root_env x st inv (λ e k l. four_top e)
  top_at (Statement.Route r) st inv = count_route root_env r st inv
  top_at (Statement.Other p) st inv = count_paid (count_ret _) st inv

  abbrev Told : Telling
  Told = λ t c d x. (k : ℕ) → t.charges ≤ k → Until (J k) t.charges c d x

  -- The top statements in front are done, and the next is refused.
  until_at : (k : ℕ) (front : List Statement) (y : Statement) (behind : List Statement) → I.root.statements ≡ front ++ (y ∷ behind) → (kept : List Statement) (s t : State) → tops (J k) front start_state ≡ ok kept s → (c d x : ℕ) → OpenTop (J k) y s t c d x → Until (J k) t.charges c d x
  until_at k front y behind q kept s t e c d x w = record { tops = tops_done (J k) front y behind q kept s e; state = t; way = w; made = refl }

  statements_at_lem : Threshold Told 0 (λ k. statements (J k) start_state)
  unfolding statements tops bind_r
  statements_at_lem = threshold_bind (count_charge start_state (omega arith)) (λ u s1 g1. threshold_bind (count_charge s1 g1.inv) (λ v s2 g2. threshold_bind (count_open_scope Scope.Root s2 g2.inv) (λ n s3 g3. threshold_bind (map_m_at I.root.statements s3 g3.inv
      (λ front y behind q os s4 g4. told (λ t n d x l w k h. until_at k front y behind q (somes os) s4 t (step _ (g1.made k (omega (arith, g2.more, g3.more, g4.more))) (step _ (g2.made k (omega (arith, g3.more, g4.more))) (step _ (g3.made k (omega (arith, g4.more))) (step _ (g4.made k (le_trans l h)) refl)))) n d x (w k h)) (top_at y s4 g4.inv))) (λ l s g. count_ret (somes l) s g.inv))))

  -- ---- the answer

  -- What is made of a result is no matter of the limits.
  answer_same : (k : ℕ) (r : Result (List Statement)) → answer (J k) r ≡ answer I r
  unfolding answer
  answer_same k (refusal c d i) = refl
  answer_same k (ok l st) = refl

  -- The numbers and places of equal refusals are equal; an expansion is no refusal.
  same_number : (n a b c d i : ℕ) → Answer.Refused n a b ≡ Answer.Refused c d i → n ≡ c
  same_number n a b c d i q = cc

  same_first : (n a b c d i : ℕ) → Answer.Refused n a b ≡ Answer.Refused c d i → a ≡ d
  same_first n a b c d i q = cc

  same_second : (n a b c d i : ℕ) → Answer.Refused n a b ≡ Answer.Refused c d i → b ≡ i
  same_second n a b c d i q = cc

  same_expansion : (x e : Expansion) → Answer.Expanded x ≡ Answer.Expanded e → x ≡ e
  same_expansion x e q = cc

  apart : (x : Expansion) (c d i : ℕ) → Answer.Expanded x ≡ Answer.Refused c d i → ⊥
  apart x c d i q = let z : ◌≡◌ {A = ℕ} 0 1 = cc in omega arith

  until : {n : ℕ} {r : Result (List Statement)} → Ends Told n r → (k : ℕ) → n ≤ k → (c d i : ℕ) → answer I r ≡ Answer.Refused c d i → Until (J k) n c d i
  unfolding answer
  until (by_other {n = m} {d = e} {i = j} {s = s} h y) k l c d i q =
      subst (λ (z : ℕ). Until (J k) s.charges z d i) (same_number m e j c d i q)
      (subst (λ (z : ℕ). Until (J k) s.charges m z i) (same_first m e j c d i q)
      (subst (λ (z : ℕ). Until (J k) s.charges m e z) (same_second m e j c d i q) (y k l)))
  until (done {a} {s} h) k l c d i q = absurd (apart (expansion I a s) c d i q)

  other : {n : ℕ} {r : Result (List Statement)} → Ends Told n r → (d i : ℕ) → answer I r ≡ Answer.Refused 10 d i → ⊥
  unfolding answer
  other (by_other {n = n} h y) d i q = h (same_number n _ _ 10 d i q)
  other (done {a} {s} h) d i q = apart (expansion I a s) 10 d i q

  exact : {n : ℕ} {r : Result (List Statement)} → Ends Told n r → (e : Expansion) → answer I r ≡ Answer.Expanded e → e.charges ≡ n
  unfolding answer
  exact (by_other {n = m} {d = a} {i = b} h y) e q = absurd (apart e m a b (sym q))
  exact (done {a} {s} h) e q = ap (λ (y : Expansion). y.charges) (sym (same_expansion (expansion I a s) e q))

  counts : (k : ℕ) (r : Result (List Statement)) → statements (J k) start_state ≡ r → (e : Expansion) → answer I r ≡ Answer.Expanded e → (w : World Known) (x : WholeRun (graph (J k)) w) → e.charges ≡ counted (J k) e x
  unfolding answer
  counts k (refusal c d i) h e q w x = absurd (apart e c d i (sym q))
  counts k (ok a s) h e q w x = subst (λ (y : Expansion). y.charges ≡ counted (J k) y x) (same_expansion (expansion I a s) e q) (at_ok (charges_counted (J k) w x) h)

  -- What is known of the top statements is known of the answer.
  answered : Threshold Told 0 (λ k. statements (J k) start_state) → (need : ℕ) × Needs I need
  unfolding expand answer
  answered t = (
    t.need,
    record {
      end = answer I t.end;
      other = other t.ends;
      enough = λ k l. ap (answer (J k)) (t.enough k l) ∙ answer_same k t.end;
      short = λ k l. ap (answer (J k)) (t.short k (omega arith) l);
      exact = exact t.ends;
      stops = until t.ends;
      counts = λ k l e q w r. sym (exact t.ends e q) ∙ counts k t.end (t.enough k l) e q w r;
    },
  )

  -- Every input needs so many rows, and no more.
  pub rows_needed : (need : ℕ) × Needs I need
  rows_needed = answered statements_at_lem
