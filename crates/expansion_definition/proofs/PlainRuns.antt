-- A plain node: its copy is a run, or stops on the way.
use mathlib.Core.Path.{◌≡◌, refl, ap, sym, ◌∙◌}
use mathlib.Core.List.{List, [], ◌∷◌, map}
use mathlib.Core.Logic.{◌⊎◌, inl, inr}
use mathlib.Core.Option.{Option, none, some}
use mathlib.Core.Bool.{Bool, true, false}
use Prim.Native.Nat.{ℕ, suc, ◌<◌}
use native.Mathlib.Omega.{arith}
use lib.ListN.{length, length-append, length-set}
use lib.Dec.{T, ltb, ltb→lt, lt→ltb}
use Rattle.ast.specs.Ast.{NodeOrigin, Node}
use Rattle.ast.specs.Lookups.{node_at}
use Rattle.pick_definition.specs.Picks.{Prototype}
use Rattle.expansion_steps.specs.Steps.{copy_id, add_plain, Mapped, Task, one, all, Run}
use Rattle.expansion_steps.proofs.Depth.{Within, plain_within}
use Rattle.expansion_steps.specs.Places.{Comes, here, in_plain}
use Rattle.expansion_steps.specs.Steps
use Rattle.expansion_definition.specs.Input.{Input, docs, proto_of_origin}
use Rattle.expansion_definition.specs.State.{Bookkeeping, State}
use Rattle.expansion_definition.specs.Values.{Env, src, Copier}
use Rattle.expansion_definition.specs.PlainCopy.{blank_node, reserve_if, reserve, copy_plain}
use Rattle.expansion_definition.specs.Reached.{Known, plain_nexts, kind_by, node_kind, actions_by, actions_of, node_in_scope, graph}
use Rattle.expansion_definition.specs.Expanded.{PlainAt, Dangling, four_origin, four_statement, eight}
use Rattle.expansion_definition.proofs.Outcome.{Outcome, refused, accepted, bind_out, then_out}
use Rattle.expansion_definition.proofs.Names.{Shows, known}
use Rattle.expansion_definition.proofs.Worlds.{Unseen, see, Fine, Same, same_then, Short, rows, extern, charge_keep, OriginFine, AllFine}
use Rattle.expansion_definition.proofs.Running.{Fits, fits_from, ExternOf, Fair, Ran, Stop, fault, overcharged, deeper, Runs, contents_run}

module _ (I : Input) where
  -- ---- plain nodes

  -- a node is reserved: mapped and listed, and no scope is opened
  pub record Reserved (n i : ℕ) (g : Unseen) (st st' : State) : Type 0 where
    pub seen : see g st'.world ≡ add_plain n i (see g st.world)
    pub fits : Fits I g st'
    pub below : length st.world.ledger < I.limits.max_nodes

  -- A reserved node is mapped and listed; it is refused where N nodes are listed, or by a charge.
  pub reserve_world : {R : ℕ → ℕ → ℕ → Type 0} (env : Env) (i : ℕ) (g : Unseen) (st : State) → Fits I g st → (length st.world.ledger ≡ I.limits.max_nodes → R 8 0 0) → ((c f x : ℕ) → Short I 0 (λ x. ⊥) c f x → R c f x) → Outcome R (λ o st'. Reserved env.scope i g st st') (reserve I env i st)
  unfolding reserve reserve_if
  reserve_world {R} env i g st ft full short = go (ltb (length st.nodes) I.limits.max_nodes) (ltb→lt (length st.nodes) I.limits.max_nodes) (lt→ltb (length st.nodes) I.limits.max_nodes)
    where
      go : (b : Bool) → (T b → length st.nodes < I.limits.max_nodes) → (length st.nodes < I.limits.max_nodes → T b) → Outcome R (λ o st'. Reserved env.scope i g st st') (reserve_if b I env i st)
      go false to back = let least : (length st.nodes < I.limits.max_nodes) → ⊥ = back in refused (full (omega (arith, ft.listed, ft.room)))
      go true to back =
          then_out (charge_keep I st) short (λ u s1 e1. then_out (charge_keep I s1) short (λ u2 s2 e2. let e : Same I st s2 = same_then I e1 e2 in accepted (record {
            seen = ap (λ (x : Bookkeeping). add_plain env.scope i (see g x)) e.world;
            fits = record {
              entries = ft.entries ∙ ap (λ (x : Bookkeeping). x.scopes) (sym e.world);
              listed = omega (arith, length-append s2.nodes (blank_node ∷ []), length-append s2.world.ledger ((env.scope, i) ∷ []), (fits_from I g e ft).listed);
              room = omega (arith, length-append s2.nodes (blank_node ∷ []), e.size, to tt);
              valid = e.valid ft.valid;
            };
            below = omega (arith, to tt, ft.listed);
          })))

  -- a copier runs the copy of every id, in every scope
  abbrev pub Copying : ℕ → (Env → Copier) → Type 1
  Copying left f = (d : ℕ) (X : ℕ → Type 0) (env : Env) (names : List ℕ) → Shows env names → (i : ℕ) → Runs I left d X (one env.scope (known env names) i) (f env i)

  -- what the documents say of the node: it is there, and p is its PROTO, if it is an instance
  pub record Node' (env : Env) (i : ℕ) (node : Node) (p : Option Prototype) : Type 0 where
    pub there : node_in_scope I env.entry i ≡ some node
    pub proto : proto_of_origin I (src env) node.origin ≡ p

  module _ (env : Env) (names : List ℕ) (i : ℕ) (node : Node) (p : Option Prototype) (h : Node' env i node p) where
    -- Plain or an instance, as its PROTO says.
    pub kind_is : (graph I).kind (known env names) i ≡ kind_by I names node p
    kind_is = ap (node_kind I (known env names)) h.there ∙ ap (kind_by I names node) h.proto

    -- What its copy asks for, as its PROTO says.
    pub actions_are : (graph I).actions (known env names) i ≡ actions_by I names node p
    actions_are = ap (actions_of I (known env names)) h.there ∙ ap (actions_by I names node) h.proto

  -- an ExternProto statement of a plain node is dangling: its origin's extern is there, and its contents are copied
  record AtStatement (env : Env) (names : List ℕ) (node : Node) (w : Steps.World Known) (x : ℕ) : Type 0 where
    origin : OriginFine I (src env) node.origin
    after : Steps.World Known
    run : Run (graph I) (all env.scope (known env names) (map copy_id (plain_nexts node))) w after
    statement' : Dangling I (src env) node.statements x

  -- A plain node.
  pub copy_plain_run : (left : ℕ) (f : Env → Copier) → Copying left f → (d : ℕ) (X : ℕ → Type 0) (env : Env) (names : List ℕ) → Shows env names → (i : ℕ) (node : Node) → Node' env i node none → (g : Unseen) (st : State) → Fits I g st → (Mapped (see g st.world) env.scope i → ⊥)
      → Outcome (Stop I (suc left) d X (one env.scope (known env names) i) (see g st.world)) (λ o st'. Ran I (suc left) (one env.scope (known env names) i) g st st') (copy_plain I (f env) env i node st)
  unfolding copy_plain
  copy_plain_run left f hf d X env names hn i node h g st ft un =
      bind_out (reserve_world env i g st ft (λ q. fault here un (omega arith) (eight node at q)) short)
      (λ new s1 e1. then_out (contents_run I env.scope (known env names) (f env) (hf (src env) (Lost s1) env names hn) env refl new node g s1 e1.fits (λ x q. inl q) (λ fo v r x q. inr (record { origin = fo; after = v; run = r; statement' = q })))
      (deeper I (λ k m s j v y. in_plain un (kind_is env names i node none h) (inner (λ t w. Comes (graph I) t w k m s j v) s1 e1.seen y)) (mine s1 e1.seen e1.below))
      (λ x s2 y. let r : Ran I left (all env.scope (known env names) (map copy_id (plain_nexts node))) g s1 s2 = y.0 in accepted (record {
        after = r.after;
        fits = record { entries = r.fits.entries; listed = length-set s2.nodes new x ∙ r.fits.listed; room = rw length-set r.fits.room; valid = r.fits.valid };
        run = plain_within un (kind_is env names i node none h) (fair y.1.0 y.1.1) (inner (λ t w. Within (graph I) (Fair I) left t w (see r.after s2.world)) s1 e1.seen r.run);
      })))
    where
      at : PlainAt I (known env names) i node
      at = record { there = h.there; plain = h.proto }

      -- a dangling extern id of the node: its origin's, or a statement's, once its contents are copied
      Lost : State → ℕ → Type 0
      Lost s1 x = (node.origin ≡ NodeOrigin.ExternProto x) ⊎ AtStatement env names node (see g s1.world) x

      fair : OriginFine I (src env) node.origin → AllFine I (src env) node.statements → Fair I (known env names) i
      fair fo fs = record {
        of_plain = λ node' a x. either node' (same_node node' a.there) x;
        of_instance = λ p a. absurd (other a.node (same_node a.node a.there) p a.instance);
      }
        where
          same_node : (node' : Node) → node_at (docs I) (src env) i ≡ some node' → node ≡ node'
          same_node node' e = one_node_lem h.there e
            where
              one_node_lem : {o : Option Node} {a b : Node} → o ≡ some a → o ≡ some b → a ≡ b
              one_node_lem p q = cc

          either : (node' : Node) → node ≡ node' → (x : ℕ) → ExternOf I node' x → Fine I (src env) x
          either node' e x (inl q) = fo x (ap (λ (y : Node). y.origin) e ∙ q)
          either node' e x (inr q) = fs x (rw e q)

          other : (node' : Node) → node ≡ node' → (p : Prototype) → proto_of_origin I (src env) node'.origin ≡ some p → ⊥
          other node' e p q = clash h.proto (ap (λ (y : Node). proto_of_origin I (src env) y.origin) e ∙ q)
            where
              clash : {o : Option Prototype} → o ≡ none → o ≡ some p → ⊥
              clash a b = let z : ◌≡◌ {A = ℕ} 0 1 = cc in omega arith

      inner : (P : Task Known → Steps.World Known → Type 0) (s1 : State) → see g s1.world ≡ add_plain env.scope i (see g st.world) → P (all env.scope (known env names) (map copy_id (plain_nexts node))) (see g s1.world)
          → P (all env.scope (known env names) ((graph I).actions (known env names) i)) (add_plain env.scope i (see g st.world))
      inner P s1 e1 r = rw (actions_are env names i node none h, ← e1) r

      short : (c f x : ℕ) → Short I 0 (λ x. ⊥) c f x → Stop I (suc left) d X (one env.scope (known env names) i) (see g st.world) c f x
      short c f x rows = overcharged here un (omega arith) node h.there
      short c f x (extern y none_is e) = absurd none_is

      mine : (s1 : State) → see g s1.world ≡ add_plain env.scope i (see g st.world) → length st.world.ledger < I.limits.max_nodes → (c f x : ℕ) → Short I (src env) (Lost s1) c f x → Stop I (suc left) d X (one env.scope (known env names) i) (see g st.world) c f x
      mine s1 e1 l c f x rows = overcharged here un (omega arith) node h.there
      mine s1 e1 l c f x (extern y (inl q) e) = fault here un (omega arith) (four_origin node at l y q e)
      mine s1 e1 l c f x (extern y (inr q) e) = fault here un (omega arith) (four_statement node at l q.origin q.after (inner (λ t w. Run (graph I) t w q.after) s1 e1 q.run) y q.statement')
