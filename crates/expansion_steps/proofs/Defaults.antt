-- The default scopes of a whole run: those that the nodes reached ask for, no other, and how many they are.
use mathlib.Core.Path.{◌≡◌, refl, ap, sym, ◌∙◌, subst}
use mathlib.Core.Logic.{◌⊎◌, inl, inr, ⊎_elim, ◌↔◌}
use mathlib.Core.List.Memᴰ
use mathlib.Core.List.{List, [], ◌∷◌, ◌++◌, map, append_assoc, append-nil, Memᴰ}
use mathlib.Core.Bool.{true, false, not}
use Prim.Native.Nat.{ℕ, ◌+◌, ◌<◌}
use native.Mathlib.Omega.{arith}
use lib.ListN.{length, length-append, get_or-append}
use Rattle.expansion_steps.specs.Lists.{one_if}
use Rattle.expansion_steps.proofs.ListLaws.{count_append, spread, spread_size, spread_length, spread_in, spread_out, spread_nodup}
use Rattle.expansion_steps.specs.Steps.{Action, copy_id, open_default, copies, defaults, Graph, Plain, Instance, start, step, ReachedIn, World, add_mapped, add_plain, add_default, add_body, first_world, Mapped, count, Task, one, all, Run, mapped_step, plain_step, instance_step, no_action, then_copy, then_default, WholeRun, opened}
use Rattle.expansion_steps.proofs.Laws.{copy_no_default, same_default, copies_map, defaults_map, opened_all}
use Rattle.expansion_steps.specs.Sums.{Count, entry, Sum, default_scopes, NoLoop, DefaultOf}
use Rattle.expansion_steps.proofs.Gain.{apart, entry_at, OpenAs, open_new, number_of, entry_of}
use Rattle.expansion_steps.proofs.Exact.{reached_mapped, openers, openers_once, sums}

-- Copies ask for no default.
no_default : {S A : Type 0} (b : ℕ → S) (l : List ℕ) → Memᴰ (open_default b) (map copy_id l) → A
no_default b l m = let x = Memᴰ.of_map copy_id l m in copy_no_default x.0 b x.2

module _ (G : Graph) (agrees : (e : G.Scope) (j : ℕ) → copies (G.actions e j) ≡ G.nexts e j) (wf : World G.Scope) where
  abbrev World' : Type 0
  World' = World G.Scope

  -- the scopes of the last world begin with those of w
  record Before (w : World') : Type 0 where
    rest : List G.Scope
    is : wf.scopes ≡ w.scopes ++ rest

  -- What a run starts from comes before what it ends in.
  before : {t : Task G.Scope} {w w' : World'} → Run G t w w' → Before w' → Before w
  before {w = w} r h = record { rest = opened r ++ h.rest; is = h.is ∙ ap (λ l. l ++ h.rest) (opened_all r) ∙ append_assoc w.scopes (opened r) h.rest }

  still : {w : World'} {x : G.Scope} → Before w → Memᴰ x w.scopes → Memᴰ x wf.scopes
  still h m = rw h.is (Memᴰ.append_left h.rest m)

  open_last : {w : World'} {n : ℕ} {e : G.Scope} → Before w → OpenAs G w n e → OpenAs G wf n e
  open_last {w} {n} h t = record {
    lt = omega (arith, t.lt, ap length h.is, length-append w.scopes h.rest);
    is = ap (λ l. entry G l n) h.is ∙ get_or-append w.scopes h.rest G.root n t.lt ∙ t.is;
  }

  -- A scope is just opened.
  open_here : (w : World') (n id : ℕ) (e : G.Scope) → Before (add_body n id e w) → OpenAs G wf (count w) e
  open_here w n id e h = open_last h (open_new G w (add_body n id e w) e refl)

  open_default_lem : (w : World') (e : G.Scope) → Before (add_default e w) → OpenAs G wf (count w) e
  open_default_lem w e h = open_last h (open_new G w (add_default e w) e refl)

  -- ---- no other

  -- the task is of nodes reached: its ids are, and a node reached asks for each of its defaults
  record Asked (e : G.Scope) (l : List (Action G.Scope)) : Type 0 where
    ids : (i : ℕ) → Memᴰ i (copies l) → ReachedIn G e i
    defaults : (b : ℕ → G.Scope) → Memᴰ (open_default b) l → (j : ℕ) × ReachedIn G e j × Memᴰ (open_default b) (G.actions e j)

  abbrev Owned : Task G.Scope → Type 0
  Owned (one n e id) = ReachedIn G e id
  Owned (all n e l) = Asked e l

  -- A node that is reached asks for its actions.
  asks : (e : G.Scope) (j : ℕ) → ReachedIn G e j → Asked e (G.actions e j)
  asks e j r = record { ids = λ i m. step r (rw agrees at m); defaults = λ b m. (j, r, m) }

  -- The ids of a scope's starts are reached in it.
  starts_asked : (e : G.Scope) (l : List ℕ) → ((i : ℕ) → Memᴰ i l → Memᴰ i (G.starts e)) → Asked e (map copy_id l)
  starts_asked e l h = record { ids = λ i m. start (h i (rw copies_map at m)); defaults = λ b m. no_default b l m }

  -- each scope opened is a body's, or a default's that a node reached asks for
  abbrev Caused : G.Scope → Type 0
  Caused x = (G.is_body x ≡ true) ⊎ DefaultOf G wf x

  -- Before an instance's map entry.
  before_map : (n id : ℕ) (w : World') → Before (add_mapped n id w) → Before w
  before_map n id w h = record { rest = h.rest; is = h.is }

  -- Before its body's scope.
  before_body : (n id : ℕ) (e : G.Scope) (w : World') → Before (add_body n id e w) → Before w
  before_body n id e w h = record { rest = e ∷ h.rest; is = h.is ∙ append_assoc w.scopes (e ∷ []) h.rest }

  -- A default's scope is asked for, where the actions are.
  first_asked : {n : ℕ} {e : G.Scope} {l : List (Action G.Scope)} (b : ℕ → G.Scope) → OpenAs G wf n e → Asked e (open_default b ∷ l) → DefaultOf G wf (b n)
  first_asked {n} b t o = let a = o.defaults b (Memᴰ.head refl) in record { number = n; lt = t.lt; node = a.0; reached = rw t.is a.1; default = b; asked = rw t.is a.2; is = refl }

  opened_caused : {t : Task G.Scope} {w w' : World'} (r : Run G t w w') → Before w' → OpenAs G wf (number_of G t) (entry_of G t) → Owned t → (x : G.Scope) → Memᴰ x (opened r) → Caused x
  unfolding opened
  opened_caused (mapped_step m) h t o x q = absurd (Memᴰ.not-nil q)
  opened_caused (plain_step {n} {id} {e} un p r) h t o x q = opened_caused r h t (asks e id o) x q
  opened_caused (instance_step {n} {id} {e} {w} {w1} {w2} {w3} b r rs un i tb eb rv r2 r3) h t o x q =
      let h2 : Before w2 = before_map n id w2 (before r3 h) in
      let h_b : Before (add_body n id (b n) w1) = before r2 h2 in
      let t_b : OpenAs G wf (count w1) (b n) = open_here w1 n id (b n) h_b in
      ⊎_elim (λ m. opened_caused rv (before_body n id (b n) w1 h_b) t (asks e id o) x m)
      (λ m. ⊎_elim (λ k. inl (ap G.is_body k ∙ tb))
      (λ k. ⊎_elim (λ y. opened_caused r2 h2 t_b (start (rw eb (Memᴰ.head refl))) x y)
      (λ y. opened_caused r3 h t_b (starts_asked (b n) rs (λ c z. rw eb (Memᴰ.tail z))) x y)
      (Memᴰ.append_cases (opened r2) k))
      (Memᴰ.cases_cons m))
      (Memᴰ.append_cases (opened rv) {t = b n ∷ (opened r2 ++ opened r3)} q)
  opened_caused no_action h t o x q = absurd (Memᴰ.not-nil q)
  opened_caused (then_copy {n} {i} {e} {l} {w} {w1} a b) h t o x q =
      ⊎_elim (λ m. opened_caused a (before b h) t (o.ids i (Memᴰ.head refl)) x m)
      (λ m. opened_caused b h t (record { ids = λ k z. o.ids k (Memᴰ.tail z); defaults = λ c z. o.defaults c (Memᴰ.tail z) }) x m)
      (Memᴰ.append_cases (opened a) q)
  opened_caused (then_default {n} {e} {l} {w} {w1} b tb y z) h t o x q =
      ⊎_elim (λ m. ⊎_elim (λ k. inr (rw k (first_asked b t o)))
      (λ k. opened_caused y (before z h) (open_default_lem w (b n) (before y (before z h))) (starts_asked (b n) (G.starts (b n)) (λ i c. c)) x k)
      (Memᴰ.cases_cons m))
      (λ m. opened_caused z h t (record { ids = o.ids; defaults = λ c k. o.defaults c (Memᴰ.tail k) }) x m)
      (Memᴰ.append_cases (b n ∷ opened y) q)

  -- ---- each of them

  -- Actions open the defaults that they ask for.
  asked_opened : {n : ℕ} {e : G.Scope} {l : List (Action G.Scope)} {w w' : World'} → Run G (all n e l) w w' → Before w' → (b : ℕ → G.Scope) → Memᴰ (open_default b) l → Memᴰ (b n) wf.scopes
  asked_opened no_action h c m = absurd (Memᴰ.not-nil m)
  asked_opened (then_copy {n} {i} {e} {l} a b) h c m = ⊎_elim (λ q. copy_no_default i c (sym q)) (λ k. asked_opened b h c k) (Memᴰ.cases_cons m)
  asked_opened (then_default {n} {e} {l} {w} {w1} b tb y z) h c m =
      ⊎_elim (λ q. rw (same_default c b q) (still (before y (before z h)) (Memᴰ.append_right w.scopes (Memᴰ.head refl)))) (λ k. asked_opened z h c k) (Memᴰ.cases_cons m)

  -- the defaults that node j of scope s asks for are open
  abbrev Did : ℕ → ℕ → Type 0
  Did s j = (b : ℕ → G.Scope) → Memᴰ (open_default b) (G.actions (entry_at G wf s) j) → Memᴰ (b s) wf.scopes

  did : {n id : ℕ} {e : G.Scope} {w w' : World'} → OpenAs G wf n e → Run G (all n e (G.actions e id)) w w' → Before w' → Did n id
  did t r h b m = asked_opened r h b (rw t.is at m)

  -- The same of an equal pair.
  did_same : (s j n id : ℕ) → ◌≡◌ {A = ℕ × ℕ} (s, j) (n, id) → Did n id → Did s j
  did_same s j n id q d = subst (λ (y : ℕ × ℕ). Did y.0 y.1) (sym q) d

  -- What is mapped was mapped before, or its defaults are open.
  mapped_did : {t : Task G.Scope} {w w' : World'} → Run G t w w' → Before w' → OpenAs G wf (number_of G t) (entry_of G t) → (s j : ℕ) → Mapped w' s j → Mapped w s j ⊎ Did s j
  mapped_did (mapped_step m) h t s j q = inl q
  mapped_did (plain_step {n} {id} {e} {w} un p r) h t s j q =
      ⊎_elim (λ k. ⊎_elim (λ y. inr (did_same s j n id y (did t r h))) (λ y. inl y) (Memᴰ.cases_cons k)) (λ k. inr k) (mapped_did r h t s j q)
  mapped_did (instance_step {n} {id} {e} {w} {w1} {w2} {w3} b r rs un i tb eb rv r2 r3) h t s j q =
      let h2 : Before w2 = before_map n id w2 (before r3 h) in
      let h_b : Before (add_body n id (b n) w1) = before r2 h2 in
      let h1 : Before w1 = before_body n id (b n) w1 h_b in
      let t_b : OpenAs G wf (count w1) (b n) = open_here w1 n id (b n) h_b in
      ⊎_elim (λ k. ⊎_elim (λ y. inr (did_same s j n id y (did t rv h1))) (λ y. ⊎_elim (λ z. mapped_did rv h1 t s j z) (λ z. inr z) (mapped_did r2 h2 t_b s j y)) (Memᴰ.cases_cons k)) (λ k. inr k) (mapped_did r3 h t_b s j q)
  mapped_did no_action h t s j q = inl q
  mapped_did (then_copy {n} {i} {e} {l} {w} {w1} a b) h t s j q = ⊎_elim (λ k. mapped_did a (before b h) t s j k) (λ k. inr k) (mapped_did b h t s j q)
  mapped_did (then_default {n} {e} {l} {w} {w1} b tb y z) h t s j q = ⊎_elim (λ k. mapped_did y (before z h) (open_default_lem w (b n) (before y (before z h))) s j k) (λ k. inr k) (mapped_did z h t s j q)

  -- ---- how many

  scopes_append : (l k : List G.Scope) → default_scopes G (l ++ k) ≡ default_scopes G l + default_scopes G k
  scopes_append l k = count_append _ l k

  -- Q e j are the things of node j: as many as it asks for default scopes. An instance alone has some.
  module _ {A : Type 0} (Q : G.Scope → ℕ → A → Type 0) (counted : (e : G.Scope) (j : ℕ) → Count (Q e j) (length (defaults (G.actions e j)))) (only : (e : G.Scope) (j : ℕ) (a : A) → Q e j a → Instance G e j) where
    -- the things of node j of scope s
    abbrev things : ℕ → ℕ → List A
    things s j = (counted (entry_at G wf s) j).list

    -- A plain node asks for none.
    plain_asks : (e : G.Scope) (j : ℕ) → Plain G e j → length (defaults (G.actions e j)) ≡ 0
    plain_asks e j p = sym (counted e j).size ∙ at (counted e j).list (λ a m. only e j a (((counted e j).exact a).0 m))
      where
        at : (l : List A) → ((a : A) → Memᴰ a l → Instance G e j) → length l ≡ 0
        at [] h = refl
        at (a ∷ l) h = absurd (apart G {e = e} {j = j} p (h a (Memᴰ.head refl)))

    -- the default scopes that the task itself asks for
    abbrev own_defaults : Task G.Scope → ℕ
    own_defaults (one n e id) = 0
    own_defaults (all n e l) = length (defaults l)

    -- A run opens those that its task asks for, and those of each instance that opens a body in it.
    defaults_run : {t : Task G.Scope} {w w' : World'} (r : Run G t w w') → Before w' → OpenAs G wf (number_of G t) (entry_of G t) → default_scopes G (opened r) + spread_size things w.openers ≡ own_defaults t + spread_size things w'.openers
    unfolding opened
    defaults_run (mapped_step m) h t = refl
    defaults_run (plain_step {n} {id} {e} un p r) h t = omega (arith, defaults_run r h t, plain_asks e id p)
    defaults_run (instance_step {n} {id} {e} {w} {w1} {w2} {w3} b r rs un i tb eb rv r2 r3) h t =
        let h2 : Before w2 = before_map n id w2 (before r3 h) in
        let h_b : Before (add_body n id (b n) w1) = before r2 h2 in
        let t_b : OpenAs G wf (count w1) (b n) = open_here w1 n id (b n) h_b in
        let own : length (things n id) ≡ length (defaults (G.actions e id)) = (counted (entry_at G wf n) id).size ∙ ap (λ x. length (defaults (G.actions x id))) t.is in
        omega (arith, scopes_append (opened rv) (b n ∷ (opened r2 ++ opened r3)), scopes_append (opened r2) (opened r3), ap (λ t. one_if (not t)) tb, own, defaults_run rv (before_body n id (b n) w1 h_b) t, defaults_run r2 h2 t_b, defaults_run r3 h t_b, ap length (defaults_map G.Scope rs))
    defaults_run no_action h t = refl
    defaults_run (then_copy a b) h t = omega (arith, scopes_append (opened a) (opened b), defaults_run a (before b h) t, defaults_run b h t)
    defaults_run (then_default {n} {e} {l} {w} {w1} b tb y z) h t =
        omega (arith, scopes_append (b n ∷ opened y) (opened z), ap (λ t. one_if (not t)) tb, defaults_run y (before z h) (open_default_lem w (b n) (before y (before z h))), defaults_run z h t, ap length (defaults_map G.Scope (G.starts (b n))))

module _ (G : Graph) (agrees : (e : G.Scope) (j : ℕ) → copies (G.actions e j) ≡ G.nexts e j) (w : World G.Scope) (r : WholeRun G w) where
  last : Before G agrees w w
  last = record { rest = []; is = sym (append-nil w.scopes) }

  root_at : OpenAs G w 0 G.root
  root_at = open_last G agrees w (before G agrees w r last) (record { lt = omega arith; is = refl })

  -- A scope that is no body's is the root's, or a default's that a node reached asks for.
  pub default_asked : (x : G.Scope) → Memᴰ x w.scopes → G.is_body x ≡ false → (x ≡ G.root) ⊎ DefaultOf G w x
  default_asked x m nb = ⊎_elim (λ q. inl q) (λ k. ⊎_elim (λ b. absurd (let z : ◌≡◌ {A = ℕ} 0 1 = cc in omega arith)) (λ d. inr d) (opened_caused G agrees w r last root_at (starts_asked G agrees w G.root (G.starts G.root) (λ i k'. k')) x k)) (Memᴰ.cases_cons (rw (opened_all r) at m))

  -- Each default that a node reached asks for is open.
  pub asked_open : (s j : ℕ) → s < length w.scopes → G.is_body G.root ≡ false → ReachedIn G (entry G w.scopes s) j → (b : ℕ → G.Scope) → Memᴰ (open_default b) (G.actions (entry G w.scopes s) j) → Memᴰ (b s) w.scopes
  asked_open s j lt nb q b m = ⊎_elim (λ k. absurd (Memᴰ.not-nil k)) (λ d. d b m) (mapped_did G agrees w r last root_at s j (reached_mapped G agrees w nb r s lt q))

  -- Of the scopes opened, each is a body's, or a default's that a node reached asks for.
  pub opened_known : (x : G.Scope) → Memᴰ x (opened r) → (G.is_body x ≡ true) ⊎ DefaultOf G w x
  opened_known x k = opened_caused G agrees w r last root_at (starts_asked G agrees w G.root (G.starts G.root) (λ i m. m)) x k

  -- Only a loop doubles a default: where no instance reached reaches itself, the default scopes opened are the sum, over the scopes and the nodes reached in each, of the default scopes that the node asks for.
  -- These are counted by things with Q, of which an instance alone has some.
  pub default_sum : {A : Type 0} (Q : G.Scope → ℕ → A → Type 0) → ((e : G.Scope) (j : ℕ) → Count (Q e j) (length (defaults (G.actions e j)))) → ((e : G.Scope) (j : ℕ) (a : A) → Q e j a → Instance G e j)
      → G.is_body G.root ≡ false → NoLoop G w.scopes → Sum G (λ e (x : ℕ × A). ReachedIn G e x.0 × Q e x.0 x.1) w.scopes (default_scopes G (opened r))
  default_sum {A} Q counted only nb nl = rw size (sums G agrees w nb r (λ e (x : ℕ × A). ReachedIn G e x.0 × Q e x.0 x.1) (spread things w.openers) (spread_nodup things (λ s j. (counted (entry_at G w s) j).once) w.openers (openers_once G agrees w nb r nl)) ex)
    where
      things : ℕ → ℕ → List A
      things s j = (counted (entry_at G w s) j).list

      size : default_scopes G (opened r) ≡ length (spread things w.openers)
      size = omega (arith, defaults_run G agrees w Q counted only r last root_at, ap length (defaults_map G.Scope (G.starts G.root)), spread_length things w.openers)

      ex : (s : ℕ) (x : ℕ × A) → Memᴰ (s, x) (spread things w.openers) ↔ ((s < length w.scopes) × (ReachedIn G (entry G w.scopes s) x.0 × Q (entry G w.scopes s) x.0 x.1))
      ex s x = (
        λ m. let y = spread_out things w.openers (s, x) m in let z = (openers G agrees w nb r s x.0).0 y.0 in (z.0, (z.2, ((counted (entry_at G w s) x.0).exact x.1).0 y.1)),
        λ q. spread_in things w.openers s x.0 x.1 ((openers G agrees w nb r s x.0).1 (q.0, only _ _ _ q.1.1, q.1.0)) (((counted (entry_at G w s) x.0).exact x.1).1 q.1.1),
      )
