-- What a run does to a world, by induction on the run.
use mathlib.Core.Path.{◌≡◌, refl, ap, sym, ◌∙◌, subst}
use mathlib.Core.Logic.{◌⊎◌, inl, inr}
use mathlib.Core.List.Memᴰ
use mathlib.Core.List.{List, [], ◌∷◌, ◌++◌, Memᴰ}
use Prim.Native.Nat.{ℕ, suc, ◌+◌, ◌≤◌, ◌<◌}
use native.Mathlib.Nat.{le_refl, le_trans}
use native.Mathlib.Decide.{dec_lt}
use native.Mathlib.Omega.{arith}
use lib.ListN.{length, get_or, length-append, get_or-append}
use lib.Seq.{get_or-append_seam}
use Rattle.expansion_steps.specs.Steps.{instance_node, copies, Graph, Plain, Instance, Reached, start, step, ReachedIn, World, add_mapped, add_plain, add_default, add_body, Mapped, Listed, Opener, count, Task, one, all, Run, mapped_step, plain_step, instance_step, no_action, then_copy, then_default}
use Rattle.expansion_steps.proofs.Laws.{copies_map}
use Rattle.expansion_steps.specs.Sums.{entry}

-- What holds of x holds of every element of the list with x alone.
pub single : {A : Type 0} (P : A → Type 0) {x : A} → P x → (y : A) → Memᴰ y (x ∷ []) → P y
single P {x} p y m = at (Memᴰ.cases_cons m)
  where
    at : (y ≡ x) ⊎ Memᴰ y [] → P y
    at (inl e) = subst P (sym e) p
    at (inr h) = absurd (Memᴰ.not-nil h)

module _ (G : Graph) where
  abbrev World' : Type 0
  World' = World G.Scope

  -- ---- reached

  -- Where the starts are reached from others, so is all that they reach.
  pub reached_bind : {e : G.Scope} {ss ts : List ℕ} → ((i : ℕ) → Memᴰ i ss → Reached G e ts i) → {j : ℕ} → Reached G e ss j → Reached G e ts j
  reached_bind h (start m) = h _ m
  reached_bind h (step r m) = step (reached_bind h r) m

  -- No node is both plain and an instance.
  pub apart : {e : G.Scope} {j : ℕ} → Plain G e j → Instance G e j → ⊥
  apart {e} {j} p q = never q.0 q.1
    where
      never : (b : ℕ → G.Scope) → G.kind e j ≡ instance_node b → ⊥
      never b i = let z : ◌≡◌ {A = ℕ} 0 1 = cc in omega arith

  -- ---- the facts

  -- the entry of scope number s of a world
  abbrev pub entry_at : World' → ℕ → G.Scope
  entry_at w s = entry G w.scopes s

  -- the scope list grew, and no scope changed
  pub record Extends (w w' : World') : Type 0 where
    pub grow : count w ≤ count w'
    pub same : (s : ℕ) → s < count w → entry_at w' s ≡ entry_at w s

  -- scope number sc is open, and e is its entry
  pub record OpenAs (w : World') (sc : ℕ) (e : G.Scope) : Type 0 where
    pub lt : sc < count w
    pub is : entry_at w sc ≡ e

  -- a mapped node whose copying is over
  pub record Complete (w : World') (s j : ℕ) : Type 0 where
    pub lt : s < count w
    pub nexts : (k : ℕ) → Memᴰ k (G.nexts (entry_at w s) j) → Mapped w s k
    pub listed : Plain G (entry_at w s) j → Listed w s j
    pub opener : Instance G (entry_at w s) j → Opener w s j

  -- an instance that opened a body scope: it is mapped in the end
  pub record Opened (w : World') (s j : ℕ) : Type 0 where
    pub lt : s < count w
    pub mapped : Mapped w s j
    pub is_instance : Instance G (entry_at w s) j

  -- from w to w': what is new is in S, and is complete in w'
  pub record Gain (S : ℕ → ℕ → Type 0) (w w' : World') : Type 0 where
    pub ext : Extends w w'
    pub keep_mapped : (s j : ℕ) → Mapped w s j → Mapped w' s j
    pub keep_listed : (s j : ℕ) → Listed w s j → Listed w' s j
    pub keep_opener : (s j : ℕ) → Opener w s j → Opener w' s j
    pub new_mapped : (s j : ℕ) → Mapped w' s j → Mapped w s j ⊎ (S s j × Complete w' s j)
    pub new_opener : (s j : ℕ) → Opener w' s j → Opener w s j ⊎ (S s j × Opened w' s j)
    pub fresh : (s : ℕ) → count w ≤ s → s < count w' → (i : ℕ) → Memᴰ i (G.starts (entry_at w' s)) → Mapped w' s i

  -- in the call's own scope, what its ids reach; in a scope that it opened, what that scope reaches
  pub data Source (sc : ℕ) (e : G.Scope) (ids : List ℕ) (w w' : World') (s j : ℕ) : Type 0 where
    own_scope : s ≡ sc → Reached G e ids j → Source sc e ids w w' s j
    opened_scope : count w ≤ s → s < count w' → ReachedIn G (entry_at w' s) j → Source sc e ids w w' s j

  -- the ids are copied in scope sc: all are mapped, and what else is new is reached from them, or in a scope that was opened
  pub record Copied (sc : ℕ) (e : G.Scope) (ids : List ℕ) (w w' : World') : Type 0 where
    pub gain : Gain (Source sc e ids w w') w w'
    pub mapped : (i : ℕ) → Memᴰ i ids → Mapped w' sc i

  -- A world extends itself.
  pub extends_refl : (w : World') → Extends w w
  extends_refl w = record { grow = le_refl _; same = λ s h. refl }

  -- Extending twice extends.
  pub extends_trans : {u v w : World'} → Extends u v → Extends v w → Extends u w
  extends_trans a b = record { grow = le_trans a.grow b.grow; same = λ s h. b.same s (le_trans h a.grow) ∙ a.same s h }

  -- A world with a scope more extends it.
  pub extends_open : (w w' : World') (e : G.Scope) → w'.scopes ≡ w.scopes ++ (e ∷ []) → Extends w w'
  extends_open w w' e q = record { grow = omega (arith, ap length q, length-append w.scopes (e ∷ [])); same = λ s h. ap (λ (l : List G.Scope). get_or l s G.root) q ∙ get_or-append w.scopes (e ∷ []) G.root s h }

  -- An open scope stays open.
  pub open_up : {w w' : World'} {sc : ℕ} {e : G.Scope} → Extends w w' → OpenAs w sc e → OpenAs w' sc e
  open_up x a = record { lt = le_trans a.lt x.grow; is = x.same _ a.lt ∙ a.is }

  -- The scope just opened is open.
  pub open_new : (w w' : World') (e : G.Scope) → w'.scopes ≡ w.scopes ++ (e ∷ []) → OpenAs w' (count w) e
  open_new w w' e q = record { lt = omega (arith, ap length q, length-append w.scopes (e ∷ [])); is = ap (λ (l : List G.Scope). get_or l (count w) G.root) q ∙ get_or-append_seam w.scopes e [] G.root }

  -- An opened scope is one more.
  pub count_open : (w w' : World') (e : G.Scope) → w'.scopes ≡ w.scopes ++ (e ∷ []) → count w' ≡ suc (count w)
  count_open w w' e q = omega (arith, ap length q, length-append w.scopes (e ∷ []))

  -- What is complete stays complete.
  complete_up : {S : ℕ → ℕ → Type 0} {v w : World'} → Gain S v w → (s j : ℕ) → Complete v s j → Complete w s j
  complete_up g s j d =
      let q = g.ext.same s d.lt in
      record { lt = le_trans d.lt g.ext.grow; nexts = λ k m. g.keep_mapped s k (d.nexts k (rw q at m)); listed = λ p. g.keep_listed s j (d.listed (rw q at p)); opener = λ p. g.keep_opener s j (d.opener (rw q at p)) }

  -- An instance that opened a body stays mapped, and an instance.
  opened_up : {S : ℕ → ℕ → Type 0} {v w : World'} → Gain S v w → (s j : ℕ) → Opened v s j → Opened w s j
  opened_up g s j d = record { lt = le_trans d.lt g.ext.grow; mapped = g.keep_mapped s j d.mapped; is_instance = rw (g.ext.same s d.lt) d.is_instance }

  -- Doing nothing gains nothing.
  gain_refl : (S : ℕ → ℕ → Type 0) (w : World') → Gain S w w
  gain_refl S w = record { ext = extends_refl w; keep_mapped = λ s j h. h; keep_listed = λ s j h. h; keep_opener = λ s j h. h; new_mapped = λ s j h. inl h; new_opener = λ s j h. inl h; fresh = λ s a b. absurd (omega arith) }

  -- Two gains, one after the other.
  gain_trans : (S : ℕ → ℕ → Type 0) {u v w : World'} → Gain S u v → Gain S v w → Gain S u w
  gain_trans S {u} {v} {w} a b = record { ext = extends_trans a.ext b.ext; keep_mapped = λ s j h. b.keep_mapped s j (a.keep_mapped s j h); keep_listed = λ s j h. b.keep_listed s j (a.keep_listed s j h); keep_opener = λ s j h. b.keep_opener s j (a.keep_opener s j h); new_mapped = λ s j h. nm s j (b.new_mapped s j h); new_opener = λ s j h. no' s j (b.new_opener s j h); fresh = λ s x y. fr s x y (dec_lt s (count v)) }
    where
      nm : (s j : ℕ) → Mapped v s j ⊎ (S s j × Complete w s j) → Mapped u s j ⊎ (S s j × Complete w s j)
      nm s j (inr h) = inr h
      nm s j (inl h) = up (a.new_mapped s j h)
        where
          up : Mapped u s j ⊎ (S s j × Complete v s j) → Mapped u s j ⊎ (S s j × Complete w s j)
          up (inl x) = inl x
          up (inr x) = inr (x.0, complete_up b s j x.1)

      no' : (s j : ℕ) → Opener v s j ⊎ (S s j × Opened w s j) → Opener u s j ⊎ (S s j × Opened w s j)
      no' s j (inr h) = inr h
      no' s j (inl h) = up (a.new_opener s j h)
        where
          up : Opener u s j ⊎ (S s j × Opened v s j) → Opener u s j ⊎ (S s j × Opened w s j)
          up (inl x) = inl x
          up (inr x) = inr (x.0, opened_up b s j x.1)

      fr : (s : ℕ) → count u ≤ s → s < count w → Dec (s < count v) → (i : ℕ) → Memᴰ i (G.starts (entry_at w s)) → Mapped w s i
      fr s x y (yes h) i m = b.keep_mapped s i (a.fresh s x h i (rw (b.ext.same s h) at m))
      fr s x y (no h) i m = b.fresh s (omega arith) y i m

  -- A gain from S is one from whatever holds S.
  gain_weaken : {S R : ℕ → ℕ → Type 0} {v w : World'} → ((s j : ℕ) → S s j → R s j) → Gain S v w → Gain R v w
  gain_weaken {S} {R} {v} {w} f a = record { ext = a.ext; keep_mapped = a.keep_mapped; keep_listed = a.keep_listed; keep_opener = a.keep_opener; new_mapped = λ s j h. nm s j (a.new_mapped s j h); new_opener = λ s j h. no' s j (a.new_opener s j h); fresh = a.fresh }
    where
      nm : (s j : ℕ) → Mapped v s j ⊎ (S s j × Complete w s j) → Mapped v s j ⊎ (R s j × Complete w s j)
      nm s j (inl h) = inl h
      nm s j (inr h) = inr (f s j h.0, h.1)

      no' : (s j : ℕ) → Opener v s j ⊎ (S s j × Opened w s j) → Opener v s j ⊎ (R s j × Opened w s j)
      no' s j (inl h) = inl h
      no' s j (inr h) = inr (f s j h.0, h.1)

  -- An id is mapped, and complete in the end.
  gain_map : {S : ℕ → ℕ → Type 0} (w w' : World') (s₀ j₀ : ℕ) (l : List (ℕ × ℕ)) → ((x : ℕ × ℕ) → Memᴰ x w.ledger → Memᴰ x l)
      → Gain S (record { mapped = (s₀, j₀) ∷ w.mapped; ledger = l; openers = w.openers; scopes = w.scopes }) w' → S s₀ j₀ → Complete w' s₀ j₀ → Gain S w w'
  gain_map {S} w w' s₀ j₀ l sub g hs hd = record { ext = record { grow = g.ext.grow; same = g.ext.same }; keep_mapped = λ s j h. g.keep_mapped s j (Memᴰ.tail h); keep_listed = λ s j h. g.keep_listed s j (sub _ h); keep_opener = g.keep_opener; new_mapped = λ s j h. nm s j (g.new_mapped s j h); new_opener = g.new_opener; fresh = g.fresh }
    where
      nm : (s j : ℕ) → Memᴰ (s, j) ((s₀, j₀) ∷ w.mapped) ⊎ (S s j × Complete w' s j) → Mapped w s j ⊎ (S s j × Complete w' s j)
      nm s j (inr h) = inr h
      nm s j (inl h) = here (Memᴰ.cases_cons h)
        where
          here : (◌≡◌ {A = ℕ × ℕ} (s, j) (s₀, j₀)) ⊎ Mapped w s j → Mapped w s j ⊎ (S s j × Complete w' s j)
          here (inl e) = inr (subst (λ (x : ℕ × ℕ). S x.0 x.1 × Complete w' x.0 x.1) (sym e) (hs, hd))
          here (inr x) = inl x

  -- A scope is opened, and its starts are mapped in the end; so is the instance that opened it.
  gain_open : {S : ℕ → ℕ → Type 0} (w w' : World') (e : G.Scope) (q : List (ℕ × ℕ)) → ((x : ℕ × ℕ) → Memᴰ x w.openers → Memᴰ x q)
      → ((s j : ℕ) → Memᴰ (s, j) q → Opener w s j ⊎ (S s j × Opened w' s j))
      → Gain S (record { mapped = w.mapped; ledger = w.ledger; openers = q; scopes = w.scopes ++ (e ∷ []) }) w'
      → ((i : ℕ) → Memᴰ i (G.starts e) → Mapped w' (count w) i) → Gain S w w'
  gain_open {S} w w' e q sub inv g hs = record { ext = extends_trans (extends_open w v e refl) g.ext; keep_mapped = g.keep_mapped; keep_listed = g.keep_listed; keep_opener = λ s j h. g.keep_opener s j (sub _ h); new_mapped = g.new_mapped; new_opener = λ s j h. no' s j (g.new_opener s j h); fresh = λ s a b. fr s a b (dec_lt (count w) s) }
    where
      v : World'
      v = record { mapped = w.mapped; ledger = w.ledger; openers = q; scopes = w.scopes ++ (e ∷ []) }

      no' : (s j : ℕ) → Memᴰ (s, j) q ⊎ (S s j × Opened w' s j) → Opener w s j ⊎ (S s j × Opened w' s j)
      no' s j (inl h) = inv s j h
      no' s j (inr h) = inr h

      here : OpenAs w' (count w) e
      here = open_up g.ext (open_new w v e refl)

      fr : (s : ℕ) → count w ≤ s → s < count w' → Dec (count w < s) → (i : ℕ) → Memᴰ i (G.starts (entry_at w' s)) → Mapped w' s i
      fr s a b (yes h) i m = g.fresh s (omega (arith, count_open w v e refl)) b i m
      fr s a b (no h) i m = subst (λ (x : ℕ). Mapped w' x i) eq (hs i (rw here.is at (subst (λ (x : ℕ). Memᴰ i (G.starts (entry_at w' x))) (sym eq) m)))
        where
          eq : count w ≡ s
          eq = omega arith

  -- In the call's own scope: fewer ids, and a shorter stretch of the run.
  source_own : {sc : ℕ} {e : G.Scope} {ss ts : List ℕ} {v v' w w' : World'} → ((j : ℕ) → Reached G e ss j → Reached G e ts j) → count w ≤ count v → Extends v' w'
      → (s j : ℕ) → Source sc e ss v v' s j → Source sc e ts w w' s j
  source_own f a x s j (own_scope p r) = own_scope p (f j r)
  source_own f a x s j (opened_scope p q r) = opened_scope (le_trans a p) (le_trans q x.grow) (rw (x.same s q) r)

  -- What a call in a scope just opened gains, seen from the call that opened it.
  source_opened : {sc n : ℕ} {e b : G.Scope} {ss ts : List ℕ} {v v' w w' : World'} → count w ≤ n → OpenAs w' n b → ((i : ℕ) → Memᴰ i ss → Memᴰ i (G.starts b)) → count w ≤ count v → Extends v' w'
      → (s j : ℕ) → Source n b ss v v' s j → Source sc e ts w w' s j
  source_opened {b = b} {w' = w'} a t f c x s j (own_scope p r) = opened_scope (rw p a) (rw p t.lt) (rw (p, t.is) (reached_bind {e = b} (λ i m. start (f i m)) r))
  source_opened a t f c x s j (opened_scope p q r) = opened_scope (le_trans c p) (le_trans q x.grow) (rw (x.same s q) r)

  -- ---- the rules

  -- A mapped id is copied already.
  copied_mapped : (sc : ℕ) (e : G.Scope) (id : ℕ) (w : World') → Mapped w sc id → Copied sc e (id ∷ []) w w
  copied_mapped sc e id w m = record { gain = gain_refl _ w; mapped = single (λ i. Mapped w sc i) m }

  -- No id is copied by doing nothing.
  copied_none : (sc : ℕ) (e : G.Scope) (w : World') → Copied sc e [] w w
  copied_none sc e w = record { gain = gain_refl _ w; mapped = λ i h. absurd (Memᴰ.not-nil h) }

  -- One id, then others.
  copied_then : {sc i : ℕ} {e : G.Scope} {ts : List ℕ} {u v w : World'} → Copied sc e (i ∷ []) u v → Copied sc e ts v w → Copied sc e (i ∷ ts) u w
  copied_then {sc} {i} {e} {ts} {u} {v} {w} a b = record {
    gain = gain_trans _ (gain_weaken (source_own first (le_refl _) b.gain.ext) a.gain) (gain_weaken (source_own rest a.gain.ext.grow (extends_refl w)) b.gain);
    mapped = λ k m. at k (Memᴰ.cases_cons m);
  }
    where
      first : (j : ℕ) → Reached G e (i ∷ []) j → Reached G e (i ∷ ts) j
      first j = reached_bind (λ k m. start (single (λ x. Memᴰ x (i ∷ ts)) (Memᴰ.head refl) k m))

      rest : (j : ℕ) → Reached G e ts j → Reached G e (i ∷ ts) j
      rest j = reached_bind (λ k m. start (Memᴰ.tail m))

      at : (k : ℕ) → (k ≡ i) ⊎ Memᴰ k ts → Mapped w sc k
      at k (inl q) = b.gain.keep_mapped sc k (a.mapped k (Memᴰ.head q))
      at k (inr h) = b.mapped k h

  -- A default's scope and its starts, then the rest.
  copied_default : {sc : ℕ} {e : G.Scope} (b : G.Scope) {ts : List ℕ} {u v w : World'} → Copied (count u) b (G.starts b) (add_default b u) v → Copied sc e ts v w → Copied sc e ts u w
  copied_default {sc} {e} b {ts} {u} {v} {w} x y = record {
    gain = gain_trans _ (gain_open u v b u.openers (λ q h. h) (λ s j h. inl h) (gain_weaken (source_opened (le_refl _) here (λ i m. m) x0.grow y.gain.ext) x.gain) x.mapped)
        (gain_weaken (source_own (λ j h. h) (extends_trans x0 x.gain.ext).grow (extends_refl w)) y.gain);
    mapped = y.mapped;
  }
    where
      x0 : Extends u (add_default b u)
      x0 = extends_open u (add_default b u) b refl

      here : OpenAs w (count u) b
      here = open_up (extends_trans x.gain.ext y.gain.ext) (open_new u (add_default b u) b refl)

  -- What a node leads to is reached from the node.
  own : (e : G.Scope) (id j : ℕ) → Reached G e (G.nexts e id) j → Reached G e (id ∷ []) j
  own e id j = reached_bind (λ k m. step (start (Memᴰ.head refl)) m)

  -- A plain node: its entries, then where its steps lead.
  copied_plain : {sc id : ℕ} {e : G.Scope} {w w' : World'} → OpenAs w sc e → Plain G e id → Copied sc e (G.nexts e id) (add_plain sc id w) w' → Copied sc e (id ∷ []) w w'
  copied_plain {sc} {id} {e} {w} {w'} t p a = record {
    gain = gain_map w w' sc id (w.ledger ++ ((sc, id) ∷ [])) (λ x h. Memᴰ.append_left _ h) (gain_weaken (source_own (own e id) (le_refl _) (extends_refl w')) a.gain) (own_scope refl (start (Memᴰ.head refl)))
        (record { lt = t'.lt; nexts = λ k m. a.mapped k (rw t'.is at m); listed = λ q. a.gain.keep_listed sc id (Memᴰ.append_right w.ledger (Memᴰ.head refl)); opener = λ i. absurd (apart p (rw t'.is at i)) });
    mapped = single (λ i. Mapped w' sc i) (a.gain.keep_mapped sc id (Memᴰ.head refl));
  }
    where
      t' : OpenAs w' sc e
      t' = open_up (record { grow = a.gain.ext.grow; same = a.gain.ext.same }) t

  -- An instance: where its steps lead, its body's scope, the first root, its own entry, the other roots.
  copied_instance : (sc id : ℕ) (e b : G.Scope) (r : ℕ) (rs : List ℕ) (w w1 w2 w3 : World') → OpenAs w sc e → Instance G e id → G.starts b ≡ r ∷ rs
      → Copied sc e (G.nexts e id) w w1 → Copied (count w1) b (r ∷ []) (add_body sc id b w1) w2 → Copied (count w1) b rs (add_mapped sc id w2) w3 → Copied sc e (id ∷ []) w w3
  copied_instance sc id e b r rs w w1 w2 w3 t inst eb x y z = record { gain = gain_trans S (gain_weaken (source_own (own e id) (le_refl _) e13) x.gain) g1; mapped = single (λ i. Mapped w3 sc i) mid }
    where
      S : ℕ → ℕ → Type 0
      S = Source sc e (id ∷ []) w w3

      n : ℕ
      n = count w1

      B : World'
      B = add_body sc id b w1

      e23 : Extends w2 w3
      e23 = record { grow = z.gain.ext.grow; same = z.gain.ext.same }

      e_b3 : Extends B w3
      e_b3 = extends_trans y.gain.ext e23

      e1_b : Extends w1 B
      e1_b = extends_open w1 B b refl

      e13 : Extends w1 w3
      e13 = extends_trans e1_b e_b3

      tn : OpenAs w3 n b
      tn = open_up e_b3 (open_new w1 B b refl)

      t3 : OpenAs w3 sc e
      t3 = open_up (extends_trans x.gain.ext e13) t

      up : (s j : ℕ) → Mapped w1 s j → Mapped w3 s j
      up s j h = z.gain.keep_mapped s j (Memᴰ.tail (y.gain.keep_mapped s j h))

      mid : Mapped w3 sc id
      mid = z.gain.keep_mapped sc id (Memᴰ.head refl)

      g_b : Gain S B w2
      g_b = gain_weaken (source_opened x.gain.ext.grow tn (λ i m. rw eb (single (λ k. Memᴰ k (r ∷ rs)) (Memᴰ.head refl) i m)) (le_trans x.gain.ext.grow e1_b.grow) e23) y.gain

      g_a : Gain S (add_mapped sc id w2) w3
      g_a = gain_weaken (source_opened x.gain.ext.grow tn (λ i m. rw eb (Memᴰ.tail m)) (le_trans x.gain.ext.grow (le_trans e1_b.grow y.gain.ext.grow)) (extends_refl w3)) z.gain

      first : S sc id
      first = own_scope refl (start (Memᴰ.head refl))

      g_c : Gain S w2 w3
      g_c = gain_map w2 w3 sc id w2.ledger (λ q h. h) g_a first
          (record { lt = t3.lt; nexts = λ k m. up sc k (x.mapped k (rw t3.is at m)); listed = λ q. absurd (apart (rw t3.is at q) inst); opener = λ q. z.gain.keep_opener sc id (y.gain.keep_opener sc id (Memᴰ.head refl)) })

      inv : (s j : ℕ) → (◌≡◌ {A = ℕ × ℕ} (s, j) (sc, id)) ⊎ Opener w1 s j → Opener w1 s j ⊎ (S s j × Opened w3 s j)
      inv s j (inr h) = inl h
      inv s j (inl q) = inr (subst (λ (c : ℕ × ℕ). S c.0 c.1 × Opened w3 c.0 c.1) (sym q) (first, record { lt = t3.lt; mapped = mid; is_instance = rw t3.is inst }))

      roots : (i : ℕ) → (i ≡ r) ⊎ Memᴰ i rs → Mapped w3 n i
      roots i (inl q) = z.gain.keep_mapped n i (Memᴰ.tail (y.mapped i (Memᴰ.head q)))
      roots i (inr q) = z.mapped i q

      g1 : Gain S w1 w3
      g1 = gain_open w1 w3 b ((sc, id) ∷ w1.openers) (λ q h. Memᴰ.tail h) (λ s j h. inv s j (Memᴰ.cases_cons h)) (gain_trans S g_b g_c) (λ i m. roots i (Memᴰ.cases_cons (rw eb at m)))

  -- ---- the whole of a run

  -- the number of a task's scope
  abbrev pub number_of : Task G.Scope → ℕ
  number_of (one n e id) = n
  number_of (all n e l) = n

  -- the entry of a task's scope
  abbrev pub entry_of : Task G.Scope → G.Scope
  entry_of (one n e id) = e
  entry_of (all n e l) = e

  -- the ids that a task copies in its scope
  abbrev pub ids_of : Task G.Scope → List ℕ
  ids_of (one n e id) = id ∷ []
  ids_of (all n e l) = copies l

  module _ (agrees : (e : G.Scope) (j : ℕ) → copies (G.actions e j) ≡ G.nexts e j) where
    -- What a run copies, where actions copy exactly the ids that the steps lead to.
    pub copied : {t : Task G.Scope} {w w' : World'} → Run G t w w' → OpenAs w (number_of t) (entry_of t) → Copied (number_of t) (entry_of t) (ids_of t) w w'
    copied (mapped_step m) t = copied_mapped _ _ _ _ m
    copied (plain_step {n} {id} {e} {w} {w'} un p r) t = copied_plain t p (rw agrees at (copied r (record { lt = t.lt; is = t.is })))
    copied (instance_step {n} {id} {e} {w} {w1} {w2} {w3} b r rs un i tb eb rv r2 r3) t =
        let x : Copied n e (G.nexts e id) w w1 = rw agrees at (copied rv t) in
        let y : Copied (count w1) (b n) (r ∷ []) (add_body n id (b n) w1) w2 = copied r2 (open_new w1 (add_body n id (b n) w1) (b n) refl) in
        let t2 : OpenAs w2 (count w1) (b n) = open_up y.gain.ext (open_new w1 (add_body n id (b n) w1) (b n) refl) in
        let z : Copied (count w1) (b n) rs (add_mapped n id w2) w3 = rw copies_map at (copied r3 (record { lt = t2.lt; is = t2.is })) in
        copied_instance n id e (b n) r rs w w1 w2 w3 t (b, i) eb x y z
    copied no_action t = copied_none _ _ _
    copied (then_copy {n} {i} {e} {l} {w} {w1} a b) t = let x : Copied n e (i ∷ []) w w1 = copied a t in copied_then x (copied b (open_up x.gain.ext t))
    copied (then_default {n} {e} {l} {w} {w1} b tb x y) t =
        let p : Copied (count w) (b n) (G.starts (b n)) (add_default (b n) w) w1 = rw copies_map at (copied x (open_new w (add_default (b n) w) (b n) refl)) in
        copied_default (b n) p (copied y (open_up (extends_trans (extends_open w (add_default (b n) w) (b n) refl) p.gain.ext) t))
