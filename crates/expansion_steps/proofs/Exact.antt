-- What holds of the world after a whole run, from the root's scope open and nothing mapped.
use mathlib.Core.Path.{◌≡◌, refl, ap, sym, subst}
use mathlib.Core.Logic.{◌⊎◌, inl, inr, ◌↔◌}
use mathlib.Core.List.Memᴰ
use mathlib.Core.List.{List, [], ◌∷◌, map, Memᴰ}
use mathlib.Core.Bool.{true, false}
use Prim.Native.Nat.{ℕ, zero, suc, ◌<◌}
use native.Mathlib.Nat.{le_trans}
use native.Mathlib.Omega.{arith}
use lib.ListN.{length, length-append}
use Rattle.expansion_steps.specs.Lists.{Nodup, one_if}
use Rattle.expansion_steps.proofs.ListLaws.{nodup_append, count_append, fiber, fiber_in, fiber_out, fiber_nodup, fiber_sum}
use Rattle.expansion_steps.specs.Steps.{copy_id, copies, Graph, Plain, Instance, Reached, start, step, ReachedIn, World, add_mapped, add_plain, add_default, add_body, first_world, Mapped, Listed, Opener, count, Task, Run, mapped_step, plain_step, instance_step, no_action, then_copy, then_default, WholeRun}
use Rattle.expansion_steps.proofs.Laws.{copies_map}
use Rattle.expansion_steps.specs.Sums.{Sum, Total, bodies, NoLoop, Exact}
use Rattle.expansion_steps.proofs.Gain.{entry_at, Extends, OpenAs, Complete, Opened, Source, own_scope, opened_scope, Copied, number_of, entry_of, ids_of, copied, extends_trans, extends_open, open_up, open_new}

module _ (G : Graph) (agrees : (e : G.Scope) (j : ℕ) → copies (G.actions e j) ≡ G.nexts e j) where
  abbrev World' : Type 0
  World' = World G.Scope

  -- ---- bookkeeping

  -- the books: no ledger entry twice, each of a plain node that is mapped; openers are of open scopes, one to a body scope
  record Inv (w : World') : Type 0 where
    once : Nodup w.ledger
    source : (s j : ℕ) → Listed w s j → (s < count w) × Mapped w s j × Plain G (entry_at G w s) j
    below : (s j : ℕ) → Opener w s j → s < count w
    pods : bodies G w.scopes ≡ length w.openers

  -- What a run copies.
  copied_by : {t : Task G.Scope} {w w' : World'} → Run G t w w' → OpenAs G w (number_of G t) (entry_of G t) → Copied G (number_of G t) (entry_of G t) (ids_of G t) w w'
  copied_by r t = copied G agrees r t

  -- A run extends the world.
  grows : {t : Task G.Scope} {w w' : World'} → Run G t w w' → OpenAs G w (number_of G t) (entry_of G t) → Extends G w w'
  grows r t = (copied_by r t).gain.ext

  -- A plain node's entries keep the books.
  inv_plain : (n id : ℕ) (e : G.Scope) (w : World') → OpenAs G w n e → (Mapped w n id → ⊥) → Plain G e id → Inv w → Inv (add_plain n id w)
  inv_plain n id e w t un p v = record { once = nodup_append w.ledger (n, id) v.once (λ h. un (v.source n id h).1); source = λ s j h. at s j (Memᴰ.append_cases w.ledger h); below = v.below; pods = v.pods }
    where
      -- The books in the end.
      last : (s j : ℕ) → (◌≡◌ {A = ℕ × ℕ} (s, j) (n, id)) ⊎ Memᴰ {A = ℕ × ℕ} (s, j) [] → (s < count w) × Mapped (add_plain n id w) s j × Plain G (entry_at G w s) j
      last s j (inl q) = subst (λ (x : ℕ × ℕ). (x.0 < count w) × Mapped (add_plain n id w) x.0 x.1 × Plain G (entry_at G w x.0) x.1) (sym q) (t.lt, Memᴰ.head refl, rw t.is p)
      last s j (inr h) = absurd (Memᴰ.not-nil h)

      at : (s j : ℕ) → Listed w s j ⊎ Memᴰ {A = ℕ × ℕ} (s, j) ((n, id) ∷ []) → (s < count w) × Mapped (add_plain n id w) s j × Plain G (entry_at G w s) j
      at s j (inl h) = let q = v.source s j h in (q.0, Memᴰ.tail q.1, q.2)
      at s j (inr h) = last s j (Memᴰ.cases_cons h)

  -- A map entry keeps the books.
  inv_map : (n id : ℕ) (w : World') → Inv w → Inv (add_mapped n id w)
  inv_map n id w v = record { once = v.once; source = λ s j h. let q = v.source s j h in (q.0, Memᴰ.tail q.1, q.2); below = v.below; pods = v.pods }

  -- A default scope keeps the books.
  inv_default : (b : G.Scope) (w : World') → G.is_body b ≡ false → Inv w → Inv (add_default b w)
  inv_default b w tb v = record {
    once = v.once;
    source = λ s j h. let q = v.source s j h in let x = extends_open G w (add_default b w) b refl in (le_trans q.0 x.grow, q.1, rw (x.same s q.0) q.2);
    below = λ s j h. omega (arith, v.below s j h, length-append w.scopes (b ∷ []));
    pods = omega (arith, count_append G.is_body w.scopes (b ∷ []), ap one_if tb, v.pods);
  }

  -- A body scope keeps the books.
  inv_body : (n id : ℕ) (b : G.Scope) (w : World') → n < count w → G.is_body b ≡ true → Inv w → Inv (add_body n id b w)
  inv_body n id b w lt tb v = record {
    once = v.once;
    source = λ s j h. let q = v.source s j h in let x = extends_open G w (add_body n id b w) b refl in (le_trans q.0 x.grow, q.1, rw (x.same s q.0) q.2);
    below = λ s j h. at s j (Memᴰ.cases_cons h);
    pods = omega (arith, count_append G.is_body w.scopes (b ∷ []), ap one_if tb, v.pods);
  }
    where
      at : (s j : ℕ) → (◌≡◌ {A = ℕ × ℕ} (s, j) (n, id)) ⊎ Opener w s j → s < count (add_body n id b w)
      at s j (inl e) = omega (arith, ap (λ (x : ℕ × ℕ). x.0) e, length-append w.scopes (b ∷ []))
      at s j (inr h) = omega (arith, v.below s j h, length-append w.scopes (b ∷ []))

  -- A map entry leaves a scope open.
  open_map : {w : World'} {n : ℕ} {e : G.Scope} (s j : ℕ) → OpenAs G w n e → OpenAs G (add_mapped s j w) n e
  open_map s j t = record { lt = t.lt; is = t.is }

  -- A plain node's entries leave a scope open.
  open_plain : {w : World'} {n : ℕ} {e : G.Scope} (s j : ℕ) → OpenAs G w n e → OpenAs G (add_plain s j w) n e
  open_plain s j t = record { lt = t.lt; is = t.is }

  -- A run keeps the books.
  inv : {t : Task G.Scope} {w w' : World'} → Run G t w w' → OpenAs G w (number_of G t) (entry_of G t) → Inv w → Inv w'
  inv (mapped_step m) t v = v
  inv (plain_step {n} {id} {e} {w} un p r) t v = inv r (open_plain n id t) (inv_plain n id e w t un p v)
  inv (instance_step {n} {id} {e} {w} {w1} {w2} {w3} b r rs un i tb eb rv r2 r3) t v =
      let t_b : OpenAs G (add_body n id (b n) w1) (count w1) (b n) = open_new G w1 (add_body n id (b n) w1) (b n) refl in
      let v2 : Inv w2 = inv r2 t_b (inv_body n id (b n) w1 (open_up G (grows rv t) t).lt tb (inv rv t v)) in
      inv r3 (open_map n id (open_up G (grows r2 t_b) t_b)) (inv_map n id w2 v2)
  inv no_action t v = v
  inv (then_copy a b) t v = inv b (open_up G (grows a t) t) (inv a t v)
  inv (then_default {n} {e} {l} {w} {w1} b tb x y) t v =
      let t_d : OpenAs G (add_default (b n) w) (count w) (b n) = open_new G w (add_default (b n) w) (b n) refl in
      inv y (open_up G (extends_trans G (extends_open G w (add_default (b n) w) (b n) refl) (grows x t_d)) t) (inv x t_d (inv_default (b n) w tb v))

  -- ---- no instance of a scope opens twice, where no instance reaches itself

  -- the instances of the scope that opened a body are mapped
  abbrev Settled : ℕ → World' → Type 0
  Settled n w = (j : ℕ) → Opener w n j → Mapped w n j

  -- the ids are reached in the scope
  abbrev From : G.Scope → List ℕ → Type 0
  From e ids = (i : ℕ) → Memᴰ i ids → ReachedIn G e i

  -- A run leaves a scope settled.
  settled_up : (s n : ℕ) (e : G.Scope) (ids : List ℕ) (w w' : World') → Copied G n e ids w w' → Settled s w → Settled s w'
  settled_up s n e ids w w' a pre j h = at (a.gain.new_opener s j h)
    where
      at : Opener w s j ⊎ (Source G n e ids w w' s j × Opened G w' s j) → Mapped w' s j
      at (inl x) = a.gain.keep_mapped s j (pre j x)
      at (inr x) = x.1.mapped

  -- Where no instance loops in the end, none did before.
  noloop_down : {w w' : World'} → Extends G w w' → NoLoop G w'.scopes → NoLoop G w.scopes
  noloop_down {w} {w'} e h s j lt = rw (e.same s lt) at (h s j (le_trans lt e.grow))

  -- An instance that does not reach itself opens no body while its values are copied.
  loops : (n : ℕ) (e : G.Scope) (ids : List ℕ) (w w1 : World') (id : ℕ) → n < count w → Copied G n e ids w w1 → Settled n w → (Mapped w n id → ⊥) → (Reached G e ids id → ⊥) → Opener w1 n id → ⊥
  loops n e ids w w1 id lt a pre un nl h = at (a.gain.new_opener n id h)
    where
      src : Source G n e ids w w1 n id → ⊥
      src (own_scope q r) = nl r
      src (opened_scope x y r) = omega arith

      at : Opener w n id ⊎ (Source G n e ids w w1 n id × Opened G w1 n id) → ⊥
      at (inl x) = un (pre id x)
      at (inr x) = src x.0

  -- No instance of a scope just opened has opened a body.
  not_here : (n id : ℕ) (w1 : World') → n < count w1 → ((s j : ℕ) → Opener w1 s j → s < count w1) → (j : ℕ) → (◌≡◌ {A = ℕ × ℕ} (count w1, j) (n, id)) ⊎ Opener w1 (count w1) j → ⊥
  not_here n id w1 lt1 b j (inl q) = omega (arith, ap (λ (x : ℕ × ℕ). x.0) q)
  not_here n id w1 lt1 b j (inr h) = omega (arith, b (count w1) j h)

  -- No instance opens two bodies.
  nodup_openers : {t : Task G.Scope} {w w' : World'} → Run G t w w' → OpenAs G w (number_of G t) (entry_of G t) → Inv w → NoLoop G w'.scopes → From (entry_of G t) (ids_of G t) → Settled (number_of G t) w → Nodup w.openers → Nodup w'.openers
  nodup_openers (mapped_step m) t v nl fr pre d = d
  nodup_openers (plain_step {n} {id} {e} {w} un p r) t v nl fr pre d =
      nodup_openers r (open_plain n id t) (inv_plain n id e w t un p v) nl (λ i m. step (fr id (Memᴰ.head refl)) (rw agrees at m)) (λ j h. Memᴰ.tail (pre j h)) d
  nodup_openers (instance_step {n} {id} {e} {w} {w1} {w2} {w3} b r rs un i tb eb rv r2 r3) t v nl fr pre d =
      let m : ℕ = count w1 in
      let B : World' = add_body n id (b n) w1 in
      let A : World' = add_mapped n id w2 in
      let t_b : OpenAs G B m (b n) = open_new G w1 B (b n) refl in
      let s_v : Copied G n e (copies (G.actions e id)) w w1 = copied_by rv t in
      let s2 : Copied G m (b n) (r ∷ []) B w2 = copied_by r2 t_b in
      let t_a : OpenAs G A m (b n) = open_map n id (open_up G s2.gain.ext t_b) in
      let s3 : Copied G m (b n) (copies (map copy_id rs)) A w3 = copied_by r3 t_a in
      let t1 : OpenAs G w1 n e = open_up G s_v.gain.ext t in
      let v1 : Inv w1 = inv rv t v in
      let v_b : Inv B = inv_body n id (b n) w1 t1.lt tb v1 in
      let v2 : Inv w2 = inv r2 t_b v_b in
      let e23 : Extends G w2 w3 = record { grow = s3.gain.ext.grow; same = s3.gain.ext.same } in
      let nl2 : NoLoop G w2.scopes = noloop_down e23 nl in
      let nl1 : NoLoop G w1.scopes = noloop_down (extends_open G w1 B (b n) refl) (noloop_down s2.gain.ext nl2) in
      let rid : ReachedIn G e id = fr id (Memᴰ.head refl) in
      let d1 : Nodup w1.openers = nodup_openers rv t v nl1 (λ k q. step rid (rw agrees at q)) pre d in
      let notself : Reached G e (copies (G.actions e id)) id → ⊥ = rw agrees ((rw t1.is at (nl1 n id t1.lt)) (b, i) rid) in
      let d_b : Nodup B.openers = (loops n e (copies (G.actions e id)) w w1 id t.lt s_v pre un notself, d1) in
      let pre_b : Settled m B = λ j h. absurd (not_here n id w1 t1.lt v1.below j (Memᴰ.cases_cons h)) in
      let d2 : Nodup w2.openers = nodup_openers r2 t_b v_b nl2 (λ k q. start (rw eb (Memᴰ.append_left rs q))) pre_b d_b in
      let pre2 : Settled m w2 = settled_up m m (b n) (r ∷ []) B w2 s2 pre_b in
      nodup_openers r3 t_a (inv_map n id w2 v2) nl (λ k q. start (rw eb (Memᴰ.tail (rw copies_map at q)))) (λ j h. Memᴰ.tail (pre2 j h)) d2
  nodup_openers no_action t v nl fr pre d = d
  nodup_openers (then_copy {n} {i} {e} {l} {w} {w1} {w2} a b) t v nl fr pre d =
      let sa : Copied G n e (i ∷ []) w w1 = copied_by a t in
      let t1 : OpenAs G w1 n e = open_up G sa.gain.ext t in
      nodup_openers b t1 (inv a t v) nl (λ k m. fr k (Memᴰ.tail m)) (settled_up n n e (i ∷ []) w w1 sa pre)
      (nodup_openers a t v (noloop_down (grows b t1) nl) (λ k m. fr k (Memᴰ.append_left (copies l) m)) pre d)
  nodup_openers (then_default {n} {e} {l} {w} {w1} {w2} b tb x y) t v nl fr pre d =
      let m : ℕ = count w in
      let B : World' = add_default (b n) w in
      let t_b : OpenAs G B m (b n) = open_new G w B (b n) refl in
      let ids : List ℕ = copies {S = G.Scope} (map copy_id (G.starts (b n))) in
      let sa : Copied G m (b n) ids B w1 = copied_by x t_b in
      let t1 : OpenAs G w1 n e = open_up G (extends_trans G (extends_open G w B (b n) refl) sa.gain.ext) t in
      let v_b : Inv B = inv_default (b n) w tb v in
      let d1 : Nodup w1.openers = nodup_openers x t_b v_b (noloop_down (grows y t1) nl) (λ i q. start (rw copies_map at q)) (λ j h. absurd (omega (arith, v.below m j h))) d in
      nodup_openers y t1 (inv x t_b v_b) nl fr (settled_up n m (b n) ids B w1 sa pre) d1

  -- ---- the whole run

  module _ (w : World') (not_body : G.is_body G.root ≡ false) (r : WholeRun G w) where
    -- The books at the start.
    inv0 : Inv (first_world G.root)
    inv0 = record { once = tt; source = λ s j h. absurd (Memᴰ.not-nil h); below = λ s j h. absurd (Memᴰ.not-nil h); pods = omega (arith, ap one_if not_body) }

    -- The root's scope is open at the start.
    at0 : OpenAs G (first_world G.root) 0 G.root
    at0 = record { lt = omega arith; is = refl }

    -- What the whole run copies.
    s₀ : Copied G 0 G.root (G.starts G.root) (first_world G.root) w
    s₀ = rw copies_map at (copied_by r at0)

    -- The root's scope is open in the end.
    root_at : OpenAs G w 0 G.root
    root_at = open_up G s₀.gain.ext at0

    -- What is mapped is reached.
    mapped_reached : (s j : ℕ) → Mapped w s j → (s < count w) × ReachedIn G (entry_at G w s) j
    mapped_reached s j m = at (s₀.gain.new_mapped s j m)
      where
        src : Source G 0 G.root (G.starts G.root) (first_world G.root) w s j → (s < count w) × ReachedIn G (entry_at G w s) j
        src (own_scope q x) = (omega (arith, root_at.lt), rw (q, root_at.is) x)
        src (opened_scope x y q) = (y, q)

        at : Mapped (first_world G.root) s j ⊎ (Source G 0 G.root (G.starts G.root) (first_world G.root) w s j × Complete G w s j) → (s < count w) × ReachedIn G (entry_at G w s) j
        at (inl x) = absurd (Memᴰ.not-nil x)
        at (inr x) = src x.0

    -- What is mapped is complete.
    done : (s j : ℕ) → Mapped w s j → Complete G w s j
    done s j m = at (s₀.gain.new_mapped s j m)
      where
        at : Mapped (first_world G.root) s j ⊎ (Source G 0 G.root (G.starts G.root) (first_world G.root) w s j × Complete G w s j) → Complete G w s j
        at (inl x) = absurd (Memᴰ.not-nil x)
        at (inr x) = x.1

    -- The starts of every scope are mapped.
    starts_mapped : (s i : ℕ) → s < count w → Memᴰ i (G.starts (entry_at G w s)) → Mapped w s i
    starts_mapped zero i lt m = s₀.mapped i (rw root_at.is at m)
    starts_mapped (suc s) i lt m = s₀.gain.fresh (suc s) (omega arith) lt i m

    -- What is reached is mapped.
    pub reached_mapped : (s : ℕ) → s < count w → {j : ℕ} → ReachedIn G (entry_at G w s) j → Mapped w s j
    reached_mapped s lt (start m) = starts_mapped s _ lt m
    reached_mapped s lt (step {i} {j} q m) = (done s i (reached_mapped s lt q)).nexts j m

    last : Inv w
    last = inv r at0 inv0

    -- The ledger lists the plain nodes reached, and no other.
    ledgered : (s j : ℕ) → Listed w s j ↔ ((s < count w) × Plain G (entry_at G w s) j × ReachedIn G (entry_at G w s) j)
    ledgered s j = (
      λ h. let q = last.source s j h in let x = mapped_reached s j q.1 in (x.0, q.2, x.1),
      λ q. (done s j (reached_mapped s q.0 q.2)).listed q.1,
    )

    -- The instances that opened a body are those reached.
    pub openers : (s j : ℕ) → Opener w s j ↔ ((s < count w) × Instance G (entry_at G w s) j × ReachedIn G (entry_at G w s) j)
    openers s j = (λ h. at (s₀.gain.new_opener s j h), λ q. (done s j (reached_mapped s q.0 q.2)).opener q.1)
      where
        at : Opener (first_world G.root) s j ⊎ (Source G 0 G.root (G.starts G.root) (first_world G.root) w s j × Opened G w s j) → (s < count w) × Instance G (entry_at G w s) j × ReachedIn G (entry_at G w s) j
        at (inl x) = absurd (Memᴰ.not-nil x)
        at (inr x) = let y = mapped_reached s j x.1.mapped in (y.0, x.1.is_instance, y.1)

    -- A list of pairs, none twice, that holds what Q says of each scope, is as long as the sum.
    pub sums : {A : Type 0} (Q : G.Scope → A → Type 0) (l : List (ℕ × A)) → Nodup l → ((s : ℕ) (x : A) → Memᴰ (s, x) l ↔ ((s < count w) × Q (entry_at G w s) x)) → Sum G Q w.scopes (length l)
    sums Q l d ex = record {
      each = λ s. length (fiber s l);
      counts = λ s lt. record {
        list = fiber s l;
        once = fiber_nodup s l d;
        exact = λ x. (λ m. ((ex s x).0 (fiber_out s x l m)).1, λ q. fiber_in s x l ((ex s x).1 (lt, q)));
        size = refl;
      };
      total = fiber_sum (count w) l (λ x m. ((ex x.0 x.1).0 m).0);
    }

    -- No instance opened two.
    pub openers_once : NoLoop G w.scopes → Nodup w.openers
    openers_once nl = nodup_openers r at0 inv0 nl (λ i m. start (rw copies_map at m)) (λ j h. absurd (Memᴰ.not-nil h)) tt

    -- The number of the ids with P reached in each scope, by a list of them.
    totals : (P : G.Scope → ℕ → Type 0) (l : List (ℕ × ℕ)) → Nodup l → ((s j : ℕ) → Memᴰ (s, j) l ↔ ((s < count w) × P (entry_at G w s) j × ReachedIn G (entry_at G w s) j)) → Total G P w.scopes (length l)
    totals P l d ex = sums (λ e j. P e j × ReachedIn G e j) l d (λ s j. (λ m. let q = (ex s j).0 m in (q.0, (q.1, q.2)), λ q. (ex s j).1 (q.0, q.1.0, q.1.1)))

    -- Ledger, sums and pods of a whole run.
    pub exact : Exact G w
    exact = record {
      once = last.once;
      ledger = ledgered;
      nodes = totals (Plain G) w.ledger last.once ledgered;
      pods = λ nl. rw last.pods (totals (Instance G) w.openers (openers_once nl) openers);
    }
