-- The loops: nodes are given their words, ids are mentioned.
use mathlib.Core.Path.{◌≡◌, refl, sym, ap, subst, ◌∙◌}
use mathlib.Core.List.{List, [], ◌∷◌, ◌++◌, append_assoc, append-nil}
use Prim.Native.Nat.{ℕ, ◌+◌, ◌*◌, ◌≤◌, ◌<◌, max}
use native.Mathlib.Omega.{arith}
use lib.ListN.{length, get_or, drop, length-append}
use Rattle.sheet_rows.specs.declared.row.Row.{Row}
use Rattle.sheet_rows.specs.Rows.{blank}
use Rattle.graph_walk.specs.Scan.{places_from, top_from}
use Rattle.graph_walk.specs.State.{WalkState}
use Rattle.graph_walk.specs.Steps.{with_pair, Mentionable, MentionsNoted, NodesIndexed}
use Rattle.graph_walk.proofs.StateLaws.{pair_long, state_start, state_node}
use Rattle.graph_walk.proofs.ScanLaws.{places_end, top_end, places_stop, places_node, places_pass, top_stop, top_pass}

-- ---- nodes

pub record Indexing (R : List Row) (from : ℕ) (w₀ : List ℕ) (n at : ℕ) (w : List ℕ) : Type 0 where
  pub behind : from + n ≤ at
  pub within : at ≤ max (length R) from
  pub long : length w ≡ length w₀
  pub done : List ℕ
  pub state : WalkState n done [] 0 w
  pub places : places_from from (drop from R) ≡ done ++ places_from at (drop at R)
  pub top : top_from from (drop from R) ≡ top_from at (drop at R)

pub indexing_start : (R : List Row) (from : ℕ) (w : List ℕ) → Indexing R from w 0 from w
indexing_start R from w = record { behind = omega arith; within = omega arith; long = refl; done = []; state = state_start w; places = refl; top = refl }

module _ {R : List Row} {from : ℕ} {w₀ : List ℕ} {n at : ℕ} {w : List ℕ} (x : Indexing R from w₀ n at w) where
  ended : places_from at (drop at R) ≡ [] → x.done ≡ places_from from (drop from R)
  ended e = sym (x.places ∙ ap (λ l. x.done ++ l) e ∙ append-nil x.done)

  told : (top : ℕ) → places_from at (drop at R) ≡ [] → top_from at (drop at R) ≡ top → NodesIndexed R from w n top
  told top e t = record { state = subst (λ (l : List ℕ). WalkState n l [] 0 w) (ended e) x.state; top = sym (x.top ∙ t) }

  pub indexed_end : length R ≤ at → NodesIndexed R from w n at
  indexed_end h = told at (places_end R at h) (top_end R at h)

  module _ (room : 5 * length R ≤ length w₀) (h : at < length R) where
    pub index_room : 5 * n + 5 ≤ length w
    index_room = omega (arith, x.behind, x.long)

    module _ {r : Row} (is : r ≡ get_or R at blank) where
      pub indexed_stop : r.kind ≡ 11 → NodesIndexed R from w n at
      indexed_stop e = told at (places_stop R at h is e) (top_stop R at h is e)

      pub indexing_pass : (r.kind ≡ 11 → ⊥) → (r.kind ≡ 2 → ⊥) → Indexing R from w₀ n (at + 1) w
      indexing_pass a b =
          record {
            behind = omega (arith, x.behind);
            within = omega (arith, h);
            long = x.long;
            done = x.done;
            state = x.state;
            places = x.places ∙ ap (λ l. x.done ++ l) (places_pass R at h is a b);
            top = x.top ∙ top_pass R at h is a;
          }

      pub indexing_node : (r.kind ≡ 11 → ⊥) → r.kind ≡ 2 → {w₁ w₂ : List ℕ} → w₁ ≡ with_pair w (5 * n) at → w₂ ≡ with_pair w₁ (5 * n + 2) 0 → Indexing R from w₀ (n + 1) (at + 1) w₂
      indexing_node a b {w₁} {w₂} e f =
          subst (λ (v : List ℕ). Indexing R from w₀ (n + 1) (at + 1) v) (sym (f ∙ ap (λ v. with_pair v (5 * n + 2) 0) e))
          (record {
            behind = omega (arith, x.behind);
            within = omega (arith, h);
            long = pair_long (with_pair w (5 * n) at) (5 * n + 2) 0 ∙ pair_long w (5 * n) at ∙ x.long;
            done = x.done ++ (at ∷ []);
            state = state_node x.state at index_room;
            places = x.places ∙ ap (λ l. x.done ++ l) (places_node R at h is a b) ∙ sym (append_assoc x.done (at ∷ []) (places_from (at + 1) (drop (at + 1) R)));
            top = x.top ∙ top_pass R at h is a;
          })

-- ---- mentions

-- of all that are to be mentioned, those that are left
pub record Scanning (n tail : ℕ) (w₀ all left : List ℕ) (t : ℕ) (w : List ℕ) : Type 0 where
  pub done : List ℕ
  pub split : all ≡ done ++ left
  pub mentioned : MentionsNoted n tail w₀ done t w
  pub long : length w ≡ length w₀

pub scan_start : (n tail : ℕ) (w all : List ℕ) → Scanning n tail w all all tail w
scan_start n tail w all = record { done = []; split = refl; mentioned = λ places m s. rw (append-nil m) s; long = refl }

module _ {n tail : ℕ} {w₀ all : List ℕ} {t : ℕ} {w : List ℕ} where
  pub scan_same : {left rest : List ℕ} → Scanning n tail w₀ all left t w → left ≡ rest → Scanning n tail w₀ all rest t w
  scan_same x e = record { done = x.done; split = x.split ∙ ap (λ l. x.done ++ l) e; mentioned = x.mentioned; long = x.long }

  pub scan_end : {left : List ℕ} → Scanning n tail w₀ all left t w → left ≡ [] → MentionsNoted n tail w₀ all t w
  scan_end x e = λ places m s. subst (λ (l : List ℕ). WalkState n places (m ++ l) t w) (sym (x.split ∙ ap (λ l. x.done ++ l) e ∙ append-nil x.done)) (x.mentioned places m s)

  module _ {i : ℕ} {left rest : List ℕ} (x : Scanning n tail w₀ all left t w) (e : left ≡ i ∷ rest) where
    split : all ≡ x.done ++ (i ∷ rest)
    split = x.split ∙ ap (λ l. x.done ++ l) e

    pub scan_ready : Mentionable n tail w₀ all → Mentionable n t w (i ∷ [])
    scan_ready r =
        record {
          places = r.places;
          m = r.m ++ x.done;
          state = x.mentioned r.places r.m r.state;
          few = omega (arith, r.few, length-append r.m x.done, ap length split, length-append x.done (i ∷ rest));
        }

    pub scan_more : {t' : ℕ} {w' : List ℕ} → MentionsNoted n t w (i ∷ []) t' w' → length w' ≡ length w → Scanning n tail w₀ all rest t' w'
    scan_more f h =
        record {
          done = x.done ++ (i ∷ []);
          split = split ∙ sym (append_assoc x.done (i ∷ []) rest);
          mentioned = λ places m s. rw append_assoc at (f places (m ++ x.done) (x.mentioned places m s));
          long = h ∙ x.long;
        }
