-- What is found in the map and among the externs is the newest record of its key; the associations of a scope are its own list.
use mathlib.Core.Path.{◌≡◌, refl, sym, ◌∙◌}
use mathlib.Core.Bool.{Bool, true, false, ◌&&◌}
use mathlib.Core.List.{List, [], ◌∷◌, ◌++◌}
use mathlib.Core.Option.{Option, none, some}
use Prim.Native.Nat.{ℕ, zero, suc, ◌+◌, ◌≤◌, ◌<◌}
use native.Mathlib.Omega.{arith}
use lib.Dec.{eqb}
use borrow.Author.Tests.{eq-eqb, ne_eqb, eqb-true, eqb-false}
use Rattle.ast.specs.Ast.{Association}
use Rattle.ast.specs.Choice.{choose, map_o}
use Rattle.expansion_definition.specs.State.{Entry, ExternEntry, lookup}
use Rattle.expansion_definition.specs.Externs.{lookup_extern}
use Rattle.expansion_definition.specs.Instances.{associations_of}
use Rattle.journal_records.specs.Records.{tag_map, tag_extern, tag_association, cell}
use Rattle.journal_records.specs.Logs.{newest_of, log_up, log_down, only}
use Rattle.journal_index.specs.Index.{hit, newest}
use Rattle.journal_lists.specs.Owned.{tagged, owned_by, owned_log, Owned}
use Rattle.journal_lists.proofs.Owned.{scopes_apart}
use Rattle.journal_reading.specs.Reading.{entry_rec, extern_entry_rec, is_rec, association_rec, map_of, extern_map_of, is_map_of}
use Rattle.journal_reading.specs.WellFormed.{ScopeAt, AllWellFormed}
use Rattle.journal_reading.proofs.Words.{kept_is}

-- a search in a log of keyed records, newest first
module _ {E : Type 0} (w : List ℕ) (top t x y : ℕ) (d : ℕ → E) (look : List E → Option ℕ) (nil : look [] ≡ none)
    (cons : (r : ℕ) (l : List E) → r < top → cell w r 0 ≡ t → look (d r ∷ l) ≡ choose (choose (eqb (cell w r 1) x) (eqb (cell w r 2) y) false) (some (cell w r 3)) (look l)) where
  search_newest : (c : ℕ) → c ≤ top → look (log_down (only (tagged w t) d) c) ≡ map_o (λ r. cell w r 3) (newest w t x y c)
  unfolding log_down only newest_of hit tagged
  search_newest zero le = nil
  search_newest (suc c) le = by (eqb (cell w c 0) t) refl (search_newest c (omega arith))
    where
      by : (u : Bool) → eqb (cell w c 0) t ≡ u → look (log_down (only (tagged w t) d) c) ≡ map_o (λ r. cell w r 3) (newest w t x y c)
          → look (choose u (d c ∷ []) [] ++ log_down (only (tagged w t) d) c) ≡ map_o (λ r. cell w r 3) (choose (choose u (choose (eqb (cell w c 1) x) (eqb (cell w c 2) y) false) false) (some c) (newest w t x y c))
      by true e go = cons c (log_down (only (tagged w t) d) c) (omega arith) (eqb-true (cell w c 0) t e) ∙ test (choose (eqb (cell w c 1) x) (eqb (cell w c 2) y) false)
        where
          test : (v : Bool) → choose v (some (cell w c 3)) (look (log_down (only (tagged w t) d) c)) ≡ map_o (λ r. cell w r 3) (choose v (some c) (newest w t x y c))
          test true = refl
          test false = go
      by false e go = go

both : (x y : Bool) → x && y ≡ choose x y false
both true y = refl
both false y = refl

-- the scope at place p has the number s
module _ (w : List ℕ) (c s p : ℕ) (fair : AllWellFormed w c) (ow : Owned w c) (sc : ScopeAt w c s p) where
  -- an entry has the scope's number exactly if it has its place
  same_scope : (r : ℕ) → r < c → cell w r 0 ≡ tag_map → eqb (cell w r 5) s ≡ eqb (cell w r 1) p
  same_scope r l e = by (eqb (cell w r 1) p) refl
    where
      x : ScopeAt w r (cell w r 5) (cell w r 1)
      x = ((fair.each r l).mapped e).scope

      by : (u : Bool) → eqb (cell w r 1) p ≡ u → eqb (cell w r 5) s ≡ u
      by true q = let z : cell w r 1 ≡ p = eqb-true (cell w r 1) p q in eq-eqb (cell w r 5) s (sym x.number ∙ rw z sc.number)
      by false q =
          let ne : cell w r 1 ≡ p → ⊥ = eqb-false (cell w r 1) p q in
          ne_eqb (cell w r 5) s (λ z. scopes_apart ow sc.low sc.tag (omega (arith, x.low)) x.tag ne (sc.number ∙ sym z ∙ sym x.number))

  pub map_lookup : (i : ℕ) → lookup (map_of w c) s i ≡ map_o (λ r. cell w r 3) (newest w tag_map p i c)
  unfolding map_of lookup
  map_lookup i = search_newest w c tag_map p i (entry_rec w) (λ l. lookup l s i) refl cons c (omega arith)
    where
      cons : (r : ℕ) (l : List Entry) → r < c → cell w r 0 ≡ tag_map → lookup (entry_rec w r ∷ l) s i ≡ choose (choose (eqb (cell w r 1) p) (eqb (cell w r 2) i) false) (some (cell w r 3)) (lookup l s i)
      cons r l lt e =
          rw (
            kept_is w r tag_map 5 (cell w r 5) e (omega arith) refl,
            kept_is w r tag_map 2 (cell w r 2) e (omega arith) refl,
            kept_is w r tag_map 3 (cell w r 3) e (omega arith) refl,
            same_scope r lt e,
            both (eqb (cell w r 1) p) (eqb (cell w r 2) i),
          )

pub extern_lookup : (w : List ℕ) (c d x : ℕ) → lookup_extern (extern_map_of w c) d x ≡ map_o (λ r. cell w r 3) (newest w tag_extern d x c)
unfolding extern_map_of lookup_extern
extern_lookup w c d x = search_newest w c tag_extern d x (extern_entry_rec w) (λ l. lookup_extern l d x) refl cons c (omega arith)
  where
    cons : (r : ℕ) (l : List ExternEntry) → r < c → cell w r 0 ≡ tag_extern → lookup_extern (extern_entry_rec w r ∷ l) d x ≡ choose (choose (eqb (cell w r 1) d) (eqb (cell w r 2) x) false) (some (cell w r 3)) (lookup_extern l d x)
    cons r l lt e =
        rw (
          kept_is w r tag_extern 1 (cell w r 1) e (omega arith) refl,
          kept_is w r tag_extern 2 (cell w r 2) e (omega arith) refl,
          kept_is w r tag_extern 3 (cell w r 3) e (omega arith) refl,
          both (eqb (cell w r 1) d) (eqb (cell w r 2) x),
        )

-- the associations of a scope
over : (s : ℕ) (xs ys : List (ℕ × Association)) → associations_of s (xs ++ ys) ≡ associations_of s xs ++ associations_of s ys
unfolding associations_of
over s [] ys = refl
over s (x ∷ xs) ys = rw (over s xs ys) (by (eqb x.0 s))
  where
    by : (t : Bool) → choose t (x.1 ∷ (associations_of s xs ++ associations_of s ys)) (associations_of s xs ++ associations_of s ys) ≡ choose t (x.1 ∷ associations_of s xs) (associations_of s xs) ++ associations_of s ys
    by true = refl
    by false = refl

pub associations_owned : (w : List ℕ) (c s : ℕ) → associations_of s (is_map_of w c) ≡ owned_log (association_rec w) w tag_association s c
unfolding is_map_of associations_of log_up only tagged owned_by
associations_owned w zero s = refl
associations_owned w (suc c) s = over s (is_map_of w c) (only (tagged w tag_association) (is_rec w) c) ∙ rw (associations_owned w c s) (by (eqb (cell w c 0) tag_association) refl)
  where
    by : (t : Bool) → eqb (cell w c 0) tag_association ≡ t
        → owned_log (association_rec w) w tag_association s c ++ associations_of s (choose t (is_rec w c ∷ []) []) ≡ owned_log (association_rec w) w tag_association s c ++ choose (choose t (eqb (cell w c 1) s) false) (association_rec w c ∷ []) []
    by true e = rw (kept_is w c tag_association 1 (cell w c 1) (eqb-true (cell w c 0) tag_association e) (omega arith) refl)
    by false e = refl
