-- The scans, a row at a time, as loops meet them: the row that was read at a place, and the place after it.
use mathlib.Core.Path.{◌≡◌, sym, ap, ◌∙◌}
use mathlib.Core.List.{List, [], ◌∷◌}
use Prim.Native.Nat.{ℕ, suc, ◌+◌, ◌≤◌, ◌<◌}
use native.Mathlib.Numerals.{add-one}
use native.Mathlib.Omega.{arith}
use lib.ListN.{length, get_or, drop, drop_of_length-le}
use lib.Seq.{drop-cons}
use borrow.Author.Tests.{eq-eqb, ne_eqb, le-leb, lt-leb}
use Rattle.sheet_rows.specs.declared.row.Row.{Row}
use Rattle.sheet_rows.specs.Rows.{blank}
use Rattle.graph_walk.specs.Scan.{places_from, top_from, ids_from, starts_from, end_from}

module _ (R : List Row) (p : ℕ) where
  -- past the last row
  module _ (h : length R ≤ p) where
    pub places_end : places_from p (drop p R) ≡ []
    unfolding places_from
    places_end = rw (drop_of_length-le R h)

    pub top_end : top_from p (drop p R) ≡ p
    unfolding top_from
    top_end = rw (drop_of_length-le R h)

    pub ids_end : ids_from (drop p R) ≡ []
    unfolding ids_from
    ids_end = rw (drop_of_length-le R h)

    pub starts_end : starts_from (drop p R) ≡ []
    unfolding starts_from
    starts_end = rw (drop_of_length-le R h)

    pub end_end : end_from p (drop p R) ≡ p
    unfolding end_from
    end_end = rw (drop_of_length-le R h)

  module _ {r : Row} (h : p < length R) (is : r ≡ get_or R p blank) where
    here : drop p R ≡ r ∷ drop (p + 1) R
    here = rw (add-one p) (drop-cons R p blank h ∙ ap (λ x. x ∷ drop (suc p) R) (sym is))

    -- ---- nodes

    pub places_stop : r.kind ≡ 11 → places_from p (drop p R) ≡ []
    unfolding places_from
    places_stop e = rw (here, eq-eqb r.kind 11 e)

    pub places_node : (r.kind ≡ 11 → ⊥) → r.kind ≡ 2 → places_from p (drop p R) ≡ p ∷ places_from (p + 1) (drop (p + 1) R)
    unfolding places_from
    places_node n e = rw (here, ne_eqb r.kind 11 n, eq-eqb r.kind 2 e, add-one p)

    pub places_pass : (r.kind ≡ 11 → ⊥) → (r.kind ≡ 2 → ⊥) → places_from p (drop p R) ≡ places_from (p + 1) (drop (p + 1) R)
    unfolding places_from
    places_pass n e = rw (here, ne_eqb r.kind 11 n, ne_eqb r.kind 2 e, add-one p)

    pub top_stop : r.kind ≡ 11 → top_from p (drop p R) ≡ p
    unfolding top_from
    top_stop e = rw (here, eq-eqb r.kind 11 e)

    pub top_pass : (r.kind ≡ 11 → ⊥) → top_from p (drop p R) ≡ top_from (p + 1) (drop (p + 1) R)
    unfolding top_from
    top_pass n = rw (here, ne_eqb r.kind 11 n, add-one p)

    -- ---- ids of values

    pub ids_id : r.kind ≡ 9 → ids_from (drop p R) ≡ r.a ∷ ids_from (drop (p + 1) R)
    unfolding ids_from
    ids_id e = rw (here, eq-eqb r.kind 9 e)

    pub ids_pass : (r.kind ≡ 9 → ⊥) → 3 ≤ r.kind → r.kind ≤ 4 → ids_from (drop p R) ≡ ids_from (drop (p + 1) R)
    unfolding ids_from
    ids_pass n a b = rw (here, ne_eqb r.kind 9 n, le-leb 3 r.kind a, le-leb r.kind 4 b)

    pub ids_low : (r.kind ≡ 9 → ⊥) → r.kind < 3 → ids_from (drop p R) ≡ []
    unfolding ids_from
    ids_low n a = rw (here, ne_eqb r.kind 9 n, lt-leb 3 r.kind a)

    pub ids_high : (r.kind ≡ 9 → ⊥) → 4 < r.kind → ids_from (drop p R) ≡ []
    unfolding ids_from
    ids_high n a = rw (here, ne_eqb r.kind 9 n, le-leb 3 r.kind (omega arith), lt-leb r.kind 4 a)

    -- ---- top statements

    pub starts_stop : (r.kind ≡ 5 → ⊥) → starts_from (drop p R) ≡ []
    unfolding starts_from
    starts_stop n = rw (here, ne_eqb r.kind 5 n)

    pub starts_node : r.kind ≡ 5 → r.a ≡ 0 → starts_from (drop p R) ≡ r.b ∷ starts_from (drop (p + 1) R)
    unfolding starts_from
    starts_node e a = rw (here, eq-eqb r.kind 5 e, eq-eqb r.a 0 a)

    pub starts_pass : r.kind ≡ 5 → (r.a ≡ 0 → ⊥) → starts_from (drop p R) ≡ starts_from (drop (p + 1) R)
    unfolding starts_from
    starts_pass e a = rw (here, eq-eqb r.kind 5 e, ne_eqb r.a 0 a)

    pub end_stop : (r.kind ≡ 5 → ⊥) → end_from p (drop p R) ≡ p
    unfolding end_from
    end_stop n = rw (here, ne_eqb r.kind 5 n)

    pub end_pass : r.kind ≡ 5 → end_from p (drop p R) ≡ end_from (p + 1) (drop (p + 1) R)
    unfolding end_from
    end_pass e = rw (here, eq-eqb r.kind 5 e, add-one p)
