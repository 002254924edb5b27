-- The table of bases: a base that it knows, a new one.
use mathlib.Core.Path.{◌≡◌, refl, sym, ◌∙◌}
use mathlib.Core.Bool.{Bool, true, false}
use mathlib.Core.List.{List, [], ◌∷◌, ◌++◌}
use mathlib.Core.Option.{some}
use Prim.Native.Nat.{ℕ, zero, suc, ◌+◌, ◌≤◌, ◌<◌}
use native.Mathlib.Omega.{arith}
use native.Mathlib.Numerals.{add-one}
use native.Mathlib.Decide.{ℕ_discrete}
use lib.ListN.{length, get_or, take, get_elem?, length-set}
use Rattle.std.specs.Prelude.{Option as Maybe, Some, None}
use Rattle.std.specs.List.{position, position_or_len}
use Rattle.std.proofs.lemmas.Grind.{common_steps}
use Rattle.std.proofs.lemmas.List.Sums.{fails_before_first}
use Rattle.std.proofs.lemmas.List.Quantifiers.{position-Some}
use lib.Dec.{eqb}
use borrow.Author.Tests.{eq-eqb, eqb-true}
use lib.Seq.{length-take-le, take-length, get_or-take, take-suc-set, get_or-set_same, get_or-set_other}
use Rattle.sheet_rows.specs.declared.row.Row.{Row}
use Rattle.pick_table.specs.declared.table.Source.{Source}
use Rattle.pick_table.specs.declared.table.Table.{Table}
use Rattle.pick_definition.specs.Picks.{member}
use Rattle.pick_table.specs.Table.{bases_of, IsFileOf, source_at, TableSound, StandsAt, Position, BaseAdded}
use Rattle.pick_definition.proofs.MemberLaws.{member_at, member_none}

-- what the library's search for a base says
pub positioned : (bases : List ℕ) (base : ℕ) (x : Maybe ℕ) → x ≡ position (λ y. eqb y base) bases → Position bases base x
positioned bases base (Some j) e =
    let p = position-Some (λ y. eqb y base) bases j 0 (sym e) in
    record { within = p.0; here = eqb-true (get_or bases j 0) base p.1; before = λ k h i. other (eq-eqb (get_or bases k 0) base i) (p.2 k h) }
  where
    other : {b : Bool} → b ≡ true → b ≡ false → ⊥
    other t f = cc
positioned bases base None e =
    let p : ℕ → Bool = λ y. eqb y base in
    let missing : position p bases ≡ None = sym e in
    let full : length bases ≤ position_or_len p bases = grind (arith, common_steps) in
    λ k h i. other (eq-eqb (get_or bases k 0) base i) (fails_before_first p bases k 0 (omega arith))
  where
    other : {b : Bool} → b ≡ true → b ≡ false → ⊥
    other t f = cc

-- a base in a list, by its position
pub position_known : {bases : List ℕ} {base j : ℕ} → StandsAt bases base j → member base bases ≡ true
position_known {bases} {base} {j} p = rw take-length at (member_at base (length bases) bases j p.within p.within p.here)

pub position_new : (bases : List ℕ) {base : ℕ} → Position bases base None → member base bases ≡ false
position_new bases {base} p = rw take-length at (member_none base (length bases) bases p)

-- the first of a list by their places
pub taken_at : (n : ℕ) (l : List ℕ) (k : ℕ) → k < n → n ≤ length l → get_elem? (take n l) k ≡ some (get_or l k 0)
taken_at zero l k h i = absurd (omega arith)
taken_at (suc n) [] k h i = absurd (omega arith)
taken_at (suc n) (b ∷ l) zero h i = refl
taken_at (suc n) (b ∷ l) (suc k) h i = taken_at n l k (omega arith) (omega arith)

module _ {R : List Row} {t : Table} (s : TableSound R t) where
  -- the table counts its bases
  pub count_is : length (bases_of t) ≡ t.count
  count_is = length-take-le t.count t.bases (omega (arith, s.room, s.long.0))

  pub base_at : (k : ℕ) → k < t.count → get_elem? (bases_of t) k ≡ some (get_or t.bases k 0)
  base_at k h = taken_at t.count t.bases k h (omega (arith, s.room, s.long.0))

  -- where a base stands in it
  module _ {base j : ℕ} (p : StandsAt (bases_of t) base j) where
    pub stands_low : j < t.count
    stands_low = omega (arith, p.within, count_is)

    pub stands_here : get_or t.bases j 0 ≡ base
    stands_here = sym (get_or-take t.count t.bases j 0 stands_low) ∙ p.here

  -- one base more, with its file
  module _ {base : ℕ} {x : Maybe Source} {u : Table} (m : t.count < 64) (a : BaseAdded t base x u) where
    source_new : (k : ℕ) → k < t.count + 1 → IsFileOf R base x → Dec (k ≡ t.count) → IsFileOf R (get_or u.bases k 0) (source_at u k)
    source_new k h f (yes z) =
        let b : t.count < length t.bases = omega (arith, s.long.0) in
        let i : t.count < length t.files = omega (arith, s.long.1) in
        rw (a.bases, a.files, z, get_or-set_same t.bases t.count base 0, get_or-set_same t.files t.count x None) f
    source_new k h f (no z) =
        rw (a.bases, a.files, get_or-set_other t.bases t.count k base 0 z, get_or-set_other t.files t.count k x None z) (s.sources k (omega arith))

    pub sound_added : IsFileOf R base x → TableSound R u
    sound_added f = record {
      room = omega (arith, a.count);
      long = (rw (a.bases, length-set) s.long.0, rw (a.files, length-set) s.long.1);
      sources = λ k h. source_new k (rw a.count at h) f (ℕ_discrete k t.count);
    }

    pub bases_added : bases_of u ≡ bases_of t ++ (base ∷ [])
    bases_added = rw (a.count, a.bases, add-one t.count) (take-suc-set t.bases t.count base (omega (arith, s.long.0)))
