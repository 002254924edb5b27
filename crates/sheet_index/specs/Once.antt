-- That slots are filled can be shown in one way at most, so a struct can keep it.
use Rattle.std.specs.Prelude.{◌⊎◌, List, ℕ, ◌*◌, ◌+◌, ◌<◌, ◌≤◌, length, get_or, drop, refl}
use Rattle.std.proofs.Math.Option.{Option, none, some}
use Rattle.std.proofs.Math.ListN.{get_elem?}
use Rattle.std.proofs.Math.Logic.{inl, inr}
use Rattle.std.specs.Coded.{Coded, Coded-set, code_by, coded⊎, coded_list, le_prop}
use base.Stored.{coded_unit}
use Rattle.sheet_rows.specs.declared.row.Row.{Row}
use Rattle.sheet_rows.specs.declared.part.Part.{Part}
use Rattle.sheet_rows.specs.contracts.row.Row.{the_row}
use Rattle.sheet_rows.specs.contracts.part.Part as part
use Rattle.sheet_rows.specs.Parse.{elements}
use Rattle.sheet_walks.specs.declared.walk.Found.TheVariants.{At}
use Rattle.sheet_walks.specs.Walk.{Nth}
use Rattle.sheet_index.specs.Index.{Filled}

rows_coded : Coded (List Row)
rows_coded = coded_list the_row.coded

maybe_coded : Coded (Option (List Row))
maybe_coded = code_by (Unit {0} ⊎ List Row) (coded⊎ coded_unit rows_coded) (elim [ none ↦ inl tt | some x ↦ inr x ]) (elim [ inl _ ↦ none | inr x ↦ some x ]) (elim [ none ↦ refl | some x ↦ refl ])

Nth-prop : (t : Part) (R : List Row) (p n q : ℕ) → IsProp (Nth t R p n (At q))
Nth-prop t R p n q x y =
    let below_prop : IsProp (q < length R) = le_prop in
    λ i. record {
      is = Coded-set maybe_coded (get_elem? (elements t (drop p R)) n) (some (drop q R)) x.is y.is i;
      below = below_prop x.below y.below i;
      here = Coded-set (coded_list rows_coded) (elements t (drop q R)) (drop n (elements t (drop p R))) x.here y.here i;
      past = Coded-set (coded_list rows_coded) (elements t (drop (q + 1) R)) (drop (n + 1) (elements t (drop p R))) x.past y.past i;
    }

pub Filled-prop : (t : Part) (R : List Row) (p stride : ℕ) (slots : List ℕ) (n : ℕ) → IsProp (Filled t R p stride slots n)
Filled-prop t R p stride slots n x y =
    let room_prop : IsProp (n ≤ length slots) = le_prop in
    λ i. record {
      room = room_prop x.room y.room i;
      slot = λ j h. Nth-prop t R p (j * stride) (get_or slots j 0) (x.slot j h) (y.slot j h) i;
    }

-- so is that a part is another
pub Part-set : IsSet Part
Part-set = Coded-set part.the_row.coded
