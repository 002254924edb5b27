-- The ends of routes: the copy of an end is the newest entry of the map.
use mathlib.Core.Path.{◌≡◌, sym, ◌∙◌}
use mathlib.Core.List.{List}
use Prim.Native.Nat.{ℕ, ◌+◌, ◌*◌, ◌-◌, ◌≤◌}
use native.Mathlib.Omega.{arith}
use lib.ListN.{length}
use borrow.Author.Tests.{ne_eqb}
use Rattle.ast.specs.Choice.{and_then}
use Rattle.sheet_rows.specs.Parse.{optional}
use Rattle.expansion_definition.specs.State.{lookup}
use Rattle.journal_index.specs.Index.{Newest}
use Rattle.std.specs.declared.option.Option.TheVariants.{None, Some}
use Rattle.journal_records.specs.Records.{tag_node, cell}
use Rattle.journal_lists.specs.Owned.{tagged}
use Rattle.journal_records.proofs.Lists.{count_low}
use Rattle.journal_reading.specs.Reading.{map_of}
use Rattle.refine_records.specs.declared.Limits.{Limits}
use Rattle.refine_records.specs.declared.Counts.{Counts}
use Rattle.refine_records.specs.Sound.{Standing}
use Rattle.refine_records.specs.Contract.{CopyLooked, EndOf}

pub end_none : (w : List ℕ) (c scope id : ℕ) → id ≡ 4294967295 → EndOf w c scope id 4294967295
end_none w c scope id e = rw e

module _ (L : Limits) (w : List ℕ) (t : Counts) (scope id : ℕ) (st : Standing L w t) (ne : id ≡ 4294967295 → ⊥) (f : Newest) (k : CopyLooked w t.charges scope id f) where
  same : and_then (optional id) (lookup (map_of w t.charges) scope) ≡ lookup (map_of w t.charges) scope id
  same = rw (ne_eqb id 4294967295 ne)

  -- it is not in the map
  pub end_nothing : f ≡ None → EndOf w t.charges scope id 4294967295
  end_nothing e = sym (same ∙ k.same ∙ rw e)

  module _ (r : ℕ) (e : f ≡ Some r) where
    pub end_room : r * 12 + 12 ≤ length w
    end_room = omega (arith, k.low r e, st.sound.charges, st.ready.room)

    pub end_here : (o : ℕ) → o ≡ cell w r 3 → EndOf w t.charges scope id o
    end_here o z =
        let n = k.node r e in
        let some_node : (o ≡ 4294967295 → ⊥) = λ q. omega (arith, n.number, n.low, count_low (tagged w tag_node) (cell w r 4 - 1), st.sound.charges, st.ready.rows) in
        rw (ne_eqb o 4294967295 some_node) (sym (same ∙ k.same ∙ rw (e, z)))
