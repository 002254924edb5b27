-- No records yet: what holds of the journal, whatever its words are, and the state that it stands for.
use mathlib.Core.Path.{◌≡◌, refl}
use mathlib.Core.List.{List}
use Prim.Native.Nat.{ℕ, ◌≤◌, ◌<◌, ◌^◌}
use native.Mathlib.Omega.{arith}
use Rattle.expansion_definition.specs.State.{start_state}
use Rattle.journal_records.specs.Logs.{log_up, log_down, count_below}
use Rattle.journal_index.proofs.Index.{index_none}
use Rattle.journal_lists.proofs.Owned.{owned_none}
use Rattle.journal_lists.proofs.Families.{families_none}
use Rattle.journal_reading.specs.Reading.{map_of, ledger_of, scopes_of, nodes_of, externs_of, extern_map_of, is_map_of}
use Rattle.refine_records.specs.declared.Limits.{Limits}
use Rattle.refine_records.specs.Sound.{Source, heads_at, nothing_yet, JournalSound}
use Rattle.refine_records.specs.Does.{at}

pub sound_none : (L : Limits) (w : List ℕ) → 0 < L.slots → L.slots ≤ 2 ^ 32 → JournalSound L w nothing_yet
unfolding count_below
sound_none L w some few = record {
  charges = omega arith;
  nodes = refl;
  scopes = refl;
  externs = refl;
  fair = record { each = λ r l. absurd (omega arith) };
  index = index_none w (heads_at L) L.slots some few;
  owned = owned_none w;
  families = families_none w;
}

pub state_none : (S : Source) (w : List ℕ) → at S w nothing_yet ≡ start_state
unfolding map_of ledger_of scopes_of nodes_of externs_of extern_map_of is_map_of log_up log_down
state_none S w = refl
