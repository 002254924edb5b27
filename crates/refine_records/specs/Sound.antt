-- What holds of the journal between two steps, and from one step to a later one.
use Rattle.std.specs.Prelude.{◌≡◌, ◌⊎◌, List, ℕ, ◌+◌, ◌*◌, ◌≤◌, ◌<◌, length, get_or}
use Rattle.std.specs.declared.option.Option.{Option}
use Rattle.std.specs.declared.option.Option.TheVariants.{None, Some}
use Rattle.ast.specs.Choice.{map_o}
use Rattle.sheet_rows.specs.Rows.{rows}
use Rattle.sheet_rows.specs.Parse.{document_of, files_of}
use Rattle.expansion_definition.specs.Input.{Input}
use Rattle.expansion_definition.specs.Values.{Env}
use Rattle.journal_records.specs.Records.{tag_extern, tag_node, tag_stored, tag_scope, tag_root, tag_route, tag_instance, cell, Fixed}
use Rattle.journal_index.specs.Index.{found_of, SlotsIndexed}
use Rattle.journal_lists.specs.Owned.{Owned}
use Rattle.journal_lists.specs.Families.{Families}
use Rattle.journal_reading.specs.Reading.{below, scope_rec, values_at}
use Rattle.journal_reading.specs.WellFormed.{HandleAt, AllWellFormed}
use Rattle.refine_records.specs.declared.Limits.{Limits}
use Rattle.refine_records.specs.declared.Counts.{Counts}
use Rattle.refine_records.specs.declared.Journal.{Journal}
use Rattle.refine_records.specs.declared.Env as code

-- what a run reads: the sheets, and D
pub record Source : Type 0 where
  pub root : List ℕ
  pub library : List ℕ
  pub depth : ℕ

-- the input of the definition
abbrev pub input_of : Source → Limits → Input
input_of S L = record { root = document_of (rows S.root); library = files_of (rows S.library); limits = record { max_nodes = L.nodes; max_depth = S.depth; max_rows = L.rows } }

-- the heads stand behind K records
abbrev pub heads_at : Limits → ℕ
heads_at L = L.rows * 12

-- the first t .charges records stand for a state, and the counts are its counts
pub record JournalSound (L : Limits) (w : List ℕ) (t : Counts) : Type 0 where
  pub charges : t.charges ≤ L.rows
  pub nodes : t.nodes ≡ below w tag_node t.charges
  pub scopes : t.scopes ≡ below w tag_scope t.charges
  pub externs : t.externs ≡ below w tag_extern t.charges
  pub fair : AllWellFormed w t.charges
  pub index : SlotsIndexed w (heads_at L) L.slots t.charges
  pub owned : Owned w t.charges
  pub families : Families w t.charges

-- no record stands yet
abbrev pub nothing_yet : Counts
nothing_yet = record { nodes = 0; scopes = 0; externs = 0; charges = 0 }

-- room for what a run may write
pub record Ready (L : Limits) (w : List ℕ) : Type 0 where
  pub room : heads_at L + L.slots ≤ length w
  pub rows : L.rows ≤ 16777216
  pub nodes : L.nodes ≤ 4000000

-- what every step asks
pub record Standing (L : Limits) (w : List ℕ) (t : Counts) : Type 0 where
  pub ready : Ready L w
  pub sound : JournalSound L w t

-- from j to j', after a refusal too: the words are still those that the caller lent, and as many
pub record StillLent (j j' : Journal) : Type 0 where
  pub same_reference : j'.work.ghost_name ≡ j.work.ghost_name
  pub long : length j'.work.now ≡ length j.work.now

-- a record that a scope's body gives
abbrev pub OfBody : ℕ → Type 0
OfBody t = (t ≡ tag_root) ⊎ (t ≡ tag_route) ⊎ (t ≡ tag_instance)

-- from (w, t) to (w', t'): records below are kept but for words that may change; the words behind the heads are kept; new
-- records of bodies are of scopes from `young` on
pub record Later (L : Limits) (young : ℕ) (w : List ℕ) (t : Counts) (w' : List ℕ) (t' : Counts) : Type 0 where
  pub grew : t.charges ≤ t'.charges
  pub scoped : t.scopes ≤ t'.scopes
  pub kept : Fixed t.charges w w'
  pub behind : (m : ℕ) → heads_at L + L.slots ≤ m → get_or w' m 0 ≡ get_or w m 0
  pub long : length w' ≡ length w
  pub fresh : (r : ℕ) → t.charges ≤ r → r < t'.charges → OfBody (cell w' r 0) → young ≤ cell w' r 1
  pub sound : JournalSound L w' t'

-- the handle of an Env's values, if it has them, is of stored values below c
abbrev pub ValuesBelow : List ℕ → ℕ → Option ℕ → Type 0
ValuesBelow w c (Some h) = HandleAt w c tag_stored h
ValuesBelow w c None = Unit {0}

-- the code's Env is one of the definition: its scope's record, and in a body its values
pub record EnvAt (w : List ℕ) (c : ℕ) (e : code.Env) : Type 0 where
  pub place : e.place < c
  pub tag : cell w e.place 0 ≡ tag_scope
  pub number : cell w e.place 6 ≡ e.scope
  pub values : ValuesBelow w e.place e.values

abbrev pub env_of : List ℕ → code.Env → Env
env_of w e = record { scope = e.scope; entry = scope_rec w e.place; is_values = map_o (values_at w) (found_of e.values) }
