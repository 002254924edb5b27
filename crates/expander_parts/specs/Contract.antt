-- What the steps that copy no node ask and give.
use Rattle.std.specs.Prelude.{◌≡◌, List, [], ◌∷◌, ◌++◌, map, ℕ, ◌+◌, ◌*◌, ◌-◌, ◌≤◌, length, drop}
use Rattle.std.proofs.Math.Option.{Option, some}
use Rattle.ast.specs.Ast.{Field, Statement, Node}
use Rattle.sheet_rows.specs.declared.row.Row.{Row}
use Rattle.sheet_rows.specs.declared.part.Part.{Part}
use Rattle.sheet_rows.specs.Rows.{rows}
use Rattle.sheet_rows.specs.Parse.{elements, route_of, statement_of, node_of}
use Rattle.sheet_lookup.specs.Lookup.{sheet_of}
use Rattle.expansion_definition.specs.State.{◌>>◌, ret, map_m}
use Rattle.expansion_definition.specs.Charges.{charge_each}
use Rattle.expansion_definition.specs.Values.{Env, src}
use Rattle.expansion_definition.specs.Externs.{extern_proto}
use Rattle.expansion_definition.specs.PlainCopy.{copy_route, copy_extern, copy_statement, somes, kept_order}
use Rattle.journal_records.specs.Records.{tag_statement, tag_order}
use Rattle.journal_reading.specs.Reading.{statement_rec, statements_at, order_at}
use Rattle.journal_reading.specs.WellFormed.{HandleAt}
use Rattle.source_directory.specs.Directory.{number_of, from_of}
use Rattle.source_lookup.specs.Sourced.{Sourced}
use Rattle.refine_records.specs.declared.Limits.{Limits}
use Rattle.refine_records.specs.declared.Counts.{Counts}
use Rattle.refine_records.specs.declared.Env as code
use Rattle.refine_records.specs.Sound.{Source, input_of, heads_at, env_of}
use Rattle.refine_records.specs.Does.{Answer, Decode, number, IfDone, Does}
use Rattle.expander_marks.specs.Positions.{is_some}
use Rattle.expander_marks.specs.Kept.{kept_statement, kept_field}

-- ---- what is read

-- the source of a run on two sheets, with D
abbrev pub source_of : List ℕ → List ℕ → ℕ → Source
source_of root library D = record { root = root; library = library; depth = D }

-- the directory answers for the two sheets, by words behind the heads, which no step writes
pub record Lent (L : Limits) (root library dir w : List ℕ) : Type 0 where
  pub sourced : Sourced root library dir w
  pub small : length root ≤ 8 * 1048576
  pub behind : heads_at L + L.slots ≤ from_of dir

-- the rows of the document of a slot
abbrev pub rows_of : List ℕ → List ℕ → List ℕ → ℕ → List Row
rows_of root library dir slot = rows (sheet_of root library (number_of dir slot))

-- the node that stands at a row there
abbrev pub node_at_row : List ℕ → List ℕ → List ℕ → ℕ → ℕ → Node
node_at_row root library dir slot row = node_of (drop row (rows_of root library dir slot))

-- ---- how many elements a part has
pub record Counted (t : Part) (R : List Row) (p n : ℕ) : Type 0 where
  pub is : n ≡ length (elements t (drop p R))
  pub few : n ≤ length R

-- ---- an extern's id in the output, of any Env of that document
pub record Declared (L : Limits) (root library dir w : List ℕ) (t : Counts) (slot id : ℕ) (w' : List ℕ) (a : Answer) : Type 0 where
  pub does : (D young : ℕ) (e : Env) → src e ≡ number_of dir slot → Does (source_of root library D) L young number (extern_proto (input_of (source_of root library D) L) e id) w t w' a

-- ---- one statement, behind those of a handle

-- the value is the handle of its record
abbrev pub statement_at : Decode (Option Statement)
statement_at w v p = some (statement_rec w (v - 1))

pub record StatementAppended (w : List ℕ) (h : ℕ) (w' : List ℕ) (t' : Counts) (v : ℕ) : Type 0 where
  pub handle : HandleAt w' t'.charges tag_statement v
  pub list : statements_at w' v ≡ statements_at w h ++ (statement_rec w' (v - 1) ∷ [])

-- the Route of a row, in any Env of that scope
pub record Routed (L : Limits) (w : List ℕ) (t : Counts) (scope : ℕ) (r : Row) (h : ℕ) (w' : List ℕ) (a : Answer) : Type 0 where
  pub does : (S : Source) (young : ℕ) (e : Env) → e.scope ≡ scope → Does S L young statement_at (copy_route (input_of S L) e (route_of (r ∷ []))) w t w' a
  pub done : IfDone (λ t' v p. StatementAppended w h w' t' v) a

pub record ExternStated (L : Limits) (root library dir w : List ℕ) (t : Counts) (slot id h : ℕ) (w' : List ℕ) (a : Answer) : Type 0 where
  pub does : (D young : ℕ) (e : Env) → src e ≡ number_of dir slot → Does (source_of root library D) L young statement_at (copy_extern (input_of (source_of root library D) L) e id) w t w' a
  pub done : IfDone (λ t' v p. StatementAppended w h w' t' v) a

-- ---- the statements of a node

-- out is what the statement of a row has become; the handle is of those kept so far
pub record OneKept (source : Statement) (out : Option Statement) (w : List ℕ) (h : ℕ) (w' : List ℕ) (t' : Counts) (v : ℕ) : Type 0 where
  pub handle : HandleAt w' t'.charges tag_statement v
  pub list : statements_at w' v ≡ statements_at w h ++ somes (out ∷ [])
  pub kept : is_some out ≡ kept_statement source

pub record StatementCopied (L : Limits) (root library dir w : List ℕ) (t : Counts) (e : code.Env) (r : Row) (h : ℕ) (w' : List ℕ) (a : Answer) : Type 0 where
  pub out : Option Statement
  pub does : (D young : ℕ) (E : Env) → E.scope ≡ e.scope → src E ≡ number_of dir e.slot
      → Does (source_of root library D) L young (λ u v p. out) (copy_statement (input_of (source_of root library D) L) E (statement_of (r ∷ []))) w t w' a
  pub done : IfDone (λ t' v p. OneKept (statement_of (r ∷ [])) out w h w' t' v) a

-- out is what each statement has become; the handle is of those kept
pub record StatementsKept (source : List Statement) (out : List (Option Statement)) (w' : List ℕ) (t' : Counts) (v : ℕ) : Type 0 where
  pub handle : HandleAt w' t'.charges tag_statement v
  pub list : statements_at w' v ≡ somes out
  pub kept : map is_some out ≡ map kept_statement source

-- in any Env of that scope and document
pub record StatementsCopied (L : Limits) (root library dir w : List ℕ) (t : Counts) (e : code.Env) (row : ℕ) (w' : List ℕ) (a : Answer) : Type 0 where
  pub out : List (Option Statement)
  pub does : (D young : ℕ) (E : Env) → E.scope ≡ e.scope → src E ≡ number_of dir e.slot
      → Does (source_of root library D) L young (λ u v p. out) (map_m (copy_statement (input_of (source_of root library D) L) E) (node_at_row root library dir e.slot row).statements) w t w' a
  pub done : IfDone (λ t' v p. StatementsKept (node_at_row root library dir e.slot row).statements out w' t' v) a

-- ---- the body order of a node

-- for all fields and statements that are kept as the source says; the value is the order's handle
pub record OrderCopied (L : Limits) (root library dir w : List ℕ) (t : Counts) (e : code.Env) (row : ℕ) (w' : List ℕ) (a : Answer) : Type 0 where
  pub does : (S : Source) (young : ℕ) (fs : List (Option Field)) (ss : List (Option Statement))
      → map is_some fs ≡ map (kept_field (env_of w e).is_values) (node_at_row root library dir e.slot row).fields
      → map is_some ss ≡ map kept_statement (node_at_row root library dir e.slot row).statements
      → Does S L young (λ u v p. order_at u v)
      (charge_each (input_of S L) (kept_order fs ss (node_at_row root library dir e.slot row).body_order) >> ret (kept_order fs ss (node_at_row root library dir e.slot row).body_order))
      w t w' a
  pub done : IfDone (λ t' v p. HandleAt w' t'.charges tag_order v) a
