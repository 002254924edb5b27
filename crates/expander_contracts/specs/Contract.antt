-- What the parts of the expander ask and give: each does what its piece of the definition does.
use Rattle.std.specs.Prelude.{Option as Maybe, Some, None, IfSome, Result, ◌≡◌, List, [], ◌∷◌, ◌++◌, ℕ, ◌<◌, length, drop}
use Rattle.std.proofs.Math.Option.{Option, none, some}
use Rattle.ast.specs.Ast.{NodeOrigin, FieldValue, Field, InterfaceDecl, Statement}
use Rattle.ast.specs.Lookups.{proto_at}
use Rattle.sheet_rows.specs.declared.row.Row.{Row}
use Rattle.sheet_rows.specs.Rows.{rows, front, rest}
use Rattle.sheet_rows.specs.Print.{row}
use Rattle.sheet_rows.specs.Parse.{value_of, field_of, interface_of, interfaces_of, statement_of, statements_of, origin_of}
use Rattle.source_directory.specs.Directory.{number_of, Slot}
use Rattle.pick_definition.specs.Picks.{Prototype}
use Rattle.expansion_definition.specs.Input.{Input, docs, last_field}
use Rattle.expansion_definition.specs.Scopes.{Scope}
use Rattle.expansion_definition.specs.State.{Comp, ◌>>=◌, map_m, fold_m, start_state}
use Rattle.expansion_definition.specs.Values.{Values, Env, src, Copier, value}
use Rattle.expansion_definition.specs.PlainCopy.{copy_origin, copy_field, copy_interface, somes, copy_plain}
use Rattle.expansion_definition.specs.Instances.{Body, interface_value, store, values, body_statement, instantiate}
use Rattle.expansion_definition.specs.Copy.{copy}
use Rattle.expansion_definition.specs.Expand.{statement, statements}
use Rattle.journal_records.specs.Records.{tag_id, tag_field, tag_interface, tag_statement, tag_stored}
use Rattle.journal_reading.specs.Reading.{value_at, fields_at, interfaces_at, statements_at, values_at, body_of}
use Rattle.journal_reading.specs.WellFormed.{HandleAt, NodeAt}
use Rattle.journal_reading.specs.RecordsStay.{Unrecorded}
use Rattle.refine_records.specs.declared.Limits.{Limits}
use Rattle.std.specs.declared.result.Result.TheVariants.{Ok, Err}
use Rattle.refine_records.specs.declared.Counts.{Counts}
use Rattle.refine_records.specs.declared.NodeCopy.{NodeCopy}
use Rattle.refine_records.specs.declared.Refusal.{Refusal}
use Rattle.refine_records.specs.declared.Env as code
use Rattle.refine_records.specs.Sound.{input_of, nothing_yet, Standing, Later, EnvAt, env_of}
use Rattle.refine_records.specs.Does.{Answer, given, did, result_of, IfDone, Does}
use Rattle.expander_parts.specs.Contract.{source_of, Lent, rows_of, node_at_row}

-- ---- where a part begins

-- an Env that stands, and its slot's document is its scope's
pub record Here (root library dir w : List ℕ) (L : Limits) (t : Counts) (e : code.Env) : Type 0 where
  pub standing : Standing L w t
  pub lent : Lent L root library dir w
  pub env : EnvAt w t.charges e
  pub slot : Slot dir e.slot
  pub number : number_of dir e.slot ≡ src (env_of w e)

-- and a row of it
pub record AtRow (root library dir : List ℕ) (slot row : ℕ) : Type 0 where
  pub below : row < length (rows_of root library dir slot)

-- ---- what a part gives: what its piece of the definition gives, and of that P

pub record Yields {B : Type 0} (root library : List ℕ) (L : Limits) (young : ℕ) (m : Input → Comp B) (P : List ℕ → Counts → ℕ → ℕ → B → Type 0) (w : List ℕ) (t : Counts) (w' : List ℕ) (a : Answer) : Type 0 where
  pub given : B
  pub does : (D : ℕ) → Does (source_of root library D) L young (λ u v p. given) (m (input_of (source_of root library D) L)) w t w' a
  pub done : IfDone (λ t' v p. P w' t' v p given) a

-- a number
pub record Is (w : List ℕ) (t : Counts) (v p : ℕ) (n : ℕ) : Type 0 where
  pub value : n ≡ v

-- a node, and the place of its record
pub record Placed (w : List ℕ) (t : Counts) (v p : ℕ) (o : ℕ) : Type 0 where
  pub value : o ≡ v
  pub node : NodeAt w t.charges v p

-- an origin of a kind
pub record Origin (kind : ℕ) (w : List ℕ) (t : Counts) (v p : ℕ) (o : NodeOrigin) : Type 0 where
  pub value : o ≡ origin_of (row 2 0 0 kind v 0 0 0 ∷ [])

-- a value of a type tag and a class
pub record Value (ty class : ℕ) (w : List ℕ) (t : Counts) (v p : ℕ) (x : FieldValue) : Type 0 where
  pub value : x ≡ value_at w ty class v
  pub ids : class ≡ 2 → HandleAt w t.charges tag_id v

-- what was given follows the list `old`
pub record ListAppended {A B : Type 0} (tag : ℕ) (list_at : List ℕ → ℕ → List A) (list : B → List A) (old : List A) (w : List ℕ) (t : Counts) (v p : ℕ) (b : B) : Type 0 where
  pub handle : HandleAt w t.charges tag v
  pub all : list_at w v ≡ old ++ list b

abbrev pub list : {A : Type 0} → Option A → List A
list none = []
list (some a) = a ∷ []

abbrev pub one : {A : Type 0} → A → List A
one a = a ∷ []

abbrev pub AddsField : List Field → List ℕ → Counts → ℕ → ℕ → Option Field → Type 0
AddsField = ListAppended tag_field fields_at list

abbrev pub AddsInterface : List InterfaceDecl → List ℕ → Counts → ℕ → ℕ → InterfaceDecl → Type 0
AddsInterface = ListAppended tag_interface interfaces_at one

abbrev pub AddsStatement : List Statement → List ℕ → Counts → ℕ → ℕ → Option Statement → Type 0
AddsStatement = ListAppended tag_statement statements_at list

-- the whole list
abbrev pub Fields : List ℕ → Counts → ℕ → ℕ → List (Option Field) → Type 0
Fields = ListAppended tag_field fields_at somes []

abbrev pub Interfaces : List ℕ → Counts → ℕ → ℕ → List InterfaceDecl → Type 0
Interfaces = ListAppended tag_interface interfaces_at (λ l. l) []

abbrev pub TopStatements : List ℕ → Counts → ℕ → ℕ → List (Option Statement) → Type 0
TopStatements = ListAppended tag_statement statements_at somes []

-- the values of an instance's interfaces
pub record StoredValues (w : List ℕ) (t : Counts) (v p : ℕ) (vs : Values) : Type 0 where
  pub handle : HandleAt w t.charges tag_stored v
  pub all : vs ≡ values_at w v

-- what the body of scope n has given; place 0 is no root
pub record BodySoFar (n : ℕ) (w : List ℕ) (t : Counts) (out place : ℕ) (b : Body) : Type 0 where
  pub body : b ≡ body_of w t.charges n out place
  pub rooted : 0 < place → NodeAt w t.charges out place
  pub unrecorded : Unrecorded w t.charges n

-- a body that is copied: its Env, the instance's, and what the body gave so far
pub record InBody (root library dir w : List ℕ) (L : Limits) (t : Counts) (e inner : code.Env) (out place : ℕ) : Type 0 where
  pub env : EnvAt w t.charges e
  pub here : Here root library dir w L t inner
  pub opened : inner.scope < t.scopes
  pub rooted : 0 < place → NodeAt w t.charges out place
  pub unrecorded : Unrecorded w t.charges inner.scope

-- the PROTO of a slot's document
abbrev pub prototype_at : List ℕ → ℕ → ℕ → Prototype
prototype_at dir slot proto = record { document = number_of dir slot; proto = proto }

-- ---- the parts

-- the value of one interface, and what is stored then: a turn of `values`
unfoldable pub given_by : Input → (Env → Copier) → Env → Prototype → List Field → ℕ → InterfaceDecl → Values → Comp Values
given_by I f env p fields k d vs = interface_value I f env (Scope.Default p k env.scope) d.value (last_field d.name fields) >>= store I d.name vs

abbrev pub Copied : (root library w : List ℕ) → Limits → Counts → code.Env → (id depth : ℕ) → (w' : List ℕ) → Answer → Type 0
Copied root library w L t e id depth = Yields root library L t.scopes (λ I. copy I depth (env_of w e) id) Placed w t

abbrev pub PlainNodeCopied : (root library dir w : List ℕ) → Limits → Counts → code.Env → (id row depth : ℕ) → (w' : List ℕ) → Answer → Type 0
PlainNodeCopied root library dir w L t e id row depth =
    Yields root library L t.scopes (λ I. copy_plain I (copy I depth (env_of w e)) (env_of w e) id (node_at_row root library dir e.slot row)) Placed w t

abbrev pub OriginCopied : (root library dir w : List ℕ) → Limits → Counts → code.Env → (row : ℕ) → (w' : List ℕ) → Answer → Type 0
OriginCopied root library dir w L t e row =
    Yields root library L t.scopes (λ I. copy_origin I (env_of w e) (origin_of (drop row (rows_of root library dir e.slot))))
    (Origin (front (drop row (rows_of root library dir e.slot))).c) w t

abbrev pub FieldsCopied : (root library dir w : List ℕ) → Limits → Counts → code.Env → (new row depth : ℕ) → (w' : List ℕ) → Answer → Type 0
FieldsCopied root library dir w L t e new row depth =
    Yields root library L t.scopes (λ I. map_m (copy_field I (copy I depth (env_of w e)) (env_of w e) new) (node_at_row root library dir e.slot row).fields)
    Fields w t

abbrev pub FieldAdded : (root library dir w : List ℕ) → Limits → Counts → code.Env → (new row h depth : ℕ) → (w' : List ℕ) → Answer → Type 0
FieldAdded root library dir w L t e new row h depth =
    Yields root library L t.scopes (λ I. copy_field I (copy I depth (env_of w e)) (env_of w e) new (field_of (drop row (rows_of root library dir e.slot))))
    (AddsField (fields_at w h)) w t

abbrev pub InterfacesCopied : (root library dir w : List ℕ) → Limits → Counts → code.Env → (new row depth : ℕ) → (w' : List ℕ) → Answer → Type 0
InterfacesCopied root library dir w L t e new row depth =
    Yields root library L t.scopes (λ I. map_m (copy_interface I (copy I depth (env_of w e)) (env_of w e) new) (node_at_row root library dir e.slot row).interface)
    Interfaces w t

abbrev pub InterfaceAdded : (root library dir w : List ℕ) → Limits → Counts → code.Env → (new row h depth : ℕ) → (w' : List ℕ) → Answer → Type 0
InterfaceAdded root library dir w L t e new row h depth =
    Yields root library L t.scopes (λ I. copy_interface I (copy I depth (env_of w e)) (env_of w e) new (interface_of (drop row (rows_of root library dir e.slot))))
    (AddsInterface (interfaces_at w h)) w t

abbrev pub ValueCopied : (root library dir w : List ℕ) → Limits → Counts → code.Env → (row depth : ℕ) → (w' : List ℕ) → Answer → Type 0
ValueCopied root library dir w L t e row depth =
    Yields root library L t.scopes (λ I. value I (copy I depth (env_of w e)) (value_of (drop row (rows_of root library dir e.slot))))
    (Value (front (drop row (rows_of root library dir e.slot))).e (front (drop row (rows_of root library dir e.slot))).f) w t

-- an instance of the PROTO of a slot's document
abbrev pub Instantiated : (root library dir w : List ℕ) → Limits → Counts → code.Env → (id row slot proto depth : ℕ) → (w' : List ℕ) → Answer → Type 0
Instantiated root library dir w L t e id row slot proto depth =
    Yields root library L t.scopes
    (λ I. instantiate I (copy I depth) (env_of w e) id (node_at_row root library dir e.slot row) (prototype_at dir slot proto) (proto_at (docs I) (number_of dir slot) proto))
    Placed w t

-- the PROTO stands at the row decl
abbrev pub ValuesStored : (root library dir w : List ℕ) → Limits → Counts → code.Env → (row slot proto decl depth : ℕ) → (w' : List ℕ) → Answer → Type 0
ValuesStored root library dir w L t e row slot proto decl depth =
    Yields root library L t.scopes
    (λ I. values I (copy I depth) (env_of w e) (prototype_at dir slot proto) (node_at_row root library dir e.slot row).fields 0 (interfaces_of (rest (drop decl (rows_of root library dir slot)))) [])
    StoredValues w t

-- the k-th interface stands at the row at; h has the values of those before it
abbrev pub ValueStored : (root library dir w : List ℕ) → Limits → Counts → code.Env → (row slot proto at k h depth : ℕ) → (w' : List ℕ) → Answer → Type 0
ValueStored root library dir w L t e row slot proto at k h depth =
    Yields root library L t.scopes
    (λ I.
    given_by I (copy I depth) (env_of w e) (prototype_at dir slot proto) (node_at_row root library dir e.slot row).fields k
    (interface_of (drop at (rows_of root library dir slot))) (values_at w h))
    StoredValues w t

-- the body of the PROTO whose rows are R
abbrev pub BodyCopied : (root library w : List ℕ) → Limits → Counts → (e : code.Env) (id : ℕ) (inner : code.Env) (R : List Row) (depth : ℕ) → (w' : List ℕ) → Answer → Type 0
BodyCopied root library w L t e id inner R depth =
    Yields root library L inner.scope
    (λ I. fold_m (body_statement I (copy I depth) (env_of w e) id (env_of w inner)) (body_of w t.charges inner.scope 0 0) (statements_of (rest R)))
    (BodySoFar inner.scope) w t

abbrev pub BodyStatementCopied : (root library w : List ℕ) → Limits → Counts → (e : code.Env) (id : ℕ) (inner : code.Env) (R : List Row) (row out place depth : ℕ) → (w' : List ℕ) → Answer → Type 0
BodyStatementCopied root library w L t e id inner R row out place depth =
    Yields root library L inner.scope
    (λ I. body_statement I (copy I depth) (env_of w e) id (env_of w inner) (body_of w t.charges inner.scope out place) (statement_of (drop row R)))
    (BodySoFar inner.scope) w t

-- the root of a body as numbers: its copy and the place of its record, 0 and 0 for none
abbrev pub root_id : Maybe NodeCopy → ℕ
root_id None = 0
root_id (Some x) = x.id.0

abbrev pub root_place : Maybe NodeCopy → ℕ
root_place None = 0
root_place (Some x) = x.place

abbrev pub root_given : Counts → Result (Maybe NodeCopy) Refusal → Answer
root_given = given root_id root_place

-- a root is at no place 0
abbrev pub Rooted : Maybe NodeCopy → Type 0
Rooted r = IfSome r (λ x. 0 < x.place)

-- an answer that leaves the body's root as it was
abbrev pub kept_of : Answer → ℕ → ℕ → Answer
kept_of (Ok a') out place = did a'.st out place
kept_of (Err x') out place = Err x'

-- ---- the top

abbrev pub StatementAdded : (root library w : List ℕ) → Limits → Counts → code.Env → (row h depth : ℕ) → (w' : List ℕ) → Answer → Type 0
StatementAdded root library w L t e row h depth =
    Yields root library L t.scopes (λ I. statement I (copy I depth (env_of w e)) (env_of w e) (statement_of (drop row (rows root)))) (AddsStatement (statements_at w h)) w t

abbrev pub TopsCopied : (root library w : List ℕ) → Limits → Counts → code.Env → (row depth : ℕ) → (w' : List ℕ) → Answer → Type 0
TopsCopied root library w L t e row depth =
    Yields root library L t.scopes (λ I. map_m (statement I (copy I depth (env_of w e)) (env_of w e)) (statements_of (rest (drop row (rows root))))) TopStatements w t

-- no record stands yet
pub record NothingRecorded (root library dir w : List ℕ) (L : Limits) : Type 0 where
  pub standing : Standing L w nothing_yet
  pub lent : Lent L root library dir w

-- the top statements, from the start
pub record TopStatementsCopied (root library w : List ℕ) (L : Limits) (depth : ℕ) (w' : List ℕ) (a : Answer) : Type 0 where
  pub same : result_of (source_of root library depth) (λ u v p. statements_at u v) w' a ≡ statements (input_of (source_of root library depth) L) start_state
  pub later : IfDone (λ t' v p. Later L 0 w nothing_yet w' t') a
  pub handle : IfDone (λ t' v p. HandleAt w' t'.charges tag_statement v) a
