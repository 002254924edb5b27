-- What the steps that write one record ask and give.
use Rattle.std.specs.Prelude.{◌≡◌, true, List, ◌∷◌, ℕ, ◌+◌, ◌*◌, ◌≤◌, ◌<◌, length}
use Rattle.ast.specs.Choice.{map_o, and_then}
use Rattle.sheet_rows.specs.Parse.{optional}
use Rattle.expansion_definition.specs.State.{ok, ◌>>◌, lookup}
use Rattle.expansion_definition.specs.Charges.{charge}
use Rattle.expansion_definition.specs.Values.{value_named, clone}
use Rattle.expansion_definition.specs.PlainCopy.{reserve, associate}
use Rattle.expansion_definition.specs.Instances.{open_scope, add_entry}
use Rattle.journal_records.specs.declared.Record.{Record}
use Rattle.std.specs.declared.option.Option.TheVariants.{Some}
use Rattle.std.specs.declared.result.Result.{Result}
use Rattle.std.specs.declared.result.Result.TheVariants.{Ok, Err}
use Rattle.refine_records.specs.declared.Refusal.{Refusal}
use Rattle.refine_records.specs.declared.Refusal.TheVariants.{TooManyRows}
use Rattle.journal_records.specs.Records.{tag_id, tag_order, tag_stored, tag_scope, tag_association, cell, Pushed}
use Rattle.journal_records.specs.Made.{node_record}
use Rattle.journal_index.specs.Index.{Newest, found_of}
use Rattle.journal_lists.specs.Owned.{OwnedTag, Appended}
use Rattle.journal_reading.specs.Reading.{value_at, value_rec, values_at, scope_by, scope_rec, map_of}
use Rattle.journal_reading.specs.WellFormed.{HandleAt, NodeAt, valued}
use Rattle.refine_records.specs.declared.Limits.{Limits}
use Rattle.refine_records.specs.declared.Counts.{Counts}
use Rattle.refine_records.specs.declared.Env as code
use Rattle.refine_records.specs.Sound.{Source, input_of, EnvAt, env_of}
use Rattle.refine_records.specs.Does.{Answer, nothing, number, IfDone, Does}

-- n charges more
abbrev pub charged : Counts → ℕ → Counts
charged t n = record { nodes = t.nodes; scopes = t.scopes; externs = t.externs; charges = t.charges + n }

-- where the next record goes, or that there are as many as there may be
abbrev pub RoomFor : Limits → Counts → Result ℕ Refusal → Type 0
RoomFor L t (Ok c) = (c ≡ t.charges) × (c < L.rows)
RoomFor L t (Err x') = (x' ≡ TooManyRows) × (L.rows ≤ t.charges)

-- ---- a record of a list of a node or a value
pub record Keepable (w : List ℕ) (c : ℕ) (r : Record) : Type 0 where
  pub least : tag_id ≤ r.tag
  pub most : r.tag ≤ tag_order
  pub before : HandleAt w c r.tag r.h
  pub value : valued r.tag ≡ true → r.f ≡ 2 → HandleAt w c tag_id r.g

-- it is written, and v is its handle
pub record KeptAt (w : List ℕ) (t : Counts) (r : Record) (w' : List ℕ) (t' : Counts) (v : ℕ) : Type 0 where
  pub counts : t' ≡ charged t 1
  pub handle : v ≡ t.charges + 1
  pub pushed : Pushed w w' t.charges r

-- a charge, and its record
pub record RecordKept (L : Limits) (w : List ℕ) (t : Counts) (r : Record) (w' : List ℕ) (a : Answer) : Type 0 where
  pub does : (S : Source) (young : ℕ) → Does S L young nothing (charge (input_of S L)) w t w' a
  pub done : IfDone (λ t' v p. KeptAt w t r w' t' v) a

-- ---- a stored value, behind those of h
pub record Storable (w : List ℕ) (c class payload h : ℕ) : Type 0 where
  pub before : HandleAt w c tag_stored h
  pub value : class ≡ 2 → HandleAt w c tag_id payload

-- v is the handle of the stored values with it
pub record StoredAt (w : List ℕ) (name ty class payload h : ℕ) (w' : List ℕ) (t' : Counts) (v : ℕ) : Type 0 where
  pub handle : HandleAt w' t'.charges tag_stored v
  pub list : values_at w' v ≡ (name, value_at w ty class payload) ∷ values_at w h

pub record ValueKept (L : Limits) (w : List ℕ) (t : Counts) (name ty class payload h : ℕ) (w' : List ℕ) (a : Answer) : Type 0 where
  pub does : (S : Source) (young : ℕ) → Does S L young nothing (charge (input_of S L)) w t w' a
  pub done : IfDone (λ t' v p. StoredAt w name ty class payload h w' t' v) a

-- ---- a record of a scope's own lists
pub record Ownership (w : List ℕ) (c : ℕ) (e : code.Env) (r : Record) : Type 0 where
  pub env : EnvAt w c e
  pub tag : OwnedTag r.tag
  pub scope : r.a ≡ e.scope

pub record OwnedAt (w : List ℕ) (t : Counts) (e : code.Env) (r : Record) (w' : List ℕ) (t' : Counts) : Type 0 where
  pub counts : t' ≡ charged t 1
  pub appended : Appended w w' e.place t.charges r

-- a charge, and its record: an extra root, a route; an association
pub record RecordOwned (L : Limits) (w : List ℕ) (t : Counts) (e : code.Env) (r : Record) (w' : List ℕ) (a : Answer) : Type 0 where
  pub body : (r.tag ≡ tag_association → ⊥) → (S : Source) (young : ℕ) → young ≤ e.scope → Does S L young nothing (charge (input_of S L)) w t w' a
  pub association : r.tag ≡ tag_association → (S : Source) (young : ℕ) → Does S L young nothing (associate (input_of S L) (env_of w e) (record { interface = r.b; node = r.c; field = r.d })) w t w' a
  pub done : IfDone (λ t' v p. OwnedAt w t e r w' t') a

-- ---- a map entry: the copy of a source id, a node
pub record MappedAt (t : Counts) (out place : ℕ) (t' : Counts) (v p : ℕ) : Type 0 where
  pub counts : t' ≡ charged t 1
  pub value : v ≡ out
  pub node : p ≡ place

pub record Mapped (L : Limits) (w : List ℕ) (t : Counts) (scope id out place : ℕ) (w' : List ℕ) (a : Answer) : Type 0 where
  pub does : (S : Source) (young : ℕ) → Does S L young nothing (charge (input_of S L) >> (λ st. ok tt (add_entry scope id out st))) w t w' a
  pub done : IfDone (λ t' v p. MappedAt t out place t' v p) a

-- ---- a new node and its map entry
pub record ReservedAt (w : List ℕ) (t : Counts) (w' : List ℕ) (t' : Counts) (v p : ℕ) : Type 0 where
  pub counts : t' ≡ record { nodes = t.nodes + 1; scopes = t.scopes; externs = t.externs; charges = t.charges + 2 }
  pub value : v ≡ t.nodes
  pub place : p ≡ t.charges + 1
  pub node : NodeAt w' t'.charges v p

pub record Reserved (L : Limits) (w : List ℕ) (t : Counts) (e : code.Env) (id : ℕ) (w' : List ℕ) (a : Answer) : Type 0 where
  pub does : (S : Source) (young : ℕ) → Does S L young number (reserve (input_of S L) (env_of w e) id) w t w' a
  pub done : IfDone (λ t' v p. ReservedAt w t w' t' v p) a

-- ---- a new scope: its number, and the place of its record
pub record OpenedAt (w : List ℕ) (t : Counts) (kind document proto index opener : ℕ) (w' : List ℕ) (t' : Counts) (v p : ℕ) : Type 0 where
  pub counts : t' ≡ record { nodes = t.nodes; scopes = t.scopes + 1; externs = t.externs; charges = t.charges + 1 }
  pub value : v ≡ t.scopes
  pub place : p ≡ t.charges
  pub tag : cell w' p 0 ≡ tag_scope
  pub number : cell w' p 6 ≡ v
  pub entry : scope_rec w' p ≡ scope_by kind document proto index opener

pub record ScopeOpened (L : Limits) (w : List ℕ) (t : Counts) (kind document proto index opener : ℕ) (w' : List ℕ) (a : Answer) : Type 0 where
  pub does : (S : Source) (young : ℕ) → Does S L young number (open_scope (input_of S L) (scope_by kind document proto index opener)) w t w' a
  pub done : IfDone (λ t' v p. OpenedAt w t kind document proto index opener w' t' v p) a

-- ---- the copy of a source id
pub record CopyLooked (w : List ℕ) (c scope id : ℕ) (f : Newest) : Type 0 where
  pub same : lookup (map_of w c) scope id ≡ map_o (λ r. cell w r 3) (found_of f)
  pub node : (r : ℕ) → f ≡ Some r → NodeAt w c (cell w r 3) (cell w r 4)
  pub low : (r : ℕ) → f ≡ Some r → r < c

-- ---- o is what a route's end is remapped to: its copy in the scope, or none
abbrev pub EndOf : List ℕ → ℕ → ℕ → ℕ → ℕ → Type 0
EndOf w c scope id o = optional o ≡ and_then (optional id) (lookup (map_of w c) scope)

-- ---- a node gets its contents: its record is written again
abbrev pub contents_of : List ℕ → ℕ → ℕ → ℕ → ℕ → ℕ → ℕ → ℕ → ℕ → ℕ → Record
contents_of w n ty def kind id fields interface statements order =
    node_record (cell w n 1) (cell w n 2) ty def kind id fields interface statements order

pub record Fillable (w : List ℕ) (place : ℕ) : Type 0 where
  pub some : 0 < place
  pub room : place * 12 ≤ length w

-- ---- values

-- the stored value of a name
pub record ValueFound (w : List ℕ) (h name : ℕ) (f : Newest) : Type 0 where
  pub same : value_named name (values_at w h) ≡ map_o (value_rec w) (found_of f)
  pub stored : (r : ℕ) → f ≡ Some r → cell w r 0 ≡ tag_stored
  pub low : (r : ℕ) → f ≡ Some r → r < h

-- ---- the charges of a value that is cloned
pub record Cloned (L : Limits) (w : List ℕ) (t : Counts) (class payload : ℕ) (w' : List ℕ) (a : Answer) : Type 0 where
  pub does : (S : Source) (young ty : ℕ) → Does S L young (λ u v p. value_at u ty class v) (clone (input_of S L) (value_at w ty class payload)) w t w' a
  pub done : IfDone (λ t' v p. v ≡ payload) a
