-- What the steps about IS bindings and instances ask and give.
use Rattle.std.specs.Prelude.{◌≡◌, Bool, List, [], ◌∷◌, ◌++◌, ℕ, ◌≤◌, ◌<◌, eqb}
use Rattle.std.proofs.Math.Option.{Option, none, some}
use Rattle.ast.specs.Ast.{FieldValue, FieldBinding, Field, InterfaceDecl}
use Rattle.ast.specs.Choice.{and_then}
use Rattle.sheet_rows.specs.declared.row.Row.{Row}
use Rattle.sheet_rows.specs.Parse.{optional}
use Rattle.expansion_definition.specs.State.{◌>>=◌, ◌>>◌, ret}
use Rattle.expansion_definition.specs.Charges.{charge}
use Rattle.expansion_definition.specs.Values.{Copier, value_named, clone}
use Rattle.expansion_definition.specs.PlainCopy.{associate, is_value, with_value, copy_field, interface_with, copy_interface, somes}
use Rattle.expansion_definition.specs.Reached.{is_given}
use Rattle.expansion_definition.specs.Instances.{clone_or, store, record_instance}
use Rattle.journal_records.specs.Records.{tag_id, tag_field, tag_interface, tag_stored, tag_route, cell}
use Rattle.journal_reading.specs.Reading.{value_at, fields_at, interfaces_at, values_at, body_of}
use Rattle.journal_reading.specs.WellFormed.{HandleAt, NodeAt}
use Rattle.journal_reading.specs.RecordsStay.{RecordsStay, Unrecorded}
use Rattle.refine_records.specs.declared.Limits.{Limits}
use Rattle.std.specs.declared.result.Result as either
use Rattle.std.specs.declared.result.Result.TheVariants.{Ok, Err}
use Rattle.refine_records.specs.declared.Refusal.{Refusal}
use Rattle.refine_records.specs.declared.Counts.{Counts}
use Rattle.refine_records.specs.declared.Env as code
use Rattle.refine_records.specs.Sound.{Source, input_of, Later, EnvAt, env_of}
use Rattle.refine_records.specs.Does.{Answer, did, nothing, number, IfDone, Does}
use Rattle.refine_records.specs.Contract.{MappedAt, EndOf}
use Rattle.expander_bindings.specs.declared.Given.{Given}

-- ---- an association
pub record Associated (L : Limits) (w : List ℕ) (t : Counts) (e : code.Env) (interface node field : ℕ) (w' : List ℕ) (a : Answer) : Type 0 where
  pub does : (S : Source) (young : ℕ) → Does S L young nothing (associate (input_of S L) (env_of w e) (record { interface = interface; node = node; field = field })) w t w' a

-- ---- what an IS target has in a scope
-- it is x, and nothing is done
pub record NotGiven (w : List ℕ) (t : Counts) (e : code.Env) (target : ℕ) (x : Option (Option FieldValue)) (w' : List ℕ) (t' : Counts) : Type 0 where
  pub words : w' ≡ w
  pub counts : t' ≡ t
  pub value : is_value (env_of w e) target ≡ x

-- r is x as a class that is not 0
pub record ClassRead (x r : ℕ) : Type 0 where
  pub same : eqb r 2 ≡ eqb x 2
  pub some : r ≡ 0 → ⊥

-- it is v, and v is cloned
pub record ValueCloned (L : Limits) (w : List ℕ) (t : Counts) (e : code.Env) (target : ℕ) (v : FieldValue) (w' : List ℕ) (a : Answer) : Type 0 where
  pub value : is_value (env_of w e) target ≡ some (some v)
  pub does : (S : Source) (young : ℕ) → Does S L young (λ u x p. v) (clone (input_of S L) v) w t w' a

pub record GivenValue (L : Limits) (w : List ℕ) (t : Counts) (e : code.Env) (target : ℕ) (w' : List ℕ) (t' : Counts) (ty class payload : ℕ) : Type 0 where
  pub cloning : ValueCloned L w t e target (value_at w ty class payload) w' (did t' payload 0)
  pub some : class ≡ 0 → ⊥
  pub ids : class ≡ 2 → HandleAt w' t'.charges tag_id payload
  pub same : value_at w' ty class payload ≡ value_at w ty class payload

pub record GivenRefused (L : Limits) (w : List ℕ) (t : Counts) (e : code.Env) (target : ℕ) (w' : List ℕ) (x' : Refusal) : Type 0 where
  pub found : FieldValue
  pub cloning : ValueCloned L w t e target found w' (Err x')

-- what is given, or why it is refused
abbrev pub Targeted : Type 0
Targeted = either.Result Given Refusal

abbrev pub GivenCase : Limits → List ℕ → Counts → code.Env → ℕ → List ℕ → Counts → Targeted → Type 0
GivenCase L w t e target w' t' (Ok Given.Outside) = NotGiven w t e target none w' t'
GivenCase L w t e target w' t' (Ok Given.Without) = NotGiven w t e target (some none) w' t'
GivenCase L w t e target w' t' (Ok (Given.With ty class payload)) = GivenValue L w t e target w' t' ty class payload
GivenCase L w t e target w' t' (Err x') = GivenRefused L w t e target w' x'

pub record TargetValueGiven (L : Limits) (w : List ℕ) (t : Counts) (e : code.Env) (target : ℕ) (w' : List ℕ) (t' : Counts) (g : Targeted) : Type 0 where
  pub case : GivenCase L w t e target w' t' g

-- whether it is a value
pub record HasValue (w : List ℕ) (e : code.Env) (target : ℕ) (r : Bool) : Type 0 where
  pub same : is_given (and_then (env_of w e).is_values (value_named target)) ≡ r

-- ---- a field with an IS
-- the field of a row that has one
abbrev pub is_field_of : Row → Field
is_field_of r = record { name = r.a; binding = FieldBinding.Is r.c; inferred = r.d }

-- what becomes of it: it stays, it is dropped, or it has the value
abbrev pub bound_field : Field → Option (Option FieldValue) → Option Field
bound_field f none = some f
bound_field f (some none) = none
bound_field f (some (some v)) = some (with_value f v)

-- v is the handle of the fields of h and then of x, if it is one
pub record FieldsAfter (w : List ℕ) (h : ℕ) (x : Option Field) (w' : List ℕ) (t' : Counts) (v : ℕ) : Type 0 where
  pub handle : HandleAt w' t'.charges tag_field v
  pub list : fields_at w' v ≡ fields_at w h ++ somes (x ∷ [])

pub record FieldDone (L : Limits) (w : List ℕ) (t : Counts) (e : code.Env) (new : ℕ) (r : Row) (h : ℕ) (w' : List ℕ) (a : Answer) : Type 0 where
  pub does : (S : Source) (young : ℕ) (c : Copier) → Does S L young (λ u v p. bound_field (is_field_of r) (is_value (env_of w e) r.c)) (copy_field (input_of S L) c (env_of w e) new (is_field_of r)) w t w' a
  pub done : IfDone (λ t' v p. FieldsAfter w h (bound_field (is_field_of r) (is_value (env_of w e) r.c)) w' t' v) a

-- ---- an interface with an IS
-- the interface of a row that has one; v: the row's own value
abbrev pub is_interface_of : Row → Option FieldValue → InterfaceDecl
is_interface_of r v = record { access = r.a; field_type = r.b; name = r.c; value = v; is = some r.d }

abbrev pub bound_interface : Row → Option (Option FieldValue) → InterfaceDecl
bound_interface r none = interface_with (is_interface_of r none) none (some r.d)
bound_interface r (some none) = interface_with (is_interface_of r none) none none
bound_interface r (some (some v)) = interface_with (is_interface_of r none) (some v) none

pub record InterfacesAfter (w : List ℕ) (h : ℕ) (x : InterfaceDecl) (w' : List ℕ) (t' : Counts) (v : ℕ) : Type 0 where
  pub handle : HandleAt w' t'.charges tag_interface v
  pub list : interfaces_at w' v ≡ interfaces_at w h ++ (x ∷ [])

pub record InterfaceDone (L : Limits) (w : List ℕ) (t : Counts) (e : code.Env) (new : ℕ) (r : Row) (h : ℕ) (w' : List ℕ) (a : Answer) : Type 0 where
  pub does : (S : Source) (young : ℕ) (c : Copier) (own : Option FieldValue) → Does S L young (λ u v p. bound_interface r (is_value (env_of w e) r.d)) (copy_interface (input_of S L) c (env_of w e) new (is_interface_of r own)) w t w' a
  pub done : IfDone (λ t' v p. InterfacesAfter w h (bound_interface r (is_value (env_of w e) r.d)) w' t' v) a

-- ---- the value of an IS target, stored behind those of h
pub record GivenDone (L : Limits) (w : List ℕ) (t : Counts) (e : code.Env) (target name h : ℕ) (w' : List ℕ) (a : Answer) : Type 0 where
  pub does : (S : Source) (young : ℕ) → Does S L young (λ u v p. values_at u v) (clone_or (input_of S L) (ret none) (and_then (env_of w e).is_values (value_named target)) >>= store (input_of S L) name (values_at w h)) w t w' a
  pub done : IfDone (λ t' v p. HandleAt w' t'.charges tag_stored v) a

-- ---- routes
-- a scope of which no instance is recorded
pub record Remappable (w : List ℕ) (c : ℕ) (e : code.Env) : Type 0 where
  pub env : EnvAt w c e
  pub unrecorded : Unrecorded w c e.scope

-- the remapped ends of its routes are those of now; no node is changed
pub record Remapped (L : Limits) (w : List ℕ) (t : Counts) (scope : ℕ) (w' : List ℕ) : Type 0 where
  pub from : (r : ℕ) → r < t.charges → cell w r 0 ≡ tag_route → cell w r 1 ≡ scope → EndOf w t.charges scope (cell w r 6) (cell w' r 10)
  pub to : (r : ℕ) → r < t.charges → cell w r 0 ≡ tag_route → cell w r 1 ≡ scope → EndOf w t.charges scope (cell w r 7) (cell w' r 11)
  pub calm : RecordsStay t.charges w w'
  pub later : (young : ℕ) → Later L young w t w' t

-- ---- the record of an instance
pub record Recordable (w : List ℕ) (c : ℕ) (e : code.Env) (out place : ℕ) : Type 0 where
  pub remap : Remappable w c e
  pub node : NodeAt w c out place

pub record Recorded (L : Limits) (w : List ℕ) (t : Counts) (e : code.Env) (name def out place : ℕ) (w' : List ℕ) (a : Answer) : Type 0 where
  pub does : (S : Source) (young : ℕ) → young ≤ e.scope
      → Does S L young number (charge (input_of S L) >> record_instance name (optional def) e.scope (body_of w t.charges e.scope out place) out) w t w' a
  pub done : IfDone (λ t' v p. MappedAt t out place t' v p) a
