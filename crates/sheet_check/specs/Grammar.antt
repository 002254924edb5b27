-- Which sheets fit, and where one does not: the first row that doesn't (document 01, Sheets). What may follow what.
use Rattle.std.specs.Prelude.{Option, Some, None, Result, Ok, Err, List, [], ◌∷◌, Bool, true, false, not, ◌&&◌, ◌||◌, ℕ, suc, ◌-◌, ◌/◌, ◌%◌, length, get_or, ltb, leb, eqb}
use Rattle.ast.specs.Choice.{choose}
use Rattle.sheet_rows.specs.declared.row.Row.{Row}
use Rattle.sheet_check.specs.declared.grammar.Form.{Form}
use Rattle.sheet_check.specs.declared.grammar.UnknownForm.{UnknownForm}
use Rattle.sheet_check.specs.declared.grammar.Form.TheVariants.{Root, Library, Expanded, Documents, Protos}
use Rattle.sheet_check.specs.declared.grammar.State.{State}
use Rattle.sheet_check.specs.declared.grammar.Role.{Role}
use Rattle.sheet_check.specs.declared.grammar.Role.TheVariants.{Starts, Opens, Inner, Files, Owed, Never}
use Rattle.sheet_rows.specs.Rows.{none#, rows}
use Rattle.sheet_shape.specs.Shape.{shape_fits}
use Rattle.sheet_check.specs.Checked.{Checked, Fits, Bad}

-- what a row of each kind, 0 to 14, does; no other does anything
abbrev pub roles : List Role
roles =
    Never ∷ Starts ∷ Opens ∷ Inner ∷ Inner ∷ Inner ∷ Inner ∷ Opens ∷ Opens ∷ Owed ∷ Inner ∷ Opens ∷ Files ∷ Inner ∷ Owed ∷ []

unfoldable pub role_of : ℕ → Role
role_of k = get_or roles k Never

-- part: 0 before a document, 1 after its row and before the first of protos, 2 in a node, 7 in a proto, 8 in an extern, 11 in the top, 12 before the first of files or documents
-- last: the kind of the part's last row but those owed, or 0; ids, routes, associations: how many such rows are owed, in this order
abbrev pub opened_part : ℕ → State
opened_part k = record { part = k; last = 0; ids = 0; routes = 0; associations = 0 }

abbrev pub go_if : Bool → State → Option State
go_if b s = choose b (Some s) None

-- "A node is row 2, fields, interfaces, statements, body order, at most one instance. A proto is row 7, interfaces, body statements. An extern is row 8, interfaces of class 0, urls."
abbrev pub stands_in : ℕ → Row → Bool
stands_in part r =
    eqb part 2 && (ltb r.kind 7 || eqb r.kind 13) ||
    eqb part 7 && (eqb r.kind 4 || eqb r.kind 5) ||
    eqb part 8 && (eqb r.kind 4 && eqb r.f 0 || eqb r.kind 10) ||
    eqb part 11 && eqb r.kind 5

-- "in this order": the rows of a part do not go back, and there is one instance
abbrev pub comes_in : State → Row → Bool
comes_in s r = stands_in s.part r && leb s.last r.kind && ltb s.last 13

-- the state after a row inside a part: an instance owes what its row counts, a field or an interface the ids of a class 2 value
abbrev pub after_inner : State → Row → State
after_inner s r =
    choose (eqb r.kind 13)
    (record { part = s.part; last = r.kind; ids = r.b; routes = r.c; associations = r.d })
    (record { part = s.part; last = r.kind; ids = choose (ltb r.kind 5 && eqb r.f 2) r.g 0; routes = 0; associations = 0 })

abbrev pub is_library : Form → Bool
is_library Root = false
is_library Library = true
is_library Expanded = false
is_library Documents = false
is_library Protos = false

-- where a document may begin: "Documents stand one after another in one sheet" (document 02, wish 5)
abbrev pub begins_in : Form → ℕ → Bool
begins_in Root part = eqb part 0
begins_in Library part = eqb part 0
begins_in Expanded part = eqb part 0
begins_in Documents part = leb 11 part
begins_in Protos part = eqb part 0

-- "A document is row 1; nodes; protos; externs; row 11; top statements. A library is any number of files, row 12 then a document."
abbrev pub by_role : Form → State → Row → Role → Option State
by_role form s r Starts = go_if (begins_in form s.part) (opened_part 1)
by_role form s r Opens = go_if (leb 1 s.part && leb s.part r.kind && ltb s.part 11) (opened_part r.kind)
by_role form s r Inner = go_if (comes_in s r) (after_inner s r)
by_role form s r Files = go_if (is_library form && leb 11 s.part) (opened_part 0)
by_role form s r Owed = None
by_role form s r Never = None

abbrev pub less_id : State → State
less_id s =
    record { part = s.part; last = s.last; ids = s.ids - 1; routes = s.routes; associations = s.associations }

abbrev pub less_route : State → State
less_route s =
    record { part = s.part; last = s.last; ids = s.ids; routes = s.routes - 1; associations = s.associations }

abbrev pub less_association : State → State
less_association s =
    record { part = s.part; last = s.last; ids = s.ids; routes = s.routes; associations = s.associations - 1 }

-- the state after a row of the right shape: "its counted id, Route and association rows" first
unfoldable pub moves : Form → State → Row → Option State
moves form s r =
    choose (ltb 0 s.ids) (go_if (eqb r.kind 9) (less_id s))
    (choose (ltb 0 s.routes) (go_if (eqb r.kind 5 && eqb r.a 3) (less_route s))
    (choose (ltb 0 s.associations) (go_if (eqb r.kind 14) (less_association s))
    (by_role form s r (role_of r.kind))))

-- whether its urls may have marks: "Sheets given to Expand keep 0 there; operations on an expanded document take 0 or 1." (document 02, wish 1)
abbrev pub takes_marks : Form → Bool
takes_marks Root = false
takes_marks Library = false
takes_marks Expanded = true
takes_marks Documents = true
takes_marks Protos = false

-- a row by its shape and its place
abbrev pub row_fits : Form → State → Row → Option State
row_fits form s r = choose (shape_fits (takes_marks form) r) (moves form s r) None

-- "An expanded document is a root sheet without kind 7, Proto statements or origin Proto, whose nodes hold only Route and ExternProto statements and whose interfaces with an IS have class 0."
abbrev pub stays_expanded : State → Row → Bool
stays_expanded s r =
    not
    (eqb r.kind 7 ||
    eqb r.kind 2 && eqb r.c 1 ||
    eqb r.kind 5 && eqb r.a 1 ||
    eqb r.kind 5 && eqb s.part 2 && (eqb r.a 0 || eqb r.a 4) ||
    eqb r.kind 4 && not (eqb r.d none#) && ltb 0 r.f)

-- "sheets of protos as in 01, without body statements" (document 02, wish 14): each is row 7 and its interfaces with their ids
abbrev pub stays_bare : Row → Bool
stays_bare r = eqb r.kind 7 || eqb r.kind 4 || eqb r.kind 9

abbrev pub allowed : Form → State → Row → Bool
allowed Root s r = true
allowed Library s r = true
allowed Expanded s r = stays_expanded s r
allowed Documents s r = stays_expanded s r
allowed Protos s r = stays_bare r

unfoldable pub fits : Form → State → Row → Option State
fits form s r = choose (allowed form s r) (row_fits form s r) None

-- a sheet may end in the top, or before the first of files or documents; one of protos anywhere
abbrev pub ends_in : Form → ℕ → Bool
ends_in Root part = leb 11 part
ends_in Library part = leb 11 part
ends_in Expanded part = leb 11 part
ends_in Documents part = leb 11 part
ends_in Protos part = true

-- with nothing owed
abbrev pub has_ended : Form → State → Bool
has_ended form s = ends_in form s.part && eqb s.ids 0 && eqb s.routes 0 && eqb s.associations 0

abbrev pub go_on : Option State → (State → Checked) → ℕ → Checked
go_on (Some s) k n = k s
go_on None k n = Bad n

-- the first row that doesn't fit, counted from n; the count of all, where the sheet ends early
unfoldable pub run : Form → State → ℕ → List Row → Checked
run form s n [] = choose (has_ended form s) Fits (Bad n)
run form s n (r ∷ l) = go_on (fits form s r) (λ t. run form t (suc n) l) n

abbrev pub starts_in : Form → ℕ
starts_in Root = 0
starts_in Library = 12
starts_in Expanded = 0
starts_in Documents = 12
starts_in Protos = 1

abbrev pub start : Form → State
start form = opened_part (starts_in form)

abbrev pub checked : Form → List Row → Checked
checked form l = run form (start form) 0 l

abbrev pub is_fits : Checked → Bool
is_fits (Ok _) = true
is_fits (Err _) = false

-- "An operation that takes one calls any other sheet malformed, also a length not a multiple of 8 words"
abbrev pub is_sheet : Form → List ℕ → Bool
is_sheet form s = choose (eqb (length s % 8) 0) (is_fits (checked form (rows s))) false

abbrev pub is_expanded : List ℕ → Bool
is_expanded s = is_sheet Expanded s

-- ---- the check by a form's number, as C asks for it

-- "the first that doesn't fit, the number of whole rows where the sheet ends early or its words are no multiple of 8"
abbrev pub or_past : Checked → List ℕ → Checked
or_past (Ok _) s = choose (eqb (length s % 8) 0) Fits (Bad (length s / 8))
or_past (Err e) s = Err e

abbrev pub checked_words : Form → List ℕ → Checked
checked_words form s = or_past (checked form (rows s)) s

-- "form 0 root, 1 library, 2 expanded document, 3 expanded documents one after another, 4 protos without body statements"
abbrev pub numbered_checks : List ℕ → List Checked
numbered_checks s = checked_words Root s ∷ checked_words Library s ∷ checked_words Expanded s ∷ checked_words Documents s ∷ checked_words Protos s ∷ []

-- the form of a number
unfoldable pub form_of : ℕ → Result Form UnknownForm
form_of n =
    get_or (Ok Root ∷ Ok Library ∷ Ok Expanded ∷ Ok Documents ∷ Ok Protos ∷ []) n (Err (record { 0 = n }))

-- no row fits a form of another number, so the first is named
unfoldable pub checked_numbered : ℕ → List ℕ → Checked
checked_numbered n s = get_or (numbered_checks s) n (Bad 0)
