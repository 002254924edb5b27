-- The table of rows: the columns of a row, by its kind (document 01, Sheets).
use Rattle.std.specs.Prelude.{List, [], ◌∷◌, Bool, false, not, ◌&&◌, ◌||◌, ℕ, get_or, ltb, leb, eqb}
use Rattle.sheet_rows.specs.declared.row.Row.{Row}
use Rattle.sheet_rows.specs.Rows.{none#}
use Rattle.sheet_rows.specs.Print.{mark}

abbrev pub is_name : ℕ → Bool
is_name n = ltb n none#

-- "unused ones are 0"
abbrev pub zero_from_e : Row → Bool
zero_from_e r = eqb r.e 0 && eqb r.f 0 && eqb r.g 0

abbrev pub zero_from_c : Row → Bool
zero_from_c r = eqb r.c 0 && eqb r.d 0 && zero_from_e r

abbrev pub zero_from_b : Row → Bool
zero_from_b r = eqb r.b 0 && zero_from_c r

-- "v", with a value: a type tag 0 to 41, class 1 payload or 2 nodes, and the payload or the count. Without: e, f, g are 0
abbrev pub has_value : Row → Bool
has_value r = leb r.e 41 && leb 1 r.f && leb r.f 2

-- c: 0 Builtin, 1 Proto, 2 ExternProto, 3 Unknown; d: the id of 1 and 2
abbrev pub origin_fits : Row → Bool
origin_fits r =
    leb r.c 3 && ((eqb r.c 1 || eqb r.c 2) && is_name r.d || not (eqb r.c 1 || eqb r.c 2) && eqb r.d 0)

abbrev pub node_fits : Row → Bool
node_fits r = is_name r.a && origin_fits r && zero_from_e r

-- a value, or the IS target and class 0
abbrev pub field_fits : Row → Bool
field_fits r =
    is_name r.a && leb r.d 1 && (eqb r.b 0 && eqb r.c 0 && has_value r || eqb r.b 1 && is_name r.c && zero_from_e r)

abbrev pub interface_fits : Row → Bool
interface_fits r = leb r.a 3 && leb r.b 41 && is_name r.c && (has_value r || zero_from_e r)

abbrev pub route_fits : Row → Bool
route_fits r = eqb r.a 3 && is_name r.b && is_name r.c && is_name r.d && is_name r.e

-- Node, Proto, ExternProto with an id; Route; other with a payload
abbrev pub statement_fits : Row → Bool
statement_fits r = leb r.a 2 && is_name r.b && zero_from_c r || route_fits r || eqb r.a 4 && zero_from_c r

abbrev pub order_fits : Row → Bool
order_fits r = leb r.a 2 && zero_from_b r

-- a name, a base or an id alone: kinds 7, 8, 9 and 12
abbrev pub name_fits : Row → Bool
name_fits r = is_name r.a && zero_from_b r

-- c: 1 for the url that supplied the prototype, else 0, where there are marks (document 02, wish 1)
abbrev pub url_fits : Bool → Row → Bool
url_fits marks r = is_name r.a && leb r.c (mark marks) && eqb r.d 0 && zero_from_e r

abbrev pub top_fits : Row → Bool
top_fits r = eqb r.a 0 && zero_from_b r

abbrev pub instance_fits : Row → Bool
instance_fits r = is_name r.a && zero_from_e r

abbrev pub association_fits : Row → Bool
association_fits r = is_name r.a && is_name r.b && is_name r.c && eqb r.d 0 && zero_from_e r

-- "Column 1 decides the row's shape": kinds 0 to 14 in order; no row has kind 0, nor one above 14
abbrev pub shapes : Bool → List (Row → Bool)
shapes marks =
    (λ r. false) ∷
    zero_from_b ∷
    node_fits ∷
    field_fits ∷
    interface_fits ∷
    statement_fits ∷
    order_fits ∷ name_fits ∷ name_fits ∷ name_fits ∷ url_fits marks ∷ top_fits ∷ name_fits ∷ instance_fits ∷ association_fits ∷ []

unfoldable pub shape_fits : Bool → Row → Bool
shape_fits marks r = get_or (shapes marks) r.kind (λ x. false) r
