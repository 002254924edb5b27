-- What is read of a document's rows: where its nodes stand, the ids of a node's values, and its top Node statements.
use Rattle.std.specs.Prelude.{◌&&◌, List, [], ◌∷◌, ℕ, suc, leb, eqb}
use Rattle.ast.specs.Choice.{choose}
use Rattle.sheet_rows.specs.declared.row.Row.{Row}

-- the places of the nodes, up to row 11; p: the place of the first row
unfoldable pub places_from : (p : ℕ) → List Row → List ℕ
places_from p [] = []
places_from p (r ∷ l) =
    choose (eqb r.kind 11) [] (choose (eqb r.kind 2) (p ∷ places_from (suc p) l) (places_from (suc p) l))

-- the place of row 11
unfoldable pub top_from : (p : ℕ) → List Row → ℕ
top_from p [] = p
top_from p (r ∷ l) = choose (eqb r.kind 11) p (top_from (suc p) l)

-- the ids of a node's values, from the row after its own: a node's fields and interfaces stand first, each with the ids of its value
unfoldable pub ids_from : List Row → List ℕ
ids_from [] = []
ids_from (r ∷ l) =
    choose (eqb r.kind 9) (r.a ∷ ids_from l) (choose (leb 3 r.kind && leb r.kind 4) (ids_from l) [])

-- the ids of top Node statements, from the row after row 11
unfoldable pub starts_from : List Row → List ℕ
starts_from [] = []
starts_from (r ∷ l) =
    choose (eqb r.kind 5) (choose (eqb r.a 0) (r.b ∷ starts_from l) (starts_from l)) []

-- the place after the top statements
unfoldable pub end_from : (p : ℕ) → List Row → ℕ
end_from p [] = p
end_from p (r ∷ l) = choose (eqb r.kind 5) (end_from (suc p) l) p
