-- A sheet is a list of words; a row is eight of them.
use Rattle.std.specs.Prelude.{List, [], ◌∷◌, ℕ}
use Rattle.sheet_rows.specs.declared.row.Row.{Row}

-- "None" is 4294967295; names and ids are below it
abbrev pub none# : ℕ
none# = 4294967295

-- what stands past the end: a row of no kind
abbrev pub blank : Row
blank = record { kind = 0; a = 0; b = 0; c = 0; d = 0; e = 0; f = 0; g = 0 }

-- the whole rows of a list of words; what is left over, fewer than eight words, is no row
unfoldable pub rows : List ℕ → List Row
rows [] = []
rows (k ∷ []) = []
rows (k ∷ a ∷ []) = []
rows (k ∷ a ∷ b ∷ []) = []
rows (k ∷ a ∷ b ∷ c ∷ []) = []
rows (k ∷ a ∷ b ∷ c ∷ d ∷ []) = []
rows (k ∷ a ∷ b ∷ c ∷ d ∷ e ∷ []) = []
rows (k ∷ a ∷ b ∷ c ∷ d ∷ e ∷ f ∷ []) = []
rows (k ∷ a ∷ b ∷ c ∷ d ∷ e ∷ f ∷ g ∷ l) = record { kind = k; a = a; b = b; c = c; d = d; e = e; f = f; g = g } ∷ rows l

-- the words of rows
unfoldable pub words : List Row → List ℕ
words [] = []
words (r ∷ l) = r.kind ∷ r.a ∷ r.b ∷ r.c ∷ r.d ∷ r.e ∷ r.f ∷ r.g ∷ words l

abbrev pub front : List Row → Row
front [] = blank
front (r ∷ l) = r

abbrev pub rest : List Row → List Row
rest [] = []
rest (r ∷ l) = l
