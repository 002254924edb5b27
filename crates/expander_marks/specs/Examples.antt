-- The positions at each mark, computed (document 02, wish 3).
use Rattle.std.specs.Prelude.{◌≡◌, refl, true, false, [], ◌∷◌}
use Rattle.ast.specs.Ast.{BodyElement}
use Rattle.expander_marks.specs.Positions.{field_marks, statement_marks, by_positions}

-- a Field, an Interface and a Statement mark stand before the fourth mark
pub before_fourth_fields : field_marks (BodyElement.Field ∷ BodyElement.Interface ∷ BodyElement.Statement ∷ []) ≡ 1
before_fourth_fields = refl

pub before_fourth_statements : statement_marks (BodyElement.Field ∷ BodyElement.Interface ∷ BodyElement.Statement ∷ []) ≡ 1
before_fourth_statements = refl

-- the second of two fields is dropped, and the first of two statements; a third Field mark is past the last entry
pub kept : by_positions (true ∷ false ∷ []) (false ∷ true ∷ []) 0 0 (BodyElement.Field ∷ BodyElement.Statement ∷ BodyElement.Interface ∷ BodyElement.Field ∷ BodyElement.Statement ∷ BodyElement.Field ∷ []) ≡ BodyElement.Field ∷ BodyElement.Interface ∷ BodyElement.Statement ∷ []
kept = refl
