-- Expand that looks for room in the scopes slice before each entry is made, and would refuse with 11 (document 02, wish 7). Nothing else uses it, and nothing is proved on this page.
use Rattle.std.specs.Prelude.{◌≡◌, ◌||◌, length}
use Rattle.sheet_check.specs.declared.grammar.Form.TheVariants as form
use Rattle.sheet_rows.specs.Rows.{rows}
use Rattle.sheet_check.specs.Grammar.{checked}
use Rattle.expansion_definition.specs.Expand.{Answer}
use Rattle.expansion_definition.specs.Room.{expand_in}
use Rattle.expansion_operation.specs.Operation.{Call, After, over_caps, too_short, wrong_length, refuse_if, refuse_bad, input, after_answer, expand_words}

-- as `outcome`, but for the look: scopes is as long as the call says
unfoldable pub outcome_in : Call → Answer
outcome_in c =
    refuse_if (over_caps c.limits || too_short c) 1
    (refuse_if (wrong_length c.root || wrong_length c.library) 2
    (refuse_bad 0 (checked form.Root (rows c.root))
    (refuse_bad 1 (checked form.Library (rows c.library))
    (expand_in (length c.scopes) (input c)))))

unfoldable pub expand_words_in : Call → After
expand_words_in c = after_answer c (outcome_in c)

-- "Each scope is charged before its entry is made and the slice has K entries, so it can't fill.": the same answer and the same words after the call
abbrev pub WordsNeverFull : Call → Type 0
WordsNeverFull c = expand_words_in c ≡ expand_words c
