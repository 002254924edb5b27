-- To look for room in the scopes slice makes no difference, in any call (document 02, wish 7).
use mathlib.Core.Path.{◌≡◌, refl, ap}
use mathlib.Core.Bool.{Bool, true, false, ◌||◌}
use lib.ListN.{length}
use Rattle.sheet_check.specs.declared.grammar.Form.TheVariants as form
use Rattle.sheet_rows.specs.Rows.{rows}
use Rattle.sheet_check.specs.Grammar.{checked}
use Rattle.expansion_definition.specs.Expand.{Answer, expand}
use Rattle.expansion_definition.specs.Room.{expand_in}
use Rattle.expansion_definition.proofs.Room.{never_full}
use Rattle.expansion_operation.specs.Operation.{Call, over_caps, too_short, wrong_length, refuse_if, refuse_bad, input, outcome, after_answer, expand_words}
use Rattle.expansion_operation.specs.Looking.{outcome_in, expand_words_in, WordsNeverFull}
use Rattle.expansion_operation.proofs.Tests.{room_if}

module _ (c : Call) where
  -- what comes after refusal 1, with the steps' answer
  abbrev sheeted : Answer → Answer
  sheeted a = refuse_if (wrong_length c.root || wrong_length c.library) 2 (refuse_bad 0 (checked form.Root (rows c.root)) (refuse_bad 1 (checked form.Library (rows c.library)) a))

  -- where the slices are long enough there is room for K entries
  looked : (b : Bool) → (over_caps c.limits || too_short c) ≡ b → refuse_if b 1 (sheeted (expand_in (length c.scopes) (input c))) ≡ refuse_if b 1 (sheeted (expand (input c)))
  looked true q = refl
  looked false q = ap sheeted (never_full (length c.scopes) (input c) (room_if c q).scopes).whole

  pub never_full_words : WordsNeverFull c
  unfolding expand_words_in expand_words outcome_in outcome
  never_full_words = ap (after_answer c) (looked (over_caps c.limits || too_short c) refl)
