-- Bigger limits, same words (document 02, wish 9).
use mathlib.Core.Path.{◌≡◌, refl, ap, sym, ◌∙◌, subst}
use mathlib.Core.Logic.{◌⊎◌, inl, inr}
use mathlib.Core.Bool.{Bool, true, false, ◌||◌}
use mathlib.Core.List.{List}
use Prim.Native.Nat.{ℕ, ◌*◌, ◌≤◌, ◌<◌}
use native.Mathlib.Omega.{arith}
use lib.ListN.{length, take}
use Rattle.std.specs.Prelude.{Ok, Err}
use Rattle.sheet_check.specs.Checked.{Checked}
use Rattle.sheet_check.specs.declared.grammar.Form.TheVariants as form
use Rattle.sheet_rows.specs.Rows.{rows, words}
use Rattle.sheet_check.specs.Grammar.{checked}
use Rattle.sheet_rows.specs.Parse.{document_of, files_of}
use Rattle.sheet_rows.specs.Print.{document_rows}
use Rattle.ast.specs.Lists.{flat}
use Rattle.expansion_definition.specs.Input.{Limits}
use Rattle.expansion_definition.specs.Scopes.{scope_entry}
use Rattle.expansion_definition.specs.Expand.{Expansion, Answer, expand}
use Rattle.expansion_definition.specs.Expanded.{Expanded}
use Rattle.expansion_definition.specs.Bigger.{Bigger, with_limits, TooSmall}
use Rattle.expansion_definition.specs.Bigger
use Rattle.expansion_definition.proofs.Demand.{demand_3, refusals, refused_not_expanded}
use Rattle.expansion_definition.proofs.Runs.{Answers, both}
use Rattle.expansion_definition.proofs.Bigger.{answers, accept, refuse, exactly, joined, suffice, joined_first, joined_second, one_flight}
use Rattle.expansion_operation.specs.Operation.{Call, over_caps, too_short, wrong_length, refuse_if, refuse_bad, input, outcome, ledger_words, after_answer, expand_words}
use Rattle.expansion_operation.specs.Limits.{SameSheets, BiggerCall, SameWords, SameFlightOfWords, EnoughCall, WhereEnoughOfWords, OneFlightOfWords}
use Rattle.expansion_operation.proofs.Said.{words_length, ledger_length_lem, scopes_length_lem}
use Rattle.expansion_operation.proofs.Cases.{from_four}
use Rattle.expansion_operation.proofs.Tests.{room_then}
use Rattle.words_lent.proofs.WordLaws.{over_written}
use Rattle.words_lent.specs.Words.{over}

-- ---- the same refusal before, or the two answers

module _ {L L' : Limits} where
  both_if : (b : Bool) (n : ℕ) {x y : Answer} → Answers L L' x y → Answers L L' (refuse_if b n x) (refuse_if b n y)
  both_if true n h = both
  both_if false n h = h

  both_bad : (sheet : ℕ) (k : Checked) {x y : Answer} → Answers L L' x y → Answers L L' (refuse_bad sheet k x) (refuse_bad sheet k y)
  both_bad sheet (Ok _) h = h
  both_bad sheet (Err b) h = both

-- what comes after refusal 1
abbrev sheeted : Call → Answer
sheeted c =
    refuse_if (wrong_length c.root || wrong_length c.library) 2
    (refuse_bad 0 (checked form.Root (rows c.root))
    (refuse_bad 1 (checked form.Library (rows c.library))
    (expand (input c))))

-- the same sheets under other limits
abbrev lent : Call → Call → Call
lent c c' = record { root = c.root; library = c.library; limits = c'.limits; out = c'.out; ledger = c'.ledger; scopes = c'.scopes; work_length = c'.work_length }

sheeted_both : (c c' : Call) → Bigger c.limits c'.limits → Answers c.limits c'.limits (sheeted c) (sheeted (lent c c'))
sheeted_both c c' h =
    both_if (wrong_length c.root || wrong_length c.library) 2 (both_bad 0 (checked form.Root (rows c.root)) (both_bad 1 (checked form.Library (rows c.library)) (answers (input c) c'.limits h)))

same_sheeted : (c c' : Call) → SameSheets c c' → sheeted (lent c c') ≡ sheeted c'
same_sheeted c c' h = λ i. sheeted (record { root = sym h.root i; library = sym h.library i; limits = c'.limits; out = c'.out; ledger = c'.ledger; scopes = c'.scopes; work_length = c'.work_length })

-- ---- what an answer comes from

-- refused with 1 to 3, or as the steps say
data Given (c : Call) : Answer → Type 0 where
  early : {n d i : ℕ} → 1 ≤ n → n ≤ 3 → Given c (Answer.Refused n d i)
  steps : {a : Answer} → expand (input c) ≡ a → Given c a

module _ (c : Call) where
  given_if : (b : Bool) (n : ℕ) → 1 ≤ n → n ≤ 3 → {x : Answer} → Given c x → Given c (refuse_if b n x)
  given_if true n h k g = early h k
  given_if false n h k g = g

  given_bad : (sheet : ℕ) (k : Checked) {x : Answer} → Given c x → Given c (refuse_bad sheet k x)
  given_bad sheet (Ok _) g = g
  given_bad sheet (Err b) g = early {n = 3} (omega arith) (omega arith)

  given : Given c (outcome c)
  unfolding outcome
  given = given_if (over_caps c.limits || too_short c) 1 (omega arith) (omega arith) (given_if (wrong_length c.root || wrong_length c.library) 2 (omega arith) (omega arith) (given_bad 0 (checked form.Root (rows c.root)) (given_bad 1 (checked form.Library (rows c.library)) (steps refl))))

  -- no refusal has the number 0
  positive : {n d i : ℕ} → Given c (Answer.Refused n d i) → 1 ≤ n
  positive (early h k) = h
  positive (steps {a = Answer.Refused n d i} q) = omega (arith, (from_four c n d i (refusals (input c) n d i q)).0)

  by_steps : {e : Expansion} → Given c (Answer.Expanded e) → expand (input c) ≡ Answer.Expanded e
  by_steps (steps q) = q

-- ---- the words

-- An expansion is written in the same words, whatever slices they are written to.
same_words : (c c' : Call) (e : Expansion) → Expanded (input c) e → SameWords (after_answer c (Answer.Expanded e)) (after_answer c' (Answer.Expanded e))
same_words c c' e x = record {
  answer = refl;
  out = equally (words (document_rows e.document)) c.out c'.out (8 * length (document_rows e.document)) (words_length (document_rows e.document));
  ledger = equally (flat ledger_words e.ledger) c.ledger c'.ledger (3 * e.node_count) (omega (arith, ledger_length_lem e.ledger, x.ledger_size));
  scopes = equally (flat scope_entry e.scopes) c.scopes c'.scopes (5 * e.scope_count) (omega (arith, scopes_length_lem e.scopes, x.scope_count));
}
  where
    equally : (new old old' : List ℕ) (n : ℕ) → length new ≡ n → take n (over new old') ≡ take n (over new old)
    equally new old old' n h = over_written new old' n h ∙ sym (over_written new old n h)

-- ---- two calls

module _ (c c' : Call) (h : BiggerCall c c') where
  abbrev Pair : Answer → Answer → Type 0
  Pair a b = (a ≡ Answer.Refused 1 0 0) ⊎ Answers c.limits c'.limits a b

  pair : Pair (outcome c) (outcome c')
  unfolding outcome
  pair = rw (room_then c' h.room) (subst (λ (b : Answer). Pair (outcome c) b) (same_sheeted c c' h.sheets) (go (over_caps c.limits || too_short c)))
    where
      go : (b : Bool) → Pair (refuse_if b 1 (sheeted c)) (sheeted (lent c c'))
      go true = inl refl
      go false = inr (sheeted_both c c' h.limits)

  accepted : (a b : Answer) → Given c a → Pair a b → (after_answer c a).answer.refusal ≡ 0 → SameWords (after_answer c a) (after_answer c' b)
  accepted (Answer.Refused n d i) b g p z = absurd (omega (arith, positive c g))
  accepted (Answer.Expanded e) b g (inl q) z = refused_not_expanded (sym q)
  accepted (Answer.Expanded e) b g (inr x) z = subst (λ (y : Answer). SameWords (after_answer c (Answer.Expanded e)) (after_answer c' y)) (sym (accept x e refl)) (same_words c c' e (demand_3 (input c) e (by_steps c g)))

  refused : (a b : Answer) → Pair a b → 2 ≤ (after_answer c a).answer.refusal → (after_answer c a).answer.refusal ≤ 7 → (after_answer c' b).answer ≡ (after_answer c a).answer
  refused (Answer.Refused n d i) b (inl q) lo hi = absurd (let z : n ≡ 1 = cc in omega arith)
  refused (Answer.Refused n d i) b (inr x) lo hi = ap (λ (y : Answer). (after_answer c' y).answer) (refuse x n d i hi refl)
  refused (Answer.Expanded e) b p lo hi = absurd (omega arith)

  -- what a refusal said of the expansion that the second call gives
  too_small : {e : Expansion} {n d i : ℕ} → 2 ≤ n → Pair (Answer.Refused n d i) (Answer.Expanded e) → TooSmall c.limits c'.limits e n d i
  too_small {n = n} lo (inl q) = absurd (let z : n ≡ 1 = cc in omega arith)
  too_small {e} {n} {d} {i} lo (inr x) = exactly x e refl n d i refl

  by_nodes : {e : Expansion} {n d i : ℕ} → TooSmall c.limits c'.limits e n d i → n ≡ 8 → c.limits.max_nodes < e.node_count
  by_nodes (Bigger.nodes k) q = k
  by_nodes (Bigger.depth k) q = absurd (omega arith)
  by_nodes (Bigger.rows k) q = absurd (omega arith)

  by_rows : {e : Expansion} {n d i : ℕ} → TooSmall c.limits c'.limits e n d i → n ≡ 10 → c.limits.max_rows < e.charges
  by_rows (Bigger.nodes k) q = absurd (omega arith)
  by_rows (Bigger.depth k) q = absurd (omega arith)
  by_rows (Bigger.rows k) q = k

  nodes : (a b : Answer) → Given c' b → Pair a b → (after_answer c' b).answer.refusal ≡ 0 → (after_answer c a).answer.refusal ≡ 8 → c.limits.max_nodes < (after_answer c' b).answer.nodes
  nodes a (Answer.Refused n d i) g p z q = absurd (omega (arith, positive c' g))
  nodes (Answer.Expanded e') (Answer.Expanded e) g p z q = absurd (omega arith)
  nodes (Answer.Refused n d i) (Answer.Expanded e) g p z q = by_nodes (too_small (omega arith) p) q

  rows_paid_lem : (a b : Answer) → Given c' b → Pair a b → (after_answer c' b).answer.refusal ≡ 0 → (after_answer c a).answer.refusal ≡ 10 → c.limits.max_rows < (after_answer c' b).answer.charges
  rows_paid_lem a (Answer.Refused n d i) g p z q = absurd (omega (arith, positive c' g))
  rows_paid_lem (Answer.Expanded e') (Answer.Expanded e) g p z q = absurd (omega arith)
  rows_paid_lem (Answer.Refused n d i) (Answer.Expanded e) g p z q = by_rows (too_small (omega arith) p) q

  -- Wish 9, of the words after every two such calls.
  pub same_flight : SameFlightOfWords c (expand_words c) (expand_words c')
  unfolding expand_words
  same_flight = record { accepted = accepted (outcome c) (outcome c') (given c) pair; refused = refused (outcome c) (outcome c') pair; nodes = nodes (outcome c) (outcome c') (given c') pair; rows = rows_paid_lem (outcome c) (outcome c') (given c') pair }

-- ---- limits that are enough

module _ (c c' : Call) where
  accepted_then : (b : Bool) {x : Answer} {e : Expansion} → refuse_if b 1 x ≡ Answer.Expanded e → x ≡ Answer.Expanded e
  accepted_then true q = refused_not_expanded q
  accepted_then false q = q

  sufficient : (e : Expansion) → outcome c ≡ Answer.Expanded e → EnoughCall c (after_answer c (Answer.Expanded e)) c' → outcome c' ≡ Answer.Expanded e
  unfolding outcome
  sufficient e q h = rw (room_then c' h.slices) (sym (same_sheeted c c' h.sheets) ∙ suffice (sheeted_both c joint (joined_first c.limits c'.limits h.max_depth)) (sheeted_both (lent c c') joint (joined_second c.limits c'.limits)) e (record { max_nodes = h.max_nodes; max_depth = h.max_depth; max_rows = h.max_rows }) (accepted_then (over_caps c.limits || too_short c) q))
    where
      -- the same sheets under the joined limits
      joint : Call
      joint = record { root = c.root; library = c.library; limits = joined c.limits c'.limits; out = c.out; ledger = c.ledger; scopes = c.scopes; work_length = c.work_length }

  enough_then : (a : Answer) → Given c a → outcome c ≡ a → WhereEnoughOfWords c (after_answer c a) c' (after_answer c' (outcome c'))
  enough_then (Answer.Refused n d i) g q z h = absurd (omega (arith, positive c g))
  enough_then (Answer.Expanded e) g q z h = subst (λ (y : Answer). SameWords (after_answer c (Answer.Expanded e)) (after_answer c' y)) (sym (sufficient e q h)) (same_words c c' e (demand_3 (input c) e (by_steps c g)))

  -- Of the words after every two calls.
  pub enough_words : WhereEnoughOfWords c (expand_words c) c' (expand_words c')
  unfolding expand_words
  enough_words = enough_then (outcome c) (given c) refl

module _ (c c' : Call) (h : SameSheets c c') where
  -- two expansions of the same sheets
  one_expansion : (e e' : Expansion) → expand (input c) ≡ Answer.Expanded e → expand (input c') ≡ Answer.Expanded e' → e ≡ e'
  one_expansion e e' q q' = one_flight (input c) c'.limits e e' q (ap expand sheets ∙ q')
    where
      sheets : with_limits c'.limits (input c) ≡ input c'
      sheets = λ i. record { root = document_of (rows (sym h.root i)); library = files_of (rows (sym h.library i)); limits = c'.limits }

  one_words : (a b : Answer) → Given c a → Given c' b → OneFlightOfWords (after_answer c a) (after_answer c' b)
  one_words (Answer.Refused n d i) b g g' z z' = absurd (omega (arith, positive c g))
  one_words (Answer.Expanded e) (Answer.Refused n d i) g g' z z' = absurd (omega (arith, positive c' g'))
  one_words (Answer.Expanded e) (Answer.Expanded e') g g' z z' = subst (λ (x : Expansion). SameWords (after_answer c (Answer.Expanded e)) (after_answer c' (Answer.Expanded x))) (one_expansion e e' (by_steps c g) (by_steps c' g')) (same_words c c' e (demand_3 (input c) e (by_steps c g)))

  -- Of the words after every two calls with the same sheets.
  pub one_flight_words : OneFlightOfWords (expand_words c) (expand_words c')
  unfolding expand_words
  one_flight_words = one_words (outcome c) (outcome c') (given c) (given c')
