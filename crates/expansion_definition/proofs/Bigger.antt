-- The same documents under bigger limits.
use mathlib.Core.Path.{◌≡◌, sym, ◌∙◌}
use Prim.Native.Nat.{ℕ, ◌+◌, ◌*◌, ◌≤◌}
use native.Mathlib.Nat.{le_refl}
use native.Mathlib.Omega.{arith}
use Rattle.expansion_definition.specs.Input.{Limits, Input}
use Rattle.expansion_definition.specs.Expand.{Expansion, Answer, expand}
use Rattle.expansion_definition.specs.Bigger.{Bigger, with_limits, TooSmall, SameFlight, Enough, WhereEnough, OneFlight}
use Rattle.expansion_definition.specs.Bigger
use Rattle.expansion_definition.proofs.Demand.{refused_not_expanded, same_expansion}
use Rattle.expansion_definition.proofs.Runs.{Short, eight, nine, ten, Answers, both, first, answers_in}
use Rattle.expansion_definition.proofs.Room.{never_full}

-- By the expansion that looks for room.
pub answers : (I : Input) (L : Limits) → Bigger I.limits L → Answers I.limits L (expand I) (expand (with_limits L I))
answers I L le = rw (never_full (5 * I.limits.max_rows) I (le_refl _)).whole at (answers_in (5 * I.limits.max_rows) I (le_refl _) L le)

at_least_8 : {L L' : Limits} {c d i : ℕ} → Short L L' c d i → 8 ≤ c
at_least_8 (eight h) = omega arith
at_least_8 (nine h) = omega arith
at_least_8 (ten h) = omega arith

module _ {L L' : Limits} where
  pub accept : {a b : Answer} → Answers L L' a b → (e : Expansion) → a ≡ Answer.Expanded e → b ≡ Answer.Expanded e
  accept both e q = q
  accept (first s f) e q = refused_not_expanded q

  pub refuse : {a b : Answer} → Answers L L' a b → (n d i : ℕ) → n ≤ 7 → a ≡ Answer.Refused n d i → b ≡ Answer.Refused n d i
  refuse both n d i h q = q
  refuse (first {c = c} s f) n d i h q = absurd (let z : c ≡ n = cc in omega (arith, at_least_8 s))

  pub exactly : {a b : Answer} → Answers L L' a b → (e : Expansion) → b ≡ Answer.Expanded e → (n d i : ℕ) → a ≡ Answer.Refused n d i → TooSmall L L' e n d i
  exactly both e p n d i q = refused_not_expanded (sym q ∙ p)
  exactly (first {c = c} {d = d'} {i = i'} s f) e p n d i q =
      let hc : c ≡ n = cc in
      let hd : d' ≡ d = cc in
      let hi : i' ≡ i = cc in
      rw (← hc, ← hd, ← hi) (f e p)

-- Wish 9: bigger limits, same flight.
pub bigger : (I : Input) (L : Limits) → Bigger I.limits L → SameFlight I L
bigger I L le = let x = answers I L le in record { accepted = accept x; refused = refuse x; exact = exactly x }

-- limits that hold what either holds, as deep as the second
abbrev pub joined : Limits → Limits → Limits
joined L L' = record { max_nodes = L.max_nodes + L'.max_nodes; max_depth = L'.max_depth; max_rows = L.max_rows + L'.max_rows }

module _ {L L' : Limits} where
  -- what is accepted under L is what L' gives, where that is enough: both give what the joined limits give
  pub suffice : {a b x : Answer} → Answers L (joined L L') a x → Answers L' (joined L L') b x → (e : Expansion) → Enough L.max_depth e L' → a ≡ Answer.Expanded e → b ≡ Answer.Expanded e
  suffice up down e h q = by down (accept up e q)
    where
      fits : {A : Type 0} {c d i : ℕ} → TooSmall L' (joined L L') e c d i → A
      fits (Bigger.nodes n) = absurd (omega (arith, h.max_nodes))
      fits (Bigger.depth n) = absurd (omega arith)
      fits (Bigger.rows n) = absurd (omega (arith, h.max_rows))

      by : {b x : Answer} → Answers L' (joined L L') b x → x ≡ Answer.Expanded e → b ≡ Answer.Expanded e
      by both u = u
      by (first s f) u = fits (f e u)

-- both are smaller than the joined limits
pub joined_first : (L L' : Limits) → L.max_depth ≤ L'.max_depth → Bigger L (joined L L')
joined_first L L' h = record { max_nodes = omega arith; max_depth = h; max_rows = omega arith }

pub joined_second : (L L' : Limits) → Bigger L' (joined L L')
joined_second L L' = record { max_nodes = omega arith; max_depth = le_refl _; max_rows = omega arith }

-- An accepted expansion is the same under all limits that are enough, bigger or not.
pub enough : (I : Input) → WhereEnough I
enough I e q L h = suffice (answers I M (joined_first I.limits L h.max_depth)) (answers (with_limits L I) M (joined_second I.limits L)) e h q
  where
    M : Limits
    M = joined I.limits L

-- Any two accepted expansions are the same.
pub one_flight : (I : Input) → OneFlight I
one_flight I L e e' q q' =
    same_expansion e e' (sym ((bigger I M (record { max_nodes = omega arith; max_depth = omega arith; max_rows = omega arith })).accepted e q)
    ∙ (bigger (with_limits L I) M (record { max_nodes = omega arith; max_depth = omega arith; max_rows = omega arith })).accepted e' q')
  where
    -- bigger than both
    M : Limits
    M = record { max_nodes = I.limits.max_nodes + L.max_nodes; max_depth = I.limits.max_depth + L.max_depth; max_rows = I.limits.max_rows + L.max_rows }
