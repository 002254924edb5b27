-- What a pass over the records yields: logs, chains, and the newest record that passes a test. A place is given with one
-- added where 0 is to say that there is none.
use Rattle.std.specs.Prelude.{Bool, false, List, [], ◌∷◌, ◌++◌, ℕ, zero, suc, eqb, ltb}
use Rattle.std.proofs.Math.Option.{Option, none, some}
use Rattle.ast.specs.Choice.{choose}

-- the newest record below a place that passes a test, with one added; 0 for none
unfoldable pub newest_below : (ℕ → Bool) → ℕ → ℕ
newest_below p zero = 0
newest_below p (suc r) = choose (p r) (suc r) (newest_below p r)

-- that record's place
unfoldable pub newest_of : (ℕ → Bool) → ℕ → Option ℕ
newest_of p zero = none
newest_of p (suc r) = choose (p r) (some r) (newest_of p r)

-- a test that only records below a place pass
unfoldable pub only_below : ℕ → (ℕ → Bool) → ℕ → Bool
only_below top p r = choose (ltb r top) (p r) false

-- how many records below a place pass a test
unfoldable pub count_below : (ℕ → Bool) → ℕ → ℕ
count_below p zero = 0
count_below p (suc r) = choose (p r) (suc (count_below p r)) (count_below p r)

-- the list of a chain: h is its last record, with one added; only records below a place are looked at
unfoldable pub scan : {A : Type 0} → (ℕ → A) → (ℕ → ℕ) → ℕ → ℕ → List A
scan d p zero h = []
scan d p (suc r) h = choose (eqb h (suc r)) (d r ∷ scan d p r (p r)) (scan d p r h)

unfoldable pub rev_onto : {A : Type 0} → List A → List A → List A
rev_onto [] ys = ys
rev_onto (x ∷ xs) ys = rev_onto xs (x ∷ ys)

-- what the records below a place yield, oldest first and newest first
unfoldable pub log_up : {A : Type 0} → (ℕ → List A) → ℕ → List A
log_up g zero = []
log_up g (suc c) = log_up g c ++ g c

unfoldable pub log_down : {A : Type 0} → (ℕ → List A) → ℕ → List A
log_down g zero = []
log_down g (suc c) = g c ++ log_down g c

-- a record that passes a test, read by d; nothing of another
unfoldable pub only : {A : Type 0} → (ℕ → Bool) → (ℕ → A) → ℕ → List A
only p d r = choose (p r) (d r ∷ []) []
