-- The tests of refusals 1 and 2, and the facts that they decide.
use mathlib.Core.Path.{◌≡◌, refl}
use mathlib.Core.Bool.{Bool, true, false, not, ◌||◌}
use mathlib.Core.List.{List}
use Prim.Native.Nat.{ℕ}
use native.Mathlib.Omega.{arith}
use borrow.Author.Tests.{ltb-false, le-ltb, eqb-true, eq-eqb, not-false}
use Rattle.ast.proofs.Basics.{neither}
use Rattle.expansion_operation.specs.Operation.{Call, over_caps, too_short, wrong_length}
use Rattle.expansion_operation.specs.Promises.{RoomAndCaps, SheetLength, Sheets}

pub yes_no : true ≡ false → ⊥
yes_no e = let z : ◌≡◌ {A = ℕ} 0 1 = cc in omega arith

both_false : (a b : Bool) → a ≡ false → b ≡ false → (a || b) ≡ false
both_false a b p q = rw (p, q)

not_of_true : (a : Bool) → a ≡ true → not a ≡ false
not_of_true a p = rw p

-- ---- refusal 1

pub room_if : (c : Call) → (over_caps c.limits || too_short c) ≡ false → RoomAndCaps c
room_if c e =
    let a = neither _ _ e in
    let caps = neither _ _ a.0 in
    let caps2 = neither _ _ caps.0 in
    let short = neither _ _ a.1 in
    let short2 = neither _ _ short.0 in
    let short3 = neither _ _ short2.0 in
    record {
      max_nodes = ltb-false _ _ caps2.0;
      max_depth = ltb-false _ _ caps2.1;
      max_rows = ltb-false _ _ caps.1;
      out = ltb-false _ _ short3.0;
      ledger = ltb-false _ _ short3.1;
      scopes = ltb-false _ _ short2.1;
      work = ltb-false _ _ short.1;
    }

pub room_then : (c : Call) → RoomAndCaps c → (over_caps c.limits || too_short c) ≡ false
room_then c r =
    both_false _ _ (both_false _ _ (both_false _ _ (le-ltb _ _ r.max_nodes) (le-ltb _ _ r.max_depth)) (le-ltb _ _ r.max_rows))
    (both_false _ _ (both_false _ _ (both_false _ _ (le-ltb _ _ r.out) (le-ltb _ _ r.ledger)) (le-ltb _ _ r.scopes)) (le-ltb _ _ r.work))

-- ---- refusal 2

sheet_if : (l : List ℕ) → wrong_length l ≡ false → SheetLength l
sheet_if l e = let a = neither _ _ e in record { whole = eqb-true _ _ (not-false _ a.0); cap = ltb-false _ _ a.1 }

sheet_then : (l : List ℕ) → SheetLength l → wrong_length l ≡ false
sheet_then l s = both_false _ _ (not_of_true _ (eq-eqb _ _ s.whole)) (le-ltb _ _ s.cap)

pub sheets_if : (c : Call) → (wrong_length c.root || wrong_length c.library) ≡ false → Sheets c
sheets_if c e = let a = neither _ _ e in (sheet_if c.root a.0, sheet_if c.library a.1)

pub sheets_then : (c : Call) → Sheets c → (wrong_length c.root || wrong_length c.library) ≡ false
sheets_then c s = both_false _ _ (sheet_then c.root s.0) (sheet_then c.library s.1)
