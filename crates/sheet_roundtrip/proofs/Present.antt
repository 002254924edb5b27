-- What is read from a row is not none where it is present.
use mathlib.Core.Path.{◌≡◌}
use mathlib.Core.List.{List, [], ◌∷◌}
use Prim.Native.Nat.{ℕ, zero, suc}
use native.Mathlib.Decide.{ℕ_discrete}
use lib.ListN.{get_or}
use borrow.Author.Tests.{eq-eqb, ne_eqb}
use Rattle.sheet_rows.specs.declared.row.Row.{Row}
use Rattle.ast.specs.Ast.{Statement}
use Rattle.sheet_rows.specs.Rows.{none#, front}
use Rattle.sheet_rows.specs.Parse.{optional, route_of, statement_of}
use Rattle.ast.specs.Each.{Each}
use Rattle.sheet_roundtrip.specs.Ranges.{IsPresent}
use Rattle.sheet_roundtrip.proofs.Steps.{route_asks, StatementGiven}

-- what holds of each of a table holds of an entry
each_entry : {A : Type 0} (P : A → Type 0) (l : List A) (d : A) → Each P l → P d → (n : ℕ) → P (get_or l n d)
each_entry P [] d h i n = i
each_entry P (x ∷ l) d h i zero = h.0
each_entry P (x ∷ l) d h i (suc n) = each_entry P l d h.1 i n

-- a number that may be none, read, is not none
pub present : (n : ℕ) → IsPresent (optional n)
present n = go (ℕ_discrete n none#)
  where
    go : Dec (n ≡ none#) → IsPresent (optional n)
    go (yes h) = rw (eq-eqb n none# h) tt
    go (no h) = rw (ne_eqb n none# h) h

-- so in a route
pub route_given : (l : List Row) → (route_asks (route_of l)).given
unfolding route_of
route_given l = (present (front l).f, present (front l).g)

-- and in a statement
pub statement_given : (l : List Row) → StatementGiven (statement_of l)
unfolding statement_of
statement_given l = each_entry StatementGiven (Statement.Node (front l).b ∷ Statement.Proto (front l).b ∷ Statement.ExternProto (front l).b ∷ Statement.Route (route_of l) ∷ []) (Statement.Other (front l).b) (tt, (tt, (tt, (route_given l, tt)))) tt (front l).a
