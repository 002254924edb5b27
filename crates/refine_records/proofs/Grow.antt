-- Records more: what holds of the journal after them, and that it is later.
use mathlib.Core.Path.{◌≡◌, refl, sym, ◌∙◌}
use mathlib.Core.Bool.{Bool, true, false}
use mathlib.Core.List.{List}
use Prim.Native.Nat.{ℕ, ◌+◌, ◌≤◌, ◌<◌}
use native.Mathlib.Omega.{arith}
use lib.ListN.{length, get_or}
use lib.Dec.{ltb}
use borrow.Author.Tests.{ltb-true, ltb-false}
use Rattle.journal_records.specs.declared.Record.{Record}
use Rattle.journal_records.specs.Records.{tag_node, tag_scope, tag_extern, cell, Fixed, Holds}
use Rattle.journal_index.specs.Index.{SlotsIndexed}
use Rattle.journal_lists.specs.Owned.{Owned}
use Rattle.journal_lists.specs.Families.{Families}
use Rattle.journal_reading.specs.Reading.{below}
use Rattle.journal_reading.specs.WellFormed.{RecordWellFormed, AllWellFormed}
use Rattle.journal_reading.proofs.Fair.{fair_fixed, closed_fixed}
use Rattle.journal_reading.proofs.Logs.{below_stays, below_new}
use Rattle.journal_reading.specs.RecordsStay.{RecordsStay}
use Rattle.refine_records.specs.declared.Limits.{Limits}
use Rattle.refine_records.specs.declared.Counts.{Counts}
use Rattle.refine_records.specs.Sound.{heads_at, JournalSound, OfBody, Later}

-- the counts after n charges more
abbrev pub grown : Counts → ℕ → ℕ → ℕ → ℕ → Counts
grown t n nodes scopes externs = record { nodes = nodes; scopes = scopes; externs = externs; charges = t.charges + n }

module _ {L : Limits} {w w' : List ℕ} {t : Counts} (so : JournalSound L w t) (q : RecordsStay t.charges w w') (n nodes scopes externs : ℕ) where
  -- each record below stays fair, and the new ones are
  fair_more : ((r : ℕ) → t.charges ≤ r → r < t.charges + n → RecordWellFormed w' (t.charges + n) r) → AllWellFormed w' (t.charges + n)
  fair_more new = record { each = λ r l. by r l (ltb r t.charges) refl }
    where
      by : (r : ℕ) → r < t.charges + n → (u : Bool) → ltb r t.charges ≡ u → RecordWellFormed w' (t.charges + n) r
      by r l true e =
          let k : r < t.charges = ltb-true r t.charges e in
          fair_fixed q.fixed (t.charges + n) r k (λ z. closed_fixed q.fixed r (omega arith) (q.nodes r k z).keeps ((so.fair.each r k).node z)) (so.fair.each r k)
      by r l false e = new r (ltb-false r t.charges e) l

  pub sound_more : t.charges + n ≤ L.rows → nodes ≡ below w' tag_node (t.charges + n) → scopes ≡ below w' tag_scope (t.charges + n) → externs ≡ below w' tag_extern (t.charges + n)
      → ((r : ℕ) → t.charges ≤ r → r < t.charges + n → RecordWellFormed w' (t.charges + n) r) → SlotsIndexed w' (heads_at L) L.slots (t.charges + n) → Owned w' (t.charges + n) → Families w' (t.charges + n)
      → JournalSound L w' (grown t n nodes scopes externs)
  sound_more room a b e new ix ow fs = record { charges = room; nodes = a; scopes = b; externs = e; fair = fair_more new; index = ix; owned = ow; families = fs }

  pub later_more : (young : ℕ) → t.scopes ≤ scopes → ((m : ℕ) → heads_at L + L.slots ≤ m → get_or w' m 0 ≡ get_or w m 0) → length w' ≡ length w
      → ((r : ℕ) → t.charges ≤ r → r < t.charges + n → OfBody (cell w' r 0) → young ≤ cell w' r 1) → JournalSound L w' (grown t n nodes scopes externs) → Later L young w t w' (grown t n nodes scopes externs)
  later_more young sc behind long fresh so' = record { grew = omega arith; scoped = sc; kept = q.fixed; behind = behind; long = long; fresh = fresh; sound = so' }

-- ---- one record more
-- that record alone
pub alone : (c : ℕ) (P : ℕ → Type 0) → P c → (k : ℕ) → c ≤ k → k < c + 1 → P k
alone c P x k l h = let z : k ≡ c = omega arith in rw z x

module _ {w w' : List ℕ} {c : ℕ} (f : Fixed c w w') (r : Record) (o : Holds w' c r) where
  -- a count of another tag, and of its own
  pub count_other : {x : ℕ} (g : ℕ) → x ≡ below w g c → (r.tag ≡ g → ⊥) → x ≡ below w' g (c + 1)
  count_other g e ne = e ∙ sym (below_stays g f 1 (alone c (λ k. cell w' k 0 ≡ g → ⊥) (λ z. ne (sym o.at0 ∙ z))))

  pub count_new : {x : ℕ} (g : ℕ) → x ≡ below w g c → r.tag ≡ g → x + 1 ≡ below w' g (c + 1)
  count_new g e eq = rw e (sym (below_new g f (o.at0 ∙ eq)))
