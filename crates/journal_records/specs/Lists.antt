-- Lists of records, walked from the last record to the first.
use Rattle.std.specs.Prelude.{◌≡◌, List, ℕ, ◌+◌, ◌≤◌, leb}
use Rattle.std.specs.Prelude as std
use Rattle.ast.specs.Choice.{choose}
use Rattle.journal_records.specs.Records.{cell}
use Rattle.journal_records.specs.Logs.{scan}

-- a handle as a list is looked for below a place: none that is not below
unfoldable pub clip : ℕ → ℕ → ℕ
clip top h = choose (leb h top) h 0

-- a handle below a place
pub record HandleBelow (x top h : ℕ) : Type 0 where
  pub same : h ≡ x
  pub low : h ≤ top

-- the records of the list whose last record is h, from the last on
unfoldable pub records_of : List ℕ → ℕ → List ℕ
records_of w h = scan (λ r. r) (λ r. cell w r 8) h h

-- one record after another: r is the record of handle h, and the walk goes on at the one before it; or there is none
abbrev pub Steps : List ℕ → ℕ → std.Option ℕ → List ℕ → ℕ → Type 0
Steps w h (std.Some r) w' h' = (h ≡ r + 1) × HandleBelow (clip r (cell w r 8)) r h' × (w' ≡ w)
Steps w h std.None w' h' = (h ≡ 0) × (h' ≡ h) × (w' ≡ w)
