-- The tables of names in the region of the directory: that they stay, and that they are written.
use mathlib.Core.Path.{◌≡◌, ◌∙◌}
use mathlib.Core.List.{List}
use Prim.Native.Nat.{ℕ, ◌≤◌, ◌<◌}
use native.Mathlib.Omega.{arith}
use lib.ListN.{length, get_or, set, length-set}
use lib.Seq.{get_or-set_same, get_or-set_other}
use Rattle.words_lent.specs.Words.{Outside}
use Rattle.words_lent.proofs.WordLaws.{stays_set, stays_on}
use Rattle.source_names.specs.Names.{TablesGrown}
use Rattle.source_names.proofs.NameLaws.{listed_on, listed_none, grown_none}
use Rattle.source_directory.specs.Directory.{size, from_of, cache_of, names_of, spread_of}
use Rattle.source_lookup.specs.Sourced.{NamesListed}
use Rattle.source_setup.specs.Listing.{Listing}

-- they stay where the directory's words on them do
pub names_set : {root library dir dir' w w' : List ℕ} → NamesListed root library dir w → from_of dir' ≡ from_of dir → cache_of dir' ≡ cache_of dir → names_of dir' ≡ names_of dir → spread_of dir' ≡ spread_of dir → ((k : ℕ) → names_of dir ≤ k → k < cache_of dir → get_or w' k 0 ≡ get_or w k 0) → NamesListed root library dir' w'
names_set n a b c d same = record { from = omega (arith, a, c, n.from); listed = rw (b, c, d) (listed_on n.listed same) }

module _ (root library dir w : List ℕ) (free at end : ℕ) (long : size ≤ length dir) where
  abbrev d₁ : List ℕ
  d₁ = set dir 196 at

  abbrev d₂ : List ℕ
  d₂ = set d₁ 197 0

  first : Outside 196 198 dir d₂
  first = stays_on 196 198 (stays_set {a = 196} {b = 197} dir 196 at (omega arith) (omega arith)) (stays_set {a = 197} {b = 198} d₁ 197 0 (omega arith) (omega arith)) (omega arith) (omega arith) (omega arith) (omega arith)

  at_first : names_of d₂ ≡ at
  at_first = get_or-set_other d₁ 197 196 0 0 (λ z. omega arith) ∙ get_or-set_same dir 196 at 0 (omega arith)

  pub listing_none : at ≤ end → Listing root library dir d₂ w w free at end at
  listing_none h = record {
    at_is = at_first;
    grown = rw (get_or-set_same d₁ 197 0 0 (omega (arith, length-set dir 196 at))) (grown_none (listed_none root library w at) h);
    dir_stays = first;
  }

  module _ (many : ℕ) where
    abbrev d₃ : List ℕ
    d₃ = set d₂ 197 many

    pub listing_some : {w' : List ℕ} {next : ℕ} → TablesGrown root library free at many at end next w w' → Listing root library dir d₃ w w' free at end next
    listing_some g = record {
      at_is = get_or-set_other d₂ 197 196 many 0 (λ z. omega arith) ∙ at_first;
      grown = rw (get_or-set_same d₂ 197 many 0 (omega (arith, first.long))) g;
      dir_stays = stays_on 196 198 first (stays_set {a = 197} {b = 198} d₂ 197 many (omega arith) (omega arith)) (omega arith) (omega arith) (omega arith) (omega arith);
    }

    -- the other words stay: the number of bases
    pub count_stays : get_or d₃ 194 0 ≡ get_or dir 194 0
    count_stays = get_or-set_other d₂ 197 194 many 0 (λ z. omega arith) ∙ first.below 194 (omega arith)
