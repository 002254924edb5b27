-- What is lent stays lent, since no step writes behind the heads; a journal that stands can be searched.
use mathlib.Core.Path.{◌≡◌, refl, sym, ◌∙◌}
use mathlib.Core.Bool.{Bool, true, false}
use mathlib.Core.List.{List}
use Prim.Native.Nat.{ℕ, ◌*◌, ◌-◌, ◌≤◌, ◌<◌}
use native.Mathlib.Omega.{arith}
use lib.ListN.{length}
use lib.Dec.{eqb}
use Rattle.ast.specs.Choice.{choose}
use Rattle.sheet_lookup.specs.Lookup.{sheet_of}
use Rattle.journal_records.specs.declared.Record.{Record}
use Rattle.std.specs.declared.option.Option.TheVariants.{Some}
use Rattle.journal_records.specs.Records.{keyed}
use Rattle.journal_index.specs.Index.{Newest, hit, newest, found_of, Findable, Enterable}
use Rattle.journal_records.proofs.Lists.{newest_is}
use Rattle.sheet_rows.specs.Rows.{rows}
use Rattle.source_directory.specs.Directory.{number_of, from_of, end_of}
use Rattle.source_lookup.proofs.SourcedLaws.{sourced_kept}
use Rattle.refine_records.specs.declared.Limits.{Limits}
use Rattle.refine_records.specs.declared.Counts.{Counts}
use Rattle.refine_records.specs.Sound.{Standing, Later}
use Rattle.expander_parts.specs.Contract.{Lent, rows_of}

pub lent_later : {L : Limits} {young : ℕ} {root library dir w w' : List ℕ} {t t' : Counts} → Later L young w t w' t' → Lent L root library dir w → Lent L root library dir w'
lent_later {L} {young} {root} {library} {dir} {w} {w'} x y =
    let s = y.sourced in
    let low : from_of dir ≤ end_of dir = omega (arith, s.cache.from, s.cache.upto) in
    record {
      sourced = sourced_kept s (from_of dir) (end_of dir - from_of dir) w' (record { from = refl; end = omega arith }) (omega (arith, s.within, x.long)) (λ k a b. x.behind k (omega (arith, y.behind)));
      small = y.small;
      behind = y.behind;
    }

pub findable : {L : Limits} {w : List ℕ} {t : Counts} → Standing L w t → (g : ℕ) → keyed g ≡ true → Findable w (L.rows * 12) L.slots t.charges g
findable {L} {w} {t} s g k = record {
  room = record { records = omega (arith, s.sound.charges); heads = s.ready.room; narrow = omega (arith, s.sound.charges, s.ready.rows) };
  index = s.sound.index;
  key = k;
}

-- what is found is below
pub found_low : (w : List ℕ) (g x y c : ℕ) {f : Newest} {r : ℕ} → found_of f ≡ newest w g x y c → f ≡ Some r → r < c
found_low w g x y c {f} {r} e q = (newest_is (hit w g x y) c r (sym e ∙ rw q)).0

pub enterable : {L : Limits} {w : List ℕ} {t : Counts} → Standing L w t → t.charges < L.rows → (r : Record) → keyed r.tag ≡ true → Enterable w (L.rows * 12) L.slots t.charges r
enterable {L} {w} {t} s l r k = record {
  room = record { records = omega arith; heads = s.ready.room; narrow = omega (arith, s.ready.rows) };
  index = s.sound.index;
  key = k;
}

-- the sheets are small
pub sheet_small : {L : Limits} {root library dir w : List ℕ} → Lent L root library dir w → (doc : ℕ) → length (sheet_of root library doc) ≤ 8 * 1048576
sheet_small {L} {root} {library} x doc = by (eqb doc 0)
  where
    by : (b : Bool) → length (choose b root library) ≤ 8 * 1048576
    by true = x.small
    by false = x.sourced.directory.small

-- the sheet that was selected is that of the slot
pub sheet_is : {L : Limits} {root library dir w : List ℕ} → Lent L root library dir w → {sheet : List ℕ} (doc slot : ℕ) → sheet ≡ sheet_of root library doc → doc ≡ number_of dir slot → rows sheet ≡ rows_of root library dir slot
sheet_is x doc slot e q = rw (e, q)
