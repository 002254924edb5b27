-- `look`: what is found in the map, and the node that it is.
use mathlib.Core.Path.{◌≡◌, sym, ◌∙◌}
use mathlib.Core.Bool.{true}
use mathlib.Core.List.{List}
use Prim.Native.Nat.{ℕ, ◌<◌}
use native.Mathlib.Omega.{arith}
use Rattle.std.specs.declared.option.Option.TheVariants.{Some}
use Rattle.journal_records.specs.Records.{tag_map}
use Rattle.journal_index.specs.Index.{Newest, hit, newest, found_of}
use Rattle.journal_index.proofs.Keys.{hit_is}
use Rattle.journal_records.proofs.Lists.{newest_is}
use Rattle.journal_reading.proofs.Fair.{node_at_more}
use Rattle.journal_reading.proofs.Lookups.{map_lookup}
use Rattle.refine_records.specs.declared.Limits.{Limits}
use Rattle.refine_records.specs.declared.Counts.{Counts}
use Rattle.refine_records.specs.declared.Env as code
use Rattle.refine_records.specs.Sound.{JournalSound, EnvAt}
use Rattle.refine_records.specs.Contract.{CopyLooked}
use Rattle.refine_records.proofs.Later.{env_scope}

module _ {L : Limits} {w : List ℕ} {t : Counts} (so : JournalSound L w t) (e : code.Env) (env : EnvAt w t.charges e) where
  pub look_law : (id : ℕ) (f : Newest) → found_of f ≡ newest w tag_map e.place id t.charges → CopyLooked w t.charges e.scope id f
  look_law id f q = record {
    same = map_lookup w t.charges e.scope e.place so.fair so.owned (env_scope env) id ∙ rw (← q);
    node = λ r z. node_at_more (omega (arith, (is r z).0)) ((so.fair.each r (is r z).0).mapped (hit_is w tag_map e.place id r (is r z).1).tag).copy;
    low = λ r z. (is r z).0;
  }
    where
      is : (r : ℕ) → f ≡ Some r → (r < t.charges) × (hit w tag_map e.place id r ≡ true)
      is r z = newest_is (hit w tag_map e.place id) t.charges r (sym q ∙ rw z)
