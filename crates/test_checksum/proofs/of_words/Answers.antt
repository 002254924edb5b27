use Rattle.std.proofs.Common.{rules, ◌≡◌, refl}
use Rattle.std.proofs.lemmas.Fn.{fold_over, fronts}
use Rattle.std.proofs.lemmas.Iterator.{YieldsList-from_slice}
use Rattle.test_checksum.specs.Sum.{with, checksum_of}
use Rattle.test_checksum.proofs.SumLaws.{sum_more}
use Rattle.test_checksum.proofs.of_words.Goals as goal

pub returns : goal.returns
returns c =
    fold_over fronts (λ y. y.now) _ (λ l s. s ≡ checksum_of c.args.before l) _
    (λ l s x t q j k. let e : t ≡ with s x.now = search rules in (sum_more c.args.before l s t x.now j e, search rules))
    c.iter.result c.args.words.now c.args.before c.fold.result (YieldsList-from_slice {s = c.iter.result} c.args.words.now c.iter.ensures.rest).runs refl c.fold.ensures.ran
