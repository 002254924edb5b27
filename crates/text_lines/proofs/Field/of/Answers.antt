use Rattle.std.proofs.Common.{rules, ◌≡◌, refl}
use Rattle.std.proofs.lemmas.Fn.{fold_over, fronts}
use Rattle.std.proofs.lemmas.Iterator.{YieldsList-from_slice}
use Rattle.text_lines.specs.declared.Field.TheVariants.{Spaces}
use Rattle.text_lines.specs.Read.{next, reads}
use Rattle.text_lines.proofs.ReadLaws.{reads_more}
use Rattle.text_lines.proofs.Field.of.Goals as goal

pub returns : goal.returns
returns c =
    fold_over fronts (λ y. y.now) _ (λ l f. f ≡ reads Spaces l) _
    (λ l f x g q j k. let e : g ≡ next f x.now = search rules in (reads_more l f g x.now j e, search rules))
    c.iter.result c.args.bytes.now Spaces c.fold.result (YieldsList-from_slice {s = c.iter.result} c.args.bytes.now c.iter.ensures.rest).runs refl c.fold.ensures.ran
