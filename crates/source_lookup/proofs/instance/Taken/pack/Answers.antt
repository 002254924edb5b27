use Rattle.std.specs.Prelude.{Option as Maybe}
use mathlib.Core.Path.{refl, subst}
use Rattle.source_lookup.specs.declared.instance.Taken.{Taken}
use Rattle.source_lookup.specs.Instance.{target_in, mark_in, Packs}
use Rattle.source_lookup.proofs.InstanceLaws.{packed}
use native.Mathlib.Omega.{arith}
use Rattle.source_lookup.proofs.instance.Taken.pack.Goals as goal

pub overflow_mul-word : goal.overflow_mul-word
overflow_mul-word c = let k = subst (λ (x : Maybe Taken). Packs (target_in x) (mark_in x)) c.in-Some.is c.requires in omega (arith, k.1, k.2)

pub overflow_add-word : goal.overflow_add-word
overflow_add-word c = let k = subst (λ (x : Maybe Taken). Packs (target_in x) (mark_in x)) c.in-Some.is c.requires in omega (arith, k.1, k.2)

pub returns-in-Some : goal.returns-in-Some
returns-in-Some c = let k = subst (λ (x : Maybe Taken). Packs (target_in x) (mark_in x)) c.in-Some.is c.requires in rw c.in-Some.is (packed _ _ _ k)

pub returns-in-None : goal.returns-in-None
returns-in-None c = let k = subst (λ (x : Maybe Taken). Packs (target_in x) (mark_in x)) c.in-None.is c.requires in rw (c.in-None.is, k) (refl, refl)
