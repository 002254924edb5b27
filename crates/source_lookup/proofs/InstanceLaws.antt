-- What a node is an instance of, by its origin; a pick in two words.
use mathlib.Core.Path.{◌≡◌, refl, subst}
use mathlib.Core.List.{List}
use Prim.Native.Nat.{ℕ, zero, suc, ◌+◌, ◌*◌, ◌/◌, ◌%◌}
use native.Mathlib.Omega.{arith}
use borrow.Author.Tests.{ne_eqb}
use Rattle.ast.specs.Ast.{Document, File}
use Rattle.ast.specs.Choice.{map_o}
use Rattle.pick_definition.specs.Picks.{prototype_of, pick_of, prototype_in}
use Rattle.source_lookup.specs.declared.instance.Target.{Target}
use Rattle.source_lookup.specs.declared.instance.Taken.{Taken}
use Rattle.std.specs.Prelude.{Option as Maybe, Some, None}
use Rattle.source_directory.specs.Directory.{number_of, Slot}
use Rattle.source_lookup.specs.Instance.{origin_from, Targeted, target_in, target_said, Packs}

module _ (D : Document) (F : List File) (dir : List ℕ) (s : ℕ) (h : Slot dir s) (id : ℕ) where
  pub instance_proto : (origin : ℕ) → origin ≡ 1 → Targeted dir (prototype_in D F (number_of dir s) (origin_from origin id)) (Some (record { slot = s; proto = record { 0 = id } }))
  unfolding prototype_in
  instance_proto origin e = record { is = rw e; valid = h }

  instance_extern : (origin : ℕ) (x : Maybe Target) → origin ≡ 2 → Targeted dir (map_o prototype_of (pick_of D F (number_of dir s) id)) x → Targeted dir (prototype_in D F (number_of dir s) (origin_from origin id)) x
  unfolding prototype_in
  instance_extern origin x e t = rw e t

  -- by the pick of an extern, or by none
  module _ (origin : ℕ) (e : origin ≡ 2) {t : Maybe Taken} (g : Targeted dir (map_o prototype_of (pick_of D F (number_of dir s) id)) (target_in t)) where
    pub instance_none : t ≡ None → Targeted dir (prototype_in D F (number_of dir s) (origin_from origin id)) None
    instance_none z = instance_extern origin None e (subst (λ (y : Maybe Taken). Targeted dir (map_o prototype_of (pick_of D F (number_of dir s) id)) (target_in y)) z g)

    pub instance_some : {x : Taken} → t ≡ Some x → Targeted dir (prototype_in D F (number_of dir s) (origin_from origin id)) (Some x.target)
    instance_some {x} z = instance_extern origin (Some x.target) e (subst (λ (y : Maybe Taken). Targeted dir (map_o prototype_of (pick_of D F (number_of dir s) id)) (target_in y)) z g)

  pub instance_plain : (origin : ℕ) → (origin ≡ 1 → ⊥) → (origin ≡ 2 → ⊥) → Targeted dir (prototype_in D F (number_of dir s) (origin_from origin id)) None
  unfolding prototype_in
  instance_plain zero a b = record { is = refl; valid = tt }
  instance_plain (suc zero) a b = absurd (a refl)
  instance_plain (suc (suc zero)) a b = absurd (b refl)
  instance_plain (suc (suc (suc n))) a b = record { is = refl; valid = tt }

-- a pick in two words is read as it was
pub packed : (s p m : ℕ) → Packs (Some (record { slot = s; proto = record { 0 = p } })) m → (target_said (m * 65 + s) p ≡ Some (record { slot = s; proto = record { 0 = p } })) × ((m * 65 + s) / 65 ≡ m)
packed s p m k =
    let c : (m * 65 + s) % 65 ≡ s = omega (arith, k.2) in
    (rw (ne_eqb (m * 65 + s) 0 (λ z. omega (arith, k.0)), c), omega (arith, k.2))
