-- An association, and what holds after it.
use mathlib.Core.Path.{◌≡◌, refl, sym, ap, ◌∙◌}
use mathlib.Core.List.{List}
use mathlib.Core.Option.{Option}
use Prim.Native.Nat.{ℕ}
use native.Mathlib.Omega.{arith}
use Rattle.ast.specs.Ast.{FieldValue}
use Rattle.expansion_definition.specs.Values.{Env}
use Rattle.expansion_definition.specs.PlainCopy.{is_value}
use Rattle.journal_records.specs.Made.{association_record}
use Rattle.refine_records.specs.declared.Limits.{Limits}
use Rattle.refine_records.specs.Does.{Answer, did}
use Rattle.refine_records.specs.declared.Counts.{Counts}
use Rattle.refine_records.specs.declared.Env as code
use Rattle.refine_records.specs.Sound.{Standing, Later, EnvAt, env_of}
use Rattle.refine_records.specs.Contract.{Ownership, RecordOwned}
use Rattle.refine_records.proofs.Later.{later_standing, later_env, env_later}
use Rattle.expander_bindings.specs.Contract.{Associated}
use Rattle.expander_bindings.proofs.Steps.{any_source, done_later}

pub associated : {L : Limits} {w : List ℕ} {t : Counts} {e : code.Env} {i n f : ℕ} {w' : List ℕ} {a : Answer} → RecordOwned L w t e (association_record e.scope i n f) w' a → Associated L w t e i n f w' a
associated o = record { does = λ S young. o.association refl S young }

module _ {L : Limits} {w : List ℕ} {t : Counts} {e : code.Env} {i n f : ℕ} (st : Standing L w t) (env : EnvAt w t.charges e) {w1 : List ℕ} {a : Answer} (ad : Associated L w t e i n f w1 a) {s : Counts} {v p : ℕ} (q : a ≡ did s v p) where
  pub then_later : Later L 0 w t w1 s
  then_later = done_later (ad.does any_source 0) q

  pub then_standing : Standing L w1 s
  then_standing = later_standing then_later st

  pub then_env : EnvAt w1 s.charges e
  then_env = later_env then_later env

  -- what a target has is the same
  pub then_value : (target : ℕ) {x : Option (Option FieldValue)} → is_value (env_of w1 e) target ≡ x → is_value (env_of w e) target ≡ x
  then_value target z = ap (λ (E : Env). is_value E target) (sym (env_later then_later env)) ∙ z
