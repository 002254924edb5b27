-- `origin`, and what the readings of a slot's document rest on.
use mathlib.Core.Path.{◌≡◌, refl, sym, ◌∙◌}
use mathlib.Core.List.{List, [], ◌∷◌}
use Prim.Native.Nat.{ℕ, zero, suc}
use lib.ListN.{drop, get_or}
use Rattle.ast.specs.Ast.{NodeOrigin}
use Rattle.sheet_rows.specs.declared.row.Row.{Row}
use Rattle.sheet_rows.specs.Rows.{rows, blank, front}
use Rattle.sheet_rows.specs.Parse.{origin_of}
use Rattle.sheet_lookup.specs.Lookup.{sheet_of}
use Rattle.sheet_walks.proofs.WalkLaws.{front_drop}
use Rattle.source_directory.specs.Directory.{number_of}
use Rattle.expansion_definition.specs.Input.{Input}
use Rattle.expansion_definition.specs.State.{State, ok, Comp, ◌>>=◌, ret}
use Rattle.expansion_definition.specs.Externs.{extern_proto}
use Rattle.expansion_definition.specs.PlainCopy.{copy_origin}
use Rattle.refine_records.specs.declared.Limits.{Limits}
use Rattle.std.specs.declared.result.Result.TheVariants.{Ok, Err}
use Rattle.refine_records.specs.declared.Counts.{Counts}
use Rattle.refine_records.specs.declared.Env as code
use Rattle.refine_records.specs.Sound.{input_of, env_of}
use Rattle.refine_records.specs.Does.{Answer, did, at, IfDone}
use Rattle.expander_parts.specs.Contract.{source_of, rows_of, Declared}
use Rattle.expander_contracts.specs.Contract.{Here, Yields, Is, OriginCopied}
use Rattle.expander_contracts.proofs.Run.{Run, begin, turn, end, go, halt, leaf, gave}

-- the rows of the sheet that a slot's document selects
pub rows_are : (root library dir : List ℕ) (slot n : ℕ) (sheet : List ℕ) → n ≡ number_of dir slot → sheet ≡ sheet_of root library n → rows sheet ≡ rows_of root library dir slot
rows_are root library dir slot n sheet en es = rw (es, en)

module _ (root library dir w : List ℕ) (L : Limits) (t : Counts) (e : code.Env) (row : ℕ) (h : Here root library dir w L t e) (r : Row) (is : r ≡ get_or (rows_of root library dir e.slot) row blank) where
  abbrev R : List Row
  R = rows_of root library dir e.slot

  is_front : front (drop row R) ≡ r
  is_front = front_drop R row ∙ sym is

  abbrev m : Input → Comp NodeOrigin
  m I = copy_origin I (env_of w e) (origin_of (drop row R))

  pub origin_extern : r.c ≡ 2 → {w' : List ℕ} {a : Answer} → Declared L root library dir w t e.slot r.d w' a → OriginCopied root library dir w L t e row w' a
  unfolding copy_origin origin_of
  origin_extern q {w'} {a} x = by a refl
    where
      run : Run root library L t.scopes m w t (λ I. extern_proto I (env_of w e) r.d >>= (λ n. ret (NodeOrigin.ExternProto n))) w t
      run = turn (begin t.scopes m h.standing.sound) (λ I. extern_proto I (env_of w e) r.d >>= (λ n. ret (NodeOrigin.ExternProto n))) (λ D. rw (is_front, q))

      is_done : (b : Answer) → IfDone (λ t' v p. Is w' t' v p v) b
      is_done (Ok a') = record { value = refl }
      is_done (Err x') = tt

      y : Yields root library L t.scopes (λ I. extern_proto I (env_of w e) r.d) Is w t w' a
      y = leaf 0 (λ D. x.does D t.scopes (env_of w e) (sym h.number)) (is_done a)

      by : (b : Answer) → a ≡ b → OriginCopied root library dir w L t e row w' a
      by (Ok a') z = rw z (end (go (λ I n. ret (NodeOrigin.ExternProto n)) run y z) (record { value = rw (is_front, q, (gave y z).value) }))
      by (Err x') z = halt (λ I n. ret (NodeOrigin.ExternProto n)) run y z NodeOrigin.Builtin

  pub origin_other : (r.c ≡ 2 → ⊥) → {v : ℕ} → v ≡ r.d → OriginCopied root library dir w L t e row w (did t v 0)
  unfolding copy_origin origin_of
  origin_other n {v} ev = end (turn (begin t.scopes m h.standing.sound) (λ I. ret (origin_of (drop row R))) (λ D. rw is_front (by r.c n (input_of (source_of root library D) L) (at (source_of root library D) w t)))) (record { value = rw (is_front, ev) })
    where
      by : (k : ℕ) → (k ≡ 2 → ⊥) → (I : Input) (st : State) → copy_origin I (env_of w e) (get_or (NodeOrigin.Builtin ∷ NodeOrigin.Proto r.d ∷ NodeOrigin.ExternProto r.d ∷ []) k NodeOrigin.Unknown) st ≡ ok (get_or (NodeOrigin.Builtin ∷ NodeOrigin.Proto r.d ∷ NodeOrigin.ExternProto r.d ∷ []) k NodeOrigin.Unknown) st
      by zero n I st = refl
      by (suc zero) n I st = refl
      by (suc (suc zero)) n I st = absurd (n refl)
      by (suc (suc (suc k))) n I st = refl
