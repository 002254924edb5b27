-- `copy`: a mapped id answers its copy; else 5; else 9 where no depth is left; else a plain copy or an instance.
use mathlib.Core.Path.{◌≡◌, refl, sym, ap, ◌∙◌}
use mathlib.Core.List.{List}
use mathlib.Core.Option.{none, some}
use Prim.Native.Nat.{ℕ, zero, suc, ◌-◌}
use native.Mathlib.Omega.{arith}
use lib.ListN.{get_or}
use Rattle.ast.specs.Ast.{Node}
use Rattle.ast.specs.Choice.{map_o}
use Rattle.ast.specs.Lookups.{node_at}
use Rattle.sheet_rows.specs.declared.row.Row.{Row}
use Rattle.sheet_rows.specs.Rows.{rows, blank}
use Rattle.sheet_rows.specs.Parse.{origin_of, node_of, document_of, files_of}
use Rattle.sheet_walks.specs.declared.walk.Found as walk
use Rattle.sheet_walks.specs.declared.walk.Found.TheVariants as walked
use Rattle.sheet_lookup.specs.Lookup.{root_and_files, Located}
use Rattle.sheet_walks.specs.Walk.{rows_at}
use Rattle.sheet_walks.proofs.WalkLaws.{front_drop}
use Rattle.pick_definition.specs.Picks.{prototype_in}
use Rattle.source_directory.specs.Directory.{number_of, Slot}
use Rattle.source_lookup.specs.declared.instance.Target.{Target}
use Rattle.std.specs.Prelude.{Option as Maybe, Some, None}
use Rattle.source_lookup.specs.Instance.{origin_from, target_of, Targeted}
use Rattle.expansion_definition.specs.Input.{Input, docs, proto_of_origin}
use Rattle.expansion_definition.specs.State.{Comp, refusal, ok, ret, fail, lookup}
use Rattle.expansion_definition.specs.Values.{src}
use Rattle.expansion_definition.specs.Copy.{copy_node, mapped_or, copy}
use Rattle.journal_index.specs.Index.{Newest}
use Rattle.std.specs.declared.option.Option.TheVariants.{None, Some}
use Rattle.journal_records.specs.Records.{cell}
use Rattle.journal_reading.specs.Reading.{map_of}
use Rattle.refine_records.specs.declared.Limits.{Limits}
use Rattle.std.specs.declared.result.Result.TheVariants.{Err}
use Rattle.refine_records.specs.declared.Refusal.TheVariants.{TooDeep, DanglingNode}
use Rattle.refine_records.specs.declared.Counts.{Counts}
use Rattle.refine_records.specs.declared.Env as code
use Rattle.refine_records.specs.Sound.{input_of, env_of}
use Rattle.refine_records.specs.Does.{Answer, did, at}
use Rattle.refine_records.specs.Contract.{CopyLooked}
use Rattle.expander_parts.specs.Contract.{source_of, rows_of, node_at_row}
use Rattle.expander_contracts.specs.Contract.{Here, AtRow, Copied, PlainNodeCopied, Instantiated}
use Rattle.expander_contracts.proofs.Run.{begin, turn, end, refuse, yields_as}

module _ (root library dir w : List ℕ) (L : Limits) (t : Counts) (e : code.Env) (id depth : ℕ) (h : Here root library dir w L t e) {f : Newest} (lk : CopyLooked w t.charges e.scope id f) where
  abbrev m : Input → Comp ℕ
  m I = copy I depth (env_of w e) id

  pub copy_known : {k v p : ℕ} → f ≡ Some k → v ≡ cell w k 3 → p ≡ cell w k 4 → Copied root library w L t e id depth w (did t v p)
  unfolding copy mapped_or
  copy_known {k} {v} {p} q ev ep =
      end (turn (begin t.scopes m h.standing.sound) (λ I. ret (cell w k 3)) (λ D. by depth D))
      (record { value = sym ev; node = rw (ev, ep) (lk.node k q) })
    where
      is : lookup (map_of w t.charges) e.scope id ≡ some (cell w k 3)
      is = lk.same ∙ rw q

      by : (d D : ℕ) → copy (input_of (source_of root library D) L) d (env_of w e) id (at (source_of root library D) w t) ≡ ok (cell w k 3) (at (source_of root library D) w t)
      by zero D = rw is
      by (suc d) D = rw is

  -- not mapped: the node that the id says, or none
  module _ (q : f ≡ None) {x : walk.Found} (lo : Located node_of (node_at (root_and_files root library) (number_of dir e.slot) id) (rows_of root library dir e.slot) x) where
    lost : lookup (map_of w t.charges) e.scope id ≡ none
    lost = lk.same ∙ rw q

    says : (D : ℕ) → node_at (docs (input_of (source_of root library D) L)) (src (env_of w e)) id ≡ map_o node_of (rows_at (rows_of root library dir e.slot) x)
    unfolding root_and_files
    says D = ap (λ (d : ℕ). node_at (docs (input_of (source_of root library D) L)) d id) (sym h.number) ∙ lo.is

    pub copy_5 : {d : ℕ} → x ≡ walked.Nothing → d ≡ number_of dir e.slot → Copied root library w L t e id depth w (Err (DanglingNode d id))
    unfolding copy mapped_or
    copy_5 {d} lacks ed = rw (ed, h.number) (refuse (DanglingNode (src (env_of w e)) id) (turn (begin t.scopes m h.standing.sound) (λ I. fail 5 (src (env_of w e)) id) (λ D. by depth D)) 0)
      where
        by : (n D : ℕ) → copy (input_of (source_of root library D) L) n (env_of w e) id (at (source_of root library D) w t) ≡ refusal 5 (src (env_of w e)) id
        by zero D = rw (lost, says D, lacks)
        by (suc n) D = rw (lost, says D, lacks)

    pub copy_9 : {row : ℕ} → x ≡ walked.At row → depth ≡ 0 → Copied root library w L t e id depth w (Err TooDeep)
    unfolding copy mapped_or
    copy_9 {row} there z = refuse TooDeep (turn (begin t.scopes m h.standing.sound) (λ I. fail 9 0 0) (λ D. rw (z, lost, says D, there))) 0

    module _ {row : ℕ} (there : x ≡ walked.At row) where
      pub copy_row : AtRow root library dir e.slot row
      copy_row = record { below = rw there at lo.below }

      module _ (more : depth ≡ 0 → ⊥) (r : Row) (is : r ≡ get_or (rows_of root library dir e.slot) row blank) {g : Maybe Target} (tg : Targeted dir (prototype_in (document_of (rows root)) (files_of (rows library)) (number_of dir e.slot) (origin_from r.c r.d)) g) where
        abbrev node : Node
        node = node_at_row root library dir e.slot row

        origin_is : node.origin ≡ origin_from r.c r.d
        unfolding node_of origin_of
        origin_is = rw (front_drop (rows_of root library dir e.slot) row, ← is)

        wanted : (D : ℕ) → proto_of_origin (input_of (source_of root library D) L) (src (env_of w e)) node.origin ≡ target_of dir g
        wanted D = rw (← h.number, origin_is) (sym tg.is)

        enters : (D : ℕ) → copy (input_of (source_of root library D) L) depth (env_of w e) id (at (source_of root library D) w t) ≡ copy_node (input_of (source_of root library D) L) (copy (input_of (source_of root library D) L) (depth - 1)) (env_of w e) id node (target_of dir g) (at (source_of root library D) w t)
        unfolding copy mapped_or
        enters D = by depth more
          where
            by : (n : ℕ) → (n ≡ 0 → ⊥) → copy (input_of (source_of root library D) L) n (env_of w e) id (at (source_of root library D) w t) ≡ copy_node (input_of (source_of root library D) L) (copy (input_of (source_of root library D) L) (n - 1)) (env_of w e) id node (target_of dir g) (at (source_of root library D) w t)
            by zero z = absurd (z refl)
            by (suc n) z = let k : suc n - 1 ≡ n = omega arith in rw (k, lost, says D, there, wanted D)

        pub copy_plain_lem : g ≡ None → {w' : List ℕ} {a : Answer} → PlainNodeCopied root library dir w L t e id row (depth - 1) w' a → Copied root library w L t e id depth w' a
        unfolding copy_node
        copy_plain_lem z y = yields_as y m (λ D. sym (enters D ∙ rw z))

        pub copy_slot : {y : Target} → g ≡ Some y → Slot dir y.slot
        copy_slot z = rw z at tg.valid

        pub copy_instance : {target : Target} → g ≡ Some target → {w' : List ℕ} {a : Answer} → Instantiated root library dir w L t e id row target.slot target.proto.0 (depth - 1) w' a → Copied root library w L t e id depth w' a
        unfolding copy_node
        copy_instance z y = yields_as y m (λ D. sym (enters D ∙ rw z))
