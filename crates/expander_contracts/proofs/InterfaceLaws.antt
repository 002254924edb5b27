-- `interfaces` and `interface`.
use mathlib.Core.Path.{◌≡◌, refl, sym, subst, ◌∙◌}
use mathlib.Core.Bool.{Bool, true, false}
use mathlib.Core.List.{List, []}
use mathlib.Core.Option.{Option, none, some}
use Prim.Native.Nat.{ℕ, ◌+◌, ◌≤◌}
use native.Mathlib.Omega.{arith}
use lib.ListN.{length, drop, get_or}
use lib.Dec.{eqb}
use borrow.Author.Tests.{eq-eqb, ne_eqb, eqb-true}
use Rattle.ast.specs.Choice.{choose}
use Rattle.ast.specs.Ast.{FieldValue, InterfaceDecl}
use Rattle.sheet_rows.specs.declared.row.Row.{Row}
use Rattle.sheet_rows.specs.declared.part.Part.TheVariants.{Interfaces}
use Rattle.sheet_rows.specs.Rows.{none#, blank, front}
use Rattle.sheet_rows.specs.Parse.{elements, value_of, interface_of, interfaces_of, node_of}
use Rattle.sheet_walks.specs.Walk.{Stands}
use Rattle.sheet_walks.proofs.WalkLaws.{front_drop}
use Rattle.expansion_definition.specs.Input.{Input}
use Rattle.expansion_definition.specs.State.{State, Result, refusal, ok, Comp, bind_r, ◌>>=◌, ◌>>◌, ret, map_m}
use Rattle.expansion_definition.specs.Charges.{charge, paid}
use Rattle.expansion_definition.specs.Values.{Env, copy_data, value}
use Rattle.expansion_definition.specs.PlainCopy.{is_value, copy_target, copy_interface}
use Rattle.expansion_definition.specs.Copy.{copy}
use Rattle.journal_records.specs.Records.{tag_id, tag_interface}
use Rattle.journal_records.specs.Made.{interface_record}
use Rattle.journal_reading.specs.Reading.{interfaces_at}
use Rattle.journal_reading.specs.WellFormed.{HandleAt}
use Rattle.journal_reading.proofs.Chains.{interfaces_none, interfaces_fixed}
use Rattle.refine_records.specs.declared.Limits.{Limits}
use Rattle.std.specs.declared.result.Result.TheVariants.{Ok, Err}
use Rattle.refine_records.specs.declared.Refusal.{Refusal}
use Rattle.refine_records.specs.declared.Counts.{Counts}
use Rattle.refine_records.specs.declared.Env as code
use Rattle.refine_records.specs.Sound.{input_of, env_of}
use Rattle.refine_records.specs.Does.{Answer, did, at, IfDone}
use Rattle.refine_records.specs.Contract.{Keepable, RecordKept}
use Rattle.refine_records.proofs.Later.{env_later, later_handle}
use Rattle.refine_records.proofs.Keeping.{kept_handle, kept_interfaces}
use Rattle.expander_parts.specs.Contract.{source_of, rows_of, node_at_row}
use Rattle.expander_bindings.specs.Contract.{is_interface_of, bound_interface, InterfacesAfter, InterfaceDone}
use Rattle.expander_contracts.specs.Contract.{Here, Yields, AddsInterface, InterfaceAdded, InterfacesCopied, ValueCopied}
use Rattle.source_skips.specs.declared.Aim.TheVariants as aim
use Rattle.source_skips.specs.Skips.{Passed}
use Rattle.expander_contracts.proofs.PassLaws.{interfaces_passed}
use Rattle.expander_contracts.proofs.Run.{begin, last, end, went, gave, leaf, yields_as, since, here_later}
use Rattle.expander_contracts.proofs.Keeps.{charged, keeping, keeping_stop}
use Rattle.expander_contracts.proofs.Walks.{Mapping, loop_start, loop_again, loop_stop, loop_end, loop_past}

-- the record of an interface without an IS
pub interface_keepable : {w : List ℕ} {c v h : ℕ} (r : Row) → HandleAt w c tag_interface h → (r.f ≡ 2 → HandleAt w c tag_id v) → Keepable w c (interface_record r.a r.b r.c none# r.e r.f v h)
interface_keepable r x y = record { least = omega arith; most = omega arith; before = x; value = λ z q. y q }

module _ (root library dir w : List ℕ) (L : Limits) (t : Counts) (e : code.Env) (new row depth : ℕ) where
  abbrev R : List Row
  R = rows_of root library dir e.slot

  -- ---- `interfaces`
  abbrev each : Input → InterfaceDecl → Comp InterfaceDecl
  each I f = copy_interface I (copy I depth (env_of w e)) (env_of w e) new f

  abbrev m : Input → Comp (List InterfaceDecl)
  m I = map_m (each I) (node_at_row root library dir e.slot row).interface

  abbrev pub Interfacing : List ℕ → Counts → ℕ → ℕ → Type 0
  Interfacing = Mapping root library L t.scopes m w t each interface_of (λ I l. ret l) Interfaces R tag_interface interfaces_at (λ l. l)

  module _ (h : Here root library dir w L t e) where
    pub interfaces_start : Interfacing w t 0 (row + 1)
    unfolding node_of interfaces_of
    interfaces_start = loop_start row (last (begin t.scopes m h.standing.sound)) (interfaces_none w)

    pub interfaces_end : {w₁ : List ℕ} {t₁ : Counts} {l p : ℕ} → Interfacing w₁ t₁ l p → elements Interfaces (drop p R) ≡ [] → InterfacesCopied root library dir w L t e new row depth w₁ (did t₁ l 0)
    interfaces_end x z = end (loop_end z x) (record { handle = x.handle; all = x.all })

    -- rows that are passed
    pub interfaces_pass : {w₁ : List ℕ} {t₁ : Counts} {l p q : ℕ} → Interfacing w₁ t₁ l p → Passed aim.Interface R p q → q ≤ length R → Interfacing w₁ t₁ l q
    interfaces_pass x a z = loop_past (interfaces_passed a z) x

    module _ {w₁ : List ℕ} {t₁ : Counts} {l p : ℕ} (x : Interfacing w₁ t₁ l p) where
      pub interfaces_here : Here root library dir w₁ L t₁ e
      interfaces_here = here_later (since x.run) h

      module _ {q : ℕ} (s : Stands Interfaces R p q) {w₂ : List ℕ} {a : Answer} (y : InterfaceAdded root library dir w₁ L t₁ e new q l depth w₂ a) where
        same : Yields root library L t₁.scopes (λ I. each I (interface_of (drop q R))) (AddsInterface (interfaces_at w₁ l)) w₁ t₁ w₂ a
        same = subst (λ (E : Env). Yields root library L t₁.scopes (λ I. copy_interface I (copy I depth E) E new (interface_of (drop q R))) (AddsInterface (interfaces_at w₁ l)) w₁ t₁ w₂ a) (env_later (since x.run) h.env) y

        pub interfaces_again : {t₂ : Counts} {v o : ℕ} → a ≡ did t₂ v o → Interfacing w₂ t₂ v (q + 1)
        interfaces_again eq = loop_again s x same (since x.run).scoped (λ bs b. refl) eq

        pub interfaces_stop : {x' : Refusal} → a ≡ Err x' → InterfacesCopied root library dir w L t e new row depth w₂ a
        interfaces_stop eq = loop_stop s x same (since x.run).scoped eq []

    -- ---- `interface`
    module _ (r : Row) (is : r ≡ get_or R row blank) (l : ℕ) where
      is_front : front (drop row R) ≡ r
      is_front = front_drop R row ∙ sym is

      -- the row's own value
      abbrev own : Option FieldValue
      own = choose (eqb r.f 0) none (some (value_of (drop row R)))

      is_interface_lem : (r.d ≡ none# → ⊥) → interface_of (drop row R) ≡ is_interface_of r own
      unfolding interface_of
      is_interface_lem n = rw (is_front, ne_eqb r.d none# n)

      abbrev bound : InterfaceDecl
      bound = bound_interface r (is_value (env_of w e) r.d)

      pub interface_is_lem : (r.d ≡ none# → ⊥) → {w' : List ℕ} {a : Answer} → InterfaceDone L w t e new r l w' a → InterfaceAdded root library dir w L t e new row l depth w' a
      interface_is_lem n {w'} {a} x =
          rw (is_interface_lem n) (leaf {P = AddsInterface (interfaces_at w l)} bound (λ D. x.does (source_of root library D) t.scopes (copy (input_of (source_of root library D) L) depth (env_of w e)) own) (by a x.done))
        where
          by : (a : Answer) → IfDone (λ t' v p. InterfacesAfter w l bound w' t' v) a → IfDone (λ t' v p. AddsInterface (interfaces_at w l) w' t' v p bound) a
          by (Ok a') z = record { handle = z.handle; all = z.list }
          by (Err x') z = tt

      -- a value, if it has one, and the charge
      abbrev made : FieldValue → InterfaceDecl
      made v = record { access = r.a; field_type = r.b; name = r.c; value = choose (eqb r.f 0) none (some v); is = none }

      abbrev copied : Input → Comp FieldValue
      copied I = value I (copy I depth (env_of w e)) (value_of (drop row R))

      -- the piece of an interface without an IS, by its own value
      without : (r.d ≡ none#) → interface_of (drop row R) ≡ record { access = r.a; field_type = r.b; name = r.c; value = own; is = none }
      unfolding interface_of
      without q = rw (is_front, eq-eqb r.d none# q)

      -- what is copied of it
      as_copied : (r.d ≡ none#) → (I : Input) (st : State) → charged copied made I st ≡ each I (interface_of (drop row R)) st
      unfolding copy_interface copy_target paid bind_r value copy_data
      as_copied q I st = rw (without q) (by (eqb r.f 0) refl)
        where
          shut : (x : Result FieldValue) → bind_r {B = InterfaceDecl} x (λ v. charge I >>= (λ z. ret (record { access = r.a; field_type = r.b; name = r.c; value = some v; is = none }))) ≡ bind_r {B = InterfaceDecl} (bind_r {B = InterfaceDecl} x (λ v. ret (record { access = r.a; field_type = r.b; name = r.c; value = some v; is = none }))) (λ a. charge I >> ret a)
          shut (refusal c i j) = refl
          shut (ok v s) = refl

          by : (b : Bool) → eqb r.f 0 ≡ b → charged copied made I st ≡ each I (record { access = r.a; field_type = r.b; name = r.c; value = own; is = none }) st
          by true z = rw (z, is_front, eqb-true r.f 0 z)
          by false z = rw z (shut (copied I st))

      as_interface : (r.d ≡ none#) → {w' : List ℕ} {a : Answer} → Yields root library L t.scopes (charged copied made) (AddsInterface (interfaces_at w l)) w t w' a → InterfaceAdded root library dir w L t e new row l depth w' a
      as_interface q y = yields_as y (λ I. each I (interface_of (drop row R))) (λ D. as_copied q (input_of (source_of root library D) L) (at (source_of root library D) w t))

      module _ (n : r.d ≡ none#) {w' : List ℕ} {a : Answer} (y : ValueCopied root library dir w L t e row depth w' a) where
        pub interface_stop : {x' : Refusal} → a ≡ Err x' → InterfaceAdded root library dir w L t e new row l depth w' a
        interface_stop q = as_interface n (keeping_stop h.standing.sound made y q)

        module _ (hl : HandleAt w t.charges tag_interface l) {s : Counts} {v p : ℕ} (q : a ≡ did s v p) where
          pub interface_ready : Keepable w' s.charges (interface_record r.a r.b r.c none# r.e r.f v l)
          interface_ready = interface_keepable r (later_handle (went y q) hl) (λ z. (gave y q).ids (rw is_front z))

          pub interface_kept : {w'' : List ℕ} {b : Answer} → RecordKept L w' s (interface_record r.a r.b r.c none# r.e r.f v l) w'' b → InterfaceAdded root library dir w L t e new row l depth w'' b
          interface_kept k = as_interface n (keeping h.standing.sound made y q k (λ t'' v'' p'' x. record {
            handle = kept_handle x interface_ready;
            all = kept_interfaces x interface_ready refl ∙ rw (interfaces_fixed (went y q).kept l hl.low, (gave y q).value, is_front);
          }))
