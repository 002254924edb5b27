-- `statement` and `body`: what the body of a scope gives, one statement after the other.
use mathlib.Core.Path.{◌≡◌, refl, sym, ap, subst, ◌∙◌}
use mathlib.Core.Bool.{Bool, true, false, not, ◌||◌}
use mathlib.Core.List.{List, [], ◌∷◌, ◌++◌}
use mathlib.Core.Option.{some}
use Prim.Native.Nat.{ℕ, zero, suc, ◌+◌, ◌≤◌, ◌<◌}
use native.Mathlib.Omega.{arith}
use native.Mathlib.Numerals.{add-one}
use native.Mathlib.Decide.{ℕ_discrete}
use lib.ListN.{length, drop, get_or}
use lib.Dec.{eqb, leb, ltb}
use borrow.Author.Tests.{eq-eqb, ne_eqb, ltb-true, ltb-false}
use Rattle.ast.specs.Ast.{Statement}
use Rattle.sheet_rows.specs.declared.row.Row.{Row}
use Rattle.sheet_rows.specs.declared.part.Part.TheVariants.{Statements}
use Rattle.sheet_rows.specs.Rows.{blank, front, rest}
use Rattle.sheet_rows.specs.Parse.{elements, passes, route_of, statement_of, statements_of}
use Rattle.sheet_walks.specs.Walk.{Stands}
use Rattle.sheet_walks.proofs.WalkLaws.{elements_take, elements_pass, front_drop, rest_drop, each_at}
use Rattle.expansion_definition.specs.Input.{Input}
use Rattle.expansion_definition.specs.State.{State, Result, refusal, ok, Comp, bind_r, ◌>>=◌, ◌>>◌, ret, fold_m}
use Rattle.expansion_definition.specs.Charges.{charge, paid}
use Rattle.expansion_definition.specs.Values.{Env}
use Rattle.expansion_definition.specs.Externs.{extern_proto}
use Rattle.expansion_definition.specs.Instances as instances
use Rattle.expansion_definition.specs.Instances.{Body, add_entry, body_statement}
use Rattle.expansion_definition.specs.Copy.{copy}
use Rattle.journal_records.specs.declared.Record.{Record}
use Rattle.journal_records.specs.Records.{tag_association, tag_instance, cell}
use Rattle.journal_records.specs.Made.{root_record, route_record}
use Rattle.journal_records.proofs.Frame.{steady_tag, steady_first}
use Rattle.journal_lists.proofs.Owned.{append_fixed}
use Rattle.journal_reading.specs.Reading.{route_new, body_of}
use Rattle.journal_reading.specs.WellFormed.{NodeAt}
use Rattle.journal_reading.specs.RecordsStay.{Unrecorded}
use Rattle.refine_records.specs.declared.Limits.{Limits}
use Rattle.std.specs.declared.result.Result.TheVariants.{Ok, Err}
use Rattle.std.specs.Prelude.{Option as Maybe, Some, None, is_some}
use Rattle.refine_records.specs.declared.Refusal.{Refusal}
use Rattle.refine_records.specs.declared.NodeCopy.{NodeCopy}
use Rattle.refine_records.specs.declared.Counts.{Counts}
use Rattle.refine_records.specs.declared.Env as code
use Rattle.refine_records.specs.Sound.{input_of, JournalSound, Later, env_of}
use Rattle.refine_records.specs.Does.{Answer, did, at, IfDone}
use Rattle.refine_records.specs.Contract.{Ownership, OwnedAt, RecordOwned, MappedAt, Mapped}
use Rattle.refine_records.proofs.Later.{later_env, env_later, later_node, body_later, unrecorded_later}
use Rattle.refine_records.proofs.Owning.{own_root, own_route}
use Rattle.expander_parts.specs.Contract.{source_of, Declared}
use Rattle.expander_contracts.specs.Contract.{Yields, Placed, BodySoFar, InBody, Copied, BodyCopied, BodyStatementCopied, root_place, Rooted, kept_of}
use Rattle.sheet_part.proofs.PartLaws.{true_false}
use Rattle.source_skips.specs.declared.Aim.TheVariants as aim
use Rattle.source_skips.specs.Skips.{passable, Passed}
use Rattle.expander_contracts.proofs.PassLaws.{pass_on, not_kind, or_first_lem}
use Rattle.expander_contracts.proofs.Run.{Run, begin, turn, end, go, halt, went, gave, leaf, yields_young, since, here_later}

-- ---- the root: none is at place 0, and a root at no place 0
pub none_at : (r : Maybe NodeCopy) {b : Bool} → is_some r ≡ not b → b ≡ true → root_place r ≡ 0
none_at None e q = refl
none_at (Some x) e q = absurd (true_false (e ∙ ap not q))

pub some_at : (r : Maybe NodeCopy) {b : Bool} → Rooted r → is_some r ≡ not b → b ≡ false → root_place r ≡ 0 → ⊥
some_at None l e q z = true_false (sym (e ∙ ap not q))
some_at (Some x) l e q z = omega (arith, l, z)

-- ---- what stays true of a body

-- a step that writes records of younger scopes alone
pub inside_later : {root library dir w w' : List ℕ} {L : Limits} {young : ℕ} {t t' : Counts} {e inner : code.Env} {out place : ℕ} → Later L young w t w' t' → inner.scope < young → InBody root library dir w L t e inner out place → InBody root library dir w' L t' e inner out place
inside_later {inner = inner} x le h = record {
  env = later_env x h.env;
  here = here_later x h.here;
  opened = omega (arith, x.scoped, h.opened);
  rooted = λ z. later_node x (h.rooted z);
  unrecorded = unrecorded_later x inner.scope le h.unrecorded;
}

-- what the body has given at the end of a step
pub inside_next : {root library dir w w' : List ℕ} {L : Limits} {young : ℕ} {t t' : Counts} {e inner : code.Env} {out place out' place' : ℕ} {b : Body} → Later L young w t w' t' → BodySoFar inner.scope w' t' out' place' b → InBody root library dir w L t e inner out place → InBody root library dir w' L t' e inner out' place'
inside_next x y h = record { env = later_env x h.env; here = here_later x h.here; opened = omega (arith, x.scoped, h.opened); rooted = y.rooted; unrecorded = y.unrecorded }

-- a record of a scope's own lists is no instance
own_unrecorded : {w : List ℕ} {t : Counts} {e : code.Env} {r : Record} {w' : List ℕ} {t' : Counts} {n : ℕ} → OwnedAt w t e r w' t' → Unrecorded w t.charges n → Unrecorded w' t'.charges n
own_unrecorded {w} {t} {e} {r} {w'} {t'} {n} x u = record { apart = λ q l i s. by q l i s (ltb q t.charges) refl }
  where
    more : t'.charges ≡ t.charges + 1
    more = rw x.counts

    by : (q : ℕ) → q < t'.charges → cell w' q 0 ≡ tag_instance → cell w' q 1 ≡ n → (b : Bool) → ltb q t.charges ≡ b → ⊥
    by q l i s true z =
        let k : q < t.charges = ltb-true q t.charges z in
        let st = (append_fixed x.appended).steady q k in
        u.apart q k (sym (steady_tag st) ∙ i) (sym (steady_first st 1 (omega arith)) ∙ s)
    by q l i s false z =
        let k : q ≡ t.charges = omega (arith, ltb-false q t.charges z, more) in
        omega (arith, (rw k at i), x.appended.holds.at0, x.appended.tag.high)

-- ---- the records of an extra root and of a route
-- ---- `statement`
module _ (root library dir w : List ℕ) (L : Limits) (t : Counts) (e : code.Env) (id : ℕ) (inner : code.Env) (R : List Row) (row out place depth : ℕ) (h : InBody root library dir w L t e inner out place) (r : Row) (is : r ≡ get_or R row blank) where
  abbrev n : ℕ
  n = inner.scope

  -- what the body gave so far
  abbrev b : Body
  b = body_of w t.charges n out place

  abbrev m : Input → Comp Body
  m I = body_statement I (copy I depth) (env_of w e) id (env_of w inner) b (statement_of (drop row R))

  so : JournalSound L w t
  so = h.here.standing.sound

  is_front : front (drop row R) ≡ r
  is_front = front_drop R row ∙ sym is

  -- a charge and a record of the scope's own lists are left
  owned : {w₁ : List ℕ} {s : Counts} {x : Record} {c : Body} → Run root library L n m w t (λ I. charge I >>= (λ z. ret c)) w₁ s → InBody root library dir w₁ L s e inner out place → (x.tag ≡ tag_association → ⊥)
      → {w₂ : List ℕ} → ((t₂ : Counts) → OwnedAt w₁ s inner x w₂ t₂ → c ≡ body_of w₂ t₂.charges n out place) → (a : Answer) → RecordOwned L w₁ s inner x w₂ a → BodyStatementCopied root library w L t e id inner R row out place depth w₂ (kept_of a out place)
  owned {w₁} {s} {x} {c} run hi ne {w₂} eq a o = by a o
    where
      paid_by : {a : Answer} → RecordOwned L w₁ s inner x w₂ a → Yields root library L n charge (λ u s₂ v p z. OwnedAt w₁ s inner x u s₂) w₁ s w₂ a
      paid_by o = leaf tt (λ D. o.body ne (source_of root library D) n (omega arith)) o.done

      by : (a : Answer) → RecordOwned L w₁ s inner x w₂ a → BodyStatementCopied root library w L t e id inner R row out place depth w₂ (kept_of a out place)
      by (Ok a') o = end (go (λ I z. ret c) run (paid_by o) refl) (record {
        body = eq a'.st o.done;
        rooted = λ z. later_node (went (paid_by o) refl) (hi.rooted z);
        unrecorded = own_unrecorded o.done hi.unrecorded;
      })
      by (Err x') o = halt (λ I z. ret c) run (paid_by o) refl c

  -- ---- a Node
  module _ (q : r.a ≡ 0) where
    is_node : statement_of (drop row R) ≡ Statement.Node r.b
    unfolding statement_of
    is_node = rw (is_front, q)

    -- what is left after its copy
    abbrev put : Input → ℕ → Comp Body
    put I o = instances.place I (env_of w e) id o b b.root

    node_run : Run root library L n m w t (λ I. copy I depth (env_of w inner) r.b >>= put I) w t
    unfolding body_statement
    node_run = turn (begin n m so) (λ I. copy I depth (env_of w inner) r.b >>= put I) (λ D. rw is_node)

    module _ {w₁ : List ℕ} {a : Answer} (y : Copied root library w L t inner r.b depth w₁ a) where
      within : Yields root library L n (λ I. copy I depth (env_of w inner) r.b) Placed w t w₁ a
      within = yields_young (omega (arith, h.opened)) y

      pub node_stop : {x' : Refusal} → a ≡ Err x' → BodyStatementCopied root library w L t e id inner R row out place depth w₁ a
      node_stop z = halt put node_run within z b

      module _ {s : Counts} {o p : ℕ} (z : a ≡ did s o p) where
        pub node_inside : InBody root library dir w₁ L s e inner out place
        node_inside = inside_later (went y z) h.opened h

        pub node_ready : NodeAt w₁ s.charges o p
        node_ready = (gave y z).node

        copied : Run root library L n m w t (λ I. put I o) w₁ s
        copied = turn (go put node_run within z) (λ I. put I o) (λ D. ap (λ (x : ℕ). put (input_of (source_of root library D) L) x (at (source_of root library D) w₁ s)) (gave within z).value)

        same : body_of w₁ s.charges n out place ≡ b
        same = body_later (went y z) n h.opened out place

        -- the root, mapped at that moment
        module _ (none? : place ≡ 0) where
          abbrev rooted : Body
          rooted = record { root = some o; extra_roots = b.extra_roots; routes = b.routes }

          abbrev entering : Input → Comp (Unit {0})
          entering I = charge I >> (λ st. ok tt (add_entry e.scope id o st))

          root_run : Run root library L n m w t (λ I. entering I >>= (λ z. ret rooted)) w₁ s
          unfolding instances.place bind_r
          root_run = turn copied (λ I. entering I >>= (λ z. ret rooted)) (λ D. rw (eq-eqb place 0 none?) (by (charge (input_of (source_of root library D) L) (at (source_of root library D) w₁ s))))
            where
              by : (x : Result (Unit {0})) → bind_r {B = Body} x (λ u. λ st. ok rooted (add_entry e.scope id o st)) ≡ bind_r {B = Body} (bind_r {B = Unit {0}} x (λ u. λ st. ok tt (add_entry e.scope id o st))) (λ z. ret rooted)
              by (refusal k i j) = refl
              by (ok u st) = refl

          pub node_mapped : {w₂ : List ℕ} (a₂ : Answer) → Mapped L w₁ s e.scope id o p w₂ a₂ → BodyStatementCopied root library w L t e id inner R row out place depth w₂ a₂
          node_mapped {w₂} a₂ x = by a₂ x
            where
              entered : (young : ℕ) {a₂ : Answer} → Mapped L w₁ s e.scope id o p w₂ a₂ → Yields root library L young entering (λ u s₂ v k z. MappedAt s o p s₂ v k) w₁ s w₂ a₂
              entered young x = leaf tt (λ D. x.does (source_of root library D) young) x.done

              by : (a₂ : Answer) → Mapped L w₁ s e.scope id o p w₂ a₂ → BodyStatementCopied root library w L t e id inner R row out place depth w₂ a₂
              by (Ok a') x =
                  let la : Later L (n + 1) w₁ s w₂ a'.st = went (entered (n + 1) x) refl in
                  let some? : 0 < a'.place = omega (arith, node_ready.some, x.done.node) in
                  end (go (λ I z. ret rooted) root_run (entered n x) refl) (record {
                    body = rw (body_later la n (omega arith) a'.value a'.place, x.done.value, ne_eqb a'.place 0 (λ l. omega arith)) (ap (λ (c : Body). record { root = some o; extra_roots = c.extra_roots; routes = c.routes }) (sym same));
                    rooted = λ l. later_node la (rw (x.done.value, x.done.node) node_ready);
                    unrecorded = unrecorded_later la n (omega arith) node_inside.unrecorded;
                  })
              by (Err x') x = halt (λ I z. ret rooted) root_run (entered n x) refl rooted

        -- an extra root
        pub root_ready : Ownership w₁ s.charges inner (root_record n o)
        root_ready = record { env = node_inside.here.env; tag = record { low = omega arith; high = omega arith }; scope = refl }

        pub node_extra : (place ≡ 0 → ⊥) → {w₂ : List ℕ} (a₂ : Answer) → RecordOwned L w₁ s inner (root_record n o) w₂ a₂ → BodyStatementCopied root library w L t e id inner R row out place depth w₂ (kept_of a₂ out place)
        unfolding instances.place paid bind_r
        node_extra ne a₂ x =
            owned {c = record { root = some out; extra_roots = b.extra_roots ++ (o ∷ []); routes = b.routes }}
            (turn copied (λ I. charge I >>= (λ z. ret (record { root = some out; extra_roots = b.extra_roots ++ (o ∷ []); routes = b.routes }))) (λ D. rw (ne_eqb place 0 ne)))
            node_inside (λ z. omega arith) (λ t₂ y. sym (own_root y refl out place refl ∙ rw (ne_eqb place 0 ne) (ap (λ (c : Body). record { root = some out; extra_roots = c.extra_roots ++ (o ∷ []); routes = c.routes }) same))) a₂ x

  -- ---- an ExternProto
  module _ (q : r.a ≡ 2) where
    is_extern : statement_of (drop row R) ≡ Statement.ExternProto r.b
    unfolding statement_of
    is_extern = rw (is_front, q)

    extern_run : Run root library L n m w t (λ I. extern_proto I (env_of w inner) r.b >>= (λ k. ret b)) w t
    unfolding body_statement
    extern_run = turn (begin n m so) (λ I. extern_proto I (env_of w inner) r.b >>= (λ k. ret b)) (λ D. rw is_extern)

    pub statement_extern : {w₁ : List ℕ} (a : Answer) → Declared L root library dir w t inner.slot r.b w₁ a → BodyStatementCopied root library w L t e id inner R row out place depth w₁ (kept_of a out place)
    statement_extern {w₁} a x = by a x
      where
        declared : (young : ℕ) {a : Answer} → Declared L root library dir w t inner.slot r.b w₁ a → IfDone (λ t₁ v p. Unit {0}) a → Yields root library L young (λ I. extern_proto I (env_of w inner) r.b) (λ u s v p k. Unit {0}) w t w₁ a
        declared young x y = leaf 0 (λ D. x.does D young (env_of w inner) (sym h.here.number)) y

        by : (a : Answer) → Declared L root library dir w t inner.slot r.b w₁ a → BodyStatementCopied root library w L t e id inner R row out place depth w₁ (kept_of a out place)
        by (Ok a') x =
            let la : Later L (n + 1) w t w₁ a'.st = went (declared (n + 1) x tt) refl in
            end (go (λ I k. ret b) extern_run (declared n x tt) refl) (record {
              body = sym (body_later la n (omega arith) out place);
              rooted = λ z. later_node la (h.rooted z);
              unrecorded = unrecorded_later la n (omega arith) h.unrecorded;
            })
        by (Err x') x = halt (λ I k. ret b) extern_run (declared n x tt) refl b

  -- ---- a Route
  module _ (q : r.a ≡ 3) where
    is_route : statement_of (drop row R) ≡ Statement.Route (route_new (route_record n r.b r.c r.d r.e r.f r.g))
    unfolding statement_of route_of
    is_route = rw (is_front, q)

    pub route_ready : Ownership w t.charges inner (route_record n r.b r.c r.d r.e r.f r.g)
    route_ready = record { env = h.here.env; tag = record { low = omega arith; high = omega arith }; scope = refl }

    pub statement_route : {w₁ : List ℕ} (a : Answer) → RecordOwned L w t inner (route_record n r.b r.c r.d r.e r.f r.g) w₁ a → BodyStatementCopied root library w L t e id inner R row out place depth w₁ (kept_of a out place)
    unfolding body_statement paid bind_r
    statement_route a x =
        owned {c = record { root = b.root; extra_roots = b.extra_roots; routes = b.routes ++ (route_new (route_record n r.b r.c r.d r.e r.f r.g) ∷ []) }}
        (turn (begin n m so) (λ I. charge I >>= (λ z. ret (record { root = b.root; extra_roots = b.extra_roots; routes = b.routes ++ (route_new (route_record n r.b r.c r.d r.e r.f r.g) ∷ []) }))) (λ D. rw is_route))
        h (λ z. omega arith) (λ t₂ y. sym (own_route y refl out place refl)) a x

  -- ---- a Proto, or another
  module _ (n0 : r.a ≡ 0 → ⊥) (n2 : r.a ≡ 2 → ⊥) (n3 : r.a ≡ 3 → ⊥) where
    is_nothing : (I : Input) (st : State) → m I st ≡ ok b st
    unfolding body_statement statement_of
    is_nothing I st = rw is_front (by r.a refl)
      where
        by : (k : ℕ) → r.a ≡ k
            → body_statement I (copy I depth) (env_of w e) id (env_of w inner) b (get_or (Statement.Node r.b ∷ Statement.Proto r.b ∷ Statement.ExternProto r.b ∷ Statement.Route (route_of (drop row R)) ∷ []) k (Statement.Other r.b)) st ≡ ok b st
        by zero q = absurd (n0 q)
        by (suc zero) q = refl
        by (suc (suc zero)) q = absurd (n2 q)
        by (suc (suc (suc zero))) q = absurd (n3 q)
        by (suc (suc (suc (suc k)))) q = refl

    pub statement_nothing : BodyStatementCopied root library w L t e id inner R row out place depth w (did t out place)
    statement_nothing = end (turn (begin n m so) (λ I. ret b) (λ D. is_nothing (input_of (source_of root library D) L) (at (source_of root library D) w t))) (record { body = refl; rooted = h.rooted; unrecorded = h.unrecorded })

-- ---- `body`: where its loop stands
pub record Bodying (root library dir w : List ℕ) (L : Limits) (t : Counts) (e : code.Env) (id : ℕ) (inner : code.Env) (R : List Row) (depth : ℕ) (w₁ : List ℕ) (t₁ : Counts) (out place p : ℕ) : Type 0 where
  pub run : Run root library L inner.scope
      (λ I. fold_m (body_statement I (copy I depth) (env_of w e) id (env_of w inner)) (body_of w t.charges inner.scope 0 0) (statements_of (rest R))) w t
      (λ I. fold_m (body_statement I (copy I depth) (env_of w e) id (env_of w inner)) (body_of w₁ t₁.charges inner.scope out place) (statements_of (drop p R))) w₁ t₁
  pub inside : InBody root library dir w₁ L t₁ e inner out place

module _ (root library dir w : List ℕ) (L : Limits) (t : Counts) (e : code.Env) (id : ℕ) (inner : code.Env) (R : List Row) (depth : ℕ) (h : InBody root library dir w L t e inner 0 0) where
  abbrev each : Input → Body → Statement → Comp Body
  each I = body_statement I (copy I depth) (env_of w e) id (env_of w inner)

  abbrev whole : Input → Comp Body
  whole I = fold_m (each I) (body_of w t.charges inner.scope 0 0) (statements_of (rest R))

  pub body_start : Bodying root library dir w L t e id inner R depth w t 0 0 1
  body_start = record { run = turn (begin inner.scope whole h.here.standing.sound) (λ I. fold_m (each I) (body_of w t.charges inner.scope 0 0) (statements_of (drop 1 R))) (λ D. rw (rest_drop R 0)); inside = h }

  module _ {w₁ : List ℕ} {t₁ : Counts} {out place p : ℕ} (x : Bodying root library dir w L t e id inner R depth w₁ t₁ out place p) where
    abbrev now : Body
    now = body_of w₁ t₁.charges inner.scope out place

    pub body_end : elements Statements (drop p R) ≡ [] → BodyCopied root library w L t e id inner R depth w₁ (did t₁ out place)
    unfolding fold_m statements_of
    body_end z = end (turn x.run (λ I. ret now) (λ D. rw z)) (record { body = refl; rooted = x.inside.rooted; unrecorded = x.inside.unrecorded })

    module _ {q : ℕ} (s : Stands Statements R p q) {w₂ : List ℕ} {a : Answer} (y : BodyStatementCopied root library w₁ L t₁ e id inner R q out place depth w₂ a) where
      abbrev rest_of : Input → Body → Comp Body
      rest_of I c = fold_m (each I) c (statements_of (drop (q + 1) R))

      next : Run root library L inner.scope whole w t (λ I. each I now (statement_of (drop q R)) >>= rest_of I) w₁ t₁
      unfolding fold_m statements_of
      next = turn x.run (λ I. each I now (statement_of (drop q R)) >>= rest_of I) (λ D. rw (each_at statement_of s))

      same_env : Yields root library L inner.scope (λ I. each I now (statement_of (drop q R))) (BodySoFar inner.scope) w₁ t₁ w₂ a
      same_env =
          subst (λ (E : Env). Yields root library L inner.scope (λ I. body_statement I (copy I depth) (env_of w e) id E now (statement_of (drop q R))) (BodySoFar inner.scope) w₁ t₁ w₂ a) (env_later (since x.run) h.here.env)
          (subst (λ (E : Env). Yields root library L inner.scope (λ I. body_statement I (copy I depth) E id (env_of w₁ inner) now (statement_of (drop q R))) (BodySoFar inner.scope) w₁ t₁ w₂ a) (env_later (since x.run) h.env) y)

      pub body_again : {t₂ : Counts} {v o : ℕ} → a ≡ did t₂ v o → Bodying root library dir w L t e id inner R depth w₂ t₂ v o (q + 1)
      body_again {t₂} {v} {o} z = record {
        run = turn (go rest_of next same_env z) (λ I. rest_of I (body_of w₂ t₂.charges inner.scope v o)) (λ D. ap (λ (c : Body). rest_of (input_of (source_of root library D) L) c (at (source_of root library D) w₂ t₂)) (gave same_env z).body);
        inside = inside_next (went same_env z) (gave same_env z) x.inside;
      }

      pub body_stop : {x' : Refusal} → a ≡ Err x' → BodyCopied root library w L t e id inner R depth w₂ a
      body_stop z = halt rest_of next same_env z now

  -- a row that is passed
  body_pass_one : {w₁ : List ℕ} {t₁ : Counts} {out place p : ℕ} → Bodying root library dir w L t e id inner R depth w₁ t₁ out place p → p < length R → passable aim.Body (get_or R p blank) ≡ true → Bodying root library dir w L t e id inner R depth w₁ t₁ out place (p + 1)
  unfolding statements_of
  body_pass_one {w₁} {t₁} {out} {place} {p} x below a = by (ℕ_discrete (get_or R p blank).kind 5)
    where
      -- a statement that gives nothing
      idle : {n : ℕ} → (eqb n 1 || leb 4 n) ≡ false → (get_or R p blank).kind ≡ 5 → (get_or R p blank).a ≡ n → ⊥
      idle f k e = not_kind (λ n. eqb n 1 || leb 4 n) f (rw (eq-eqb _ _ k, ap (passes Statements) k) at a) e

      by : Dec ((get_or R p blank).kind ≡ 5) → Bodying root library dir w L t e id inner R depth w₁ t₁ out place (p + 1)
      by (yes k) =
          body_again x (record { from = omega arith; below = below; kind = k; here = elements_take Statements R p below k })
          (statement_nothing root library dir w₁ L t₁ e id inner R p out place depth x.inside (get_or R p blank) refl (idle refl k) (idle refl k) (idle refl k)) refl
      by (no k) =
          let n : elements Statements (drop p R) ≡ elements Statements (drop (p + 1) R) = rw (add-one p) (elements_pass Statements R p below k (or_first_lem _ (rw (ne_eqb _ _ k) at a))) in
          record { run = turn x.run (λ I. fold_m (each I) (body_of w₁ t₁.charges inner.scope out place) (statements_of (drop (p + 1) R))) (λ D. rw n); inside = x.inside }

  -- the rows up to q are passed
  pub body_pass : {w₁ : List ℕ} {t₁ : Counts} {out place p q : ℕ} → Bodying root library dir w L t e id inner R depth w₁ t₁ out place p → Passed aim.Body R p q → q ≤ length R → Bodying root library dir w L t e id inner R depth w₁ t₁ out place q
  body_pass {w₁} {t₁} {out} {place} x a l = pass_on (λ i. Bodying root library dir w L t e id inner R depth w₁ t₁ out place i) a l (λ i b c d f y. body_pass_one y d f) x
