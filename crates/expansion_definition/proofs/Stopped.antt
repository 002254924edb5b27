-- Where an expansion is refused, and what is charged until then.
use mathlib.Core.Path.{◌≡◌, refl, ap, sym, ◌∙◌}
use mathlib.Core.List.{List, [], ◌∷◌, ◌++◌}
use mathlib.Core.Bool.{Bool, true, false}
use mathlib.Core.Option.{Option}
use Prim.Native.Nat.{ℕ, ◌≤◌, ◌<◌}
use native.Mathlib.Decide.{dec_lt}
use native.Mathlib.Omega.{arith}
use lib.Dec.{T, ltb, ltb→lt, lt→ltb}
use Rattle.ast.specs.Ast.{Statement}
use Rattle.expansion_definition.specs.Input.{Input}
use Rattle.expansion_definition.specs.Scopes.{Scope}
use Rattle.expansion_definition.specs.State.{State, Result, refusal, ok, Comp, bind_r, ◌>>=◌, ◌>>◌, ret, map_m, start_state, with_world}
use Rattle.expansion_definition.specs.Charges.{one_more, charge_if, charge}
use Rattle.expansion_definition.specs.PlainCopy.{somes}
use Rattle.expansion_definition.specs.Instances.{push_scope, open_scope}
use Rattle.expansion_definition.specs.Copy.{copy}
use Rattle.expansion_definition.specs.Expand.{statement, root_env, statements, Answer, answer, expand}
use Rattle.expansion_definition.specs.Counted.{tops}
use Rattle.expansion_definition.specs.Expanded.{TopsDone, Stopped, at_start, at_statement}
use Rattle.expansion_definition.proofs.Outcome.{at_ok}
use Rattle.expansion_definition.proofs.Worlds.{see}
use Rattle.expansion_definition.proofs.Walk.{tops_ran}
use Rattle.expansion_definition.proofs.Counted.{tops_counted, copies_charged}
use Rattle.expansion_definition.proofs.Parts.{fit, parts_charged}

-- an element of a list is refused, and those in front of it are done
record Stops {A B : Type 0} (g : A → Comp B) (l : List A) (st : State) (c d i : ℕ) : Type 0 where
  before : List A
  next : A
  behind : List A
  place : l ≡ before ++ (next ∷ behind)
  made : List B
  state : State
  done : map_m g before st ≡ ok made state
  refused : g next state ≡ refusal c d i

-- A list is refused at one of its elements.
map_m_stops : {A B : Type 0} (g : A → Comp B) (l : List A) (st : State) (c d i : ℕ) → map_m g l st ≡ refusal c d i → Stops g l st c d i
unfolding map_m bind_r
map_m_stops g [] st c d i q = absurd (let z : ◌≡◌ {A = ℕ} 0 1 = cc in omega arith)
map_m_stops {A} {B} g (a ∷ l) st c d i q = go (λ s. map_m_stops g l s c d i) (g a st) refl q
  where
    rest : (b : B) (s : State) → g a st ≡ ok b s → Stops g l s c d i → Stops g (a ∷ l) st c d i
    rest b s e h = record {
      before = a ∷ h.before;
      next = h.next;
      behind = h.behind;
      place = ap (λ (k : List A). a ∷ k) h.place;
      made = b ∷ h.made;
      state = h.state;
      done = ap (λ (r : Result B). bind_r r (λ b. map_m g h.before >>= (λ bs. ret (b ∷ bs)))) e ∙ ap (λ (r : Result (List B)). bind_r r (λ bs. ret (b ∷ bs))) h.done;
      refused = h.refused;
    }

    inner : (b : B) (s : State) (r : Result (List B)) → map_m g l s ≡ r → bind_r r (λ bs. ret (b ∷ bs)) ≡ refusal c d i → map_m g l s ≡ refusal c d i
    inner b s (refusal c' d' i') e k = e ∙ k
    inner b s (ok bs s2) e k = absurd (let z : ◌≡◌ {A = ℕ} 0 1 = cc in omega arith)

    go : ((s : State) → map_m g l s ≡ refusal c d i → Stops g l s c d i) → (r : Result B) → g a st ≡ r → bind_r r (λ b. map_m g l >>= (λ bs. ret (b ∷ bs))) ≡ refusal c d i → Stops g (a ∷ l) st c d i
    go next (refusal c' d' i') e k = record { before = []; next = a; behind = l; place = refl; made = []; state = st; done = refl; refused = e ∙ same c' d' i' k }
      where
        same : (c' d' i' : ℕ) → ◌≡◌ {A = Result (List B)} (refusal c' d' i') (refusal c d i) → ◌≡◌ {A = Result B} (refusal c' d' i') (refusal c d i)
        same c' d' i' k =
            let hc : c' ≡ c = cc in
            let hd : d' ≡ d = cc in
            let hi : i' ≡ i = cc in
            λ j. refusal (hc j) (hd j) (hi j)
    go next (ok b s) e k = rest b s e (next s (inner b s (map_m g l s) refl k))

module _ (I : Input) where
  charged : (st : State) → st.charges < I.limits.max_rows → charge I st ≡ ok tt (one_more st)
  unfolding charge charge_if
  charged st h = go (ltb st.charges I.limits.max_rows) (lt→ltb st.charges I.limits.max_rows h)
    where
      go : (b : Bool) → T b → charge_if b st ≡ ok tt (one_more st)
      go true t = refl
      go false t = absurd t

  uncharged : (st : State) → I.limits.max_rows ≤ st.charges → charge I st ≡ refusal 10 0 0
  unfolding charge charge_if
  uncharged st h = go (ltb st.charges I.limits.max_rows) (ltb→lt st.charges I.limits.max_rows)
    where
      go : (b : Bool) → (T b → st.charges < I.limits.max_rows) → charge_if b st ≡ refusal 10 0 0
      go true t = absurd (omega (arith, t tt))
      go false t = refl

  -- after the three charges of the start
  abbrev begun : State
  begun = with_world (record { map = []; ledger = []; scopes = Scope.Root ∷ [] }) (one_more (one_more (one_more start_state)))

  abbrev top : Statement → Comp (Option Statement)
  top s = statement I (copy I I.limits.max_depth root_env) root_env s

  -- With room for them, top statements begin there.
  tops_begin : 2 < I.limits.max_rows → (l : List Statement) → tops I l start_state ≡ bind_r (map_m top l begun) (λ k. ret (somes k))
  unfolding tops open_scope push_scope bind_r
  tops_begin h l = ap (λ (r : Result (Unit {0})). bind_r r (λ u. charge I >> (open_scope I Scope.Root >> rest))) (charged start_state (omega arith)) ∙ ap (λ (r : Result (Unit {0})). bind_r r (λ u. open_scope I Scope.Root >> rest)) (charged (one_more start_state) (omega arith)) ∙ ap (λ (r : Result (Unit {0})). bind_r (bind_r r (λ u. push_scope Scope.Root)) (λ n. rest)) (charged (one_more (one_more start_state)) (omega arith))
    where
      rest : Comp (List Statement)
      rest = map_m top l >>= (λ k. ret (somes k))

  -- Without room for them, the start is refused.
  tops_short : I.limits.max_rows < 3 → (l : List Statement) → tops I l start_state ≡ refusal 10 0 0
  unfolding tops open_scope bind_r
  tops_short h l = by (dec_lt 0 I.limits.max_rows) (dec_lt 1 I.limits.max_rows)
    where
      rest : Comp (List Statement)
      rest = map_m top l >>= (λ k. ret (somes k))

      one_charge : 0 < I.limits.max_rows → tops I l start_state ≡ (charge I >> (open_scope I Scope.Root >> rest)) (one_more start_state)
      one_charge p = ap (λ (r : Result (Unit {0})). bind_r r (λ u. charge I >> (open_scope I Scope.Root >> rest))) (charged start_state (omega arith))

      by : Dec (0 < I.limits.max_rows) → Dec (1 < I.limits.max_rows) → tops I l start_state ≡ refusal 10 0 0
      by (no n) q = ap (λ (r : Result (Unit {0})). bind_r r (λ u. charge I >> (open_scope I Scope.Root >> rest))) (uncharged start_state (omega arith))
      by (yes p) (no n) = one_charge p ∙ ap (λ (r : Result (Unit {0})). bind_r r (λ u. open_scope I Scope.Root >> rest)) (uncharged (one_more start_state) (omega arith))
      by (yes p) (yes q) = one_charge p ∙ ap (λ (r : Result (Unit {0})). bind_r r (λ u. open_scope I Scope.Root >> rest)) (charged (one_more start_state) (omega arith)) ∙ ap (λ (r : Result (Unit {0})). bind_r (bind_r r (λ u. push_scope Scope.Root)) (λ n. rest)) (uncharged (one_more (one_more start_state)) (omega arith))

  -- Top statements that are done, in front of another.
  abbrev pub tops_done : (before : List Statement) (next : Statement) (behind : List Statement) → I.root.statements ≡ before ++ (next ∷ behind) → (kept : List Statement) (state : State) → tops I before start_state ≡ ok kept state → TopsDone I
  tops_done before next behind place kept state done = record {
    before = before;
    next = next;
    behind = behind;
    place = place;
    kept = kept;
    state = state;
    done = done;
    world = see (at_ok (tops_ran I before) done).after state.world;
    run = (at_ok (tops_ran I before) done).run;
    fits = fit I (at_ok (tops_ran I before) done).fits;
    charges = λ w r. at_ok (tops_counted I before w r) done;
    copies = copies_charged I;
    parts = parts_charged I;
  }

  -- Every refusal is at the start or at a top statement.
  pub stopped : (c d i : ℕ) → expand I ≡ Answer.Refused c d i → Stopped I c d i
  unfolding expand answer statements tops bind_r
  stopped c d i e = by (dec_lt 2 I.limits.max_rows)
    where
      top_stops : 2 < I.limits.max_rows → Stops top I.root.statements begun c d i
      top_stops h = map_m_stops top I.root.statements begun c d i (go (map_m top I.root.statements begun) refl (sym (ap (answer I) (tops_begin h I.root.statements)) ∙ e))
        where
          go : (r : Result (List (Option Statement))) → map_m top I.root.statements begun ≡ r → answer I (bind_r r (λ k. ret (somes k))) ≡ Answer.Refused c d i → map_m top I.root.statements begun ≡ refusal c d i
          go (refusal c' d' i') q k =
              let hc : c' ≡ c = cc in
              let hd : d' ≡ d = cc in
              let hi : i' ≡ i = cc in
              q ∙ (λ j. refusal (hc j) (hd j) (hi j))
          go (ok k s) q z = absurd (let z : ◌≡◌ {A = ℕ} 0 1 = cc in omega arith)

      by : Dec (2 < I.limits.max_rows) → Stopped I c d i
      by (no n) = small (omega arith) e
        where
          small : I.limits.max_rows < 3 → expand I ≡ Answer.Refused c d i → Stopped I c d i
          small h q = same (sym (ap (answer I) (tops_short h I.root.statements)) ∙ q)
            where
              same : Answer.Refused 10 0 0 ≡ Answer.Refused c d i → Stopped I c d i
              same k =
                  let hc : 10 ≡ c = cc in
                  let hd : 0 ≡ d = cc in
                  let hi : 0 ≡ i = cc in
                  rw (← hc, ← hd, ← hi) (at_start h)
      by (yes h) = at_statement (tops_done x.before x.next x.behind x.place (somes x.made) x.state done) x.refused
        where
          x : Stops top I.root.statements begun c d i
          x = top_stops h

          done : tops I x.before start_state ≡ ok (somes x.made) x.state
          done = tops_begin h x.before ∙ ap (λ (r : Result (List (Option Statement))). bind_r r (λ k. ret (somes k))) x.done
