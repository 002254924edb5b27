-- A document's reached nodes are counted one after another, and the documents too.
use mathlib.Core.Path.{◌≡◌, refl, sym, ap, subst, ◌∙◌}
use mathlib.Core.Bool.{Bool, true, false}
use mathlib.Core.List.{List, [], ◌∷◌}
use Prim.Native.Nat.{ℕ, zero, suc, ◌+◌, ◌*◌, ◌≤◌, ◌<◌}
use native.Mathlib.Numerals.{add-one}
use native.Mathlib.Omega.{arith}
use native.Mathlib.Decide.{ℕ_discrete}
use lib.ListN.{length, get_or, set, drop, length-set}
use Rattle.std.specs.Prelude.{Option, Some, None}
use lib.Seq.{get_or-set_same, get_or-set_other, drop-cons}
use lib.Dec.{eqb}
use borrow.Author.Tests.{eq-eqb, ne_eqb}
use Rattle.ast.specs.Ast.{Document}
use Rattle.ast.specs.Choice.{choose}
use Rattle.ast.specs.Lists.{flat}
use Rattle.sheet_rows.specs.declared.row.Row.{Row}
use Rattle.sheet_rows.specs.Rows.{blank}
use Rattle.sheet_rows.specs.Print.{document_rows}
use Rattle.expansion_steps.specs.Lists.{sum_to}
use Rattle.graph_definition.specs.Graph.{node_count, mentions}
use Rattle.graph_walk.specs.State.{pair_at, occurs}
use Rattle.graph_walk.specs.Steps.{most_nodes, NodeStands, Reaches}
use Rattle.graph_walk.proofs.Printed.{node_at, document_within, after_at}
use Rattle.count_documents.specs.Count.{is_of_type, named, count, total_of}
use Rattle.count_documents.specs.Steps.{Place, Apart, weighed, added, Addable, CountReady, DocumentCounted, Are, AllReady, AllCounted}
use Rattle.count_documents.proofs.CountLaws.{weight_of, weights, weights_upto, count_rows}

-- ---- a number added to a total

module _ (names : List ℕ) (apart : Apart names) (t : List ℕ) (room : length names ≤ length t) (name : ℕ) (s : Option ℕ) (x : ℕ) where
  added_long : length (added t s x) ≡ length t
  added_long = go s
    where
      go : (r : Option ℕ) → length (added t r x) ≡ length t
      go None = refl
      go (Some j) = length-set t j (get_or t j 0 + x)

  module _ (p : Place names name s) where
    -- each total by its name
    added_at : (j : ℕ) → j < length names → get_or (added t s x) j 0 ≡ get_or t j 0 + choose (eqb name (get_or names j 0)) x 0
    added_at j h = go s p
      where
        miss : (name ≡ get_or names j 0 → ⊥) → get_or t j 0 ≡ get_or t j 0 + choose (eqb name (get_or names j 0)) x 0
        miss n = rw (ne_eqb name (get_or names j 0) n) (omega arith)

        go : (r : Option ℕ) → Place names name r → get_or (added t r x) j 0 ≡ get_or t j 0 + choose (eqb name (get_or names j 0)) x 0
        go None n = miss (λ e. n j h (sym e))
        go (Some i) (b, c) = here (ℕ_discrete j i)
          where
            here : Dec (j ≡ i) → get_or (set t i (get_or t i 0 + x)) j 0 ≡ get_or t j 0 + choose (eqb name (get_or names j 0)) x 0
            here (yes e) = rw (eq-eqb name (get_or names j 0) (sym (ap (λ k. get_or names k 0) e ∙ c)), e) (get_or-set_same t i (get_or t i 0 + x) 0 (omega arith))
            here (no e) = get_or-set_other t i j (get_or t i 0 + x) 0 e ∙ miss (λ q. e (apart j i h b (sym q ∙ sym c)))

    added_kept : (j : ℕ) → length names ≤ j → get_or (added t s x) j 0 ≡ get_or t j 0
    added_kept j h = go s p
      where
        go : (r : Option ℕ) → Place names name r → get_or (added t r x) j 0 ≡ get_or t j 0
        go None n = refl
        go (Some i) (b, c) = get_or-set_other t i j (get_or t i 0 + x) 0 (λ e. omega arith)

    -- of the place that is added to
    added_name : (j : ℕ) → s ≡ Some j → (j < length names) × (get_or names j 0 ≡ name)
    added_name j e = subst (Place names name) e p

-- ---- the nodes of a document

module _ (R : List Row) (from p : ℕ) (names t₀ : List ℕ) where
  -- the first k are counted
  pub record Tallying (k : ℕ) (t : List ℕ) : Type 0 where
    pub tallied : (d : Document) (ds : List Document) → NodeStands R from d ds → (j : ℕ) → j < length names → get_or t j 0 ≡ get_or t₀ j 0 + sum_to k (weight_of d (get_or names j 0) p)
    pub kept : (j : ℕ) → length names ≤ j → get_or t j 0 ≡ get_or t₀ j 0
    pub long : length t ≡ length t₀

  pub tally_start : Tallying 0 t₀
  tally_start = record { tallied = λ d ds e j h. omega arith; kept = λ j h. refl; long = refl }

  module _ {n tail next : ℕ} {w : List ℕ} (r : Reaches R from n tail next w) where
    pub tally_end : {k : ℕ} {t : List ℕ} → Tallying k t → k ≡ n → DocumentCounted R from p names t₀ t next
    tally_end {k} {t} x h =
        record {
          next = λ d ds e. (r d ds e).next;
          counts = λ d ds e j q. x.tallied d ds e j q ∙ ap (λ z. get_or t₀ j 0 + z) (ap (λ z. sum_to z (weight_of d (get_or names j 0) p)) (h ∙ (r d ds e).nodes) ∙ weights d (get_or names j 0) p);
          kept = x.kept;
        }

    module _ {k : ℕ} (h : k < n) where
      module _ (d : Document) (ds : List Document) (e : NodeStands R from d ds) where
        below : k < node_count d
        below = omega (arith, (r d ds e).nodes)

        pub tally_room : 5 * k + 5 ≤ length w
        tally_room = omega (arith, (r d ds e).state.room)

        module _ {times by : ℕ} (q : times ≡ pair_at w (5 * k + 2)) (b : by ≡ weighed p times) where
          by_is : weighed p (occurs k (mentions d)) ≡ by
          by_is = sym (b ∙ ap (weighed p) (q ∙ (r d ds e).state.mentioned k h))

          -- a node that counts nothing
          skip_sum : by ≡ 0 → {t : List ℕ} → Tallying k t → (j : ℕ) → j < length names → get_or t j 0 ≡ get_or t₀ j 0 + sum_to (k + 1) (weight_of d (get_or names j 0) p)
          skip_sum z x j g =
              let u = get_or names j 0 in
              omega (arith, x.tallied d ds e j g, ap (λ y. choose (named d u k) y 0) (by_is ∙ z) ∙ nothing (named d u k), ap (λ y. sum_to y (weight_of d u p)) (add-one k))
            where
              nothing : (c : Bool) → ◌≡◌ {A = ℕ} (choose c 0 0) 0
              nothing true = refl
              nothing false = refl

          module _ {place : ℕ} (pl : place ≡ pair_at w (5 * k)) {name : ℕ} (nm : name ≡ (get_or R place blank).a) where
            named_is : (u : ℕ) → named d u k ≡ eqb name u
            unfolding named
            named_is u =
                let x = node_at R from d ds e k below in
                ap (is_of_type u) x.is ∙ ap (λ z. eqb z u) (sym (nm ∙ ap (λ z. (get_or R z blank).a) (pl ∙ (r d ds e).state.place k h) ∙ x.type_name))

            weighs : (u : ℕ) → weight_of d u p k ≡ choose (eqb name u) by 0
            weighs u = ap (λ z. choose z (weighed p (occurs k (mentions d))) 0) (named_is u) ∙ ap (λ z. choose (eqb name u) z 0) by_is

            -- the next total
            turn_sum : {t : List ℕ} → Tallying k t → (j : ℕ) → j < length names → get_or t j 0 + choose (eqb name (get_or names j 0)) by 0 ≡ get_or t₀ j 0 + sum_to (k + 1) (weight_of d (get_or names j 0) p)
            turn_sum x j g =
                let u = get_or names j 0 in
                omega (arith, x.tallied d ds e j g, weighs u, ap (λ y. sum_to y (weight_of d u p)) (add-one k))

            module _ (few : length R < most_nodes) {w₀ : List ℕ} (c : CountReady R from names t₀ w₀) {t : List ℕ} (x : Tallying k t) {s : Option ℕ} (sp : Place names name s) where
              pub tally_addable : Addable t s by
              tally_addable =
                  record {
                    within = λ j z. omega (arith, (added_name names c.apart t (omega (arith, c.room, x.long)) name s by sp j z).0, c.room, x.long);
                    fits = λ j z.
                        let y = added_name names c.apart t (omega (arith, c.room, x.long)) name s by sp j z in
                        omega (arith, turn_sum x j y.0, ap (λ b. choose b by 0) (eq-eqb name (get_or names j 0) (sym y.1)), weights_upto d (get_or names j 0) p (k + 1) (omega (arith, below)), c.below j y.0, document_within R from d ds e);
                  }

      module _ {times by : ℕ} (q : times ≡ pair_at w (5 * k + 2)) (b : by ≡ weighed p times) {t : List ℕ} (x : Tallying k t) where
        pub tally_skip : by ≡ 0 → Tallying (k + 1) t
        tally_skip z = record { tallied = λ d ds e j g. skip_sum d ds e q b z x j g; kept = x.kept; long = x.long }

        pub tally_turn : {w₀ : List ℕ} (c : CountReady R from names t₀ w₀) → {place : ℕ} → place ≡ pair_at w (5 * k) → {name : ℕ} → name ≡ (get_or R place blank).a → (s : Option ℕ) → Place names name s → {t' : List ℕ} → t' ≡ added t s by → Tallying (k + 1) t'
        tally_turn c pl {name} nm s sp {t'} e =
            let room : length names ≤ length t = omega (arith, c.room, x.long) in
            subst (λ (v : List ℕ). Tallying (k + 1) v) (sym e)
            (record {
              tallied = λ d ds st j g. added_at names c.apart t room name s by sp j g ∙ turn_sum d ds st q b pl nm x j g;
              kept = λ j g. added_kept names c.apart t room name s by sp j g ∙ x.kept j g;
              long = added_long names c.apart t room name s by ∙ x.long;
            })

-- ---- documents one after another

-- the first of what is left
pub next_of : (ds : List Document) (p : ℕ) → p < length ds → (d : Document) × (drop p ds ≡ d ∷ drop (suc p) ds)
next_of [] p h = absurd (omega arith)
next_of (d ∷ ds) zero h = (d, refl)
next_of (d ∷ ds) (suc p) h = next_of ds p (omega arith)

total_none : (ds : List Document) (t : ℕ) → total_of [] ds t ≡ 0
unfolding total_of
total_none ds t = refl

total_next : (q : ℕ) (qs : List ℕ) (d : Document) (ds : List Document) (u : ℕ) → total_of (q ∷ qs) (d ∷ ds) u ≡ count q d u + total_of qs ds u
unfolding total_of
total_next q qs d ds u = refl

-- p documents are counted, and the next begins at a row
pub record Summing (R : List Row) (ps names t₀ : List ℕ) (p from : ℕ) (t : List ℕ) : Type 0 where
  pub upto : p ≤ length ps
  pub here : (ds : List Document) → Are R ps ds → drop from R ≡ flat document_rows (drop p ds)
  pub sums : (ds : List Document) → Are R ps ds → (j : ℕ) → j < length names → get_or t j 0 + total_of (drop p ps) (drop p ds) (get_or names j 0) ≡ total_of ps ds (get_or names j 0)
  pub below : (ds : List Document) → Are R ps ds → (j : ℕ) → j < length names → get_or t j 0 ≤ from
  pub kept : (j : ℕ) → length names ≤ j → get_or t j 0 ≡ get_or t₀ j 0
  pub long : length t ≡ length t₀

module _ {R : List Row} {ps names t₀ : List ℕ} where
  pub summing_start : {w : List ℕ} → AllReady R ps names t₀ w → Summing R ps names t₀ 0 0 t₀
  summing_start a =
      record {
        upto = omega arith;
        here = λ ds x. x.are;
        sums = λ ds x j h. omega (arith, a.zero j h);
        below = λ ds x j h. omega (arith, a.zero j h);
        kept = λ j h. refl;
        long = refl;
      }

  pub summing_end : {p from : ℕ} {t : List ℕ} → Summing R ps names t₀ p from t → length ps ≤ p → AllCounted R ps names t₀ t
  summing_end {p} {from} {t} x h =
      record {
        totals = λ ds y j g. sym (omega (arith, sym (x.sums ds y j g), ap (λ l. total_of l (drop p ds) (get_or names j 0)) (none p ps h), total_none (drop p ds) (get_or names j 0)));
        kept = x.kept;
      }
    where
      none : (p : ℕ) (l : List ℕ) → length l ≤ p → drop p l ≡ []
      none zero [] h = refl
      none zero (a ∷ l) h = absurd (omega arith)
      none (suc p) [] h = refl
      none (suc p) (a ∷ l) h = none p l (omega arith)

  module _ {p from : ℕ} {t : List ℕ} (x : Summing R ps names t₀ p from t) (h : p < length ps) where
    module _ (ds : List Document) (a : Are R ps ds) where
      left : drop p ds ≡ (next_of ds p (omega (arith, a.many))).0 ∷ drop (suc p) ds
      left = (next_of ds p (omega (arith, a.many))).1

      pub stands_next : NodeStands R from (next_of ds p (omega (arith, a.many))).0 (drop (suc p) ds)
      stands_next = x.here ds a ∙ ap (flat document_rows) left

    pub summing_ready : {w : List ℕ} → AllReady R ps names t₀ w → {w' : List ℕ} → length w' ≡ length w → CountReady R from names t w'
    summing_ready a {w'} e =
        record {
          ready = record { document = (next_of a.documents p (omega (arith, a.are.many))).0; after = drop (suc p) a.documents; here = stands_next a.documents a.are; room = omega (arith, a.words) };
          apart = a.apart;
          room = omega (arith, a.room, x.long);
          below = x.below a.documents a.are;
        }

    pub summing_on : {t' : List ℕ} {from' : ℕ} → DocumentCounted R from (get_or ps p 0) names t t' from' → length t' ≡ length t → Summing R ps names t₀ (p + 1) from' t'
    summing_on {t'} {from'} c e =
        record {
          upto = omega arith;
          here = λ ds a. rw (add-one p) (ap (λ k. drop k R) (c.next (next ds a) (drop (suc p) ds) (stands_next ds a)) ∙ after_at R from (next ds a) (drop (suc p) ds) (stands_next ds a));
          sums = λ ds a j g.
              let u = get_or names j 0 in
              rw (add-one p)
              (omega (arith, c.counts (next ds a) (drop (suc p) ds) (stands_next ds a) j g, x.sums ds a j g, ap (λ l. total_of l (drop p ds) u) (drop-cons ps p 0 h), ap (λ l. total_of (get_or ps p 0 ∷ drop (suc p) ps) l u) (left ds a), total_next (get_or ps p 0) (drop (suc p) ps) (next ds a) (drop (suc p) ds) u));
          below = λ ds a j g. omega (arith, c.counts (next ds a) (drop (suc p) ds) (stands_next ds a) j g, c.next (next ds a) (drop (suc p) ds) (stands_next ds a), x.below ds a j g, count_rows (next ds a) (get_or names j 0) (get_or ps p 0));
          kept = λ j g. c.kept j g ∙ x.kept j g;
          long = e ∙ x.long;
        }
      where
        next : (ds : List Document) → Are R ps ds → Document
        next ds a = (next_of ds p (omega (arith, a.many))).0
