-- All marks of a node.
use mathlib.Core.Path.{◌≡◌, refl, ap, subst, ◌∙◌}
use mathlib.Core.Bool.{Bool, true, false}
use mathlib.Core.List.{List, [], ◌∷◌, ◌++◌, map, append-nil, append_assoc}
use mathlib.Core.Option.{Option}
use Prim.Native.Nat.{ℕ, ◌+◌}
use native.Mathlib.Omega.{arith}
use lib.ListN.{length, get_or, drop}
use Rattle.ast.specs.Ast.{Field, Statement, BodyElement}
use Rattle.ast.specs.Choice.{choose}
use Rattle.sheet_rows.specs.declared.row.Row.{Row}
use Rattle.sheet_rows.specs.declared.part.Part.TheVariants.{BodyOrder}
use Rattle.sheet_rows.specs.Rows.{blank}
use Rattle.sheet_rows.specs.Parse.{elements, body_element_of, node_of}
use Rattle.sheet_rows.specs.Print.{row}
use Rattle.sheet_walks.specs.Walk.{Stands}
use Rattle.sheet_walks.proofs.WalkLaws.{front_drop, rest_drop}
use Rattle.expansion_definition.specs.State.{Comp, bind_r, ◌>>=◌, ◌>>◌, ret}
use Rattle.expansion_definition.specs.Charges.{charge, charge_each}
use Rattle.expansion_definition.specs.Values.{Env, Values}
use Rattle.expansion_definition.specs.PlainCopy.{kept_order}
use Rattle.journal_records.specs.Records.{tag_order}
use Rattle.journal_records.specs.Made.{order_record}
use Rattle.journal_records.proofs.Frame.{same_fixed}
use Rattle.journal_reading.specs.Reading.{order_at}
use Rattle.journal_reading.specs.WellFormed.{HandleAt}
use Rattle.journal_reading.proofs.Fair.{handle_none, handle_new}
use Rattle.journal_reading.proofs.Chains.{order_none, order_new_lem}
use Rattle.refine_records.specs.declared.Limits.{Limits}
use Rattle.std.specs.declared.result.Result.TheVariants.{Err}
use Rattle.refine_records.specs.declared.Refusal.{Refusal}
use Rattle.refine_records.specs.declared.Counts.{Counts}
use Rattle.refine_records.specs.declared.Env as code
use Rattle.refine_records.specs.Sound.{Source, input_of, Standing, Later, EnvAt, env_of}
use Rattle.refine_records.specs.Does.{Answer, did, Doing}
use Rattle.refine_records.specs.Contract.{KeptAt, RecordKept}
use Rattle.refine_records.proofs.Later.{later_standing, later_env, env_later}
use Rattle.refine_records.proofs.Calculus.{start, finish, step, stop, inner}
use Rattle.expander_marks.specs.declared.Positions.{Positions}
use Rattle.expander_marks.specs.declared.Reach.{Reach}
use Rattle.expander_marks.specs.declared.Filter.{Filter}
use Rattle.expander_marks.specs.Positions.{marks_from, is_some, AtMark}
use Rattle.expander_marks.specs.Kept.{kept_statement, kept_field, kept_fields, kept_statements}
use Rattle.expander_marks.specs.Contract.{Ahead, Knows, Takes, Ordered}
use Rattle.expander_marks.proofs.Steps.{mark_of, marks_here, mark_first}
use Rattle.expander_marks.proofs.Taking.{turn}

choose_yes : {A : Type 0} (b : Bool) → b ≡ true → (x y : A) → choose b x y ≡ x
choose_yes b e x y = rw e

choose_no : {A : Type 0} (b : Bool) → b ≡ false → (x y : A) → choose b x y ≡ y
choose_no b e x y = rw e

-- a mark's record says its kind
mark_said : (R : List Row) (q : ℕ) {r : Row} → r ≡ get_or R q blank → body_element_of (row 6 r.a 0 0 0 0 0 0 ∷ []) ≡ body_element_of (drop q R)
unfolding body_element_of
mark_said R q is = rw (front_drop R q, is)

module _ (L : Limits) (R : List Row) (w₀ : List ℕ) (t₀ : Counts) (e : code.Env) (node : ℕ) where
  abbrev given : Option Values
  given = (env_of w₀ e).is_values

  abbrev Fitting : List (Option Field) → List (Option Statement) → Type 0
  Fitting fs ss = (map is_some fs ≡ map (kept_field given) (node_of (drop node R)).fields) × (map is_some ss ≡ map kept_statement (node_of (drop node R)).statements)

  abbrev all : List (Option Field) → List (Option Statement) → List BodyElement
  all fs ss = kept_order fs ss (node_of (drop node R)).body_order

  abbrev whole : Source → List (Option Field) → List (Option Statement) → Comp (List BodyElement)
  whole S fs ss = charge_each (input_of S L) (all fs ss) >> ret (all fs ss)

  -- what is left from a mark on
  abbrev left : List (Option Field) → List (Option Statement) → ℕ → Positions → List BodyElement
  left fs ss place p = kept_order (drop p.field fs) (drop p.statement ss) (marks_from R place)

  -- what was kept and what is left, and the charges
  pub record Left (S : Source) (young : ℕ) (fs : List (Option Field)) (ss : List (Option Statement)) (w : List ℕ) (t : Counts) (h place : ℕ) (p : Positions) : Type 0 where
    pub is : all fs ss ≡ order_at w h ++ left fs ss place p
    pub doing : Doing S L young (whole S fs ss) w₀ t₀ (charge_each (input_of S L) (left fs ss place p) >> ret (all fs ss)) w t

  pub record OrderSoFar (w : List ℕ) (t : Counts) (h place : ℕ) (x : Filter) : Type 0 where
    pub so : (S : Source) (young : ℕ) (fs : List (Option Field)) (ss : List (Option Statement)) → Fitting fs ss → Left S young fs ss w t h place x.positions
    pub positions : AtMark R node place x.positions.field x.positions.statement
    pub known : Knows given R node x
    pub standing : Standing L w t
    pub env : EnvAt w t.charges e
    pub values : (env_of w e).is_values ≡ given
    pub handle : HandleAt w t.charges tag_order h
    pub long : length w ≡ length w₀

  abbrev unread : Reach
  unread = record { upto = 0; row = node + 1 }

  abbrev at_first : Filter
  at_first = record { positions = record { field = 0; statement = 0 }; fields = unread; statements = unread }

  nothing_ahead : (K : ℕ → List Bool) → Ahead K (node + 1) 0 unread
  nothing_ahead K = record { from = omega arith; all = λ j a b. absurd (omega arith); rest = refl }

  pub order_start : Standing L w₀ t₀ → EnvAt w₀ t₀.charges e → OrderSoFar w₀ t₀ 0 (node + 1) at_first
  unfolding node_of
  order_start st x = record {
    so = λ S young fs ss f. record {
      is = rw (order_none w₀, rest_drop R node);
      doing = rw (← rest_drop R node) (start S young (whole S fs ss) st.sound);
    };
    positions = record { before = []; whole = rw (rest_drop R node); fields = refl; statements = refl };
    known = record { fields = nothing_ahead (kept_fields given R); statements = nothing_ahead (kept_statements R) };
    standing = st;
    env = x;
    values = refl;
    handle = handle_none w₀ t₀.charges tag_order;
    long = refl;
  }

  module _ {w : List ℕ} {t : Counts} {h place : ℕ} {x : Filter} (s : OrderSoFar w t h place x) where
    abbrev p : Positions
    p = x.positions

    pub order_end : elements BodyOrder (drop place R) ≡ [] → Ordered L R w₀ t₀ e node w (did t h 0)
    unfolding kept_order charge_each bind_r
    order_end z = record {
      does = λ S young fs ss ef es.
          let l = s.so S young fs ss (ef, es) in
          finish (rw z at l.doing) (λ u v p. order_at u v) h 0 ((rw z at l.is) ∙ append-nil (order_at w h));
      done = s.handle;
    }

    module _ {q : ℕ} (sq : Stands BodyOrder R place q) where
      -- at the mark: the counts of the marks before it, and what is known
      pub order_positions : AtMark R node q p.field p.statement
      order_positions = let a = s.positions in record { before = a.before; whole = a.whole ∙ rw (marks_here sq); fields = a.fields; statements = a.statements }

      module _ {y : Filter} {b : Bool} (tk : Takes (env_of w e).is_values R node q x y b) where
        abbrev n : Positions
        n = y.positions

        abbrev m : BodyElement
        m = body_element_of (drop q R)

        taken : Takes given R node q x y b
        taken = subst (λ (v : Option Values). Takes v R node q x y b) s.values tk

        module _ (S : Source) (young : ℕ) (fs : List (Option Field)) (ss : List (Option Statement)) (fit : Fitting fs ss) where
          was : Left S young fs ss w t h place p
          was = s.so S young fs ss fit

          flags_fields : map is_some fs ≡ kept_fields given R (node + 1)
          unfolding kept_fields node_of
          flags_fields = rw (rest_drop R node) at fit.0

          flags_statements : map is_some ss ≡ kept_statements R (node + 1)
          unfolding kept_statements node_of
          flags_statements = rw (rest_drop R node) at fit.1

          turned : left fs ss place p ≡ choose b (m ∷ left fs ss (q + 1) n) (left fs ss (q + 1) n)
          turned =
              rw (← marks_here sq, mark_first (mark_of sq), taken.kept, ← flags_fields, ← flags_statements, tk.step.fields, tk.step.statements)
              (turn fs ss m (marks_from R (q + 1)) p.field p.statement)

        -- the mark is dropped
        pub order_skip : b ≡ false → OrderSoFar w t h (q + 1) y
        order_skip nk = record {
          so = λ S young fs ss fit.
              let g = turned S young fs ss fit ∙ choose_no b nk _ _ in
              record {
                is = (was S young fs ss fit).is ∙ ap (λ (l : List BodyElement). order_at w h ++ l) g;
                doing = rw g at (was S young fs ss fit).doing;
              };
          positions = tk.step.next;
          known = taken.known;
          standing = s.standing;
          env = s.env;
          values = s.values;
          handle = s.handle;
          long = s.long;
        }

        -- the mark is kept
        module _ (yk : b ≡ true) {r : Row} (is : r ≡ get_or R q blank) {w' : List ℕ} {a : Answer} (kp : RecordKept L w t (order_record r.a h) w' a) where
          module _ (S : Source) (young : ℕ) (fs : List (Option Field)) (ss : List (Option Statement)) (fit : Fitting fs ss) where
            longer : left fs ss place p ≡ m ∷ left fs ss (q + 1) n
            longer = turned S young fs ss fit ∙ choose_yes b yk _ _

            paying : Doing S L young (whole S fs ss) w₀ t₀ (charge (input_of S L) >>= (λ u. charge_each (input_of S L) (left fs ss (q + 1) n) >>= (λ v. ret (all fs ss)))) w t
            unfolding charge_each
            paying = inner (charge (input_of S L)) (λ u. charge_each (input_of S L) (left fs ss (q + 1) n)) (λ v. ret (all fs ss)) (rw longer at (was S young fs ss fit).doing)

          pub order_stop : {x' : Refusal} → a ≡ Err x' → Ordered L R w₀ t₀ e node w' a
          order_stop u = record {
            does = λ S young fs ss ef es.
                stop (λ v. charge_each (input_of S L) (left fs ss (q + 1) n) >>= (λ v. ret (all fs ss))) (paying S young fs ss (ef, es)) (kp.does S young) u (λ w v p. order_at w v);
            done = rw u tt;
          }

          pub order_more : {t' : Counts} {v c : ℕ} → a ≡ did t' v c → OrderSoFar w' t' v (q + 1) y
          order_more {t'} {v} {c} u =
              let z : KeptAt w t (order_record r.a h) w' t' v = rw u at kp.done in
              let la : Later L 0 w t w' t' = rw u at (kp.does (record { root = []; library = []; depth = 0 }) 0).later in
              let list : order_at w' v ≡ order_at w h ++ (m ∷ []) = rw (z.handle, ← mark_said R q is) (order_new_lem (same_fixed z.pushed.same) (order_record r.a h) z.pushed.holds (omega arith) s.handle.low) in
              record {
                so = λ S young fs ss fit. record {
                  is = (was S young fs ss fit).is ∙ ap (λ (l : List BodyElement). order_at w h ++ l) (longer S young fs ss fit) ∙ rw (list, append_assoc (order_at w h) (m ∷ []) (left fs ss (q + 1) n));
                  doing = step (λ v. charge_each (input_of S L) (left fs ss (q + 1) n) >>= (λ v. ret (all fs ss))) (paying S young fs ss fit) (kp.does S young) u;
                };
                positions = tk.step.next;
                known = taken.known;
                standing = later_standing la s.standing;
                env = later_env la s.env;
                values = ap (λ (E : Env). E.is_values) (env_later la s.env) ∙ s.values;
                handle = rw (z.handle, z.counts) (handle_new w' t.charges tag_order z.pushed.holds.at0);
                long = la.long ∙ s.long;
              }
