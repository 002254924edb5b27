-- The statements of a node: an ExternProto, one statement by its row, and all of them.
use mathlib.Core.Path.{◌≡◌, refl, sym, ap, ◌∙◌}
use mathlib.Core.Bool.{true, false}
use mathlib.Core.List.{List, [], ◌∷◌, ◌++◌, map, append-nil, append_assoc}
use mathlib.Core.Option.{Option, none, some}
use Prim.Native.Nat.{ℕ, zero, suc, ◌+◌, ◌-◌}
use native.Mathlib.Omega.{arith}
use lib.ListN.{length, get_or, drop}
use Rattle.ast.proofs.Basics.{map_append}
use Rattle.ast.specs.Ast.{Statement}
use Rattle.sheet_rows.specs.declared.row.Row.{Row}
use Rattle.sheet_rows.specs.declared.part.Part.TheVariants.{Statements}
use Rattle.sheet_rows.specs.Rows.{blank}
use Rattle.sheet_rows.specs.Parse.{elements, route_of, statement_of, statements_of, node_of}
use Rattle.sheet_walks.specs.Walk.{Stands}
use Rattle.sheet_walks.proofs.WalkLaws.{rest_drop}
use Rattle.expansion_definition.specs.State.{Result, refusal, ok, Comp, bind_r, ◌>>=◌, ◌>>◌, ret, map_m}
use Rattle.expansion_definition.specs.Charges.{charge, paid}
use Rattle.expansion_definition.specs.Scopes.{Scope}
use Rattle.expansion_definition.specs.Values.{Env, src}
use Rattle.expansion_definition.specs.Externs.{extern_proto}
use Rattle.expansion_definition.specs.PlainCopy.{copy_extern, copy_statement, somes}
use Rattle.journal_records.specs.Records.{tag_statement, Pushed}
use Rattle.journal_records.specs.Made.{statement_record}
use Rattle.journal_reading.specs.Reading.{statement_rec, statements_at}
use Rattle.journal_reading.specs.WellFormed.{HandleAt}
use Rattle.journal_reading.proofs.Fair.{handle_none}
use Rattle.journal_reading.proofs.Chains.{statements_none, statements_fixed}
use Rattle.source_directory.specs.Directory.{number_of}
use Rattle.refine_records.specs.declared.Limits.{Limits}
use Rattle.std.specs.declared.result.Result.TheVariants.{Ok, Err}
use Rattle.refine_records.specs.declared.Refusal.{Refusal}
use Rattle.refine_records.specs.declared.Counts.{Counts}
use Rattle.refine_records.specs.declared.Env as code
use Rattle.refine_records.specs.Sound.{Source, input_of, JournalSound, Standing, Later, EnvAt}
use Rattle.refine_records.specs.Does.{Answer, did, at, Doing}
use Rattle.refine_records.specs.Contract.{Keepable, RecordKept}
use Rattle.refine_records.proofs.Later.{later_refl, later_standing, later_handle, later_env}
use Rattle.refine_records.proofs.Calculus.{start, turn, finish, step, stop, each, each_end, last, paying}
use Rattle.expander_parts.specs.Contract.{source_of, Lent, rows_of, node_at_row, Declared, statement_at, StatementAppended, Routed, ExternStated, OneKept, StatementCopied, StatementsCopied}
use Rattle.expander_marks.specs.Positions.{is_some}
use Rattle.expander_marks.specs.Kept.{kept_statement}
use Rattle.expander_marks.proofs.Entries.{statements_at_lem, statements_end}
use Rattle.expander_parts.proofs.Lending.{lent_later}
use Rattle.expander_parts.proofs.Routes.{stated_new, stated}

-- an Env of a scope's number and a document
abbrev env_for : ℕ → ℕ → Env
env_for scope doc = record { scope = scope; entry = Scope.Body (record { document = doc; proto = 0 }) 0; is_values = none }

-- ---- lists
pub somes_more : {A : Type 0} (xs ys : List (Option A)) → somes (xs ++ ys) ≡ somes xs ++ somes ys
unfolding somes
somes_more [] ys = refl
somes_more (none ∷ xs) ys = somes_more xs ys
somes_more (some a ∷ xs) ys = ap (λ (l : List _). a ∷ l) (somes_more xs ys)

regrouped : {A : Type 0} (xs : List A) (x : A) (m : Result (List A)) → bind_r m (λ l. ret (xs ++ (x ∷ l))) ≡ bind_r m (λ l. ret ((xs ++ (x ∷ [])) ++ l))
unfolding bind_r
regrouped xs x (refusal n i j) = refl
regrouped xs x (ok l st) = rw (append_assoc xs (x ∷ []) l)

-- ---- an ExternProto
pub extern_keepable : (w : List ℕ) (c n h : ℕ) → HandleAt w c tag_statement h → Keepable w c (statement_record 2 n h)
extern_keepable w c n h x = record { least = omega arith; most = omega arith; before = x; value = λ e. absurd (never e) }
  where
    never : false ≡ true → ⊥
    never y = let k : ◌≡◌ {A = ℕ} 0 1 = cc in omega arith

module _ (L : Limits) (root library dir w : List ℕ) (t : Counts) (slot id h : ℕ) (so : JournalSound L w t) (x : HandleAt w t.charges tag_statement h) where
  abbrev S : ℕ → Source
  S D = source_of root library D

  -- the definition from its start: the extern, its charge, the statement
  begun : (D young : ℕ) (e : Env) → Doing (S D) L young (copy_extern (input_of (S D) L) e id) w t (paid (input_of (S D) L) (extern_proto (input_of (S D) L) e id) >>= (λ n. ret (some (Statement.ExternProto n)))) w t
  unfolding copy_extern
  begun D young e = start (S D) young (copy_extern (input_of (S D) L) e id) so

  left : (D young : ℕ) (e : Env) → Doing (S D) L young (copy_extern (input_of (S D) L) e id) w t (extern_proto (input_of (S D) L) e id >>= (λ n. charge (input_of (S D) L) >> ret (some (Statement.ExternProto n)))) w t
  left D young e = paying (input_of (S D) L) (extern_proto (input_of (S D) L) e id) (λ n. ret (some (Statement.ExternProto n))) (begun D young e)

  pub extern_stopped : {w' : List ℕ} {a : Answer} {x' : Refusal} → Declared L root library dir w t slot id w' a → a ≡ Err x' → ExternStated L root library dir w t slot id h w' a
  extern_stopped {w'} {a} {x'} d q = record {
    does = λ D young e here. stop (λ n. charge (input_of (S D) L) >> ret (some (Statement.ExternProto n))) (left D young e) (d.does D young e here) q statement_at;
    done = rw q tt;
  }

  module _ {w₁ : List ℕ} {a : Answer} {s : Counts} {n p : ℕ} (d : Declared L root library dir w t slot id w₁ a) (q : a ≡ did s n p) where
    gone : (young : ℕ) → Later L young w t w₁ s
    gone young = rw q at (d.does 0 young (env_for 0 (number_of dir slot)) refl).later

    pub extern_standing : Standing L w t → Standing L w₁ s
    extern_standing st = later_standing (gone 0) st

    pub extern_handle : HandleAt w₁ s.charges tag_statement h
    extern_handle = later_handle (gone 0) x

    after : (D young : ℕ) (e : Env) → src e ≡ number_of dir slot → Doing (S D) L young (copy_extern (input_of (S D) L) e id) w t (charge (input_of (S D) L) >> ret (some (Statement.ExternProto n))) w₁ s
    after D young e here = step (λ n. charge (input_of (S D) L) >> ret (some (Statement.ExternProto n))) (left D young e) (d.does D young e here) q

    is_extern : {w₂ : List ℕ} → Pushed w₁ w₂ s.charges (statement_record 2 n h) → (v : ℕ) → v ≡ s.charges + 1 → Statement.ExternProto n ≡ statement_rec w₂ (v - 1)
    unfolding statement_of
    is_extern {w₂} y v z = let u : s.charges + 1 - 1 ≡ s.charges = omega arith in rw (z, u, stated_new w₁ w₂ s (statement_record 2 n h) refl y)

    pub extern_stated : {w₂ : List ℕ} (b : Answer) → RecordKept L w₁ s (statement_record 2 n h) w₂ b → ExternStated L root library dir w t slot id h w₂ b
    extern_stated {w₂} (Err x') k = record { does = λ D young e here. stop (λ u. ret (some (Statement.ExternProto n))) (after D young e here) (k.does (S D) young) refl statement_at; done = tt }
    extern_stated {w₂} (Ok a') k =
        let y = k.done in
        record {
          does = λ D young e here.
              finish (step (λ u. ret (some (Statement.ExternProto n))) (after D young e here) (k.does (S D) young) refl) statement_at a'.value a'.place (ap some (is_extern y.pushed a'.value y.handle));
          done = rw y.handle (moved (stated w₁ w₂ s (statement_record 2 n h) refl y.pushed extern_handle a'.st (rw y.counts)));
        }
      where
        moved : {v : ℕ} → StatementAppended w₁ h w₂ a'.st v → StatementAppended w h w₂ a'.st v
        moved z = record { handle = z.handle; list = z.list ∙ rw (statements_fixed (gone 0).kept h x.low) }

-- ---- one statement, by its row
module _ (L : Limits) (root library dir w : List ℕ) (t : Counts) (e : code.Env) (r : Row) (h : ℕ) where
  abbrev said : Statement
  said = statement_of (r ∷ [])

  is_route : r.a ≡ 3 → said ≡ Statement.Route (route_of (r ∷ []))
  unfolding statement_of
  is_route q = rw q

  is_proto : r.a ≡ 2 → said ≡ Statement.ExternProto r.b
  unfolding statement_of
  is_proto q = rw q

  pub one_route : r.a ≡ 3 → {w' : List ℕ} (a : Answer) → Routed L w t e.scope r h w' a → StatementCopied L root library dir w t e r h w' a
  unfolding copy_statement somes
  one_route q {w'} (Err x') x = record { out = none; does = λ D young E es ed. record { same = rw (is_route q) (x.does (source_of root library D) young E es).same; later = tt }; done = tt }
  one_route q {w'} (Ok a') x = record {
    out = some (statement_rec w' (a'.value - 1));
    does = λ D young E es ed. record { same = rw (is_route q) (x.does (source_of root library D) young E es).same; later = (x.does (source_of root library D) young E es).later };
    done = record { handle = x.done.handle; list = x.done.list; kept = rw (is_route q) };
  }

  pub one_extern_lem : r.a ≡ 2 → {w' : List ℕ} (a : Answer) → ExternStated L root library dir w t e.slot r.b h w' a → StatementCopied L root library dir w t e r h w' a
  unfolding copy_statement somes
  one_extern_lem q {w'} (Err x') x = record { out = none; does = λ D young E es ed. record { same = rw (is_proto q) (x.does D young E ed).same; later = tt }; done = tt }
  one_extern_lem q {w'} (Ok a') x = record {
    out = some (statement_rec w' (a'.value - 1));
    does = λ D young E es ed. record { same = rw (is_proto q) (x.does D young E ed).same; later = (x.does D young E ed).later };
    done = record { handle = x.done.handle; list = x.done.list; kept = rw (is_proto q) };
  }

  -- any other is dropped
  module _ (nr : r.a ≡ 3 → ⊥) (np : r.a ≡ 2 → ⊥) where
    dropped : (P : Statement → Type 0) → P (Statement.Node r.b) → P (Statement.Proto r.b) → P (Statement.Other r.b) → P said
    unfolding statement_of
    dropped P x y z = by r.a refl
      where
        by : (n : ℕ) → r.a ≡ n → P (get_or (Statement.Node r.b ∷ Statement.Proto r.b ∷ Statement.ExternProto r.b ∷ Statement.Route (route_of (r ∷ [])) ∷ []) n (Statement.Other r.b))
        by zero q = x
        by (suc zero) q = y
        by (suc (suc zero)) q = absurd (np q)
        by (suc (suc (suc zero))) q = absurd (nr q)
        by (suc (suc (suc (suc n)))) q = z

    pub one_dropped : JournalSound L w t → HandleAt w t.charges tag_statement h → StatementCopied L root library dir w t e r h w (did t h 0)
    unfolding copy_statement somes
    one_dropped so x = record {
      out = none;
      does = λ D young E es ed. record { same = dropped (λ (s : Statement). ok none (at (source_of root library D) w t) ≡ copy_statement (input_of (source_of root library D) L) E s (at (source_of root library D) w t)) refl refl refl; later = later_refl young so };
      done = record { handle = x; list = sym (append-nil (statements_at w h)); kept = dropped (λ (s : Statement). false ≡ kept_statement s) refl refl refl };
    }

-- ---- all statements of a node
module _ (L : Limits) (root library dir w₀ : List ℕ) (t₀ : Counts) (e : code.Env) (row : ℕ) where
  abbrev R : List Row
  R = rows_of root library dir e.slot

  abbrev source : List Statement
  source = (node_at_row root library dir e.slot row).statements

  from_row : source ≡ statements_of (drop (row + 1) R)
  unfolding node_of
  from_row = rw (rest_drop R row)

  abbrev copy : ℕ → Env → Statement → Comp (Option Statement)
  copy D E = copy_statement (input_of (source_of root library D) L) E

  -- those before a row are done, and what they have become; those from it on are left
  pub record SaidSoFar (w : List ℕ) (t : Counts) (h place : ℕ) : Type 0 where
    pub before : List (Option Statement)
    pub doing : (D young : ℕ) (E : Env) → E.scope ≡ e.scope → src E ≡ number_of dir e.slot
        → Doing (source_of root library D) L young (map_m (copy D E) source) w₀ t₀ (map_m (copy D E) (statements_of (drop place R)) >>= (λ l. ret (before ++ l))) w t
    pub standing : Standing L w t
    pub env : EnvAt w t.charges e
    pub lent : Lent L root library dir w
    pub handle : HandleAt w t.charges tag_statement h
    pub list : statements_at w h ≡ somes before
    pub kept : map is_some before ++ map kept_statement (statements_of (drop place R)) ≡ map kept_statement source
    pub long : length w ≡ length w₀

  pub said_start : Standing L w₀ t₀ → EnvAt w₀ t₀.charges e → Lent L root library dir w₀ → SaidSoFar w₀ t₀ 0 (row + 1)
  unfolding somes
  said_start st env le = record {
    before = [];
    doing = λ D young E es ed. rw (← from_row) (last (start (source_of root library D) young (map_m (copy D E) source) st.sound));
    standing = st;
    env = env;
    lent = le;
    handle = handle_none w₀ t₀.charges tag_statement;
    list = statements_none w₀;
    kept = rw (← from_row);
    long = refl;
  }

  module _ {w : List ℕ} {t : Counts} {h place : ℕ} (x : SaidSoFar w t h place) where
    pub said_end : elements Statements (drop place R) ≡ [] → StatementsCopied L root library dir w₀ t₀ e row w (did t h 0)
    said_end z =
        let y = statements_end R place z in
        record {
          out = x.before;
          does = λ D young E es ed.
              finish (each_end (copy D E) (λ l. ret (x.before ++ l)) (rw y at (x.doing D young E es ed))) (λ u v p. x.before) h 0 (append-nil x.before);
          done = record { handle = x.handle; list = x.list; kept = sym (append-nil (map is_some x.before)) ∙ (rw y at x.kept) };
        }

    module _ {q : ℕ} {r : Row} (s : Stands Statements R place q) (is : r ≡ get_or R q blank) {w' : List ℕ} {a : Answer} (o : StatementCopied L root library dir w t e r h w' a) where
      begins : (D young : ℕ) (E : Env) → E.scope ≡ e.scope → src E ≡ number_of dir e.slot
          → Doing (source_of root library D) L young (map_m (copy D E) source) w₀ t₀ (copy D E (statement_of (r ∷ [])) >>= (λ b. map_m (copy D E) (statements_of (drop (q + 1) R)) >>= (λ l. ret (x.before ++ (b ∷ l))))) w t
      begins D young E es ed = each (copy D E) (statement_of (r ∷ [])) (statements_of (drop (q + 1) R)) (λ l. ret (x.before ++ l)) (rw (statements_at_lem s is) at (x.doing D young E es ed))

      pub said_stop : {x' : Refusal} → a ≡ Err x' → StatementsCopied L root library dir w₀ t₀ e row w' a
      said_stop u = record {
        out = [];
        does = λ D young E es ed. stop (λ b. map_m (copy D E) (statements_of (drop (q + 1) R)) >>= (λ l. ret (x.before ++ (b ∷ l)))) (begins D young E es ed) (o.does D young E es ed) u (λ w v p. []);
        done = rw u tt;
      }

      pub said_more : {t' : Counts} {v p : ℕ} → a ≡ did t' v p → SaidSoFar w' t' v (q + 1)
      said_more {t'} {v} {p} u =
          let k : OneKept (statement_of (r ∷ [])) o.out w h w' t' v = rw u at o.done in
          let la : Later L 0 w t w' t' = rw u at (o.does 0 0 (env_for e.scope (number_of dir e.slot)) refl refl).later in
          record {
            before = x.before ++ (o.out ∷ []);
            doing = λ D young E es ed.
                turn (step (λ b. map_m (copy D E) (statements_of (drop (q + 1) R)) >>= (λ l. ret (x.before ++ (b ∷ l)))) (begins D young E es ed) (o.does D young E es ed) u)
                (map_m (copy D E) (statements_of (drop (q + 1) R)) >>= (λ l. ret ((x.before ++ (o.out ∷ [])) ++ l)))
                (regroup (map_m (copy D E) (statements_of (drop (q + 1) R)) (at (source_of root library D) w' t')));
            standing = later_standing la x.standing;
            env = later_env la x.env;
            lent = lent_later la x.lent;
            handle = k.handle;
            list = k.list ∙ rw x.list (sym (somes_more x.before (o.out ∷ [])));
            kept = more_kept k;
            long = la.long ∙ x.long;
          }
        where
          regroup : (m : Result (List (Option Statement))) → bind_r m (λ l. ret (x.before ++ (o.out ∷ l))) ≡ bind_r m (λ l. ret ((x.before ++ (o.out ∷ [])) ++ l))
          regroup m = regrouped x.before o.out m

          more_kept : {w'' : List ℕ} {t'' : Counts} {v'' : ℕ} → OneKept (statement_of (r ∷ [])) o.out w h w'' t'' v'' → map is_some (x.before ++ (o.out ∷ [])) ++ map kept_statement (statements_of (drop (q + 1) R)) ≡ map kept_statement source
          more_kept k = rw (map_append is_some x.before (o.out ∷ []), k.kept, append_assoc) (rw (statements_at_lem s is) at x.kept)
