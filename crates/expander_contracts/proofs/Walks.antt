-- The walk over a list of the sheet, each element copied by a step: what is left gives what the whole gives.
use mathlib.Core.Path.{◌≡◌, sym, ap, ◌∙◌}
use mathlib.Core.Bool.{Bool, true, false}
use mathlib.Core.List.{List, [], ◌∷◌, ◌++◌, map, append-nil, append_assoc}
use Prim.Native.Nat.{ℕ, ◌+◌, ◌≤◌}
use native.Mathlib.Omega.{arith}
use lib.ListN.{length, drop}
use lib.Dec.{eqb}
use Rattle.ast.specs.Choice.{choose}
use Rattle.sheet_rows.specs.declared.row.Row.{Row}
use Rattle.sheet_rows.specs.declared.part.Part.{Part}
use Rattle.sheet_rows.specs.Rows.{rows, rest}
use Rattle.sheet_rows.specs.Parse.{elements}
use Rattle.sheet_rows.proofs.RowLaws.{rows_length}
use Rattle.sheet_walks.specs.Walk.{Stands}
use Rattle.sheet_walks.proofs.WalkLaws.{rest_drop, each_at}
use Rattle.source_directory.specs.Directory.{number_of}
use Rattle.expansion_definition.specs.Input.{Input}
use Rattle.expansion_definition.specs.State.{Comp, bind_r, ◌>>=◌, map_m}
use Rattle.refine_records.specs.declared.Limits.{Limits}
use Rattle.std.specs.declared.result.Result.TheVariants.{Err}
use Rattle.refine_records.specs.declared.Refusal.{Refusal}
use Rattle.refine_records.specs.declared.Counts.{Counts}
use Rattle.refine_records.specs.Sound.{input_of}
use Rattle.refine_records.specs.Does.{Answer, did, at}
use Rattle.refine_records.proofs.Calculus as calculus
use Rattle.expander_parts.specs.Contract.{source_of, Lent, rows_of}
use Rattle.journal_reading.specs.WellFormed.{HandleAt}
use Rattle.expander_contracts.specs.Contract.{Yields, ListAppended}
use Rattle.expander_contracts.proofs.Run.{Run, turn, go, halt, gave, yields_young}

-- a sheet is not long
pub rows_few : {L : Limits} {root library dir w : List ℕ} → Lent L root library dir w → (slot : ℕ) → length (rows_of root library dir slot) ≤ 1048576
rows_few {L} {root} {library} {dir} {w} h slot = by (eqb (number_of dir slot) 0)
  where
    by : (b : Bool) → length (rows (choose b root library)) ≤ 1048576
    by true = omega (arith, rows_length root, h.small)
    by false = omega (arith, rows_length library, h.sourced.directory.small)

-- what is left of a list from a row on, those passed having given `passed`
abbrev pub each_left : {X B M : Type 0} → (Input → X → Comp B) → (List Row → X) → (Input → List B → Comp M) → Part → List Row → ℕ → List B → Input → Comp M
each_left f g k part R p passed I = map_m (f I) (map g (elements part (drop p R))) >>= (λ bs. k I (passed ++ bs))

-- where a loop over such a list stands: h is the handle of what those passed have given
pub record Mapping {X A B M : Type 0} (root library : List ℕ) (L : Limits) (young : ℕ) (m : Input → Comp M) (w₀ : List ℕ) (t₀ : Counts)
    (f : Input → X → Comp B) (g : List Row → X) (k : Input → List B → Comp M) (part : Part) (R : List Row) (tag : ℕ) (list_at : List ℕ → ℕ → List A) (lists : List B → List A)
    (w : List ℕ) (t : Counts) (h p : ℕ) : Type 0 where
  pub passed : List B
  pub run : Run root library L young m w₀ t₀ (each_left f g k part R p passed) w t
  pub handle : HandleAt w t.charges tag h
  pub all : list_at w h ≡ lists passed

module _ {M : Type 0} {root library : List ℕ} {L : Limits} {young : ℕ} {m : Input → Comp M} {w₀ : List ℕ} {t₀ : Counts} {w : List ℕ} {t : Counts} where
  -- ---- each element of a part, in order: what those passed have given, and what is left
  module _ {X B : Type 0} (f : Input → X → Comp B) (g : List Row → X) (k : Input → List B → Comp M) (part : Part) (R : List Row) where
    -- at the start
    pub map_start : (row : ℕ) → Run root library L young m w₀ t₀ (λ I. map_m (f I) (map g (elements part (rest (drop row R)))) >>= k I) w t → Run root library L young m w₀ t₀ (each_left f g k part R (row + 1) []) w t
    map_start row r = turn r (each_left f g k part R (row + 1) []) (λ D. rw (rest_drop R row))

    -- the next
    pub map_next : {p q : ℕ} (passed : List B) → Stands part R p q → Run root library L young m w₀ t₀ (each_left f g k part R p passed) w t → Run root library L young m w₀ t₀ (λ I. f I (g (drop q R)) >>= (λ b. each_left f g k part R (q + 1) (passed ++ (b ∷ [])) I)) w t
    map_next {p} {q} passed s r = record {
      doing = λ D.
          let I : Input = input_of (source_of root library D) L in
          calculus.turn
          (calculus.each (f I) (g (drop q R)) (map g (elements part (drop (q + 1) R))) (λ bs. k I (passed ++ bs))
          (calculus.turn (r.doing D) (map_m (f I) (g (drop q R) ∷ map g (elements part (drop (q + 1) R))) >>= (λ bs. k I (passed ++ bs))) (ap (λ (l : List X). bind_r (map_m (f I) l (at (source_of root library D) w t)) (λ bs. k I (passed ++ bs))) (each_at g s))))
          (f I (g (drop q R)) >>= (λ b. each_left f g k part R (q + 1) (passed ++ (b ∷ [])) I))
          (λ i. bind_r (f I (g (drop q R)) (at (source_of root library D) w t)) (λ b. map_m (f I) (map g (elements part (drop (q + 1) R))) >>= (λ bs. k I (sym (append_assoc passed (b ∷ []) bs) i))));
    }

    -- the end
    pub map_end : (p : ℕ) (passed : List B) → elements part (drop p R) ≡ [] → Run root library L young m w₀ t₀ (each_left f g k part R p passed) w t → Run root library L young m w₀ t₀ (λ I. k I passed) w t
    unfolding map_m bind_r
    map_end p passed e r = turn r (λ I. k I passed) (λ D. rw (e, append-nil passed))

  -- ---- the same, for a loop
  module _ {X A B : Type 0} {f : Input → X → Comp B} {g : List Row → X} {k : Input → List B → Comp M} {part : Part} {R : List Row} {tag : ℕ} {list_at : List ℕ → ℕ → List A} {lists : List B → List A} where
    pub loop_start : (row : ℕ) → Run root library L young m w₀ t₀ (λ I. map_m (f I) (map g (elements part (rest (drop row R)))) >>= k I) w t → list_at w 0 ≡ lists [] → Mapping root library L young m w₀ t₀ f g k part R tag list_at lists w t 0 (row + 1)
    loop_start row r e = record { passed = []; run = map_start f g k part R row r; handle = record { low = omega arith; tag = λ z. absurd (omega arith) }; all = e }

    module _ {h p q : ℕ} (s : Stands part R p q) (x : Mapping root library L young m w₀ t₀ f g k part R tag list_at lists w t h p) {list : B → List A} {w' : List ℕ} {a : Answer} (y : Yields root library L t.scopes (λ I. f I (g (drop q R))) (ListAppended tag list_at list (list_at w h)) w t w' a) where
      pub loop_again : young ≤ t.scopes → ((bs : List B) (b : B) → lists (bs ++ (b ∷ [])) ≡ lists bs ++ list b) → {t' : Counts} {v o : ℕ} → a ≡ did t' v o → Mapping root library L young m w₀ t₀ f g k part R tag list_at lists w' t' v (q + 1)
      loop_again le more e =
          let z = gave y e in
          record {
            passed = x.passed ++ (y.given ∷ []);
            run = go (λ I b. each_left f g k part R (q + 1) (x.passed ++ (b ∷ [])) I) (map_next f g k part R x.passed s x.run) (yields_young le y) e;
            handle = z.handle;
            all = z.all ∙ ap (λ (l : List A). l ++ list y.given) x.all ∙ sym (more x.passed y.given);
          }

      pub loop_stop : young ≤ t.scopes → {x' : Refusal} {Q : List ℕ → Counts → ℕ → ℕ → M → Type 0} → a ≡ Err x' → (b : M) → Yields root library L young m Q w₀ t₀ w' a
      loop_stop le e b = halt (λ I b. each_left f g k part R (q + 1) (x.passed ++ (b ∷ [])) I) (map_next f g k part R x.passed s x.run) (yields_young le y) e b

    pub loop_end : {h p : ℕ} → elements part (drop p R) ≡ [] → (x : Mapping root library L young m w₀ t₀ f g k part R tag list_at lists w t h p) → Run root library L young m w₀ t₀ (λ I. k I x.passed) w t
    loop_end {h} {p} e x = map_end f g k part R p x.passed e x.run

    -- from a row with as much left
    pub loop_past : {h p q : ℕ} → elements part (drop p R) ≡ elements part (drop q R) → Mapping root library L young m w₀ t₀ f g k part R tag list_at lists w t h p → Mapping root library L young m w₀ t₀ f g k part R tag list_at lists w t h q
    loop_past {h} {p} {q} e x = record { passed = x.passed; run = turn x.run (each_left f g k part R q x.passed) (λ D. rw e); handle = x.handle; all = x.all }
