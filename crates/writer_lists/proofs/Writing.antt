-- Words and rows written into a list of words.
use mathlib.Core.Path.{◌≡◌, refl, sym, ap, ◌∙◌}
use mathlib.Core.List.{List, [], ◌∷◌, ◌++◌, append-nil, append_assoc}
use Prim.Native.Nat.{ℕ, ◌+◌, ◌*◌, ◌-◌, ◌≤◌}
use native.Mathlib.Omega.{arith}
use lib.ListN.{length, take, drop, length-append, length-drop, take-append-drop}
use lib.Seq.{length-take-le, take-append-le, take_at, drop_at, drop-drop}
use Rattle.expansion_operation.proofs.Said.{words_length}
use Rattle.sheet_rows.specs.declared.row.Row.{Row}
use Rattle.sheet_rows.specs.Rows.{words}
use Rattle.writer_lists.specs.Writing.{Pasted, RowsFit, Wrote}

-- ---- words pasted

-- no words
pub paste_none : (o : List ℕ) (p : ℕ) → Pasted [] o o p
paste_none o p = let z : p + 0 ≡ p = omega arith in record { long = refl; same = rw z (sym (take-append-drop p o)) }

module _ {a b o o1 o2 : List ℕ} {p q : ℕ} (e : q ≡ p + length a) where
  -- one text after another
  pub paste_after : p ≤ length o → Pasted a o o1 p → Pasted b o1 o2 q → Pasted (a ++ b) o o2 p
  paste_after h u v =
      let T : List ℕ = take p o in
      let Y : List ℕ = drop (p + length a) o in
      let Z : List ℕ = drop (p + length (a ++ b)) o in
      let l_p : length (T ++ a) ≡ q = length-append T a ∙ omega (arith, length-take-le p o h) in
      let split : o1 ≡ (T ++ a) ++ Y = u.same ∙ sym (append_assoc T a Y) in
      let low : take q o1 ≡ T ++ a = ap (take q) split ∙ take_at (T ++ a) Y q l_p in
      let mid : drop q o1 ≡ Y = ap (drop q) split ∙ drop_at (T ++ a) Y q l_p in
      let z : p + length a + length b ≡ p + length (a ++ b) = omega (arith, length-append a b) in
      let high : drop (q + length b) o1 ≡ Z = sym (drop-drop (length b) q o1) ∙ ap (drop (length b)) mid ∙ drop-drop (length b) (p + length a) o ∙ ap (λ (k : ℕ). drop k o) z in
      record { long = v.long ∙ u.long; same = v.same ∙ rw (low, high, append_assoc a b Z) (append_assoc T a (b ++ Z)) }

  -- one before another
  paste_before : q ≤ length o → Pasted b o o1 q → Pasted a o1 o2 p → Pasted (a ++ b) o o2 p
  paste_before h u v =
      let T : List ℕ = take q o in
      let Z : List ℕ = drop (p + length (a ++ b)) o in
      let l_t : length T ≡ q = length-take-le q o h in
      let z : q + length b ≡ p + length (a ++ b) = omega (arith, length-append a b) in
      let is : o1 ≡ T ++ (b ++ Z) = u.same ∙ rw z in
      let l : p ≤ length T = omega arith in
      let low : take p o1 ≡ take p o = ap (take p) is ∙ take-append-le p T (b ++ Z) l ∙ sym (take-append-le p T (drop q o) l) ∙ ap (take p) (take-append-drop q o) in
      let mid : drop q o1 ≡ b ++ Z = ap (drop q) is ∙ drop_at T (b ++ Z) q l_t in
      let high : drop (p + length a) o1 ≡ b ++ Z = ap (λ (k : ℕ). drop k o1) (sym e) ∙ mid in
      record { long = v.long ∙ u.long; same = v.same ∙ rw (low, high, append_assoc a b Z) }

-- ---- rows written

-- the words of rows and more rows
pub words_append : (a b : List Row) → words (a ++ b) ≡ words a ++ words b
unfolding words
words_append [] b = refl
words_append (r ∷ a) b = rw (words_append a b)

-- eight words in the place of m words put a row
pub put_law : (o : List ℕ) (p m : ℕ) (r : Row) → 8 * p + 8 ≤ length o → m ≡ 8
    → Wrote (r ∷ []) o (take (8 * p) o ++ ((r.kind ∷ r.a ∷ r.b ∷ r.c ∷ r.d ∷ r.e ∷ r.f ∷ r.g ∷ []) ++ drop m (drop (8 * p) o))) (p + 1) p
unfolding words
put_law o p m r h e =
    let vs : List ℕ = r.kind ∷ r.a ∷ r.b ∷ r.c ∷ r.d ∷ r.e ∷ r.f ∷ r.g ∷ [] in
    let rest : List ℕ = drop m (drop (8 * p) o) in
    let z : 8 * p + m ≡ 8 * p + 8 = omega arith in
    record {
      sum = omega arith;
      pasted = record {
        long = omega (arith, length-append (take (8 * p) o) (vs ++ rest), length-append vs rest, length-drop m (drop (8 * p) o), length-drop (8 * p) o, length-take-le (8 * p) o (omega arith));
        same = ap (λ (d : List ℕ). take (8 * p) o ++ (vs ++ d)) (drop-drop m (8 * p) o ∙ ap (λ (k : ℕ). drop k o) z);
      };
    }

-- a row put before row e
pub back_law : {o o' : List ℕ} {e : ℕ} {r : Row} → RowsFit (r ∷ []) o e → Wrote (r ∷ []) o o' (e - 1 + 1) (e - 1) → Wrote (r ∷ []) o o' e (e - 1)
back_law {e = e} m u = record { sum = omega (arith, m.fits); pasted = u.pasted }

-- no rows
pub wrote_none : {R : List Row} {o : List ℕ} {e : ℕ} → R ≡ [] → Wrote R o o e e
unfolding words
wrote_none {R} {o} {e} q = record { sum = rw q (omega arith); pasted = rw q (paste_none o (8 * e)) }

-- rows that end where they are counted to end begin where they should
pub wrote_from : {R : List Row} {o o' : List ℕ} {e n p q : ℕ} → n ≡ length R → e ≡ p + n → Wrote R o o' e q → Wrote R o o' e p
wrote_from {p = p} {q = q} a b u = let z : p ≡ q = omega (arith, u.sum) in rw z u

module _ {a b : List Row} {o o1 o2 : List ℕ} {e p s : ℕ} where
  -- rows after rows
  pub wrote_after : 8 * s ≤ length o → Wrote a o o1 p s → Wrote b o1 o2 e p → Wrote (a ++ b) o o2 e s
  wrote_after h u v = record {
    sum = rw (length-append a b) (omega (arith, u.sum, v.sum));
    pasted = rw (words_append a b) (paste_after (omega (arith, u.sum, words_length a)) h u.pasted v.pasted);
  }

  -- rows before rows
  wrote_before : 8 * p ≤ length o → Wrote b o o1 e p → Wrote a o1 o2 p s → Wrote (a ++ b) o o2 e s
  wrote_before h u v = record {
    sum = rw (length-append a b) (omega (arith, u.sum, v.sum));
    pasted = rw (words_append a b) (paste_before (omega (arith, v.sum, words_length a)) h u.pasted v.pasted);
  }

-- ---- blocks of rows, the last first

unfoldable pub backwards : List (List Row) → List Row
backwards [] = []
backwards (b ∷ l) = backwards l ++ b

-- of the rows t, which end at row e, the blocks l are still to be written, below row p
pub record Stage (t : List Row) (l : List (List Row)) (o₀ o : List ℕ) (e p : ℕ) : Type 0 where
  pub made : List Row
  pub room : RowsFit t o₀ e
  pub whole : t ≡ backwards l ++ made
  pub wrote : Wrote made o₀ o e p

module _ {t : List Row} where
  -- nothing is written yet
  pub begin : {l : List (List Row)} {o : List ℕ} {e : ℕ} → RowsFit t o e → t ≡ backwards l → Stage t l o o e e
  begin {l} m q = record { made = []; room = m; whole = q ∙ sym (append-nil (backwards l)); wrote = wrote_none refl }

  -- in one block
  pub begin_one : {o : List ℕ} {e : ℕ} → RowsFit t o e → Stage t (t ∷ []) o o e e
  unfolding backwards
  begin_one m = begin m refl

  module _ {l : List (List Row)} {o₀ o : List ℕ} {e p : ℕ} where
    -- there is room for the next block
    pub room_of : {b : List Row} → Stage t (b ∷ l) o₀ o e p → RowsFit b o p
    unfolding backwards
    room_of {b} u =
        let z : length (backwards l ++ b) ≡ length (backwards l) + length b = length-append (backwards l) b in
        let s : length t ≡ length (backwards l ++ b) + length u.made = ap length u.whole ∙ length-append (backwards l ++ b) u.made in
        record { fits = omega (arith, u.room.fits, u.wrote.sum); inside = omega (arith, u.room.inside, u.wrote.sum, u.wrote.pasted.long); few = omega (arith, u.room.few, u.wrote.sum) }

    -- the next block is written
    pub next : {b : List Row} {o1 : List ℕ} {p1 : ℕ} → Stage t (b ∷ l) o₀ o e p → Wrote b o o1 p p1 → Stage t l o₀ o1 e p1
    unfolding backwards
    next {b} u v = record {
      made = b ++ u.made;
      room = u.room;
      whole = u.whole ∙ append_assoc (backwards l) b u.made;
      wrote = wrote_before (omega (arith, u.room.inside, u.wrote.sum)) u.wrote v;
    }

    -- a block is two
    pub split : {b x y : List Row} → b ≡ x ++ y → Stage t (b ∷ l) o₀ o e p → Stage t (y ∷ x ∷ l) o₀ o e p
    unfolding backwards
    split {b} {x} {y} q u = record { made = u.made; room = u.room; whole = u.whole ∙ rw (q, append_assoc (backwards l) x y); wrote = u.wrote }

    -- a block is empty
    pub skip : {b : List Row} → b ≡ [] → Stage t (b ∷ l) o₀ o e p → Stage t l o₀ o e p
    unfolding backwards
    skip {b} q u = record { made = u.made; room = u.room; whole = u.whole ∙ rw (q, append-nil (backwards l)); wrote = u.wrote }

  -- all is written
  pub finish : {o₀ o : List ℕ} {e p : ℕ} → Stage t [] o₀ o e p → Wrote t o₀ o e p
  unfolding backwards
  finish u = rw u.whole u.wrote

-- ---- blocks of rows, the first first

unfoldable pub forwards : List (List Row) → List Row
forwards [] = []
forwards (b ∷ l) = b ++ forwards l

-- of the rows t, which begin at row s, the blocks l are still to be written, from row p on
pub record Coming (t : List Row) (l : List (List Row)) (o₀ o : List ℕ) (s p : ℕ) : Type 0 where
  pub made : List Row
  pub room : RowsFit t o₀ (s + length t)
  pub whole : t ≡ made ++ forwards l
  pub wrote : Wrote made o₀ o p s

module _ {t : List Row} where
  -- nothing is written yet
  pub set_out : {l : List (List Row)} {o : List ℕ} {s : ℕ} → RowsFit t o (s + length t) → t ≡ forwards l → Coming t l o o s s
  set_out m q = record { made = []; room = m; whole = q; wrote = wrote_none refl }

  module _ {l : List (List Row)} {o₀ o : List ℕ} {s p : ℕ} where
    -- there is room for the next block
    pub room_on : {b : List Row} → Coming t (b ∷ l) o₀ o s p → RowsFit b o (p + length b)
    unfolding forwards
    room_on {b} u =
        let z : length (b ++ forwards l) ≡ length b + length (forwards l) = length-append b (forwards l) in
        let y : length t ≡ length u.made + length (b ++ forwards l) = ap length u.whole ∙ length-append u.made (b ++ forwards l) in
        record { fits = omega arith; inside = omega (arith, u.room.inside, u.wrote.sum, u.wrote.pasted.long); few = omega (arith, u.room.few, u.wrote.sum) }

    -- the next block is written
    pub go_on : {b : List Row} {o1 : List ℕ} {e : ℕ} → Coming t (b ∷ l) o₀ o s p → Wrote b o o1 e p → Coming t l o₀ o1 s e
    unfolding forwards
    go_on {b} u v = record {
      made = u.made ++ b;
      room = u.room;
      whole = u.whole ∙ sym (append_assoc u.made b (forwards l));
      wrote = wrote_after (omega (arith, u.room.inside)) u.wrote v;
    }

  -- all is written
  pub arrive : {o₀ o : List ℕ} {s e : ℕ} → Coming t [] o₀ o s e → Wrote t o₀ o e s
  unfolding forwards
  arrive u = let z : t ≡ u.made = u.whole ∙ append-nil u.made in rw z u.wrote
