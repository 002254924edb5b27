-- The last field of a name: by a walk, by the tables of names, and how these are written.
use mathlib.Core.Path.{◌≡◌, refl, sym, ap, ◌∙◌}
use mathlib.Core.Bool.{cond}
use mathlib.Core.List.{List, [], ◌∷◌, ◌++◌}
use mathlib.Core.Option.{Option, none, some}
use Prim.Native.Nat.{ℕ, ◌+◌, ◌-◌, ◌*◌, ◌≤◌, ◌<◌, ◌/◌}
use native.Mathlib.Omega.{arith}
use native.Mathlib.Decide.{ℕ_discrete}
use lib.ListN.{length, get_or, take, drop, set, length-set, length-drop, get_or-append}
use lib.Seq.{length-take-le, get_or-set_same, get_or-set_other, get_or-take, get_or-drop, ext_get_or}
use lib.Dec.{eqb}
use borrow.Author.Tests.{eq-eqb, ne_eqb, le-leb, lt-leb}
use Rattle.ast.specs.Ast.{FieldBinding}
use Rattle.ast.specs.Choice.{choose, map_o, or_else}
use Rattle.sheet_rows.specs.declared.row.Row.{Row}
use Rattle.sheet_rows.specs.declared.part.Part.TheVariants.{Fields}
use Rattle.sheet_rows.specs.Rows.{rows, blank}
use Rattle.sheet_rows.specs.Parse.{elements, field_of, fields_of, node_of}
use Rattle.sheet_rows.proofs.RowLaws.{row_is, rows_length}
use Rattle.std.specs.Prelude.{Option as Maybe, Some, None}
use Rattle.sheet_walks.specs.declared.walk.Found.{Found}
use Rattle.sheet_walks.specs.declared.walk.Found.TheVariants.{At, Nothing}
use Rattle.sheet_walks.specs.Walk.{Stands, rows_at, Below}
use Rattle.sheet_walks.proofs.WalkLaws.{each_at, each_none, front_drop, rest_drop}
use Rattle.sheet_sorted.specs.Sorted.{key, sort_by, last_of, Sorted, IsLast}
use Rattle.sheet_sorted.proofs.KeyLaws.{part}
use Rattle.sheet_sorted.proofs.SortLaws.{sort_length}
use Rattle.sheet_sorted.proofs.UseLaws.{last_snoc, taken_more}
use Rattle.sheet_lookup.specs.Lookup.{sheet_of}
use Rattle.ast.proofs.OptionLaws.{or_assoc, or_none_lem}
use Rattle.expansion_definition.specs.Input.{last_field}
use Rattle.words_lent.specs.Words.{Outside, Cleared}
use Rattle.words_lent.proofs.WordLaws.{stays, stays_set, stays_on, stays_wide, stays_front}
use Rattle.source_names.specs.Names.{LastField, name_of, NameTable, NodeTabled, table_sheet, TablesListed, FieldsListed, TablesGrown}

-- ---- the fields of a node
pub fields_at : {R : List Row} {p q : ℕ} → Stands Fields R p q → fields_of (drop p R) ≡ field_of (drop q R) ∷ fields_of (drop (q + 1) R)
unfolding fields_of
fields_at s = each_at field_of s

pub fields_none : (R : List Row) (p : ℕ) → elements Fields (drop p R) ≡ [] → fields_of (drop p R) ≡ []
unfolding fields_of
fields_none R p e = each_none field_of Fields R p e

field_name : (R : List Row) (q : ℕ) {r : Row} → r ≡ get_or R q blank → (field_of (drop q R)).name ≡ r.a
unfolding field_of
field_name R q e = ap (λ (x : Row). x.a) (front_drop R q ∙ sym e)

-- ---- the last of a name
abbrev binding_at : List Row → Found → Option FieldBinding
binding_at R x = map_o (λ l. (field_of l).binding) (rows_at R x)

-- the last of the fields from a row on, or else the best so far, is the last of all
pub record Searching (name : ℕ) (R : List Row) (node : ℕ) (best : Found) (at : ℕ) : Type 0 where
  pub is : or_else (last_field name (fields_of (drop at R))) (binding_at R best) ≡ last_field name (node_of (drop node R)).fields
  pub below : Below R best

module _ (name : ℕ) (R : List Row) (node : ℕ) where
  pub search_start : Searching name R node Nothing (node + 1)
  unfolding node_of
  search_start = record { is = or_none_lem (last_field name (fields_of (drop (node + 1) R))) ∙ rw (rest_drop R node); below = tt }

  pub search_none : {best : Found} {at : ℕ} → Searching name R node best at → elements Fields (drop at R) ≡ [] → LastField name R node best
  unfolding last_field
  search_none {best} {at} s e = record { is = sym s.is ∙ rw (fields_none R at e); below = s.below }

  module _ {best : Found} {at q : ℕ} (s : Searching name R node best at) (x : Stands Fields R at q) {r : Row} (is : r ≡ get_or R q blank) where
    one : or_else (last_field name (fields_of (drop at R))) (binding_at R best) ≡ or_else (last_field name (fields_of (drop (q + 1) R))) (or_else (choose (eqb r.a name) (some (field_of (drop q R)).binding) none) (binding_at R best))
    unfolding last_field
    one = rw (fields_at x, field_name R q is) (or_assoc (last_field name (fields_of (drop (q + 1) R))) (choose (eqb r.a name) (some (field_of (drop q R)).binding) none) (binding_at R best))

    pub search_new : r.a ≡ name → Searching name R node (At q) (q + 1)
    search_new e = record { is = sym (rw (eq-eqb r.a name e) at one) ∙ s.is; below = x.below }

    pub search_old : (r.a ≡ name → ⊥) → Searching name R node best (q + 1)
    search_old ne = record { is = sym (rw (ne_eqb r.a name ne) at one) ∙ s.is; below = s.below }

-- ---- the rows of a node's fields are written

-- a row's name is its second word
name_is : (sheet : List ℕ) (q : ℕ) → q < length (rows sheet) → (get_or (rows sheet) q blank).a ≡ name_of sheet q
unfolding key
name_is sheet q h = ap (λ (r : Row). r.a) (sym (row_is sheet q (omega (arith, rows_length sheet))))

-- the last of the rows written, for each name
pub record Filling (sheet : List ℕ) (n at end p to : ℕ) (w₀ w : List ℕ) : Type 0 where
  pub stays : Outside at end w₀ w
  pub low : at ≤ to
  pub high : to ≤ end
  pub last : (m : ℕ) → Searching m (rows sheet) n (last_of (name_of sheet) m (take (to - at) (drop at w)) Nothing) p

module _ {sheet : List ℕ} {n at end : ℕ} {w₀ : List ℕ} where
  pub fill_start : at ≤ end → Filling sheet n at end (n + 1) at w₀ w₀
  unfolding last_of
  fill_start h = let z : at - at ≡ 0 = omega arith in record {
    stays = stays w₀;
    low = omega arith;
    high = h;
    last = λ m. rw z (search_start m (rows sheet) n);
  }

  pub fill_end : {p to : ℕ} {w : List ℕ} → Filling sheet n at end p to w₀ w → elements Fields (drop p (rows sheet)) ≡ [] → FieldsListed sheet n at end w₀ w (Some to)
  fill_end f e = record { stays = f.stays; is = (f.low, f.high, λ m. search_none m (rows sheet) n (f.last m) e) }

  pub fill_full : {p to : ℕ} {w : List ℕ} → Filling sheet n at end p to w₀ w → FieldsListed sheet n at end w₀ w None
  fill_full f = record { stays = f.stays; is = tt }

  module _ {w : List ℕ} {p q to : ℕ} (f : Filling sheet n at end p to w₀ w) (x : Stands Fields (rows sheet) p q) (room : to < end) (long : end ≤ length w) where
    abbrev u : List ℕ
    u = take (to - at) (drop at w)

    -- the row is added to those written
    more_is : take (to + 1 - at) (drop at (set w to q)) ≡ u ++ (q ∷ [])
    more_is = taken_more w at to q f.low (omega arith)

    step : (m : ℕ) → Dec (name_of sheet q ≡ m) → Searching m (rows sheet) n (cond (eqb (name_of sheet q) m) (At q) (last_of (name_of sheet) m u Nothing)) (q + 1)
    step m (yes e) = rw (eq-eqb _ _ e) (search_new m (rows sheet) n (f.last m) x refl (name_is sheet q x.below ∙ e))
    step m (no e) = rw (ne_eqb _ _ e) (search_old m (rows sheet) n (f.last m) x refl (λ z. e (sym (name_is sheet q x.below) ∙ z)))

    pub fill_more : Filling sheet n at end (q + 1) (to + 1) w₀ (set w to q)
    fill_more = record {
      stays = stays_on at end f.stays (stays_set {a = at} {b = end} w to q f.low room) (omega arith) (omega arith) (omega arith) (omega arith);
      low = omega (arith, f.low);
      high = omega arith;
      last = λ m. rw (more_is, last_snoc (name_of sheet) m u q Nothing) (step m (ℕ_discrete (name_of sheet q) m));
    }

pub fill_at : {sheet w w' : List ℕ} {n at end next : ℕ} {x : Maybe ℕ} → x ≡ Some next → FieldsListed sheet n at end w w' x → FieldsListed sheet n at end w w' (Some next)
fill_at e f = rw e at f

-- ---- what a table tells

module _ {sheet w : List ℕ} {n : ℕ} (t : NameTable sheet n (length w) w 0) where
  sorted_is : w ≡ sort_by (name_of sheet) t.fields
  sorted_is =
      ext_get_or 0 w (sort_by (name_of sheet) t.fields) (omega (arith, sort_length (name_of sheet) t.fields, t.long))
      (λ i h. let z : 0 + i ≡ i = omega arith in rw z at (t.sorted i h))

  pub named_is : {m : ℕ} {x : Found} → IsLast (name_of sheet) m w x → LastField m (rows sheet) n x
  named_is {m} l = rw (l.is t.fields sorted_is) (t.tells m)

-- it is a table alone too
pub table_alone : {sheet w : List ℕ} {n count at c : ℕ} → NameTable sheet n count w at → at + count ≤ length w → c ≡ count → NameTable sheet n (length (take c (drop at w))) (take c (drop at w)) 0
table_alone {sheet} {w} {at = at} {c} t within e =
    let a = length-take-le c (drop at w) (omega (arith, e, length-drop at w)) in
    record {
      fields = t.fields;
      long = omega (arith, t.long, e, a);
      sorted = λ i h.
          let g : i < c = omega (arith, a) in
          let z : 0 + i ≡ i = omega arith in
          rw z (get_or-take c (drop at w) i 0 g ∙ get_or-drop at w i 0 ∙ t.sorted i (omega (arith, e)));
      tells = t.tells;
    }

-- a node's place is for its sheet
module _ (root library : List ℕ) (n d : ℕ) where
  pub place_root : d ≡ 0 → n < length (rows (sheet_of root library d)) → table_sheet root library (n / 16) ≡ sheet_of root library d
  place_root e h =
      let y : n < length (rows root) = rw e at h in
      rw (e, lt-leb (length root / 128 + 1) (n / 16) (omega (arith, rows_length root)))

  pub place_library : (d ≡ 0 → ⊥) → table_sheet root library (length root / 128 + 1 + n / 16) ≡ sheet_of root library d
  place_library e = rw (ne_eqb d 0 e, le-leb (length root / 128 + 1) (length root / 128 + 1 + n / 16) (omega arith))

-- the sheet of a document's number
module _ (root library : List ℕ) (d : ℕ) {sheet : List ℕ} (is : sheet ≡ sheet_of root library d) where
  pub sheet_below : {n : ℕ} → n < length (rows (sheet_of root library d)) → n < length (rows sheet)
  sheet_below h = rw is h

  pub sheet_above : {n : ℕ} → n < length (rows sheet) → n < length (rows (sheet_of root library d))
  sheet_above h = rw is at h

  pub sheet_small : length root ≤ 8 * 1048576 → length library ≤ 8 * 1048576 → length sheet ≤ 8 * 1048576
  sheet_small a b = rw is (go (ℕ_discrete d 0))
    where
      go : Dec (d ≡ 0) → length (sheet_of root library d) ≤ 8 * 1048576
      go (yes e) = rw (eq-eqb d 0 e) a
      go (no e) = rw (ne_eqb d 0 e) b

-- ---- one table after another

-- a table stays where its words do
tabled_on : {sheet w w' : List ℕ} {lo hi hi' h : ℕ} → NodeTabled sheet w lo hi h → hi ≤ hi' → ((k : ℕ) → lo ≤ k → k < hi → get_or w' k 0 ≡ get_or w k 0) → NodeTabled sheet w' lo hi' h
tabled_on {sheet} {w} {w'} {lo} {hi} {hi'} {h} t b same =
    let x : get_or w' h 0 ≡ get_or w h 0 = same h t.from (omega (arith, t.upto)) in
    let y : get_or w' (h + 1) 0 ≡ get_or w (h + 1) 0 = same (h + 1) (omega (arith, t.from)) (omega (arith, t.upto)) in
    record {
      from = t.from;
      upto = omega (arith, y, t.upto);
      tells = rw (x, y) (record {
        fields = t.tells.fields;
        long = t.tells.long;
        sorted = λ i g. same (h + 2 + i) (omega (arith, t.from)) (omega (arith, t.upto)) ∙ t.tells.sorted i g;
        tells = t.tells.tells;
      });
    }

module _ {root library w w' : List ℕ} {at many hi : ℕ} (l : TablesListed root library w at many hi) where
  pub listed_on : ((k : ℕ) → at ≤ k → k < hi → get_or w' k 0 ≡ get_or w k 0) → TablesListed root library w' at many hi
  listed_on same = record {
    upto = l.upto;
    table = λ i h z.
        let e : get_or w' (at + i) 0 ≡ get_or w (at + i) 0 = same (at + i) (omega arith) (omega (arith, l.upto)) in
        rw e (tabled_on (l.table i h (rw e at z)) (omega arith) (λ k a b. same k (omega arith) b));
  }

pub listed_none : (root library w : List ℕ) (at : ℕ) → TablesListed root library w at 0 at
listed_none root library w at = record { upto = omega arith; table = λ i h. absurd (omega arith) }

pub listed_clear : {root library w₀ w : List ℕ} {at many : ℕ} → Cleared at (at + many) (at + many) w₀ w → TablesListed root library w at many (at + many)
listed_clear {at = at} c = record { upto = omega arith; table = λ i h z. absurd (omega (arith, c.zero (at + i) (omega arith) (omega arith))) }

-- behind the list that was cleared
pub grown_all : {root library w₀ w w' : List ℕ} {free at many end next : ℕ} → Cleared at (at + many) (at + many) w₀ w → TablesGrown root library free at many (at + many) end next w w' → TablesGrown root library free at many at end next w₀ w'
grown_all {at = at} {end = end} c g = record {
  listed = g.listed;
  after = omega (arith, g.after);
  upto = g.upto;
  stays = stays_on 0 end c.stays g.stays (omega arith) (omega arith) (omega (arith, g.after, g.upto)) (omega arith);
  between = λ k a b. g.between k a b ∙ c.stays.below k b;
}

-- no table is written, or others behind them
module _ {root library : List ℕ} {free at many place end : ℕ} where
  pub grown_none : {w : List ℕ} → TablesListed root library w at many place → place ≤ end → TablesGrown root library free at many place end place w w
  grown_none {w} l h = record { listed = l; after = omega arith; upto = h; stays = stays w; between = λ k a b. refl }

  pub grown_on : {w₀ w w' : List ℕ} {next next' : ℕ} → TablesGrown root library free at many place end next w₀ w → TablesGrown root library free at many next end next' w w' → TablesGrown root library free at many place end next' w₀ w'
  grown_on a b = record {
    listed = b.listed;
    after = omega (arith, a.after, b.after);
    upto = b.upto;
    stays = stays_on 0 end a.stays b.stays (omega arith) (omega arith) (omega arith) (omega arith);
    between = λ k g h. b.between k g h ∙ a.between k g h;
  }

  -- words past the tables were written in vain
  pub grown_vain : {sheet w w' : List ℕ} {n : ℕ} {x : Maybe ℕ} → TablesListed root library w at many place → place + 2 ≤ end → FieldsListed sheet n (place + 2) end w w' x → TablesGrown root library free at many place end place w w'
  grown_vain l h f = record {
    listed = listed_on l (λ k a b. f.stays.below k (omega arith));
    after = omega arith;
    upto = omega arith;
    stays = stays_wide 0 end f.stays (omega arith) (omega arith);
    between = λ k a b. f.stays.below k (omega (arith, l.upto));
  }

  -- the table of a node: its fields' rows are written, sorted, and told
  module _ {sheet w w₁ p : List ℕ} {n next i : ℕ} (l : TablesListed root library w at many place) (scratch : free ≤ at) (few : i < many) (is_sheet : table_sheet root library i ≡ sheet) (long : end ≤ length w) (f : FieldsListed sheet n (place + 2) end w w₁ (Some next)) (s : Sorted (name_of sheet) (place + 2) (take next w₁) p) (half : (next - (place + 2)) / 2 ≤ free) where
    abbrev list : ℕ
    list = place + 2

    abbrev count : ℕ
    count = next - list

    abbrev w₂ : List ℕ
    w₂ = p ++ drop next w₁

    abbrev w₃ : List ℕ
    w₃ = set (set (set w₂ place n) (place + 1) count) (at + i) place

    low : list ≤ next
    low = f.is.0

    high : next ≤ end
    high = f.is.1

    long₁ : length w₁ ≡ length w
    long₁ = f.stays.long

    front : length (take next w₁) ≡ next
    front = length-take-le next w₁ (omega (arith, long₁, high))

    long_p : length p ≡ next
    long_p = s.long ∙ front

    lent : Outside 0 next w₁ w₂
    lent = stays_front w₁ p next (omega (arith, long₁, high)) long_p

    -- the words before the rows that are no scratch, and those past the end
    before₂ : (k : ℕ) → free ≤ k → k < list → get_or w₂ k 0 ≡ get_or w k 0
    before₂ k a b =
        get_or-append p (drop next w₁) 0 k (omega (arith, long_p, low)) ∙ s.stays k (omega (arith, front, half)) b ∙ get_or-take next w₁ k 0 (omega (arith, low)) ∙ f.stays.below k b

    above₂ : (k : ℕ) → end ≤ k → get_or w₂ k 0 ≡ get_or w k 0
    above₂ k a = lent.above k (omega (arith, high)) ∙ f.stays.above k a

    pub long₂ : length w₂ ≡ length w
    long₂ = lent.long ∙ long₁

    three : (k : ℕ) → (k ≡ place → ⊥) → (k ≡ place + 1 → ⊥) → (k ≡ at + i → ⊥) → get_or w₃ k 0 ≡ get_or w₂ k 0
    three k a b c =
        get_or-set_other (set (set w₂ place n) (place + 1) count) (at + i) k place 0 c ∙ get_or-set_other (set w₂ place n) (place + 1) k count 0 b ∙ get_or-set_other w₂ place k n 0 a

    entry : get_or w₃ (at + i) 0 ≡ place
    entry = get_or-set_same (set (set w₂ place n) (place + 1) count) (at + i) place 0 (omega (arith, length-set w₂ place n, length-set (set w₂ place n) (place + 1) count, long₂, l.upto, low, high))

    node_is : get_or w₃ place 0 ≡ n
    node_is =
        get_or-set_other (set (set w₂ place n) (place + 1) count) (at + i) place place 0 (λ z. omega (arith, l.upto)) ∙ get_or-set_other (set w₂ place n) (place + 1) place count 0 (λ z. omega arith) ∙ get_or-set_same w₂ place n 0 (omega (arith, long₂, low, high))

    count_is : get_or w₃ (place + 1) 0 ≡ count
    count_is =
        get_or-set_other (set (set w₂ place n) (place + 1) count) (at + i) (place + 1) place 0 (λ z. omega (arith, l.upto)) ∙ get_or-set_same (set w₂ place n) (place + 1) count 0 (omega (arith, length-set w₂ place n, long₂, low, high))

    -- the fields' rows as they were written
    abbrev fields : List ℕ
    fields = take count (drop list w₁)

    fields_are : drop list (take next w₁) ≡ fields
    fields_are = sym (part w₁ list next low)

    sorted_at : (j : ℕ) → j < count → get_or w₃ (list + j) 0 ≡ get_or (sort_by (name_of sheet) fields) j 0
    sorted_at j h =
        three (list + j) (λ z. omega arith) (λ z. omega arith) (λ z. omega (arith, l.upto)) ∙ get_or-append p (drop next w₁) 0 (list + j) (omega (arith, long_p, low)) ∙ sym (get_or-drop list p j 0) ∙ ap (λ (t : List ℕ). get_or t j 0) (s.is ∙ ap (sort_by (name_of sheet)) fields_are)

    new : NodeTabled sheet w₃ (at + many) next place
    new = record {
      from = l.upto;
      upto = omega (arith, count_is, low);
      tells = rw (node_is, count_is) (record {
        fields = fields;
        long = length-take-le count (drop list w₁) (omega (arith, length-drop list w₁, long₁, high));
        sorted = sorted_at;
        tells = f.is.2;
      });
    }

    before : (k : ℕ) → free ≤ k → k < place → (k ≡ at + i → ⊥) → get_or w₃ k 0 ≡ get_or w k 0
    before k a b c = three k (λ z. omega arith) (λ z. omega arith) c ∙ before₂ k a (omega arith)

    table' : (j : ℕ) → j < many → Dec (j ≡ i) → 0 < get_or w₃ (at + j) 0 → NodeTabled (table_sheet root library j) w₃ (at + many) next (get_or w₃ (at + j) 0)
    table' j h (yes e) z = rw (e, entry, is_sheet) new
    table' j h (no e) z =
        let y : get_or w₃ (at + j) 0 ≡ get_or w (at + j) 0 = before (at + j) (omega arith) (omega (arith, l.upto)) (λ x. e (omega arith)) in
        rw y (tabled_on (l.table j h (rw y at z)) (omega (arith, low)) (λ k a b. before k (omega arith) b (λ x. omega arith)))

    pub grown_one : TablesGrown root library free at many place end next w w₃
    grown_one = record {
      listed = record { upto = omega (arith, l.upto, low); table = λ j h. table' j h (ℕ_discrete j i) };
      after = omega (arith, low);
      upto = high;
      stays = record {
        long = length-set (set (set w₂ place n) (place + 1) count) (at + i) place ∙ length-set (set w₂ place n) (place + 1) count ∙ length-set w₂ place n ∙ long₂;
        below = λ k h. absurd (omega arith);
        above = λ k h. three k (λ z. omega (arith, low, high)) (λ z. omega (arith, low, high)) (λ z. omega (arith, l.upto, low, high)) ∙ above₂ k h;
      };
      between = λ k a b. before k a (omega (arith, l.upto)) (λ z. omega arith);
    }
