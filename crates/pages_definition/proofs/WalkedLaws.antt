-- The nodes as the walk meets them.
use mathlib.Core.Path.{◌≡◌, refl, sym, ap, ◌∙◌}
use mathlib.Core.List.{List, [], ◌∷◌, map}
use mathlib.Core.Option.{none, some}
use Prim.Native.Nat.{ℕ, suc, ◌+◌, ◌*◌, ◌/◌, ◌≤◌, ◌<◌}
use native.Mathlib.Omega.{arith}
use lib.ListN.{length, drop, get_elem?, length-drop}
use lib.Seq.{sets, drop-drop}
use Rattle.ast.specs.Ast.{Node}
use Rattle.ast.specs.Choice.{map_o}
use Rattle.sheet_rows.specs.declared.row.Row.{Row}
use Rattle.sheet_rows.specs.declared.part.Part.TheVariants.{Nodes}
use Rattle.sheet_rows.specs.Rows.{rows}
use Rattle.sheet_rows.specs.Parse.{elements, document_of, node_of}
use Rattle.sheet_rows.proofs.RowLaws.{rows_count}
use Rattle.sheet_walks.specs.Walk.{Stands}
use Rattle.sheet_walks.proofs.WalkLaws.{rest_drop, at_map, at_drop, past_one, elements_end}
use Rattle.pages_definition.specs.Pages.{node_line, blank_line, line_for, document_nodes}
use Rattle.pages_definition.specs.Steps.{node_starts, NodesFrom, LedgerOfNodes, NodeReady, LinePut}

module _ (sheet : List ℕ) where
  abbrev R : List Row
  R = rows sheet

  pub nodes_are : document_nodes sheet ≡ map node_of (node_starts sheet)
  unfolding document_of
  nodes_are = ap (λ (l : List Row). map node_of (elements Nodes l)) (rest_drop R 0)

  map_length : {A B : Type 0} (f : A → B) (l : List A) → length (map f l) ≡ length l
  map_length f [] = refl
  map_length f (a ∷ l) = ap suc (map_length f l)

  pub nodes_count : length (document_nodes sheet) ≡ length (node_starts sheet)
  nodes_count = rw nodes_are (map_length node_of (node_starts sheet))

  pub from_start : NodesFrom sheet 1 0
  from_start = refl

  -- a node stands there
  module _ (q i : ℕ) (here : NodesFrom sheet q i) {found : ℕ} (s : Stands Nodes R q found) where
    first_is : drop i (node_starts sheet) ≡ drop found R ∷ elements Nodes (drop (suc found) R)
    first_is = sym here ∙ s.here

    pub node_below : i < length (node_starts sheet)
    node_below = omega (arith, length-drop i (node_starts sheet), ap length first_is)

    pub node_is : get_elem? (document_nodes sheet) i ≡ some (node_of (drop found R))
    node_is =
        let e : i + 0 ≡ i = omega arith in
        let at : get_elem? (node_starts sheet) i ≡ some (drop found R) = ap (λ (k : ℕ). get_elem? (node_starts sheet) k) (sym e) ∙ sym (at_drop (node_starts sheet) i 0) ∙ ap (λ (l : List (List Row)). get_elem? l 0) first_is in
        ap (λ (l : List Node). get_elem? l i) nodes_are ∙ at_map node_of (node_starts sheet) i ∙ ap (map_o node_of) at

    pub next_from : NodesFrom sheet (found + 1) (i + 1)
    next_from = past_one Nodes R q found i (node_starts sheet) s here

  -- no node is left
  module _ (q i : ℕ) (here : NodesFrom sheet q i) (gone : elements Nodes (drop q R) ≡ []) where
    none_left : drop i (node_starts sheet) ≡ []
    none_left = sym here ∙ gone

    pub none_is : get_elem? (document_nodes sheet) i ≡ none
    none_is =
        let e : i + 0 ≡ i = omega arith in
        let at : get_elem? (node_starts sheet) i ≡ none = ap (λ (k : ℕ). get_elem? (node_starts sheet) k) (sym e) ∙ sym (at_drop (node_starts sheet) i 0) ∙ ap (λ (l : List (List Row)). get_elem? l 0) none_left in
        ap (λ (l : List Node). get_elem? l i) nodes_are ∙ at_map node_of (node_starts sheet) i ∙ ap (map_o node_of) at

    pub none_from : NodesFrom sheet (length sheet / 8) (i + 1)
    none_from =
        elements_end Nodes R (length sheet / 8) (omega (arith, rows_count sheet)) ∙
        sym (sym (drop-drop 1 i (node_starts sheet)) ∙ ap (λ (l : List (List Row)). drop 1 l) none_left)

  -- ---- a line for a node

  module _ (ledger : List ℕ) (q i at : ℕ) (here : NodesFrom sheet q i) where
    pub node_ready : LedgerOfNodes sheet ledger → {found room : ℕ} → Stands Nodes R q found → at + 73 ≤ room → NodeReady ledger i at room
    node_ready e s h = let b = node_below q i here s in record { entry = omega (arith, e.three); small = omega (arith, e.few); fits = h }

    pub node_put : {found : ℕ} (before : List ℕ) {after : List ℕ} → Stands Nodes R q found → after ≡ sets before at (node_line i (drop (3 * i) ledger) (node_of (drop found R))) → LinePut sheet ledger i at before after (found + 1)
    unfolding line_for
    node_put before s e = record { next = next_from q i here s; written = rw (node_is q i here s) e }

    pub blank_put : (before : List ℕ) {after : List ℕ} → elements Nodes (drop q R) ≡ [] → after ≡ sets before at blank_line → LinePut sheet ledger i at before after (length sheet / 8)
    unfolding line_for
    blank_put before g e = record { next = none_from q i here g; written = rw (none_is q i here g) e }
