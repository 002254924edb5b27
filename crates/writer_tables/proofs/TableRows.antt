-- The words of the scopes and of the ledger, entry by entry.
use mathlib.Core.Path.{◌≡◌, refl, ap, ◌∙◌}
use mathlib.Core.List.{List, [], ◌∷◌, ◌++◌}
use Prim.Native.Nat.{ℕ, zero, suc, ◌+◌, ◌*◌, ◌-◌, ◌<◌}
use native.Mathlib.Omega.{arith}
use lib.ListN.{length, get_or, length-append, get_or-append}
use borrow.Author.Tests.{eq-eqb, ne_eqb}
use Rattle.expansion_operation.proofs.Said.{scopes_length_lem}
use Rattle.ast.specs.Lists.{flat}
use Rattle.expansion_definition.specs.Scopes.{Scope, scope_document, scope_entry}
use Rattle.journal_records.specs.Records.{tag_node, tag_scope, cell}
use Rattle.journal_records.specs.Logs.{log_up, only}
use Rattle.journal_lists.specs.Owned.{tagged}
use Rattle.journal_records.proofs.Lists.{up_one, up_count}
use Rattle.journal_reading.specs.Reading.{fixed_word, scope_rec, scopes_of}
use Rattle.journal_reading.proofs.Words.{kept_is}
use Rattle.writer_nodes.specs.Instances.{NodeIn}
use Rattle.writer_tables.specs.Tables.{scope_text, entry_words, BeginsWith}

-- ---- scopes

-- the second word of a scope's entry is its document
scope_document_lem : (L : List Scope) (rest : List ℕ) (s : ℕ) → s < length L → get_or (flat scope_entry L ++ rest) (s * 5 + 1) 0 ≡ scope_document (get_or L s Scope.Root)
scope_document_lem [] rest s lt = absurd (omega arith)
scope_document_lem (Scope.Root ∷ L) rest zero lt = refl
scope_document_lem (Scope.Body p n ∷ L) rest zero lt = refl
scope_document_lem (Scope.Default p k n ∷ L) rest zero lt = refl
scope_document_lem (Scope.Root ∷ L) rest (suc s) lt = let e : suc s * 5 + 1 ≡ suc (suc (suc (suc (suc (s * 5 + 1))))) = omega arith in rw e (scope_document_lem L rest s (omega arith))
scope_document_lem (Scope.Body p n ∷ L) rest (suc s) lt = let e : suc s * 5 + 1 ≡ suc (suc (suc (suc (suc (s * 5 + 1))))) = omega arith in rw e (scope_document_lem L rest s (omega arith))
scope_document_lem (Scope.Default p k n ∷ L) rest (suc s) lt = let e : suc s * 5 + 1 ≡ suc (suc (suc (suc (suc (s * 5 + 1))))) = omega arith in rw e (scope_document_lem L rest s (omega arith))

module _ (w : List ℕ) (r : ℕ) (a : cell w r 0 ≡ tag_scope) where
  word : (j : ℕ) → j < 9 → fixed_word w r j ≡ cell w r j
  word j l = kept_is w r tag_scope j (cell w r j) a l refl

  -- the root file
  pub scope_root : cell w r 1 ≡ 0 → scope_entry (scope_rec w r) ≡ 0 ∷ 0 ∷ 0 ∷ 0 ∷ 0 ∷ []
  scope_root k = rw (word 1 (omega arith), eq-eqb _ _ k)

  -- a body
  pub scope_body : (cell w r 1 ≡ 0 → ⊥) → cell w r 1 ≡ 1 → scope_entry (scope_rec w r) ≡ 1 ∷ cell w r 2 ∷ cell w r 3 ∷ 0 ∷ cell w r 5 ∷ []
  scope_body n k = rw (word 1 (omega arith), word 2 (omega arith), word 3 (omega arith), word 5 (omega arith), ne_eqb _ _ n, eq-eqb _ _ k)

  -- a default
  pub scope_default : (cell w r 1 ≡ 0 → ⊥) → (cell w r 1 ≡ 1 → ⊥) → scope_entry (scope_rec w r) ≡ 2 ∷ cell w r 2 ∷ cell w r 3 ∷ cell w r 4 ∷ cell w r 5 ∷ []
  scope_default n k = rw (word 1 (omega arith), word 2 (omega arith), word 3 (omega arith), word 4 (omega arith), word 5 (omega arith), ne_eqb _ _ n, ne_eqb _ _ k)

-- ---- the ledger

-- what the first records give begins what more give
up_front : {A : Type 0} (g : ℕ → List A) (r n k : ℕ) (d : A) → k < length (log_up g r) → get_or (log_up g (r + n)) k d ≡ get_or (log_up g r) k d
up_front g r zero k d lt = let z : r + 0 ≡ r = omega arith in rw z
up_front {A} g r (suc n) k d lt =
    let z : r + suc n ≡ r + n + 1 = omega arith in
    let l : k < length (log_up g (r + n)) = long n in
    ap (λ (m : ℕ). get_or (log_up g m) k d) z ∙ ap (λ (l : List A). get_or l k d) (up_one g (r + n)) ∙ get_or-append (log_up g (r + n)) (g (r + n)) d k l ∙ up_front g r n k d lt
  where
    long : (m : ℕ) → k < length (log_up g (r + m))
    long zero = let z : r + 0 ≡ r = omega arith in rw z lt
    long (suc m) =
        let z : r + suc m ≡ r + m + 1 = omega arith in
        let h : k < length (log_up g (r + m)) = long m in
        rw (z, up_one g (r + m), length-append (log_up g (r + m)) (g (r + m))) (omega arith)

module _ {w s : List ℕ} {c r : ℕ} (b : BeginsWith (scope_text w r) s) (n : NodeIn w c r) where
  scope_known : cell w r 1 < length (scopes_of w r)
  unfolding scopes_of
  scope_known = omega (arith, (n.legible.fair.each r n.below).scoped n.tag, up_count (tagged w tag_scope) (scope_rec w) r)

  -- the document of its scope stands among the scopes
  pub document_inside : cell w r 1 * 5 + 1 < length s
  document_inside = rw (b.is, length-append (scope_text w r) b.rest) (omega (arith, scope_known, scopes_length_lem (scopes_of w r)))

  -- a node gives its scope, that document, its source id
  pub entry_text_lem : entry_words w c r ≡ cell w r 1 ∷ get_or s (cell w r 1 * 5 + 1) 0 ∷ cell w r 2 ∷ []
  unfolding scopes_of
  entry_text_lem =
      let z : r + (c - r) ≡ c = omega (arith, n.below) in
      let same : get_or (scopes_of w c) (cell w r 1) Scope.Root ≡ get_or (scopes_of w r) (cell w r 1) Scope.Root = rw z at (up_front (only (tagged w tag_scope) (scope_rec w)) r (c - r) (cell w r 1) Scope.Root scope_known) in
      let d : get_or s (cell w r 1 * 5 + 1) 0 ≡ scope_document (get_or (scopes_of w c) (cell w r 1) Scope.Root) =
      ap (λ (l : List ℕ). get_or l (cell w r 1 * 5 + 1) 0) b.is ∙ scope_document_lem (scopes_of w r) b.rest (cell w r 1) scope_known ∙ rw same in
      rw (kept_is w r tag_node 1 (cell w r 1) n.tag (omega arith) refl, kept_is w r tag_node 2 (cell w r 2) n.tag (omega arith) refl, d)
