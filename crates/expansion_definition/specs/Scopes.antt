-- Scopes (document 01, Modules: Scopes).
use Rattle.std.specs.Prelude.{Bool, true, false, List, [], ◌∷◌, ℕ}
use Rattle.pick_definition.specs.Picks.{Prototype}

-- "Scope 0 is the root file. An instance opens a body scope; each declared default taken opens a default scope."
-- A body: its PROTO, the opening scope. A default: its PROTO, the interface's index, the opening scope.
pub data Scope : Type 0 where
  Root : Scope
  Body : Prototype → ℕ → Scope
  Default : Prototype → ℕ → ℕ → Scope

-- the document that the nodes of a scope live in
abbrev pub scope_document : Scope → ℕ
scope_document Scope.Root = 0
scope_document (Scope.Body p n) = p.document
scope_document (Scope.Default p k n) = p.document

abbrev pub is_body : Scope → Bool
is_body Scope.Root = false
is_body (Scope.Body p n) = true
is_body (Scope.Default p k n) = false

abbrev pub is_default : Scope → Bool
is_default Scope.Root = false
is_default (Scope.Body p n) = false
is_default (Scope.Default p k n) = true

-- "Its entry: kind (0 root, 1 body, 2 default), document, PROTO id, interface index from 0 (defaults only), opening scope; otherwise 0."
abbrev pub scope_entry : Scope → List ℕ
scope_entry Scope.Root = 0 ∷ 0 ∷ 0 ∷ 0 ∷ 0 ∷ []
scope_entry (Scope.Body p n) = 1 ∷ p.document ∷ p.proto ∷ 0 ∷ n ∷ []
scope_entry (Scope.Default p k n) = 2 ∷ p.document ∷ p.proto ∷ k ∷ n ∷ []
