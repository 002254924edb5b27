-- Lookups by id (document 01, Modules: Lookups): node, PROTO and extern ids are three numberings kept apart.
use Rattle.std.specs.Prelude.{List, ◌∷◌, map, ℕ}
use Rattle.std.proofs.Math.Option.{Option}
use Rattle.std.proofs.Math.ListN.{get_elem?}
use Rattle.ast.specs.Ast.{Node, ProtoDecl, ExternProtoDecl, Document, File}
use Rattle.ast.specs.Choice.{and_then}

-- document 0 is the root, document n the n-th file
abbrev pub documents : Document → List File → List Document
documents root library = root ∷ map (λ f. f.document) library

-- Document::node, of a document by its number
unfoldable pub node_at : List Document → ℕ → ℕ → Option Node
node_at docs d i = and_then (get_elem? docs d) (λ x. get_elem? x.nodes i)

-- Document::proto
unfoldable pub proto_at : List Document → ℕ → ℕ → Option ProtoDecl
proto_at docs d i = and_then (get_elem? docs d) (λ x. get_elem? x.protos i)

-- Document::extern_proto
unfoldable pub extern_proto_at : List Document → ℕ → ℕ → Option ExternProtoDecl
extern_proto_at docs d i = and_then (get_elem? docs d) (λ x. get_elem? x.extern_protos i)
