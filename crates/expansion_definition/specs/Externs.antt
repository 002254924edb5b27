-- Externs (document 01, Copy: "An extern is declared once per document and id.").
use Rattle.std.specs.Prelude.{Bool, false, ◌&&◌, List, [], ◌∷◌, ◌++◌, map, ℕ, suc, length, eqb}
use Rattle.std.proofs.Math.Option.{Option, none, some}
use Rattle.ast.specs.Ast.{InterfaceDecl, Url, ExternProtoDecl}
use Rattle.ast.specs.Choice.{choose}
use Rattle.ast.specs.Lookups.{extern_proto_at}
use Rattle.expansion_definition.specs.Input.{Input, docs, used_url}
use Rattle.expansion_definition.specs.State.{ExternEntry, State, ok, Comp, ◌>>=◌, ◌>>◌, ret, fail}
use Rattle.expansion_definition.specs.Charges.{charge, charge_each}
use Rattle.expansion_definition.specs.Values.{Env, src}

unfoldable pub lookup_extern : List ExternEntry → ℕ → ℕ → Option ℕ
lookup_extern [] d x = none
lookup_extern (e ∷ l) d x = choose (eqb e.document d && eqb e.id x) (some e.out) (lookup_extern l d x)

-- "An extern is row 8, interfaces of class 0, urls."
abbrev pub no_value : InterfaceDecl → InterfaceDecl
no_value d = record { access = d.access; field_type = d.field_type; name = d.name; value = none; is = d.is }

-- whether the url of index n is the one that was taken
abbrev pub is_used : Option ℕ → ℕ → Bool
is_used none n = false
is_used (some k) n = eqb k n

-- "In the output, that url row has c = 1 and every other url row c = 0." (document 02, wish 1): n is the index of the first
unfoldable pub marked : Option ℕ → ℕ → List Url → List Url
marked used n [] = []
marked used n (u ∷ l) = record { base = u.base; fragment = u.fragment; used = is_used used n } ∷ marked used (suc n) l

-- what the output declares for an extern
abbrev pub declared : Option ℕ → ExternProtoDecl → ExternProtoDecl
declared used decl = record { name = decl.name; interface = map no_value decl.interface; urls = marked used 0 decl.urls }

abbrev pub push_extern : ℕ → ℕ → ExternProtoDecl → State → State
push_extern d x decl st =
    record {
      world = st.world;
      nodes = st.nodes;
      extern_protos = st.extern_protos ++ (decl ∷ []);
      extern_map = record { document = d; id = x; out = length st.extern_protos } ∷ st.extern_map;
      is_map = st.is_map;
      charges = st.charges;
    }

-- declared already; "4 dangling EXTERNPROTO id"; or declared now, charged: "an extern's row, and each of its interfaces and urls"
unfoldable pub declare : Input → ℕ → ℕ → Option ℕ → Option ExternProtoDecl → Comp ℕ
declare I d x (some n) decl = ret n
declare I d x none none = fail 4 d x
declare I d x none (some decl) = do
  charge I
  charge_each I decl.interface
  charge_each I decl.urls
  λ st. ok (length st.extern_protos) (push_extern d x (declared (used_url I d x) decl) st)

unfoldable pub extern_proto : Input → Env → ℕ → Comp ℕ
extern_proto I env x st = declare I (src env) x (lookup_extern st.extern_map (src env) x) (extern_proto_at (docs I) (src env) x) st
