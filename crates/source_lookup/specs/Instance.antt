-- What a node is an instance of (document 01, Modules: Reached; document 02, wish 12), and how a target says it.
use Rattle.std.specs.Prelude.{Option as Maybe, Some, None, ◌≡◌, List, [], ◌∷◌, ℕ, ◌+◌, ◌/◌, ◌%◌, ◌≤◌, ◌<◌, get_or, drop, eqb}
use Rattle.std.proofs.Math.Option.{Option, none, some}
use Rattle.ast.specs.Ast.{NodeOrigin}
use Rattle.ast.specs.Choice.{choose, map_o}
use Rattle.sheet_rows.specs.declared.row.Row.{Row}
use Rattle.sheet_rows.specs.Rows.{rows}
use Rattle.sheet_rows.specs.Parse.{extern_proto_of, files_of}
use Rattle.pick_definition.specs.Picks.{Prototype, Pick, Picked, pick_urls, prototype_of, url_taken}
use Rattle.pick_definition.specs.Mark.{mark_of}
use Rattle.source_lookup.specs.declared.instance.Target.{Target}
use Rattle.source_lookup.specs.declared.instance.Taken.{Taken}
use Rattle.source_directory.specs.Directory.{number_of, Slot, bases_found}

-- a node's origin, from its row's columns
abbrev pub origin_from : ℕ → ℕ → NodeOrigin
origin_from origin id =
    get_or (NodeOrigin.Builtin ∷ NodeOrigin.Proto id ∷ NodeOrigin.ExternProto id ∷ []) origin NodeOrigin.Unknown

-- a target's slot stands for its document
abbrev pub target_of : List ℕ → Maybe Target → Option Prototype
target_of dir None = none
target_of dir (Some t) = some (record { document = number_of dir t.slot; proto = t.proto.0 })

abbrev pub SlotOf : List ℕ → Maybe Target → Type 0
SlotOf dir None = Unit {0}
SlotOf dir (Some t) = Slot dir t.slot

-- x says what was wanted, by a slot that stands for a document
pub record Targeted (dir : List ℕ) (wanted : Option Prototype) (x : Maybe Target) : Type 0 where
  pub is : target_of dir x ≡ wanted
  pub valid : SlotOf dir x

-- and the pick of an extern, by its prototype and its mark
pub record PickedAs (dir : List ℕ) (wanted : Option Pick) (x : Maybe Target) (m : ℕ) : Type 0 where
  pub target : Targeted dir (map_o prototype_of wanted) x
  pub mark : m ≡ mark_of (url_taken wanted)

-- the target and the mark of a pick; no pick has mark 0
abbrev pub target_in : Maybe Taken → Maybe Target
target_in (Some x) = Some x.target
target_in None = None

abbrev pub mark_in : Maybe Taken → ℕ
mark_in (Some x) = x.mark
mark_in None = 0

-- a pick in two words: its mark and its slot, or 0 for a plain node, and the PROTO's id
abbrev pub target_said : ℕ → ℕ → Maybe Target
target_said x y = choose (eqb x 0) None (Some (record { slot = x % 65; proto = record { 0 = y } }))

abbrev pub target_at : List ℕ → ℕ → Maybe Target
target_at w p = target_said (get_or w p 0) (get_or w (p + 1) 0)

abbrev pub mark_at : List ℕ → ℕ → ℕ
mark_at w p = get_or w p 0 / 65

-- a target and a mark that two words can say
abbrev pub Packs : Maybe Target → ℕ → Type 0
Packs None m = m ≡ 0
Packs (Some t) m = (0 < m) × (m ≤ 1048576) × (t.slot < 65)

-- what the urls of the extern at a row of a sheet lead to, by the table of the whole walk
abbrev pub urls_picked : List ℕ → List ℕ → List Row → ℕ → Picked
urls_picked root library sheet row = pick_urls (files_of (rows library)) 0 (extern_proto_of (drop row sheet)).urls (bases_found root library)
