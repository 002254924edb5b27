use mathlib.Core.Path.{subst}
use Rattle.sheet_rows.specs.Rows.{rows}
use Rattle.sheet_walks.specs.Walk.{Below}
use Rattle.sheet_lookup.specs.Lookup.{sheet_of}
use Rattle.sheet_part.proofs.PartLaws.{handed, handed_none}
use Rattle.sheet_part.proofs.proto_rows.Goals as goal

pub returns-in_default : goal.returns-in_default
returns-in_default c = rw c.rows_of.ensures (handed_none (sheet_of c.args.root.now c.args.library.now c.args.doc) _ c.in_default.is c.proto.ensures)

pub proto_at-requires : goal.proto_at-requires
proto_at-requires c = subst (Below (rows (sheet_of c.args.root.now c.args.library.now c.args.doc))) c.in-At.is c.proto.ensures.below

pub returns : goal.returns
returns c = handed (sheet_of c.args.root.now c.args.library.now c.args.doc) _ c.in-At.is c.proto.ensures c.proto_at.ensures
