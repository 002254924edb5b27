use Rattle.sheet_rows.specs.Rows.{rows}
use Rattle.pick_file.proofs.FileLaws.{named_none, named_at}
use Rattle.pick_file.proofs.ProtoIndex.is_named.Goals as goal

pub returns-in_default : goal.returns-in_default
returns-in_default c = named_none (rows c.args.self.now.index.sheet.now) c.args.self.now.index.from c.args.id.0 c.args.name c.proto_row.ensures c.in_default.is

pub returns : goal.returns
returns c = named_at (rows c.args.self.now.index.sheet.now) c.args.self.now.index.from c.args.id.0 c.args.name c.proto_row.ensures c.in-At.is c.row_at.ensures
