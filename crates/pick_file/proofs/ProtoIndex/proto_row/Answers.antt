use Rattle.sheet_rows.specs.declared.part.Part.TheVariants.{Protos}
use Rattle.sheet_rows.specs.Rows.{rows}
use Rattle.pick_file.proofs.FileLaws.{nth_past}
use native.Mathlib.Omega.{arith}
use Rattle.pick_file.proofs.ProtoIndex.proto_row.Goals as goal

pub returns-then-self-id : goal.returns-then-self-id
returns-then-self-id c =
    let self = c.args.self.now in
    nth_past Protos (rows self.index.sheet.now) self.index.from c.args.id.0 (omega (arith, self.counted))

pub returns : goal.returns
returns c = rw c.args.self.now.of_protos at c.find.ensures
