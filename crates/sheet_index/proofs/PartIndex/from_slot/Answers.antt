use Rattle.std.proofs.Common.{◌≡◌, ◌+◌, ◌-◌, ◌*◌, arith}
use Rattle.sheet_rows.specs.Rows.{rows}
use Rattle.sheet_index.proofs.IndexLaws.{nth_shift}
use Rattle.sheet_index.proofs.PartIndex.from_slot.Goals as goal

pub returns : goal.returns
returns c =
    let self = c.args.self.now in
    let j = c.slot_of-j.result in
    let passed : j * self.stride + (c.args.n - j * self.stride) ≡ c.args.n = omega arith in
    nth_shift self.part (rows self.sheet.now) self.from _ (j * self.stride) (c.args.n - j * self.stride) c.args.n c.nth-2.result (self.filled.slot j c.slot_of-j.ensures.0).here passed c.nth-2.ensures
