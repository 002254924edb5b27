use mathlib.Core.Path.{refl}
use Rattle.pick_table.specs.Table.{bases_of}
use Rattle.pick_table.proofs.TableLaws.{positioned}
use Rattle.pick_table.proofs.PickLaws.{stood, missed, place_known, place_new, place_none}
use Rattle.pick_table.proofs.Walk.place_of.Goals as goal

pub returns-in-Some : goal.returns-in-Some
returns-in-Some c = let T = c.args.self.now.table in (place_known c.requires.0 (stood (bases_of T) c.in-Some.is (positioned (bases_of T) c.args.base c.position-known.result c.position-known.ensures)), c.requires.1, refl)

pub returns-then-place-lt64 : goal.returns-then-place-lt64
returns-then-place-lt64 c =
    let T = c.args.self.now.table in
    (place_new c.requires.0 (missed (bases_of T) c.in_default.is (positioned (bases_of T) c.args.base c.position-known.result c.position-known.ensures)) c.if-place-lt64.true c.library_file-source.ensures c.add.ensures, c.requires.1, refl)

pub returns : goal.returns
returns c = let T = c.args.self.now.table in (place_none c.requires.0 (missed (bases_of T) c.in_default.is (positioned (bases_of T) c.args.base c.position-known.result c.position-known.ensures)) c.if-place-lt64.false, c.requires.1, refl)
