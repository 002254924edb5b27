use Rattle.std.proofs.Common.{rules, arith, not, length, ◌/◌}
use Rattle.text_lines.specs.Read.{good_line}
use Rattle.text_lines.proofs.ChunkLaws.{parts_come}
use Rattle.text_lines.proofs.ReadLaws.{first_bad_told}
use Rattle.std.proofs.lemmas.Iterator.Search.{position_from_yields_List}
use Rattle.text_lines.proofs.first_bad.Goals as goal

pub returns : goal.returns
returns c =
    let n = length c.args.lines.now / 89 in
    first_bad_told n c.args.lines.now (position_from_yields_List (λ l. not (good_line l)) _ _ c.position.result c.position.ensures.ran (parts_come 89 n c.args.lines.now (omega arith) c.chunks_exact.ensures.rest c.chunks_exact.ensures.size (omega arith) (omega arith)) (λ x b q k. search rules))
