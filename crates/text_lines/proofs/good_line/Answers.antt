use Rattle.std.proofs.Common.{rules, arith, ◌≡◌, sym, ◌∙◌}
use Rattle.std.specs.List.{list_all}
use Rattle.text_lines.proofs.ReadLaws.{is_field, line_told, line_refused}
use Rattle.text_lines.proofs.ChunkLaws.{parts, parts_come}
use Rattle.std.proofs.lemmas.Iterator.Search.{all_from_yields_List}
use Rattle.text_lines.proofs.good_line.Goals as goal

pub returns-then-all : goal.returns-then-all
returns-then-all c =
    let all : c.all.result ≡ list_all is_field (parts 11 8 c.args.line.now) = all_from_yields_List is_field _ _ c.all.result c.all.ensures.ran (parts_come 11 8 c.args.line.now (omega arith) c.chunks_exact.ensures.rest c.chunks_exact.ensures.size (omega arith) (omega arith)) (λ x b q k. search rules) in
    line_told c.args.line.now (sym c.if-all.true ∙ all)

pub returns-else-all : goal.returns-else-all
returns-else-all c =
    let all : c.all.result ≡ list_all is_field (parts 11 8 c.args.line.now) = all_from_yields_List is_field _ _ c.all.result c.all.ensures.ran (parts_come 11 8 c.args.line.now (omega arith) c.chunks_exact.ensures.rest c.chunks_exact.ensures.size (omega arith) (omega arith)) (λ x b q k. search rules) in
    c.if-all.false ∙ line_refused c.args.line.now (sym c.if-all.false ∙ all)
