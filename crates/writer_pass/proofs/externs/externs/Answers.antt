use mathlib.Core.Path.{sym, ◌∙◌}
use native.Mathlib.Omega.{arith}
use Rattle.sheet_rows.specs.Print.{extern_proto_rows}
use Rattle.journal_records.specs.Records.{tag_extern}
use Rattle.journal_reading.specs.Reading.{extern_rec, externs_of}
use Rattle.writer_lists.proofs.Writing.{wrote_none}
use Rattle.writer_pass.proofs.Logs.{of_tag_lem, of_other, log_begin, log_room, log_more, log_skip, log_end}
use Rattle.writer_pass.proofs.ExternRows.{externs_at, extern_at, extern_room, externs_none}
use Rattle.writer_pass.proofs.externs.externs.Goals.{then-word-eq-TAG_EXTERN, else-word-eq-TAG_EXTERN}
use Rattle.writer_pass.proofs.externs.externs.Goals as goal

pub returns-then-some-eq0 : goal.returns-then-some-eq0
returns-then-some-eq0 c = wrote_none (externs_none c.args.root.now c.args.library.now c.args.work.now c.args.c (sym c.requires.some_value ∙ c.if-some-eq0.true))

pub loop-r-init : goal.loop-r-init
unfolding externs_of
loop-r-init c = log_begin extern_proto_rows (externs_at c.args.root.now c.args.library.now c.args.work.now) c.requires.rows_fit

pub declaration-p-requires : goal.declaration-p-requires
declaration-p-requires c = record { rows_fit = rw (c.select-sheet.ensures, c.word-then-word-eq-TAG_EXTERN.ensures, c.word-at.ensures, c.word-taken.ensures) (extern_room c.args.root.now c.args.library.now c.args.work.now c.loop-r.r c.loop-r.p (rw c.word.ensures at c.if-word-eq-TAG_EXTERN.true) (log_room extern_proto_rows (externs_at c.args.root.now c.args.library.now c.args.work.now) c.loop-r.invariant c.loop-r-test.true (of_tag_lem c.args.work.now tag_extern (extern_rec c.args.root.now c.args.library.now c.args.work.now) c.loop-r.r (rw c.word.ensures at c.if-word-eq-TAG_EXTERN.true)))); at_bound = omega arith }

pub loop-r-preserved : goal.loop-r-preserved
loop-r-preserved c = elim c.if-word-eq-TAG_EXTERN.branch [
  | then-word-eq-TAG_EXTERN w ↦ rw (w.out-is, w.p-is) (log_more extern_proto_rows (externs_at c.args.root.now c.args.library.now c.args.work.now) c.loop-r.invariant c.loop-r-test.true (of_tag_lem c.args.work.now tag_extern (extern_rec c.args.root.now c.args.library.now c.args.work.now) c.loop-r.r (rw c.word.ensures at w.if-word-eq-TAG_EXTERN.true)) (rw (extern_at c.args.root.now c.args.library.now c.args.work.now c.loop-r.r (rw c.word.ensures at w.if-word-eq-TAG_EXTERN.true)) (rw (w.select-sheet.ensures, w.word-then-word-eq-TAG_EXTERN.ensures, w.word-at.ensures, w.word-taken.ensures) at w.declaration-p.ensures)))
  | else-word-eq-TAG_EXTERN w ↦ rw (w.out-is, w.p-is) (log_skip extern_proto_rows (externs_at c.args.root.now c.args.library.now c.args.work.now) c.loop-r.invariant c.loop-r-test.true (of_other c.args.work.now tag_extern (extern_rec c.args.root.now c.args.library.now c.args.work.now) c.loop-r.r (rw c.word.ensures at w.if-word-eq-TAG_EXTERN.false)))
]

pub returns : goal.returns
unfolding externs_of
returns c = log_end extern_proto_rows (externs_at c.args.root.now c.args.library.now c.args.work.now) c.loop-r.invariant (omega arith)
