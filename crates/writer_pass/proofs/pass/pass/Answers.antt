use native.Mathlib.Omega.{arith}
use mathlib.Core.Path.{refl}
use Rattle.writer_lists.proofs.Writing.{wrote_from}
use Rattle.writer_pass.proofs.Passing.{pass_begin, node_room, entry_room, scope_room, scopes_begun, pass_node, pass_scope, pass_other, pass_rows, pass_ledger, pass_scopes}
use Rattle.writer_pass.proofs.pass.pass.Goals.{then-tag-eq-TAG_SCOPE, else-tag-eq-TAG_SCOPE}
use Rattle.writer_pass.proofs.pass.pass.Goals as goal

pub loop-r-init : goal.loop-r-init
loop-r-init c = pass_begin c.args.work.now c.args.c c.requires.rows_fit c.requires.tables_room

pub count_node-requires : goal.count_node-requires
count_node-requires c = record { node_in = (record { legible = c.requires.legible; below = c.loop-r-test.true; tag = rw c.word-tag.ensures at c.if-tag-eq-TAG_NODE.true }); r_len_bound = omega (arith, (node_room c.args.work.now c.args.c c.loop-r.invariant c.loop-r-test.true (rw c.word-tag.ensures at c.if-tag-eq-TAG_NODE.true)).few) }

pub overflow_add-end : goal.overflow_add-end
overflow_add-end c = omega (arith, c.count_node.ensures, (node_room c.args.work.now c.args.c c.loop-r.invariant c.loop-r-test.true (rw c.word-tag.ensures at c.if-tag-eq-TAG_NODE.true)).few)

pub node-requires : goal.node-requires
node-requires c = record { node_in = (record { legible = c.requires.legible; below = c.loop-r-test.true; tag = rw c.word-tag.ensures at c.if-tag-eq-TAG_NODE.true }); rows_fit = rw c.count_node.ensures (node_room c.args.work.now c.args.c c.loop-r.invariant c.loop-r-test.true (rw c.word-tag.ensures at c.if-tag-eq-TAG_NODE.true)) }

pub entry-requires : goal.entry-requires
entry-requires c = record { node = (record { legible = c.requires.legible; below = c.loop-r-test.true; tag = rw c.word-tag.ensures at c.if-tag-eq-TAG_NODE.true }); scopes = scopes_begun c.args.work.now c.args.c c.loop-r.invariant; room = entry_room c.args.work.now c.args.c c.loop-r.invariant c.loop-r-test.true (rw c.word-tag.ensures at c.if-tag-eq-TAG_NODE.true) }

pub loop-r-preserved-then-tag-eq-TAG_NODE : goal.loop-r-preserved-then-tag-eq-TAG_NODE
loop-r-preserved-then-tag-eq-TAG_NODE c = pass_node c.args.work.now c.args.c c.loop-r.invariant c.loop-r-test.true (rw c.word-tag.ensures at c.if-tag-eq-TAG_NODE.true) (wrote_from c.count_node.ensures refl c.node.ensures) c.entry.ensures

pub scope-requires : goal.scope-requires
scope-requires c = record { r_in_bounds = (omega (arith, c.requires.legible.records, c.loop-r-test.true), rw c.word-tag.ensures at c.if-tag-eq-TAG_SCOPE.true); p_in_bounds = scope_room c.args.work.now c.args.c c.loop-r.invariant c.loop-r-test.true (rw c.word-tag.ensures at c.if-tag-eq-TAG_SCOPE.true) }

pub loop-r-preserved : goal.loop-r-preserved
loop-r-preserved c = elim c.if-tag-eq-TAG_SCOPE.branch [
  | then-tag-eq-TAG_SCOPE w ↦ rw (w.scopes-is, w.s-is) (pass_scope c.args.work.now c.args.c c.loop-r.invariant c.loop-r-test.true (rw c.word-tag.ensures at c.if-tag-eq-TAG_NODE.false) (rw c.word-tag.ensures at w.if-tag-eq-TAG_SCOPE.true) w.scope.ensures)
  | else-tag-eq-TAG_SCOPE w ↦ rw (w.scopes-is, w.s-is) (pass_other c.args.work.now c.args.c c.loop-r.invariant c.loop-r-test.true (rw c.word-tag.ensures at c.if-tag-eq-TAG_NODE.false) (rw c.word-tag.ensures at w.if-tag-eq-TAG_SCOPE.false))
]

pub returns : goal.returns
returns c = record { wrote = pass_rows c.args.work.now c.args.c c.loop-r.invariant c.loop-r-test.false; pasted = pass_ledger c.args.work.now c.args.c c.loop-r.invariant c.loop-r-test.false; pasted_2 = pass_scopes c.args.work.now c.args.c c.loop-r.invariant c.loop-r-test.false }
