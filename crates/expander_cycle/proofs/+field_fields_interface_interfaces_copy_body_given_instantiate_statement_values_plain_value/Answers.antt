use Rattle.refine_records.specs.Does.{copy_given, number_given, scope_given}
use Rattle.std.specs.Prelude.{Ok, IfOk}
use Rattle.expander_contracts.specs.Contract.{root_place, root_given, Rooted}
use Rattle.refine_records.proofs.Exits.{exit}
use mathlib.Core.Path.{ap, refl, subst, ◌∙◌}
use Rattle.sheet_rows.specs.declared.part.Part.TheVariants.{Ids, Interfaces}
use Rattle.sheet_walks.proofs.WalkLaws.{missing}
use Rattle.sheet_walks.proofs.OverLaws.{over_none, over_at, over_next}
use Rattle.expander_contracts.proofs.Run.{went, here_later}
use Rattle.expander_contracts.proofs.Walks.{rows_few}
use Rattle.expander_contracts.proofs.ValueLaws.{value_payload, value_start, value_end, value_here, value_stop, value_ready, value_halt, value_again}
use Rattle.expander_contracts.proofs.FieldLaws.{field_is, field_stop, field_ready, field_kept_lem, fields_start, fields_end, fields_here, fields_again, fields_stop}
use native.Mathlib.Omega.{arith}
use mathlib.Core.Logic.{inl}
use lib.ListN.{drop, length-drop}
use Rattle.sheet_walks.proofs.ElementsLaws.{elements_few}
use Rattle.std.specs.Iterator.Adapters.{enumerate_source}
use Rattle.refine_records.proofs.Later.{lent_same, lent_more, later_standing}
use Rattle.expander_contracts.proofs.InterfaceLaws.{interface_is_lem, interface_stop, interface_ready, interface_kept, interfaces_start, interfaces_end, interfaces_here, interfaces_again, interfaces_stop}
use Rattle.expander_contracts.proofs.CopyLaws.{copy_known, copy_5, copy_9, copy_plain_lem, copy_instance}
use Rattle.sheet_rows.specs.Rows.{rows}
use Rattle.sheet_rows.proofs.RowLaws.{rows_length}
use Rattle.expander_contracts.proofs.BodyLaws.{none_at, some_at, body_end, body_again, body_stop, node_stop, node_inside, node_ready, node_mapped, root_ready, node_extra, statement_extern, statement_route, statement_nothing}
use Rattle.expander_contracts.proofs.GivenLaws.{given_is, given_stop, given_ready, given_kept, absent, unset, given_none, default_stop, default_here, default_value_stop, default_ready, default_kept}
use Rattle.sheet_part.proofs.PartLaws.{part_body, part_some, part_missing, part_stands}
use Rattle.expander_contracts.proofs.InstanceLaws.{instance_6, proto_row, instance_values, values_here, instance_open, inner_body, instance_body, instance_7, record_standing, record_ready, instance_record_lem}
use Rattle.expander_contracts.proofs.ValuesLaws.{values_start, values_end, values_here as values_here_of_values, values_again, values_stop}
use Rattle.expander_contracts.proofs.PlainLaws.{plain_stop_1, plain_here_1, plain_stop_2, plain_here_2, plain_stop_3, plain_here_3, plain_stop_4, plain_here_4, plain_stop_5, plain_here_5, plain_stop_6, plain_fillable, plain_done, bare_fillable, bare_done}
use Rattle.ast.specs.Ast.{FieldData}
use Rattle.expander_cycle.proofs.+field_fields_interface_interfaces_copy_body_given_instantiate_statement_values_plain_value.Goals as goal
use Rattle.expander_cycle.proofs.+field_fields_interface_interfaces_copy_body_given_instantiate_statement_values_plain_value.Goals.{instances::given-in-At+else-r-ne-IS+else-has_value, instances::given-in_default}

pub contents::field-returns-then-r-eq-IS-clause-added : goal.contents::field-returns-then-r-eq-IS-clause-added
contents::field-returns-then-r-eq-IS-clause-added t c = field_is _ _ _ _ _ _ _ c.args.new.0 c.args.row c.args.depth c.requires.here _ c.row_of-r.ensures _ c.if-r-eq-IS.true c.is_field.ensures.added

pub contents::field-returns-then-r-ne-NODES-clause-added : goal.contents::field-returns-then-r-ne-NODES-clause-added
contents::field-returns-then-r-ne-NODES-clause-added t c = field_kept_lem _ _ _ _ _ _ _ c.args.new.0 c.args.row c.args.depth c.requires.here _ c.row_of-r.ensures _ c.if-r-eq-IS.false (value_payload _ _ _ _ _ _ _ c.args.row c.args.depth c.requires.here c.row_of-r.ensures c.if-r-ne-NODES.true) c.requires.handle_at refl c.add_field.ensures.kept

pub contents::field-overflow_add-row : goal.contents::field-overflow_add-row
contents::field-overflow_add-row t c = omega (arith, c.requires.at_row.below, rows_few c.requires.here.lent c.args.env.slot)

pub contents::field-returns-in_default-clause-added : goal.contents::field-returns-in_default-clause-added
contents::field-returns-in_default-clause-added t c = field_kept_lem _ _ _ _ _ _ _ c.args.new.0 c.args.row c.args.depth c.requires.here _ c.row_of-r.ensures _ c.if-r-eq-IS.false (value_end _ _ _ _ _ _ _ c.args.row c.args.depth c.requires.here c.row_of-r.ensures c.if-r-ne-NODES.false (value_start _ _ _ _ _ _ _ c.args.row c.args.depth c.requires.here c.row_of-r.ensures c.if-r-ne-NODES.false) (missing Ids _ _ (rw (ap rows c.sheet_of-sheet.ensures) at c.seek.ensures) c.in_default.is)) c.requires.handle_at refl c.add_field-in_default.ensures.kept

pub contents::field-returns-in_err-value-clause-added : goal.contents::field-returns-in_err-value-clause-added
contents::field-returns-in_err-value-clause-added t c = rw (exit c.from_residual.ensures.1) (field_stop _ _ _ _ _ _ _ c.args.new.0 c.args.row c.args.depth c.requires.here _ c.row_of-r.ensures _ c.if-r-eq-IS.false (rw c.in_err-value.was at c.value.ensures.copied) refl)

pub contents::field-add_field-requires-2 : goal.contents::field-add_field-requires-2
contents::field-add_field-requires-2 t c = record { standing = (here_later (went c.value.ensures.copied (ap (number_given _) c.in_ok-value.was)) c.requires.here).standing; keepable = field_ready _ _ _ _ _ _ _ c.args.new.0 c.args.row c.args.depth c.requires.here _ c.row_of-r.ensures _ c.if-r-eq-IS.false c.value.ensures.copied c.requires.handle_at (ap (number_given _) c.in_ok-value.was) }

pub contents::field-returns-clause-added : goal.contents::field-returns-clause-added
contents::field-returns-clause-added t c = field_kept_lem _ _ _ _ _ _ _ c.args.new.0 c.args.row c.args.depth c.requires.here _ c.row_of-r.ensures _ c.if-r-eq-IS.false c.value.ensures.copied c.requires.handle_at (ap (number_given _) c.in_ok-value.was) c.add_field-2.ensures.kept

pub contents::fields-overflow_add-row : goal.contents::fields-overflow_add-row
contents::fields-overflow_add-row t c = omega (arith, c.requires.at_row.below, rows_few c.requires.here.lent c.args.env.slot)

pub contents::fields-loop-q-init : goal.contents::fields-loop-q-init
contents::fields-loop-q-init t c =
    let e = c.elements-q-items.ensures in
    let i = c.into_iter-q-iterator.ensures.into_iter_gives in
    (record { part = rw (i, e.part); sheet = rw (i, e.sheet) (ap rows c.sheet_of-sheet.ensures) }, rw (i, e.next) (fields_start _ _ _ _ _ _ _ c.args.new.0 c.args.row c.args.depth c.requires.here), lent_same)

pub contents::fields-returns-clause-copied : goal.contents::fields-returns-clause-copied
contents::fields-returns-clause-copied t c = fields_end _ _ _ _ _ _ _ c.args.new.0 c.args.row c.args.depth c.requires.here c.loop-q.invariant.1 (over_none c.loop-q.invariant.0 c.in-None.ensures.steps.0)

pub contents::fields-field-requires : goal.contents::fields-field-requires
contents::fields-field-requires t c = (omega (arith, c.decreases), (fields_here _ _ _ _ _ _ _ c.args.new.0 c.args.row c.args.depth c.requires.here c.loop-q.invariant.1, (record { below = (over_at c.loop-q.invariant.0 c.in-Some.ensures.steps.0).below }, c.loop-q.invariant.1.handle)))

pub contents::fields-returns-in_err-h-clause-copied : goal.contents::fields-returns-in_err-h-clause-copied
contents::fields-returns-in_err-h-clause-copied t c = rw (exit c.from_residual.ensures.1) (rw c.in_err-h.was at (fields_stop _ _ _ _ _ _ _ c.args.new.0 c.args.row c.args.depth c.requires.here c.loop-q.invariant.1 (over_at c.loop-q.invariant.0 c.in-Some.ensures.steps.0) c.field.ensures.added (ap (number_given _) c.in_err-h.was)))

pub contents::fields-loop-q-preserved : goal.contents::fields-loop-q-preserved
contents::fields-loop-q-preserved t c =
    let s = c.in-Some.ensures.steps in
    (over_next c.loop-q.invariant.0 s, rw s.1 (fields_again _ _ _ _ _ _ _ c.args.new.0 c.args.row c.args.depth c.requires.here c.loop-q.invariant.1 (over_at c.loop-q.invariant.0 s.0) c.field.ensures.added (ap (number_given _) c.in_ok-h.was)), lent_more c.loop-q.invariant.2 c.field.ensures.still_lent)

pub contents::interface-returns-then-r-clause-added : goal.contents::interface-returns-then-r-clause-added
contents::interface-returns-then-r-clause-added t c = interface_is_lem _ _ _ _ _ _ _ c.args.new.0 c.args.row c.args.depth c.requires.here _ c.row_of-r.ensures c.args.h c.if-r.true c.is_interface.ensures.added

pub contents::interface-returns-in_err-value-clause-added : goal.contents::interface-returns-in_err-value-clause-added
contents::interface-returns-in_err-value-clause-added t c = rw (exit c.from_residual.ensures.1) (interface_stop _ _ _ _ _ _ _ c.args.new.0 c.args.row c.args.depth c.requires.here _ c.row_of-r.ensures c.args.h c.if-r.false (rw c.in_err-value.was at c.value.ensures.copied) refl)

pub contents::interface-keep-requires : goal.contents::interface-keep-requires
contents::interface-keep-requires t c = record { standing = later_standing (went c.value.ensures.copied (ap (number_given _) c.in_ok-value.was)) c.requires.here.standing; keepable = rw c.interface.ensures (interface_ready _ _ _ _ _ _ _ c.args.new.0 c.args.row c.args.depth c.requires.here _ c.row_of-r.ensures c.args.h c.if-r.false c.value.ensures.copied c.requires.handle_at (ap (number_given _) c.in_ok-value.was)) }

pub contents::interface-returns-clause-added : goal.contents::interface-returns-clause-added
contents::interface-returns-clause-added t c = interface_kept _ _ _ _ _ _ _ c.args.new.0 c.args.row c.args.depth c.requires.here _ c.row_of-r.ensures c.args.h c.if-r.false c.value.ensures.copied c.requires.handle_at (ap (number_given _) c.in_ok-value.was) (rw c.interface.ensures at c.keep.ensures.kept)

pub contents::interfaces-overflow_add-row : goal.contents::interfaces-overflow_add-row
contents::interfaces-overflow_add-row t c = omega (arith, c.requires.at_row.below, rows_few c.requires.here.lent c.args.env.slot)

pub contents::interfaces-loop-q-init : goal.contents::interfaces-loop-q-init
contents::interfaces-loop-q-init t c =
    let e = c.elements-q-items.ensures in
    let i = c.into_iter-q-iterator.ensures.into_iter_gives in
    (record { part = rw (i, e.part); sheet = rw (i, e.sheet) (ap rows c.sheet_of-sheet.ensures) }, rw (i, e.next) (interfaces_start _ _ _ _ _ _ _ c.args.new.0 c.args.row c.args.depth c.requires.here), lent_same)

pub contents::interfaces-returns-clause-copied : goal.contents::interfaces-returns-clause-copied
contents::interfaces-returns-clause-copied t c = interfaces_end _ _ _ _ _ _ _ c.args.new.0 c.args.row c.args.depth c.requires.here c.loop-q.invariant.1 (over_none c.loop-q.invariant.0 c.in-None.ensures.steps.0)

pub contents::interfaces-interface-requires : goal.contents::interfaces-interface-requires
contents::interfaces-interface-requires t c = (omega (arith, c.decreases), (interfaces_here _ _ _ _ _ _ _ c.args.new.0 c.args.row c.args.depth c.requires.here c.loop-q.invariant.1, (record { below = (over_at c.loop-q.invariant.0 c.in-Some.ensures.steps.0).below }, c.loop-q.invariant.1.handle)))

pub contents::interfaces-returns-in_err-h-clause-copied : goal.contents::interfaces-returns-in_err-h-clause-copied
contents::interfaces-returns-in_err-h-clause-copied t c = rw (exit c.from_residual.ensures.1) (rw c.in_err-h.was at (interfaces_stop _ _ _ _ _ _ _ c.args.new.0 c.args.row c.args.depth c.requires.here c.loop-q.invariant.1 (over_at c.loop-q.invariant.0 c.in-Some.ensures.steps.0) c.interface.ensures.added (ap (number_given _) c.in_err-h.was)))

pub contents::interfaces-loop-q-preserved : goal.contents::interfaces-loop-q-preserved
contents::interfaces-loop-q-preserved t c =
    let s = c.in-Some.ensures.steps in
    (over_next c.loop-q.invariant.0 s, rw s.1 (interfaces_again _ _ _ _ _ _ _ c.args.new.0 c.args.row c.args.depth c.requires.here c.loop-q.invariant.1 (over_at c.loop-q.invariant.0 s.0) c.interface.ensures.added (ap (number_given _) c.in_ok-h.was)), lent_more c.loop-q.invariant.2 c.interface.ensures.still_lent)

pub copy-returns-in-Some-clause-copied : goal.copy-returns-in-Some-clause-copied
copy-returns-in-Some-clause-copied t c = copy_known _ _ _ _ _ _ _ c.args.id.0 c.args.depth c.requires (rw c.lent.ensures at c.look.ensures) c.in-Some.is c.word.ensures c.word-in-Some.ensures

pub copy-returns-in_default-node-clause-copied : goal.copy-returns-in_default-node-clause-copied
copy-returns-in_default-node-clause-copied t c = copy_5 _ _ _ _ _ _ _ c.args.id.0 c.args.depth c.requires (rw c.lent.ensures at c.look.ensures) c.in_default.is c.node.ensures c.in_default-node.is c.number.ensures

pub copy-returns-then-depth-eq0-clause-copied : goal.copy-returns-then-depth-eq0-clause-copied
copy-returns-then-depth-eq0-clause-copied t c = copy_9 _ _ _ _ _ _ _ c.args.id.0 c.args.depth c.requires (rw c.lent.ensures at c.look.ensures) c.in_default.is c.node.ensures c.in-At.is c.if-depth-eq0.true

pub copy-returns-in_default-x-clause-copied : goal.copy-returns-in_default-x-clause-copied
copy-returns-in_default-x-clause-copied t c = copy_plain_lem _ _ _ _ _ _ _ c.args.id.0 c.args.depth c.requires (rw c.lent.ensures at c.look.ensures) c.in_default.is c.node.ensures c.in-At.is c.if-depth-eq0.false _ c.row_of-r.ensures c.target-x.ensures c.in_default-x.is c.plain.ensures.copied

pub copy-returns-clause-copied : goal.copy-returns-clause-copied
copy-returns-clause-copied t c = copy_instance _ _ _ _ _ _ _ c.args.id.0 c.args.depth c.requires (rw c.lent.ensures at c.look.ensures) c.in_default.is c.node.ensures c.in-At.is c.if-depth-eq0.false _ c.row_of-r.ensures c.target-x.ensures c.in-Some-x.is c.instantiate.ensures.instantiated

pub instances::body-returns-clause-copied : goal.instances::body-returns-clause-copied
instances::body-returns-clause-copied t c = body_end _ _ _ _ _ _ _ _ _ _ _ c.requires.in_body c.loop-q.invariant.1 (over_none c.loop-q.invariant.0 c.in-None.ensures.steps.0)

pub instances::body-returns-in_err-root-clause-copied : goal.instances::body-returns-in_err-root-clause-copied
instances::body-returns-in_err-root-clause-copied t c = rw (exit c.from_residual.ensures.1) (rw c.in_err-root.was at (body_stop _ _ _ _ _ _ _ _ _ _ _ c.requires.in_body c.loop-q.invariant.1 (over_at c.loop-q.invariant.0 c.in-Some.ensures.steps.0) c.statement.ensures.copied (ap (root_given _) c.in_err-root.was)))

pub instances::body-loop-q-preserved : goal.instances::body-loop-q-preserved
instances::body-loop-q-preserved t c =
    let s = c.in-Some.ensures.steps in
    (over_next c.loop-q.invariant.0 s, rw s.1 (body_again _ _ _ _ _ _ _ _ _ _ _ c.requires.in_body c.loop-q.invariant.1 (over_at c.loop-q.invariant.0 s.0) c.statement.ensures.copied (ap (root_given _) c.in_ok-root.was)), subst (λ r. IfOk r Rooted) c.in_ok-root.was c.statement.ensures.rooted, lent_more c.loop-q.invariant.3 c.statement.ensures.still_lent)

pub instances::given-returns-in_err-value-clause-stored : goal.instances::given-returns-in_err-value-clause-stored
instances::given-returns-in_err-value-clause-stored t c = rw (exit c.from_residual.ensures.1) (given_stop _ _ _ _ _ _ _ _ _ _ _ _ _ _ c.requires.here _ c.row_of-d.ensures c.last_field.ensures c.in-At.is _ c.row_of-r.ensures c.if-r-ne-IS.true (rw c.in_err-value.was at c.value.ensures.copied) refl)

pub instances::given-store-requires : goal.instances::given-store-requires
instances::given-store-requires t c = let r = given_ready _ _ _ _ _ _ _ _ _ c.args.target.proto.0 _ c.args.k _ _ c.requires.here _ c.row_of-d.ensures c.last_field.ensures c.in-At.is _ c.row_of-r.ensures c.if-r-ne-IS.true c.value.ensures.copied c.requires.handle_at (ap (number_given _) c.in_ok-value.was) in record { standing = r.0; storable = r.1 }

pub instances::given-returns-then-r-ne-IS-clause-stored : goal.instances::given-returns-then-r-ne-IS-clause-stored
instances::given-returns-then-r-ne-IS-clause-stored t c = given_kept _ _ _ _ _ _ _ _ _ _ _ _ _ _ c.requires.here _ c.row_of-d.ensures c.last_field.ensures c.in-At.is _ c.row_of-r.ensures c.if-r-ne-IS.true c.value.ensures.copied c.requires.handle_at (ap (number_given _) c.in_ok-value.was) c.store.ensures.stored

pub instances::given-returns-then-has_value-clause-stored : goal.instances::given-returns-then-has_value-clause-stored
instances::given-returns-then-has_value-clause-stored t c = given_is _ _ _ _ _ _ _ _ _ _ _ _ _ _ c.requires.here _ c.row_of-d.ensures c.last_field.ensures c.in-At.is _ c.row_of-r.ensures (omega arith) (rw (c.lent-in-At.ensures, c.if-has_value.true) at c.has_value.ensures) c.is_given.ensures.stored

pub instances::given-returns-then-d-eq-NONE-clause-stored : goal.instances::given-returns-then-d-eq-NONE-clause-stored
instances::given-returns-then-d-eq-NONE-clause-stored t c = given_none _ _ _ _ _ _ _ _ _ _ _ _ _ _ c.requires.here _ c.row_of-d.ensures c.last_field.ensures (elim c.match-last_field.branch [ instances::given-in-At+else-r-ne-IS+else-has_value w ↦ unset w.in-At.is _ w.row_of-r.ensures (omega arith) (rw (w.lent-in-At.ensures, w.if-has_value.false) at w.has_value.ensures) | instances::given-in_default w ↦ absent w.in_default.is ]) c.if-d-eq-NONE.true c.requires.handle_at

pub instances::given-returns-in_err-opened-clause-stored : goal.instances::given-returns-in_err-opened-clause-stored
instances::given-returns-in_err-opened-clause-stored t c = rw (exit c.from_residual-in_err-opened.ensures.1) (default_stop _ _ _ _ _ _ _ _ _ _ _ _ _ _ c.requires.here _ c.row_of-d.ensures c.last_field.ensures (elim c.match-last_field.branch [ instances::given-in-At+else-r-ne-IS+else-has_value w ↦ unset w.in-At.is _ w.row_of-r.ensures (omega arith) (rw (w.lent-in-At.ensures, w.if-has_value.false) at w.has_value.ensures) | instances::given-in_default w ↦ absent w.in_default.is ]) c.if-d-eq-NONE.false c.number.ensures (rw c.in_err-opened.was at c.open.ensures.opened) refl)

pub instances::given-value-requires-2 : goal.instances::given-value-requires-2
instances::given-value-requires-2 t c = (omega (arith, c.decreases), (default_here _ _ _ _ _ _ _ _ _ _ _ _ c.args.h c.args.depth c.requires.here _ c.row_of-d.ensures c.last_field.ensures (elim c.match-last_field.branch [ instances::given-in-At+else-r-ne-IS+else-has_value w ↦ unset w.in-At.is _ w.row_of-r.ensures (omega arith) (rw (w.lent-in-At.ensures, w.if-has_value.false) at w.has_value.ensures) | instances::given-in_default w ↦ absent w.in_default.is ]) c.if-d-eq-NONE.false c.number.ensures c.open.ensures.opened (ap (scope_given _) c.in_ok-opened.was) refl c.requires.slot, c.requires.at_row_2))

pub instances::given-returns-in_err-value-2-clause-stored : goal.instances::given-returns-in_err-value-2-clause-stored
instances::given-returns-in_err-value-2-clause-stored t c = rw (exit c.from_residual-in_err-value-2.ensures.1) (default_value_stop _ _ _ _ _ _ _ _ _ _ _ _ _ _ c.requires.here _ c.row_of-d.ensures c.last_field.ensures (elim c.match-last_field.branch [ instances::given-in-At+else-r-ne-IS+else-has_value w ↦ unset w.in-At.is _ w.row_of-r.ensures (omega arith) (rw (w.lent-in-At.ensures, w.if-has_value.false) at w.has_value.ensures) | instances::given-in_default w ↦ absent w.in_default.is ]) c.if-d-eq-NONE.false c.number.ensures c.open.ensures.opened (ap (scope_given _) c.in_ok-opened.was) refl c.requires.slot (rw c.in_err-value-2.was at c.value-2.ensures.copied) refl)

pub instances::given-store-requires-2 : goal.instances::given-store-requires-2
instances::given-store-requires-2 t c = let r = default_ready _ _ _ _ _ _ _ _ _ _ _ _ _ _ c.requires.here _ c.row_of-d.ensures c.last_field.ensures (elim c.match-last_field.branch [ instances::given-in-At+else-r-ne-IS+else-has_value w ↦ unset w.in-At.is _ w.row_of-r.ensures (omega arith) (rw (w.lent-in-At.ensures, w.if-has_value.false) at w.has_value.ensures) | instances::given-in_default w ↦ absent w.in_default.is ]) c.if-d-eq-NONE.false c.number.ensures c.open.ensures.opened (ap (scope_given _) c.in_ok-opened.was) refl c.requires.slot c.value-2.ensures.copied c.requires.handle_at (ap (number_given _) c.in_ok-value-2.was) in record { standing = r.0; storable = r.1 }

pub instances::given-returns-clause-stored : goal.instances::given-returns-clause-stored
instances::given-returns-clause-stored t c = default_kept _ _ _ _ _ _ _ _ _ _ _ _ _ _ c.requires.here _ c.row_of-d.ensures c.last_field.ensures (elim c.match-last_field.branch [ instances::given-in-At+else-r-ne-IS+else-has_value w ↦ unset w.in-At.is _ w.row_of-r.ensures (omega arith) (rw (w.lent-in-At.ensures, w.if-has_value.false) at w.has_value.ensures) | instances::given-in_default w ↦ absent w.in_default.is ]) c.if-d-eq-NONE.false c.number.ensures c.open.ensures.opened (ap (scope_given _) c.in_ok-opened.was) refl c.requires.slot c.value-2.ensures.copied c.requires.handle_at (ap (number_given _) c.in_ok-value-2.was) c.store-2.ensures.stored

pub instances::instantiate-returns-in_default-clause-instantiated : goal.instances::instantiate-returns-in_default-clause-instantiated
instances::instantiate-returns-in_default-clause-instantiated t c = instance_6 _ _ _ _ _ _ _ _ c.args.row _ _ _ c.requires.here c.requires.slot c.proto.ensures c.in_default.is c.number-document.ensures

pub instances::instantiate-returns-in_err-vs-clause-instantiated : goal.instances::instantiate-returns-in_err-vs-clause-instantiated
instances::instantiate-returns-in_err-vs-clause-instantiated t c = rw (exit c.from_residual.ensures.1) (instance_values _ _ _ _ _ _ _ _ c.args.row _ _ _ c.requires.here c.requires.slot c.proto.ensures c.in-At.is (rw c.in_err-vs.was at c.values.ensures.stored) refl)

pub instances::instantiate-open-requires : goal.instances::instantiate-open-requires
instances::instantiate-open-requires t c = (values_here _ _ _ _ _ _ _ c.args.id.0 c.args.row _ _ _ c.requires.here c.requires.slot c.proto.ensures c.in-At.is c.values.ensures.stored (ap (number_given _) c.in_ok-vs.was)).standing

pub instances::instantiate-returns-in_err-opened-clause-instantiated : goal.instances::instantiate-returns-in_err-opened-clause-instantiated
instances::instantiate-returns-in_err-opened-clause-instantiated t c = rw (exit c.from_residual-in_err-opened.ensures.1) (instance_open _ _ _ _ _ _ _ _ c.args.row _ _ _ c.requires.here c.requires.slot c.proto.ensures c.in-At.is c.values.ensures.stored (ap (number_given _) c.in_ok-vs.was) c.number-document.ensures (rw c.in_err-opened.was at c.open.ensures.opened) refl)

pub instances::instantiate-body-requires : goal.instances::instantiate-body-requires
instances::instantiate-body-requires t c = (omega (arith, c.decreases), inner_body _ _ _ _ _ _ _ c.args.id.0 c.args.row _ _ _ c.requires.here c.requires.slot c.proto.ensures c.in-At.is c.values.ensures.stored (ap (number_given _) c.in_ok-vs.was) c.number-document.ensures c.open.ensures.opened (ap (scope_given _) c.in_ok-opened.was) _ refl)

pub instances::instantiate-returns-in_err-copied-clause-instantiated : goal.instances::instantiate-returns-in_err-copied-clause-instantiated
instances::instantiate-returns-in_err-copied-clause-instantiated t c = rw (exit c.from_residual-in_err-copied.ensures.1) (instance_body _ _ _ _ _ _ _ _ c.args.row _ _ _ c.requires.here c.requires.slot c.proto.ensures c.in-At.is c.values.ensures.stored (ap (number_given _) c.in_ok-vs.was) c.number-document.ensures c.open.ensures.opened (ap (scope_given _) c.in_ok-opened.was) _ refl (rows c.proto_at-part.result.now) (part_body (proto_row _ _ _ _ _ _ _ c.args.id.0 c.args.row _ _ c.args.depth c.requires.here c.requires.slot c.proto.ensures c.in-At.is).below (rw c.number-document.ensures at c.proto_at-part.ensures)) (rw c.in_err-copied.was at c.body.ensures.copied) refl)

pub instances::instantiate-returns-in_default-2-clause-instantiated : goal.instances::instantiate-returns-in_default-2-clause-instantiated
instances::instantiate-returns-in_default-2-clause-instantiated t c = instance_7 _ _ _ _ _ _ _ _ c.args.row _ _ _ c.requires.here c.requires.slot c.proto.ensures c.in-At.is c.values.ensures.stored (ap (number_given _) c.in_ok-vs.was) c.number-document.ensures c.open.ensures.opened (ap (scope_given _) c.in_ok-opened.was) _ refl (rows c.proto_at-part.result.now) (part_body (proto_row _ _ _ _ _ _ _ c.args.id.0 c.args.row _ _ c.args.depth c.requires.here c.requires.slot c.proto.ensures c.in-At.is).below (rw c.number-document.ensures at c.proto_at-part.ensures)) c.body.ensures.copied (ap (root_given _) c.in_ok-copied.was) (ap root_place c.in_default-2.is)

pub instances::instantiate-record_instance-requires : goal.instances::instantiate-record_instance-requires
instances::instantiate-record_instance-requires t c = record { standing = record_standing _ _ _ _ _ _ _ c.args.id.0 c.args.row _ _ _ c.requires.here c.requires.slot c.proto.ensures c.in-At.is c.values.ensures.stored (ap (number_given _) c.in_ok-vs.was) c.number-document.ensures c.open.ensures.opened (ap (scope_given _) c.in_ok-opened.was) _ refl (rows c.proto_at-part.result.now) (part_body (proto_row _ _ _ _ _ _ _ c.args.id.0 c.args.row _ _ c.args.depth c.requires.here c.requires.slot c.proto.ensures c.in-At.is).below (rw c.number-document.ensures at c.proto_at-part.ensures)) c.body.ensures.copied (ap (root_given _) (c.in_ok-copied.was ∙ ap Ok c.in-Some.is)) (λ q. omega (arith, q, subst (λ r. IfOk r Rooted) (c.in_ok-copied.was ∙ ap Ok c.in-Some.is) c.body.ensures.rooted)); recordable = record_ready _ _ _ _ _ _ _ c.args.id.0 c.args.row _ _ _ c.requires.here c.requires.slot c.proto.ensures c.in-At.is c.values.ensures.stored (ap (number_given _) c.in_ok-vs.was) c.number-document.ensures c.open.ensures.opened (ap (scope_given _) c.in_ok-opened.was) _ refl (rows c.proto_at-part.result.now) (part_body (proto_row _ _ _ _ _ _ _ c.args.id.0 c.args.row _ _ c.args.depth c.requires.here c.requires.slot c.proto.ensures c.in-At.is).below (rw c.number-document.ensures at c.proto_at-part.ensures)) c.body.ensures.copied (ap (root_given _) (c.in_ok-copied.was ∙ ap Ok c.in-Some.is)) (λ q. omega (arith, q, subst (λ r. IfOk r Rooted) (c.in_ok-copied.was ∙ ap Ok c.in-Some.is) c.body.ensures.rooted)) }

pub instances::instantiate-returns-clause-instantiated : goal.instances::instantiate-returns-clause-instantiated
instances::instantiate-returns-clause-instantiated t c = instance_record_lem _ _ _ _ _ _ _ _ c.args.row _ _ _ c.requires.here c.requires.slot c.proto.ensures c.in-At.is c.values.ensures.stored (ap (number_given _) c.in_ok-vs.was) c.number-document.ensures c.open.ensures.opened (ap (scope_given _) c.in_ok-opened.was) _ refl (rows c.proto_at-part.result.now) (part_body (proto_row _ _ _ _ _ _ _ c.args.id.0 c.args.row _ _ c.args.depth c.requires.here c.requires.slot c.proto.ensures c.in-At.is).below (rw c.number-document.ensures at c.proto_at-part.ensures)) c.body.ensures.copied (ap (root_given _) (c.in_ok-copied.was ∙ ap Ok c.in-Some.is)) (λ q. omega (arith, q, subst (λ r. IfOk r Rooted) (c.in_ok-copied.was ∙ ap Ok c.in-Some.is) c.body.ensures.rooted)) c.row_of-name.ensures c.row_of-def.ensures _ c.record_instance.ensures.recorded

pub instances::statement-returns-in_err-copied-in-0-clause-copied : goal.instances::statement-returns-in_err-copied-in-0-clause-copied
instances::statement-returns-in_err-copied-in-0-clause-copied t c = rw (exit c.from_residual.ensures.1) (node_stop _ _ _ _ _ _ _ _ _ (rows c.args.part.now) c.args.row _ _ _ c.requires.in_body _ c.row_at-r.ensures c.in-0.is (rw c.in_err-copied-in-0.was at c.copy.ensures.copied) refl)

pub instances::statement-map-requires : goal.instances::statement-map-requires
instances::statement-map-requires t c = let i = node_inside _ _ _ _ _ _ _ c.args.id.0 _ (rows c.args.part.now) c.args.row _ _ _ c.requires.in_body _ c.row_at-r.ensures c.in-0.is c.copy.ensures.copied (ap (copy_given _) c.in_ok-copied-in-0.was) in record { standing = i.here.standing; env_at = i.env; node_at = node_ready _ _ _ _ _ _ _ c.args.id.0 _ (rows c.args.part.now) c.args.row _ _ _ c.requires.in_body _ c.row_at-r.ensures c.in-0.is c.copy.ensures.copied (ap (copy_given _) c.in_ok-copied-in-0.was) }

pub instances::statement-returns-in_err-mapped-in-0-clause-copied : goal.instances::statement-returns-in_err-mapped-in-0-clause-copied
instances::statement-returns-in_err-mapped-in-0-clause-copied t c = rw (exit c.from_residual-in_err-mapped-in-0.ensures.1) (node_mapped _ _ _ _ _ _ _ _ _ (rows c.args.part.now) c.args.row _ _ _ c.requires.in_body _ c.row_at-r.ensures c.in-0.is c.copy.ensures.copied (ap (copy_given _) c.in_ok-copied-in-0.was) (none_at c.args.root c.is_none.ensures c.if-is_none.true) _ (rw c.in_err-mapped-in-0.was at c.map.ensures.mapped))

pub instances::statement-returns-then-is_none-clause-copied : goal.instances::statement-returns-then-is_none-clause-copied
instances::statement-returns-then-is_none-clause-copied t c = node_mapped _ _ _ _ _ _ _ _ _ (rows c.args.part.now) c.args.row _ _ _ c.requires.in_body _ c.row_at-r.ensures c.in-0.is c.copy.ensures.copied (ap (copy_given _) c.in_ok-copied-in-0.was) (none_at c.args.root c.is_none.ensures c.if-is_none.true) _ (rw c.in_ok-mapped-in-0.was at c.map.ensures.mapped)

pub instances::statement-returns-then-is_none-clause-rooted : goal.instances::statement-returns-then-is_none-clause-rooted
instances::statement-returns-then-is_none-clause-rooted t c = omega (arith, (node_ready _ _ _ _ _ _ _ c.args.id.0 _ (rows c.args.part.now) c.args.row _ _ _ c.requires.in_body _ c.row_at-r.ensures c.in-0.is c.copy.ensures.copied (ap (copy_given _) c.in_ok-copied-in-0.was)).some, (rw c.in_ok-mapped-in-0.was at c.map.ensures.mapped).done.node)

pub instances::statement-own-requires : goal.instances::statement-own-requires
instances::statement-own-requires t c = record { standing = (node_inside _ _ _ _ _ _ _ c.args.id.0 _ (rows c.args.part.now) c.args.row _ _ _ c.requires.in_body _ c.row_at-r.ensures c.in-0.is c.copy.ensures.copied (ap (copy_given _) c.in_ok-copied-in-0.was)).here.standing; ownership = rw c.root.ensures (root_ready _ _ _ _ _ _ _ c.args.id.0 _ (rows c.args.part.now) c.args.row _ _ _ c.requires.in_body _ c.row_at-r.ensures c.in-0.is c.copy.ensures.copied (ap (copy_given _) c.in_ok-copied-in-0.was)) }

pub instances::statement-returns-in_ok-own-in-0-clause-copied : goal.instances::statement-returns-in_ok-own-in-0-clause-copied
instances::statement-returns-in_ok-own-in-0-clause-copied t c = node_extra _ _ _ _ _ _ _ _ _ (rows c.args.part.now) c.args.row _ _ _ c.requires.in_body _ c.row_at-r.ensures c.in-0.is c.copy.ensures.copied (ap (copy_given _) c.in_ok-copied-in-0.was) (some_at c.args.root c.requires.rooted c.is_none.ensures c.if-is_none.false) _ (rw (c.root.ensures, c.in_ok-own-in-0.was) at c.own.ensures.owned)

pub instances::statement-returns-in_ok-extern_proto-in-2-clause-copied : goal.instances::statement-returns-in_ok-extern_proto-in-2-clause-copied
instances::statement-returns-in_ok-extern_proto-in-2-clause-copied t c = statement_extern _ _ _ _ _ _ _ _ _ (rows c.args.part.now) c.args.row _ _ _ c.requires.in_body _ c.row_at-r.ensures c.in-2.is _ (rw c.in_ok-extern_proto-in-2.was at c.extern_proto.ensures.declared)

pub instances::statement-returns-in_ok-own-in-3-clause-copied : goal.instances::statement-returns-in_ok-own-in-3-clause-copied
instances::statement-returns-in_ok-own-in-3-clause-copied t c = statement_route _ _ _ _ _ _ _ _ _ (rows c.args.part.now) c.args.row _ _ _ c.requires.in_body _ c.row_at-r.ensures c.in-3.is _ (rw (c.route.ensures, c.in_ok-own-in-3.was) at c.own-in-3.ensures.owned)

pub instances::statement-returns-in_err-own-in-0-clause-copied : goal.instances::statement-returns-in_err-own-in-0-clause-copied
instances::statement-returns-in_err-own-in-0-clause-copied t c = rw (exit c.from_residual-in_err-own-in-0.ensures.1) (node_extra _ _ _ _ _ _ _ _ _ (rows c.args.part.now) c.args.row _ _ _ c.requires.in_body _ c.row_at-r.ensures c.in-0.is c.copy.ensures.copied (ap (copy_given _) c.in_ok-copied-in-0.was) (some_at c.args.root c.requires.rooted c.is_none.ensures c.if-is_none.false) _ (rw (c.root.ensures, c.in_err-own-in-0.was) at c.own.ensures.owned))

pub instances::statement-returns-in_err-extern_proto-in-2-clause-copied : goal.instances::statement-returns-in_err-extern_proto-in-2-clause-copied
instances::statement-returns-in_err-extern_proto-in-2-clause-copied t c = rw (exit c.from_residual-in_err-extern_proto-in-2.ensures.1) (statement_extern _ _ _ _ _ _ _ _ _ (rows c.args.part.now) c.args.row _ _ _ c.requires.in_body _ c.row_at-r.ensures c.in-2.is _ (rw c.in_err-extern_proto-in-2.was at c.extern_proto.ensures.declared))

pub instances::statement-returns-in_err-own-in-3-clause-copied : goal.instances::statement-returns-in_err-own-in-3-clause-copied
instances::statement-returns-in_err-own-in-3-clause-copied t c = rw (exit c.from_residual-in_err-own-in-3.ensures.1) (statement_route _ _ _ _ _ _ _ _ _ (rows c.args.part.now) c.args.row _ _ _ c.requires.in_body _ c.row_at-r.ensures c.in-3.is _ (rw (c.route.ensures, c.in_err-own-in-3.was) at c.own-in-3.ensures.owned))

pub instances::statement-returns-in_default-clause-copied : goal.instances::statement-returns-in_default-clause-copied
instances::statement-returns-in_default-clause-copied t c = statement_nothing _ _ _ _ _ _ _ _ _ (rows c.args.part.now) c.args.row _ _ _ c.requires.in_body _ c.row_at-r.ensures (λ q. omega arith) (λ q. omega arith) (λ q. omega arith)

pub instances::values-loop-k-init-derived : goal.instances::values-loop-k-init-derived
instances::values-loop-k-init-derived t c =
    let e = c.enumerate-k-items.ensures in
    let w = c.elements.ensures in
    ((tt, tt, inl (rw (c.into_iter-k-iterator.ensures.into_iter_gives, e.source, e.count, w.part, w.sheet, w.next) (omega (arith, c.well_formed, rows_length c.args.part.now, elements_few Interfaces (drop 1 (rows c.args.part.now)), length-drop 1 (rows c.args.part.now))))), tt)

pub instances::values-loop-k-init : goal.instances::values-loop-k-init
instances::values-loop-k-init t c =
    let e = c.enumerate-k-items.ensures in
    let w = c.elements.ensures in
    rw (c.into_iter-k-iterator.ensures.into_iter_gives, e.source, e.count, w.part, w.sheet, w.next) (record { part = refl; sheet = refl }, part_some c.requires.at_row_2.below c.requires.proto_part, values_start _ _ _ _ _ _ _ _ _ _ _ _ c.requires.here, lent_same)

pub instances::values-returns-clause-stored : goal.instances::values-returns-clause-stored
instances::values-returns-clause-stored t c = values_end _ _ _ _ _ _ _ _ _ _ _ _ c.requires.here c.loop-k.invariant.2 (part_missing c.requires.at_row_2.below c.requires.proto_part Interfaces c.requires.proto_part.end.cut.interfaces (enumerate_source c.loop-k.k-iterator).next c.loop-k.invariant.1 (over_none c.loop-k.invariant.0 c.in-None.ensures.steps.0.0))

pub instances::values-overflow_add-decl : goal.instances::values-overflow_add-decl
instances::values-overflow_add-decl t c = omega (arith, (part_stands c.requires.at_row_2.below c.requires.proto_part Interfaces c.requires.proto_part.end.cut.interfaces (enumerate_source c.loop-k.k-iterator).next (over_at c.loop-k.invariant.0 c.in-Some.ensures.steps.0.0)).below, rows_few c.requires.here.lent c.args.target.slot)

pub instances::values-given-requires : goal.instances::values-given-requires
instances::values-given-requires t c = (omega (arith, c.decreases), (values_here_of_values _ _ _ _ _ _ _ _ _ _ _ _ c.requires.here c.loop-k.invariant.2, (c.requires.at_row, (c.requires.slot, (record { below = (part_stands c.requires.at_row_2.below c.requires.proto_part Interfaces c.requires.proto_part.end.cut.interfaces (enumerate_source c.loop-k.k-iterator).next (over_at c.loop-k.invariant.0 c.in-Some.ensures.steps.0.0)).below }, c.loop-k.invariant.2.handle)))))

pub instances::values-returns-in_err-h-clause-stored : goal.instances::values-returns-in_err-h-clause-stored
instances::values-returns-in_err-h-clause-stored t c = rw (exit c.from_residual.ensures.1) (rw c.in_err-h.was at (values_stop _ _ _ _ _ _ _ _ _ _ _ _ c.requires.here c.loop-k.invariant.2 (part_stands c.requires.at_row_2.below c.requires.proto_part Interfaces c.requires.proto_part.end.cut.interfaces (enumerate_source c.loop-k.k-iterator).next (over_at c.loop-k.invariant.0 c.in-Some.ensures.steps.0.0)) (rw c.in-Some.ensures.steps.1 at c.given.ensures.stored) (ap (number_given _) c.in_err-h.was)))

pub instances::values-overflow_cast-k : goal.instances::values-overflow_cast-k
instances::values-overflow_cast-k t c = omega (arith, c.in-Some.ensures.steps.1, c.loop-k.invariant.2.few, (part_stands c.requires.at_row_2.below c.requires.proto_part Interfaces c.requires.proto_part.end.cut.interfaces (enumerate_source c.loop-k.k-iterator).next (over_at c.loop-k.invariant.0 c.in-Some.ensures.steps.0.0)).from, (part_stands c.requires.at_row_2.below c.requires.proto_part Interfaces c.requires.proto_part.end.cut.interfaces (enumerate_source c.loop-k.k-iterator).next (over_at c.loop-k.invariant.0 c.in-Some.ensures.steps.0.0)).below, rows_few c.requires.here.lent c.args.target.slot)

pub instances::values-loop-k-preserved : goal.instances::values-loop-k-preserved
instances::values-loop-k-preserved t c =
    let s = c.in-Some.ensures.steps in
    let q = over_at c.loop-k.invariant.0 s.0.0 in
    (over_next c.loop-k.invariant.0 s.0, omega (arith, s.0.1, q.below), rw s.2 (values_again _ _ _ _ _ _ _ _ _ _ _ _ c.requires.here c.loop-k.invariant.2 (part_stands c.requires.at_row_2.below c.requires.proto_part Interfaces c.requires.proto_part.end.cut.interfaces (enumerate_source c.loop-k.k-iterator).next q) (rw s.1 at c.given.ensures.stored) (ap (number_given _) c.in_ok-h.was) (omega (arith, s.0.1))), lent_more c.loop-k.invariant.3 c.given.ensures.still_lent)

pub plain-returns-in_err-new-clause-copied : goal.plain-returns-in_err-new-clause-copied
plain-returns-in_err-new-clause-copied t c = rw (exit c.from_residual.ensures.1) (rw c.in_err-new.was at (plain_stop_1 _ _ _ _ _ _ _ c.args.id.0 c.args.row c.args.depth c.requires.here c.reserve.ensures.reserved (ap (copy_given _) c.in_err-new.was)))

pub plain-origin-requires : goal.plain-origin-requires
plain-origin-requires t c = plain_here_1 _ _ _ _ _ _ _ c.args.id.0 c.args.row c.args.depth c.requires.here c.reserve.ensures.reserved (ap (copy_given _) c.in_ok-new.was)

pub plain-returns-in_err-from-clause-copied : goal.plain-returns-in_err-from-clause-copied
plain-returns-in_err-from-clause-copied t c = rw (exit c.from_residual-in_err-from.ensures.1) (rw c.in_err-from.was at (plain_stop_2 _ _ _ _ _ _ _ c.args.id.0 c.args.row c.args.depth c.requires.here c.reserve.ensures.reserved (ap (copy_given _) c.in_ok-new.was) c.origin.ensures.copied (ap (number_given _) c.in_err-from.was)))

pub plain-fields-requires : goal.plain-fields-requires
plain-fields-requires t c = (omega (arith, c.decreases), (plain_here_2 _ _ _ _ _ _ _ c.args.id.0 c.args.row c.args.depth c.requires.here c.reserve.ensures.reserved (ap (copy_given _) c.in_ok-new.was) c.origin.ensures.copied (ap (number_given _) c.in_ok-from.was), c.requires.at_row))

pub plain-returns-in_err-fs-clause-copied : goal.plain-returns-in_err-fs-clause-copied
plain-returns-in_err-fs-clause-copied t c = rw (exit c.from_residual-in_err-fs.ensures.1) (rw c.in_err-fs.was at (plain_stop_3 _ _ _ _ _ _ _ c.args.id.0 c.args.row c.args.depth c.requires.here c.reserve.ensures.reserved (ap (copy_given _) c.in_ok-new.was) c.origin.ensures.copied (ap (number_given _) c.in_ok-from.was) c.fields.ensures.copied (ap (number_given _) c.in_err-fs.was)))

pub plain-overflow_add-row : goal.plain-overflow_add-row
plain-overflow_add-row t c = omega (arith, c.requires.at_row.below, rows_few c.requires.here.lent c.args.env.slot)

pub plain-fill-requires : goal.plain-fill-requires
plain-fill-requires t c = bare_fillable _ _ _ _ _ _ _ c.args.id.0 c.args.row c.args.depth c.requires.here c.reserve.ensures.reserved (ap (copy_given _) c.in_ok-new.was) c.origin.ensures.copied (ap (number_given _) c.in_ok-from.was) c.fields.ensures.copied (ap (number_given _) c.in_ok-fs.was) (c.bare.ensures.yes c.if-bare.true)

pub plain-returns-then-bare-clause-copied : goal.plain-returns-then-bare-clause-copied
plain-returns-then-bare-clause-copied t c = bare_done _ _ _ _ _ _ _ c.args.id.0 c.args.row c.args.depth c.requires.here c.reserve.ensures.reserved (ap (copy_given _) c.in_ok-new.was) c.origin.ensures.copied (ap (number_given _) c.in_ok-from.was) c.fields.ensures.copied (ap (number_given _) c.in_ok-fs.was) (c.bare.ensures.yes c.if-bare.true) _ c.row_of-r.ensures c.fill.auto.work c.fill.ensures

pub plain-interfaces-requires : goal.plain-interfaces-requires
plain-interfaces-requires t c = (omega (arith, c.decreases), (plain_here_3 _ _ _ _ _ _ _ c.args.id.0 c.args.row c.args.depth c.requires.here c.reserve.ensures.reserved (ap (copy_given _) c.in_ok-new.was) c.origin.ensures.copied (ap (number_given _) c.in_ok-from.was) c.fields.ensures.copied (ap (number_given _) c.in_ok-fs.was), c.requires.at_row))

pub plain-returns-in_err-is-clause-copied : goal.plain-returns-in_err-is-clause-copied
plain-returns-in_err-is-clause-copied t c = rw (exit c.from_residual-in_err-is.ensures.1) (rw c.in_err-is.was at (plain_stop_4 _ _ _ _ _ _ _ c.args.id.0 c.args.row c.args.depth c.requires.here c.reserve.ensures.reserved (ap (copy_given _) c.in_ok-new.was) c.origin.ensures.copied (ap (number_given _) c.in_ok-from.was) c.fields.ensures.copied (ap (number_given _) c.in_ok-fs.was) c.interfaces.ensures.copied (ap (number_given _) c.in_err-is.was)))

pub plain-statements-requires : goal.plain-statements-requires
plain-statements-requires t c = let h = plain_here_4 _ _ _ _ _ _ _ c.args.id.0 c.args.row c.args.depth c.requires.here c.reserve.ensures.reserved (ap (copy_given _) c.in_ok-new.was) c.origin.ensures.copied (ap (number_given _) c.in_ok-from.was) c.fields.ensures.copied (ap (number_given _) c.in_ok-fs.was) c.interfaces.ensures.copied (ap (number_given _) c.in_ok-is.was) in record { standing = h.standing; env_at = h.env; lent = h.lent; slot = h.slot; row_in_bounds = c.requires.at_row.below }

pub plain-returns-in_err-ss-clause-copied : goal.plain-returns-in_err-ss-clause-copied
plain-returns-in_err-ss-clause-copied t c = rw (exit c.from_residual-in_err-ss.ensures.1) (rw c.in_err-ss.was at (plain_stop_5 _ _ _ _ _ _ _ c.args.id.0 c.args.row c.args.depth c.requires.here c.reserve.ensures.reserved (ap (copy_given _) c.in_ok-new.was) c.origin.ensures.copied (ap (number_given _) c.in_ok-from.was) c.fields.ensures.copied (ap (number_given _) c.in_ok-fs.was) c.interfaces.ensures.copied (ap (number_given _) c.in_ok-is.was) c.statements.ensures.copied (ap (number_given _) c.in_err-ss.was)))

pub plain-order-requires : goal.plain-order-requires
plain-order-requires t c = let h = plain_here_5 _ _ _ _ _ _ _ c.args.id.0 c.args.row c.args.depth c.requires.here c.reserve.ensures.reserved (ap (copy_given _) c.in_ok-new.was) c.origin.ensures.copied (ap (number_given _) c.in_ok-from.was) c.fields.ensures.copied (ap (number_given _) c.in_ok-fs.was) c.interfaces.ensures.copied (ap (number_given _) c.in_ok-is.was) c.statements.ensures.copied (ap (number_given _) c.in_ok-ss.was) in record { standing = h.standing; lent = h.lent; slot = h.slot; env_at = h.env; row_in_bounds = c.requires.at_row.below }

pub plain-returns-in_err-os-clause-copied : goal.plain-returns-in_err-os-clause-copied
plain-returns-in_err-os-clause-copied t c = rw (exit c.from_residual-in_err-os.ensures.1) (rw c.in_err-os.was at (plain_stop_6 _ _ _ _ _ _ _ c.args.id.0 c.args.row c.args.depth c.requires.here c.reserve.ensures.reserved (ap (copy_given _) c.in_ok-new.was) c.origin.ensures.copied (ap (number_given _) c.in_ok-from.was) c.fields.ensures.copied (ap (number_given _) c.in_ok-fs.was) c.interfaces.ensures.copied (ap (number_given _) c.in_ok-is.was) c.statements.ensures.copied (ap (number_given _) c.in_ok-ss.was) c.order.ensures.ordered (ap (number_given _) c.in_err-os.was)))

pub plain-fill-requires-2 : goal.plain-fill-requires-2
plain-fill-requires-2 t c = plain_fillable _ _ _ _ _ _ _ c.args.id.0 c.args.row c.args.depth c.requires.here c.reserve.ensures.reserved (ap (copy_given _) c.in_ok-new.was) c.origin.ensures.copied (ap (number_given _) c.in_ok-from.was) c.fields.ensures.copied (ap (number_given _) c.in_ok-fs.was) c.interfaces.ensures.copied (ap (number_given _) c.in_ok-is.was) c.statements.ensures.copied (ap (number_given _) c.in_ok-ss.was) c.order.ensures.ordered (ap (number_given _) c.in_ok-os.was)

pub plain-returns-clause-copied : goal.plain-returns-clause-copied
plain-returns-clause-copied t c = plain_done _ _ _ _ _ _ _ c.args.id.0 c.args.row c.args.depth c.requires.here c.reserve.ensures.reserved (ap (copy_given _) c.in_ok-new.was) c.origin.ensures.copied (ap (number_given _) c.in_ok-from.was) c.fields.ensures.copied (ap (number_given _) c.in_ok-fs.was) c.interfaces.ensures.copied (ap (number_given _) c.in_ok-is.was) c.statements.ensures.copied (ap (number_given _) c.in_ok-ss.was) c.order.ensures.ordered (ap (number_given _) c.in_ok-os.was) _ c.row_of-r.ensures c.fill-2.auto.work c.fill-2.ensures

pub values::value-returns-then-r-ne-NODES-clause-copied : goal.values::value-returns-then-r-ne-NODES-clause-copied
values::value-returns-then-r-ne-NODES-clause-copied t c = value_payload _ _ _ _ _ _ _ c.args.row c.args.depth c.requires.here c.row_of-r.ensures c.if-r-ne-NODES.true

pub values::value-overflow_add-row : goal.values::value-overflow_add-row
values::value-overflow_add-row t c = omega (arith, c.requires.at_row.below, rows_few c.requires.here.lent c.args.env.slot)

pub values::value-loop-q-init : goal.values::value-loop-q-init
values::value-loop-q-init t c =
    let e = c.elements-q-items.ensures in
    let i = c.into_iter-q-iterator.ensures.into_iter_gives in
    (record { part = rw (i, e.part); sheet = rw (i, e.sheet) (ap rows c.sheet_of-sheet.ensures) }, rw (i, e.next) (value_start _ _ _ _ _ _ _ c.args.row c.args.depth c.requires.here c.row_of-r.ensures c.if-r-ne-NODES.false), lent_same)

pub values::value-returns-clause-copied : goal.values::value-returns-clause-copied
values::value-returns-clause-copied t c = value_end _ _ _ _ _ _ _ c.args.row c.args.depth c.requires.here c.row_of-r.ensures c.if-r-ne-NODES.false c.loop-q.invariant.1 (over_none c.loop-q.invariant.0 c.in-None.ensures.steps.0)

pub values::value-copy-requires : goal.values::value-copy-requires
values::value-copy-requires t c = (omega (arith, c.decreases), value_here _ _ _ _ _ _ _ c.args.row c.args.depth c.requires.here c.loop-q.invariant.1)

pub values::value-returns-in_err-copied-clause-copied : goal.values::value-returns-in_err-copied-clause-copied
values::value-returns-in_err-copied-clause-copied t c = rw (exit c.from_residual.ensures.1) (rw c.in_err-copied.was at (value_stop _ _ _ _ _ _ _ c.args.row c.args.depth c.requires.here c.loop-q.invariant.1 (over_at c.loop-q.invariant.0 c.in-Some.ensures.steps.0) (rw (ap rows c.sheet_of-sheet.ensures) at c.row_at-i.ensures) c.copy.ensures.copied (ap (copy_given _) c.in_err-copied.was) (record { ty = 0; «data» = FieldData.Payload 0 })))

pub values::value-keep-requires : goal.values::value-keep-requires
values::value-keep-requires t c = record { standing = (here_later (went c.copy.ensures.copied (ap (copy_given _) c.in_ok-copied.was)) (value_here _ _ _ _ _ _ _ c.args.row c.args.depth c.requires.here c.loop-q.invariant.1)).standing; keepable = rw c.id.ensures (value_ready _ _ _ _ _ _ _ c.args.row c.args.depth c.requires.here c.loop-q.invariant.1 (over_at c.loop-q.invariant.0 c.in-Some.ensures.steps.0) (rw (ap rows c.sheet_of-sheet.ensures) at c.row_at-i.ensures) c.copy.ensures.copied (ap (copy_given _) c.in_ok-copied.was)) }

pub values::value-returns-in_err-h-clause-copied : goal.values::value-returns-in_err-h-clause-copied
values::value-returns-in_err-h-clause-copied t c = rw (exit c.from_residual-in_err-h.ensures.1) (rw c.in_err-h.was at (value_halt _ _ _ _ _ _ _ c.args.row c.args.depth c.requires.here c.loop-q.invariant.1 (over_at c.loop-q.invariant.0 c.in-Some.ensures.steps.0) (rw (ap rows c.sheet_of-sheet.ensures) at c.row_at-i.ensures) c.copy.ensures.copied (ap (copy_given _) c.in_ok-copied.was) (rw c.id.ensures at c.keep.ensures.kept) (ap (number_given _) c.in_err-h.was) (record { ty = 0; «data» = FieldData.Payload 0 })))

pub values::value-loop-q-preserved : goal.values::value-loop-q-preserved
values::value-loop-q-preserved t c =
    let s = c.in-Some.ensures.steps in
    (over_next c.loop-q.invariant.0 s, rw s.1 (value_again _ _ _ _ _ _ _ c.args.row c.args.depth c.requires.here c.loop-q.invariant.1 (over_at c.loop-q.invariant.0 s.0) (rw (ap rows c.sheet_of-sheet.ensures) at c.row_at-i.ensures) c.copy.ensures.copied (ap (copy_given _) c.in_ok-copied.was) (rw c.id.ensures at c.keep.ensures.kept) (ap (number_given _) c.in_ok-h.was)), lent_more (lent_more c.loop-q.invariant.2 c.copy.ensures.still_lent) c.keep.ensures.still_lent)
