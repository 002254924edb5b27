use Prim.Native.Nat.{◌+◌, ◌*◌, ◌≤◌}
use lib.ListN.{length}
use Rattle.std.specs.Iterator.Adapters.{enumerate_source, enumerate_count}
use Rattle.sheet_rows.specs.declared.part.Part.TheVariants.{Ids, Fields, Interfaces, Statements}
use Rattle.sheet_walks.proofs.OverLaws.{Over}
use Rattle.refine_records.specs.Sound.{StillLent}
use Rattle.expander_contracts.proofs.ValueLaws.{Valuing}
use Rattle.expander_contracts.proofs.FieldLaws.{Fielding}
use Rattle.expander_parts.specs.Contract.{rows_of}
use Rattle.expander_contracts.proofs.InterfaceLaws.{Interfacing}
use Rattle.sheet_rows.specs.Rows.{rows}
use Rattle.expander_contracts.specs.Contract.{root_id, root_place, Rooted}
use Rattle.expander_contracts.proofs.BodyLaws.{Bodying}
use Rattle.expander_contracts.proofs.ValuesLaws.{Storing}
use Rattle.expander_cycle.proofs.+field_fields_interface_interfaces_copy_body_given_instantiate_statement_values_plain_value.Given as goal

abbrev pub decreases-contents::field : goal.decreases-contents::field
decreases-contents::field l = l.depth * 16 + 2

abbrev pub decreases-contents::fields : goal.decreases-contents::fields
decreases-contents::fields l = l.depth * 16 + 3

abbrev pub decreases-contents::interface : goal.decreases-contents::interface
decreases-contents::interface l = l.depth * 16 + 2

abbrev pub decreases-contents::interfaces : goal.decreases-contents::interfaces
decreases-contents::interfaces l = l.depth * 16 + 3

abbrev pub decreases-copy : goal.decreases-copy
decreases-copy l = l.depth * 16

abbrev pub decreases-instances::body : goal.decreases-instances::body
decreases-instances::body l = l.depth * 16 + 2

abbrev pub decreases-instances::given : goal.decreases-instances::given
decreases-instances::given l = l.depth * 16 + 2

abbrev pub decreases-instances::instantiate : goal.decreases-instances::instantiate
decreases-instances::instantiate l = l.depth * 16 + 4

abbrev pub decreases-instances::statement : goal.decreases-instances::statement
decreases-instances::statement l = l.depth * 16 + 1

abbrev pub decreases-instances::values : goal.decreases-instances::values
decreases-instances::values l = l.depth * 16 + 3

abbrev pub decreases-plain : goal.decreases-plain
decreases-plain l = l.depth * 16 + 4

abbrev pub decreases-values::value : goal.decreases-values::value
decreases-values::value l = l.depth * 16 + 1

abbrev pub invariant-contents::fields-loop-q : goal.invariant-contents::fields-loop-q
invariant-contents::fields-loop-q l = Over Fields (rows_of l.sources.root.now l.sources.library.now l.sources.dir.now l.env.slot) l.q-iterator × Fielding l.sources.root.now l.sources.library.now l.sources.dir.now l.initial.journal.work.now l.lim l.initial.journal.counts l.env l.new.0 l.row l.depth l.journal.work.now l.journal.counts l.h l.q-iterator.next × StillLent l.initial.journal l.journal

abbrev pub invariant-contents::interfaces-loop-q : goal.invariant-contents::interfaces-loop-q
invariant-contents::interfaces-loop-q l = Over Interfaces (rows_of l.sources.root.now l.sources.library.now l.sources.dir.now l.env.slot) l.q-iterator × Interfacing l.sources.root.now l.sources.library.now l.sources.dir.now l.initial.journal.work.now l.lim l.initial.journal.counts l.env l.new.0 l.row l.depth l.journal.work.now l.journal.counts l.h l.q-iterator.next × StillLent l.initial.journal l.journal

abbrev pub invariant-instances::body-loop-q : goal.invariant-instances::body-loop-q
invariant-instances::body-loop-q l = Over Statements (rows l.part) l.q-iterator × Bodying l.sources.root.now l.sources.library.now l.sources.dir.now l.initial.journal.work.now l.lim l.initial.journal.counts l.env l.id.0 l.inner (rows l.part) l.depth l.journal.work.now l.journal.counts (root_id l.root) (root_place l.root) l.q-iterator.next × Rooted l.root × StillLent l.initial.journal l.journal

abbrev pub invariant-instances::values-loop-k : goal.invariant-instances::values-loop-k
invariant-instances::values-loop-k l =
    Over Interfaces (rows l.part) (enumerate_source l.k-iterator) × ((enumerate_source l.k-iterator).next ≤ length (rows l.part)) × Storing l.sources.root.now l.sources.library.now l.sources.dir.now l.initial.journal.work.now l.lim l.initial.journal.counts l.env l.row l.target.slot l.target.proto.0 l.decl l.depth l.journal.work.now l.journal.counts l.h (l.decl + (enumerate_source l.k-iterator).next) (enumerate_count l.k-iterator) × StillLent l.initial.journal l.journal

abbrev pub invariant-values::value-loop-q : goal.invariant-values::value-loop-q
invariant-values::value-loop-q l = Over Ids (rows_of l.sources.root.now l.sources.library.now l.sources.dir.now l.env.slot) l.q-iterator × Valuing l.sources.root.now l.sources.library.now l.sources.dir.now l.initial.journal.work.now l.lim l.initial.journal.counts l.env l.row l.depth l.journal.work.now l.journal.counts l.h l.q-iterator.next × StillLent l.initial.journal l.journal
