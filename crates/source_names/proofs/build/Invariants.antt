use Rattle.sheet_rows.specs.declared.part.Part.TheVariants.{Nodes}
use Rattle.sheet_rows.specs.Rows.{rows}
use Rattle.sheet_lookup.specs.Lookup.{sheet_of}
use Rattle.sheet_walks.proofs.OverLaws.{Over}
use Rattle.source_names.specs.Names.{TablesGrown}
use Rattle.source_names.proofs.build.Given as goal

abbrev pub invariant-loop-node : goal.invariant-loop-node
invariant-loop-node l = Over Nodes (rows (sheet_of l.root l.library l.number)) l.node-iterator × TablesGrown l.root l.library l.room.free l.room.at l.room.many l.place l.room.end l.next l.initial.work l.work
