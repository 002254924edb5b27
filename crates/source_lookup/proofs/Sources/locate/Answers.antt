use Rattle.source_directory.specs.Directory.{group_number}
use Rattle.source_directory.proofs.GroupLaws.{group_low}
use Rattle.source_lookup.proofs.SourcedLaws.{filled_at}
use native.Mathlib.Omega.{arith}
use Rattle.source_lookup.proofs.Sources.locate.Goals as goal

pub overflow_add-from : goal.overflow_add-from
overflow_add-from c = omega arith

pub invariant_of-index : goal.invariant_of-index
invariant_of-index c = record { filled = rw (c.part.ensures, c.select.ensures, c.entry-entry.ensures) (filled_at c.requires.0 c.args.slot (group_number c.args.group) (group_low c.args.group) c.requires.1 (omega arith)) }

pub returns : goal.returns
returns c = rw (c.part.ensures, c.select.ensures) at c.find.ensures
