use Rattle.count_documents.proofs.PlaceLaws.{remembers_start}
use Rattle.count_documents.proofs.Names.new.Goals as goal

pub invariant_of-result : goal.invariant_of-result
invariant_of-result c = record { remembers = remembers_start c.args.names.now _ c.place_of.ensures }
