use native.Mathlib.Omega.{arith}
use Rattle.count_documents.proofs.PlaceLaws.{remembers_more}
use Rattle.count_documents.proofs.Names.find.Goals as goal

pub invariant_of-self : goal.invariant_of-self
invariant_of-self c = record { remembers = remembers_more c.args.self.now.remembers (omega arith) _ c.place_of-place.ensures }
