use Rattle.source_names.proofs.NameLaws.{listed_clear, grown_none, grown_on, grown_all}
use native.Mathlib.Omega.{arith}
use Rattle.source_setup.proofs.listing.of_all.Goals as goal

pub loop-slot-init : goal.loop-slot-init
loop-slot-init c = grown_none (listed_clear c.clear.ensures) c.requires.5

pub of_slot-place-requires : goal.of_slot-place-requires
of_slot-place-requires c = record { root_len_bound = (c.requires.0, c.requires.1, c.requires.2, omega (arith, c.loop-slot-test.true, c.requires.3), c.requires.4, c.loop-slot.invariant.upto, omega (arith, c.loop-slot.invariant.stays.long, c.clear.ensures.stays.long, c.requires.6), c.requires.7); tables_listed = c.loop-slot.invariant.listed }

pub loop-slot-preserved : goal.loop-slot-preserved
loop-slot-preserved c = grown_on c.loop-slot.invariant c.of_slot-place.ensures

pub returns : goal.returns
returns c = grown_all c.clear.ensures c.loop-slot.invariant
