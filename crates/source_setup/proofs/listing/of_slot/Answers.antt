use Rattle.source_names.proofs.NameLaws.{grown_none}
use native.Mathlib.Omega.{arith}
use Rattle.source_setup.proofs.listing.of_slot.Goals as goal

pub returns-in_default : goal.returns-in_default
returns-in_default c = grown_none c.requires.tables_listed c.requires.root_len_bound.5

pub build-requires : goal.build-requires
build-requires c = record { root_len_bound = (c.requires.root_len_bound.0, c.requires.root_len_bound.1, omega arith, c.requires.root_len_bound.4, c.requires.root_len_bound.5, c.requires.root_len_bound.6, c.requires.root_len_bound.7); tables_listed = c.requires.tables_listed }
