use mathlib.Core.Path.{refl}
use Rattle.source_lookup.proofs.SourcedLaws.{slot_within}
use Rattle.expander_contracts.proofs.OriginLaws.{origin_extern, origin_other}
use Rattle.expander_cycle.proofs.origin.Goals as goal

pub row_of-r-requires : goal.row_of-r-requires
row_of-r-requires c = slot_within c.requires.lent.sourced c.requires.slot

pub extern_proto-requires : goal.extern_proto-requires
extern_proto-requires c = record { standing = c.requires.standing; lent = c.requires.lent; slot = c.requires.slot }

pub returns-then-r-eq-EXTERN_PROTO-clause-copied : goal.returns-then-r-eq-EXTERN_PROTO-clause-copied
returns-then-r-eq-EXTERN_PROTO-clause-copied c = origin_extern _ _ _ _ _ _ _ _ c.requires _ c.row_of-r.ensures c.if-r-eq-EXTERN_PROTO.true c.extern_proto.ensures.declared

pub returns-clause-copied : goal.returns-clause-copied
returns-clause-copied c = origin_other _ _ _ _ _ _ _ _ c.requires _ c.row_of-r.ensures c.if-r-eq-EXTERN_PROTO.false refl
