use mathlib.Core.Path.{refl}
use Rattle.refine_nodes.proofs.Reserving.{reserve_most, reserve_full, reserve_enter, reserve_done}
use Rattle.refine_nodes.proofs.reserve.Goals as goal

pub returns-then-lim-new-clause-reserved : goal.returns-then-lim-new-clause-reserved
returns-then-lim-new-clause-reserved c = reserve_most _ _ _ _ _ c.requires.standing c.requires.env_at _ refl c.if-lim-new.true

pub returns-then-lim-c-lt2-clause-reserved : goal.returns-then-lim-c-lt2-clause-reserved
returns-then-lim-c-lt2-clause-reserved c = reserve_full _ _ _ _ _ c.requires.standing c.requires.env_at _ refl c.if-lim-new.false c.if-lim-c-lt2.true _ refl

pub enter-requires : goal.enter-requires
enter-requires c = rw (c.heads.ensures.at, c.heads.ensures.slots, c.map_entry.ensures) (reserve_enter _ _ _ c.args.env _ c.requires.standing c.requires.env_at _ refl c.if-lim-new.false c.if-lim-c-lt2.false _ c.push.auto.work (rw c.reserved.ensures at c.push.ensures))

pub returns-clause-reserved : goal.returns-clause-reserved
returns-clause-reserved c = reserve_done _ _ _ _ _ c.requires.standing c.requires.env_at _ refl c.if-lim-new.false c.if-lim-c-lt2.false _ c.push.auto.work (rw c.reserved.ensures at c.push.ensures) _ c.enter.auto.work (rw (c.heads.ensures.at, c.heads.ensures.slots, c.map_entry.ensures) at c.enter.ensures)
