use mathlib.Core.Path.{refl}
use Rattle.graph_walk.proofs.StateLaws.{mention_nowhere, met_few, met_room, met_again, met_first}
use native.Mathlib.Omega.{arith}
use Rattle.graph_walk.proofs.mention.Goals as goal

pub returns-then-nodes-i : goal.returns-then-nodes-i
returns-then-nodes-i c = λ places m s. mention_nowhere s c.args.id (omega (arith, c.if-nodes-i.true))

pub overflow_add-times : goal.overflow_add-times
overflow_add-times c = omega (arith, met_few c.requires.state c.args.id refl (omega (arith, c.if-nodes-i.false)) c.pair_at-times.ensures 2305843009213693952 (omega (arith, c.requires.few)))

pub returns-then-times-ne0 : goal.returns-then-times-ne0
returns-then-times-ne0 c = λ places m s. met_again s c.args.id refl (omega (arith, c.if-nodes-i.false)) c.pair_at-times.ensures c.put_pair.ensures c.if-times-ne0.true

pub overflow_mul-work : goal.overflow_mul-work
overflow_mul-work c = omega (arith, met_room c.requires.state c.args.id refl (omega (arith, c.if-nodes-i.false)) c.pair_at-times.ensures c.if-times-ne0.false, c.put_pair.auto.work)

pub overflow_add-work : goal.overflow_add-work
overflow_add-work c = omega (arith, met_room c.requires.state c.args.id refl (omega (arith, c.if-nodes-i.false)) c.pair_at-times.ensures c.if-times-ne0.false, c.put_pair.auto.work)

pub offset_bounds-work-tail : goal.offset_bounds-work-tail
offset_bounds-work-tail c = omega (arith, met_room c.requires.state c.args.id refl (omega (arith, c.if-nodes-i.false)) c.pair_at-times.ensures c.if-times-ne0.false, c.put_pair.auto.work)

pub bounds-work-tail : goal.bounds-work-tail
bounds-work-tail c = omega (arith, met_room c.requires.state c.args.id refl (omega (arith, c.if-nodes-i.false)) c.pair_at-times.ensures c.if-times-ne0.false, c.put_pair.auto.work)

pub overflow_add-result : goal.overflow_add-result
overflow_add-result c = omega (arith, met_room c.requires.state c.args.id refl (omega (arith, c.if-nodes-i.false)) c.pair_at-times.ensures c.if-times-ne0.false, c.put_pair.auto.work)

pub returns : goal.returns
returns c = λ places m s. met_first s c.args.id refl (omega (arith, c.if-nodes-i.false)) c.pair_at-times.ensures c.put_pair.ensures c.if-times-ne0.false
