use Prim.Native.Nat.{◌<◌}
use Rattle.source_directory.proofs.GroupLaws.{after_nodes, after_protos, slot_grouped, all_grouped}
use native.Mathlib.Omega.{arith}
use Rattle.source_directory.proofs.indexes.index_all.Goals as goal

pub index_one-externs-requires : goal.index_one-externs-requires
index_one-externs-requires c =
    let few : c.loop-slot.slot < 65 = omega (arith, c.requires.0.few) in
    let x = after_nodes few c.loop-slot.invariant c.index_one-protos.ensures in
    (x.indexing.directory, few, x.upto, omega (arith, x.work_stays.long), c.requires.3)

pub index_one-place-requires : goal.index_one-place-requires
index_one-place-requires c =
    let few : c.loop-slot.slot < 65 = omega (arith, c.requires.0.few) in
    let x = after_protos few c.loop-slot.invariant c.index_one-protos.ensures c.index_one-externs.ensures in
    (x.indexing.directory, few, x.upto, omega (arith, x.work_stays.long), c.requires.3)

pub loop-slot-preserved : goal.loop-slot-preserved
loop-slot-preserved c =
    let few : c.loop-slot.slot < 65 = omega (arith, c.requires.0.few) in
    slot_grouped few c.loop-slot.invariant c.index_one-protos.ensures c.index_one-externs.ensures c.index_one-place.ensures

pub returns-2 : goal.returns-2
returns-2 c =
    let few : c.loop-slot.slot < 65 = omega (arith, c.requires.0.few) in
    all_grouped (slot_grouped few c.loop-slot.invariant c.index_one-protos.ensures c.index_one-externs.ensures c.index_one-place.ensures) (omega arith)
