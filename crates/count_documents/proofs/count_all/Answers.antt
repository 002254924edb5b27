use mathlib.Core.Path.{ap, ◌∙◌}
use mathlib.Core.List.{List}
use Prim.Native.Nat.{ℕ}
use denote.Ref.{Bor}
use Rattle.count_documents.proofs.TallyLaws.{summing_ready, summing_on, summing_end}
use native.Mathlib.Omega.{arith}
use Rattle.count_documents.proofs.count_all.Goals as goal

pub count_document-from-requires : goal.count_document-from-requires
count_document-from-requires c =
    let i = c.loop-protocol.invariant in
    rw i.2 (summing_ready i.0 c.loop-protocol-test.true c.requires i.1)

pub loop-protocol-preserved : goal.loop-protocol-preserved
loop-protocol-preserved c =
    let i = c.loop-protocol.invariant in
    let counted = rw i.2 at c.count_document-from.ensures.document_counted in
    (summing_on i.0 c.loop-protocol-test.true counted c.count_document-from.auto.totals, c.count_document-from.auto.work ∙ i.1, ap (λ (x : Bor (List ℕ)). x.now) c.count_document-from.ensures.names ∙ i.2)

pub returns : goal.returns
returns c = summing_end c.loop-protocol.invariant.0 (omega arith)
