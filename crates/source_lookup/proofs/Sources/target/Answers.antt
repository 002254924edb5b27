use Rattle.std.proofs.Common.{◌≡◌, None, rules}
use Rattle.sheet_rows.specs.Rows.{rows}
use Rattle.sheet_rows.specs.Parse.{document_of, files_of}
use Rattle.source_lookup.proofs.InstanceLaws.{instance_proto, instance_none, instance_some, instance_plain}
use Rattle.source_lookup.proofs.Sources.target.Goals as goal

pub returns-then-origin-eq-PROTO : goal.returns-then-origin-eq-PROTO
returns-then-origin-eq-PROTO c = instance_proto (document_of (rows c.args.self.now.root.now)) (files_of (rows c.args.self.now.library.now)) c.args.self.now.dir.now c.args.slot c.requires.1 c.args.id c.args.origin c.if-origin-eq-PROTO.true

pub picked-requires : goal.picked-requires
picked-requires c = c.requires

pub returns-in_err-picked : goal.returns-in_err-picked
returns-in_err-picked c =
    let none : c.from_residual.result ≡ None = search rules in
    rw none (instance_none (document_of (rows c.args.self.now.root.now)) (files_of (rows c.args.self.now.library.now)) c.args.self.now.dir.now c.args.slot c.requires.1 c.args.id c.args.origin c.if-origin-eq-EXTERN_PROTO.true c.picked.ensures.target c.in_err-picked.was)

pub returns-then-origin-eq-EXTERN_PROTO : goal.returns-then-origin-eq-EXTERN_PROTO
returns-then-origin-eq-EXTERN_PROTO c =
    instance_some (document_of (rows c.args.self.now.root.now)) (files_of (rows c.args.self.now.library.now)) c.args.self.now.dir.now c.args.slot c.requires.1 c.args.id c.args.origin c.if-origin-eq-EXTERN_PROTO.true c.picked.ensures.target c.in_ok-picked.was

pub returns : goal.returns
returns c = instance_plain (document_of (rows c.args.self.now.root.now)) (files_of (rows c.args.self.now.library.now)) c.args.self.now.dir.now c.args.slot c.requires.1 c.args.id c.args.origin c.if-origin-eq-PROTO.false c.if-origin-eq-EXTERN_PROTO.false
