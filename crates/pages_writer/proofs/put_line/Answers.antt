use Rattle.sheet_rows.specs.declared.part.Part.TheVariants.{Nodes}
use Rattle.sheet_rows.specs.Rows.{rows}
use Rattle.sheet_rows.proofs.RowLaws.{rows_length}
use Rattle.sheet_walks.proofs.WalkLaws.{stands, missing}
use Rattle.pages_definition.proofs.WalkedLaws.{node_ready, node_put, blank_put}
use native.Mathlib.Omega.{arith}
use Rattle.pages_writer.proofs.put_line.Goals as goal

pub put_node_line-requires : goal.put_node_line-requires
put_node_line-requires c = node_ready c.args.sheet.now c.args.ledger.now c.args.q c.args.i c.args.at c.requires.here c.requires.entries (stands Nodes (rows c.args.sheet.now) c.args.q c.seek.ensures c.in-At.is) c.requires.fits

pub overflow_add-result : goal.overflow_add-result
overflow_add-result c = omega (arith, (stands Nodes (rows c.args.sheet.now) c.args.q c.seek.ensures c.in-At.is).below, rows_length c.args.sheet.now)

pub returns-in-At : goal.returns-in-At
returns-in-At c = node_put c.args.sheet.now c.args.ledger.now c.args.q c.args.i c.args.at c.requires.here c.args.text.now (stands Nodes (rows c.args.sheet.now) c.args.q c.seek.ensures c.in-At.is) c.put_node_line.ensures

pub returns-in-Nothing : goal.returns-in-Nothing
returns-in-Nothing c = blank_put c.args.sheet.now c.args.ledger.now c.args.q c.args.i c.args.at c.requires.here c.args.text.now (missing Nodes (rows c.args.sheet.now) c.args.q c.seek.ensures c.in-Nothing.is) c.put_blank_line.ensures
