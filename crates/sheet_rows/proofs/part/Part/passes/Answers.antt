use Rattle.sheet_rows.proofs.part.Part.passes.Goals as goal

pub returns-in-Files : goal.returns-in-Files
returns-in-Files c = rw c.in-Files.is

pub returns-in-Documents : goal.returns-in-Documents
returns-in-Documents c = rw c.in-Documents.is

pub returns-in-Nodes : goal.returns-in-Nodes
returns-in-Nodes c = rw c.in-Nodes.is

pub returns-in-Protos : goal.returns-in-Protos
returns-in-Protos c = rw c.in-Protos.is

pub returns-in-Externs : goal.returns-in-Externs
returns-in-Externs c = rw c.in-Externs.is

pub returns-in-Tops : goal.returns-in-Tops
returns-in-Tops c = rw c.in-Tops.is

pub returns-in-Fields : goal.returns-in-Fields
returns-in-Fields c = rw c.in-Fields.is

pub returns-in-Interfaces : goal.returns-in-Interfaces
returns-in-Interfaces c = rw c.in-Interfaces.is

pub returns-in-Statements : goal.returns-in-Statements
returns-in-Statements c = rw c.in-Statements.is

pub returns-in-BodyOrder : goal.returns-in-BodyOrder
returns-in-BodyOrder c = rw c.in-BodyOrder.is

pub returns-in-Instances : goal.returns-in-Instances
returns-in-Instances c = rw c.in-Instances.is

pub returns-in-Routes : goal.returns-in-Routes
returns-in-Routes c = rw c.in-Routes.is

pub returns-in-Associations : goal.returns-in-Associations
returns-in-Associations c = rw c.in-Associations.is

pub returns-in-Urls : goal.returns-in-Urls
returns-in-Urls c = rw c.in-Urls.is
