-- What functions say of the answers.
use Rattle.abt_parts.proofs.Served.{polices, reads, serves, shapes}
use Rattle.abt_parts.proofs.ByObjects as objects
use Rattle.abt_parts.proofs.law.steps_are_functions.Goals as goal

pub returns-clause-police : goal.returns-clause-police
returns-clause-police c = polices

pub returns-clause-shape : goal.returns-clause-shape
returns-clause-shape c = shapes

pub returns-clause-cell : goal.returns-clause-cell
returns-clause-cell c = reads

pub returns-clause-port : goal.returns-clause-port
returns-clause-port c = serves

pub returns-clause-police_objects : goal.returns-clause-police_objects
returns-clause-police_objects c = objects.polices

pub returns-clause-shape_objects : goal.returns-clause-shape_objects
returns-clause-shape_objects c = objects.shapes

pub returns-clause-cell_objects : goal.returns-clause-cell_objects
returns-clause-cell_objects c = objects.reads

pub returns-clause-port_objects : goal.returns-clause-port_objects
returns-clause-port_objects c = objects.serves
