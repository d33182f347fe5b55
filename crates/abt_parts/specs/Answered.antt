-- What goes out when lines are answered by hand.
use Rattle.std.specs.Prelude.{◌≤◌, ⊤, Bool, true, false, None, Option}
use Rattle.abt_rate.specs.Limits.{capacity_max, tau_max}
use Rattle.abt_gcra.specs.Policing.{fresh_policing}
use Rattle.abt_text.specs.Text.{Text}
use Rattle.abt_lines.specs.Lines.{seen_lines}
use Rattle.abt_lines.specs.Served.{IsServed, IsServedPart}
use Rattle.abt_lines.specs.declared.fault.LinesFault.{LinesFault}
use Rattle.abt_lines.specs.declared.fault.LinesFault.TheVariants.{Read, TooLong, Write, Memory}
use Rattle.abt_perform.specs.Names.{fault_line}
use Rattle.abt_perform.specs.Plans.{Tells}
use Rattle.abt_perform.specs.declared.fault.Fault.{Fault}
use Rattle.abt_perform.specs.declared.fault.Fault.TheVariants as fault
use Rattle.abt_node.specs.Table.{new_table}
use Rattle.abt_parts.specs.Cells.{read_lines, served_lines}
use Rattle.abt_parts.specs.PartObjects.{policed_objects, read_objects, served_objects, shaped_objects}
use Rattle.abt_parts.specs.Police.{policed_lines}
use Rattle.abt_parts.specs.Shape.{shaped_lines}
use Rattle.abt_parts.specs.declared.plan.PartsPlan.{PartsPlan}
use Rattle.abt_parts.specs.declared.plan.PartsPlan.TheVariants.{Police, Shape, Cells, Port}

-- the numbers of a plan are within their limits
abbrev pub IsAllowedPlan : PartsPlan → Type 0
IsAllowedPlan (Police tau rate) = tau ≤ tau_max
IsAllowedPlan (Shape rate) = ⊤
IsAllowedPlan Cells = ⊤
IsAllowedPlan (Port capacity) = capacity ≤ capacity_max

-- The answers to all lines of a text: a policer has taken no cell yet, a shaper may send at once, and a port is number 0, without connections.
abbrev pub answers_to : PartsPlan → Text → Text
answers_to (Police tau rate) source = policed_lines rate (fresh_policing tau) 1 (seen_lines source)
answers_to (Shape rate) source = shaped_lines rate (record { next = 0; emitted = None }) 1 (seen_lines source)
answers_to Cells source = read_lines 1 (seen_lines source)
answers_to (Port capacity) source = served_lines (new_table 0 capacity) 1 (seen_lines source)

-- the same as objects
abbrev pub objects_to : PartsPlan → Text → Text
objects_to (Police tau rate) source = policed_objects rate (fresh_policing tau) 1 (seen_lines source)
objects_to (Shape rate) source = shaped_objects rate (record { next = 0; emitted = None }) 1 (seen_lines source)
objects_to Cells source = read_objects 1 (seen_lines source)
objects_to (Port capacity) source = served_objects (new_table 0 capacity) 1 (seen_lines source)

abbrev pub said_to : (json : Bool) → PartsPlan → Text → Text
said_to false plan = answers_to plan
said_to true plan = objects_to plan

-- the answers to all that a reader had left went out, and nothing else
abbrev pub IsAnswered : (json : Bool) → PartsPlan → (left old new : Option Text) → Type 0
IsAnswered json plan left old new = IsServed (said_to json plan) left old new

-- the program's fault for one of the lines
abbrev pub fault_of_lines : LinesFault → Fault
fault_of_lines Read = fault.Read
fault_of_lines TooLong = fault.TooLong
fault_of_lines Write = fault.Write
fault_of_lines Memory = fault.Memory

-- Lines that aren't all answered: why, what went out, which is a beginning of the answers, and what was told.
pub record IsRefused (json : Bool) (plan : PartsPlan) (left old new errors_old errors_new : Option Text) : Type 0 where
  pub fault : LinesFault
  pub printed : IsServedPart (said_to json plan) left old new
  pub told : Tells (fault_line (fault_of_lines fault)) errors_old errors_new
