-- The plan of a command, if it has one: it neither answers as JSON nor line by line, nor is a file written.
use Rattle.std.specs.Prelude.{Bool, false, Option, None, Some, String}
use Rattle.std.specs.declared.alloc.Global.{Global}
use Rattle.abt_perform.specs.declared.plan.Plan.{Plan}
use Rattle.abt_perform.specs.declared.plan.Plan.TheVariants as plan
use Rattle.abt_cli.specs.declared.command.Command.{Command}
use Rattle.abt_cli.specs.declared.command.Command.TheVariants.{Rate, Cell, Port, Run, Threads}
use Rattle.abt_cli.specs.declared.command.ThreadsCommand.{ThreadsCommand}

abbrev pub of_threads : ThreadsCommand → (json : Bool) → (journals events : Option (String Global)) → Option Plan
of_threads command false None None = Some (plan.Threads command.file command.workers)
of_threads command json journals events = None

abbrev pub plan_of : Command → Option Plan
plan_of (Rate code false) = Some (plan.Rate code)
plan_of (Cell (Some cell) false) = Some (plan.Cell cell)
plan_of (Port capacity (Some cells) false) = Some (plan.Port capacity cells)
plan_of (Run file false explain false quiet) = Some (plan.Run file)
plan_of (Threads command) = of_threads command command.json command.journals command.events
plan_of command = None
