-- What carrying a command out leaves, by its exit status.
use Rattle.std.specs.Prelude.{ℕ, Bool, Option, string_bytes}
use Rattle.abt_text.specs.Text.{Text}
use Rattle.abt_keep.specs.Record.{KeptRecord}
use Rattle.abt_codes.specs.declared.plan.CodesPlan.TheVariants as codes
use Rattle.abt_parts.specs.declared.plan.PartsPlan.TheVariants as lines
use Rattle.abt_commands.specs.Audits.{Audits}
use Rattle.abt_commands.specs.AuditsLog.{AuditsLog}
use Rattle.abt_commands.specs.Check.{Checks}
use Rattle.abt_commands.specs.Draws.{Draws}
use Rattle.abt_commands.specs.Plays.{Plays}
use Rattle.abt_commands.specs.Processes.{Sources, Switches}
use Rattle.abt_commands.specs.Runs.{Explains, Runs}
use Rattle.abt_commands.specs.Single.{AnswersLines, SaysCell, SaysCodes, SaysRate, ServesPort}
use Rattle.abt_commands.specs.Steps.{Steps}
use Rattle.abt_commands.specs.Threads.{RunsThreads}
use Rattle.abt_cli.specs.declared.command.Command.{Command}
use Rattle.abt_cli.specs.declared.command.Command.TheVariants.{Rate, Cell, Port, Run, Threads, Explain, Check, Audit, AuditLog, Police, Shape, Step, Play, Code, Write, Draw, Switch, Source}

-- Over the files and the stores of a system, which are seen by what they hold.
abbrev pub IsCarriedOut : {K J : Type 0} → (content : K → KeptRecord) → (contents : J → Option Text) → (advised : Bool) → Command → (status : ℕ)
    → (left_old left_new old new told_old told_new : Option Text) → Type 0
IsCarriedOut content contents advised (Rate code json) = SaysRate json code
IsCarriedOut content contents advised (Cell hex json) = SaysCell json advised hex
IsCarriedOut content contents advised (Port capacity cells json) = ServesPort json capacity cells
IsCarriedOut content contents advised (Run file json explain strict quiet) = Runs strict json explain advised file
IsCarriedOut content contents advised (Threads command) = RunsThreads advised command
IsCarriedOut content contents advised (Explain file json quiet) = Explains json advised file
IsCarriedOut content contents advised (Check command) = Checks command
IsCarriedOut content contents advised (Audit command) = Audits command
IsCarriedOut content contents advised (AuditLog command) = AuditsLog command
IsCarriedOut content contents advised (Police tau rate json) = AnswersLines json (lines.Police tau rate.rate)
IsCarriedOut content contents advised (Shape rate json) = AnswersLines json (lines.Shape rate.rate)
IsCarriedOut content contents advised (Step file form) = Steps (string_bytes file) form
IsCarriedOut content contents advised (Play plan) = Plays advised plan
IsCarriedOut content contents advised (Code rate json) = SaysCodes json (codes.Code rate)
IsCarriedOut content contents advised (Write words json) = SaysCodes json (codes.Write words)
IsCarriedOut content contents advised (Draw command) = Draws advised command
IsCarriedOut content contents advised (Switch plan) = Switches contents plan
IsCarriedOut content contents advised (Source plan) = Sources content contents plan
