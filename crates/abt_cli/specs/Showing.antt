-- Whether it is shown how far a command is.
use Rattle.std.specs.Prelude.{not, Bool, false}
use Rattle.abt_cli.specs.declared.command.Command.{Command}
use Rattle.abt_cli.specs.declared.command.Command.TheVariants.{Run, Threads, Explain, Audit, AuditLog}

-- Those that run a scenario and audits read an input that can be long, and show how far they are unless they are to be quiet.
abbrev pub shows_progress : Command → Bool
shows_progress (Run file json explain strict quiet) = not quiet
shows_progress (Threads command) = not command.quiet
shows_progress (Explain file json quiet) = not quiet
shows_progress (Audit command) = not command.quiet
shows_progress (AuditLog command) = not command.quiet
shows_progress command = false
