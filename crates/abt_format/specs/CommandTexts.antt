-- What the text of a command of a script says (docs/FORMATS.md, "Scripts"). What is said here is accepted, and nothing
-- else.
use Rattle.std.specs.Prelude.{ℕ, if◌then◌else◌, List, [], ◌∷◌, codes, Option, Some, None}
use Rattle.std.specs.Str.{bytes_eq}
use Rattle.abt_keep.specs.declared.plan.StorePlan.{StorePlan}
use Rattle.abt_keep.specs.declared.plan.StorePlan.TheVariants.{Works}
use Rattle.abt_model.specs.declared.script_command.Command.{Command}
use Rattle.abt_model.specs.declared.script_command.Command.TheVariants as command
use Rattle.abt_text.specs.Text.{Text}
use Rattle.abt_text.specs.Words.{words_of}
use Rattle.abt_format.specs.Values.{◌>>=◌, turns_of, moment_of, rate_of, plan_of}
use Rattle.abt_format.specs.declared.command.Order.{Order}
use Rattle.abt_format.specs.declared.command.Order.TheVariants.{Start, Ask, Again, Crash, Emit, Listen}

-- the first word
abbrev pub order_of : Text → Option Order
order_of word =
    if bytes_eq word (codes "start") then Some Start
    else if bytes_eq word (codes "ask") then Some Ask
    else if bytes_eq word (codes "again") then Some Again
    else if bytes_eq word (codes "crash") then Some Crash
    else if bytes_eq word (codes "emit") then Some Emit
    else if bytes_eq word (codes "listen") then Some Listen
    else None

-- `ask CODE`, and with the word of a plan that isn't that the store works
abbrev pub ask_of : Text → StorePlan → Option Command
ask_of code plan = do
  rate ← rate_of code
  Some (command.Ask rate plan)

-- JITTER, or `lost`
abbrev pub jitter_of : Text → Option (Option ℕ)
jitter_of word =
    if bytes_eq word (codes "lost") then Some None
    else (do
      jitter ← moment_of word
      Some (Some jitter))

-- `emit NOW JITTER`, `emit NOW lost`
abbrev pub emit_of : Text → Text → Option Command
emit_of t j = do
  now ← moment_of t
  jitter ← jitter_of j
  Some (command.Emit now jitter)

-- what the words behind the first say with it
abbrev pub said_by : Order → List Text → Option Command
said_by Start (t ∷ []) = do
  now ← moment_of t
  Some (command.Start now)
said_by Ask (code ∷ []) = ask_of code Works
said_by Ask (code ∷ word ∷ []) = do
  plan ← plan_of word
  ask_of code plan
said_by Again [] = Some command.Again
said_by Crash [] = Some command.Crash
said_by Emit (now ∷ jitter ∷ []) = emit_of now jitter
said_by Listen (n ∷ []) = do
  turns ← turns_of n
  Some (command.Listen turns)
said_by _ _ = None

-- what some words say
abbrev pub said : List Text → Option Command
said [] = None
said (word ∷ words) = do
  order ← order_of word
  said_by order words

-- the command that a text says: its words are separated by exactly one space, with nothing before or after
abbrev pub command_of : Text → Option Command
command_of text = said (words_of text)
