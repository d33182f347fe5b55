-- The commands that words ask for: which field is which word, which words ask for none, and what holds of every command.
use Rattle.std.specs.Prelude.{◌≡◌, ◌^◌, ◌≤◌, ⊤, ℕ, map, Option, None, Some, IfSome, String, Vec, option_map, option_and_then, codes, string_bytes}
use Rattle.std.specs.declared.alloc.Global.{Global}
use Rattle.clap.specs.declared.parser.matches.ArgMatches.{ArgMatches}
use Rattle.abt_rate.specs.Limits.{capacity_max, tau_max, AreWorkers}
use Rattle.abt_text.specs.Text.{Text}
use Rattle.abt_text.specs.Words.{number_below}
use Rattle.abt_codes.specs.Nearest.{IsSaid}
use Rattle.abt_codes.specs.declared.message.Kind.{Kind}
use Rattle.abt_codes.specs.declared.message.Kind.TheVariants as kind
use Rattle.abt_codes.specs.declared.message.MessageWords.{MessageWords}
use Rattle.abt_plans.specs.declared.picture.PicturePlan.{PicturePlan}
use Rattle.abt_plans.specs.declared.process.SourcePlan.{SourcePlan}
use Rattle.abt_plans.specs.declared.process.SwitchPlan.{SwitchPlan}
use Rattle.abt_plans.specs.declared.chances.Chances.{Chances}
use Rattle.abt_plans.specs.declared.play.PlayPlan.{PlayPlan}
use Rattle.abt_weave.specs.declared.actor.Actor as whose
use Rattle.abt_weave.specs.declared.actor.Actor.TheVariants as actor
use Rattle.abt_cli.specs.Pictures.{IsPictureIfNamed, IsPicturePlan}
use Rattle.abt_cli.specs.Words.{text_in, word_in, words_in, file_in, files_in, flag_in, IsUnset, IsFlag, IsCapacity, IsCount, IsTolerance, IsNumberIn, IsEpochIn, NamePorts}
use Rattle.abt_cli.specs.declared.command.Command.{Command}
use Rattle.abt_cli.specs.declared.command.Command.TheVariants.{Rate, Cell, Port, Run, Threads, Explain, Check, Audit, AuditLog, Police, Shape, Step, Play, Code, Write, Draw, Switch, Source}
use Rattle.abt_cli.specs.declared.command.ThreadsCommand.{ThreadsCommand}
use Rattle.abt_cli.specs.declared.command.AuditCommand.{AuditCommand}
use Rattle.abt_cli.specs.declared.command.LogCommand.{LogCommand}
use Rattle.abt_cli.specs.declared.command.CheckCommand.{CheckCommand}
use Rattle.abt_cli.specs.declared.command.DrawCommand.{DrawCommand}

-- the file that is named, if one is
abbrev pub name_of : Option (String Global) → Option Text
name_of file = option_map string_bytes file

-- The cell is the one that stands there; none, if cells come from the standard input.
pub record IsCell (found : ArgMatches) (cell : Option (String Global)) : Type 0 where
  pub streamed : flag_in found (codes "stdin") ≡ Some (codes "true") → cell ≡ None
  pub given : IsUnset (flag_in found (codes "stdin")) → name_of cell ≡ Some (word_in found (codes "HEX"))

-- The cells are those that stand there, in their order; none, if they come from the standard input.
pub record AreCells (found : ArgMatches) (cells : Option (Vec (String Global) Global)) : Type 0 where
  pub streamed : flag_in found (codes "stdin") ≡ Some (codes "true") → cells ≡ None
  pub given : IsUnset (flag_in found (codes "stdin")) →
      option_map (λ texts. map string_bytes texts.items) cells ≡ Some (words_in found (codes "HEX"))

-- Each part of a run in threads is what its word says.
pub record IsThreads (found : ArgMatches) (command : ThreadsCommand) : Type 0 where
  pub file : name_of command.file ≡ file_in found
  pub workers : IsCount (word_in found (codes "workers")) command.workers
  pub json : IsFlag found (codes "json") command.json
  pub journals : name_of command.journals ≡ text_in found (codes "journals")
  pub events : name_of command.events ≡ text_in found (codes "events")
  pub explain : IsFlag found (codes "explain") command.explain
  pub quiet : IsFlag found (codes "quiet") command.quiet

-- Each part of a check is what its word says.
pub record IsCheck (found : ArgMatches) (command : CheckCommand) : Type 0 where
  pub files : map string_bytes command.files.items ≡ files_in found
  pub json : IsFlag found (codes "json") command.json
  pub located : IsFlag found (codes "located") command.located
  pub expect : IsFlag found (codes "expect") command.expect

-- Each part of an audit is what its word says.
pub record IsAudit (found : ArgMatches) (command : AuditCommand) : Type 0 where
  pub files : map string_bytes command.files.items ≡ files_in found
  pub events : name_of command.events ≡ text_in found (codes "events")
  pub picture : IsPictureIfNamed found command.picture
  pub json : IsFlag found (codes "json") command.json
  pub quiet : IsFlag found (codes "quiet") command.quiet

-- the word, if there is one, says a number below 2^16
abbrev pub SaysShort : Option Text → ℕ → Type 0
SaysShort word number = option_and_then (number_below (2 ^ 16)) word ≡ Some number

-- The port or the source whose log is judged alone is the one that a word names; none, if no word does.
abbrev pub IsActorIn : (port source : Option Text) → Option whose.Actor → Type 0
IsActorIn port source None = (port ≡ None) × (source ≡ None)
IsActorIn port source (Some (actor.Port p)) = SaysShort port p
IsActorIn port source (Some (actor.Source c)) = (port ≡ None) × SaysShort source c

abbrev pub IsLogActor : ArgMatches → Option whose.Actor → Type 0
IsLogActor found = IsActorIn (text_in found (codes "port")) (text_in found (codes "source"))

-- Each part of an audit of one log, but for whose it is, is what its word says.
pub record IsLogAudit (found : ArgMatches) (command : LogCommand) : Type 0 where
  pub files : map string_bytes command.files.items ≡ files_in found
  pub json : IsFlag found (codes "json") command.json
  pub quiet : IsFlag found (codes "quiet") command.quiet

-- The seed and the chances are those that the words name. Without a word nothing is lost or repeated, and any message may be the next.
pub record IsChancesOf (found : ArgMatches) (chances : Chances) : Type 0 where
  pub seed : IsNumberIn (text_in found (codes "seed")) 0 9223372036854775807 chances.seed
  pub loss : IsNumberIn (text_in found (codes "loss")) 0 100 chances.loss
  pub repeat : IsNumberIn (text_in found (codes "repeat")) 0 100 chances.repeat
  pub delay : IsNumberIn (text_in found (codes "delay")) 4294967295 4294967295 chances.delay

-- Each part of a play is what its word says.
pub record IsPlay (found : ArgMatches) (plan : PlayPlan) : Type 0 where
  pub file : name_of plan.file ≡ file_in found
  pub chances : IsChancesOf found plan.chances
  pub events : name_of plan.events ≡ text_in found (codes "events")
  pub picture : IsPictureIfNamed found plan.picture

-- how a message is named
abbrev pub kind_word : Kind → Text
kind_word kind.Request = codes "request"
kind_word kind.Yes = codes "yes"
kind_word kind.No = codes "no"

-- Each word of a message is the one that stands there.
pub record IsMessageOf (found : ArgMatches) (words : MessageWords) : Type 0 where
  pub kind : kind_word words.kind ≡ word_in found (codes "MESSAGE")
  pub vpi : string_bytes words.vpi ≡ word_in found (codes "VPI")
  pub vci : string_bytes words.vci ≡ word_in found (codes "VCI")
  pub seq : string_bytes words.seq ≡ word_in found (codes "SEQ")
  pub floor : string_bytes words.floor ≡ word_in found (codes "FLOOR")
  pub ask : string_bytes words.ask ≡ word_in found (codes "ASK")

-- how many link workers the word says, if there is one
abbrev pub IsCountIn : Option Text → Option ℕ → Type 0
IsCountIn None workers = workers ≡ None
IsCountIn (Some word) None = ⊥
IsCountIn (Some word) (Some workers) = IsCount word workers

-- Each part of a picture of a run is what its word says.
pub record IsDraw (found : ArgMatches) (command : DrawCommand) : Type 0 where
  pub file : name_of command.file ≡ file_in found
  pub workers : IsCountIn (text_in found (codes "workers")) command.workers
  pub events : name_of command.events ≡ text_in found (codes "events")
  pub picture : IsPicturePlan found (codes "output") command.picture

-- Each part of a switch is what its word says.
pub record IsSwitch (found : ArgMatches) (plan : SwitchPlan) : Type 0 where
  pub file : string_bytes plan.file ≡ word_in found (codes "NET")
  pub ports : NamePorts (words_in found (codes "port")) plan.ports.items
  pub journal : string_bytes plan.journal ≡ word_in found (codes "journal")
  pub is_binary : IsFlag found (codes "binary") plan.is_binary

-- Each part of a source is what its word says.
pub record IsSource (found : ArgMatches) (plan : SourcePlan) : Type 0 where
  pub file : string_bytes plan.file ≡ word_in found (codes "NET")
  pub conn : number_below (2 ^ 16) (word_in found (codes "CONNECTION")) ≡ Some plan.conn
  pub store : string_bytes plan.store ≡ word_in found (codes "store")
  pub journal : string_bytes plan.journal ≡ word_in found (codes "journal")
  pub is_new : IsFlag found (codes "new") plan.is_new
  pub is_binary : IsFlag found (codes "binary") plan.is_binary
  pub epoch : IsEpochIn (text_in found (codes "clock")) plan.epoch

-- The command is the one that is named, and each of its parts is what its word says.
abbrev pub IsCommandOf : (name : Text) → ArgMatches → Command → Type 0
IsCommandOf name found (Rate code json) = (name ≡ codes "rate") × (string_bytes code ≡ word_in found (codes "CODE")) ×
    IsFlag found (codes "json") json
IsCommandOf name found (Cell cell json) = (name ≡ codes "cell") × IsCell found cell × IsFlag found (codes "json") json
IsCommandOf name found (Port capacity cells json) = (name ≡ codes "port") × IsCapacity (word_in found (codes "CAPACITY")) capacity ×
    AreCells found cells × IsFlag found (codes "json") json
IsCommandOf name found (Run file json explain strict quiet) = (name ≡ codes "run") × (name_of file ≡ file_in found) ×
    IsFlag found (codes "json") json × IsFlag found (codes "explain") explain × IsFlag found (codes "strict") strict ×
    IsFlag found (codes "quiet") quiet
IsCommandOf name found (Threads command) = (name ≡ codes "threads") × IsThreads found command
IsCommandOf name found (Explain file json quiet) = (name ≡ codes "explain") × (name_of file ≡ file_in found) ×
    IsFlag found (codes "json") json × IsFlag found (codes "quiet") quiet
IsCommandOf name found (Check command) = (name ≡ codes "check") × IsCheck found command
IsCommandOf name found (Audit command) = (name ≡ codes "audit") × IsAudit found command × IsLogActor found None
IsCommandOf name found (AuditLog command) = (name ≡ codes "audit") × IsLogAudit found command × IsLogActor found (Some command.actor)
IsCommandOf name found (Police tau rate json) = (name ≡ codes "police") × IsTolerance (word_in found (codes "tau")) tau ×
    IsSaid (word_in found (codes "rate")) rate × IsFlag found (codes "json") json
IsCommandOf name found (Shape rate json) = (name ≡ codes "shape") × IsSaid (word_in found (codes "rate")) rate ×
    IsFlag found (codes "json") json
IsCommandOf name found (Step file form) = (name ≡ codes "step") × (string_bytes file ≡ word_in found (codes "FILE")) ×
    IsFlag found (codes "json") form.json × IsFlag found (codes "state") form.state ×
    IsFlag found (codes "possible") form.possible
IsCommandOf name found (Play plan) = (name ≡ codes "play") × IsPlay found plan
IsCommandOf name found (Code rate json) = (name ≡ codes "code") × (string_bytes rate ≡ word_in found (codes "RATE")) ×
    IsFlag found (codes "json") json
IsCommandOf name found (Write words json) = (name ≡ codes "write") × IsMessageOf found words × IsFlag found (codes "json") json
IsCommandOf name found (Draw command) = (name ≡ codes "draw") × IsDraw found command
IsCommandOf name found (Switch plan) = (name ≡ codes "switch") × IsSwitch found plan
IsCommandOf name found (Source plan) = (name ≡ codes "source") × IsSource found plan

-- the numbers of a command are within their limits
abbrev pub IsAllowed : Command → Type 0
IsAllowed (Port capacity cells json) = capacity ≤ capacity_max
IsAllowed (Threads command) = AreWorkers command.workers
IsAllowed (Police tau rate json) = tau ≤ tau_max
IsAllowed (Draw command) = IfSome command.workers AreWorkers
IsAllowed command = ⊤
