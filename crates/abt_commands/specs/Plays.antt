-- What `abt play` leaves.
use Rattle.std.specs.Prelude.{◌≡◌, ◌⊎◌, ⊤, ℕ, Bool, MatchBool, List, [], Option, MatchOption, string_bytes}
use Rattle.std.specs.Option.{option_map}
use Rattle.std.specs.Io.KnownBytes.{Keeps}
use Rattle.abt_text.specs.Text.{Text}
use Rattle.abt_net.specs.Topology.{Topology}
use Rattle.abt_model.specs.declared.event.Event.{Event}
use Rattle.abt_draw.specs.Drawn.{TellsSome}
use Rattle.abt_draw.specs.Pictures.{IsPicture}
use Rattle.abt_plans.specs.declared.picture.PicturePlan.{PicturePlan}
use Rattle.abt_draw.specs.declared.scene.Scene.{Scene}
use Rattle.abt_perform.specs.Plans.{Tells}
use Rattle.abt_play.specs.Performing.{EndsBy, IsPlayShown, show_line}
use Rattle.abt_play.specs.declared.fault.ShowFault.{ShowFault}
use Rattle.abt_play.specs.declared.performing.ScenarioPlay.{ScenarioPlay}
use Rattle.abt_plans.specs.declared.play.PlayPlan.{PlayPlan}
use Rattle.abt_commands.specs.Advice.{TellsAdvice}
use Rattle.abt_commands.specs.Besides.{IsDone, IsUndone}
use Rattle.abt_commands.specs.Ends.{Ends, EndsOver, TakesText}
use Rattle.abt_commands.specs.Opening.{TellsUnopened}
use Rattle.abt_commands.specs.Saved.{IsFiled, IsSavedIfNamed, IsUnsavedIfNamed}
use Rattle.abt_commands.specs.declared.advice.Runs.TheVariants.{Scripts}

-- the file for the events
abbrev pub events_file_of : PlayPlan → Option Text
events_file_of plan = option_map string_bytes plan.events

-- A picture of just these events over the net is in a file.
pub record IsPictured (picture : PicturePlan) (net : Topology) (events : List Event) : Type 0 where
  pub scene : Scene
  pub net_is : scene.net.now ≡ net
  pub events_are : scene.events.now ≡ events
  pub no_lines : scene.lines.now ≡ []
  pub none_stuck : scene.stuck.now ≡ []
  pub text : Text
  pub is_picture : IsPicture picture scene text
  pub filed : IsFiled text

-- it is, if one is asked for
abbrev pub IsPicturedIfAsked : Option PicturePlan → Topology → List Event → Type 0
IsPicturedIfAsked picture net events = MatchOption picture ⊤ (λ asked. IsPictured asked net events)

-- The events of a play are in the file for them, if there is to be one, and so is their picture.
pub record IsKept (plan : PlayPlan) (shown : ScenarioPlay) : Type 0 where
  pub saved : IsSavedIfNamed (events_file_of plan) shown.net shown.played.events
  pub pictured : IsPicturedIfAsked plan.picture shown.net shown.played.events

-- The events aren't there, which is told.
abbrev pub IsUnsaved : PlayPlan → ScenarioPlay → (told_old told_new : Option Text) → Type 0
IsUnsaved plan shown told_old told_new = IsUnsavedIfNamed (events_file_of plan) shown.net shown.played.events told_old told_new

-- The events aren't there, which is told, and behind it maybe that their picture isn't.
pub record IsUnsavedFirst (plan : PlayPlan) (shown : ScenarioPlay) (told_old told_new : Option Text) : Type 0 where
  pub between : Option Text
  pub unsaved : IsUnsaved plan shown told_old between
  pub more : Keeps between told_new ⊎ TellsSome between told_new

-- The events are there, and their picture isn't, which is told.
pub record IsUnpictured (told_old told_new : Option Text) : Type 0 where
  pub between : Option Text
  pub quiet : Keeps told_old between
  pub told : TellsSome between told_new

abbrev pub IsNotBoth : PlayPlan → ScenarioPlay → (told_old told_new : Option Text) → Type 0
IsNotBoth plan shown told_old told_new = IsUnsavedFirst plan shown told_old told_new ⊎ IsUnpictured told_old told_new

-- why the events of a play aren't there, or their picture, if one is asked for
abbrev pub IsUnkept : PlayPlan → ScenarioPlay → (told_old told_new : Option Text) → Type 0
IsUnkept plan shown told_old told_new =
    MatchOption plan.picture (IsUnsaved plan shown told_old told_new) (λ picture. IsNotBoth plan shown told_old told_new)

-- One play was shown, and its events and their picture are in the files for them, if there are to be any; nothing is told.
pub record IsPlayed (plan : PlayPlan) (left old new told_old told_new : Option Text) : Type 0 where
  pub shown : ScenarioPlay
  pub shows : IsPlayShown shown left old new
  pub kept : IsKept plan shown
  pub quiet : Keeps told_old told_new

-- No play is shown, and the reason is told.
pub record IsUnshown (left old new told_old told_new : Option Text) : Type 0 where
  pub fault : ShowFault
  pub ends : EndsBy fault left old new
  pub told : Tells (show_line fault) told_old told_new

-- A play is shown, and its events or their picture aren't in the file for them, which is told.
pub record IsPlayUnkept (plan : PlayPlan) (left old new told_old told_new : Option Text) : Type 0 where
  pub shown : ScenarioPlay
  pub shows : IsPlayShown shown left old new
  pub unkept : IsUnkept plan shown told_old told_new

abbrev pub IsUnplayed : PlayPlan → (left old new told_old told_new : Option Text) → Type 0
IsUnplayed plan left old new told_old told_new =
    IsUnshown left old new told_old told_new ⊎ IsPlayUnkept plan left old new told_old told_new

-- what playing leaves over one reader
abbrev pub EndsPlayedOver : PlayPlan → (status : ℕ) → (left_old left_new old new told_old told_new : Option Text) → Type 0
EndsPlayedOver plan = Ends TakesText (IsPlayed plan) (IsUnplayed plan)

abbrev pub PlaysPlain : PlayPlan → (status : ℕ) → (left_old left_new old new told_old told_new : Option Text) → Type 0
PlaysPlain plan = EndsOver (option_map string_bytes plan.file) TellsUnopened TakesText (IsPlayed plan) (IsUnplayed plan)

-- the same, and behind that advice is told
abbrev pub IsPlayedAdvised : PlayPlan → (left old new told_old told_new : Option Text) → Type 0
IsPlayedAdvised plan = IsDone (IsPlayed plan) (TellsAdvice Scripts (option_map string_bytes plan.file))

abbrev pub IsUnplayedAdvised : PlayPlan → (left old new told_old told_new : Option Text) → Type 0
IsUnplayedAdvised plan = IsUndone (IsUnplayed plan) (TellsAdvice Scripts (option_map string_bytes plan.file))

abbrev pub EndsPlayedAdvised : PlayPlan → (status : ℕ) → (left_old left_new old new told_old told_new : Option Text) → Type 0
EndsPlayedAdvised plan = Ends TakesText (IsPlayedAdvised plan) (IsUnplayedAdvised plan)

abbrev pub PlaysAdvised : PlayPlan → (status : ℕ) → (left_old left_new old new told_old told_new : Option Text) → Type 0
PlaysAdvised plan =
    EndsOver (option_map string_bytes plan.file) TellsUnopened TakesText (IsPlayedAdvised plan) (IsUnplayedAdvised plan)

abbrev pub Plays : (advised : Bool) → PlayPlan → (status : ℕ) → (left_old left_new old new told_old told_new : Option Text) → Type 0
Plays advised plan status left_old left_new old new told_old told_new = MatchBool advised
    (PlaysAdvised plan status left_old left_new old new told_old told_new)
    (PlaysPlain plan status left_old left_new old new told_old told_new)
