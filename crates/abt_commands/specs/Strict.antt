-- What a run leaves that is refused if an event isn't enabled.
use Rattle.std.specs.Prelude.{◌≡◌, ◌⊎◌, ℕ, Bool, MatchBool, Option, None, Some, IfSome, String, string_bytes, codes}
use Rattle.std.specs.Option.{option_map}
use Rattle.std.specs.Io.KnownBytes.{Keeps}
use Rattle.std.specs.declared.alloc.Global.{Global}
use Rattle.abt_text.specs.Text.{Text, ◌⋅◌, newline}
use Rattle.abt_json.specs.Printed as objects
use Rattle.abt_json.specs.declared.plan.JsonPlan.TheVariants as object_plan
use Rattle.abt_perform.specs.Names.{fault_line}
use Rattle.abt_perform.specs.Plans as lines
use Rattle.abt_perform.specs.Plans.{Tells}
use Rattle.abt_perform.specs.declared.fault.Fault.TheVariants.{Memory}
use Rattle.abt_check.specs.Strict.{IsFirstUnable}
use Rattle.abt_commands.specs.Besides.{IsUnread}
use Rattle.abt_commands.specs.Checked.{the_run}
use Rattle.abt_commands.specs.Ends.{Ends, EndsOver, TakesText}
use Rattle.abt_commands.specs.Opening.{TellsUnopened}

-- what goes out of a run
abbrev pub PrintsRun : (json : Bool) → (left old new : Option Text) → Type 0
PrintsRun json left old new = MatchBool json (objects.Prints (object_plan.Run None) left old new) (lines.Prints the_run left old new)

-- there is a fault, which is told
abbrev pub IsRunRefused : (json : Bool) → (left old new told_old told_new : Option Text) → Type 0
IsRunRefused json left old new told_old told_new = MatchBool json
    (objects.IsRefused (object_plan.Run None) left old new told_old told_new)
    (lines.IsRefused the_run left old new told_old told_new)

-- The text that a reader had left was run, the report went out, and this was told of the text.
pub record IsRunOf (json : Bool) (Told : (source : Text) → (old new : Option Text) → Type 0) (left old new told_old told_new : Option Text) : Type 0 where
  pub source : Text
  pub is_left : IfSome left (λ octets. source ≡ octets)
  pub prints : PrintsRun json (Some source) old new
  pub told : Told source told_old told_new

-- It wasn't run, which is told.
pub record IsNoRunOf (json : Bool) (left old new told_old told_new : Option Text) : Type 0 where
  pub source : Text
  pub is_left : IfSome left (λ octets. source ≡ octets)
  pub refused : IsRunRefused json (Some source) old new told_old told_new

-- Each event is enabled, and nothing is told.
pub record IsEnabled (source : Text) (old new : Option Text) : Type 0 where
  pub enabled : IsFirstUnable source None
  pub quiet : Keeps old new

abbrev pub unable_text : (first : Text) → Text
unable_text first = codes "fault: strict\n" ⋅ first ⋅ newline

-- An event isn't enabled: the first one is told, and why.
pub record TellsUnable (source : Text) (old new : Option Text) : Type 0 where
  pub first : Text
  pub unable : IsFirstUnable source (Some first)
  pub text : Text
  pub said : text ≡ unable_text first
  pub told : Tells text old new

-- That, or memory was refused to look for it.
abbrev pub IsUnable : (source : Text) → (old new : Option Text) → Type 0
IsUnable source old new = TellsUnable source old new ⊎ Tells (fault_line Memory) old new

abbrev pub IsStrictRefused : (json : Bool) → (left old new told_old told_new : Option Text) → Type 0
IsStrictRefused json left old new told_old told_new =
    IsUnread left old new told_old told_new
    ⊎ (IsNoRunOf json left old new told_old told_new
    ⊎ IsRunOf json IsUnable left old new told_old told_new)

-- what it leaves over one reader
abbrev pub EndsStrict : (json : Bool) → (status : ℕ) → (left_old left_new old new told_old told_new : Option Text) → Type 0
EndsStrict json = Ends TakesText (IsRunOf json IsEnabled) (IsStrictRefused json)

abbrev pub RunsStrict : (json : Bool) → Option (String Global) → (status : ℕ) → (left_old left_new old new told_old told_new : Option Text) → Type 0
RunsStrict json file =
    EndsOver (option_map string_bytes file) TellsUnopened TakesText (IsRunOf json IsEnabled) (IsStrictRefused json)
