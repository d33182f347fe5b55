-- The past of a source, from the journal that is opened.
use Rattle.std.specs.Prelude.{◌≡◌, ⊤, ℕ, Bool, true, false, Option, IfSome}
use Rattle.std.specs.Io.KnownBytes.{Appends}
use Rattle.abt_text.specs.Text.{Text}
use Rattle.abt_live.specs.declared.history.History.{History}
use Rattle.abt_live.specs.declared.past.Past.{Past}
use Rattle.abt_live.specs.History.{Recounts, restart_text}
use Rattle.abt_live.specs.Past.{no_past}
use Rattle.abt_live_files.specs.declared.fault.LiveStop.{LiveStop}
use Rattle.abt_live_files.specs.declared.fault.LiveStop.TheVariants.{Store, Journal}

-- The past of a source is what the text of its journal recounts.
pub record IsRecounted (conn : ℕ) (text : Text) (past : Past) : Type 0 where
  pub history : History
  pub recounts : Recounts conn text history
  pub past_is : past ≡ history.past

-- Behind the lines of the journal stands what became of the source whose past it is.
pub record IsRestarted (new : Option Text) (conn : ℕ) (past : Past) : Type 0 where
  pub mended : Option Text
  pub restarts : Appends mended new (restart_text conn past)

-- The past is what some text recounts, and behind the journal's lines stands what became of the source.
pub record IsContinued {J : Type 0} (contents : J → Option Text) (conn : ℕ) (past : Past) (journal : J) : Type 0 where
  pub had : Option Text
  pub recounted : IfSome had (λ text. IsRecounted conn text past)
  pub restarts : IsRestarted (contents journal) conn past

-- a new source has no past
abbrev pub BeginsBy : {J : Type 0} → (contents : J → Option Text) → (conn : ℕ) → (is_new : Bool) → Past → (journal : J) → Type 0
BeginsBy contents conn true past journal = past ≡ no_past
BeginsBy contents conn false past journal = IsContinued contents conn past journal

-- it is the file of a store or of a journal that isn't opened
abbrev pub IsOfFile : LiveStop → Type 0
IsOfFile (Store fault) = ⊤
IsOfFile (Journal fault) = ⊤
IsOfFile other = ⊥
