-- Commands that would write over a file that they read, or write one file twice. Here files are told apart by their names; `-` is the
-- standard output, which is no file to be written.
use Rattle.std.specs.Prelude.{◌≡◌, ◌⊎◌, Any, Option, None, Some, String, List, [], ◌∷◌, codes, string_bytes}
use Rattle.std.specs.declared.alloc.Global.{Global}
use Rattle.abt_text.specs.Text.{Text}
use Rattle.abt_plans.specs.declared.picture.PicturePlan.{PicturePlan}
use Rattle.abt_plans.specs.declared.process.SourcePlan.{SourcePlan}
use Rattle.abt_plans.specs.declared.process.SwitchPlan.{SwitchPlan}
use Rattle.abt_cli.specs.declared.command.Command.{Command}
use Rattle.abt_cli.specs.declared.command.Command.TheVariants.{Threads, Audit, Play, Draw, Switch, Source}

-- what may be there, as a list
abbrev pub listed : {A : Type 0} → Option A → List A
listed None = []
listed (Some one) = one ∷ []

-- the file that may be named has this name
abbrev pub IsNamed : Option (String Global) → Text → Type 0
IsNamed None name = ⊥
IsNamed (Some file) name = string_bytes file ≡ name

-- the file that may be named is the standard output
abbrev pub IsPrinted : Option (String Global) → Type 0
IsPrinted file = IsNamed file (codes "-")

-- two files that may be named are one
abbrev pub AreOne : (file other : Option (String Global)) → Type 0
AreOne file None = ⊥
AreOne file (Some other) = IsNamed file (string_bytes other)

-- one of the files has this name
abbrev pub IsAmong : List (String Global) → Text → Type 0
IsAmong files name = Any (λ file. string_bytes file ≡ name) files

-- one of the files is the other that may be named
abbrev pub HasOne : List (String Global) → Option (String Global) → Type 0
HasOne files None = ⊥
HasOne files (Some other) = IsAmong files (string_bytes other)

-- an audit uses the name already: for one of its files, or for that of its events
abbrev pub IsTaken : List (String Global) → (events : Option (String Global)) → Text → Type 0
IsTaken files events name = IsAmong files name ⊎ IsNamed events name

-- a picture of an audit is to go to such a name
abbrev pub IsDrawnOver : List (String Global) → (events : Option (String Global)) → Option PicturePlan → Type 0
IsDrawnOver files events None = ⊥
IsDrawnOver files events (Some picture) = IsTaken files events (string_bytes picture.out)

-- a picture of a play is to go to the file that may be read, or to the one for its events
abbrev pub IsPlayDrawnOver : (file events : Option (String Global)) → Option PicturePlan → Type 0
IsPlayDrawnOver file events None = ⊥
IsPlayDrawnOver file events (Some picture) = IsNamed file (string_bytes picture.out) ⊎ IsNamed events (string_bytes picture.out)

-- The journal of a switch is the file of its net, or the standard output, where its answers go.
abbrev pub SwitchLosesText : SwitchPlan → Type 0
SwitchLosesText plan = (string_bytes plan.file ≡ string_bytes plan.journal) ⊎ (string_bytes plan.journal ≡ codes "-")

-- So is the store or the journal of a source, or both are one.
abbrev pub SourceLosesText : SourcePlan → Type 0
SourceLosesText plan =
    (string_bytes plan.file ≡ string_bytes plan.store)
    ⊎ (string_bytes plan.file ≡ string_bytes plan.journal)
    ⊎ (string_bytes plan.store ≡ string_bytes plan.journal)
    ⊎ (string_bytes plan.store ≡ codes "-")
    ⊎ (string_bytes plan.journal ≡ codes "-")

-- a text would be lost: that of a file which is read, or the first of two that are written
abbrev pub LosesText : Command → Type 0
LosesText (Threads command) =
    AreOne command.file command.journals
    ⊎ AreOne command.file command.events
    ⊎ AreOne command.journals command.events
    ⊎ IsPrinted command.journals
    ⊎ IsPrinted command.events
LosesText (Audit command) =
    HasOne command.files.items command.events
    ⊎ IsPrinted command.events
    ⊎ IsDrawnOver command.files.items command.events command.picture
LosesText (Play plan) =
    AreOne plan.file plan.events
    ⊎ IsPrinted plan.events
    ⊎ IsPlayDrawnOver plan.file plan.events plan.picture
LosesText (Draw command) =
    AreOne command.file command.events
    ⊎ IsNamed command.file (string_bytes command.picture.out)
    ⊎ IsNamed command.events (string_bytes command.picture.out)
    ⊎ IsPrinted command.events
LosesText (Switch plan) = SwitchLosesText plan
LosesText (Source plan) = SourceLosesText plan
LosesText command = ⊥
