-- What is asked for under a clock.
use Rattle.std.proofs.Common.{◌≡◌, ◌∙◌, ℕ, List, ap}
use Rattle.std.specs.Prelude.{Option, Result}
use Rattle.abt_live.specs.declared.fault.LiveFault.{LiveFault}
use Rattle.abt_live.specs.declared.source_asked.SourceAsked.{SourceAsked}
use Rattle.abt_live.specs.Clock.{clocked}

-- it is the same where it is asked for in other words
pub same_clocked : (moment : Result ℕ LiveFault) (line : Option (List ℕ)) (asked wanted given : SourceAsked)
    → asked ≡ wanted → given ≡ clocked moment line asked → given ≡ clocked moment line wanted
same_clocked moment line asked wanted given is under = under ∙ ap (clocked moment line) is
