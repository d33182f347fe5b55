-- Readings of scenarios, and the result of a function over them.
use Rattle.std.specs.Prelude.{List, map, Result, Vec}
use Rattle.std.specs.Borrow.{Bor}
use Rattle.std.specs.declared.alloc.Global.{Global}
use Rattle.abt_text.specs.FirstFault.{GivesOr}
use Rattle.abt_text.specs.Text.{Text}
use Rattle.abt_scenario.specs.declared.fault.ScenarioFault.{ScenarioFault}
use Rattle.abt_scenario.specs.declared.fault.ScenarioFault.TheVariants.{Memory}

abbrev pub Read : Type 0 → Type 0
Read A = Result A ScenarioFault

-- The result is the exact one, seen so, or memory was refused.
abbrev pub Gives : {A B : Type 0} → (B → A) → Read A → Read B → Type 0
Gives seen exact answer = GivesOr Memory seen exact answer

-- the texts that some references point to
abbrev pub texts_seen : Vec (Bor Text) Global → List Text
texts_seen texts = map (λ text. text.now) texts.items
