-- Events that were woven, told (docs/EXPLAIN.md).
use Rattle.std.specs.Prelude.{◌≡◌, ◌⊎◌, ℕ, List, [], Option, length, codes, sum_by}
use Rattle.abt_model.specs.declared.event.Event.{Event}
use Rattle.abt_model.specs.Run.{outcomes_of}
use Rattle.abt_net.specs.Topology.{Topology}
use Rattle.abt_perform.specs.Names.{fault_line}
use Rattle.abt_perform.specs.Plans.{Tells}
use Rattle.abt_perform.specs.declared.fault.Fault.TheVariants.{Memory}
use Rattle.abt_reason.specs.Explanation.{IsExplanation}
use Rattle.abt_text.specs.Text.{Text, ◌⋅◌, decimal, newline}
use Rattle.abt_explain.specs.Answers.{answer_lines, granted_by, refused_by}

-- how many events there are, and how many of them tell a source yes, or no, to what it waited for; then their explanation; then a line for
-- each such answer
abbrev pub told_text : (events granted refused : ℕ) → (explanation answers : Text) → Text
told_text events granted refused explanation answers =
    codes "events: " ⋅ decimal events ⋅ codes ", granted: " ⋅ decimal granted ⋅ codes ", refused: " ⋅ decimal refused ⋅ newline
    ⋅ explanation ⋅ answers

-- The text tells these events of a net to which nothing happened before.
pub record IsTold (net : Topology) (events : List Event) (text : Text) : Type 0 where
  pub explanation : Text
  pub explained : IsExplanation net [] events explanation
  pub is : text ≡ told_text (length events) (sum_by granted_by (outcomes_of net events)) (sum_by refused_by (outcomes_of net events))
      explanation (answer_lines net [] 0 events)

-- Such a text was told, as far as the writer took it, or want of memory for it.
abbrev pub TellsEvents : Topology → List Event → (old new : Option Text) → Type 0
TellsEvents net events old new =
    Tells (fault_line Memory) old new ⊎ ((text : Text) × IsTold net events text × Tells text old new)
