-- What the commands over rates, cells and lines leave.
use Rattle.std.specs.Prelude.{ℕ, ◌==◌, ◌&&◌, Bool, MatchBool, List, length, Option, MatchOption, String, Vec, codes, string_bytes}
use Rattle.std.specs.Io.KnownBytes.{Appends, Keeps}
use Rattle.std.specs.declared.alloc.Global.{Global}
use Rattle.abt_text.specs.Text.{Text}
use Rattle.abt_codes.specs.Printed as said
use Rattle.abt_codes.specs.declared.plan.CodesPlan.{CodesPlan}
use Rattle.abt_json.specs.Printed as objects
use Rattle.abt_json.specs.declared.plan.JsonPlan.{JsonPlan}
use Rattle.abt_json.specs.declared.plan.JsonPlan.TheVariants as as_json
use Rattle.abt_parts.specs.Answered as parts
use Rattle.abt_parts.specs.PortObjects.{AreUnprinted, port_objects}
use Rattle.abt_parts.specs.declared.plan.PartsPlan.{PartsPlan}
use Rattle.abt_parts.specs.declared.plan.PartsPlan.TheVariants as in_lines
use Rattle.abt_perform.specs.Plans as plain
use Rattle.abt_perform.specs.Plans.{Tells}
use Rattle.abt_perform.specs.declared.plan.Plan.{Plan}
use Rattle.abt_perform.specs.declared.plan.Plan.TheVariants as in_words
use Rattle.abt_commands.specs.Ends.{Ends, Quietly, TakesAny}

-- What a plan prints went out, or it has a fault, which is told.
abbrev pub Performs : Plan → (status : ℕ) → (left_old left_new old new told_old told_new : Option Text) → Type 0
Performs plan = Ends (plain.ReadsFor plan) (Quietly (plain.Prints plan)) (plain.IsRefused plan)

abbrev pub PerformsAsJson : JsonPlan → (status : ℕ) → (left_old left_new old new told_old told_new : Option Text) → Type 0
PerformsAsJson plan = Ends (objects.ReadsFor plan) (Quietly (objects.Prints plan)) (objects.IsRefused plan)

-- Each line of the input is answered.
abbrev pub AnswersLines : (json : Bool) → PartsPlan → (status : ℕ) → (left_old left_new old new told_old told_new : Option Text) → Type 0
AnswersLines json plan = Ends TakesAny (Quietly (parts.IsAnswered json plan)) (parts.IsRefused json plan)

abbrev pub SaysCodes : (json : Bool) → CodesPlan → (status : ℕ) → (left_old left_new old new told_old told_new : Option Text) → Type 0
SaysCodes json plan = Ends Keeps (Quietly (λ left. said.IsPrinted json plan)) (λ left. said.IsRefused json plan)

abbrev pub SaysRate : (json : Bool) → String Global → (status : ℕ) → (left_old left_new old new told_old told_new : Option Text) → Type 0
SaysRate json code status left_old left_new old new told_old told_new = MatchBool json
    (PerformsAsJson (as_json.Rate code) status left_old left_new old new told_old told_new)
    (Performs (in_words.Rate code) status left_old left_new old new told_old told_new)

-- That is done, and behind it, advice is told of a text of 53 octets.
pub record PerformsAdvised (plan : Plan) (status : ℕ) (left_old left_new old new told_old told_new : Option Text) : Type 0 where
  pub between : Option Text
  pub performs : Performs plan status left_old left_new old new told_old between
  pub advice : Tells (codes "a cell has 52 octets here: of 53, the fifth may be the HEC octet, which is left out\n") between told_new

-- whether a text has the digits of 53 octets, which a whole cell has, and advice is wanted
abbrev pub is_with_hec : (advised : Bool) → String Global → Bool
is_with_hec advised hex = advised && length (string_bytes hex) == 106

-- Without a cell, those of the lines.
abbrev pub SaysCell : (json advised : Bool) → Option (String Global) → (status : ℕ) → (left_old left_new old new told_old told_new : Option Text) → Type 0
SaysCell json advised cell status left_old left_new old new told_old told_new = MatchOption cell
    (AnswersLines json in_lines.Cells status left_old left_new old new told_old told_new)
    (λ hex. MatchBool json
    (PerformsAsJson (as_json.Cell hex) status left_old left_new old new told_old told_new)
    (MatchBool (is_with_hec advised hex)
    (PerformsAdvised (in_words.Cell hex) status left_old left_new old new told_old told_new)
    (Performs (in_words.Cell hex) status left_old left_new old new told_old told_new)))

-- The objects of some cells went out, or there is a fault, which is told.
abbrev pub ServesByObjects : (capacity : ℕ) → (cells : List Text) → (status : ℕ)
    → (left_old left_new old new told_old told_new : Option Text) → Type 0
ServesByObjects capacity cells = Ends Keeps (Quietly (λ left old new. Appends old new (port_objects capacity cells)))
    (λ left. AreUnprinted capacity cells)

abbrev pub ServesPort : (json : Bool) → (capacity : ℕ) → Option (Vec (String Global) Global) → (status : ℕ)
    → (left_old left_new old new told_old told_new : Option Text) → Type 0
ServesPort json capacity cells status left_old left_new old new told_old told_new = MatchOption cells
    (AnswersLines json (in_lines.Port capacity) status left_old left_new old new told_old told_new)
    (λ hexes. MatchBool json
    (ServesByObjects capacity (plain.texts_of hexes.items) status left_old left_new old new told_old told_new)
    (Performs (in_words.Port capacity hexes) status left_old left_new old new told_old told_new))
