-- A shaper that is handed moments line by line (docs/FORMATS.md, "Parts by hand").
use Rattle.std.specs.Prelude.{◌≡◌, ℕ, ◌+◌, ◌==◌, nat_lt, max, if◌then◌else◌, List, [], Option, Some, codes}
use Rattle.abt_rate.specs.Limits.{emit_max}
use Rattle.abt_rate.specs.Rate.{spacing_of}
use Rattle.abt_shaper.specs.Shaping.{Shaping}
use Rattle.abt_text.specs.Text.{Text, ◌⋅◌, decimal}
use Rattle.abt_lines.specs.Runs.{Ends, Steps}
use Rattle.abt_parts.specs.declared.fault.LineFault.TheVariants.{TimeRange, Zero}
use Rattle.abt_parts.specs.declared.shape.ShapedLines.{ShapedLines}
use Rattle.abt_parts.specs.Lines.{IsAnswer, answers_of, fault_text, moment_of, past_moment, to_moment}

-- a cell leaves as soon as it is ready and the shaper lets it
abbrev pub leaves_at : Shaping → ℕ → ℕ
leaves_at shaping ready = max ready shaping.next

abbrev pub leaving_text : (ready leaves next : ℕ) → Text
leaving_text ready leaves next =
    codes "ready " ⋅ decimal ready ⋅ codes " leaves " ⋅ decimal leaves ⋅ codes " next " ⋅ decimal next

-- a cell that is ready at a moment: too late, or without a rate, it has a fault, and changes nothing
abbrev pub ready_text : Shaping → (rate ready : ℕ) → Text
ready_text shaping rate ready =
    if nat_lt emit_max (leaves_at shaping ready) then fault_text TimeRange
    else if rate == 0 then fault_text Zero
    else leaving_text ready (leaves_at shaping ready) (leaves_at shaping ready + spacing_of rate)

abbrev pub past_ready : Shaping → (rate ready : ℕ) → Shaping
past_ready shaping rate ready =
    if nat_lt emit_max (leaves_at shaping ready) then shaping
    else if rate == 0 then shaping
    else record { next = leaves_at shaping ready + spacing_of rate; emitted = Some (leaves_at shaping ready) }

-- the answer to a line, and the shaper then
abbrev pub shaped_text : (rate : ℕ) → Shaping → Option Text → Text
shaped_text rate shaping line = to_moment (ready_text shaping rate) (moment_of line)

abbrev pub shaped_past : (rate : ℕ) → Shaping → Option Text → Shaping
shaped_past rate shaping line = past_moment (past_ready shaping rate) shaping (moment_of line)

-- the steps of a shaper over lines, whose rate stays; nothing is said behind the last
abbrev pub ShapesLine : Steps ShapedLines
ShapesLine old number line said new =
    IsAnswer (shaped_text old.rate) (shaped_past old.rate) old.shaper number line said new.shaper × (new.rate ≡ old.rate)

abbrev pub EndsShaping : Ends ShapedLines
EndsShaping last number said = said ≡ []

-- the answers to some lines, the first of this number; nothing is said behind the last
abbrev pub shaped_lines : (rate : ℕ) → Shaping → ℕ → List (Option Text) → Text
shaped_lines rate = answers_of (shaped_text rate) (shaped_past rate) (λ _. [])
