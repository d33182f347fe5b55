-- Lines of differences, event by event.
use Rattle.std.proofs.Common.{◌≡◌, ◌∙◌, ◌+◌, ◌<◌, ◌++◌, ℕ, suc, String, List, [], ◌∷◌, length, drop, map, get_or, refl, ap, add-one, drop-cons, append_assoc, string_bytes}
use Rattle.std.specs.declared.alloc.Global.{Global}
use Rattle.abt_format.specs.OutcomeText.{outcome_text}
use Rattle.abt_model.specs.Outcomes.{after_event}
use Rattle.abt_model.specs.Past.{Past}
use Rattle.abt_model.specs.Run.{outcomes_from}
use Rattle.abt_model.specs.declared.event.Event.{Event}
use Rattle.abt_model.specs.declared.outcome.Outcome.{Outcome}
use Rattle.abt_net.specs.Topology.{Topology}
use Rattle.abt_check.specs.Tests.{difference_line, difference_lines}

-- each event has one outcome
pub outcomes_length : (net : Topology) (past : Past) (events : List Event) → length (outcomes_from net past events) ≡ length events
outcomes_length net past [] = refl
outcomes_length net past (event ∷ events) = ap suc (outcomes_length net (after_event net past event) events)

dropped : {A : Type 0} (i : ℕ) (xs : List A) (x : A) → i < length xs → x ≡ get_or xs i x → drop i xs ≡ x ∷ drop (i + 1) xs
dropped i xs x low is = rw (drop-cons xs i x, ← is, add-one) refl

pub next_difference : (number i : ℕ) (outcomes : List Outcome) (texts : List (String Global)) (outcome : Outcome) (text : String Global)
    → i < length outcomes → i < length texts → outcome ≡ get_or outcomes i outcome → text ≡ get_or texts i text
    → difference_lines number (drop i outcomes) (map string_bytes (drop i texts))
    ≡ difference_line number (string_bytes text) (outcome_text outcome)
    ++ difference_lines (number + 1) (drop (i + 1) outcomes) (map string_bytes (drop (i + 1) texts))
next_difference number i outcomes texts outcome text low few is same =
    ap (λ (os : List Outcome). difference_lines number os (map string_bytes (drop i texts))) (dropped i outcomes outcome low is)
    ∙ ap (λ (ts : List (String Global)). difference_lines number (outcome ∷ drop (i + 1) outcomes) (map string_bytes ts)) (dropped i texts text few same)

-- a line goes from the front of what is left to the end of the text
pub grows : (old new line left rest whole : List ℕ) → new ≡ old ++ line → left ≡ line ++ rest → old ++ left ≡ whole → new ++ rest ≡ whole
grows old new line left rest whole grown first all = rw (grown, append_assoc, ← first) all
