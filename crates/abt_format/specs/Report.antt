-- The report of a trace (docs/FORMATS.md, "Report").
use Rattle.std.specs.Prelude.{ℕ, ◌+◌, List, [], ◌∷◌, length, codes, Bool, true, false}
use Rattle.abt_rate.specs.Code.{code_of}
use Rattle.abt_model.specs.declared.outcome.Outcome.{Outcome}
use Rattle.abt_text.specs.Text.{Text, ◌⋅◌, newline, decimal, code_text}
use Rattle.abt_model.specs.declared.trace.Trace.{Trace}
use Rattle.abt_format.specs.OutcomeText.{outcome_text}

abbrev pub count_line : ℕ → Text
count_line count = codes "events " ⋅ decimal count ⋅ newline

abbrev pub outcome_line : ℕ → Outcome → Text
outcome_line number outcome = decimal number ⋅ codes " " ⋅ outcome_text outcome ⋅ newline

-- a line for each outcome, numbered on
abbrev pub outcome_lines : ℕ → List Outcome → Text
outcome_lines number [] = []
outcome_lines number (outcome ∷ outcomes) = outcome_line number outcome ⋅ outcome_lines (number + 1) outcomes

-- the code of each rate behind a space
abbrev pub rates_text : List ℕ → Text
rates_text [] = []
rates_text (rate ∷ rates) = codes " " ⋅ code_text (code_of rate) ⋅ rates_text rates

abbrev pub conn_line : ℕ → ℕ → List ℕ → Text
conn_line conn rate held =
    codes "connection " ⋅ decimal conn ⋅ codes " rate " ⋅ code_text (code_of rate) ⋅ codes " held" ⋅ rates_text held ⋅ newline

-- a line for each connection, numbered on, with its rate and what its hops hold
abbrev pub conn_lines : ℕ → List ℕ → List (List ℕ) → Text
conn_lines conn (rate ∷ rates) (held ∷ more) = conn_line conn rate held ⋅ conn_lines (conn + 1) rates more
conn_lines conn _ _ = []

abbrev pub port_line : ℕ → ℕ → ℕ → Text
port_line port total capacity =
    codes "port " ⋅ decimal port ⋅ codes " total " ⋅ decimal total ⋅ codes " capacity " ⋅ decimal capacity ⋅ newline

-- a line for each port, numbered on, with its total and its capacity
abbrev pub port_lines : ℕ → List ℕ → List ℕ → Text
port_lines port (total ∷ totals) (capacity ∷ capacities) = port_line port total capacity ⋅ port_lines (port + 1) totals capacities
port_lines port _ _ = []

abbrev pub safe_line : Bool → Text
safe_line true = codes "safe\n"
safe_line false = codes "unsafe\n"

-- the report of a trace
abbrev pub report_of : Trace → Text
report_of trace =
    count_line (length trace.outcomes)
    ⋅ outcome_lines 1 trace.outcomes
    ⋅ conn_lines 0 trace.rates trace.held
    ⋅ port_lines 0 trace.totals trace.capacities
    ⋅ safe_line trace.safe
