-- The state of a net in words.
use Rattle.std.specs.Prelude.{ℕ, ◌+◌, true, List, [], ◌∷◌, codes}
use Rattle.abt_rate.specs.Code.{code_of}
use Rattle.abt_text.specs.Text.{Text, ◌⋅◌, code_text, decimal, newline}
use Rattle.abt_format.specs.Report.{rates_text, safe_line}
use Rattle.abt_step.specs.declared.net_state.NetState.{NetState}

abbrev pub rate_words : ℕ → Text
rate_words rate = codes " rate " ⋅ code_text (code_of rate)

-- a connection's number, its rate and what its hops hold
abbrev pub conn_words : ℕ → ℕ → List ℕ → Text
conn_words conn rate held = codes "connection " ⋅ decimal conn ⋅ rate_words rate ⋅ codes " held" ⋅ rates_text held

-- the words of connections, numbered on, each between two texts
abbrev pub conns_between : (before after : Text) → ℕ → List ℕ → List (List ℕ) → Text
conns_between before after conn (rate ∷ rates) (held ∷ more) =
    (before ⋅ conn_words conn rate held ⋅ after) ⋅ conns_between before after (conn + 1) rates more
conns_between before after conn _ _ = []

-- a port's number, its total and its capacity
abbrev pub port_words : ℕ → ℕ → ℕ → Text
port_words port total capacity =
    codes "port " ⋅ decimal port ⋅ codes " total " ⋅ decimal total ⋅ codes " capacity " ⋅ decimal capacity

abbrev pub ports_between : (before after : Text) → ℕ → List ℕ → List ℕ → Text
ports_between before after port (total ∷ totals) (capacity ∷ capacities) =
    (before ⋅ port_words port total capacity ⋅ after) ⋅ ports_between before after (port + 1) totals capacities
ports_between before after port _ _ = []

abbrev pub state_between : (before after : Text) → NetState → Text
state_between before after state =
    conns_between before after 0 state.rates state.held ⋅ ports_between before after 0 state.totals state.capacities

-- the line of a state
abbrev pub state_line : NetState → Text
state_line state = codes "state" ⋅ state_between (codes "; ") [] state ⋅ newline

-- a state as the last lines of a report have it, and that it is safe
abbrev pub report_lines : NetState → Text
report_lines state = state_between [] newline state ⋅ safe_line true
