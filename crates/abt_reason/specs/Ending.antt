-- Who holds what in the end.
use Rattle.std.specs.Prelude.{ℕ, ◌+◌, List, [], ◌∷◌, codes}
use Rattle.abt_cell.specs.Channel.{Channel}
use Rattle.abt_net.specs.declared.conn.Conn.{Conn}
use Rattle.abt_net.specs.Topology.{Topology}
use Rattle.abt_format.specs.Report.{safe_line}
use Rattle.abt_text.specs.Text.{Text, ◌⋅◌, newline, decimal}
use Rattle.abt_model.specs.declared.trace.Trace.{Trace}
use Rattle.abt_format.specs.Measures.{cells_text}

-- the rate that each port of a path holds, the first first
abbrev pub held_text : (path held : List ℕ) → Text
held_text (port ∷ path) (rate ∷ held) = codes ", port " ⋅ decimal port ⋅ codes " holds " ⋅ cells_text rate ⋅ held_text path held
held_text path held = []

abbrev pub conn_line : ℕ → Conn → ℕ → List ℕ → Text
conn_line c conn rate held =
    codes "connection " ⋅ decimal c ⋅ codes " (" ⋅ decimal conn.vc.vpi ⋅ codes "/" ⋅ decimal conn.vc.vci ⋅ codes "): its source shapes at "
    ⋅ cells_text rate ⋅ codes " cells/s" ⋅ held_text conn.path held ⋅ newline

abbrev pub conn_lines : ℕ → List Conn → List ℕ → List (List ℕ) → Text
conn_lines c (conn ∷ conns) (rate ∷ rates) (held ∷ more) = conn_line c conn rate held ⋅ conn_lines (c + 1) conns rates more
conn_lines c conns rates more = []

abbrev pub port_line : (port total capacity : ℕ) → Text
port_line port total capacity =
    codes "port " ⋅ decimal port ⋅ codes ": " ⋅ decimal total ⋅ codes " of " ⋅ decimal capacity ⋅ codes " units, "
    ⋅ cells_text total ⋅ codes " of " ⋅ cells_text capacity ⋅ codes " cells/s" ⋅ newline

abbrev pub port_lines : ℕ → List ℕ → List ℕ → Text
port_lines port (total ∷ totals) (capacity ∷ capacities) = port_line port total capacity ⋅ port_lines (port + 1) totals capacities
port_lines port totals capacities = []

abbrev pub ending_text : List Conn → Trace → Text
ending_text conns trace =
    conn_lines 0 conns trace.rates trace.held ⋅ port_lines 0 trace.totals trace.capacities ⋅ safe_line trace.safe
