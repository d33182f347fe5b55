-- Tables of connections, one after the other.
use Rattle.std.proofs.Common.{◌≡◌, ◌∙◌, ℕ, ◌+◌, ◌<◌, ◌++◌, List, length, drop, get_or, refl, ap, add-one, drop-cons, append_assoc}
use Rattle.abt_net.specs.declared.conn.Conn.{Conn}
use Rattle.abt_text.specs.Text.{◌⋅◌}
use Rattle.abt_scenario.specs.ScenarioText.{connection_table, connection_tables}

-- three pieces, one after the other
pub three : (old a b c one two new : List ℕ) → one ≡ old ++ a → two ≡ one ++ b → new ≡ two ++ c → new ≡ old ++ (a ++ (b ++ c))
three old a b c one two new first second third =
    third ∙ ap (λ l. l ++ c) (second ∙ ap (λ l. l ++ b) first) ∙ append_assoc (old ++ a) b c ∙ append_assoc old a (b ++ c)

pub next_table : (conns : List Conn) (i : ℕ) (conn : Conn) → i < length conns → conn ≡ get_or conns i conn
    → connection_tables (drop i conns) ≡ connection_table conn ⋅ connection_tables (drop (i + 1) conns)
next_table conns i conn low is = rw (drop-cons conns i conn, ← is, add-one) refl

-- a table goes from the front of what is left to the end of the text
pub table_grows : (old new table left rest whole : List ℕ) → new ≡ old ++ table → left ≡ table ++ rest → old ++ left ≡ whole → new ++ rest ≡ whole
table_grows old new table left rest whole grown first all = rw (grown, append_assoc, ← first) all
