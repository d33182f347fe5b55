-- A run leaves a journal for each source.
use Rattle.std.proofs.Common.{◌≡◌, ℕ, suc, ◌+◌, List, [], ◌∷◌, length, refl, ap}
use Rattle.abt_net.specs.declared.conn.Conn.{Conn}
use Rattle.abt_journal.specs.declared.entry.Entry.{Entry}
use Rattle.abt_model.specs.declared.script_command.Command.{Command}
use Rattle.abt_model.specs.declared.journal.SourceJournal.{SourceJournal}
use Rattle.abt_links.specs.Runs.{AreRunsFrom}

pub sources_count : (c : ℕ) (conns : List Conn) (scripts : List (List Command)) (journals : List (List Entry)) (sources : List SourceJournal)
    → AreRunsFrom c conns scripts journals sources → length sources ≡ length conns
sources_count c [] [] journals [] ran = refl
sources_count c [] [] journals (source ∷ sources) ran = absurd ran
sources_count c [] (script ∷ scripts) journals sources ran = absurd ran
sources_count c (conn ∷ conns) [] journals sources ran = absurd ran
sources_count c (conn ∷ conns) (script ∷ scripts) journals [] ran = absurd ran
sources_count c (conn ∷ conns) (script ∷ scripts) journals (source ∷ sources) ran =
    ap suc (sources_count (c + 1) conns scripts journals sources ran.1)
