use Rattle.abt_journal_text.proofs.Whole.{round_trip}
use Rattle.abt_journal_text.proofs.line_laws.what_is_written_is_read.Goals as goal

pub returns : goal.returns
returns c = record { read = round_trip }
