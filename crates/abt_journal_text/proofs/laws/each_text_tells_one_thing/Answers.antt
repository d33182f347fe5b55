use Rattle.abt_journal_text.proofs.OneReading.{reads_one}
use Rattle.abt_journal_text.proofs.laws.each_text_tells_one_thing.Goals as goal

pub returns : goal.returns
returns c = record { reading = reads_one }
