use Rattle.abt_serving.proofs.Messages.{message_comes, message_stays}
use Rattle.abt_serving.proofs.laws.sent_messages_come.Goals as goal

pub returns : goal.returns
returns c = record { comes = message_comes; stays = message_stays }
