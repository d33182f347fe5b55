-- What a port's reply leaves.
use Rattle.abt_journal.specs.declared.next_message.Next.{Next}
use Rattle.abt_journal.specs.declared.next_message.Next.TheVariants as next
use Rattle.abt_history.specs.declared.left.LeftOf.{LeftOf}
use Rattle.abt_history.specs.declared.left.LeftOf.TheVariants.{ToPort, ToSource, Nothing}

-- the message, without what was seen
abbrev pub next_in : {K Front Tally : Type 0} → LeftOf K Front Tally → Next
next_in (ToPort letter) = next.Send letter.port letter.message
next_in (ToSource notice) = next.Tell notice.conn notice.answer
next_in Nothing = next.Nothing
