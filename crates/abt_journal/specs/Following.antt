-- Messages that are sent after a port's reply (docs/RULES.md, "Path").
use Rattle.std.specs.Prelude.{ℕ, ◌-◌, ◌==◌, ◌&&◌, not, Bool, true, List, length, slice_index, if◌then◌else◌}
use Rattle.abt_cell.specs.Channel.{Channel, same_channel}
use Rattle.abt_cell.specs.Message.{Terms, Reply, answer_to}
use Rattle.abt_cell.specs.Codec.{request_of}
use Rattle.abt_cell.specs.declared.message.Rm.{Rm}
use Rattle.abt_cell.specs.declared.message.Rm.TheVariants.{Request, Answer}
use Rattle.abt_node.specs.declared.reply.Onward.TheVariants.{Pass, Refuse}
use Rattle.abt_node.specs.declared.reply.Back.TheVariants.{Pass as PassBack}
use Rattle.abt_journal.specs.declared.input.PortReply.{PortReply}
use Rattle.abt_journal.specs.declared.input.PortReply.TheVariants.{Requested, Answered}
use Rattle.abt_journal.specs.declared.next_message.Next.{Next}
use Rattle.abt_journal.specs.declared.next_message.Next.TheVariants.{Send, Tell, Nothing}

-- the channel of a message
abbrev pub channel_of : Rm → Channel
channel_of rm = (request_of rm).vc

-- an answer goes back from hop j to the hop before, and from the first hop to the source of its connection c
abbrev pub back_from : List ℕ → (c j : ℕ) → Reply → Next
back_from path c j answer = if j == 1 then Tell c answer else Send (slice_index path (j - 2)) (Answer answer)

-- a request goes on from hop j to the next one; from the last hop nothing goes on, and the yes begins its way there
abbrev pub on_from : List ℕ → (j : ℕ) → Terms → Next
on_from path j request =
    if j == length path
    then Send (slice_index path (j - 1)) (Answer (answer_to request true))
    else Send (slice_index path j) (Request request)

-- whether an answer is the no to a request
abbrev pub is_no_to : Terms → Reply → Bool
is_no_to request answer =
    not answer.granted
    && same_channel answer.terms.vc request.vc
    && answer.terms.seq == request.seq
    && answer.terms.floor == request.floor
    && answer.terms.ask == request.ask

-- the message that is sent after hop j of connection c replied so to one; a drop ends its way
abbrev pub sent_after : List ℕ → (c j : ℕ) → Rm → PortReply → Next
sent_after path c j (Request request) (Requested Pass) = on_from path j request
sent_after path c j (Request request) (Requested (Refuse answer)) =
    if is_no_to request answer then back_from path c j answer else Nothing
sent_after path c j (Answer answer) (Answered PassBack) = back_from path c j answer
sent_after path c j rm reply = Nothing
