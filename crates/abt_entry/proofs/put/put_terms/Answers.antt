-- The channel, and then the number and the rates.
use Rattle.abt_entry.specs.Written.{channel_tokens, asked_tokens}
use Rattle.abt_entry.proofs.Puts.{joined}
use Rattle.abt_entry.proofs.put.put_terms.Goals as goal

pub returns : goal.returns
returns c =
    joined c.put_asked.result c.args.writer.now c.put_channel_of.new.writer c.put_asked.new.writer
    (channel_tokens c.args.request.now.vc) (asked_tokens c.args.request.now)
    c.in_ok-put_channel_of.ensures.ok c.put_channel_of.ensures.before c.put_asked.ensures
