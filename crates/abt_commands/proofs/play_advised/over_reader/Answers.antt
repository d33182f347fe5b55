-- The text that was read is the one of which advice is told.
use Rattle.std.proofs.Common.{inr, rules}
use Rattle.abt_commands.proofs.play_advised.over_reader.Goals as goal

pub returns-in-Ok : goal.returns-in-Ok
returns-in-Ok g c = record {
  status_is = c.over_text.ensures.status;
  takes = c.octets_of.ensures.stops;
  done = λ done. record { source = c.as_slice.result.now; is_left = search rules; of_text = c.over_text.ensures.ok done };
  refused = λ failed. inr (record { source = c.as_slice.result.now; is_left = search rules; of_text = c.over_text.ensures.err failed });
}
