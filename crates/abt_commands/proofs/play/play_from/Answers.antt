-- The play that was shown is the one whose events are written and drawn.
use Rattle.std.proofs.Common.{inr}
use Rattle.abt_commands.proofs.play.play_from.Goals as goal

pub returns-in-Ok : goal.returns-in-Ok
returns-in-Ok g c = record {
  status_is = c.keep_play.ensures.status;
  takes = c.show_play.ensures.reads;
  done = λ done. record {
    shown = c.in-Ok.shown;
    shows = c.in-Ok.ensures.ok;
    kept = c.keep_play.ensures.ok done;
    quiet = c.keep_play.ensures.quiet done;
  };
  refused = λ failed. inr (record { shown = c.in-Ok.shown; shows = c.in-Ok.ensures.ok; unkept = c.keep_play.ensures.err failed });
}
