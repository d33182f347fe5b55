-- The run that is shown is the one whose events are written.
use Rattle.std.proofs.Common.{inr, refl}
use Rattle.std.proofs.KnownBytes.{Keeps-trans}
use Rattle.abt_commands.proofs.audit.audit_journals.Goals as goal

pub returns-in-Ok : goal.returns-in-Ok
returns-in-Ok g c = record {
  status_is = c.save_audited.ensures.status;
  takes = c.show_texts.ensures.reads;
  done = λ done. record {
    run = c.in-Ok.run';
    audited = c.in-Ok.ensures.ok;
    saved = c.save_audited.ensures.ok done;
    quiet = Keeps-trans _ _ _ (c.in-Ok.ensures.quiet refl) (c.save_audited.ensures.quiet done);
  };
  refused = λ failed. inr (record {
    run = c.in-Ok.run';
    audited = c.in-Ok.ensures.ok;
    between = _;
    quiet = c.in-Ok.ensures.quiet refl;
    unsaved = c.save_audited.ensures.err failed;
  });
}
