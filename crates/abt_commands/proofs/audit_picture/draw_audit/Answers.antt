-- What is shown is drawn, or isn't; and what is told of a picture comes behind what an audit tells.
use Rattle.std.proofs.Common.{inl, inr, refl, rules}
use Rattle.std.proofs.KnownBytes.{Keeps-trans}
use Rattle.abt_commands.proofs.audit_picture.draw_audit.Goals as goal

pub returns-in-Ok : goal.returns-in-Ok
returns-in-Ok g c = record {
  status_is = c.keep_audited.ensures.status;
  takes = c.show_texts.ensures.reads;
  done = λ done. record {
    run = c.in-Ok.run';
    audited = c.in-Ok.ensures.ok;
    saved = c.keep_audited.ensures.ok done;
    quiet = Keeps-trans _ _ _ (c.in-Ok.ensures.quiet refl) (c.keep_audited.ensures.quiet done);
  };
  refused = λ _. inr (record { run = c.in-Ok.run'; audited = c.in-Ok.ensures.ok });
}

pub returns-in-Err : goal.returns-in-Err
returns-in-Err g c = record {
  status_is = inr refl;
  takes = c.show_texts.ensures.reads;
  done = search rules;
  refused = λ _. inl (record {
    first = _;
    unaudited = c.in-Err.ensures.err refl;
    second = _;
    unsaved = c.save_left-saved.ensures.told;
    undrawn = elim c.draw_left-drawn.ensures.status [
      | inl drawn ↦ inl (c.draw_left-drawn.ensures.quiet drawn)
      | inr undrawn ↦ inr (c.draw_left-drawn.ensures.told undrawn)
    ];
  });
}
