use Rattle.abt_commands.proofs.audit_log.audit_log.Goals as goal

pub returns : goal.returns
returns g c = record {
  status_is = c.judge_texts.ensures.status;
  takes = c.judge_texts.ensures.reads;
  done = λ done. record { prints = c.judge_texts.ensures.ok done; quiet = c.judge_texts.ensures.quiet done };
  refused = c.judge_texts.ensures.err;
}
