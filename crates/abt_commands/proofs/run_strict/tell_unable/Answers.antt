-- What is told is of the event that was found.
use Rattle.std.proofs.Common.{◌∙◌, inl}
use Rattle.abt_commands.proofs.run_strict.tell_unable.Goals as goal

pub returns-in-Ok-clause-told : goal.returns-in-Ok-clause-told
returns-in-Ok-clause-told g c = inl (record {
  first = c.args.first.now;
  unable = c.requires;
  text = c.as_str.result.now;
  said = c.as_str.ensures.value ∙ c.in-Ok.ensures;
  told = c.tell_text.ensures;
})
