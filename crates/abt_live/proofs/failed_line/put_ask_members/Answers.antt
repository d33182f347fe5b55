-- The rate, and then the store.
use Rattle.std.specs.Prelude.{[], ◌∷◌, codes}
use Rattle.json.specs.Token as token
use Rattle.abt_entry.specs.Members.{member_name}
use Rattle.abt_entry.specs.Written.{rate_text}
use Rattle.abt_entry.specs.declared.member.Member.TheVariants as of
use Rattle.abt_entry.proofs.Puts.{joined}
use Rattle.abt_live.proofs.failed_line.put_ask_members.Goals as goal

pub returns : goal.returns
returns c =
    joined c.put_word.result c.args.writer.now c.put_rate.new.writer c.put_word.new.writer
    (token.key (member_name of.Ask) ∷ token.string (rate_text c.args.rate) ∷ [])
    (token.key (member_name of.Store) ∷ token.string (codes "failed") ∷ [])
    c.in_ok-put_rate.ensures.ok c.put_rate.ensures.before c.put_word.ensures
