use Rattle.std.proofs.Common.{rules, arith, ◌<◌, length}
use Rattle.abt_journal_text.proofs.Pushed.{pushed_at}
use Rattle.abt_journal_text.proofs.lists.push_at.Goals as goal

pub returns-clause-ok : goal.returns-clause-ok
returns-clause-ok g c =
    let within : c.from.result < length c.args.lists.now.items = omega (arith, c.requires, c.from.ensures) in
    pushed_at c.args.lists.now.items c.from.result c.args.number c.index_mut.result.now c.push.new.self c.args.item c.from.ensures within
    c.index_mut.ensures.value c.in_ok-push.ensures.items
