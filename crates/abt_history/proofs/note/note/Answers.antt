use Rattle.abt_history.proofs.Fronts.{prefix_trans}
use Rattle.abt_history.proofs.note.note.Goals as goal

pub add-requires-clause-may : goal.add-requires-clause-may
add-requires-clause-may g c = λ log pre legal count.
    c.requires.may log (prefix_trans c.args.own.now c.with-front.result log c.with-front.ensures.this pre) (prefix_trans c.args.seen.now c.with-front.result log c.with-front.ensures.that pre) legal count

pub returns-then-add : goal.returns-then-add
returns-then-add g c =
    let added = c.add.ensures.added c.if-add.true in record {
      log = added.log;
      mine = prefix_trans c.args.own.now c.with-front.result added.log c.with-front.ensures.this added.seen;
      theirs = prefix_trans c.args.seen.now c.with-front.result added.log c.with-front.ensures.that added.seen;
      legal = added.legal;
      count = added.count;
      next = added.next;
      new_is = added.new_is;
    }
