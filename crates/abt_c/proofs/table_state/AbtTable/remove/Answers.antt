use Rattle.std.proofs.Common.{◌-◌, ap, arith}
use Rattle.abt_c.specs.declared.table_state.AbtTable.{AbtTable}
use Rattle.abt_c.proofs.RemovalLemmas.{IsWithout, table_without, unknown_without, others_without}
use Rattle.abt_c.proofs.table_state.AbtTable.remove.Goals as goal

gone : (c : goal.After-link) → IsWithout c.args.self.now c.link.new.self c.args.row (c.args.self.now.count - 1)
gone c = record {
  low = c.requires.row;
  next = omega arith;
  kind = ap (λ (t : AbtTable). t.kind) c.link.ensures.rest;
  port = ap (λ (t : AbtTable). t.port) c.link.ensures.rest;
  count = ap (λ (t : AbtTable). t.count) c.link.ensures.rest;
  rows = ap (λ (t : AbtTable). t.rows) c.link.ensures.rest;
  policers = ap (λ (t : AbtTable). t.policers) c.link.ensures.rest;
  long = omega arith;
  policers_long = omega arith;
}

pub returns-clause-state : goal.returns-clause-state
returns-clause-state c is none =
    table_without c.args.self.now c.link.new.self c.args.row (c.args.self.now.count - 1) is (gone c) none c.link.ensures.last c.link.ensures.before

pub returns-clause-others : goal.returns-clause-others
returns-clause-others c is = others_without c.args.self.now c.link.new.self c.args.row (c.args.self.now.count - 1) is (gone c)

pub returns-clause-gone : goal.returns-clause-gone
returns-clause-gone c is = unknown_without c.args.self.now c.link.new.self c.args.row (c.args.self.now.count - 1) is (gone c)
