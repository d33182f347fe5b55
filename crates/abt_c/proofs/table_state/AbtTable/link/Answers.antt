use Rattle.std.proofs.Common.{refl, ap, ◌∙◌, arith}
use Rattle.std.specs.Prelude.{slice_set, slice_index}
use Rattle.std.proofs.lemmas.List.{get_or-replicate}
use Rattle.abt_c.specs.Tables.{places, nowhere, chain_of, channel_of, last_of}
use Rattle.abt_c.specs.declared.table_state.AbtTable.{AbtTable}
use Rattle.abt_c.proofs.RemovalLemmas.{link_last, link_before}
use Rattle.abt_c.proofs.table_state.AbtTable.link.Goals as goal

pub loop-row-init : goal.loop-row-init
unfolding last_of
loop-row-init c = record {
  last = λ k low. get_or-replicate places k nowhere 0 low;
  before = λ i below. absurd (omega arith);
  rest = refl;
}

pub loop-row-preserved : goal.loop-row-preserved
loop-row-preserved c =
    let rows = ap (λ (t : AbtTable). t.rows) c.loop-row.invariant.rest in
    let own = c.chain_by-chain.ensures.value ∙ ap (λ xs. chain_of (channel_of xs c.loop-row.row)) rows in
    record {
      last = link_last c.args.self.now.rows c.loop-row.self.last c.chain_by-chain.result c.loop-row.row c.loop-row.invariant.last (omega arith) own;
      before = link_before c.args.self.now.rows c.loop-row.self.last c.loop-row.self.before c.chain_by-chain.result c.loop-row.row c.loop-row.invariant.last c.loop-row.invariant.before (omega arith) own c.chain_by-chain.ensures.within;
      rest = ap (λ (t : AbtTable). record t { last = slice_set c.loop-row.self.last c.chain_by-chain.result c.loop-row.row; before = slice_set c.loop-row.self.before c.loop-row.row (slice_index c.loop-row.self.last c.chain_by-chain.result) }) c.loop-row.invariant.rest;
    }
