use Rattle.std.proofs.Common.{◌≡◌, ℕ, ◌<◌}
use Rattle.std.specs.Prelude.{slice_index}
use Rattle.abt_c.specs.Tables.{places, chain_of, last_of, channel_of}
use Rattle.abt_c.proofs.table_state.AbtTable.link.Given as goal

abbrev pub invariant-loop-row : goal.invariant-loop-row
invariant-loop-row l = record {
  last : (k : ℕ) → k < places → slice_index l.self.last k ≡ last_of l.initial.self.rows k l.row;
  before : (i : ℕ) → i < l.row → slice_index l.self.before i ≡ last_of l.initial.self.rows (chain_of (channel_of l.initial.self.rows i)) i;
  rest : l.self ≡ record l.initial.self { last = l.self.last; before = l.self.before };
}
