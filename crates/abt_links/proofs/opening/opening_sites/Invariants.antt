use Rattle.std.specs.Prelude.{◌≡◌, ◌+◌, length, vec_len, vec_items}
use Rattle.abt_links.specs.Lines.{HaveBegunFrom}
use Rattle.abt_links.proofs.opening.opening_sites.Given as goal

abbrev pub invariant-loop-conn : goal.invariant-loop-conn
invariant-loop-conn g l = (vec_len l.sites ≡ l.conn) × HaveBegunFrom l.net 0 (vec_items l.sites) × (l.book ≡ length l.net.capacities + l.conn)
