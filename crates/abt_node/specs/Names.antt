-- The names of the causes of a drop, as programs print them.
use Rattle.std.specs.Prelude.{ℕ, List, codes}
use Rattle.abt_node.specs.declared.reply.DropCause.{DropCause}
use Rattle.abt_node.specs.declared.reply.DropCause.TheVariants.{UnknownVc, Stale, Conflict, FloorAbove}

abbrev pub drop_name : DropCause → List ℕ
drop_name UnknownVc = codes "UnknownVc"
drop_name Stale = codes "Stale"
drop_name Conflict = codes "Conflict"
drop_name FloorAbove = codes "FloorAbove"
