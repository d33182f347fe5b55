-- With the ports that are left, and the end, there will be all columns of the path.
use Rattle.std.proofs.Common.{◌≡◌, ◌++◌, [], ◌∷◌, drop, map}
use Rattle.std.specs.Prelude.{fold}
use Rattle.abt_draw.specs.Columns.{with_column, along}
use Rattle.abt_draw.specs.declared.actor.Actor.TheVariants.{Port, End}
use Rattle.abt_draw.proofs.actor.add_path.Given as goal

abbrev pub invariant-loop-port : goal.invariant-loop-port
invariant-loop-port l =
    fold with_column l.columns (map Port (drop l.port-index l.path) ++ End l.conn ∷ []) ≡ fold with_column l.fn.columns (along l.conn l.path)
