-- There are as many columns as a picture may have, or fewer; with those along the paths that are left they are all.
use Rattle.std.proofs.Common.{◌≡◌, ◌≤◌, length, drop}
use Rattle.std.specs.Prelude.{fold}
use Rattle.abt_draw.specs.Columns.{with_column, along_all, columns_of}
use Rattle.abt_draw.proofs.actor.columns_of.Given as goal

abbrev pub invariant-loop-place : goal.invariant-loop-place
invariant-loop-place l = record {
  few : length l.columns ≤ 1024;
  all : fold with_column l.columns (along_all l.only l.place (drop l.place l.net.conns)) ≡ columns_of l.net l.only;
}
