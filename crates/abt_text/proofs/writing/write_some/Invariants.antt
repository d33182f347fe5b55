-- Nothing went out yet.
use Rattle.std.specs.Io.KnownBytes.{Keeps}
use Rattle.abt_text.proofs.writing.write_some.Given as goal

abbrev pub invariant-loop-try : goal.invariant-loop-try
invariant-loop-try g l = record {
  kept : Keeps (g.W.Write.contents l.initial.writer) (g.W.Write.contents l.writer);
}
