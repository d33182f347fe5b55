-- Not all of what is said is written.
use Rattle.std.proofs.Common.{inr}
use Rattle.abt_commands.specs.CheckedFiles.{IsSaidOf, IsUntold}
use Rattle.abt_commands.proofs.FilesTold.{carried}
use Rattle.abt_commands.proofs.check_files.file_told.Goals as goal

pub returns-in_err-put_said-clause-err : goal.returns-in_err-put_said-clause-err
returns-in_err-put_said-clause-err g c =
    let old = g.W.Write.contents c.args.out.now in
    let new = g.W.Write.contents c.put_said.new.out in
    let unwritten = c.in_err-put_said.ensures.err in
    carried (λ fault. IsUntold (IsSaidOf c.args.form c.args.number c.args.name.now) fault old new)
    c.from_residual-in_err-put_said.result c.in_err-put_said.field-0.0 c.from_residual-in_err-put_said.ensures.1
    (inr (unwritten.0, (c.in_ok-said.said, c.in_ok-said.ensures, unwritten.1)))
