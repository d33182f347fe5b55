-- A file more is told behind those before it, or isn't.
use Rattle.std.proofs.Common.{◌≡◌, ◌∙◌, ◌+◌, ◌<◌, ◌||◌, Bool, ap, arith, length, subst, sym, take}
use Rattle.abt_commands.specs.CheckedFiles.{AreTold, AreToldPart}
use Rattle.abt_commands.proofs.FilesTold.{carried, next_file, untold_file}
use Rattle.abt_commands.proofs.check_files.each_told.Goals as goal
use Rattle.abt_commands.proofs.check_files.each_told.Goals.{then-is_faulty, else-is_faulty}

pub returns-in_err-more-clause-err : goal.returns-in_err-more-clause-err
returns-in_err-more-clause-err g c =
    let old = g.W.Write.contents c.args.out.now in
    let new = g.W.Write.contents c.file_told.new.out in
    let low : c.loop-index.index < length c.args.names.now = omega (arith, c.loop-index-test.true) in
    let untold = rw c.as_str.ensures.value at c.in_err-more.ensures.err in
    carried (λ fault. AreToldPart c.args.form c.args.names.now fault old new)
    c.from_residual.result c.in_err-more.field-0.0 c.from_residual.ensures.1
    (untold_file c.args.form c.loop-index.index c.args.names.now c.index-names-index.result c.loop-index.is_faulty c.in_err-more.field-0.0
    old (g.W.Write.contents c.loop-index.out) new low c.index-names-index.is c.loop-index.invariant untold)

pub loop-index-preserved : goal.loop-index-preserved
loop-index-preserved g c =
    let old = g.W.Write.contents c.args.out.now in
    let new = g.W.Write.contents c.file_told.new.out in
    let more = c.in_ok-more.more in
    let low : c.loop-index.index < length c.args.names.now = omega (arith, c.loop-index-test.true) in
    let told = rw c.as_str.ensures.value at c.in_ok-more.ensures.ok in
    let joined : c.if-is_faulty.is_faulty ≡ c.loop-index.is_faulty || more = elim c.if-is_faulty.branch [
      | then-is_faulty w ↦ w.is_faulty-is ∙ w.if-is_faulty.true ∙ ap (λ (b : Bool). b || more) (sym w.if-is_faulty.true)
      | else-is_faulty w ↦ w.is_faulty-is ∙ ap (λ (b : Bool). b || more) (sym w.if-is_faulty.false)
    ] in
    subst (λ b. AreTold c.args.form 1 (take (c.loop-index.index + 1) c.args.names.now) b old new) (sym joined)
    (next_file c.args.form c.loop-index.index c.args.names.now c.index-names-index.result c.loop-index.is_faulty more
    old (g.W.Write.contents c.loop-index.out) new low c.index-names-index.is c.loop-index.invariant told)
