-- As many entries fit as there are.
use Rattle.std.proofs.Common.{[], length, arith}
use Rattle.abt_audit.proofs.Settled.{fits_fewer}
use Rattle.abt_audit.proofs.one_log.deeds_verdict.Goals as goal

pub returns : goal.returns
returns c =
    fits_fewer c.args.vc [] c.args.entries.now (length c.args.entries.now) c.reach-reached.result (omega (arith, c.if-reached-entries.false))
    c.reach-reached.ensures.fits
