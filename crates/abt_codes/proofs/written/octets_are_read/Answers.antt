-- Octets are bytes.
use Rattle.std.proofs.Common.{arith}
use Rattle.abt_codes.proofs.ReadBack.{read_back}
use Rattle.abt_codes.proofs.written.octets_are_read.Goals as goal

pub returns : goal.returns
returns c =
    read_back c.args.rm.now c.args.octets.now c.requires.written (λ place. omega (arith, c.type_inv.octets place)) c.requires.long c.requires.read
