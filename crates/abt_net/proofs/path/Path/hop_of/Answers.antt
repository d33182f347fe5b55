use Rattle.std.proofs.Common.{rules, arith, sym}
use Rattle.abt_net.proofs.PathLemmas.{hop_of-least, hop_of-nowhere}
use Rattle.abt_net.proofs.path.Path.hop_of.Goals as goal

pub returns-in_err-place-clause-none : goal.returns-in_err-place-clause-none
returns-in_err-place-clause-none c =
    let nowhere = hop_of-nowhere c.args.self.now c.args.port (rw c.as_slice.ensures at c.in_err-place.ensures.value) in
    (λ none. nowhere, λ zero. search rules)

pub returns-clause-none : goal.returns-clause-none
returns-clause-none c =
    let at = hop_of-least c.args.self.now c.args.port c.in_ok-place.place (rw c.as_slice.ensures at c.in_ok-place.ensures.value) in
    (λ none. absurd (cc), λ zero. absurd (omega (arith, at, zero)))

pub returns-clause-some : goal.returns-clause-some
returns-clause-some c =
    sym (hop_of-least c.args.self.now c.args.port c.in_ok-place.place (rw c.as_slice.ensures at c.in_ok-place.ensures.value))

pub returns-clause-within : goal.returns-clause-within
returns-clause-within c = omega (arith, rw c.as_slice.ensures at c.in_ok-place.ensures.within)
