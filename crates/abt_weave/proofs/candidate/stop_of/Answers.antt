use Rattle.std.proofs.Common.{◌≡◌, ℕ, ◌≤◌, length, Option, Some, refl, ap, sym, subst, ◌∙◌, arith}
use Rattle.std.proofs.lemmas.Bool.{false≢true}
use Rattle.abt_net.specs.declared.conn.Conn.{Conn}
use Rattle.abt_net.specs.Paths.{hop_of}
use Rattle.abt_weave.specs.declared.candidate.HopOnPath.{HopOnPath}
use Rattle.abt_weave.proofs.Stopping.{stop_found, stop_only}
use Rattle.abt_weave.proofs.candidate.stop_of.Goals as goal

pub returns-in_err-hop-clause-only : goal.returns-in_err-hop-clause-only
returns-in_err-hop-clause-only c d hop stop =
    let is = rw (c.conns-conns.ensures.value, c.from.ensures) at c.index-conns-from.is in
    let only = stop_only c.args.net.now c.in_ok-vc.vc c.args.input.now c.args.port d hop c.in_ok-conn.conn c.index-conns-from.result c.in_ok-vc.ensures c.find.ensures.rules c.in_ok-conn.ensures.within is c.in_ok-conn.ensures.only stop in
    let read = ap (λ (x : Conn). hop_of x.path c.args.port) c.index-conns-from.is in
    absurd (omega (arith, only.1, only.2, read, c.in_err-hop.ensures.none.0 refl))

pub returns-clause-some : goal.returns-clause-some
returns-clause-some c =
    let is = rw (c.conns-conns.ensures.value, c.from.ensures) at c.index-conns-from.is in
    let at = c.in_ok-hop.ensures.some ∙ ap (λ (x : Conn). hop_of x.path c.args.port) (sym c.index-conns-from.is) in
    let high = subst (λ (x : Conn). c.in_ok-hop.hop ≤ length x.path) (sym c.index-conns-from.is) c.in_ok-hop.ensures.within in
    stop_found c.args.net.now c.in_ok-vc.vc c.args.input.now c.args.port c.in_ok-conn.conn c.in_ok-hop.hop c.index-conns-from.result c.in_ok-vc.ensures c.in_ok-conn.ensures.within is
    c.in_ok-conn.ensures.value at high (λ zero. false≢true (sym (c.in_ok-hop.ensures.none.1 (sym c.in_ok-hop.ensures.some ∙ zero))))

pub returns-clause-only : goal.returns-clause-only
returns-clause-only c d hop stop =
    let is = rw (c.conns-conns.ensures.value, c.from.ensures) at c.index-conns-from.is in
    let only = stop_only c.args.net.now c.in_ok-vc.vc c.args.input.now c.args.port d hop c.in_ok-conn.conn c.index-conns-from.result c.in_ok-vc.ensures c.find.ensures.rules c.in_ok-conn.ensures.within is c.in_ok-conn.ensures.only stop in
    let at = c.in_ok-hop.ensures.some ∙ ap (λ (x : Conn). hop_of x.path c.args.port) (sym c.index-conns-from.is) in
    let make : ℕ → ℕ → Option HopOnPath = λ x y. Some (record { conn = x; hop = y }) in
    ap (λ x. make x c.in_ok-hop.hop) only.0 ∙ ap (make d) (at ∙ only.1)
