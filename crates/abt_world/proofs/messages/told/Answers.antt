use Rattle.std.proofs.Common.{◌≡◌, sym, ap, ◌∙◌, refl, arith, length}
use Rattle.std.specs.Prelude.{if◌then◌else◌, not}
use Rattle.std.proofs.lemmas.Bool.{false≢true}
use Rattle.abt_actor.specs.Facts.{facts_in}
use Rattle.abt_actor.specs.Commands.{heard_by, command_adds}
use Rattle.abt_cell.specs.Message.{Reply, answer_to}
use Rattle.abt_facts.specs.Source.{state_of}
use Rattle.abt_model.specs.Answers.{told_answer}
use Rattle.abt_source.specs.SourceFacts.{request_of}
use Rattle.abt_model.specs.declared.command.SourceCommand.TheVariants.{Told as CommandTold}
use Rattle.abt_model.specs.declared.event.Event.TheVariants.{Told}
use Rattle.abt_model.specs.declared.outcome.Cause.TheVariants.{NotSent}
use Rattle.abt_model.specs.declared.outcome.Outcome.TheVariants.{Told as HasTold, NotEnabled}
use Rattle.abt_model.proofs.Lawful.{route_of}
use Rattle.abt_world.specs.Looked.{looks_to_take}
use Rattle.abt_world.proofs.Sendings.{happens, conn_lawful, home_asked, is_request, heard_same}
use Rattle.abt_world.proofs.messages.told.Goals as goal

pub returns-in_default-clause-outcome : goal.returns-in_default-clause-outcome
returns-in_default-clause-outcome c net past facts is at actor =
    let l = route_of c.args.conn.now in
    let lawful = conn_lawful net past c.args.place c.args.conn.now facts at in
    let r = is_request l facts lawful c.args.seq (home_asked l facts lawful c.args.seq c.args.granted (sym (c.if-not-is_home.ensures.value facts is))) in
    absurd (false≢true (c.in_default.ensures.some facts is r.asked r.positive r.order))

pub returns-clause-outcome : goal.returns-clause-outcome
returns-clause-outcome c net past facts is at actor =
    let vc = c.args.conn.now.vc in
    let home = c.if-not-is_home.ensures.value facts is in
    let carried = c.carry_out.ensures vc facts actor in
    let answer : c.of.result ≡ answer_to (request_of vc facts c.args.seq) c.args.granted = c.of.ensures ∙ ap (λ r. answer_to r c.args.granted) (c.in-Some.ensures.value facts is) in
    let heard = ap (λ (a : Reply). HasTold (heard_by vc facts (state_of facts) a)) answer ∙ ap HasTold (heard_same vc facts (state_of facts) c.args.seq c.args.granted) in (
      happens net past (Told c.args.place c.args.seq c.args.granted) c.args.place c.args.conn.now facts refl at c.carry_out.result.0 (facts_in c.carry_out.result.1)
          (carried.answer ∙ heard ∙ ap (λ b. if not b then NotEnabled NotSent else HasTold (told_answer (state_of facts) c.args.seq c.args.granted)) home)
          (carried.adds ∙ ap (λ (a : Reply). command_adds facts (CommandTold a) c.carry_out.result.0) answer),
      carried.becomes,
    )

pub returns-in_default-clause-counted : goal.returns-in_default-clause-counted
returns-in_default-clause-counted c net past facts is at actor room =
    let l = route_of c.args.conn.now in
    let lawful = conn_lawful net past c.args.place c.args.conn.now facts at in
    let r = is_request l facts lawful c.args.seq (home_asked l facts lawful c.args.seq c.args.granted (sym (c.if-not-is_home.ensures.value facts is))) in
    absurd (false≢true (c.in_default.ensures.some facts is r.asked r.positive r.order))

pub returns-clause-counted : goal.returns-clause-counted
returns-clause-counted c net past facts is at actor room =
    let carried = c.carry_out.ensures c.args.conn.now.vc facts actor in
    let took = ap (looks_to_take (length c.args.conn.now.path) (Told c.args.place c.args.seq c.args.granted)) carried.answer in
    let first = c.is_home.ensures.counted (omega arith) in
    let second = c.in-Some.ensures.counted (omega (arith, first)) in
    omega (arith, took, first, second)
