-- A port takes an input.
use Rattle.std.proofs.Common.{◌≡◌, ◌∙◌, ◌<◌, inr, ap, sym, subst, length, refl, true, false}
use Rattle.std.specs.Prelude.{None, Some, slice_get, slice_set}
use Rattle.std.proofs.lemmas.Option.{slice_get-get_or}
use Rattle.abt_journal.specs.Replay.{reply_by}
use Rattle.abt_lines.specs.Served.{AppendsFront}
use Rattle.std.specs.Io.KnownBytes.{Appends}
use Rattle.abt_live.specs.declared.fault.LiveFault.TheVariants.{Port, UnknownVc}
use Rattle.abt_live.specs.declared.live_port.LivePort.{LivePort}
use Rattle.abt_live.specs.Ports.{entry_at, knows, switch_line}
use Rattle.abt_live.specs.Said.{IsSaid}
use Rattle.abt_live.specs.Switch.{place_of}
use Rattle.abt_live.specs.SwitchRecords.{answer_text}
use Rattle.abt_live.proofs.Fronts.{on_err}
use Rattle.abt_live.proofs.SwitchSteps.{same_port, served, unserved}
use Rattle.abt_live.proofs.switch.SwitchLines.step.Goals as goal

pub returns-in_default-clause-ok : goal.returns-in_default-clause-ok
returns-in_default-clause-ok g c =
    let ports = c.args.self.now.ports.items in
    let none : place_of ports c.args.id ≡ None = sym (c.in_default.ensures.value ∙ ap (λ p. place_of p c.args.id) c.as_slice.ensures.value) in
    unserved g.J.Write.contents c.args.self.now c.args.id c.args.input c.args.cell Port _ none refl

pub returns-then-not-knows-clause-ok : goal.returns-then-not-knows-clause-ok
returns-then-not-knows-clause-ok g c =
    let ports = c.args.self.now.ports.items in
    let at : place_of ports c.args.id ≡ Some c.in-Some.place = sym (c.in-Some.ensures.value ∙ ap (λ p. place_of p c.args.id) c.as_slice.ensures.value) in
    let low : c.in-Some.place < length ports = subst (λ p. c.in-Some.place < length p) c.as_slice.ensures.value c.in-Some.ensures.within in
    let is : slice_get ports c.in-Some.place ≡ Some c.index.result.now = slice_get-get_or ports c.in-Some.place c.index.result.now low ∙ ap Some (sym c.index.ensures) in
    let unknown : knows c.index.result.now.port c.args.input ≡ false = (let test = c.if-not-knows.true in let means = c.knows.ensures in cc) in
    unserved g.J.Write.contents c.args.self.now c.args.id c.args.input c.args.cell UnknownVc _
    (c.index.result.now, c.in-Some.place, record { at = at; is = is; knows = unknown }) refl

pub returns-in_err-log_step-clause-err : goal.returns-in_err-log_step-clause-err
returns-in_err-log_step-clause-err g c =
    let ports = c.args.self.now.ports.items in
    let live = c.index_mut.result.now in
    let at : place_of ports c.args.id ≡ Some c.in-Some.place = sym (c.in-Some.ensures.value ∙ ap (λ p. place_of p c.args.id) c.as_slice.ensures.value) in
    let low : c.in-Some.place < length ports = subst (λ p. c.in-Some.place < length p) c.as_slice.ensures.value c.in-Some.ensures.within in
    let seen : slice_get ports c.in-Some.place ≡ Some c.index.result.now = slice_get-get_or ports c.in-Some.place c.index.result.now low ∙ ap Some (sym c.index.ensures) in
    let is : slice_get ports c.in-Some.place ≡ Some live = slice_get-get_or ports c.in-Some.place live low ∙ ap Some (sym c.index_mut.ensures.value) in
    let same = same_port ports c.in-Some.place c.index.result.now live seen is in
    let seen_known : knows c.index.result.now.port c.args.input ≡ true = (let test = c.if-not-knows.false in let means = c.knows.ensures in cc) in
    let known : knows live.port c.args.input ≡ true = subst (λ (l : LivePort). knows l.port c.args.input ≡ true) same seen_known in
    on_err c.from_residual.result _ (
      switch_line c.args.id (entry_at live c.args.input) c.args.cell,
      inr (live, c.in-Some.place, record { at = at; is = is; knows = known }, refl),
      subst (λ e. AppendsFront (g.J.Write.contents c.args.self.now.journal) (g.J.Write.contents c.log_step.new.journal) (switch_line c.args.id e c.args.cell))
          c.in-Some-step.ensures.some c.in_err-log_step.ensures.err,
    )

pub returns-clause-ok : goal.returns-clause-ok
returns-clause-ok g c =
    let ports = c.args.self.now.ports.items in
    let live = c.index_mut.result.now in
    let at : place_of ports c.args.id ≡ Some c.in-Some.place = sym (c.in-Some.ensures.value ∙ ap (λ p. place_of p c.args.id) c.as_slice.ensures.value) in
    let low : c.in-Some.place < length ports = subst (λ p. c.in-Some.place < length p) c.as_slice.ensures.value c.in-Some.ensures.within in
    let seen : slice_get ports c.in-Some.place ≡ Some c.index.result.now = slice_get-get_or ports c.in-Some.place c.index.result.now low ∙ ap Some (sym c.index.ensures) in
    let is : slice_get ports c.in-Some.place ≡ Some live = slice_get-get_or ports c.in-Some.place live low ∙ ap Some (sym c.index_mut.ensures.value) in
    let same = same_port ports c.in-Some.place c.index.result.now live seen is in
    let seen_known : knows c.index.result.now.port c.args.input ≡ true = (let test = c.if-not-knows.false in let means = c.knows.ensures in cc) in
    let known : knows live.port c.args.input ≡ true = subst (λ (l : LivePort). knows l.port c.args.input ≡ true) same seen_known in
    let entry = c.in-Some-step.ensures.some in
    let text = answer_text c.answer_of.result in
    let net = c.args.self.now.net.now in
    served g.J.Write.contents c.args.self.now _ c.args.id c.args.input c.args.cell live c.in-Some.place _ at is known
    (subst (λ r. IsSaid net c.args.id c.args.input r text) (ap (λ e. e.reply) entry) c.answer_of.ensures)
    (ap (λ l. slice_set ports c.in-Some.place l) c.in-Some-step.ensures.past)
    (subst (λ e. Appends (g.J.Write.contents c.args.self.now.journal) (g.J.Write.contents c.log_step.new.journal) (switch_line c.args.id e c.args.cell))
    entry c.in_ok-log_step.ensures.ok)
    refl
