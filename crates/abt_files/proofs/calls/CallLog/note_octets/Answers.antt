-- One octet more is noted behind those before it.
use Rattle.std.proofs.Common.{◌∙◌, ◌∷◌, List, ap, get_or, sym, take}
use Rattle.std.proofs.lemmas.List.{take_more, take_all}
use Rattle.abt_files.specs.Calls as spec
use Rattle.abt_files.specs.declared.calls.OutCall.{OutCall}
use Rattle.abt_files.specs.declared.calls.OutCall.TheVariants.{Wrote}
use Rattle.abt_files.proofs.Wrote.{wrote_more, octets_of_wrote}
use Rattle.abt_files.proofs.calls.CallLog.note_octets.Goals as goal

pub loop-octet-preserved : goal.loop-octet-preserved
loop-octet-preserved c =
    let old = c.args.self.now.calls in
    let octets = c.args.octets.now in
    let i = c.loop-octet.octet-index in
    let octet = get_or octets i 0 in
    c.note.ensures ∙ ap (λ (calls : List OutCall). Wrote octet ∷ calls) c.loop-octet.invariant
    ∙ sym (wrote_more old (take i octets) octet) ∙ ap (spec.wrote old) (sym (take_more octets i 0 c.loop-octet-test.true))

pub returns-clause-octets : goal.returns-clause-octets
returns-clause-octets c =
    let old = c.args.self.now.calls in
    ap spec.octets_of (c.loop-octet.invariant ∙ ap (spec.wrote old) (take_all c.loop-octet.octet-index c.args.octets.now c.loop-octet-test.false))
    ∙ octets_of_wrote old c.args.octets.now
