-- The journal has what was written, and what it lacks.
use Rattle.std.proofs.Common.{◌∙◌, ap, map}
use Rattle.std.specs.Prelude.{Vec}
use Rattle.std.specs.declared.alloc.Global.{Global}
use Rattle.abt_journal_text.specs.Books.{lists_of}
use Rattle.abt_journal_text.specs.declared.spot.Spot.{Spot}
use Rattle.abt_derive.specs.Derives.{spots_of}
use Rattle.abt_derive.proofs.Growing.{completed_by}
use Rattle.abt_derive.proofs.completion.completed_at.Goals as goal

pub returns : goal.returns
returns c =
    let run = c.args.run.now in
    let made = c.in_ok-entries.field-0 in
    completed_by run.net run.journals (lists_of run.port_spots) (lists_of run.source_spots) c.args.number c.args.journal.now
    c.from-entries.result c.as_slice-entries.result.now c.spots_of-first.result.now c.spots_of-spots.result.now c.as_slice-3.result.now made
    (c.spots_of-first.ensures ∙ ap (λ all. spots_of (map (λ (spots : Vec Spot Global). spots.items) all) c.first_port.result) c.as_slice.ensures.value
    ∙ ap (spots_of (lists_of run.port_spots)) c.first_port.ensures)
    (c.spots_of-spots.ensures ∙ ap (λ all. spots_of (map (λ (spots : Vec Spot Global). spots.items) all) c.args.number) c.as_slice-2.ensures.value)
    c.as_slice-entries.ensures (c.as_slice-3.ensures.value ∙ c.in_ok-derived.ensures run.journals c.requires)
    c.in_ok-entries.ensures.completes c.in_ok-entries.ensures.entries c.in_ok-entries.ensures.spots
    c.from-entries.ensures
