-- Nothing is placed.
use Rattle.std.proofs.Common.{◌≡◌, ◌∙◌, ◌<◌, ℕ, ap, sym, subst, refl, length, List, [], Vec}
use Rattle.std.specs.Prelude.{slice_index}
use Rattle.std.specs.Global.{Global}
use Rattle.std.proofs.Math.ListN.{replicate}
use Rattle.std.proofs.lemmas.List.{length-replicate, length-map, get_or-replicate}
use Rattle.abt_net.specs.Topology.{Topology}
use Rattle.abt_model.specs.declared.event.Event.{Event}
use Rattle.abt_journal.specs.declared.entry.Entry.{Entry}
use Rattle.abt_model.specs.declared.journal.SourceJournal.{SourceJournal}
use Rattle.abt_world.specs.Standing.{WorldView, StandsFor}
use Rattle.abt_weave.specs.Stuck.{port_journal, source_journal}
use Rattle.abt_weave.specs.Progress.{journaled, IsPlacing}

zeros : (places : List ℕ) (n : ℕ) → places ≡ replicate n 0 → (i : ℕ) → i < length places → slice_index places i ≡ 0
zeros places n is i low =
    let within : i < n = subst (λ m. i < m) (ap (λ l. length l) is ∙ length-replicate n 0) low in
    ap (λ l. slice_index l i) is ∙ get_or-replicate n i 0 0 within

pub opening_progress : (net : Topology) (ports : List (Vec Entry Global)) (sources : List SourceJournal) (events : List Event) (world : WorldView) (sp pp : List ℕ) →
    StandsFor net [] world → events ≡ [] → sp ≡ replicate (length sources) 0 → pp ≡ replicate (length ports) 0 → IsPlacing net (journaled ports sources) events world sp pp
opening_progress net ports sources events world sp pp stands none s p =
    let js = journaled ports sources in
    subst (λ l. IsPlacing net js l world sp pp) (sym none) (record {
      stands = stands;
      placed = record { ports = λ q. (port_journal js q, refl); conns = λ c. (source_journal js c, refl) };
      shown = tt;
      source_count = ap (λ l. length l) s ∙ length-replicate (length sources) 0;
      port_count = ap (λ l. length l) p ∙ length-replicate (length ports) 0 ∙ sym (length-map ports (λ (entries : Vec Entry Global). entries.items));
      source_places = zeros sp (length sources) s;
      port_places = zeros pp (length ports) p;
    })
