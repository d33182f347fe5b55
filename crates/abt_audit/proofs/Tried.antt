-- Each way to settle the open writes of a source is tried.
use Rattle.std.proofs.Common.{◌≡◌, ◌∙◌, inl, inr, ℕ, zero, suc, ◌+◌, List, [], ◌∷◌, length, sym, subst, arith, Some}
use Rattle.std.specs.Prelude.{slice_get}
use Rattle.abt_net.specs.Topology.{Topology}
use Rattle.abt_cell.specs.Channel.{Channel}
use Rattle.abt_facts.specs.declared.fact.Fact.{Fact}
use Rattle.abt_net.specs.declared.conn.Conn.{Conn}
use Rattle.abt_journal.specs.declared.entry.Entry.{Entry}
use Rattle.abt_model.specs.declared.entry.SourceEntry.{SourceEntry}
use Rattle.abt_model.specs.declared.entry.SourceEntry.TheVariants.{Did, Sent, Arrived}
use Rattle.abt_model.specs.declared.journal.SourceJournal.{SourceJournal}
use Rattle.abt_journal_text.specs.declared.open_write.OpenWrite.{OpenWrite}
use Rattle.abt_journal_text.specs.declared.spot.Spot.{Spot}
use Rattle.abt_derive.specs.Completes.{Completes}
use Rattle.abt_audit.specs.Protocol.{facts_past}
use Rattle.abt_audit.specs.Settling.{SettlesAt, AreSettled, AreSettledFrom, IsSettled, FitsFrom, FitsTo, places_on}
use Rattle.abt_audit.specs.Ways.{IsUnfit, EachWayIsTried, EachCompletionIsTried}
use Rattle.abt_audit.proofs.OwnAnswers.{woven_fits}
use Rattle.abt_audit.proofs.Settled.{settled_length}

settled_from : (net : Topology) (writes : List OpenWrite) (c n : ℕ) (sources settled : List SourceJournal) (journal after : SourceJournal)
    → AreSettledFrom net writes c sources settled → slice_get sources n ≡ Some journal → slice_get settled n ≡ Some after → SettlesAt net writes (c + n) journal after
settled_from net writes c n [] settled journal after are at there = absurd (cc)
settled_from net writes c n (one ∷ sources) [] journal after are at there = absurd are
settled_from net writes c zero (one ∷ sources) (two ∷ settled) journal after are at there =
    let same : one ≡ journal = (cc) in
    let so : two ≡ after = (cc) in
    let here : c ≡ c + 0 = omega arith in
    subst (λ (k : ℕ). SettlesAt net writes k journal after) here
    (subst (λ (x : SourceJournal). SettlesAt net writes c x after) same (subst (λ (y : SourceJournal). SettlesAt net writes c one y) so are.0))
settled_from net writes c (suc n) (one ∷ sources) (two ∷ settled) journal after are at there =
    let here : c + 1 + n ≡ c + suc n = omega arith in
    subst (λ (k : ℕ). SettlesAt net writes k journal after) here (settled_from net writes (c + 1) n sources settled journal after are.1 at there)

-- if all entries of a settled journal have the outcomes that the source gives, so have those of the journal as it was settled
none_fits : (net : Topology) (writes : List OpenWrite) (sources settled : List SourceJournal) (c : ℕ) (conn : Conn) (journal after : SourceJournal)
    (other : List SourceEntry) → AreSettled net writes sources settled → slice_get sources c ≡ Some journal → slice_get settled c ≡ Some after
    → IsUnfit net writes c conn after → IsSettled (places_on c writes) journal.entries other → FitsTo conn.vc other (length other) → ⊥
none_fits net writes sources settled c conn journal after other are at there unfit ways fits =
    let its = settled_from net writes 0 c sources settled journal after are at there in
    let here : 0 + c ≡ c = omega arith in
    let chosen = subst (λ (k : ℕ). SettlesAt net writes k journal after) here its conn unfit.known in
    let far = chosen.farthest unfit.few other (length other) ways fits in
    let long : length other ≡ length after.entries =
    settled_length (places_on c writes) journal.entries other ways ∙ sym (settled_length (places_on c writes) journal.entries after.entries chosen.settles) in
    unfit.unfit (subst (FitsTo conn.vc after.entries) long far)

pub each_way_is_tried : (net : Topology) (writes : List OpenWrite) (ports : List (List Entry)) (sources settled : List SourceJournal)
    → EachWayIsTried net writes ports sources settled
each_way_is_tried net writes ports sources settled are c conn journal after other at there unfit others beside ways events woven =
    none_fits net writes sources settled c conn journal after other.entries are at there unfit ways
    (woven_fits net ports others events woven c conn other unfit.known beside)

-- what was added changes nothing for the source, so what was written fits if all does
pub written_fits : (vc : Channel) (facts : List Fact) (first spots : List Spot) (place : ℕ) (entries full : List SourceEntry) (at : List Spot)
    → Completes first spots place entries full at → FitsFrom vc facts full (length full) → FitsFrom vc facts entries (length entries)
written_fits vc facts first spots place entries [] [] is fits = subst (λ (es : List SourceEntry). FitsFrom vc facts es (length es)) (sym is) tt
written_fits vc facts first spots place entries [] (spot ∷ at) is fits = absurd is
written_fits vc facts first spots place entries (one ∷ full) [] is fits = absurd is
written_fits vc facts first spots place entries (Did event told ∷ full) (spot ∷ at) (inl is) fits = (let none = is.0 in absurd (cc))
written_fits vc facts first spots place entries (Sent step ∷ full) (spot ∷ at) (inl is) fits =
    written_fits vc facts first spots place entries full at is.1 fits.1
written_fits vc facts first spots place entries (Arrived cell step ∷ full) (spot ∷ at) (inl is) fits =
    written_fits vc facts first spots place entries full at is.1 fits.1
written_fits vc facts first spots place entries (one ∷ full) (spot ∷ at) (inr (rest, e, here, is)) fits =
    subst (λ (es : List SourceEntry). FitsFrom vc facts es (length es)) (sym e)
    (fits.0, written_fits vc (facts_past vc facts one) first spots (place + 1) rest full at is fits.1)

pub each_completion_is_tried : (net : Topology) (writes : List OpenWrite) (ports : List (List Entry)) (sources settled : List SourceJournal)
    → EachCompletionIsTried net writes ports sources settled
each_completion_is_tried net writes ports sources settled are c conn journal after full other first spots at here there unfit ways completes others beside events
    woven =
    none_fits net writes sources settled c conn journal after other are here there unfit ways
    (written_fits conn.vc [] first spots 0 other full.entries at completes (woven_fits net ports others events woven c conn full unfit.known beside))
