use Rattle.std.proofs.Common.{◌≡◌, ◌∷◌, ◌++◌, [], length, List, ap, sym, subst, refl, ◌∙◌}
use mathlib.Core.List.{IsPrefix}
use Rattle.abt_actor.specs.Commands as commands
use Rattle.abt_model.specs.declared.entry.SourceEntry.{SourceEntry}
use Rattle.abt_model.specs.declared.entry.SourceEntry.TheVariants.{Did}
use Rattle.abt_model.specs.declared.event.Event.{Event}
use Rattle.abt_model.specs.Events.{AsksRate}
use Rattle.abt_weave.specs.Projections.{past_of}
use Rattle.abt_history.specs.Histories.{happened}
use Rattle.abt_history.specs.declared.deed.Deed.TheVariants.{Happens}
use Rattle.abt_history.specs.Legal.{MayNote, IsNoted}
use Rattle.abt_history.specs.Sites.{SiteView, IsSaid, IsHome, IsSite, HasCarriedOut}
use Rattle.abt_history.proofs.Allowing.{allows}
use Rattle.abt_history.proofs.Did.{mine, may_do, has_noted, has_done, done_parts}
use Rattle.abt_history.proofs.Modes.{where_kept, kept, of_kept}
use Rattle.abt_history.proofs.Notes.{noted_after}
use Rattle.abt_history.proofs.Said.{said_later}
use Rattle.abt_history.proofs.site.SiteOf.carry_out.Goals as goal

pub note-requires-clause-may : goal.note-requires-clause-may
note-requires-clause-may g c =
    let k = g.K.Keeping in
    let net = k.net in
    let s = c.self.inside in
    let front = k.log s.front in
    let seen = k.log c.args.seen.now in
    let turns = length c.as_slice.result.now in
    let key = k.key s.tally in
    let command = c.args.command.now in
    let event = commands.event_of s.conn command in
    let turns_are : turns ≡ length s.entries.items = ap length (c.as_slice.ensures.value ∙ c.in_ok-reserve.ensures.items) in
    let conn_is : c.args.self.now.conn ≡ s.conn = ap (λ (v : SiteView). v.conn) (sym c.self.view_is) in
    where_kept k.kept (λ is.
    let its = kept k.kept is c.self.invariant in
    subst (λ (e : Event). MayNote net front seen key turns (Happens e)) (sym c.event_of-event.ensures)
    (may_do net s.conn turns key front seen event its.0 (subst (λ n. IsHome net s.conn n front) (sym turns_are) its.1.home)
    (subst (λ n. AsksRate (commands.event_of n command)) conn_is (kept k.kept is c.requires.asks)) (mine s.conn command)))

pub invariant_of-self-2 : goal.invariant_of-self-2
invariant_of-self-2 g c =
    let k = g.K.Keeping in
    let net = k.net in
    let s = c.self.inside in
    let front = k.log s.front in
    let seen = k.log c.args.seen.now in
    let new = k.log c.note.result in
    let turns = length c.as_slice.result.now in
    let key = k.key s.tally in
    let command = c.args.command.now in
    let outcome = c.step-outcome.result in
    let event = commands.event_of s.conn command in
    let old : SiteView = record { conn = s.conn; vc = s.vc; actor = s.actor; entries = s.entries.items; arrived = s.arrived; front = front } in
    let turns_are : turns ≡ length s.entries.items = ap length (c.as_slice.ensures.value ∙ c.in_ok-reserve.ensures.items) in
    let conn_is : c.args.self.now.conn ≡ s.conn = ap (λ (v : SiteView). v.conn) (sym c.self.view_is) in
    let entries : old.entries ++ Did event outcome ∷ [] ≡ c.push_reserved.new.self.items =
    ap (λ (l : List SourceEntry). l ++ Did event outcome ∷ []) (sym c.in_ok-reserve.ensures.items) ∙ ap (λ (e : SourceEntry). c.reserve.new.self.items ++ e ∷ []) (sym c.entry_of.ensures) ∙ sym c.push_reserved.ensures.items in
    where_kept k.kept (λ is.
    let its = kept k.kept is c.self.invariant in
    let noted : IsNoted net front seen new key turns (Happens event) = subst (λ (e : Event). IsNoted net front seen new key turns (Happens e)) c.event_of-event.ensures (kept k.kept is c.note.ensures) in
    let done = has_noted net s.conn turns key front seen new event its.0 (subst (λ n. IsHome net s.conn n front) (sym turns_are) its.1.home) noted in
    let said = said_later net seen done.log s.conn command done.theirs done.home.legal (subst (λ n. IsSaid net (past_of net (happened seen)) n command) conn_is (kept k.kept is c.requires.said)) in
    let site = has_done net old c.step-outcome.new.self done.log new command outcome its.1 done.home c.step-outcome.ensures said done.new_is in
    (its.0, subst (λ (es : List SourceEntry). IsSite net (record { conn = s.conn; vc = s.vc; actor = c.step-outcome.new.self; entries = es; arrived = s.arrived; front = new })) entries site))

pub returns-clause-did : goal.returns-clause-did
returns-clause-did g c =
    let k = g.K.Keeping in
    let s = c.self.inside in
    let front = k.log s.front in
    let outcome = c.step-outcome.result in
    let event = commands.event_of s.conn c.args.command.now in
    let old : SiteView = record { conn = s.conn; vc = s.vc; actor = s.actor; entries = s.entries.items; arrived = s.arrived; front = front } in
    let now : SiteView = record { conn = s.conn; vc = s.vc; actor = c.step-outcome.new.self; entries = c.push_reserved.new.self.items; arrived = s.arrived; front = k.log c.note.result } in
    let entries : c.push_reserved.new.self.items ≡ old.entries ++ Did event outcome ∷ [] =
    c.push_reserved.ensures.items ∙ ap (λ (e : SourceEntry). c.reserve.new.self.items ++ e ∷ []) c.entry_of.ensures ∙ ap (λ (l : List SourceEntry). l ++ Did event outcome ∷ []) c.in_ok-reserve.ensures.items in
    subst (λ (v : SiteView). HasCarriedOut v now c.args.command.now outcome) c.self.view_is
    (record { conn = refl; vc = refl; actor = c.step-outcome.ensures; entries = entries; arrived = refl })

pub returns-clause-allows : goal.returns-clause-allows
returns-clause-allows g c =
    let k = g.K.Keeping in
    let net = k.net in
    let s = c.self.inside in
    let front = k.log s.front in
    let seen = k.log c.args.seen.now in
    let new = k.log c.note.result in
    let turns = length c.as_slice.result.now in
    let key = k.key s.tally in
    let command = c.args.command.now in
    let outcome = c.step-outcome.result in
    let event = commands.event_of s.conn command in
    let old : SiteView = record { conn = s.conn; vc = s.vc; actor = s.actor; entries = s.entries.items; arrived = s.arrived; front = front } in
    let turns_are : turns ≡ length s.entries.items = ap length (c.as_slice.ensures.value ∙ c.in_ok-reserve.ensures.items) in
    let conn_is : c.args.self.now.conn ≡ s.conn = ap (λ (v : SiteView). v.conn) (sym c.self.view_is) in
    let now : SiteView = record { conn = s.conn; vc = s.vc; actor = c.step-outcome.new.self; entries = c.push_reserved.new.self.items; arrived = s.arrived; front = new } in
    where_kept k.kept (λ is.
    let its = kept k.kept is c.self.invariant in
    let noted : IsNoted net front seen new key turns (Happens event) = subst (λ (e : Event). IsNoted net front seen new key turns (Happens e)) c.event_of-event.ensures (kept k.kept is c.note.ensures) in
    let done = has_noted net s.conn turns key front seen new event its.0 (subst (λ n. IsHome net s.conn n front) (sym turns_are) its.1.home) noted in
    let said = said_later net seen done.log s.conn command done.theirs done.home.legal (subst (λ n. IsSaid net (past_of net (happened seen)) n command) conn_is (kept k.kept is c.requires.said)) in
    let parts = done_parts net old c.step-outcome.new.self done.log new command outcome its.1 done.home c.step-outcome.ensures said done.new_is in
    allows net old now done.log command outcome its.1 done.home.legal parts refl refl refl)

pub returns-clause-seen : goal.returns-clause-seen
returns-clause-seen g c =
    let k = g.K.Keeping in
    of_kept k.kept c.note.ensures (λ noted.
    let after = noted_after _ _ _ _ _ _ _ noted in
    (subst (λ f. IsPrefix f (k.log c.note.result)) (ap (λ (v : SiteView). v.front) c.self.view_is) after.0, after.1))
