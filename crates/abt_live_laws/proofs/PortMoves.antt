-- A step of a switch over a line is what moves have a port do.
use Rattle.std.proofs.Common.{◌≡◌, ◌≢◌, inl, inr, ℕ, ◌+◌, ◌<◌, List, ◌∷◌, length, refl, ap, sym, subst, ◌∙◌, length-set, Option, Some}
use Rattle.std.specs.Prelude.{◌==◌, slice_get, slice_set}
use Rattle.std.proofs.lemmas.Bool.{cases_eq, eqb-true}
use Rattle.std.proofs.lemmas.List.{length-append}
use Rattle.std.proofs.lemmas.List.Quantifiers.{position-Some}
use Rattle.std.proofs.lemmas.Option.{get_or_from_slice_get, slice_get-get_or, slice_get_within}
use Rattle.std.specs.Io.KnownBytes.{Appends}
use Rattle.abt_cell.specs.declared.message.Rm.{Rm}
use Rattle.abt_cell.specs.declared.message.Rm.TheVariants as rm
use Rattle.abt_net.specs.Topology.{Topology}
use Rattle.abt_node.specs.Table.{Table}
use Rattle.abt_journal.specs.declared.entry.Entry.{Entry}
use Rattle.abt_journal.specs.declared.input.PortInput.{PortInput}
use Rattle.abt_journal.specs.declared.input.PortInput.TheVariants.{Request, Answer, Arrive, Capacity}
use Rattle.abt_journal.specs.declared.input.PortReply.{PortReply}
use Rattle.abt_journal.specs.declared.next_message.Next.{Next}
use Rattle.abt_journal.specs.Replay.{reply_by, table_after}
use Rattle.abt_serving.specs.Messages.{input_of}
use Rattle.abt_processes.specs.Ports.{Follows, Replies, Serves, served}
use Rattle.abt_processes.specs.Processes.{AccessLine, PortProcess, Processes}
use Rattle.abt_live.specs.declared.live_port.LivePort.{LivePort}
use Rattle.abt_live.specs.declared.switch.SwitchLines.{SwitchLines}
use Rattle.abt_live.specs.declared.switch_asked.SwitchAsked.TheVariants.{Step}
use Rattle.abt_live.specs.Ports.{entry_at, past_step, switch_line}
use Rattle.abt_live.specs.Said.{IsSaid, IsSent, capped_text, judged_text}
use Rattle.abt_live.specs.Switch.{Does, IsServed, place_of}
use Rattle.abt_live.proofs.SwitchSteps.{same_port}
use Rattle.abt_live_laws.specs.Ports.{HasServed, IsPortIn, IsPortMove, IsSwitchIn, SwitchesServe}
use Rattle.abt_live_laws.proofs.JournalSteps.{set_same, set_other}
use Rattle.abt_live_laws.proofs.SourceMoves.{changed, only_changed}

-- the port at a place that was found has the number
numbered : (ports : List LivePort) (id place : ℕ) (live : LivePort) → place_of ports id ≡ Some place → slice_get ports place ≡ Some live → live.id ≡ id
numbered ports id place live at is =
    let found = (position-Some (λ (l : LivePort). l.id == id) ports place live at).1 in
    eqb-true live.id id (ap (λ (l : LivePort). l.id == id) (sym (get_or_from_slice_get ports place live live is)) ∙ found)

-- the processes after a port served something
abbrev pub processes_after : Processes → (id : ℕ) → PortInput → (ℕ → AccessLine) → List Next → Processes
processes_after before id input lines sent = record { ports = changed id before.ports (served (before.ports id) input); sources = before.sources; lines = lines; sent = sent }

serves_on : (before : Processes) (id : ℕ) (input : PortInput) (lines : ℕ → AccessLine) (sent : List Next) → Serves before (processes_after before id input lines sent) id input
serves_on before id input lines sent = record { ports = only_changed id before.ports (served (before.ports id) input); sources = λ c. refl }

-- the switch has its ports then too
switch_on : {J : Type 0} (contents : J → Option (List ℕ)) (net : Topology) (before : Processes) (lines : ℕ → AccessLine) (sent : List Next) (old new : SwitchLines J) (id : ℕ) (input : PortInput) (live : LivePort) (place : ℕ) → IsSwitchIn net before old →
    live.id ≡ id → slice_get old.ports.items place ≡ Some live → new.ports.items ≡ slice_set old.ports.items place (past_step live input) → new.net.now ≡ old.net.now →
    IsSwitchIn net (processes_after before id input lines sent) new
switch_on contents net before lines sent old new id input live place is named at past same = record {
  net_is = same ∙ is.net_is;
  ports = λ p other seen. elim (cases_eq p place) [
    | inl here ↦ (
        let step = past_step live input in
        let now : other ≡ step = same_port new.ports.items p other step seen (subst (λ q. slice_get new.ports.items q ≡ Some step) (sym here) there) in
        subst (λ (l : LivePort). IsPortIn (processes_after before id input lines sent) l) (sym now) stepped)
    | inr differ ↦ (
        let old_one : slice_get old.ports.items p ≡ Some other = was p other differ seen in
        let its = is.ports p other old_one in
        let apart : other.id ≢ id = λ e. differ (is.once p place other live old_one at (e ∙ sym named)) in
        let stays : changed id before.ports (served (before.ports id) input) other.id ≡ before.ports other.id = (only_changed id before.ports (served (before.ports id) input)).1 other.id apart in
        (record { table = ap (λ (q : PortProcess). q.table) stays ∙ its.table; steps = ap (λ (q : PortProcess). length q.journal) stays ∙ its.steps }))
  ];
  once = λ p q a b at_p at_q e. is.once p q (back p a at_p).0 (back q b at_q).0 (back p a at_p).1 (back q b at_q).1 (sym (back p a at_p).2 ∙ e ∙ (back q b at_q).2);
}
  where
    there : slice_get new.ports.items place ≡ Some (past_step live input)
    there = ap (λ (m : List LivePort). slice_get m place) past ∙ set_same old.ports.items place live (past_step live input) at

    stepped : IsPortIn (processes_after before id input lines sent) (past_step live input)
    stepped =
        let port = is.ports place live at in
        let here : changed id before.ports (served (before.ports id) input) live.id ≡ served (before.ports id) input = ap (changed id before.ports (served (before.ports id) input)) named ∙ (only_changed id before.ports (served (before.ports id) input)).0 in
        let own : before.ports id ≡ before.ports live.id = ap before.ports (sym named) in
        record {
          table = ap (λ (q : PortProcess). q.table) here ∙ ap (λ (q : PortProcess). table_after q.table input) own ∙ ap (λ (t : Table). table_after t input) port.table;
          steps = ap (λ (q : PortProcess). length q.journal) here ∙ length-append (before.ports id).journal _ ∙ ap (λ (q : PortProcess). length q.journal + 1) own ∙ ap (λ (n : ℕ). n + 1) port.steps;
        }

    was : (p : ℕ) (other : LivePort) → p ≢ place → slice_get new.ports.items p ≡ Some other → slice_get old.ports.items p ≡ Some other
    was p other differ seen =
        let low : p < length new.ports.items = slice_get_within new.ports.items p other seen in
        let count : length new.ports.items ≡ length old.ports.items = ap (λ (m : List LivePort). length m) past ∙ length-set old.ports.items place (past_step live input) in
        let within : p < length old.ports.items = subst (λ n. p < n) count low in
        let found = slice_get-get_or old.ports.items p other within in
        let kept = set_other old.ports.items place p (past_step live input) _ differ found in
        found ∙ sym kept ∙ sym (ap (λ (m : List LivePort). slice_get m p) past) ∙ seen

    back : (p : ℕ) (a : LivePort) → slice_get new.ports.items p ≡ Some a → (b : LivePort) × (slice_get old.ports.items p ≡ Some b) × (a.id ≡ b.id)
    back p a seen = elim (cases_eq p place) [
      | inl here ↦ (
          let now : a ≡ past_step live input = same_port new.ports.items p a (past_step live input) seen (subst (λ q. slice_get new.ports.items q ≡ Some (past_step live input)) (sym here) there) in
          (live, subst (λ q. slice_get old.ports.items q ≡ Some live) (sym here) at, ap (λ (l : LivePort). l.id) now))
      | inr differ ↦ (a, was p a differ seen, refl)
    ]

-- What a message's port says next is what follows along its path.
replies_on : (net : Topology) (before : Processes) (lines : ℕ → AccessLine) (id : ℕ) (message : Rm) (reply : PortReply) (next : Next) → reply ≡ reply_by (before.ports id).table (input_of message) → IsSent net id message reply next →
    Replies net before (processes_after before id (input_of message) lines (next ∷ before.sent)) id message
replies_on net before lines id message reply next is sent = record {
  serves = serves_on before id (input_of message) lines (next ∷ before.sent);
  next = next;
  follows = subst (λ r. Follows net id message r next) is sent.on_path;
  sent = refl;
}

-- what a step does, by its input
pub record IsStep (net : Topology) (before : Processes) (lines : ℕ → AccessLine) (id : ℕ) (input : PortInput) (said : List ℕ) : Type 0 where
  pub sent : List Next
  pub serves : HasServed net before (processes_after before id input lines sent) id input said

step_of : (net : Topology) (before : Processes) (lines : ℕ → AccessLine) (id : ℕ) (input : PortInput) (reply : PortReply) (said : List ℕ) → reply ≡ reply_by (before.ports id).table input → IsSaid net id input reply said → IsStep net before lines id input said
unfolding replies_on
step_of net before lines id (Request request) reply said is says =
    record { sent = says.0 ∷ before.sent; serves = record { replies = replies_on net before lines id (rm.Request request) reply says.0 is says.1; says = says.2 } }
step_of net before lines id (Answer answer) reply said is says =
    record { sent = says.0 ∷ before.sent; serves = record { replies = replies_on net before lines id (rm.Answer answer) reply says.0 is says.1; says = says.2 } }
step_of net before lines id (Arrive vc at) reply said is says =
    record { sent = before.sent; serves = record { serves = serves_on before id (Arrive vc at) lines before.sent; sent = refl; says = says ∙ ap judged_text is } }
step_of net before lines id (Capacity units) reply said is says =
    record { sent = before.sent; serves = record { serves = serves_on before id (Capacity units) lines before.sent; sent = refl; says = says ∙ ap capped_text is } }

served_moves : {J : Type 0} (contents : J → Option (List ℕ)) (net : Topology) (before : Processes) (lines : ℕ → AccessLine) (old new : SwitchLines J) (id : ℕ) (input : PortInput) (cell : Option ℕ) (said : List ℕ) → IsSwitchIn net before old →
    (step : Does contents old (Step id input cell) said new) → IsServed old.net.now old.ports.items id input cell said step.written new.ports.items → IsPortMove contents net before lines old new id input cell said
served_moves contents net before lines old new id input cell said is step out =
    let named = numbered old.ports.items id out.place out.live out.takes.at out.takes.is in
    let port = is.ports out.place out.live out.takes.is in
    let table : (before.ports id).table ≡ out.live.port = ap (λ n. (before.ports n).table) (sym named) ∙ port.table in
    let count : length (before.ports id).journal ≡ out.live.steps = ap (λ n. length (before.ports n).journal) (sym named) ∙ port.steps in
    let did = step_of net before lines id input (reply_by out.live.port input) said (ap (λ t. reply_by t input) (sym table)) (subst (λ (n : Topology). IsSaid n id input (reply_by out.live.port input) said) is.net_is out.says) in
    let after = processes_after before id input lines did.sent in
    let entry : Entry = record { place = length (before.ports id).journal; caller = 0; input = input; reply = reply_by (before.ports id).table input } in
    let same : entry_at out.live input ≡ entry =
    ap (λ n. (let e : Entry = record { place = n; caller = 0; input = input; reply = reply_by out.live.port input } in e)) (sym count)
    ∙ ap (λ t. (let e : Entry = record { place = length (before.ports id).journal; caller = 0; input = input; reply = reply_by t input } in e)) (sym table) in
    record {
      after = after;
      served = did.serves;
      lines_are = refl;
      switch = switch_on contents net before lines did.sent old new id input out.live out.place is named out.takes.is out.past step.net;
      entry = entry;
      journal = ap (λ (q : PortProcess). q.journal) (only_changed id before.ports (served (before.ports id) input)).0;
      written = subst (Appends (contents old.journal) (contents new.journal)) (out.entry ∙ ap (λ e. switch_line id e cell) same) step.journal;
    }

pub switches_serve : {J : Type 0} (contents : J → Option (List ℕ)) → SwitchesServe contents
switches_serve contents net before lines old new id input cell said is step = elim step.done [
  | inl out ↦ inl (served_moves contents net before lines old new id input cell said is step out)
  | inr none ↦ inr (record { same = none.2.same; silent = subst (Appends (contents old.journal) (contents new.journal)) none.2.silent step.journal })
]
