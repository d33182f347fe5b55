-- Steps of a switch, put together.
use Rattle.std.proofs.Common.{◌≡◌, ◌∙◌, ℕ, List, [], ◌++◌, inl, inr, refl, sym, ap, subst, true}
use Rattle.std.specs.Prelude.{Option, Some, slice_get, slice_set, unwrap_or}
use Rattle.std.proofs.KnownBytes.{Appends-nil}
use Rattle.std.specs.Io.KnownBytes.{Appends}
use Rattle.abt_net.specs.Topology.{Topology}
use Rattle.abt_journal.specs.declared.input.PortInput.{PortInput}
use Rattle.abt_journal.specs.Replay.{reply_by}
use Rattle.abt_live.specs.declared.fault.LiveFault.{LiveFault}
use Rattle.abt_live.specs.declared.live_port.LivePort.{LivePort}
use Rattle.abt_live.specs.declared.switch.SwitchLines.{SwitchLines}
use Rattle.abt_live.specs.declared.switch_answer.SwitchAnswer.{SwitchAnswer}
use Rattle.abt_live.specs.declared.switch_asked.SwitchAsked.{SwitchAsked}
use Rattle.abt_live.specs.declared.switch_asked.SwitchAsked.TheVariants.{Step, Wrong}
use Rattle.abt_live.specs.Faults.{fault_line}
use Rattle.abt_live.specs.Ports.{entry_at, knows, past_step, switch_line}
use Rattle.abt_live.specs.Said.{IsSaid}
use Rattle.abt_live.specs.Journal.{CanWrite, JournalBegan}
use Rattle.abt_live.specs.Switch.{Does, IsDone, Refuses, place_of}
use Rattle.abt_live.specs.SwitchRecords.{DoesRecord, answer_record, answer_text}
use Rattle.abt_live.proofs.Fronts.{front_whole}

-- what is added to an empty text
pub added_alone : (text old said : List ℕ) → text ≡ old ++ said → old ≡ [] → text ≡ said
added_alone text old said is none = is ∙ ap (λ t. t ++ said) none

-- A port did a step.
pub served : {J : Type 0} (contents : J → Option (List ℕ)) (old new : SwitchLines J) (id : ℕ) (input : PortInput) (cell : Option ℕ) (live : LivePort) (place : ℕ)
    (said : List ℕ) → place_of old.ports.items id ≡ Some place → slice_get old.ports.items place ≡ Some live → knows live.port input ≡ true
    → IsSaid old.net.now id input (reply_by live.port input) said → new.ports.items ≡ slice_set old.ports.items place (past_step live input)
    → Appends (contents old.journal) (contents new.journal) (switch_line id (entry_at live input) cell)
    → new.net.now ≡ old.net.now → Does contents old (Step id input cell) said new
served contents old new id input cell live place said at is known says past written net = record {
  written = switch_line id (entry_at live input) cell;
  done = inl (record {
    live = live;
    place = place;
    takes = record { at = at; is = is; knows = known };
    says = says;
    entry = refl;
    past = past;
  });
  journal = written;
  net = net;
}

-- No port did.
pub unserved : {J : Type 0} (contents : J → Option (List ℕ)) (old : SwitchLines J) (id : ℕ) (input : PortInput) (cell : Option ℕ) (fault : LiveFault)
    (said : List ℕ) → Refuses old.ports.items id input fault → said ≡ fault_line fault → Does contents old (Step id input cell) said old
unserved contents old id input cell fault said why says = record {
  written = [];
  done = inr (fault, why, record { says = says; silent = refl; same = refl });
  journal = Appends-nil (contents old.journal);
  net = refl;
}

-- one place has one port
pub same_port : (ports : List LivePort) (place : ℕ) (a b : LivePort) → slice_get ports place ≡ Some a → slice_get ports place ≡ Some b → a ≡ b
same_port ports place a b at_a at_b = ap (λ (o : Option LivePort). unwrap_or o a) (sym at_a ∙ at_b)

-- the same, asked and said in other words
pub answered : {J : Type 0} (contents : J → Option (List ℕ)) (old new : SwitchLines J) (asked wanted : SwitchAsked) (said text : List ℕ) → asked ≡ wanted
    → text ≡ said → Does contents old asked said new → Does contents old wanted text new
answered contents old new asked wanted said text is same does =
    subst (λ a. Does contents old a text new) is (subst (λ t. Does contents old asked t new) (sym same) does)

pub recorded : {J : Type 0} (contents : J → Option (List ℕ)) (old new : SwitchLines J) (asked wanted : SwitchAsked) (answer : SwitchAnswer) (said : List ℕ)
    → asked ≡ wanted → said ≡ answer_record answer → Does contents old asked (answer_text answer) new → DoesRecord contents old wanted said new
recorded contents old new asked wanted answer said is same does = record {
  answer = answer;
  does = subst (λ a. Does contents old a (answer_text answer) new) is does;
  says = same;
}

-- what is done is written
can_write : (net : Topology) (ports : List LivePort) (asked : SwitchAsked) (said written : List ℕ) (new : List LivePort) → IsDone net ports asked said written new
    → CanWrite ports asked written
can_write net ports (Step id input cell) said written new (inl served) = inr (served.live, served.place, served.takes, served.entry)
can_write net ports (Step id input cell) said written new (inr (fault, why, faulty)) = inl faulty.silent
can_write net ports (Wrong fault) said written new faulty = faulty.silent

pub began : {J : Type 0} (contents : J → Option (List ℕ)) (old new : SwitchLines J) (asked wanted : SwitchAsked) (said : List ℕ) → asked ≡ wanted
    → Does contents old asked said new → JournalBegan old.ports.items wanted (contents old.journal) (contents new.journal)
began contents old new asked wanted said is does = subst (λ a. JournalBegan old.ports.items a (contents old.journal) (contents new.journal)) is (
  does.written,
  can_write old.net.now old.ports.items asked said does.written new.ports.items does.done,
  front_whole (contents old.journal) (contents new.journal) does.written does.journal,
)
