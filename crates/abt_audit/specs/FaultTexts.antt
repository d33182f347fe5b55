-- What is told of journals that aren't woven (docs/AUDITS.md, "What is told", "Findings as JSON").
use Rattle.std.specs.Prelude.{◌≡◌, ℕ, List, [], codes, string_bytes, String}
use Rattle.std.specs.declared.alloc.Global.{Global}
use Rattle.abt_text.specs.Text.{Text, ◌⋅◌}
use Rattle.abt_journal_text.specs.declared.run.Run.{Run}
use Rattle.abt_weave.specs.declared.actor.Actor.{Actor}
use Rattle.abt_weave.specs.declared.fault.WeaveFault.{WeaveFault}
use Rattle.abt_weave.specs.declared.fault.WeaveFault.TheVariants.{Mismatch, NoOrder, Memory}
use Rattle.abt_audit.specs.EntryObjects.{entry_object, said_at, why_members}
use Rattle.abt_audit.specs.Protocol.{protocol_answer, protocol_at}
use Rattle.abt_audit.specs.Stuck.{line_at}
use Rattle.abt_audit.specs.Waits.{IsWaitingText}
use Rattle.abt_audit.specs.Why.{IsWhy, why_text}
use Rattle.abt_audit.specs.declared.form.Form.{Form}
use Rattle.abt_audit.specs.declared.form.Form.TheVariants.{Words, Json}
use Rattle.abt_audit.specs.declared.why.Why.{Why}

-- what is told of an entry that mismatches: the entry, the protocol's answer, and why it is that
abbrev pub mismatch_text : Form → List (String Global) → Run → Actor → (place : ℕ) → Why → Text
mismatch_text Words names run actor place why = line_at names run actor place ⋅ protocol_at run actor place ⋅ why_text names why
mismatch_text Json names run actor place why =
    entry_object (codes "mismatch") names actor place (why_members names (string_bytes why.reason) why.since) (protocol_answer run actor place) (said_at run actor place)

-- The text tells an entry that mismatches, what the protocol answers, and why it is that.
pub record IsMismatchText (form : Form) (names : List (String Global)) (run : Run) (actor : Actor) (place : ℕ) (text : Text) : Type 0 where
  pub why : Why
  pub is_why : IsWhy run actor place why
  pub are : text ≡ mismatch_text form names run actor place why

-- What is told of the entries that a fault names: of one that mismatches what the protocol answers, and why, and of those in no order what
-- they wait for.
abbrev pub IsFaultText : Form → List (String Global) → Run → WeaveFault → Text → Type 0
IsFaultText form names run (Mismatch actor place) text = IsMismatchText form names run actor place text
IsFaultText form names run (NoOrder stuck) text = IsWaitingText form names run stuck text
IsFaultText form names run Memory text = text ≡ []
