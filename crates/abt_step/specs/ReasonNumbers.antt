-- The numbers of reasons, as members of an object (docs/FORMATS.md, "Events line by line"). Their words are those of docs/EXPLAIN.md.
use Rattle.std.specs.Prelude.{ℕ, ◌-◌, ◌==◌, [], ◌∷◌, ◌++◌, List, codes, if◌then◌else◌, Option, None, Some}
use Rattle.json.specs.Token.{Token, begin_object, end_object, key, null}
use Rattle.abt_entry.specs.ObjectMembers.{number_member}
use Rattle.abt_json.specs.Kinds.{exact_members}
use Rattle.abt_ledger.specs.declared.fault.CapacityFault.{CapacityFault}
use Rattle.abt_ledger.specs.declared.fault.CapacityFault.TheVariants.{BelowSum}
use Rattle.abt_model.specs.declared.outcome.Cause.{Cause}
use Rattle.abt_model.specs.declared.outcome.Cause.TheVariants.{NotSent, Fenced, Delay, ClockBack}
use Rattle.abt_model.specs.declared.outcome.Heard.{Heard}
use Rattle.abt_model.specs.declared.outcome.Heard.TheVariants.{Ignored}
use Rattle.abt_model.specs.declared.outcome.Outcome.{Outcome}
use Rattle.abt_model.specs.declared.outcome.Outcome.TheVariants.{Requested, Answered, Told, CapacityRefused, NotEnabled}
use Rattle.abt_node.specs.declared.reply.Back.{Back}
use Rattle.abt_node.specs.declared.reply.Back.TheVariants as back
use Rattle.abt_node.specs.declared.reply.DropCause.TheVariants.{Stale}
use Rattle.abt_node.specs.declared.reply.Onward.{Onward}
use Rattle.abt_node.specs.declared.reply.Onward.TheVariants as onward
use Rattle.abt_reason.specs.declared.grounds.Numbers.{Numbers}
use Rattle.abt_reason.specs.declared.grounds.Numbers.TheVariants.{NoConnection, NoPort, NoHop, Moment, Cell, AtHop, Newest, Waits, Reserved}
use Rattle.abt_step.specs.Moments.{window_start, window_end}

-- the newest number that was decided there
abbrev pub newest_member : ℕ → List Token
newest_member newest = number_member (codes "newest") newest

-- what is asked for, what is held for the connection and for others, and the capacity
abbrev pub fit_numbers : (asks holds total capacity : ℕ) → List Token
fit_numbers asks holds total capacity =
    number_member (codes "asks") asks ++ number_member (codes "holds") holds ++ exact_members (codes "others") (codes "others_text") (total - holds)
    ++ exact_members (codes "capacity") (codes "capacity_text") capacity

-- a refusal: the number was refused there before, or the asked rate doesn't fit beside the others
abbrev pub refusal_numbers : (seq newest asks holds total capacity : ℕ) → List Token
refusal_numbers seq newest asks holds total capacity =
    if seq == newest then newest_member newest else fit_numbers asks holds total capacity

abbrev pub onward_numbers : Numbers → Onward → List Token
onward_numbers (AtHop seq newest asks holds total capacity) (onward.Refuse answer) = refusal_numbers seq newest asks holds total capacity
onward_numbers (AtHop seq newest asks holds total capacity) (onward.Drop Stale) = newest_member newest
onward_numbers numbers reply = []

abbrev pub back_numbers : Numbers → Back → List Token
back_numbers (Newest newest) (back.Drop Stale) = newest_member newest
back_numbers numbers reply = []

-- the number that a source waits for, null for none
abbrev pub awaited_member : Option ℕ → List Token
awaited_member None = key (codes "awaited") ∷ null ∷ []
awaited_member (Some seq) = number_member (codes "awaited") seq

abbrev pub heard_numbers : Numbers → Heard → List Token
heard_numbers (Waits awaited) Ignored = awaited_member awaited
heard_numbers numbers heard = []

abbrev pub capacity_numbers : Numbers → CapacityFault → List Token
capacity_numbers (Reserved total) BelowSum = exact_members (codes "total") (codes "total_text") total
capacity_numbers numbers fault = []

-- the first and the last moment at which a cell may be at the first hop
abbrev pub window_members : (moment delay tau : ℕ) → List Token
window_members moment delay tau =
    exact_members (codes "from") (codes "from_text") (window_start moment delay)
    ++ exact_members (codes "to") (codes "to_text") (window_end moment delay tau)

-- a cell that can't arrive
abbrev pub cell_numbers : Numbers → Cause → List Token
cell_numbers (Cell cell at emitted fence moment delay tau last) NotSent = number_member (codes "emitted") emitted
cell_numbers (Cell cell at emitted fence moment delay tau last) Fenced = number_member (codes "fence") fence
cell_numbers (Cell cell at emitted fence moment delay tau last) Delay = window_members moment delay tau
cell_numbers (Cell cell at emitted fence moment delay tau last) ClockBack = exact_members (codes "last") (codes "last_text") last
cell_numbers numbers cause = []

abbrev pub cause_numbers : Numbers → Cause → List Token
cause_numbers (NoConnection count) cause = number_member (codes "connections") count
cause_numbers (NoPort count) cause = number_member (codes "ports") count
cause_numbers (NoHop count) cause = number_member (codes "hops") count
cause_numbers (Moment now clock) ClockBack = exact_members (codes "clock") (codes "clock_text") clock
cause_numbers numbers cause = cell_numbers numbers cause

-- the numbers by which an outcome is as it is
abbrev pub reason_numbers : Numbers → Outcome → List Token
reason_numbers numbers (Requested reply) = onward_numbers numbers reply
reason_numbers numbers (Answered reply) = back_numbers numbers reply
reason_numbers numbers (Told heard) = heard_numbers numbers heard
reason_numbers numbers (CapacityRefused fault) = capacity_numbers numbers fault
reason_numbers numbers (NotEnabled cause) = cause_numbers numbers cause
reason_numbers numbers outcome = []

-- an object of them
abbrev pub why_member : Numbers → Outcome → List Token
why_member numbers outcome = key (codes "why") ∷ begin_object ∷ (reason_numbers numbers outcome ++ end_object ∷ [])
