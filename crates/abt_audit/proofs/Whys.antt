-- Why the protocol answers as it does.
use Rattle.std.proofs.Common.{◌≡◌, ◌≢◌, ◌∙◌, ℕ, ◌+◌, ◌<◌, ◌++◌, Bool, true, false, List, [], ◌∷◌, length, get_or, take, refl, sym, ap, arith, inl, inr, subst}
use Rattle.std.proofs.lemmas.List.{take_more}
use Rattle.std.proofs.lemmas.Bool.{cases_lt, false≢true}
use Rattle.std.specs.Prelude.{Option, None, Some, Result, Ok, Err, IfOk, MatchOption, ◌↔◌, if◌then◌else◌, codes, option_and_then, slice_get, string_bytes}
use Rattle.abt_text.specs.Text.{Text, ◌⋅◌, newline}
use Rattle.abt_journal.specs.declared.entry.Entry.{Entry}
use Rattle.abt_journal.specs.declared.input.PortInput.{PortInput}
use Rattle.abt_journal.specs.declared.input.PortReply.{PortReply}
use Rattle.abt_journal.specs.Replay.{replay, table_after}
use Rattle.abt_journal_text.specs.Books.{lists_of}
use Rattle.abt_journal_text.specs.declared.run.Run.{Run}
use Rattle.abt_model.specs.PortTable.{port_table}
use Rattle.abt_node.specs.Table.{Table}
use Rattle.abt_reason.specs.declared.grounds.Numbers.{Numbers}
use Rattle.abt_audit.specs.Protocol.{port_answer}
use Rattle.abt_audit.specs.Stuck.{item_at}
use Rattle.abt_audit.specs.Why.{IsLastChange, IsLastWithin, IsNoWhy, IsPortWhy, IsWhyAt, numbers_after, numbers_at, reason_by, why_line}
use Rattle.abt_audit.specs.declared.why.Why.{Why}

pub why_of_some : (reason since : Text) → reason ≢ [] → why_line reason since ≡ codes "why" ⋅ reason ⋅ since ⋅ newline
why_of_some [] since some = absurd (some refl)
why_of_some (octet ∷ more) since some = refl

-- no change before the first entry
pub none_within : (opening : Table) (entries : List Entry) (input : PortInput) → IsLastWithin opening entries input 0 None
none_within opening entries input = λ k low. absurd (omega (arith, low))

-- one entry more, which changes nothing, or is the last one that does
pub last_more : (opening : Table) (entries : List Entry) (input : PortInput) (n : ℕ) (last : Option ℕ) (same : Bool)
    → (same ≡ true → numbers_after opening entries input (n + 1) ≡ numbers_after opening entries input n)
    → (same ≡ false → numbers_after opening entries input (n + 1) ≢ numbers_after opening entries input n)
    → IsLastWithin opening entries input n last → IsLastWithin opening entries input (n + 1) (if same then last else Some n)
last_more opening entries input n last false stays changes is =
    (omega arith, changes refl, λ k above below. absurd (omega (arith, above, below)))
last_more opening entries input n None true stays changes is = λ k low. elim (cases_lt k n) [
  | inl earlier ↦ is k earlier
  | inr late ↦ (let here : k ≡ n = omega (arith, low, late) in
      subst (λ m. numbers_after opening entries input (m + 1) ≡ numbers_after opening entries input m) (sym here) (stays refl))
]
last_more opening entries input n (Some place) true stays changes is = (
  (let low = is.0 in omega (arith, low)),
  is.1,
  λ k above low. elim (cases_lt k n) [
    | inl earlier ↦ is.2 k above earlier
    | inr late ↦ (let here : k ≡ n = omega (arith, low, late) in
        subst (λ m. numbers_after opening entries input (m + 1) ≡ numbers_after opening entries input m) (sym here) (stays refl))
  ],
)

replay_more : (table : Table) (entries : List Entry) (entry : Entry) → replay table (entries ++ entry ∷ []) ≡ table_after (replay table entries) entry.input
replay_more table [] entry = refl
replay_more table (one ∷ entries) entry = replay_more (table_after table one.input) entries entry

-- One entry more is taken.
pub change_on : (opening : Table) (entries : List Entry) (input : PortInput) (n : ℕ) (entry : Entry) (old new : Table) (numbers next : Numbers)
    (last result : Option ℕ) (same : Bool) → n < length entries → entry ≡ get_or entries n entry → old ≡ replay opening (take n entries)
    → numbers ≡ numbers_at old input → new ≡ table_after old entry.input → next ≡ numbers_at new input → (same ≡ true) ↔ (next ≡ numbers)
    → result ≡ (if same then last else Some n) → IsLastWithin opening entries input n last
    → (new ≡ replay opening (take (n + 1) entries)) × (next ≡ numbers_at new input) × IsLastWithin opening entries input (n + 1) result
change_on opening entries input n entry old new numbers next last result same low is old_is numbers_are new_is next_is decides result_is before = (
  whole,
  next_is,
  subst (IsLastWithin opening entries input (n + 1)) (sym result_is)
      (last_more opening entries input n last same (λ yes. up ∙ decides.0 yes ∙ now)
      (λ no equal. false≢true (sym no ∙ decides.1 (sym up ∙ equal ∙ sym now))) before),
)
  where
    more : take (n + 1) entries ≡ take n entries ++ entry ∷ []
    more = take_more entries n entry low ∙ ap (λ (e : Entry). take n entries ++ e ∷ []) (sym is)

    whole : new ≡ replay opening (take (n + 1) entries)
    whole = new_is ∙ ap (λ (t : Table). table_after t entry.input) old_is ∙ sym (replay_more opening (take n entries) entry) ∙ ap (replay opening) (sym more)

    up : numbers_after opening entries input (n + 1) ≡ next
    up = sym (next_is ∙ ap (λ (t : Table). numbers_at t input) whole)

    now : numbers ≡ numbers_after opening entries input n
    now = numbers_are ∙ ap (λ (t : Table). numbers_at t input) old_is

pub if_ok : {T E : Type 0} (r : Result T E) (P Q : T → Type 0) → ((x : T) → P x → Q x) → IfOk r P → IfOk r Q
if_ok (Ok x) P Q f p = f x p
if_ok (Err e) P Q f p = tt

-- why the protocol replies as it does to an entry
pub port_why_is : (run : Run) (p place : ℕ) (entries : List Entry) (entry : Entry) (earlier : List Entry) (numbers : Numbers)
    (last : Option ℕ) (reply : Option PortReply) (why : Why) → slice_get entries place ≡ Some entry → earlier ≡ take place entries
    → numbers ≡ numbers_at (replay (port_table run.net [] p) earlier) entry.input → IsLastChange (port_table run.net [] p) earlier entry.input last
    → reply ≡ port_answer run.net p entries place → string_bytes why.reason ≡ reason_by numbers reply
    → why.since ≡ option_and_then (item_at (lists_of run.port_spots) p) last → IsWhyAt run p place (Some entries) why
port_why_is run p place entries entry earlier numbers last reply why there before numbers_are last_is reply_is reason_is since_is =
    subst (λ (o : Option Entry). MatchOption o (IsNoWhy why) (λ one. IsPortWhy run p place entries one why)) (sym there)
    (record {
      last = last;
      is_last = subst (λ es. IsLastChange (port_table run.net [] p) es entry.input last) before last_is;
      reason = reason_is ∙ ap (λ n. reason_by n reply) (numbers_are
          ∙ ap (λ es. numbers_at (replay (port_table run.net [] p) es) entry.input) before) ∙ ap (reason_by _) reply_is;
      since = since_is;
    })
