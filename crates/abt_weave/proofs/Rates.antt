-- The rates that a world says were asked for are those that the journal of the source says.
use Rattle.std.proofs.Common.{◌≡◌, ℕ, ◌<◌, inl, inr, refl, ap, Bool, true, false, List, [], ◌∷◌, length, reverse, ◌∙◌, sym, subst, Option, None, Some}
use Rattle.std.specs.Prelude.{◌==◌, ◌||◌, if◌then◌else◌, slice_get, option_and_then}
use Rattle.std.proofs.lemmas.Bool.{cases_Bool, cond-true, cond-false}
use Rattle.std.proofs.lemmas.Option.{slice_get-get_or}
use Rattle.abt_net.specs.declared.conn.Conn.{Conn}
use Rattle.abt_net.specs.Topology.{Topology, conn_at}
use Rattle.abt_facts.specs.declared.fact.Fact.{Fact}
use Rattle.abt_facts.specs.declared.fact.Fact.TheVariants.{Asked}
use Rattle.abt_facts.specs.Requests.{is_ask_of, was_asked, asked_under, floor_of, ask_of}
use Rattle.abt_index.specs.Kept.{asked_in}
use Rattle.abt_model.specs.declared.event.Event.{Event}
use Rattle.abt_model.specs.Past.{facts_of}
use Rattle.abt_model.specs.Run.{facts_after}
use Rattle.abt_world.specs.Readings.{asked_for}
use Rattle.abt_weave.specs.Asked.{floor_in, ask_in}
use Rattle.abt_weave.specs.Projections.{past_of, entries_on}
use Rattle.abt_weave.proofs.AskedRates.{floor_told, ask_told}
use Rattle.abt_weave.proofs.AllBelow.{conn_there}
use Rattle.abt_weave.proofs.Pasts.{past-is}
use Rattle.abt_weave.proofs.PortEvents.{some_same}

-- a number that wasn't asked has no rates
none_under : (part : (floor ask mark : ℕ) → ℕ) (facts : List Fact) (s : ℕ) → was_asked facts s ≡ false → asked_under part facts s ≡ 0
none_under part [] s h = refl
none_under part (Asked seq floor ask mark ∷ facts) s h = elim (cases_Bool (seq == s)) [
  | inl same ↦ (let clash : true ≡ false = sym (ap (λ b. b || was_asked facts s) same) ∙ h in absurd (cc))
  | inr other ↦ cond-false _ _ _ other ∙ none_under part facts s (sym (ap (λ b. b || was_asked facts s) other) ∙ h)
]
none_under part (fact ∷ facts) s h = none_under part facts s h

-- the parts of what is told of a number
abbrev pub first_of : Option (ℕ × ℕ) → ℕ
first_of None = 0
first_of (Some both) = both.0

abbrev pub second_of : Option (ℕ × ℕ) → ℕ
second_of None = 0
second_of (Some both) = both.1

floor_first : (facts : List Fact) (s : ℕ) → first_of (asked_in facts s) ≡ floor_of facts s
floor_first facts s = elim (cases_Bool (was_asked facts s)) [
  | inl on ↦ ap first_of (cond-true _ _ _ on)
  | inr off ↦ ap first_of (cond-false _ _ _ off) ∙ sym (none_under (λ floor ask mark. floor) facts s off)
]

ask_second : (facts : List Fact) (s : ℕ) → second_of (asked_in facts s) ≡ ask_of facts s
ask_second facts s = elim (cases_Bool (was_asked facts s)) [
  | inl on ↦ ap second_of (cond-true _ _ _ on)
  | inr off ↦ ap second_of (cond-false _ _ _ off) ∙ sym (none_under (λ floor ask mark. ask) facts s off)
]

asked_known : (net : Topology) (events : List Event) (c s : ℕ) → c < length net.conns → asked_for net (facts_after net events) c s ≡ asked_in (facts_of c (past_of net (reverse events))) s
asked_known net events c s low =
    let conn = conn_there net c low in
    ap (option_and_then (λ (_ : Conn). asked_in (facts_of c (facts_after net events)) s)) conn.1 ∙ ap (λ past. asked_in (facts_of c past) s) (past-is net events)

pub floor_asked : (net : Topology) (events : List Event) (c s : ℕ) → c < length net.conns → first_of (asked_for net (facts_after net events) c s) ≡ floor_in (reverse (entries_on net c (reverse events))) s
floor_asked net events c s low = ap first_of (asked_known net events c s low) ∙ floor_first (facts_of c (past_of net (reverse events))) s ∙ floor_told net c s (reverse events)

pub ask_asked : (net : Topology) (events : List Event) (c s : ℕ) → c < length net.conns → second_of (asked_for net (facts_after net events) c s) ≡ ask_in (reverse (entries_on net c (reverse events))) s
ask_asked net events c s low = ap second_of (asked_known net events c s low) ∙ ask_second (facts_of c (past_of net (reverse events))) s ∙ ask_told net c s (reverse events)
