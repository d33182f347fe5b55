-- A text says one thing.
use Rattle.std.proofs.Common.{◌≡◌, ◌↔◌, ℕ, Bool, true, false, List, Ok, Err, refl, sym, ◌∙◌, ap, subst, inl, inr}
use Rattle.std.specs.Prelude.{MatchResult}
use Rattle.abt_net.specs.Topology.{Topology}
use Rattle.abt_net.proofs.FaultLemmas.{one_first}
use Rattle.abt_net.proofs.RuleLemmas.{no_fault}
use Rattle.abt_model.specs.declared.event.Event.{Event}
use Rattle.abt_format.specs.Report.{report_of}
use Rattle.abt_text.specs.Text.{Text}
use Rattle.abt_model.specs.Traces.{IsTrace}
use Rattle.abt_model.specs.declared.trace.Trace.{Trace}
use Rattle.abt_scenario.specs.declared.fault.ScenarioFault.TheVariants.{Net}
use Rattle.abt_scenario.specs.declared.scenario.Scenario.{Scenario}
use Rattle.abt_scenario.specs.Engine.{IsReportText}
use Rattle.abt_scenario.specs.OneAnswer.{HasOneReading, HasOneReport}
use Rattle.abt_scenario.specs.Reading.{Read}
use Rattle.abt_scenario.specs.Scenarios.{ReadsDraft, net_in}
use Rattle.abt_scenario.specs.Walk.{DraftRead, draft_of}

of_draft : (draft : DraftRead) (one other : Read Scenario) → ReadsDraft draft one → ReadsDraft draft other → one ≡ other
of_draft draft (Ok a) (Ok b) (rules, is) (rules', is') = sym is ∙ is'
of_draft draft (Ok a) (Err g) (rules, is) (inl (fault, first, named)) = absurd (no_fault (net_in draft) rules fault first.wrong)
of_draft draft (Ok a) (Err g) (rules, is) (inr (rules', is')) = sym is ∙ is'
of_draft draft (Err f) (Ok b) (inl (fault, first, named)) (rules, is) = absurd (no_fault (net_in draft) rules fault first.wrong)
of_draft draft (Err f) (Ok b) (inr (rules', is')) (rules, is) = sym is' ∙ is
of_draft draft (Err f) (Err g) (inl (fault, first, named)) (inl (fault', first', named')) =
    ap Err (named ∙ ap Net (one_first (net_in draft) fault fault' first first') ∙ sym named')
of_draft draft (Err f) (Err g) (inl (fault, first, named)) (inr (rules, is)) = absurd (no_fault (net_in draft) rules fault first.wrong)
of_draft draft (Err f) (Err g) (inr (rules, is)) (inl (fault, first, named)) = absurd (no_fault (net_in draft) rules fault first.wrong)
of_draft draft (Err f) (Err g) (inr (rules, is)) (inr (rules', is')) = sym is ∙ is'

of_walk : (walked : Read DraftRead) (one other : Read Scenario)
    → MatchResult walked (λ draft. ReadsDraft draft one) (λ fault. one ≡ Err fault)
    → MatchResult walked (λ draft. ReadsDraft draft other) (λ fault. other ≡ Err fault)
    → one ≡ other
of_walk (Ok draft) one other x y = of_draft draft one other x y
of_walk (Err fault) one other x y = x ∙ sym y

pub one_reading : (text : Text) → HasOneReading text
one_reading text one other x y = of_walk (draft_of text) one other x y

of_flag : (P : Type 0) (a b : Bool) → (a ≡ true) ↔ P → (b ≡ true) ↔ P → a ≡ b
of_flag P true true x y = refl
of_flag P true false x y = sym (y.1 (x.0 refl))
of_flag P false true x y = x.1 (y.0 refl)
of_flag P false false x y = refl

of_traces : (net : Topology) (events : List Event) (one other : Trace) → IsTrace net events one → IsTrace net events other
    → report_of one ≡ report_of other
of_traces net events one other x y =
    rw (x.outcomes, x.rates, x.held, x.totals, x.capacities, y.outcomes, y.rates, y.held, y.totals, y.capacities, of_flag _ one.safe other.safe x.safe y.safe) refl

of_scenario : (scenario : Scenario) (one other : Text) → IsReportText scenario one → IsReportText scenario other → one ≡ other
of_scenario scenario one other x y =
    x.is_report ∙ of_traces scenario.net scenario.events x.trace y.trace x.is_trace y.is_trace ∙ sym y.is_report

same_scenario : (a b : Scenario) (read : Read Scenario) → read ≡ Ok a → read ≡ Ok b → a ≡ b
same_scenario a b read x y = cc

of_scenarios : (a b : Scenario) (one other : Text) → a ≡ b → IsReportText a one → IsReportText b other → one ≡ other
of_scenarios a b one other same x y =
    let P : Scenario → Type 0 = λ s. IsReportText s one in
    of_scenario b one other (subst P same x) y

pub one_report : (text : Text) → HasOneReport text
one_report text one other x y =
    let same = one_reading text (Ok x.scenario) (Ok y.scenario) x.read y.read in
    of_scenarios x.scenario y.scenario one other (same_scenario x.scenario y.scenario (Ok x.scenario) refl same) x.reported y.reported
