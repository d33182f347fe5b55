-- What is reserved on each port stays within its capacity.
use Rattle.std.proofs.Common.{◌≡◌, ◌≢◌, ℕ, zero, suc, ◌+◌, ◌-◌, ◌≤◌, ◌⊎◌, inl, inr, refl, ap, List, [], ◌∷◌, ◌++◌, ◌∙◌, sym, subst, arith}
use Rattle.std.specs.Prelude.{◌==◌, slice_index, slice_get, sum_by, All, None, Some}
use Rattle.std.proofs.lemmas.Bool.{ne_eqb, eq-eqb, cond-false, cond-true, cases_eq, cond_both}
use Rattle.std.proofs.lemmas.List.Sums.{sum_by-cons}
use Rattle.std.specs.List.{enumerate_from}
use Rattle.abt_facts.specs.declared.fact.Fact.{Fact}
use Rattle.abt_model.specs.declared.event.Event.{Event}
use Rattle.abt_model.specs.declared.target.Target.{Target}
use Rattle.abt_model.specs.declared.target.Target.TheVariants.{Hop}
use Rattle.abt_model.specs.declared.outcome.Outcome.{Outcome}
use Rattle.abt_net.specs.declared.conn.Conn.{Conn}
use Rattle.abt_facts.specs.Hop.{held_of}
use Rattle.abt_net.specs.Topology.{Topology, conn_at}
use Rattle.abt_model.specs.Events.{AsksRate}
use Rattle.abt_model.specs.Targets.{target_of, hop_in, port_in}
use Rattle.abt_model.specs.Past.{Past, facts_of}
use Rattle.abt_model.specs.Reserved.{held_on, reserved_on, capacity_of}
use Rattle.abt_net.specs.Paths.{hop_of}
use Rattle.abt_net.proofs.PathLemmas.{hop_of-port}
use Rattle.abt_model.specs.Answers.{answer_by}
use Rattle.abt_model.specs.Outcomes.{conn_of, port_of, facts_added, after_event}
use Rattle.abt_model.specs.Run.{facts_from, facts_after}
use Rattle.abt_model.proofs.Capacities.{capacity_of-own, after_event-alone, alone_within}
use Rattle.abt_model.proofs.Within.{step_within}
use Rattle.abt_model.proofs.Worlds.{cases_option, other_conn, none_some, facts_of-own, facts_of-other, outcome_of-known, after_event-unknown, AllLawful, lawful_at, after_event_lawful, nothing_lawful, first_asks, others_ask}

-- what a numbered list adds up to
abbrev pub numbered_sum : (ℕ × Conn → ℕ) → ℕ → List Conn → ℕ
numbered_sum f n conns = sum_by f (enumerate_from n conns)

numbered_cons : (f : ℕ × Conn → ℕ) (n : ℕ) (conn : Conn) (conns : List Conn) → numbered_sum f n (conn ∷ conns) ≡ f (n, conn) + numbered_sum f (n + 1) conns
numbered_cons f n conn conns = sum_by-cons f (n, conn) (enumerate_from (n + 1) conns)

-- a sum stays if its terms do
pub numbered_same : (f g : ℕ × Conn → ℕ) (n : ℕ) (conns : List Conn) → ((d : ℕ) (conn : Conn) → n ≤ d → g (d, conn) ≡ f (d, conn)) → numbered_sum g n conns ≡ numbered_sum f n conns
numbered_same f g n [] same = refl
numbered_same f g n (conn ∷ conns) same =
    omega (arith, numbered_cons f n conn conns, numbered_cons g n conn conns, same n conn (omega arith), numbered_same f g (n + 1) conns (λ d other low. same d other (omega arith)))

-- a sum in which one term changes
pub numbered_change : (f g : ℕ × Conn → ℕ) (c n i : ℕ) (conns : List Conn) (conn : Conn) → c ≡ n + i → slice_get conns i ≡ Some conn → ((d : ℕ) (other : Conn) → c ≢ d → g (d, other) ≡ f (d, other)) →
    numbered_sum g n conns + f (c, conn) ≡ numbered_sum f n conns + g (c, conn)
numbered_change f g c n i [] conn place at same = absurd (cc)
numbered_change f g c n zero (first ∷ conns) conn place at same =
    let is : first ≡ conn = cc in
    let here : n ≡ c = omega arith in
    let rest = numbered_same f g (n + 1) conns (λ d other low. same d other (λ e. omega arith)) in
    let a : f (n, first) ≡ f (c, conn) = ap (λ m. f (m, first)) here ∙ ap (λ x. f (c, x)) is in
    let b : g (n, first) ≡ g (c, conn) = ap (λ m. g (m, first)) here ∙ ap (λ x. g (c, x)) is in
    omega (arith, numbered_cons f n first conns, numbered_cons g n first conns, rest, a, b)
numbered_change f g c n (suc i) (first ∷ conns) conn place at same =
    let further : c ≡ (n + 1) + i = omega arith in
    let rest = numbered_change f g c (n + 1) i conns conn further at same in
    omega (arith, numbered_cons f n first conns, numbered_cons g n first conns, rest, same n first (λ e. omega arith))

pub numbered_least : (f : ℕ × Conn → ℕ) (c n i : ℕ) (conns : List Conn) (conn : Conn) → c ≡ n + i → slice_get conns i ≡ Some conn → f (c, conn) ≤ numbered_sum f n conns
numbered_least f c n i [] conn place at = absurd (cc)
numbered_least f c n zero (first ∷ conns) conn place at =
    let is : first ≡ conn = cc in
    let here : n ≡ c = omega arith in
    let a : f (n, first) ≡ f (c, conn) = ap (λ m. f (m, first)) here ∙ ap (λ x. f (c, x)) is in
    omega (arith, numbered_cons f n first conns, a)
numbered_least f c n (suc i) (first ∷ conns) conn place at =
    omega (arith, numbered_cons f n first conns, numbered_least f c (n + 1) i conns conn (omega arith) at)

pub numbered_zero : (f : ℕ × Conn → ℕ) (n : ℕ) (conns : List Conn) → ((d : ℕ) (conn : Conn) → f (d, conn) ≡ 0) → numbered_sum f n conns ≡ 0
numbered_zero f n [] none = refl
numbered_zero f n (conn ∷ conns) none = omega (arith, numbered_cons f n conn conns, none n conn, numbered_zero f (n + 1) conns none)

port_in-hop : (path : List ℕ) (t : Target) → hop_in t ≢ 0 → port_in path t ≡ slice_index path (hop_in t - 1)
port_in-hop path (Hop c x) some = refl
port_in-hop path other some = absurd (some refl)

-- no port's sum is above the capacity in force
abbrev pub AllWithin : Topology → Past → Type 0
AllWithin net past = (p : ℕ) → reserved_on net past p ≤ capacity_of net past p

-- what a connection holds on a port, by its number
abbrev pub holding : Past → ℕ → (ℕ × Conn → ℕ)
holding past p = λ numbered. held_on (facts_of numbered.0 past) numbered.1.path p

-- what the connection of an event holds on a port after it
on_port : (net : Topology) (past : Past) → AllLawful net past → (e : Event) (p c : ℕ) (conn : Conn) → conn_at net c ≡ Some conn →
    (let old = facts_of c past in
    let q = port_of conn.path e in
    let new = facts_added old e (answer_by conn (reserved_on net past q) (capacity_of net past q) old e) ++ old in
    (held_on new conn.path p ≤ held_on old conn.path p) ⊎ (reserved_on net past p - held_on old conn.path p + held_on new conn.path p ≤ capacity_of net past p))
on_port net past lawful e p c conn known =
    let path = conn.path in
    let old = facts_of c past in
    let q = port_of path e in
    let new = facts_added old e (answer_by conn (reserved_on net past q) (capacity_of net past q) old e) ++ old in
    elim (cases_eq (hop_of path p) 0) [
      | inl z ↦ (
          let a : held_on new path p ≡ 0 = cond-true _ _ _ (eq-eqb _ _ z) in
          inl (omega (arith, a)))
      | inr some ↦ (
          let a : held_on new path p ≡ held_of new (hop_of path p) = cond-false _ _ _ (ne_eqb _ _ some) in
          let b : held_on old path p ≡ held_of old (hop_of path p) = cond-false _ _ _ (ne_eqb _ _ some) in
          elim (step_within conn (reserved_on net past q) (capacity_of net past q) old (lawful_at net past lawful c conn known) e (hop_of path p)) [
            | inl less ↦ inl (omega (arith, a, b, less))
            | inr fits ↦ (
                let here : hop_in (target_of e) ≢ 0 = λ z. some (sym fits.0 ∙ z) in
                let port : q ≡ p = port_in-hop path (target_of e) here ∙ ap (λ h. slice_index path (h - 1)) fits.0 ∙ hop_of-port path p some in
                inr (rw (a, b) (subst (λ r. reserved_on net past r - held_of old (hop_of path p) + held_of new (hop_of path p) ≤ capacity_of net past r) port fits.1)))
          ])
    ]

-- an event of no connection leaves what is reserved
reserved_alone : (net : Topology) (past : Past) (e : Event) (p : ℕ) → conn_of e ≡ None → reserved_on net (after_event net past e) p ≡ reserved_on net past p
reserved_alone net past e p alone =
    numbered_same (holding past p) (holding (after_event net past e) p) 0 net.conns
    (λ d other low. ap (λ (l : List Fact). held_on l other.path p) (facts_of-other net past e d (λ own. none_some d (sym alone ∙ own))))

own_within : (net : Topology) (past : Past) → AllLawful net past → AllWithin net past → (e : Event) (p c : ℕ) → conn_of e ≡ Some c →
    reserved_on net (after_event net past e) p ≤ capacity_of net (after_event net past e) p
own_within net past lawful within e p c own = elim (cases_option (conn_at net c)) [
  | inl unknown ↦ subst (λ v. reserved_on net v p ≤ capacity_of net v p) (sym (after_event-unknown net past e c own unknown)) (within p)
  | inr known ↦ (
      let conn = known.0 in
      let after = after_event net past e in
      let f = holding past p in
      let g = holding after p in
      let others : (d : ℕ) (other : Conn) → c ≢ d → g (d, other) ≡ f (d, other) =
      λ d other differ. ap (λ (l : List Fact). held_on l other.path p) (facts_of-other net past e d (λ whose. other_conn c d differ (sym own ∙ whose))) in
      let moved : reserved_on net after p + f (c, conn) ≡ reserved_on net past p + g (c, conn) = numbered_change f g c 0 c net.conns conn (omega arith) known.1 others in
      let least : f (c, conn) ≤ reserved_on net past p = numbered_least f c 0 c net.conns conn (omega arith) known.1 in
      let now_is = facts_of-own net past e c own ∙ ap (λ (o : Outcome). facts_added (facts_of c past) e o ++ facts_of c past) (outcome_of-known net past e c conn own known.1) in
      let mine = ap (λ (l : List Fact). held_on l conn.path p) now_is in
      let old = within p in
      let stays = capacity_of-own net past e p c own in
      elim (on_port net past lawful e p c conn known.1) [
        | inl less ↦ omega (arith, moved, least, old, less, mine, stays)
        | inr fits ↦ omega (arith, moved, least, old, fits, mine, stays)
      ])
]

pub after_event_within : (net : Topology) (past : Past) → AllLawful net past → AllWithin net past → (e : Event) → AllWithin net (after_event net past e)
after_event_within net past lawful within e p = elim (cases_option (conn_of e)) [
  | inl alone ↦ subst (λ r. r ≤ capacity_of net (after_event net past e) p) (sym (reserved_alone net past e p alone)) (
      subst (λ v. reserved_on net past p ≤ capacity_of net v p) (sym (after_event-alone net past e alone)) (alone_within net past e p (within p)))
  | inr own ↦ own_within net past lawful within e p own.0 own.1
]

held_on-nothing : (path : List ℕ) (p : ℕ) → held_on [] path p ≡ 0
held_on-nothing path p = cond_both (hop_of path p == 0) 0 (held_of [] (hop_of path p)) (λ (n : ℕ). n ≡ 0) (λ e. refl) (λ e. refl)

pub nothing_within : (net : Topology) → AllWithin net []
nothing_within net p =
    let none : reserved_on net [] p ≡ 0 = numbered_zero (holding [] p) 0 net.conns (λ d conn. held_on-nothing conn.path p) in
    omega (arith, none)

-- both stay over lists of events
pub facts_from_lawful : (net : Topology) (es : List Event) (past : Past) → All AsksRate es → AllLawful net past → AllWithin net past → AllLawful net (facts_from net past es) × AllWithin net (facts_from net past es)
facts_from_lawful net [] past rates lawful within = (lawful, within)
facts_from_lawful net (e ∷ es) past rates lawful within =
    facts_from_lawful net es (after_event net past e) (others_ask e es rates) (after_event_lawful net past lawful e (first_asks e es rates)) (after_event_within net past lawful within e)

pub facts_after_lawful : (net : Topology) (es : List Event) → All AsksRate es → AllLawful net (facts_after net es) × AllWithin net (facts_after net es)
facts_after_lawful net es rates = facts_from_lawful net es [] rates (nothing_lawful net) (nothing_within net)
