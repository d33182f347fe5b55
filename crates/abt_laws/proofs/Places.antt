-- What connections hold on the ports of their paths, and what the past of a net keeps over lists of events.
use Rattle.std.proofs.Common.{◌≡◌, ◌≢◌, ℕ, ◌-◌, ◌≤◌, refl, ap, List, [], ◌∷◌, length, ◌∙◌, arith}
use Rattle.std.specs.Prelude.{slice_index, All, Some}
use Rattle.std.proofs.lemmas.Bool.{ne_eqb, cond-false}
use Rattle.abt_facts.specs.Hop.{held_of}
use Rattle.abt_net.specs.declared.conn.Conn.{Conn}
use Rattle.abt_net.specs.Topology.{Topology, IsWithinRules, conn_at}
use Rattle.abt_net.specs.Paths.{hop_of}
use Rattle.abt_net.proofs.PathLemmas.{hop_at}
use Rattle.abt_model.specs.declared.event.Event.{Event}
use Rattle.abt_model.specs.declared.target.Target.{Target}
use Rattle.abt_model.specs.declared.target.Target.TheVariants.{Hop}
use Rattle.abt_model.specs.Events.{AsksRate}
use Rattle.abt_model.specs.Targets.{target_of, hop_in, port_in}
use Rattle.abt_model.specs.Past.{Past, facts_of}
use Rattle.abt_model.specs.Reserved.{held_on, reserved_on}
use Rattle.abt_model.specs.Outcomes.{port_of, after_event}
use Rattle.abt_model.specs.Run.{facts_from, facts_after}
use Rattle.abt_model.proofs.Served.{conn_within}
use Rattle.abt_model.proofs.Sums.{AllWithin, holding, numbered_least, after_event_within, nothing_within}
use Rattle.abt_model.proofs.Worlds.{AllLawful, after_event_lawful, nothing_lawful, first_asks, others_ask}

-- the port at a hop of a path
abbrev pub port_at : List ℕ → ℕ → ℕ
port_at path hop = slice_index path (hop - 1)

port_in-target : (path : List ℕ) (t : Target) → 1 ≤ hop_in t → port_in path t ≡ port_at path (hop_in t)
port_in-target path (Hop c x) low = refl
port_in-target path other low = absurd (omega arith)

pub port_of-hop : (path : List ℕ) (e : Event) → 1 ≤ hop_in (target_of e) → port_of path e ≡ port_at path (hop_in (target_of e))
port_of-hop path e low = port_in-target path (target_of e) low

-- a path visits that port at that hop
pub hop_there : (net : Topology) → IsWithinRules net → (c : ℕ) (conn : Conn) → conn_at net c ≡ Some conn → (hop : ℕ) → 1 ≤ hop → hop ≤ length conn.path → hop_of conn.path (port_at conn.path hop) ≡ hop
hop_there net rules c conn known hop low high =
    let at = hop_at conn.path (hop - 1) (conn_within net rules c conn known).visits_once (omega arith) in
    omega (arith, at)

-- so what is held there for it is what the hop holds
pub held_there : (net : Topology) → IsWithinRules net → (past : Past) (c : ℕ) (conn : Conn) → conn_at net c ≡ Some conn → (hop : ℕ) → 1 ≤ hop → hop ≤ length conn.path →
    held_on (facts_of c past) conn.path (port_at conn.path hop) ≡ held_of (facts_of c past) hop
held_there net rules past c conn known hop low high =
    let there = hop_there net rules c conn known hop low high in
    let some : hop_of conn.path (port_at conn.path hop) ≢ 0 = λ z. omega arith in
    cond-false _ _ _ (ne_eqb _ _ some) ∙ ap (held_of (facts_of c past)) there

pub held_reserved : (net : Topology) → IsWithinRules net → (past : Past) (c : ℕ) (conn : Conn) → conn_at net c ≡ Some conn → (hop : ℕ) → 1 ≤ hop → hop ≤ length conn.path →
    held_of (facts_of c past) hop ≤ reserved_on net past (port_at conn.path hop)
held_reserved net rules past c conn known hop low high =
    let p = port_at conn.path hop in
    let least = numbered_least (holding past p) c 0 c net.conns conn (omega arith) known in
    omega (arith, least, held_there net rules past c conn known hop low high)

-- what holds before the first event, and after each event if it did before, holds of every past
pub every_past : (net : Topology) → (Q : Past → Type 0) → Q [] → ((past : Past) (e : Event) → AllLawful net past → AllWithin net past → AsksRate e → Q past → Q (after_event net past e)) →
    (events : List Event) → All AsksRate events → Q (facts_after net events)
every_past net Q begins keeps events rates = goes [] events rates (nothing_lawful net) (nothing_within net) begins
  where
    goes : (past : Past) (es : List Event) → All AsksRate es → AllLawful net past → AllWithin net past → Q past → Q (facts_from net past es)
    goes past [] asks lawful within now = now
    goes past (e ∷ es) asks lawful within now =
        goes (after_event net past e) es (others_ask e es asks) (after_event_lawful net past lawful e (first_asks e es asks))
        (after_event_within net past lawful within e) (keeps past e lawful within (first_asks e es asks) now)
