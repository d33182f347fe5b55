use Rattle.std.proofs.Common.{ℕ, Option, refl, subst, inl, inr}
use Rattle.std.proofs.lemmas.Bool.{false≢true}
use Rattle.abt_net.specs.declared.fault.NetFault.TheVariants.{VcRepeat}
use Rattle.abt_net.specs.Faults.{RepeatsChannel}
use Rattle.abt_net.specs.Search.{NamesLeast}
use Rattle.abt_net.specs.Topology.{Topology}
use Rattle.abt_net.proofs.FaultLemmas.{clear_paths, clear_channels, clear_of_all, first_at, first_limit}
use Rattle.abt_net.proofs.RuleLemmas.{rules_kept}
use Rattle.abt_net.proofs.rules.first_fault.Goals as goal

pub returns-in-Some-repeat : goal.returns-in-Some-repeat
returns-in-Some-repeat c =
    let net : Topology = record { capacities = c.args.capacities.now; conns = c.args.conns.now } in
    let P : Option ℕ → Type 0 = λ answer. NamesLeast (RepeatsChannel net.conns) answer in
    let paths = clear_paths net c.in_default.ensures (c.in_default-first_of_wrong_length).ensures (c.in_default-first_visiting_twice).ensures in
    inl (first_at net (VcRepeat (c.in-Some-repeat).place) paths (subst P (c.in-Some-repeat).is (c.first_repeat-repeat).ensures))

pub returns-then-is_past_limits : goal.returns-then-is_past_limits
returns-then-is_past_limits c =
    let net : Topology = record { capacities = c.args.capacities.now; conns = c.args.conns.now } in
    let P : Option ℕ → Type 0 = λ answer. NamesLeast (RepeatsChannel net.conns) answer in
    let paths = clear_paths net c.in_default.ensures (c.in_default-first_of_wrong_length).ensures (c.in_default-first_visiting_twice).ensures in
    let channels = clear_channels net paths (subst P (c.in_default-repeat).is (c.first_repeat-repeat).ensures) in
    inl (first_limit net channels (c.if-is_past_limits.ensures.0 refl))

pub returns-then-is_memory_refused : goal.returns-then-is_memory_refused
returns-then-is_memory_refused c =
    let net : Topology = record { capacities = c.args.capacities.now; conns = c.args.conns.now } in
    let P : Option ℕ → Type 0 = λ answer. NamesLeast (RepeatsChannel net.conns) answer in
    let paths = clear_paths net c.in_default.ensures (c.in_default-first_of_wrong_length).ensures (c.in_default-first_visiting_twice).ensures in
    let channels = clear_channels net paths (subst P (c.in_default-repeat).is (c.first_repeat-repeat).ensures) in
    inr (refl, rules_kept net (clear_of_all net channels (λ over. false≢true (c.if-is_past_limits.ensures.1 over))))

pub returns : goal.returns
returns c =
    let net : Topology = record { capacities = c.args.capacities.now; conns = c.args.conns.now } in
    let P : Option ℕ → Type 0 = λ answer. NamesLeast (RepeatsChannel net.conns) answer in
    let paths = clear_paths net c.in_default.ensures (c.in_default-first_of_wrong_length).ensures (c.in_default-first_visiting_twice).ensures in
    let channels = clear_channels net paths (subst P (c.in_default-repeat).is (c.first_repeat-repeat).ensures) in
    rules_kept net (clear_of_all net channels (λ over. false≢true (c.if-is_past_limits.ensures.1 over)))
