-- Two lists keep the rules exactly if no fault applies to them.
use Rattle.std.proofs.Common.{◌≡◌, ℕ, ◌^◌, ◌<◌, ◌≤◌, ◌⊎◌, List, length, get_or, Option, Some, None, sym, ◌∙◌, ap, subst, inl, inr, arith}
use Rattle.std.specs.Prelude.{Any, All, IsSomeAnd, slice_get, option_map}
use Rattle.std.proofs.lemmas.Bool.{cases_lt, cases_order}
use Rattle.std.proofs.lemmas.List.{get_or_default}
use Rattle.std.proofs.lemmas.Option.{slice_get-get_or, slice_get_cases}
use Rattle.abt_cell.specs.Channel.{Channel}
use Rattle.abt_net.specs.declared.conn.Conn.{Conn}
use Rattle.abt_net.specs.declared.fault.NetFault.{NetFault}
use Rattle.abt_net.specs.declared.fault.NetFault.TheVariants.{NoPort, PathLength, PathRepeat, VcRepeat, Limit, Memory}
use Rattle.abt_net.specs.Faults.{LeavesNet, HasWrongLength, VisitsTwice, RepeatsChannel, IsPastLimits, IsWrong}
use Rattle.abt_net.specs.Topology.{Topology, channel_at, IsConnWithin, IsWithinRules}
use Rattle.abt_net.proofs.ChannelLemmas.{same_some}

-- some element, read at any default
any_at : {X : Type 0} (P : X → Type 0) (xs : List X) (i : ℕ) (d : X) → i < length xs → P (get_or xs i d) → Any P xs
any_at P xs i d within holds = (i, get_or xs i d, within, get_or_default xs i (get_or xs i d) d within, holds)

none_of_all : {X : Type 0} (P : X → Type 0) (xs : List X) → All (λ x. ¬ P x) xs → ¬ Any P xs
none_of_all {X} P xs none (k, x, within, read, holds) = none k x within (subst P (sym read) holds)

-- a connection at its place
at_place : (P : Conn → Type 0) (conns : List Conn) (k : ℕ) (d : Conn) → k < length conns → P (get_or conns k d) → IsSomeAnd (slice_get conns k) P
at_place P conns k d within holds =
    let Q : Option Conn → Type 0 = λ o. IsSomeAnd o P in
    subst Q (sym (slice_get-get_or conns k d within)) holds

none_at_place : (P : Conn → Type 0) (conns : List Conn) → All (λ conn. ¬ P conn) conns → (k : ℕ) → ¬ IsSomeAnd (slice_get conns k) P
none_at_place P conns none k holds =
    let Q : Option Conn → Type 0 = λ o. IsSomeAnd o P in
    elim (slice_get_cases conns k).1 [
      | inl (x, within, at, read) ↦ none k x within (subst P (sym read) (subst Q at holds))
      | inr (past, at) ↦ subst Q at holds
    ]

-- ---- without a fault the rules are kept

conn_within : (ports : ℕ) (conn : Conn) → ¬ LeavesNet ports conn → ¬ HasWrongLength conn → ¬ VisitsTwice conn → conn.tau ≤ 10 ^ 12 → conn.delay ≤ 10 ^ 13 → IsConnWithin ports conn
conn_within ports conn stays fits once tau delay = record {
  in_net = λ k d within. elim (cases_lt (get_or conn.path k d) ports) [ inl below ↦ below | inr above ↦ absurd (stays (any_at (λ p. ports ≤ p) conn.path k d within above)) ];
  has_hop = elim (cases_lt 0 (length conn.path)) [ inl some ↦ some | inr none ↦ absurd (fits (inl (omega arith))) ];
  hops = elim (cases_lt 16 (length conn.path)) [ inl many ↦ absurd (fits (inr many)) | inr few ↦ few ];
  visits_once = λ i j d before within same. once (i, j, before, within, get_or_default conn.path i 0 d (omega arith) ∙ same ∙ get_or_default conn.path j d 0 within);
  tau = tau;
  delay = delay;
}

-- a limit that isn't passed
within_limit : {X : Type 0} (n : X → ℕ) (most : ℕ) (xs : List X) → ¬ Any (λ x. most < n x) xs → All (λ x. n x ≤ most) xs
within_limit n most xs none k d within =
    elim (cases_lt most (n (get_or xs k d))) [ inl above ↦ absurd (none (any_at (λ x. most < n x) xs k d within above)) | inr kept ↦ kept ]

pub rules_kept : (net : Topology) → ((fault : NetFault) → ¬ IsWrong fault net) → IsWithinRules net
rules_kept net clear = record {
  each_conn = λ k d within. conn_within (length net.capacities) (get_or net.conns k d)
      (λ leaves. clear (NoPort k) (at_place (LeavesNet (length net.capacities)) net.conns k d within leaves))
      (λ wrong. clear (PathLength k) (at_place HasWrongLength net.conns k d within wrong))
      (λ twice. clear (PathRepeat k) (at_place VisitsTwice net.conns k d within twice))
      (elim (cases_lt (10 ^ 12) (get_or net.conns k d).tau) [ inl above ↦ absurd (clear Limit (inr (inr (inr (any_at (λ (conn : Conn). (10 ^ 12 < conn.tau) ⊎ (10 ^ 13 < conn.delay)) net.conns k d within (inl above)))))) | inr kept ↦ kept ])
      (elim (cases_lt (10 ^ 13) (get_or net.conns k d).delay) [ inl above ↦ absurd (clear Limit (inr (inr (inr (any_at (λ (conn : Conn). (10 ^ 12 < conn.tau) ⊎ (10 ^ 13 < conn.delay)) net.conns k d within (inr above)))))) | inr kept ↦ kept ]);
  own_channels = λ i j d before within same. clear (VcRepeat j) (
    within,
    (
      i,
      before,
      ap (option_map (λ (conn : Conn). conn.vc)) (slice_get-get_or net.conns i d (omega arith)) ∙ ap Some same ∙ sym (ap (option_map (λ (conn : Conn). conn.vc)) (slice_get-get_or net.conns j d within)),
    ),
  );
  ports = elim (cases_lt 256 (length net.capacities)) [ inl above ↦ absurd (clear Limit (inl above)) | inr kept ↦ kept ];
  connections = elim (cases_lt 1024 (length net.conns)) [ inl above ↦ absurd (clear Limit (inr (inl above))) | inr kept ↦ kept ];
  each_capacity = within_limit (λ u. u) (2 ^ 60) net.capacities (λ above. clear Limit (inr (inr (inl above))));
}

-- ---- where the rules are kept there is no fault

right_length : (ports : ℕ) (conn : Conn) → IsConnWithin ports conn → ¬ HasWrongLength conn
right_length ports conn fits (inl none) = omega (arith, fits.has_hop)
right_length ports conn fits (inr many) = omega (arith, fits.hops)

in_limits : (ports : ℕ) (conn : Conn) → IsConnWithin ports conn → ¬ ((10 ^ 12 < conn.tau) ⊎ (10 ^ 13 < conn.delay))
in_limits ports conn fits (inl above) = omega (arith, fits.tau)
in_limits ports conn fits (inr above) = omega (arith, fits.delay)

no_repeat : (net : Topology) → IsWithinRules net → (c : ℕ) → ¬ RepeatsChannel net.conns c
no_repeat net kept c (within, (b, before, same)) = elim (slice_get_cases net.conns c).1 [
  | inl (x, bound, at, read) ↦ kept.own_channels b c x before within (same_some
      (sym (ap (option_map (λ (conn : Conn). conn.vc)) (slice_get-get_or net.conns b x (omega arith))) ∙ same ∙ ap (option_map (λ (conn : Conn). conn.vc)) (slice_get-get_or net.conns c x within)))
  | inr (past, at) ↦ omega arith
]

no_limit_passed : (net : Topology) → IsWithinRules net → ¬ IsPastLimits net
no_limit_passed net kept (inl ports) = omega (arith, kept.ports)
no_limit_passed net kept (inr (inl connections)) = omega (arith, kept.connections)
no_limit_passed net kept (inr (inr (inl above))) = none_of_all (λ u. 2 ^ 60 < u) net.capacities (λ k d within over. let at_most = kept.each_capacity k d within in omega arith) above
no_limit_passed net kept (inr (inr (inr above))) = none_of_all (λ (conn : Conn). (10 ^ 12 < conn.tau) ⊎ (10 ^ 13 < conn.delay)) net.conns (λ k d within. in_limits (length net.capacities) _ (kept.each_conn k d within)) above

pub no_fault : (net : Topology) → IsWithinRules net → (fault : NetFault) → ¬ IsWrong fault net
no_fault net kept (NoPort c) =
    none_at_place (LeavesNet (length net.capacities)) net.conns (λ k d within. none_of_all (λ p. length net.capacities ≤ p) (get_or net.conns k d).path (λ i e below above. let port : get_or (get_or net.conns k d).path i e < length net.capacities = (kept.each_conn k d within).in_net i e below in omega arith)) c
no_fault net kept (PathLength c) = none_at_place HasWrongLength net.conns (λ k d within. right_length (length net.capacities) _ (kept.each_conn k d within)) c
no_fault net kept (PathRepeat c) =
    none_at_place VisitsTwice net.conns (λ k d within (i, j, before, bound, same). (kept.each_conn k d within).visits_once i j 0 before bound same) c
no_fault net kept (VcRepeat c) = no_repeat net kept c
no_fault net kept Limit = no_limit_passed net kept
no_fault net kept Memory = λ wrong. wrong

-- ---- one connection has a channel

pub channel_within : (conns : List Conn) (c : ℕ) (q : Channel) → channel_at conns c ≡ Some q → c < length conns
channel_within conns c q has = elim (slice_get_cases conns c).1 [
  | inl (x, within, at, read) ↦ within
  | inr (past, at) ↦ absurd (none_some (sym (ap (option_map (λ (conn : Conn). conn.vc)) at) ∙ has))
] where
  none_some : None ≡ Some q → ⊥
  none_some e = cc

pub one_place : (net : Topology) → IsWithinRules net → (b c : ℕ) (q : Channel) → channel_at net.conns b ≡ Some q → channel_at net.conns c ≡ Some q → b ≡ c
one_place net kept b c q first second = elim (cases_order b c) [
  | inl same ↦ same
  | inr (inl below) ↦ absurd (no_repeat net kept c (channel_within net.conns c q second, (b, below, first ∙ sym second)))
  | inr (inr above) ↦ absurd (no_repeat net kept b (channel_within net.conns b q first, (c, above, second ∙ sym first)))
]
