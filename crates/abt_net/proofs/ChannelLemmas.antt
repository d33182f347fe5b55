-- What has to be known of the channels of a list of connections.
use Rattle.std.proofs.Common.{◌≡◌, ℕ, ◌+◌, ◌<◌, ◌≤◌, Bool, true, false, cond, not, ◌&&◌, ◌⊎◌, List, length, length-take, get_or, take, Some, option_map, refl, sym, ◌∙◌, ap, inl, inr, subst, arith}
use Rattle.std.specs.Prelude.{Any, ◌==◌}
use Rattle.std.specs.Cmp.{unsigned_tied, tied_then}
use Rattle.std.specs.Ordering.{nat_cmp, is_eq}
use Rattle.std.proofs.lemmas.Option.{slice_get_read, slice_get_cases}
use Rattle.std.proofs.lemmas.List.{get_or-take}
use Rattle.std.proofs.lemmas.Bool.{false≢true, cases_lt}
use Rattle.std.proofs.lemmas.Bool.Decides.{nat_tests}
use Rattle.abt_cell.specs.Channel.{Channel, channel_cmp}
use Rattle.abt_net.specs.declared.conn.Conn.{Conn}
use Rattle.abt_net.specs.Faults.{RepeatsChannel}
use Rattle.abt_net.specs.Topology.{channel_at}

-- the channel of a connection that was read
pub channel_at_read : (conns : List Conn) (i : ℕ) (x : Conn) → i < length conns → x ≡ get_or conns i x → channel_at conns i ≡ Some x.vc
channel_at_read conns i x within read = ap (option_map (λ (conn : Conn). conn.vc)) (slice_get_read conns (length conns) i x refl within read)

-- channels of the same numbers are one
same_numbers : (a b : Channel) → a.vpi ≡ b.vpi → a.vci ≡ b.vci → a ≡ b
same_numbers a b vpis vcis = λ i. record { vpi = vpis i; vci = vcis i }

-- two channels that compare as equal are one
pub one_channel : (a b : Channel) → is_eq (channel_cmp a b) ≡ true → a ≡ b
one_channel a b tied =
    let both : (is_eq (nat_cmp a.vpi b.vpi) && is_eq (nat_cmp a.vci b.vci)) ≡ true = tied_then (nat_cmp a.vpi b.vpi) (nat_cmp a.vci b.vci) ∙ tied in
    let vpis : is_eq (nat_cmp a.vpi b.vpi) ≡ (a.vpi == b.vpi) = unsigned_tied a.vpi b.vpi in
    let vcis : is_eq (nat_cmp a.vci b.vci) ≡ (a.vci == b.vci) = unsigned_tied a.vci b.vci in
    same_numbers a b (grind (arith, nat_tests)) (grind (arith, nat_tests))

-- a channel compares as equal to itself
tied_self : (a : Channel) → is_eq (channel_cmp a a) ≡ true
tied_self a =
    let both : (is_eq (nat_cmp a.vpi a.vpi) && is_eq (nat_cmp a.vci a.vci)) ≡ is_eq (channel_cmp a a) = tied_then (nat_cmp a.vpi a.vpi) (nat_cmp a.vci a.vci) in
    let vpis : is_eq (nat_cmp a.vpi a.vpi) ≡ (a.vpi == a.vpi) = unsigned_tied a.vpi a.vpi in
    let vcis : is_eq (nat_cmp a.vci a.vci) ≡ (a.vci == a.vci) = unsigned_tied a.vci a.vci in
    grind (arith, nat_tests)

pub same_some : {a b : Channel} → Some a ≡ Some b → a ≡ b
same_some e = cc

-- a channel that an earlier connection has
abbrev pub IsTaken : List Conn → ℕ → Channel → Type 0
IsTaken conns i q = (b : ℕ) × (b < i) × (channel_at conns b ≡ Some q)

pub among_taken : (conns : List Conn) (i : ℕ) (q : Channel) → i ≤ length conns → IsTaken conns i q → Any (λ (conn : Conn). conn.vc ≡ q) (take i conns)
among_taken conns i q within (b, before, taken) =
    elim (slice_get_cases conns b).1 [ inl (y, bound, at, read) ↦ (b, y, omega (arith, length-take {A = Conn}), get_or-take i conns b y before ∙ read, same_some (sym (ap (option_map (λ (conn : Conn). conn.vc)) at) ∙ taken)) | inr (past, _) ↦ absurd (omega arith) ]

-- a connection repeats a channel exactly if its own is taken
pub repeats_taken : (conns : List Conn) (i : ℕ) (x : Conn) → i < length conns → x ≡ get_or conns i x → IsTaken conns i x.vc → RepeatsChannel conns i
repeats_taken conns i x within read (b, before, taken) = (within, (b, before, taken ∙ sym (channel_at_read conns i x within read)))

pub taken_repeats : (conns : List Conn) (i : ℕ) (x : Conn) → i < length conns → x ≡ get_or conns i x → RepeatsChannel conns i → IsTaken conns i x.vc
taken_repeats conns i x within read (_, (b, before, same)) = (b, before, same ∙ channel_at_read conns i x within read)

-- The test passes the channels of the connections before i, and no others.
pub record AreTaken (conns : List Conn) (i : ℕ) (has : Channel → Bool) : Type 0 where
  pub only : (q : Channel) → has q ≡ true → IsTaken conns i q
  pub all : (q : Channel) → IsTaken conns i q → has q ≡ true

pub none_taken : (conns : List Conn) (has : Channel → Bool) → ((q : Channel) → has q ≡ false) → AreTaken conns 0 has
none_taken conns has none = record {
  only = λ q e. absurd (false≢true (sym (none q) ∙ e));
  all = λ q (b, before, taken). absurd (omega arith);
}

-- what `insert` answers, against what the set had
pub had_it : (had added : Bool) → added ≡ not had → added ≡ false → had ≡ true
had_it true added says is = refl
had_it false added says is = absurd (false≢true (sym is ∙ says))

pub was_new : (had added : Bool) → added ≡ not had → added ≡ true → had ≡ false
was_new true added says is = absurd (false≢true (sym says ∙ is))
was_new false added says is = refl

either_way : (tied had : Bool) → had ≡ true → cond tied true had ≡ true
either_way true had h = refl
either_way false had h = h

-- one more connection, whose channel is added
pub taken_more : (conns : List Conn) (i : ℕ) (x : Conn) (old new : Channel → Bool) → i < length conns → x ≡ get_or conns i x → ((q : Channel) → new q ≡ cond (is_eq (channel_cmp x.vc q)) true (old q)) → AreTaken conns i old → AreTaken conns (i + 1) new
taken_more conns i x old new within read added are = record {
  only = λ q e. only_by q (is_eq (channel_cmp x.vc q)) refl (sym (added q) ∙ e);
  all = λ q (b, before, taken). all_by q b (cases_lt b i) before taken;
} where
  only_by : (q : Channel) (tied : Bool) → tied ≡ is_eq (channel_cmp x.vc q) → cond tied true (old q) ≡ true → IsTaken conns (i + 1) q
  only_by q true tied e = (i, omega arith, channel_at_read conns i x within read ∙ ap Some (one_channel x.vc q (sym tied)))
  only_by q false tied e = let (b, before, taken) = are.only q e in (b, omega arith, taken)

  all_by : (q : Channel) (b : ℕ) → (b < i) ⊎ (i ≤ b) → b < i + 1 → channel_at conns b ≡ Some q → new q ≡ true
  all_by q b (inl earlier) before taken = added q ∙ either_way (is_eq (channel_cmp x.vc q)) (old q) (are.all q (b, earlier, taken))
  all_by q b (inr late) before taken =
      let here : b ≡ i = omega arith in
      let same : x.vc ≡ q = same_some (sym (channel_at_read conns i x within read) ∙ ap (channel_at conns) (sym here) ∙ taken) in
      let P : Channel → Type 0 = λ d. new d ≡ true in
      subst P same (added x.vc ∙ ap (λ t. cond t true (old x.vc)) (tied_self x.vc))
