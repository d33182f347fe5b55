-- The index by which a net finds its connections.
use Rattle.std.proofs.Common.{◌≡◌, ◌≢◌, ℕ, ◌+◌, ◌<◌, ◌≤◌, Bool, true, false, cond, inl, inr, List, length, get_or, Option, None, Some, refl, sym, ap, subst, ◌∙◌, arith}
use Rattle.std.specs.Prelude.{IfSome}
use Rattle.std.specs.Map.{lookup}
use Rattle.std.proofs.lemmas.Bool.{cases_lt}
use Rattle.indexmap.specs.IndexMap as index
use Rattle.abt_cell.specs.Channel.{Channel, same_channel}
use Rattle.abt_cell.proofs.ChannelLemmas.{same_channel-is, same_channel-refl}
use Rattle.abt_net.specs.declared.conn.Conn.{Conn}
use Rattle.abt_net.specs.Places.{IsNumberOf, Index, IsIndexOf, IsIndexed}
use Rattle.abt_net.specs.Topology.{Topology, channel_at, IsWithinRules}
use Rattle.abt_net.proofs.ChannelLemmas.{channel_at_read, same_some}
use Rattle.abt_net.proofs.RuleLemmas.{channel_within, one_place}

-- an empty index has the first 0 connections
pub IsIndexOf-nil : (places : Index) (conns : List Conn) → index.IsEmpty places → IsIndexOf places conns 0
IsIndexOf-nil places conns empty vc =
    subst (λ es. IsNumberOf conns 0 vc (lookup (same_channel vc) es)) (sym empty) (λ c below. absurd (omega (arith, below)))

apart : (a b : Channel) → same_channel a b ≡ false → a ≢ b
apart a b differ same =
    let bad : true ≡ false = sym (subst (λ c. same_channel a c ≡ true) same (same_channel-refl a)) ∙ differ in cc

-- none of the first n has the channel, nor has connection n
none_more : (conns : List Conn) (n : ℕ) (x : Conn) (vc : Channel) → channel_at conns n ≡ Some x.vc → x.vc ≢ vc → IsNumberOf conns n vc None → IsNumberOf conns (n + 1) vc None
none_more conns n x vc at other none c below has = elim (cases_lt c n) [
  | inl earlier ↦ none c earlier has
  | inr late ↦
      let here : c ≡ n = omega (arith, below, late) in
      other (same_some (sym at ∙ ap (channel_at conns) (sym here) ∙ has))
]

other_number : (conns : List Conn) (n : ℕ) (x : Conn) (vc : Channel) (old : Option ℕ) → channel_at conns n ≡ Some x.vc → x.vc ≢ vc → IsNumberOf conns n vc old → IsNumberOf conns (n + 1) vc old
other_number conns n x vc None at other is = none_more conns n x vc at other is
other_number conns n x vc (Some c) at other is = is

number_more : (conns : List Conn) (n : ℕ) (x : Conn) (vc : Channel) (own : Bool) (old : Option ℕ) → same_channel x.vc vc ≡ own → channel_at conns n ≡ Some x.vc → IsNumberOf conns n vc old
    → IsNumberOf conns (n + 1) vc (cond own (Some n) old)
number_more conns n x vc true old is at before = at ∙ ap Some (same_channel-is x.vc vc is)
number_more conns n x vc false old is at before = other_number conns n x vc old at (apart x.vc vc is) before

-- one connection more, whose number was put into the index
pub IsIndexOf-more : (old new : Index) (conns : List Conn) (n : ℕ) (x : Conn) → n < length conns → x ≡ get_or conns n x
    → index.Updates same_channel old new x.vc (Some n) → IsIndexOf old conns n → IsIndexOf new conns (n + 1)
IsIndexOf-more old new conns n x within read updates indexed vc =
    subst (IsNumberOf conns (n + 1) vc) (sym (updates.0 vc))
    (number_more conns n x vc (same_channel x.vc vc) (index.get same_channel old vc) refl (channel_at_read conns n x within read) (indexed vc))

fewer : (conns : List Conn) (n m : ℕ) (vc : Channel) (o : Option ℕ) → m ≤ n → IsNumberOf conns n vc o → IsNumberOf conns m vc o
fewer conns n m vc None few is = λ c below. is c (omega arith)
fewer conns n m vc (Some c) few is = is

-- all of the connections, and perhaps more
pub IsIndexOf-all : (places : Index) (conns : List Conn) (n : ℕ) → length conns ≤ n → IsIndexOf places conns n → IsIndexOf places conns (length conns)
IsIndexOf-all places conns n all indexed vc = fewer conns n (length conns) vc (index.get same_channel places vc) all (indexed vc)

-- ---- what the index answers

answers_only : (net : Topology) (vc : Channel) (o : Option ℕ) → IsWithinRules net → IsNumberOf net.conns (length net.conns) vc o → (c : ℕ) → channel_at net.conns c ≡ Some vc → o ≡ Some c
answers_only net vc None kept is c has = absurd (is c (channel_within net.conns c vc has) has)
answers_only net vc (Some b) kept is c has = ap Some (one_place net kept b c vc is has)

-- what `find` answers
pub record Finds (net : Topology) (vc : Channel) (o : Option ℕ) : Type 0 where
  pub value : IfSome o (λ c. channel_at net.conns c ≡ Some vc)
  pub within : IfSome o (λ c. c < length net.conns)
  pub only : (c : ℕ) → channel_at net.conns c ≡ Some vc → o ≡ Some c

found : (net : Topology) (vc : Channel) (o : Option ℕ) → IsWithinRules net → IsNumberOf net.conns (length net.conns) vc o → Finds net vc o
found net vc None kept is = record { value = tt; within = tt; only = answers_only net vc None kept is }
found net vc (Some b) kept is = record { value = is; within = channel_within net.conns b vc is; only = answers_only net vc (Some b) kept is }

-- the number that the index has is that of the connection that has the channel
pub finds : (net now : Topology) (places : Index) (vc : Channel) (o : Option ℕ) → IsIndexed net places → net ≡ now → o ≡ index.get same_channel places vc → Finds now vc o
finds net now places vc o are same is =
    subst (λ n. Finds n vc o) same (subst (Finds net vc) (sym is) (found net vc (index.get same_channel places vc) are.rules (are.indexed vc)))
