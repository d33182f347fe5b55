-- The number of the connection that has a channel, and how long its path is.
use Rattle.std.proofs.Common.{◌≡◌, ◌≢◌, ◌∙◌, ◌<◌, ◌≤◌, length, get_or, arith, ℕ, zero, suc, Bool, true, false, List, [], ◌∷◌, Option, None, Some, option_map, refl, sym, ap, subst}
use Rattle.std.specs.Prelude.{IfSome, if◌then◌else◌}
use Rattle.abt_cell.specs.Channel.{Channel, same_channel}
use Rattle.abt_cell.proofs.ChannelLemmas.{same_channel-is, same_channel-refl}
use Rattle.abt_net.specs.Topology.{Topology, IsWithinRules, channel_at}
use Rattle.abt_net.specs.declared.conn.Conn.{Conn}
use Rattle.abt_net.proofs.ChannelLemmas.{same_some}
use Rattle.abt_audit.specs.Missing.{number_in}

apart : (a b : Channel) → same_channel a b ≡ false → a ≢ b
apart a b differ same =
    let bad : true ≡ false = sym (subst (λ c. same_channel a c ≡ true) same (same_channel-refl a)) ∙ differ in cc

-- the connection of this number has the channel, or there is none
abbrev pub IsRight : List Conn → Channel → Option ℕ → Type 0
IsRight conns vc None = (c : ℕ) → channel_at conns c ≢ Some vc
IsRight conns vc (Some c) = channel_at conns c ≡ Some vc

none_more : (conn : Conn) (conns : List Conn) (vc : Channel) → conn.vc ≢ vc → ((c : ℕ) → channel_at conns c ≢ Some vc) → (c : ℕ) → channel_at (conn ∷ conns) c ≢ Some vc
none_more conn conns vc other before zero has = other (same_some has)
none_more conn conns vc other before (suc c) has = before c has

right_more : (conn : Conn) (conns : List Conn) (vc : Channel) (own : Bool) (rest : Option ℕ) → same_channel conn.vc vc ≡ own → IsRight conns vc rest
    → IsRight (conn ∷ conns) vc (if own then Some 0 else option_map suc rest)
right_more conn conns vc true rest is before = ap Some (same_channel-is conn.vc vc is)
right_more conn conns vc false None is before = none_more conn conns vc (apart conn.vc vc is) before
right_more conn conns vc false (Some n) is before = before

right : (conns : List Conn) (vc : Channel) → IsRight conns vc (number_in conns vc)
right [] vc = λ c has. absurd (cc)
right (conn ∷ conns) vc = right_more conn conns vc (same_channel conn.vc vc) (number_in conns vc) refl (right conns vc)

by_right : (conns : List Conn) (vc : Channel) (found number : Option ℕ) → IfSome found (λ c. channel_at conns c ≡ Some vc)
    → ((c : ℕ) → channel_at conns c ≡ Some vc → found ≡ Some c) → IsRight conns vc number → found ≡ number
by_right conns vc found (Some c) value only is = only c is
by_right conns vc None None value only is = refl
by_right conns vc (Some c) None value only is = absurd (is c value)

-- the number that is found is the one that the list has
pub number_is : (conns : List Conn) (vc : Channel) (found : Option ℕ) → IfSome found (λ c. channel_at conns c ≡ Some vc)
    → ((c : ℕ) → channel_at conns c ≡ Some vc → found ≡ Some c) → found ≡ number_in conns vc
number_is conns vc found value only = by_right conns vc found (number_in conns vc) value only (right conns vc)

-- a hop of a path of a net is a number of 16 bits
pub path_fits : (net : Topology) (c : ℕ) (conn : Conn) → IsWithinRules net → c < length net.conns → conn ≡ get_or net.conns c conn → length conn.path ≤ 65535
path_fits net c conn rules within is =
    let few : length conn.path ≤ 16 = subst (λ (x : Conn). length x.path ≤ 16) (sym is) (rules.each_conn c conn within).hops in
    omega (arith, few)
