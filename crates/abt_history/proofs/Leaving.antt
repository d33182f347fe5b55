-- What follow says is left.
use Rattle.std.proofs.Common.{◌≡◌, ◌≢◌, ◌⊎◌, inl, inr, ℕ, zero, suc, false, List, [], ◌∷◌, refl, ap, sym, subst, ◌∙◌, Some, slice_get}
use Rattle.std.proofs.lemmas.Bool.{false≢true, cases_Bool, cases_eq}
use Rattle.abt_cell.specs.Channel.{Channel, same_channel}
use Rattle.abt_cell.proofs.ChannelLemmas.{same_channel-is, same_channel-refl}
use Rattle.abt_cell.specs.declared.message.Rm.{Rm}
use Rattle.abt_net.specs.declared.conn.Conn.{Conn}
use Rattle.abt_net.specs.Paths.{hop_of}
use Rattle.abt_net.specs.Topology.{Topology, conn_at, channel_at}
use Rattle.abt_model.specs.Past.{Past}
use Rattle.abt_journal.specs.declared.input.PortReply.{PortReply}
use Rattle.abt_journal.specs.declared.next_message.Next.{Next}
use Rattle.abt_journal.specs.declared.next_message.Next.TheVariants.{Nothing}
use Rattle.abt_journal.specs.Following.{channel_of, sent_after}
use Rattle.abt_serving.specs.Followed.{IsLeft, FollowsOn}

-- a connection of this channel
record HasChannel (conns : List Conn) (vc : Channel) : Type 0 where
  c : ℕ
  conn : Conn
  known : slice_get conns c ≡ Some conn
  same : conn.vc ≡ vc

channel_cases : (conns : List Conn) (vc : Channel) → HasChannel conns vc ⊎ ((c : ℕ) → channel_at conns c ≢ Some vc)
channel_cases [] vc = inr (λ c e. cc)
channel_cases (k ∷ conns) vc = elim (cases_Bool (same_channel k.vc vc)) [
  | inl same ↦ inl (record { c = 0; conn = k; known = refl; same = same_channel-is k.vc vc same })
  | inr other ↦ elim (channel_cases conns vc) [
    | inl found ↦ inl (record { c = suc found.c; conn = found.conn; known = found.known; same = found.same })
    | inr none ↦ inr (nowhere other none)
  ]
]
  where
    nowhere : same_channel k.vc vc ≡ false → ((c : ℕ) → channel_at conns c ≢ Some vc) → (c : ℕ) → channel_at (k ∷ conns) c ≢ Some vc
    nowhere other none zero e = (let same : k.vc ≡ vc = cc in false≢true (sym other ∙ ap (λ (v : Channel). same_channel v vc) same ∙ same_channel-refl vc))
    nowhere other none (suc c) e = none c e

pub left_lies : (net now : Topology) (past : Past) (port : ℕ) (message : Rm) (reply : PortReply) (next : Next) → net ≡ now → FollowsOn net past port message reply →
    ((c : ℕ) (conn : Conn) → conn_at now c ≡ Some conn → conn.vc ≡ channel_of message → hop_of conn.path port ≢ 0 → next ≡ sent_after conn.path c (hop_of conn.path port) message reply) →
    ((c : ℕ) (conn : Conn) → conn_at now c ≡ Some conn → conn.vc ≡ channel_of message → hop_of conn.path port ≡ 0 → next ≡ Nothing) →
    (((c : ℕ) → channel_at now.conns c ≢ Some (channel_of message)) → next ≡ Nothing) → IsLeft net past next
left_lies net now past port message reply next same follows on_path off_path unknown = elim (channel_cases now.conns (channel_of message)) [
  | inl found ↦ elim (cases_eq (hop_of found.conn.path port) 0) [
    | inl off ↦ subst (IsLeft net past) (sym (off_path found.c found.conn found.known found.same off)) tt
    | inr on ↦ subst (IsLeft net past) (sym (on_path found.c found.conn found.known found.same on)) (follows found.c found.conn (ap (λ (n : Topology). conn_at n found.c) same ∙ found.known) found.same)
  ]
  | inr none ↦ subst (IsLeft net past) (sym (unknown none)) tt
]
