-- How callers know that a port has done nothing yet: it was made, and connections were added.
use Rattle.std.proofs.Common.{◌≡◌, ◌≢◌, ℕ, Bool, true, false, Option, None, Some, refl, sym, ap, subst, ◌∙◌}
use Rattle.std.specs.FinMap.{get-empty}
use Rattle.abt_cell.specs.Channel.{Channel, channel_cmp, same_channel}
use Rattle.abt_cell.proofs.ChannelLemmas.{same_channel-is, same_channel-refl}
use Rattle.abt_node.specs.Table.{Connection, Table, new_table, opening, connection_at, with_connection}
use Rattle.abt_node.proofs.TableLemmas.{connection_at-with_connection, connection_at-other}
use Rattle.abt_journal.specs.Opening.{tau_of, as_added, IsOpening}

pub tau_of-opening : (tau : Option ℕ) → tau_of (opening tau) ≡ tau
tau_of-opening None = refl
tau_of-opening (Some n) = refl

-- a port that was made
pub IsOpening-new : (t : Table) (id capacity : ℕ) → t ≡ new_table id capacity → IsOpening t
IsOpening-new t id capacity is = subst IsOpening (sym is) (record { rows = λ vc c there. (let bad : None ≡ Some c = sym (get-empty channel_cmp vc) ∙ there in absurd (cc)) })

apart : (q vc : Channel) → same_channel q vc ≡ false → q ≢ vc
apart q vc e same = let no : true ≡ false = sym (same_channel-refl q) ∙ ap (same_channel q) same ∙ e in cc

added_there : (tau : Option ℕ) (c : Connection) → Some (opening tau) ≡ Some c → c ≡ as_added c
added_there tau c is =
    let same : opening tau ≡ c = cc in
    sym same ∙ ap opening (sym (tau_of-opening tau)) ∙ ap as_added same

opening_at : (t : Table) (vc q : Channel) (tau : Option ℕ) (c : Connection) → IsOpening t → connection_at (with_connection t vc (opening tau)) q ≡ Some c
    → (b : Bool) → same_channel q vc ≡ b → c ≡ as_added c
opening_at t vc q tau c h there true e =
    added_there tau c (sym (connection_at-with_connection t vc (opening tau)) ∙ ap (connection_at (with_connection t vc (opening tau))) (sym (same_channel-is q vc e)) ∙ there)
opening_at t vc q tau c h there false e = h.rows q c (sym (connection_at-other t vc q (opening tau) (apart q vc e)) ∙ there)

-- a connection more
pub IsOpening-add : (t u : Table) (vc : Channel) (tau : Option ℕ) → u ≡ with_connection t vc (opening tau) → IsOpening t → IsOpening u
IsOpening-add t u vc tau is h =
    subst IsOpening (sym is) (record { rows = λ q c there. opening_at t vc q tau c h there (same_channel q vc) refl })
