-- What faults of nets and lines are to a text.
use Rattle.std.proofs.Common.{◌≡◌, ◌≢◌, ◌⊎◌, inl, inr, sym, subst, false}
use Rattle.std.specs.Str.{IsUtf8}
use Rattle.abt_net.specs.Faults.{IsFirstFault}
use Rattle.abt_net.specs.Topology.{Topology}
use Rattle.abt_net.specs.declared.fault.NetFault.{NetFault}
use Rattle.abt_net.specs.declared.fault.NetFault.TheVariants as net
use Rattle.abt_text.specs.Text.{Text}
use Rattle.abt_entry.specs.declared.fault.LineFault.{LineFault}
use Rattle.abt_entry.specs.declared.fault.LineFault.TheVariants as line
use Rattle.abt_entry.specs.Lines.{SaysNone}
use Rattle.abt_journal_text.specs.Books.{Told}
use Rattle.abt_journal_text.specs.Entering.{IsNoNet, IsOwn, RefusesLine}
use Rattle.abt_journal_text.specs.declared.fault.Cause.{Cause}
use Rattle.abt_journal_text.specs.declared.fault.Cause.TheVariants as cause

pub net_cause : (topology : Topology) (fault : NetFault) (why : Cause) → ((fault ≡ net.Memory) × (why ≡ cause.Memory)) ⊎ ((fault ≢ net.Memory) × (why ≡ cause.Net fault))
    → (fault ≢ net.Memory → IsFirstFault topology fault) → (why ≡ cause.Memory) ⊎ IsNoNet topology why
net_cause topology fault why (inl own) first = inl own.1
net_cause topology fault why (inr other) first = inr (fault, other.1, first other.0)

pub line_cause : (told : Told) (octets text : Text) (fault : LineFault) (why : Cause)
    → ((fault ≡ line.Memory) × (why ≡ cause.Memory)) ⊎ ((fault ≢ line.Memory) × (why ≡ cause.Line fault))
    → told.ended ≡ false → (text ≡ octets) × IsUtf8 octets → (fault ≡ line.Memory) ⊎ SaysNone text fault → IsOwn why ⊎ RefusesLine told octets why
line_cause told octets text fault why (inl own) more seen said = inl (subst IsOwn (sym own.1) tt)
line_cause told octets text fault why (inr other) more seen (inl memory) = absurd (other.0 memory)
line_cause told octets text fault why (inr other) more seen (inr none) =
    inr (inr (inr (more, seen.1, inl (fault, other.1, subst (λ (t : Text). SaysNone t fault) seen.0 none))))
