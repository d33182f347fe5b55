-- Places of messages in a run.
use Rattle.std.specs.Prelude.{ℕ, nat_eq, Bool, true, false, ◌&&◌, List, Option}
use Rattle.std.specs.Map.{lookup}
use Rattle.abt_chart.specs.declared.message.Kind.{Kind}
use Rattle.abt_chart.specs.declared.message.Kind.TheVariants.{Request, Yes, No}
use Rattle.abt_chart.specs.declared.message.Message.{Message}
use Rattle.abt_chart.specs.declared.message.Stop.{Stop}
use Rattle.abt_chart.specs.declared.message.Stop.TheVariants.{Source, Hop, End}

-- whether two messages are the same
abbrev pub same_kind : Kind → Kind → Bool
same_kind Request Request = true
same_kind Yes Yes = true
same_kind No No = true
same_kind a b = false

abbrev pub same_stop : Stop → Stop → Bool
same_stop Source Source = true
same_stop (Hop a) (Hop b) = nat_eq a b
same_stop End End = true
same_stop a b = false

abbrev pub same_message : Message → Message → Bool
same_message a b = nat_eq a.conn b.conn && (same_kind a.kind b.kind && (same_stop a.stop b.stop && nat_eq a.seq b.seq))

-- places of messages, in the order of their first ones
pub record PlacesView : Type 0 where
  pub entries : List (Message × ℕ)

-- the place of a message, if there is one
abbrev pub place_in : PlacesView → Message → Option ℕ
place_in places message = lookup (same_message message) places.entries
