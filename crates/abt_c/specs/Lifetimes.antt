-- A source of a C program over its whole lifetime, with the program's store.
use Rattle.std.specs.Prelude.{◌≡◌, ◌==◌, not, Bool, true, Option, None, Some}
use Rattle.abt_cell.specs.Message.{Terms}
use Rattle.abt_cell.specs.declared.message.Rm.TheVariants.{Request as RequestRm}
use Rattle.abt_keep.specs.Record.{KeptRecord}
use Rattle.abt_lifetime.specs.declared.call.SourceCall.{SourceCall}
use Rattle.abt_lifetime.specs.Lifetime.{StoredView}
use Rattle.abt_lifetime.specs.Numbers.{IsCarriedOut}
use Rattle.abt_c.specs.declared.record.AbtRm.{AbtRm}
use Rattle.abt_c.specs.declared.source_state.AbtSource.{AbtSource}
use Rattle.abt_c.specs.Records.{record_of}
use Rattle.abt_c.specs.Sources.{source_in, down_phase}

-- the source of a state, with the record that the program's store holds
abbrev pub stored_in : AbtSource → Bool → KeptRecord → StoredView
stored_in s was_started held = record { is_up = not (s.phase == down_phase); was_started = was_started; source = source_in s; held = held }

abbrev pub up_in : AbtSource → KeptRecord → StoredView
up_in s held = record { is_up = true; was_started = true; source = source_in s; held = held }

-- A record goes out that says this request, or none does.
abbrev pub IsSentAs : Option AbtRm → Option Terms → Type 0
IsSentAs None None = Unit {0}
IsSentAs None (Some request) = ⊥
IsSentAs (Some rm) None = ⊥
IsSentAs (Some rm) (Some request) = rm ≡ record_of (RequestRm request)

-- A call was carried out by the exports, as a source in Rust carries it out.
pub record IsCarriedOutInC (before : StoredView) (call : SourceCall) (rm : Option AbtRm) (after : StoredView) : Type 0 where
  pub request : Option Terms
  pub sent : IsSentAs rm request
  pub done : IsCarriedOut before call request after
