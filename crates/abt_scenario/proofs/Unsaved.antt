-- What becomes of a file, where there is no sample.
use Rattle.std.proofs.Common.{List}
use Rattle.abt_net.specs.Topology.{Topology}
use Rattle.abt_model.specs.declared.event.Event.{Event}
use Rattle.abt_scenario.specs.Faults.{IsWhyNone}
use Rattle.abt_scenario.specs.Sent.{IsUnsaved}
use Rattle.abt_scenario.specs.declared.text_fault.EventsFault.{EventsFault}
use Rattle.abt_scenario.specs.declared.text_fault.EventsFault.TheVariants.{TooLong, Unsaid, Open, Write, Memory}

-- what there is no sample of isn't saved
pub unsampled_unsaved : (net : Topology) (events : List Event) (fault : EventsFault) → IsWhyNone net events fault → IsUnsaved net events fault
unsampled_unsaved net events TooLong why = why
unsampled_unsaved net events Unsaid why = why
unsampled_unsaved net events Open why = absurd why
unsampled_unsaved net events Write why = absurd why
unsampled_unsaved net events Memory why = why
