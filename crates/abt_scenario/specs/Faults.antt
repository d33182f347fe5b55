-- What is told if the events of a run aren't written as a scenario.
use Rattle.std.specs.Prelude.{◌<◌, ⊤, List, length, codes}
use Rattle.abt_net.specs.Topology.{Topology}
use Rattle.abt_model.specs.declared.event.Event.{Event}
use Rattle.abt_text.specs.Text.{Text}
use Rattle.abt_text.specs.Streams.{text_max}
use Rattle.abt_scenario.specs.Samples.{IsReadAs}
use Rattle.abt_scenario.specs.ScenarioText.{scenario_text}
use Rattle.abt_scenario.specs.declared.text_fault.EventsFault.{EventsFault}
use Rattle.abt_scenario.specs.declared.text_fault.EventsFault.TheVariants.{TooLong, Unsaid, Open, Write, Memory}

abbrev pub fault_line : EventsFault → Text
fault_line TooLong = codes "fault: events TooLong\n"
fault_line Unsaid = codes "fault: events Unsaid\n"
fault_line Open = codes "fault: events open\n"
fault_line Write = codes "fault: events write\n"
fault_line Memory = codes "fault: memory\n"

-- why there is no sample of a net and events: its text is longer than a scenario's may be; or it isn't read as this net and these
-- events; or memory was refused
abbrev pub IsWhyNone : Topology → List Event → EventsFault → Type 0
IsWhyNone net events TooLong = text_max < length (scenario_text net events)
IsWhyNone net events Unsaid = ¬ IsReadAs net events (scenario_text net events)
IsWhyNone net events Open = ⊥
IsWhyNone net events Write = ⊥
IsWhyNone net events Memory = ⊤
