-- The keys of a scenario, as they are written (docs/FORMATS.md, "Scenario").
use Rattle.std.specs.Prelude.{codes}
use Rattle.abt_text.specs.Text.{Text}
use Rattle.abt_scenario.specs.declared.key.Key.{Key}
use Rattle.abt_scenario.specs.declared.key.Key.TheVariants.{Ports, Connection, Vpi, Vci, Path, Delay, Tau, Script, Events, Operator}

abbrev pub key_name : Key → Text
key_name Ports = codes "ports"
key_name Connection = codes "connection"
key_name Vpi = codes "vpi"
key_name Vci = codes "vci"
key_name Path = codes "path"
key_name Delay = codes "delay"
key_name Tau = codes "tau"
key_name Script = codes "script"
key_name Events = codes "events"
key_name Operator = codes "operator"
