-- The names that the program prints.
use Rattle.std.specs.Prelude.{codes}
use Rattle.abt_text.specs.Text.{Text, ◌⋅◌, newline, decimal}
use Rattle.abt_cell.specs.declared.fault.RmFault.{RmFault}
use Rattle.abt_cell.specs.declared.fault.RmFault.TheVariants.{NotRm, Crc, Protocol, Maintenance, Elastic, Direction, SeqZero, RateOrder}
use Rattle.abt_net.specs.declared.fault.NetFault.{NetFault}
use Rattle.abt_net.specs.declared.fault.NetFault.TheVariants as net
use Rattle.abt_scenario.specs.Keys.{key_name}
use Rattle.abt_scenario.specs.declared.engine.EngineFault.{EngineFault}
use Rattle.abt_scenario.specs.declared.engine.EngineFault.TheVariants as engine
use Rattle.abt_scenario.specs.declared.fault.ScenarioFault.{ScenarioFault}
use Rattle.abt_scenario.specs.declared.fault.ScenarioFault.TheVariants as scenario
use Rattle.abt_perform.specs.declared.fault.Fault.{Fault}
use Rattle.abt_perform.specs.declared.fault.Fault.TheVariants.{Code, Hex, Length, Rm, Full, Read, TooLong, NotUtf8, Scenario, Workers, Scripts, Operator, Thread, Wound, Gather, NoOrder, Mismatch, Write, Memory}

abbrev pub rm_fault_name : RmFault → Text
rm_fault_name NotRm = codes "NotRm"
rm_fault_name Crc = codes "Crc"
rm_fault_name Protocol = codes "Protocol"
rm_fault_name Maintenance = codes "Maintenance"
rm_fault_name Elastic = codes "Elastic"
rm_fault_name Direction = codes "Direction"
rm_fault_name SeqZero = codes "SeqZero"
rm_fault_name RateOrder = codes "RateOrder"

-- with the connection that the fault names
abbrev pub net_fault_name : NetFault → Text
net_fault_name (net.NoPort connection) = codes "NoPort " ⋅ decimal connection
net_fault_name (net.PathLength connection) = codes "PathLength " ⋅ decimal connection
net_fault_name (net.PathRepeat connection) = codes "PathRepeat " ⋅ decimal connection
net_fault_name (net.VcRepeat connection) = codes "VcRepeat " ⋅ decimal connection
net_fault_name net.Limit = codes "Limit"
net_fault_name net.Memory = codes "memory"

-- with the fields of the fault, each behind a space
abbrev pub scenario_fault_name : ScenarioFault → Text
scenario_fault_name scenario.Toml = codes "Toml"
scenario_fault_name (scenario.MissingKey key) = codes "MissingKey " ⋅ key_name key
scenario_fault_name (scenario.WrongType key) = codes "WrongType " ⋅ key_name key
scenario_fault_name (scenario.Net fault) = codes "Net " ⋅ net_fault_name fault
scenario_fault_name (scenario.EventText number) = codes "EventText " ⋅ decimal number
scenario_fault_name (scenario.ScriptText connection number) = codes "ScriptText " ⋅ decimal connection ⋅ codes " " ⋅ decimal number
scenario_fault_name (scenario.OperatorText number) = codes "OperatorText " ⋅ decimal number
scenario_fault_name scenario.Memory = codes "memory"

-- the program's fault for one of the engine
abbrev pub fault_of_engine : EngineFault → Fault
fault_of_engine engine.Read = Read
fault_of_engine engine.TooLong = TooLong
fault_of_engine engine.NotUtf8 = NotUtf8
fault_of_engine (engine.Scenario fault) = Scenario fault
fault_of_engine engine.Write = Write
fault_of_engine engine.Memory = Memory

abbrev pub fault_name : Fault → Text
fault_name Code = codes "code"
fault_name Hex = codes "hex"
fault_name Length = codes "Length"
fault_name (Rm fault) = rm_fault_name fault
fault_name Full = codes "Full"
fault_name Read = codes "read"
fault_name TooLong = codes "TooLong"
fault_name NotUtf8 = codes "NotUtf8"
fault_name (Scenario fault) = scenario_fault_name fault
fault_name Workers = codes "Workers"
fault_name Scripts = codes "Scripts"
fault_name Operator = codes "Operator"
fault_name Thread = codes "Thread"
fault_name Wound = codes "Wound"
fault_name Gather = codes "Gather"
fault_name NoOrder = codes "NoOrder"
fault_name Mismatch = codes "Mismatch"
fault_name Write = codes "write"
fault_name Memory = codes "memory"

-- the line on standard error that tells why a plan isn't done
abbrev pub fault_line : Fault → Text
fault_line fault = codes "fault: " ⋅ fault_name fault ⋅ newline
