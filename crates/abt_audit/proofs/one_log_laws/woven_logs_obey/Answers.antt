use Rattle.abt_audit.proofs.OneLogs.{woven_ports_obey, woven_sources_obey}
use Rattle.abt_audit.proofs.one_log_laws.woven_logs_obey.Goals as goal

pub returns : goal.returns
returns c = record { ports = woven_ports_obey; sources = woven_sources_obey }
