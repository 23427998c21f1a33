-- What contracts see of the result of a job: the version and the logs of its run, the job's number, and what the job found.
use Rattle.std.specs.Prelude.{ℕ, List}
use Rattle.totem_names.specs.declared.version.Version.{Version}
use Rattle.totem_evs.specs.declared.log.Log.{Log}
use Rattle.totem_pass_d.specs.declared.findings.Findings.{Findings}

pub record JobRecord : Type 0 where
  pub version : Version
  pub logs : List Log
  pub job : ℕ
  pub findings : Findings
