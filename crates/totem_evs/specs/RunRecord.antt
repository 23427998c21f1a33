-- A run as contracts see it: the version of its text, and its logs.
use Rattle.std.specs.Prelude.{List}
use Rattle.totem_names.specs.declared.version.Version.{Version}
use Rattle.totem_evs.specs.LogRecord.{LogRecord}

pub record RunRecord : Type 0 where
  pub version : Version
  pub logs : List LogRecord
