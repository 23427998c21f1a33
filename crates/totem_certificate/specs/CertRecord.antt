-- A certificate as contracts see it: the version of its text, and its lines.
use Rattle.std.specs.Prelude.{List}
use Rattle.totem_names.specs.declared.version.Version.{Version}
use Rattle.totem_evs.specs.Certificates.{Numbering}

pub record CertRecord : Type 0 where
  pub version : Version
  pub lines : List Numbering
