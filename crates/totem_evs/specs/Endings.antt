-- How logs end, and which texts can write it (docs/SPECIFICATIONS.md, "Runs").
use Rattle.std.specs.Prelude.{◌≡◌, Bool, true, false}
use Rattle.totem_names.specs.declared.version.Version.{Version}
use Rattle.totem_names.specs.declared.version.Version.TheVariants.{One, Two, Three}
use Rattle.totem_evs.specs.declared.ending.Ending.{Ending}
use Rattle.totem_evs.specs.declared.ending.Ending.TheVariants.{Standing, Failed, Quiet}

-- whether texts of this version can close a log as quiet
abbrev pub writes_quiet : Version → Bool
writes_quiet One = false
writes_quiet Two = false
writes_quiet Three = true

-- texts of this version have a closing word for this ending
abbrev pub IsEndingIn : Version → Ending → Type 0
IsEndingIn version Standing = Unit {0}
IsEndingIn version Failed = Unit {0}
IsEndingIn version Quiet = writes_quiet version ≡ true
