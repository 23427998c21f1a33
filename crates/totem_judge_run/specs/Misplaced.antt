-- What the walk along a log tests and keeps (docs/SPECIFICATIONS.md, "2 Changes of configuration").
use Rattle.std.specs.Prelude.{◌≡◌, Option, Some}
use Rattle.totem_names.specs.declared.conf.ConfId.{ConfId}
use Rattle.totem_evs.specs.declared.entry.Entry.{Entry}
use Rattle.totem_evs.specs.declared.entry.Entry.TheVariants.{Conf, Send, Deliver, Fail}

-- the entry is a change, or names the configuration that the log is in
abbrev pub Fits : Option ConfId → Entry → Type 0
Fits standing (Conf x members) = Unit {0}
Fits standing (Send m x service) = standing ≡ Some x
Fits standing (Deliver m x) = standing ≡ Some x
Fits standing (Fail x) = standing ≡ Some x

-- the configuration that the log is in after the entry
abbrev pub standing_after : Option ConfId → Entry → Option ConfId
standing_after standing (Conf x members) = Some x
standing_after standing (Send m x service) = standing
standing_after standing (Deliver m x) = standing
standing_after standing (Fail x) = standing
