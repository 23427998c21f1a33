-- What is counted of a node's log (docs/PROTOCOL.md, "A run in threads").
use Rattle.std.specs.Prelude.{List, Bool, true, false, count_by}
use Rattle.totem_names.specs.declared.conf.ConfId.{ConfId}
use Rattle.totem_names.specs.declared.conf.ConfId.TheVariants.{Regular, Transitional}
use Rattle.totem_evs.specs.declared.entry.Entry.{Entry}
use Rattle.totem_evs.specs.declared.entry.Entry.TheVariants.{Conf, Send, Deliver, Fail}
use Rattle.totem_net.specs.declared.progress.Logged.{Logged}

abbrev pub is_delivery : Entry → Bool
is_delivery (Conf x members) = false
is_delivery (Send m x service) = false
is_delivery (Deliver m x) = true
is_delivery (Fail x) = false

abbrev pub is_regular : ConfId → Bool
is_regular (Regular c) = true
is_regular (Transitional least next) = false

-- a regular configuration is installed
abbrev pub is_installation : Entry → Bool
is_installation (Conf x members) = is_regular x
is_installation (Send m x service) = false
is_installation (Deliver m x) = false
is_installation (Fail x) = false

-- the number of messages and of regular configurations in these entries
abbrev pub logged_of : List Entry → Logged
logged_of entries = record { deliveries = count_by is_delivery entries; configurations = count_by is_installation entries }
