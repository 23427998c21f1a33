-- Classes of entries by name (docs/SPECIFICATIONS.md, "Certificates").
use Rattle.std.specs.Prelude.{Option, Some, None}
use Rattle.std.specs.declared.cmp.Ordering.{Ordering}
use Rattle.totem_evs.specs.declared.entry.Entry.{Entry}
use Rattle.totem_evs.specs.declared.entry.Entry.TheVariants.{Conf, Send, Deliver, Fail}
use Rattle.totem_judge_certificate.specs.declared.class.Class.{Class}
use Rattle.totem_judge_certificate.specs.declared.class.Class.TheVariants.{Change, Delivery}

-- the class of an entry; a send and a failure are in none
abbrev pub class_of : Entry → Option Class
class_of (Conf x members) = Some (Change x)
class_of (Send m x service) = None
class_of (Deliver m x) = Some (Delivery m)
class_of (Fail x) = None

-- the class that must not have been passed before the entry: its own, or for a send that of the deliveries
abbrev pub class_barred_by : Entry → Option Class
class_barred_by (Conf x members) = Some (Change x)
class_barred_by (Send m x service) = Some (Delivery m)
class_barred_by (Deliver m x) = Some (Delivery m)
class_barred_by (Fail x) = None

-- the order of classes
abbrev pub class_order : Class → Class → Ordering
class_order = (Rattle.totem_judge_certificate.specs.contracts.class.ClassOrd.TheImpl.cmp-value).it
