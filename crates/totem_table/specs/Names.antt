-- What entries name.
use Rattle.std.specs.Prelude.{◌≤◌, List, length, flat_map, option_to_list, Contains, Option, Some, None}
use Rattle.std.specs.declared.cmp.Ordering.{Ordering}
use Rattle.std.specs.List.Sorted.{IsStrictlySortedBy}
use Rattle.totem_names.specs.declared.message.MsgId.{MsgId}
use Rattle.totem_names.specs.declared.conf.ConfId.{ConfId}
use Rattle.totem_evs.specs.declared.entry.Entry.{Entry}
use Rattle.totem_evs.specs.declared.entry.Entry.TheVariants.{Conf, Send, Deliver, Fail}
use Rattle.totem_evs.specs.declared.log.Log.{Log}

-- the message that an entry sends or delivers
abbrev pub message_of : Entry → Option MsgId
message_of (Conf x members) = None
message_of (Send m x service) = Some m
message_of (Deliver m x) = Some m
message_of (Fail x) = None

-- the configuration to which an entry changes, or in which it fails
abbrev pub conf_of : Entry → Option ConfId
conf_of (Conf x members) = Some x
conf_of (Send m x service) = None
conf_of (Deliver m x) = None
conf_of (Fail x) = Some x

-- what the entries name
abbrev pub names_in : {X : Type 0} → (Entry → Option X) → List Entry → List X
names_in name_of = flat_map (λ entry. option_to_list (name_of entry))

-- what the entries of all logs name
abbrev pub all_names : {X : Type 0} → (Entry → Option X) → List Log → List X
all_names name_of = flat_map (λ log. names_in name_of log.entries)

-- these names are in ascending order, and the others are among them
pub record ListsNames {X : Type 0} (cmp : X → X → Ordering) (others names : List X) : Type 0 where
  pub sorted : IsStrictlySortedBy cmp names
  pub few : length names ≤ 32000000
  pub each : (x : X) → Contains others x → Contains names x
