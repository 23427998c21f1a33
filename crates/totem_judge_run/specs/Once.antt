-- The messages that logs send and deliver (docs/SPECIFICATIONS.md, "1 Basic delivery").
use Rattle.std.specs.Prelude.{◌≡◌, ℕ, ◌+◌, ◌<◌, List, ◌++◌, All, length, slice_index_or, Option, None, Some, option_to_list}
use Rattle.std.specs.List.{filter_map, flat_map}
use Rattle.std.specs.declared.cmp.Ordering.{Ordering}
use Rattle.std.specs.declared.cmp.Ordering.TheVariants.{Less}
use Rattle.totem_names.specs.declared.message.MsgId.{MsgId}
use Rattle.totem_evs.specs.declared.entry.Entry.{Entry}
use Rattle.totem_evs.specs.declared.entry.Entry.TheVariants.{Conf, Send, Deliver, Fail}
use Rattle.totem_evs.specs.declared.log.Log.{Log}
use Rattle.totem_evs.specs.Events.{IsRegular}
use Rattle.totem_judge_run.specs.declared.once_1_4.Once.{Once}
use Rattle.totem_judge_run.specs.declared.once_1_4.Once.TheVariants as once

-- the order of messages
abbrev pub message_order : MsgId → MsgId → Ordering
message_order = (Rattle.totem_names.specs.contracts.message.MsgIdOrd.TheImpl.cmp-value).it

-- each message is below the next
abbrev pub RisesByOrder : List MsgId → Type 0
RisesByOrder list = (k : ℕ) (d : MsgId) → k + 1 < length list → message_order (slice_index_or list k d) (slice_index_or list (k + 1) d) ≡ Less

-- the message that the entry sends, or delivers
abbrev pub message_in : Once → Entry → Option MsgId
message_in once.Send (Send m x service) = Some m
message_in once.Deliver (Deliver m x) = Some m
message_in _ _ = None

abbrev pub messages_in : Once → List Entry → List MsgId
messages_in act entries = filter_map (message_in act) entries

-- the messages that the entries of these logs send
abbrev pub sent_in : List Log → List MsgId
sent_in logs = flat_map (λ (log : Log). messages_in once.Send log.entries) logs

-- the entry sends nothing in a transitional configuration
abbrev pub IsNoSendBetween : Entry → Type 0
IsNoSendBetween (Conf x members) = Unit {0}
IsNoSendBetween (Send m x service) = IsRegular x
IsNoSendBetween (Deliver m x) = Unit {0}
IsNoSendBetween (Fail x) = Unit {0}

-- the message that the entry sends was appended, and it is not sent in a transitional configuration
pub record AddsSend (old new : List MsgId) (entry : Entry) : Type 0 where
  pub adds : new ≡ old ++ option_to_list (message_in once.Send entry)
  pub regular : IsNoSendBetween entry

-- the messages that the entries send were appended, and none of them is sent in a transitional configuration
pub record AddsSends (old new : List MsgId) (entries : List Entry) : Type 0 where
  pub adds : new ≡ old ++ messages_in once.Send entries
  pub regular : All IsNoSendBetween entries
