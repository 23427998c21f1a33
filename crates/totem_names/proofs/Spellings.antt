-- Each name's parser and spelling fit each other.
use Rattle.totem_names.proofs.Common.{decimal, ◌≡◌, ℕ, ◌^◌, ◌<◌, ◌≤◌, [], Err, refl, arith, ring_text, conf_text, message_text, IsUpTo, IsProcess, IsRing, IsConf, IsMessage}
use Rattle.totem_names.specs.declared.fault.TextFault.TheVariants.{Truncated}
use Rattle.totem_names.specs.Numbers.{number_at, number_to, proc_at}
use Rattle.totem_names.specs.Parsers.{ring_at, message_at, conf_at}
use Rattle.totem_names.specs.Spelling.{Spells}
use Rattle.totem_names.proofs.Steady.{first_break, number_to_steady, ring_steady, message_steady, conf_steady}
use Rattle.totem_names.proofs.Spelled.{number_to_is, number_to_again, ring_is, ring_again, message_is, message_again, conf_is, conf_again}

-- ---- nothing is too short

number_empty : (max end : ℕ) → number_to max end [] ≡ Err Truncated
unfolding number_to number_at
number_empty max end = refl

ring_empty : (end : ℕ) → ring_at end [] ≡ Err Truncated
unfolding ring_at number_to number_at
ring_empty end = refl

message_empty : (end : ℕ) → message_at end [] ≡ Err Truncated
unfolding message_at ring_at number_to number_at
message_empty end = refl

conf_empty : (end : ℕ) → conf_at end [] ≡ Err Truncated
unfolding conf_at
conf_empty end = refl

-- ---- the laws

pub number_spells : (max : ℕ) → 9 ≤ max → max < 2 ^ 32 → Spells (number_to max) decimal (IsUpTo max)
number_spells max nine fits = record {
  spelled = λ end n bytes rest e. let x = number_to_is max end n bytes rest nine fits e in (record { positive = x.positive; small = x.small }, x.spelled);
  read = λ end n rest other is. number_to_again max end n rest is.positive is.small fits other;
  breaks = λ end bytes fault long e. first_break (number_to max end) bytes fault (number_to_steady max end) (number_empty max end) long e;
  steady = number_to_steady max;
}

pub process_spells : Spells proc_at decimal IsProcess
process_spells = number_spells 65535 (omega arith) (omega arith)

pub ring_spells : Spells ring_at ring_text IsRing
ring_spells = record {
  spelled = ring_is;
  read = ring_again;
  breaks = λ end bytes fault long e. first_break (ring_at end) bytes fault (ring_steady end) (ring_empty end) long e;
  steady = ring_steady;
}

pub message_spells : Spells message_at message_text IsMessage
message_spells = record {
  spelled = message_is;
  read = message_again;
  breaks = λ end bytes fault long e. first_break (message_at end) bytes fault (message_steady end) (message_empty end) long e;
  steady = message_steady;
}

pub conf_spells : Spells conf_at conf_text IsConf
conf_spells = record {
  spelled = conf_is;
  read = conf_again;
  breaks = λ end bytes fault long e. first_break (conf_at end) bytes fault (conf_steady end) (conf_empty end) long e;
  steady = conf_steady;
}
