-- What processes send in one regular configuration.
use Rattle.std.specs.Prelude.{◌≡◌, ◌⊎◌, ℕ, ◌<◌, List, slice_get, Some, None}
use Rattle.std.specs.BTreeMap as tree
use Rattle.std.specs.BTreeMap.{BTreeMap}
use Rattle.totem_names.specs.declared.ring.RingId.{RingId}
use Rattle.totem_names.specs.declared.conf.ConfId.{ConfId}
use Rattle.totem_names.specs.declared.message.MsgId.{MsgId}
use Rattle.totem_names.specs.declared.message.Service.{Service}
use Rattle.totem_names.specs.contracts.message.MsgIdOrd.TheImpl as message
use Rattle.totem_evs.specs.declared.entry.Entry.TheVariants.{Send}
use Rattle.totem_evs.specs.declared.log.Log.{Log}
use Rattle.totem_pass_d.specs.declared.stays.Stay.{Stay}
use Rattle.totem_pass_d.specs.declared.stays.Sending.{Sending}
use Rattle.totem_pass_d.specs.Acts.{IsSendingOf, NobodySent}

-- this is a send of m before the turn of the stay
pub record IsSendOf (stay : Stay) (m : MsgId) (sending : Sending) : Type 0 where
  pub conf : ConfId
  pub proc : sending.proc ≡ stay.proc
  pub after : stay.from < sending.at
  pub until : sending.at < stay.turn
  pub sends : slice_get stay.log.now sending.at ≡ Some (Send m conf sending.service)

-- something is noted for each message that the stay sends before n
pub record HasSendsTo (stay : Stay) (n : ℕ) (sends : BTreeMap MsgId Sending) : Type 0 where
  pub each : (i : ℕ) → i < n → (m : MsgId) (x : ConfId) (service : Service) → stay.from < i → slice_get stay.log.now i ≡ Some (Send m x service)
      → tree.get message.cmp-value.it sends m ≡ None → ⊥

-- the sends of the stay before n are noted, and nothing else
pub record NotesSends (stay : Stay) (n : ℕ) (old new : BTreeMap MsgId Sending) : Type 0 where
  pub only : (m : MsgId) (sending : Sending) → tree.get message.cmp-value.it new m ≡ Some sending → (tree.get message.cmp-value.it old m ≡ Some sending) ⊎ IsSendOf stay m sending
  pub kept : (m : MsgId) → tree.get message.cmp-value.it new m ≡ None → tree.get message.cmp-value.it old m ≡ None
  pub whole : HasSendsTo stay n new

-- this is a send of m by one of the stays
pub record IsSendOfOne (stays : List Stay) (m : MsgId) (sending : Sending) : Type 0 where
  pub at : ℕ
  pub stay : Stay
  pub stands : slice_get stays at ≡ Some stay
  pub is : IsSendOf stay m sending

-- the sends of the first n stays, and nothing else
pub record HasSends (stays : List Stay) (n : ℕ) (sends : BTreeMap MsgId Sending) : Type 0 where
  pub only : (m : MsgId) (sending : Sending) → tree.get message.cmp-value.it sends m ≡ Some sending → IsSendOfOne stays m sending
  pub whole : (k : ℕ) (stay : Stay) → k < n → slice_get stays k ≡ Some stay → HasSendsTo stay stay.turn sends

-- the sends in c
pub record AreSends (run : List Log) (c : RingId) (sends : BTreeMap MsgId Sending) : Type 0 where
  pub found : (m : MsgId) (sending : Sending) → tree.get message.cmp-value.it sends m ≡ Some sending → IsSendingOf run c m sending
  pub none : (m : MsgId) → tree.get message.cmp-value.it sends m ≡ None → NobodySent run c m
