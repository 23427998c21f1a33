-- The messages for which 5 may be broken (docs/SPECIFICATIONS.md, "5 Causal delivery").
use Rattle.std.specs.Prelude.{◌≡◌, ℕ, ◌⊎◌, ◌<◌, ◌≤◌, IsTrue, List, slice_get, Some}
use Rattle.std.specs.declared.cmp.Ordering.{Ordering}
use Rattle.std.specs.BTreeSet.{BTreeSet}
use Rattle.std.specs.BTreeSet as sorted
use Rattle.totem_names.specs.declared.ring.RingId.{RingId}
use Rattle.totem_names.specs.declared.conf.ConfId.{ConfId}
use Rattle.totem_names.specs.declared.message.MsgId.{MsgId}
use Rattle.totem_names.specs.declared.message.Service.{Service}
use Rattle.totem_evs.specs.declared.entry.Entry.{Entry}
use Rattle.totem_evs.specs.declared.entry.Entry.TheVariants.{Send, Deliver}
use Rattle.totem_evs.specs.declared.log.Log.{Log}
use Rattle.totem_evs.specs.Events.{log_of}
use Rattle.totem_evs.specs.Following.{DeliversIn}
use Rattle.totem_pass_d.specs.declared.stays.Stay.{Stay}

-- the entry sends or delivers m
abbrev pub Handles : Entry → MsgId → Type 0
Handles (Send n x service) m = n ≡ m
Handles (Deliver n x) m = n ≡ m
Handles _ m = ⊥

-- the entry sends and delivers nothing
pub record HandlesNothing (entry : Entry) : Type 0 where
  pub never : (m : MsgId) → Handles entry m → ⊥

-- q delivers m in c or in what follows it, before k
pub record ComesBefore (run : List Log) (c : RingId) (q : ℕ) (m : MsgId) (k : ℕ) : Type 0 where
  pub index : ℕ
  pub before : index < k
  pub delivers : DeliversIn (log_of run q) c m index

-- q does not deliver m there before k
abbrev pub ComesNotBefore : List Log → RingId → ℕ → MsgId → ℕ → Type 0
ComesNotBefore run c q m k = (l : ℕ) → l < k → DeliversIn (log_of run q) c m l → ⊥

-- q delivers what the entry sends at the new index or later, and the new index is no later than the old one
pub record IsEarlier (run : List Log) (c : RingId) (q : ℕ) (entry : Entry) (old new : ℕ) : Type 0 where
  pub no_later : new ≤ old
  pub each : (n : MsgId) (x : ConfId) (service : Service) (k : ℕ) → entry ≡ Send n x service → DeliversIn (log_of run q) c n k → new ≤ k

module _ (by_message : MsgId → MsgId → Ordering) (suspects : BTreeSet MsgId) where
  -- m is a suspect
  abbrev pub IsSuspect : MsgId → Type 0
  IsSuspect m = IsTrue (sorted.contains by_message suspects m)

  -- all messages in the set are suspects
  pub record HasAllOf (others : BTreeSet MsgId) : Type 0 where
    pub each : (m : MsgId) → IsTrue (sorted.contains by_message others m) → IsSuspect m

  -- what the entry sends or delivers is a suspect, unless the receiver delivers it before `early`, an index of its stay
  pub record IsNoted (run : List Log) (c : RingId) (receiver : Stay) (entry : Entry) (early : ℕ) : Type 0 where
    pub each : (m : MsgId) → early < receiver.end → Handles entry m → ComesNotBefore run c receiver.proc m early → IsSuspect m

  -- a message that the sender sent or delivered at i or later, and before it sent another one in c, is a suspect, unless the receiver
  -- delivers it before that other one, or does not deliver that
  pub record AreNotedFrom (run : List Log) (c : RingId) (sender receiver : Stay) (i : ℕ) : Type 0 where
    pub each : (h j k : ℕ) (e : Entry) (m n : MsgId) (x : ConfId) (service : Service) → i ≤ h → h < j → j < sender.turn
        → slice_get (log_of run sender.proc) h ≡ Some e → Handles e m → slice_get (log_of run sender.proc) j ≡ Some (Send n x service)
        → DeliversIn (log_of run receiver.proc) c n k → ComesNotBefore run c receiver.proc m k → IsSuspect m

  -- the same for all that it sent or delivered in c
  pub record AreNoted (run : List Log) (c : RingId) (sender receiver : Stay) : Type 0 where
    pub from : (i : ℕ) → sender.from < i → AreNotedFrom run c sender receiver i

  -- the same for the first n senders and each receiver, and for the next sender and the first k receivers
  pub record AreSuspects (run : List Log) (c : RingId) (stays : List Stay) (n k : ℕ) : Type 0 where
    pub each : (i : ℕ) (sender : Stay) (j : ℕ) (receiver : Stay) → (i < n) ⊎ ((i ≡ n) × (j < k)) → slice_get stays i ≡ Some sender → slice_get stays j ≡ Some receiver → AreNoted run c sender receiver
