-- What is noted of a run, so that few entries need a search (docs/SPECIFICATIONS.md, "1 Basic delivery", "2 Changes of configuration",
-- "Following").
use Rattle.totem_judge_run.specs.Orderly.{SendsAreOnce}
use Rattle.std.specs.Prelude.{Bool, ◌≡◌, ◌≢◌, ℕ, ◌≤◌, List, All, Option, Contains, IsTrue, Some}
use Rattle.std.specs.declared.cmp.Ordering.{Ordering}
use Rattle.std.specs.BTreeMap.{BTreeMap}
use Rattle.totem_names.specs.declared.message.MsgId.{MsgId}
use Rattle.totem_names.specs.declared.conf.ConfId.{ConfId}
use Rattle.totem_names.specs.declared.place.Place.{Place}
use Rattle.totem_evs.specs.declared.entry.Entry.{Entry}
use Rattle.totem_evs.specs.declared.log.Log.{Log}
use Rattle.totem_evs.specs.Events.{Sends, Delivers, log_of, ChangesWith, WasSentIn, ChangesTo}
use Rattle.totem_pass_ab.specs.declared.succession_2_4.Latest.{Latest}
use Rattle.totem_pass_ab.specs.declared.twice_1_4.Delivery.{Delivery}
use Rattle.totem_pass_ab.specs.Met.{Knows}
use Rattle.totem_search.specs.Search.{place}
use Rattle.totem_table.specs.declared.keys.Change.{Change}
use Rattle.totem_names.specs.declared.ring.RingId.{RingId}
use Rattle.totem_names.specs.declared.conf.ConfId.TheVariants.{Regular}
use Rattle.totem_evs.specs.Changes.{ChangesNext}
use Rattle.std.specs.BTreeSet.{BTreeSet}
use Rattle.std.specs.BTreeSet as sorted
use Rattle.totem_pass_ab.specs.declared.unsent_1_3.Sending.{Sending}
use Rattle.std.specs.BTreeMap as tree
use Rattle.totem_evs.specs.Following.{Follows}

-- the place of p's entry is recorded under the message that it sends, if sends may repeat, or under its delivery by p, if p is doubtful
pub record KnowsAct (by_message : MsgId → MsgId → Ordering) (by_delivery : Delivery → Delivery → Ordering) (sends : BTreeMap MsgId (Option Place)) (repeat : Bool) (deliveries : BTreeMap Delivery (Option Place))
    (doubtful : List ℕ) (p : ℕ) (log : List Entry) (i : ℕ) : Type 0 where
  pub sent : IsTrue repeat → (m : MsgId) (x : ConfId) → Sends log i m x → Knows by_message sends m (place p i)
  pub delivered : Contains doubtful p → (m : MsgId) (x : ConfId) → Delivers log i m x → Knows by_delivery deliveries (record { proc = p; message = m }) (place p i)

-- the log delivers each message once
abbrev pub DeliversEachOnce : List Entry → Type 0
DeliversEachOnce log = (i j : ℕ) (m : MsgId) (x y : ConfId) → Delivers log i m x → Delivers log j m y → i ≡ j

-- all processes but the doubtful ones deliver each message once
pub record DeliverOnceBut (doubtful : List ℕ) (run : List Log) : Type 0 where
  pub each : (p : ℕ) → (Contains doubtful p → ⊥) → DeliversEachOnce (log_of run p)

-- besides, each message is sent once unless sends may repeat
pub record AreOnceBut (repeat : Bool) (doubtful : List ℕ) (run : List Log) : Type 0 where
  pub deliveries : DeliverOnceBut doubtful run
  pub sends : (IsTrue repeat → ⊥) → SendsAreOnce run

-- the place of p's change is recorded under p and its configuration, and the members under the configuration
pub record KnowsChange (by_change : Change → Change → Ordering) (by_conf : ConfId → ConfId → Ordering) (changes : BTreeMap Change (Option Place)) (members : BTreeMap ConfId (Option (List ℕ)))
    (p : ℕ) (log : List Entry) (i : ℕ) : Type 0 where
  pub placed : (x : ConfId) (ms : List ℕ) → ChangesWith log i x ms → Knows by_change changes (record { proc = p; conf = x }) (place p i)
  pub formed : (x : ConfId) (ms : List ℕ) → ChangesWith log i x ms → Knows by_conf members x ms

-- the rank of a process that comes from the ring c is within what is noted
pub record IsWithin (v : Latest) (p : ℕ) (c : RingId) : Type 0 where
  pub rank : p ≤ v.rank
  pub other : c ≢ v.ring → p ≤ v.other

-- what is within v is within w
pub record Widens (v w : Latest) : Type 0 where
  pub each : (p : ℕ) (c : RingId) → IsWithin v p c → IsWithin w p c

-- if p's log comes from a ring to the next configuration after i, that is within what is noted of this configuration
pub record KnowsOrigin (by_conf : ConfId → ConfId → Ordering) (latest : BTreeMap ConfId Latest) (p : ℕ) (log : List Entry) (i : ℕ) : Type 0 where
  pub each : (j : ℕ) (c : RingId) (t : ConfId) (ms ns : List ℕ) → ChangesNext log i j (Regular c) t ms ns → (v : Latest) × (tree.get by_conf latest t ≡ Some v) × IsWithin v p c

-- the send of a message on a ring
abbrev pub sending : MsgId → RingId → Sending
sending m c = record { message = m; ring = c }

-- each of these messages was sent in its configuration
pub record WereSent (sends : List Sending) (run : List Log) : Type 0 where
  pub each : All (λ (k : Sending). WasSentIn run k.message (Regular k.ring)) sends

-- if p's entry i is a change to a regular configuration, the set has it
pub record KnowsRegularChange (by_change : Change → Change → Ordering) (changes : BTreeSet Change) (p : ℕ) (log : List Entry) (i : ℕ) : Type 0 where
  pub each : (c : RingId) → ChangesTo log i (Regular c) → IsTrue (sorted.contains by_change changes (record { proc = p; conf = Regular c }))

-- each configuration in the map follows the regular one of its ring in the log of its process
pub record AreFollowed (by_change : Change → Change → Ordering) (rings : BTreeMap Change RingId) (run : List Log) : Type 0 where
  pub each : (v : Change) (c : RingId) → tree.get by_change rings v ≡ Some c → Follows (log_of run v.proc) c v.conf
