-- Where the processes change to the regular configurations (docs/SPECIFICATIONS.md, "Passes").
use Rattle.std.specs.Prelude.{◌≡◌, ◌≢◌, ℕ, ◌<◌, IsTrue, List, Some, None, length}
use Rattle.std.specs.declared.cmp.Ordering.{Ordering}
use Rattle.std.specs.BTreeMap.{BTreeMap}
use Rattle.std.specs.BTreeMap as tree
use Rattle.std.specs.BTreeSet.{BTreeSet}
use Rattle.std.specs.BTreeSet as sorted
use Rattle.totem_names.specs.declared.ring.RingId.{RingId}
use Rattle.totem_names.specs.declared.conf.ConfId.TheVariants.{Regular}
use Rattle.totem_evs.specs.declared.entry.Entry.{Entry}
use Rattle.totem_evs.specs.declared.log.Log.{Log}
use Rattle.totem_evs.specs.Events.{ChangesTo, log_of}
use Rattle.totem_evs.specs.Answers.{IsRing}
use Rattle.totem_table.specs.declared.keys.Change.{Change}

module _ (by_ring : RingId → RingId → Ordering) (by_change : Change → Change → Ordering) (rings : BTreeSet RingId) (indices : BTreeMap Change ℕ) where
  -- p's change at i to a regular configuration is among them
  pub record KnowsComing (p : ℕ) (log : List Entry) (i : ℕ) : Type 0 where
    pub ring : (c : RingId) → ChangesTo log i (Regular c) → IsTrue (sorted.contains by_ring rings c)
    pub index : (c : RingId) → ChangesTo log i (Regular c) → tree.get by_change indices (record { proc = p; conf = Regular c }) ≢ None

  -- each of them is a change of the run
  pub record AreComings (run : List Log) : Type 0 where
    pub ring : (c : RingId) → IsTrue (sorted.contains by_ring rings c) → IsRing run c
    pub index : (v : Change) (i : ℕ) → tree.get by_change indices v ≡ Some i → ChangesTo (log_of run v.proc) i v.conf

  -- they are the changes of the run to regular configurations
  pub record HoldsComings (run : List Log) : Type 0 where
    pub all : (p i : ℕ) → i < length (log_of run p) → KnowsComing p (log_of run p) i
    pub only : AreComings run
