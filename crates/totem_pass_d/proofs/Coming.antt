-- Entering the changes to regular configurations, and building the stays from them, log by log.
use Rattle.totem_pass_d.proofs.Common.{◌≡◌, ℕ, inl, inr, List, slice_get, Some, None, true, IsTrue, sym, ◌∙◌, ◌+◌, ◌<◌, ◌≤◌, ◌⊎◌, [], ◌∷◌, ◌++◌, length, get_or, ◌↔◌, ap, arith, below_more, Ordering, RingId, ConfId, Regular, Entry, Conf, Log, log_of, ChangesTo, IsChange, IsQuiet, ending_of, IsRing, AreRings, MeetsPasses, Keeps, StaysSound, equal_at, apart_or_at, exact_ring, slice_get_within, slice_get-get_or, get_or_from_slice_get, NeverFails, log_of_at, log_of_cases, in_order, before_or_at, IsStay, IsStayFrom, IsStayOf, HasStay, AreStays, is_stay, nothing, before_push, stands_before, stands_last}
use Rattle.std.specs.BTreeMap.{BTreeMap}
use Rattle.std.specs.BTreeMap as tree
use Rattle.std.specs.BTreeSet.{BTreeSet, IsOrdered}
use Rattle.std.specs.BTreeSet as sorted
use Rattle.std.proofs.lemmas.Map.Lookups.{CmpEqualImpliesEq}
use Rattle.totem_table.specs.declared.keys.Change.{Change}
use Rattle.totem_table.proofs.Exact.{change_by}
use Rattle.std.proofs.lemmas.Map.Keys.{Less-from_sorted}
use Rattle.std.proofs.lemmas.Map.Views.{btree_set_contains_iff}
use Rattle.totem_names.specs.contracts.ring.RingIdOrd.TheImpl as ring
use Rattle.totem_names.specs.contracts.ring.RingIdOrd.TheImpl.Laws.{total-law}
use Rattle.totem_judge_run.proofs.PendingOrder.{below_from_less}
use Rattle.totem_pass_d.specs.Comings.{KnowsComing, AreComings, HoldsComings}
use Rattle.totem_evs.specs.Runs.{IsRun, IsLog}
use Rattle.totem_pass_d.specs.declared.stays.Stay.{Stay}
use Rattle.totem_judge_run.proofs.LogEnds.{ending_of_at, quiet_never_fails}

-- an entry that is not a change changes to no configuration
pub spares_coming : (by_ring : RingId → RingId → Ordering) (by_change : Change → Change → Ordering) (rings : BTreeSet RingId) (indices : BTreeMap Change ℕ) (p : ℕ) (log : List Entry) (i : ℕ) → (IsChange log i → ⊥)
    → KnowsComing by_ring by_change rings indices p log i
spares_coming by_ring by_change rings indices p log i never = grind arith

pub one_coming : (by_ring : RingId → RingId → Ordering) (by_change : Change → Change → Ordering) → CmpEqualImpliesEq by_ring → CmpEqualImpliesEq by_change
    → (r s : BTreeSet RingId) (m n : BTreeMap Change ℕ) (p i : ℕ) (log : List Entry) (x : ConfId) (c : RingId) (ms : List ℕ) → slice_get log i ≡ Some (Conf x ms) → x ≡ Regular c
    → sorted.Updates by_ring r s c true → tree.Updates by_change m n (change_by p (Regular c)) (Some i) → StaysSound (AreComings by_ring by_change r m) (AreComings by_ring by_change s n) p log
one_coming by_ring by_change exact_ring exact_change r s m n p i log x c ms at is added updated = record { each = λ run logs old. more run logs old }
  where
    here : (run : List Log) → log ≡ log_of run p → ChangesTo (log_of run p) i (Regular c)
    here run logs = (ms, rw (logs, is) at at)

    index_here : (run : List Log) (v : Change) (j : ℕ) → log ≡ log_of run p → change_by p (Regular c) ≡ v → tree.get by_change n v ≡ Some j → ChangesTo (log_of run v.proc) j v.conf
    index_here run v j logs same is_j = grind (arith, change_by, here)

    more : (run : List Log) → log ≡ log_of run p → AreComings by_ring by_change r m run → AreComings by_ring by_change s n run
    more run logs old = grind (arith, apart_or_at, exact_ring, equal_at, here, change_by, index_here)

pub keeps_comings : (by_ring : RingId → RingId → Ordering) (by_change : Change → Change → Ordering) → CmpEqualImpliesEq by_ring → CmpEqualImpliesEq by_change
    → (r s : BTreeSet RingId) (m n : BTreeMap Change ℕ) (p i : ℕ) (c : RingId) → sorted.Updates by_ring r s c true → tree.Updates by_change m n (change_by p (Regular c)) (Some i)
    → Keeps (KnowsComing by_ring by_change r m) (KnowsComing by_ring by_change s n)
keeps_comings by_ring by_change exact_ring exact_change r s m n p i c added updated = grind (arith, apart_or_at, equal_at, change_by)

-- the rings that are collected are those of the run, in order
pub are_rings : (by_change : Change → Change → Ordering) (rings : BTreeSet RingId) (indices : BTreeMap Change ℕ) (run : List Log) → HoldsComings ring.cmp-value.it by_change rings indices run
    → IsOrdered ring.cmp-value.it rings → AreRings run rings.keys
are_rings by_change rings indices run holds ordered = record {
  rising = λ i j d lt within. below_from_less _ _ (Less-from_sorted ring.cmp-value.it rings.keys i j d ordered lt within);
  exact = λ c. (λ has. holds.only.ring c ((btree_set_contains_iff total-law exact_ring rings c).1 has), λ r. (btree_set_contains_iff total-law exact_ring rings c).0 (known c r));
}
  where
    known : (c : RingId) → IsRing run c → IsTrue (sorted.contains ring.cmp-value.it rings c)
    known c r = (holds.all r.proc r.index (slice_get_within (log_of run r.proc) r.index _ r.change.1)).ring c r.change

-- ---- the stays, log by log

-- the stay is that of one of the first n logs
pub record IsOfFirst (run : List Log) (c : RingId) (n : ℕ) (stay : Stay) : Type 0 where
  pub at : ℕ
  pub log : Log
  pub before : at < n
  pub stands : slice_get run at ≡ Some log
  pub proc : stay.proc ≡ log.proc
  pub is : IsStayOf run c stay

-- the stays of the first n logs
pub record AreOfFirst (run : List Log) (c : RingId) (n : ℕ) (stays : List Stay) : Type 0 where
  pub each : (k : ℕ) (stay : Stay) → slice_get stays k ≡ Some stay → IsOfFirst run c n stay
  pub rising : (j k : ℕ) (s t : Stay) → slice_get stays j ≡ Some s → slice_get stays k ≡ Some t → j < k → s.proc < t.proc
  pub whole : (k : ℕ) → k < n → (i : ℕ) (log : Log) → slice_get run k ≡ Some log → ChangesTo log.entries i (Regular c) → HasStay stays log.proc

-- the next log
module _ (run : List Log) (c : RingId) (n : ℕ) (log : Log) (is_run : IsRun run) (at_n : slice_get run n ≡ Some log) where
  own : log_of run log.proc ≡ log.entries
  own = log_of_at run n log is_run.rising at_n

  kept : IsLog log
  kept = rw (get_or_from_slice_get run n log log at_n) at (is_run.each n log (slice_get_within run n log at_n))

  pub few_entries : length log.entries ≤ 1000000
  few_entries = kept.entries.few

  same_log : (k : ℕ) (other : Log) → k ≡ n → slice_get run k ≡ Some other → other ≡ log
  same_log k other same at = let there : slice_get run n ≡ Some other = rw same at at in cc

  wider : {stay : Stay} → IsOfFirst run c n stay → IsOfFirst run c (n + 1) stay
  wider of = record { at = of.at; log = of.log; before = (let lt = of.before in omega arith); stands = of.stands; proc = of.proc; is = of.is }

  pub no_stay : (by_ring : RingId → RingId → Ordering) (by_change : Change → Change → Ordering) (rings : BTreeSet RingId) (indices : BTreeMap Change ℕ) (stays : List Stay)
      → HoldsComings by_ring by_change rings indices run → tree.get by_change indices (change_by log.proc (Regular c)) ≡ None → AreOfFirst run c n stays → AreOfFirst run c (n + 1) stays
  no_stay by_ring by_change rings indices stays holds none before = record {
    each = λ k s at. wider (before.each k s at);
    rising = before.rising;
    whole = below_more _ _ before.whole (λ i other at change. (let one : other ≡ log = cc in absurd (never i (rw one at change))));
  }
    where
      never : (i : ℕ) → ChangesTo log.entries i (Regular c) → ⊥
      never i change =
          let here : ChangesTo (log_of run log.proc) i (Regular c) = rw own change in
          (holds.all log.proc i (slice_get_within (log_of run log.proc) i _ here.1)).index c here none

  pub one_stay : (stays : List Stay) (s : Stay) → s.proc ≡ log.proc → IsStayOf run c s → AreOfFirst run c n stays → AreOfFirst run c (n + 1) (stays ++ (s ∷ []))
  one_stay stays s proc is before = record {
    each = λ k t at. elim (before_push stays s k t at) [
      | inl old ↦ wider (before.each k t old)
      | inr (last, same) ↦ rw (← same) (record { at = n; log = log; before = omega arith; stands = at_n; proc = proc; is = is })
    ];
    rising = λ j k a b at_j at_k lt. elim (before_push stays s k b at_k) [
      | inl old ↦ elim (before_push stays s j a at_j) [
        | inl older ↦ before.rising j k a b older old lt
        | inr (last, _) ↦ absurd (omega (arith, slice_get_within stays k b old))
      ]
      | inr (last, same) ↦ elim (before_push stays s j a at_j) [
        | inl old ↦ below a (before.each j a old) b same
        | inr (also, _) ↦ absurd (omega arith)
      ]
    ];
    whole = λ k lt i other at change. elim (before_or_at k n lt) [
      | inl under ↦ (let h = before.whole k under i other at change in record { at = h.at; stay = h.stay; stands = stands_before stays s h.at h.stay h.stands; proc = h.proc })
      | inr same ↦ record { at = length stays; stay = s; stands = stands_last stays s; proc = proc ∙ ap (λ (l : Log). l.proc) (sym (same_log k other same at)) }
    ];
  }
    where
      below : (a : Stay) → IsOfFirst run c n a → (b : Stay) → s ≡ b → a.proc < b.proc
      below a of b same = rw (← same, of.proc, proc) (in_order run of.at n of.log log is_run.rising of.stands at_n of.before)

  -- the stay that starts at the log's change to c
  pub stay_at : (by_ring : RingId → RingId → Ordering) (by_change : Change → Change → Ordering) (rings : BTreeSet RingId) (indices : BTreeMap Change ℕ) (from : ℕ) (s : Stay) → HoldsComings by_ring by_change rings indices run
      → tree.get by_change indices (change_by log.proc (Regular c)) ≡ Some from → MeetsPasses run → IsStayFrom log from s → IsStayOf run c s
  stay_at by_ring by_change rings indices from s holds found meets here = record { log = logs; few = few; quiet = quiet; unfailed = unfailed; is = is; told = here.told }
    where
      logs : s.log.now ≡ log_of run s.proc
      logs = here.log ∙ sym own ∙ ap (λ p. log_of run p) (sym here.proc)

      few : length s.log.now ≤ 1000000
      few = rw here.log kept.entries.few

      ending : ending_of run s.proc ≡ log.ending
      ending = rw here.proc (ending_of_at run n log is_run.rising at_n)

      quiet : IsTrue s.quiet ↔ IsQuiet run s.proc
      quiet = (λ t. ending ∙ here.quiet.0 t, λ q. here.quiet.1 (sym ending ∙ q))

      unfailed : IsTrue s.quiet → NeverFails s.log.now
      unfailed t = rw here.log (quiet_never_fails log.entries log.ending (rw (← here.log, logs) (meets.placed s.proc)) kept.ending (here.quiet.0 t))

      change : ChangesTo (log_of run log.proc) from (Regular c)
      change = holds.only.index (change_by log.proc (Regular c)) from found

      is : IsStay s.log.now c s.from s.turn s.end
      is = is_stay s.log.now c s.from s.turn s.end (rw logs (record { placed = meets.placed s.proc; once = meets.one.once s.proc; turns = meets.turns.each s.proc }))
          (record { change = rw (here.log, here.from, ← own) change; two = rw (here.log, here.from) here.next })

  pub from_within : (by_ring : RingId → RingId → Ordering) (by_change : Change → Change → Ordering) (rings : BTreeSet RingId) (indices : BTreeMap Change ℕ) (from : ℕ) → HoldsComings by_ring by_change rings indices run
      → tree.get by_change indices (change_by log.proc (Regular c)) ≡ Some from → from < length log.entries
  from_within by_ring by_change rings indices from holds found = grind (arith, change_by, own, slice_get_within)

-- all of them are the stays of the run
pub all_stays : (run : List Log) (c : RingId) (n : ℕ) (stays : List Stay) → length run ≤ n → AreOfFirst run c n stays → AreStays run c stays
all_stays run c n stays end h = record {
  each = λ k d lt. (h.each k (get_or stays k d) (slice_get-get_or stays k d lt)).is;
  rising = λ i j d lt below. h.rising i j (get_or stays i d) (get_or stays j d) (slice_get-get_or stays i d (omega arith)) (slice_get-get_or stays j d below) lt;
  whole = λ p i change. comes p i change (log_of_cases run p);
}
  where
    comes : (p i : ℕ) → ChangesTo (log_of run p) i (Regular c)
        → (log_of run p ≡ []) ⊎ ((k : ℕ) × (log : Log) × (slice_get run k ≡ Some log) × (log.proc ≡ p) × (log_of run p ≡ log.entries)) → HasStay stays p
    comes p i change (inl empty) = absurd (nothing i _ (rw empty at change.1))
    comes p i change (inr (k, log, at, same, is)) = rw same at (h.whole k (omega (arith, slice_get_within run k log at)) i log at (rw is at change))
