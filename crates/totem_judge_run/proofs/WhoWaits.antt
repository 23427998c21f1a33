-- Which processes wait, log by log.
use Rattle.totem_judge_run.proofs.Common.{below_more, ◌≡◌, ◌⊎◌, ◌↔◌, ◌+◌, ◌<◌, ◌≤◌, ℕ, inl, inr, List, [], ◌∷◌, ◌++◌, length, slice_get, Some, false, IsTrue, refl, sym, arith, AllPairs, Contains, slice_get_within, slice_get_read, get_or_from_slice_get, Contains-append_left, Contains-get_or, Contains-push, Contains-push_cases, ConfId, Entry, Conf, Log, log_of, IsMember, EndsIn, IsWaiting, WaitingBelow, AreWaiting, IsOrderly, log_of_cases, HasNoLog, StandsAtEnd, EndsNowhere, AreWaitingAt}
use Rattle.std.proofs.lemmas.List.Quantifiers.{all_pairs_push}
use Rattle.totem_names.proofs.Lives.{below_is_less}
use Rattle.totem_evs.specs.Members.{IsBelow}
use Rattle.totem_evs.specs.declared.pending.Waiting.{Waiting}
use Rattle.totem_judge_run.proofs.Gathering.{HasLogBefore, Gathered}
use Rattle.totem_judge_run.proofs.Decisions.{neither_below}

-- ---- whether a process ends in a configuration

pub no_log : (run : List Log) (p : ℕ) (x : ConfId) → HasNoLog run p → IsTrue false ↔ EndsIn (log_of run p) x
no_log run p x none = grind (arith, log_of_cases, slice_get_within, get_or_from_slice_get)

-- ---- for whom one process waits

-- members are ascending by identifier, and so as processes too
pub members_rise : (ms : List ℕ) → AllPairs IsBelow ms → AllPairs (λ a b. a < b) ms
members_rise ms rises = λ i j d lt within. (below_is_less _ _).0 (inl (rises i j d lt within))

pairs_at : (ms : List ℕ) (j n a b : ℕ) → AllPairs (λ a b. a < b) ms → j < n → slice_get ms j ≡ Some a → slice_get ms n ≡ Some b → a < b
pairs_at ms j n a b rises lt at_j at_n = (let h = rises j n a lt (slice_get_within ms n b at_n) in rw (get_or_from_slice_get ms j a a at_j, get_or_from_slice_get ms n b a at_n) at h)

contains_at : (ms : List ℕ) (j q : ℕ) → slice_get ms j ≡ Some q → Contains ms q
contains_at ms j q at = (j, slice_get_within ms j q at, get_or_from_slice_get ms j q q at)

-- the first n members for which p waits
pub record WaitsAmong (run : List Log) (p : ℕ) (x : ConfId) (ms : List ℕ) (n : ℕ) (list : List Waiting) : Type 0 where
  pub rising : AllPairs WaitingBelow list
  pub sound : (w : Waiting) → Contains list w → (w.proc ≡ p) × (w.conf ≡ x) × (EndsIn (log_of run w.other) x → ⊥) × ((j : ℕ) × (j < n) × (slice_get ms j ≡ Some w.other))
  pub complete : (j : ℕ) → j < n → (q : ℕ) → slice_get ms j ≡ Some q → (EndsIn (log_of run q) x → ⊥) → Contains list (record { proc = p; conf = x; other = q })

wider : (ms : List ℕ) (n q : ℕ) → ((j : ℕ) × (j < n) × (slice_get ms j ≡ Some q)) → (j : ℕ) × (j < n + 1) × (slice_get ms j ≡ Some q)
wider ms n q (j, lt, at) = (j, omega arith, at)

pub waits_not : (run : List Log) (p : ℕ) (x : ConfId) (ms : List ℕ) (n r : ℕ) (list : List Waiting) → slice_get ms n ≡ Some r → EndsIn (log_of run r) x → WaitsAmong run p x ms n list → WaitsAmong run p x ms (n + 1) list
waits_not run p x ms n r list at there before = record {
  rising = before.rising;
  sound = λ w has. (let h = before.sound w has in (h.0, h.1, h.2, wider ms n w.other h.3));
  complete = below_more (λ j. (q : ℕ) → slice_get ms j ≡ Some q → (EndsIn (log_of run q) x → ⊥) → Contains list (record { proc = p; conf = x; other = q })) n before.complete
      (λ q at_n never. absurd (never (let one : q ≡ r = cc in rw one there)));
}

pub waits_more : (run : List Log) (p : ℕ) (x : ConfId) (ms : List ℕ) (n r : ℕ) (list : List Waiting) → AllPairs (λ a b. a < b) ms → slice_get ms n ≡ Some r → (EndsIn (log_of run r) x → ⊥) → WaitsAmong run p x ms n list
    → WaitsAmong run p x ms (n + 1) (list ++ record { proc = p; conf = x; other = r } ∷ [])
waits_more run p x ms n r list rises at never before = record {
  rising = all_pairs_push WaitingBelow list new before.rising (λ k d within. below _ (before.sound _ (Contains-get_or list k d within)));
  sound = λ w has. elim (Contains-push_cases list new w has) [
    | inl old ↦ (let h = before.sound w old in (h.0, h.1, h.2, wider ms n w.other h.3))
    | inr is ↦ rw (← is) (refl, refl, never, (n, omega arith, at))
  ];
  complete = below_more (λ j. (q : ℕ) → slice_get ms j ≡ Some q → (EndsIn (log_of run q) x → ⊥) → Contains (list ++ new ∷ []) (record { proc = p; conf = x; other = q })) n
      (λ j lt q at_j absent. Contains-append_left list (new ∷ []) _ (before.complete j lt q at_j absent))
      (λ q at_n absent. (let one : q ≡ r = cc in rw one (Contains-push list new)));
}
  where
    new : Waiting
    new = record { proc = p; conf = x; other = r }

    below : (w : Waiting) → ((w.proc ≡ p) × (w.conf ≡ x) × (EndsIn (log_of run w.other) x → ⊥) × ((j : ℕ) × (j < n) × (slice_get ms j ≡ Some w.other))) → WaitingBelow w new
    below w (procs, confs, absent, (j, lt, at_j)) = inr (inr (procs, confs, pairs_at ms j n w.other r rises lt at_j at))

-- ---- all of the members

pub waits_all : (run : List Log) (p i : ℕ) (x : ConfId) (ms : List ℕ) (n : ℕ) (list : List Waiting) → IsOrderly run → length ms ≤ n → StandsAtEnd (log_of run p) i → slice_get (log_of run p) i ≡ Some (Conf x ms) → WaitsAmong run p x ms n list
    → AreWaitingAt run p list
waits_all run p i x ms n list orderly end stands at h = record {
  rising = h.rising;
  exact = λ w. (λ has. waits w (h.sound w has), λ (is, same). there w is same);
}
  where
    ends_here : EndsIn (log_of run p) x
    ends_here = record { goes_on = stands.goes_on; last = record { index = i; change = (ms, at); none_after = stands.last } }

    waits : (w : Waiting) → ((w.proc ≡ p) × (w.conf ≡ x) × (EndsIn (log_of run w.other) x → ⊥) × ((j : ℕ) × (j < n) × (slice_get ms j ≡ Some w.other))) → IsWaiting run w.proc w.conf w.other × (w.proc ≡ p)
    waits w is = grind (arith, ends_here, contains_at)

    one_conf : (y : ConfId) → EndsIn (log_of run p) y → y ≡ x
    one_conf y ends =
        let same = neither_below i ends.last.index (λ under. stands.last ends.last.index under (y, ends.last.change)) (λ over. ends.last.none_after i over stands.change) in
        (let there : slice_get (log_of run p) i ≡ Some (Conf y ends.last.change.0) = rw (sym same) at ends.last.change.1 in cc)

    member_here : (q : ℕ) → IsMember run x q → Contains ms q
    member_here q (r, j, ns, changes, has) = let same = orderly.one.members r j p i x ns ms changes at in rw (← same) has

    rw_waiting : (w : Waiting) (q : ℕ) (y : ConfId) → w.proc ≡ q → w.conf ≡ y → Contains list (record { proc = q; conf = y; other = w.other }) → Contains list w
    rw_waiting w q y procs confs has = rw (← procs, ← confs) at has

    there : (w : Waiting) → IsWaiting run w.proc w.conf w.other → w.proc ≡ p → Contains list w
    there w is procs =
        let ends : EndsIn (log_of run p) w.conf = rw procs at is.stands in
        let confs = one_conf w.conf ends in
        let (k, lt, is_k) = member_here w.other (rw confs at is.member) in
        let found = h.complete k (omega arith) w.other (slice_get_read ms _ k w.other refl lt (sym is_k)) (rw confs at is.other) in
        rw_waiting w p x procs confs found

-- ---- all logs

pub waits_end : (run : List Log) (k : ℕ) (list : List Waiting) → length run ≤ k → Gathered run k list → AreWaiting run list
waits_end run k list end h = record {
  rising = h.rising;
  exact = λ p x q. (let w : Waiting = record { proc = p; conf = x; other = q } in
      (λ has. ((h.exact w).0 has).0, λ is. (h.exact w).1 (is, before p x is.stands (log_of_cases run p))));
}
  where
    before : (p : ℕ) (x : ConfId) → EndsIn (log_of run p) x → (log_of run p ≡ []) ⊎ ((j : ℕ) × (log : Log) × (slice_get run j ≡ Some log) × (log.proc ≡ p) × (log_of run p ≡ log.entries)) → HasLogBefore run k p
    before p x ends cases = grind (arith, slice_get_within)

pub waits_nowhere_in : (run : List Log) (p : ℕ) (entries : List Entry) (list : List Waiting) → entries ≡ log_of run p → list ≡ [] → EndsNowhere entries → AreWaitingAt run p list
waits_nowhere_in run p entries list is none nowhere = rw none (record {
  rising = λ i j d lt within. absurd (omega arith);
  exact = λ w. (λ (k, lt, has). absurd (omega arith), λ (waits, same). absurd (nowhere.never w.conf (rw (is, ← same) waits.stands)));
})

pub waits_all_in : (run : List Log) (p i : ℕ) (x : ConfId) (ms : List ℕ) (n : ℕ) (e : Entry) (entries : List Entry) (list : List Waiting) → IsOrderly run → entries ≡ log_of run p → StandsAtEnd entries i → slice_get entries i ≡ Some e → e ≡ Conf x ms
    → length ms ≤ n → WaitsAmong run p x ms n list → AreWaitingAt run p list
waits_all_in run p i x ms n e entries list orderly is stands at entry end h = waits_all run p i x ms n list orderly end (rw is at stands) (rw (is, entry) at at) h

pub change_at_end : (log : List Entry) (i : ℕ) (e : Entry) → StandsAtEnd log i → slice_get log i ≡ Some e → ((x : ConfId) (ms : List ℕ) → e ≡ Conf x ms → ⊥) → ⊥
change_at_end log i e stands at not_conf = grind arith

pub end_within : (log : List Entry) (i : ℕ) → StandsAtEnd log i → i < length log
end_within log i stands = slice_get_within log i _ stands.change.1.1
