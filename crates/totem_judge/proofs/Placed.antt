-- The logs of a configuration as parts of its traffic: its members, how they end, and what follows it.
use Rattle.totem_judge.proofs.Common.{◌≡◌, ◌⊎◌, inl, inr, ℕ, ◌+◌, ◌<◌, List, length, slice_get, Some, refl, sym, ◌∙◌, ap, subst, arith, Contains, slice_get_within, slice_get-get_or, ConfId, Regular, Entry, Conf, Fail, Log, IsLog, IsFailure, EndsInFail, ChangesTo, ChangesWith, IsMember, log_of, ending_of, IsNextChange, Follows, NeverFails, FailedIn, StaysIn, OpenIn, MeetsPasses, Numbering, Rising, Traffic, IsLogAt, AreLogsOf, AreMembers, IsFollowingAs, HasFollowing, all_at, has_log, one_at, same_change, change_within, one_next, HasSuch, IsAny, IsExcusedIn, IsOpenAt, AreMemberLogs, TurnsToConf, LeavesFrom, HasFollowingOf}
use Rattle.totem_evs.specs.declared.ending.Ending.TheVariants.{Failed, Quiet}
use Rattle.totem_evs.specs.Agreement.{Goes}
use Rattle.totem_judge_traffic.specs.declared.traffic.MemberLogs.{MemberLogs}
use Rattle.totem_judge_traffic.specs.LogSets.{Has}
use Rattle.totem_judge_traffic.proofs.Together.{one_following, follows_too}
use Rattle.totem_judge.specs.declared.gathered.Gathered.{Gathered}
use Rattle.totem_judge.specs.declared.gathered.Stay.{Stay}
use Rattle.totem_judge.proofs.Numbers.{below_or_not, entries_of}
use Rattle.totem_judge.proofs.Listed.{Verified, StayOf, such_stay_of, come, stay_around}
use Rattle.totem_judge_run.proofs.LogEnds.{ending_of_at}

ending_at : (run : List Log) (l p : ℕ) → Rising run → (log : IsLogAt run l p) → ending_of run p ≡ log.log.ending
ending_at run l p rising log = subst (λ (q : ℕ). ending_of run q ≡ log.log.ending) log.proc (ending_of_at run l log.log rising log.stands)

module _ {run : List Log} {lines : List Numbering} {g : Gathered} {traffic : Traffic} (v : Verified run lines g traffic) (meets : MeetsPasses run) where
  open v use {is_run, orderly, seen, whole}

  -- the log at an index is p's
  entries_at : (l p : ℕ) (log : Log) → IsLogAt run l p → slice_get run l ≡ Some log → log.entries ≡ log_of run p
  entries_at l p log at stands = ap (λ (x : Log). x.entries) (one_at run l log at.log stands at.stands) ∙ sym (entries_of run l p is_run.rising at)

  -- a stay that keeps the condition is one of its log
  such_stay : (l p : ℕ) (s : StayOf v l p) (Such : Stay → Type 0) → Such s.stay → HasSuch Such g.stays.items (length g.stays.items) l
  such_stay l p s Such such = record { at = s.at; stay = s.stay; before = slice_get_within g.stays.items s.at s.stay s.stands; stands = s.stands; of = s.log; such = such }

  -- ---- which processes come

  pub logs_are : AreLogsOf run traffic.logs (λ p. (i : ℕ) × ChangesTo (log_of run p) i (Regular g.ring))
  logs_are = record { exact = λ l p log. (from l p log, to l p log) }
    where
      from : (l p : ℕ) → IsLogAt run l p → Has traffic.logs l → (i : ℕ) × ChangesTo (log_of run p) i (Regular g.ring)
      from l p log has =
          let such = such_stay_of v IsAny l p log ((seen.ends.all.exact l).0 has) in
          (such.0.stay.from, such.0.is.change)

      to : (l p : ℕ) → IsLogAt run l p → (i : ℕ) × ChangesTo (log_of run p) i (Regular g.ring) → Has traffic.logs l
      to l p log (i, change) = (seen.ends.all.exact l).1 (whole l p i log change)

  -- ---- how they end

  ends_here : (l p : ℕ) (s : StayOf v l p) → FailedIn (log_of run p) g.ring ⊎ StaysIn (log_of run p) g.ring → s.stay.end ≡ length (log_of run p)
  ends_here l p s h = elim (below_or_not s.stay.end (length (log_of run p))) [ inl under ↦ absurd (s.is.goes_on under h) | inr behind ↦ omega (arith, behind, s.is.within) ]

  -- a process that fails or is open in the configuration has a stay there
  stay_of_end : (l p : ℕ) → IsLogAt run l p → FailedIn (log_of run p) g.ring ⊎ StaysIn (log_of run p) g.ring → StayOf v l p
  stay_of_end l p log (inl (i, d, fails, belongs)) = stay_around v l p i d log (Fail d, fails, refl) belongs
  stay_of_end l p log (inr (d, never, last, inl same)) = come v l p last.index log (rw same at last.change)
  stay_of_end l p log (inr (d, never, last, inr follows)) = come v l p follows.from log follows.first.change

  stays_or_fails : (p : ℕ) → FailedIn (log_of run p) g.ring ⊎ OpenIn run p g.ring → FailedIn (log_of run p) g.ring ⊎ StaysIn (log_of run p) g.ring
  stays_or_fails p (inl failed) = inl failed
  stays_or_fails p (inr (loud, stays)) = inr stays

  -- a log with a failure ends as failed: the failure is its last entry
  failed_with : (l p i : ℕ) (x : ConfId) (log : IsLogAt run l p) → slice_get (log_of run p) i ≡ Some (Fail x) → log.log.ending ≡ Failed
  failed_with l p i x log fails = (all_at IsLog run l log.log is_run.each log.stands).ending.1 (i, Fail x, rw entries at last, rw entries at fails, tt)
    where
      entries : log_of run p ≡ log.log.entries
      entries = entries_of run l p is_run.rising log

      last : length (log_of run p) ≡ i + 1
      last = elim (below_or_not (i + 1) (length (log_of run p))) [
        | inl under ↦ absurd ((orderly.placed p).final i (i + 1) x fails (omega arith) under)
        | inr behind ↦ omega (arith, behind, slice_get_within (log_of run p) i (Fail x) fails)
      ]

  never_failed : (l p : ℕ) (log : IsLogAt run l p) → NeverFails (log_of run p) → log.log.ending ≡ Failed → ⊥
  never_failed l p log never failed = of ((all_at IsLog run l log.log is_run.each log.stands).ending.0 failed)
    where
      failure_of : (e : Entry) → IsFailure e → (x : ConfId) × (e ≡ Fail x)
      failure_of (Fail x) h = (x, refl)
      failure_of e h = absurd h

      of : EndsInFail log.log.entries → ⊥
      of (i, e, many, at, fails) = let f = failure_of e fails in never i f.0 (rw (entries_of run l p is_run.rising log, ← f.1) at)

  -- a quiet log neither fails nor is open
  loud : (l p : ℕ) (log : IsLogAt run l p) → FailedIn (log_of run p) g.ring ⊎ OpenIn run p g.ring → log.log.ending ≡ Quiet → ⊥
  loud l p log (inr (not_quiet, stays)) quiet = not_quiet (ending_at run l p is_run.rising log ∙ quiet)
  loud l p log (inl (i, d, fails, belongs)) quiet = (let failed = failed_with l p i d log fails in cc)

  excused : (l p : ℕ) (log : IsLogAt run l p) (h : FailedIn (log_of run p) g.ring ⊎ OpenIn run p g.ring) → (s : StayOf v l p) → IsExcusedIn run s.stay
  excused l p log h s = record {
    log = log.log;
    stands = subst (λ (j : ℕ). slice_get run j ≡ Some log.log) (sym s.log) log.stands;
    end = ends_here l p s (stays_or_fails p h) ∙ ap (λ (es : List Entry). length es) (entries_of run l p is_run.rising log);
    loud = loud l p log h;
  }

  ends_so : (l p : ℕ) → IsLogAt run l p → (s : StayOf v l p) → IsExcusedIn run s.stay → FailedIn (log_of run p) g.ring ⊎ OpenIn run p g.ring
  ends_so l p log s e =
      let at : slice_get run l ≡ Some e.log = subst (λ (j : ℕ). slice_get run j ≡ Some e.log) s.log e.stands in
      let end : s.stay.end ≡ length (log_of run p) = e.end ∙ ap (λ (es : List Entry). length es) (entries_at l p e.log log at) in
      let same : log.log ≡ e.log = one_at run l log.log e.log log.stands at in
      elim (s.is.ends end) [
        | inl failed ↦ inl failed
        | inr stays ↦ inr (λ quiet. e.loud (ap (λ (x : Log). x.ending) (sym same) ∙ (sym (ending_at run l p is_run.rising log) ∙ quiet)), stays)
      ]

  pub ended_are : AreLogsOf run traffic.ended (λ p. FailedIn (log_of run p) g.ring ⊎ OpenIn run p g.ring)
  ended_are = record { exact = λ l p log. (from l p log, to l p log) }
    where
      from : (l p : ℕ) → IsLogAt run l p → Has traffic.ended l → FailedIn (log_of run p) g.ring ⊎ OpenIn run p g.ring
      from l p log has =
          let such = such_stay_of v (IsExcusedIn run) l p log ((seen.ends.ending.exact l).0 has) in
          ends_so l p log such.0 such.1

      to : (l p : ℕ) → IsLogAt run l p → FailedIn (log_of run p) g.ring ⊎ OpenIn run p g.ring → Has traffic.ended l
      to l p log h =
          let s = stay_of_end l p log (stays_or_fails p h) in
          (seen.ends.ending.exact l).1 (such_stay l p s (IsExcusedIn run) (excused l p log h s))

  pub open_are : AreLogsOf run traffic.open (λ p. OpenIn run p g.ring)
  open_are = record { exact = λ l p log. (from l p log, to l p log) }
    where
      from : (l p : ℕ) → IsLogAt run l p → Has traffic.open l → OpenIn run p g.ring
      from l p log has =
          let such = such_stay_of v (IsOpenAt run) l p log ((seen.ends.opened.exact l).0 has) in
          let on = such.1.1 in
          let same : on.log ≡ log.log = one_at run l on.log log.log (subst (λ (j : ℕ). slice_get run j ≡ Some on.log) such.0.log on.stands) log.stands in
          elim (ends_so l p log such.0 such.1.0) [
            | inl (i, x, fails, belongs) ↦ absurd (on.goes_on (ap (λ (y : Log). y.ending) same ∙ failed_with l p i x log fails))
            | inr stands ↦ stands
          ]

      to : (l p : ℕ) → IsLogAt run l p → OpenIn run p g.ring → Has traffic.open l
      to l p log (not_quiet, (d, never, last, belongs)) =
          let s = stay_of_end l p log (inr (d, never, last, belongs)) in
          (seen.ends.opened.exact l).1 (such_stay l p s (IsOpenAt run) (
            excused l p log (inr (not_quiet, (d, never, last, belongs))) s,
            record {
              log = log.log;
              stands = subst (λ (j : ℕ). slice_get run j ≡ Some log.log) (sym s.log) log.stands;
              goes_on = never_failed l p log never;
            },
          ))

  -- ---- members

  -- the members of x, given one change to it
  members_of : (p i : ℕ) (x : ConfId) (members : List ℕ) (found : MemberLogs) → ChangesWith (log_of run p) i x members → AreMemberLogs run members found → AreMembers run x found
  members_of p i x members found change are = record {
    logs = record { exact = λ l q log. (from l q log, to l q log) };
    all = λ told q member. (
        let of = listed q member in
        let has = (are.all told).each of.0 q of.1 (slice_get-get_or members of.0 q of.1 ∙ ap (λ (r : ℕ). Some r) of.2) in
        (has.index, has.log)
        );
  }
    where
      listed : (q : ℕ) → IsMember run x q → Contains members q
      listed q (r, j, others, there, contains) = rw (meets.one.members p i r j x members others change there) contains

      from : (l q : ℕ) → IsLogAt run l q → Has found.logs l → IsMember run x q
      from l q log has =
          let h = (are.logs.exact l).0 has in
          let same : h.log ≡ log.log = one_at run l h.log log.log h.stands log.stands in
          (p, i, members, change, subst (λ (k : ℕ). Contains members k) (ap (λ (y : Log). y.proc) same ∙ log.proc) h.member)

      to : (l q : ℕ) → IsLogAt run l q → IsMember run x q → Has found.logs l
      to l q log member = (are.logs.exact l).1 (record { before = slice_get_within run l log.log log.stands; log = log.log; stands = log.stands; member = subst (λ (k : ℕ). Contains members k) (sym log.proc) (listed q member) })

  pub members_are : AreMembers run (Regular g.ring) traffic.members
  members_are =
      let m = seen.members in
      let at : IsLogAt run m.stay.log m.log.proc = record { log = m.log; stands = m.log_is; proc = refl } in
      let such = such_stay_of v (λ (y : Stay). y ≡ m.stay) m.stay.log m.log.proc at (record { at = m.at; stay = m.stay; before = slice_get_within g.stays.items m.at m.stay m.stands; stands = m.stands; of = refl; such = refl }) in
      let here : ChangesWith (log_of run m.log.proc) m.stay.from m.conf m.members = rw (entries_at m.stay.log m.log.proc m.log at m.log_is) at m.change in
      let from : such.0.stay.from ≡ m.stay.from = ap (λ (y : Stay). y.from) such.1 in
      let conf : m.conf ≡ Regular g.ring = same_change (log_of run m.log.proc) m.stay.from such.0.stay.from m.conf (Regular g.ring) (sym from) (m.members, here) such.0.is.change in
      members_of m.log.proc m.stay.from (Regular g.ring) m.members traffic.members (rw conf at here) m.are

  -- ---- what follows

  -- the configuration that a stay turns to follows the regular one in its log
  turned : (l p : ℕ) (x : ConfId) (s : StayOf v l p) → IsLogAt run l p → TurnsToConf run x s.stay → Follows (log_of run p) g.ring x
  turned l p x s log (ms, t) =
      let turns = s.is.turns t.before in
      let entries : t.log.entries ≡ log_of run p = entries_at l p t.log log (subst (λ (j : ℕ). slice_get run j ≡ Some t.log) s.log t.stands) in
      let same : turns.conf ≡ x = same_change (log_of run p) s.stay.turn s.stay.turn turns.conf x refl turns.change (ms, rw entries at t.change) in
      rw same at turns.follows

  -- and the stay turns to the one that follows there
  turns_at : (l p : ℕ) (x : ConfId) (s : StayOf v l p) → (f : Follows (log_of run p) g.ring x) → f.to ≡ s.stay.turn
  turns_at l p x s f = elim (below_or_not s.stay.turn (length (log_of run p))) [
    | inl under ↦ one_next (log_of run p) s.stay.from f.to s.stay.turn (rw from at f.next) (s.is.next under).1
    | inr behind ↦ s.is.changes f.to (rw (sym from) f.next.later) (omega (arith, behind, s.is.until, s.is.within, change_within (log_of run p) f.to x f.change)) f.next.change
  ]
    where
      from : f.from ≡ s.stay.from
      from = orderly.one.once p f.from s.stay.from (Regular g.ring) f.first.change s.is.change

  turns_to : (l p : ℕ) (x : ConfId) (s : StayOf v l p) → IsLogAt run l p → Follows (log_of run p) g.ring x → TurnsToConf run x s.stay
  turns_to l p x s log f =
      let at = turns_at l p x s f in
      let change : ChangesTo (log_of run p) s.stay.turn x = subst (λ (j : ℕ). ChangesTo (log_of run p) j x) at f.change in
      let within = change_within (log_of run p) s.stay.turn x change in (
        change.0,
        record {
          log = log.log;
          stands = subst (λ (j : ℕ). slice_get run j ≡ Some log.log) (sym s.log) log.stands;
          before = (s.is.next within).0;
          change = rw (sym (entries_of run l p is_run.rising log)) change.1;
        },
      )

  -- the configuration that follows in these stays, as it follows in the run
  follows_as : (p l : ℕ) (x : ConfId) → IsLogAt run l p → Follows (log_of run p) g.ring x → (h : HasFollowingOf run g.stays.items traffic.following.items l) → h.conf ≡ x → IsFollowingAs run g.ring x h.following
  follows_as p l x log f h same = subst (λ (y : ConfId). IsFollowingAs run g.ring y h.following) same (record {
    members = members_here;
    logs = record { exact = λ k q at. (from k q at, to k q at) };
    left = record { exact = λ k q at. (left_from k q at, left_to k q at) };
  })
    where
      members_here : AreMembers run h.conf h.following.members
      members_here =
          let t = h.turns in
          let at : IsLogAt run h.stay.log t.log.proc = record { log = t.log; stands = t.stands; proc = refl } in
          members_of t.log.proc h.stay.turn h.conf h.members h.following.members (rw (entries_at h.stay.log t.log.proc t.log at t.stands) at t.change) h.is.members

      from : (k q : ℕ) → IsLogAt run k q → Has h.following.logs k → Follows (log_of run q) g.ring h.conf
      from k q at has =
          let such = such_stay_of v (TurnsToConf run h.conf) k q at ((h.is.logs.exact k).0 has) in
          turned k q h.conf such.0 at such.1

      to : (k q : ℕ) → IsLogAt run k q → Follows (log_of run q) g.ring h.conf → Has h.following.logs k
      to k q at follows =
          let s = come v k q follows.from at follows.first.change in
          (h.is.logs.exact k).1 (such_stay k q s (TurnsToConf run h.conf) (turns_to k q h.conf s at follows))

      left_from : (k q : ℕ) → IsLogAt run k q → Has h.following.left k → (d : ConfId) × Goes (log_of run q) h.conf d
      left_from k q at has =
          let such = such_stay_of v (LeavesFrom run h.conf) k q at ((h.is.left.exact k).0 has) in
          let s = such.0 in
          let further = such.1.1 in
          let entries : further.log.entries ≡ log_of run q = entries_at k q further.log at (subst (λ (j : ℕ). slice_get run j ≡ Some further.log) s.log further.stands) in
          let t = such.1.0.1 in
          let change : ChangesTo (log_of run q) s.stay.turn h.conf = (such.1.0.0, rw (entries_at k q t.log at (subst (λ (j : ℕ). slice_get run j ≡ Some t.log) s.log t.stands)) at t.change) in
          let next = s.is.last t.before (rw entries at further.end) in
          (next.change.0, (s.stay.turn, s.stay.end, change, next, next.change.1))

      left_to : (k q : ℕ) → IsLogAt run k q → (d : ConfId) × Goes (log_of run q) h.conf d → Has h.following.left k
      left_to k q at (d, (i, j, change, next, further)) =
          let follows = follows_too run g.ring meets p q i h.conf (rw same f) change in
          let s = come v k q follows.from at follows.first.change in
          let turn : s.stay.turn ≡ i = sym (turns_at k q h.conf s follows) ∙ orderly.one.once q follows.to i h.conf follows.change change in
          (h.is.left.exact k).1 (such_stay k q s (LeavesFrom run h.conf) (
            turns_to k q h.conf s at follows,
            record {
              log = at.log;
              stands = subst (λ (m : ℕ). slice_get run m ≡ Some at.log) (sym s.log) at.stands;
              end = rw (entries_of run k q is_run.rising at) at (ends_before k q s i j turn next);
            },
          ))
        where
          ends_before : (k q : ℕ) (s : StayOf v k q) (i j : ℕ) → s.stay.turn ≡ i → IsNextChange (log_of run q) i j → s.stay.end < length (log_of run q)
          ends_before k q s i j turn next = elim (below_or_not s.stay.end (length (log_of run q))) [
            | inl under ↦ under
            | inr behind ↦ absurd (
                let below : j < length (log_of run q) = change_within (log_of run q) j next.change.0 next.change.1 in
                let again : j ≡ s.stay.turn = s.is.changes j (omega (arith, turn, s.is.before, next.later)) (omega (arith, behind, below)) next.change in
                omega (arith, again, turn, next.later)
                )
          ]

  pub following_are : (p : ℕ) (x : ConfId) → Follows (log_of run p) g.ring x → HasFollowing run g.ring traffic.following.items x
  following_are p x f =
      let log = has_log run p f.from (Conf (Regular g.ring) f.first.change.0) f.first.change.1 in
      let l = log.0 in
      let s = come v l p f.from log.1 f.first.change in
      let t = turns_to l p x s log.1 f in
      let h : HasFollowingOf run g.stays.items traffic.following.items l = subst (λ (j : ℕ). HasFollowingOf run g.stays.items traffic.following.items j) s.log
      (seen.following.each s.at s.stay x t.0 (slice_get_within g.stays.items s.at s.stay s.stands) s.stands t.1) in
      let such = such_stay_of v (TurnsToConf run h.conf) l p log.1 ((h.is.logs.exact l).0 h.has) in
      let same : h.conf ≡ x = one_following run g.ring meets p h.conf x (turned l p h.conf such.0 log.1 such.1) f in
      record { at = h.at; following = h.following; stands = h.stands; is = follows_as p l x log.1 f h same }
