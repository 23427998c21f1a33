-- From verified configurations to the run: it meets the specifications of passes A and B, and what is pending is known; and where all
-- configurations agree, it meets all specifications.
use Rattle.totem_judge.proofs.Common.{◌≡◌, ℕ, List, length, slice_get, Some, sym, subst, ◌∙◌, arith, slice_get_within, RingId, Regular, Conf, Log, Pending, IsRun, EndsTogether, IsRing, MeetsPasses, Numbering, Certified, at_index, Observed, AgreesIn, IsPendingIn, IsTrafficOf, AreTraffic, IsGotIn, HasSent, has_log, AreCovered, AreRisingTo, IsPendingFrom, IsInOrder, HoldsPending, IsOrderly, IsVerified, AllAreTraffic, AreObserved, Covers, IsView, Agree, Sent, Got, Traffic}
use Rattle.totem_evs.specs.Unsettled.{IsPending}
use Rattle.totem_evs.specs.Synchrony.{IsVirtuallySynchronous}
use Rattle.totem_evs.proofs.Synchronous.{MeetsConfigurations, synchronous}
use Rattle.totem_evs.proofs.Originating.{ring_of_send}
use Rattle.totem_judge.specs.declared.gathered.Gathered.{Gathered}
use Rattle.totem_judge.proofs.Whole.{AllSeen, Gathers, gathers, verified}
use Rattle.totem_judge.proofs.Unsent.{unsent_met}
use Rattle.totem_judge_run.proofs.PendingOrder.{are_pending}
use Rattle.totem_judge.proofs.Listed.{Verified}
use Rattle.totem_judge.proofs.Told.{sent_in, got_in, all_sent, all_got, sent_order, got_order, heard, behind}
use Rattle.totem_judge.proofs.Placed.{logs_are, members_are, ended_are, open_are, following_are}

-- what was gathered about a configuration and verified is its traffic
pub traffic_is : (run : List Log) (lines : List Numbering) (g : Gathered) (traffic : Traffic) → Verified run lines g traffic → MeetsPasses run → IsTrafficOf run g.ring traffic
traffic_is run lines g traffic v meets = record {
  of_run = v.is_run;
  sent = λ k s at. sent_in v k s (subst (λ (xs : List Sent). slice_get xs k ≡ Some s) v.seen.sent at);
  got = λ k a at. subst (λ (xs : List Sent). IsGotIn run g.ring xs a) (sym v.seen.sent) (got_in v k a (subst (λ (xs : List Got). slice_get xs k ≡ Some a) v.seen.got at));
  all_sent = λ p i m sends. subst (λ (xs : List Sent). HasSent run xs p m) (sym v.seen.sent) (all_sent v p i m sends);
  all_got = λ p i m delivers. rw (v.seen.sent, v.seen.got) (all_got v p i m delivers);
  sent_order = rw v.seen.sent (sent_order v);
  got_order = rw (v.seen.sent, v.seen.got) (got_order v);
  heard = rw (v.seen.sent, v.seen.got) (heard v);
  behind = rw (v.seen.sent, v.seen.got) (behind v);
  logs = logs_are v meets;
  members = members_are v meets;
  ended = ended_are v meets;
  still_open = open_are v meets;
  following = following_are v meets;
}

module _ (run : List Log) (lines : List Numbering) (list : List Gathered) (observed : List Observed) (pending : List Pending) (is_run : IsRun run) (orderly : IsOrderly run) (together : EndsTogether run) (certified : Certified run lines)
    (covered : AreCovered run list (length run)) (rise : AreRisingTo list (length list)) (are : AreObserved run lines list observed pending) where
  -- what was observed of a configuration that was gathered
  one_at : (k : ℕ) (g : Gathered) → slice_get list k ≡ Some g → (one : Observed) × (slice_get observed k ≡ Some one) × IsVerified run lines g one
  one_at k g at =
      let found = at_index observed k (let lt = slice_get_within list k g at in let long = are.long in omega (arith, lt, long)) in
      (found.0, found.1, are.each k g found.0 at found.1)

  all : AllSeen run lines list
  all = record { is_run = is_run; orderly = orderly; certified = certified; covered = covered; rise = rise; seen = λ k g at. (let here = one_at k g at in (here.0.traffic, here.2.seen)) }

  -- with 1.3 the run has passed A and B
  pub meets : MeetsPasses run
  meets = record {
    sent = unsent_met all;
    once = orderly.once;
    together = together;
    placed = orderly.placed;
    one = orderly.one;
    turns = orderly.turns;
  }

  all_traffic : AllAreTraffic run lines list
  all_traffic = record {
    each = λ k g traffic at seen. traffic_is run lines g traffic (verified all k g traffic at seen) meets;
  }

  traffic : AreTraffic run observed
  traffic = record { each = λ k one here. of k one here }
    where
      of : (k : ℕ) (one : Observed) → slice_get observed k ≡ Some one → IsTrafficOf run one.ring one.traffic
      of k one here =
          let g = at_index list k (let lt = slice_get_within observed k one here in let long = are.long in omega (arith, lt, long)) in
          let is = are.each k g.0 one g.1 here in
          subst (λ (d : RingId). IsTrafficOf run d one.traffic) (sym is.ring) (all_traffic.each k g.0 one.traffic g.1 is.seen)

  gathered : (c : RingId) → IsRing run c → (l : ℕ) × Gathers all l c
  gathered c ring =
      let log = has_log run ring.proc ring.index (Conf (Regular c) ring.change.0) ring.change.1 in
      (log.0, gathers all log.0 ring.proc ring.index c log.1 ring.change)

  covers : (c : RingId) → IsRing run c → Covers observed c
  covers c ring =
      let here = (gathered c ring).1 in
      let one = one_at here.at here.gathered here.stands in
      record { at = here.at; one = one.0; stands = one.1; ring = one.2.ring ∙ here.ring }

  holds_pending : HoldsPending run pending
  holds_pending = record { each = λ x. (λ has. from x ((are.exact all_traffic x).0 has), λ h. (are.exact all_traffic x).1 (to x h)) }
    where
      from : (x : Pending) → IsPendingFrom run list (length list) x → IsPending run x.proc x.msg
      from x h = record { ring = h.gathered.ring; sent = h.is.sent; still_open = h.is.still_open; missing = h.is.missing }

      to : (x : Pending) → IsPending run x.proc x.msg → IsPendingFrom run list (length list) x
      to x h =
          let here = (gathered h.ring (ring_of_send run h.sent.0 h.sent.1 h.ring x.msg meets h.sent.2)).1 in
          record {
            at = here.at;
            gathered = here.gathered;
            before = slice_get_within list here.at here.gathered here.stands;
            stands = here.stands;
            is = subst (λ (d : RingId). IsPendingIn run d x.proc x.msg) (sym here.ring) (record { sent = h.sent; still_open = h.still_open; missing = h.missing });
          }

  pub view : (ordered : List Pending) → IsInOrder pending ordered → IsView run observed ordered
  view ordered sorted = record { meets = meets; traffic = traffic; covers = covers; are = are_pending run pending ordered holds_pending sorted }

-- where the rules of each configuration are met, the run meets all specifications
module _ (run : List Log) (lines : List Numbering) (observed : List Observed) (pending : List Pending) (certified : Certified run lines) (is : IsView run observed pending) (agree : Agree observed) where
  agrees : (c : RingId) → IsRing run c → AgreesIn run c
  agrees c ring =
      let here = is.covers c ring in
      let one = here.one in
      let shows = agree.each here.at (slice_get_within observed here.at one here.stands) one here.stands in
      subst (λ (d : RingId). AgreesIn run d) here.ring (shows.met run one.ring is.meets (is.traffic.each here.at one here.stands))

  pub configurations : MeetsConfigurations run
  configurations = record {
    own = record { each = λ c ring. (agrees c ring).own };
    atomicity = record { each = λ c ring. (agrees c ring).atomicity };
    causality = record { each = λ c ring. (agrees c ring).causality };
    gap = record { each = λ c ring. (agrees c ring).gap };
    safety = record { each = λ c ring. (agrees c ring).safety };
    installed = record { each = λ c ring. (agrees c ring).installed };
  }

  pub settled : IsVirtuallySynchronous run
  settled = synchronous run lines is.meets certified configurations
