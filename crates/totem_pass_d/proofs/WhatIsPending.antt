-- What is pending: message by message, stay by stay and ring by ring.
use Rattle.totem_pass_d.proofs.Common.{◌≡◌, ◌↔◌, ℕ, ◌+◌, inl, inr, List, [], ◌∷◌, ◌++◌, Some, arith, ◌≤◌, length, Option, None, Bool, false, not, IsTrue, refl, Contains, IsPendingIn, IsPendingFor, OnTrue, OnFalse, IsSome, slice_get_within, slice_get_read, get_or_from_slice_get, RingId, Regular, MsgId, exact_message, Entry, Log, log_of, ChangesTo, HasDelivered, StaysIn, OpenIn, AreRings, GoesOn, IsExcused, IsStayOf, HasStay, AreStays}
use Rattle.totem_evs.specs.declared.pending.Pending.{Pending}
use Rattle.std.specs.BTreeMap as tree
use Rattle.std.proofs.lemmas.Map.Views.{btree_map_contains_key_iff}
use Rattle.totem_names.specs.contracts.message.MsgIdOrd.TheImpl as message
use Rattle.totem_names.specs.contracts.message.MsgIdOrd.TheImpl.Laws.{total-law}
use Rattle.totem_evs.specs.Unsettled.{IsPending}
use Rattle.totem_judge_run.specs.Endings.{HoldsPending, HasFailed}
use Rattle.totem_pass_d.specs.declared.stays.Stay.{Stay}
use Rattle.totem_pass_d.specs.declared.stays.Sending.{Sending}
use Rattle.totem_pass_d.specs.declared.stays.Stays.{Stays}
use Rattle.totem_pass_d.specs.KnownStays.{AreKnown}
use Rattle.totem_pass_d.proofs.EventFaults.{excused, not_excused}
use Rattle.totem_search.specs.Adding.{Adds}
use Rattle.totem_search.proofs.Adding.{AtSome, adds_alike, one_added}

-- ---- whether a process is open

pub excused_open : (run : List Log) (c : RingId) (stay : Stay) (b : Bool) → IsStayOf run c stay → IsExcused stay → OnTrue b (HasFailed stay.log.now) → OnFalse b (GoesOn stay.log.now) → IsTrue (not b) ↔ OpenIn run stay.proc c
excused_open run c stay b h k m o = grind (arith, excused)

pub not_excused_open : (run : List Log) (c : RingId) (stay : Stay) (b : Bool) → IsStayOf run c stay → b ≡ false → IsTrue b ↔ IsExcused stay → IsTrue b ↔ OpenIn run stay.proc c
not_excused_open run c stay b is is_false decides = (λ t. absurd cc, λ h. absurd (not_excused run c stay is (λ e. let t = decides.1 e in cc) (inr h)))

-- ---- message by message

-- x is this message, which p does not deliver in c
pub record IsMissed (run : List Log) (c : RingId) (p : ℕ) (m : MsgId) (x : Pending) : Type 0 where
  pub proc : x.proc ≡ p
  pub msg : x.msg ≡ m
  pub missing : HasDelivered (log_of run p) c m → ⊥

pub not_missed : (run : List Log) (c : RingId) (p : ℕ) (m : MsgId) (list : List Pending) → HasDelivered (log_of run p) c m → Adds (IsMissed run c p m) list list
not_missed run c p m list has = record { each = λ x. (λ here. inl here, λ h. elim h [ inl here ↦ here | inr missed ↦ absurd (missed.missing has) ]) }

pub one_missed : (run : List Log) (c : RingId) (p : ℕ) (m : MsgId) (list : List Pending) (k : Pending) → IsMissed run c p m k → Adds (IsMissed run c p m) list (list ++ k ∷ [])
one_missed run c p m list k missed = grind (arith, one_added)

-- of the messages sent in c, those that an open process misses are pending, and the converse
pub all_missing : (stays : Stays) (p n : ℕ) (old now : List Pending) → AreKnown stays → OpenIn stays.run.now.logs p stays.ring → length (tree.keys stays.sends) ≤ n
    → Adds (AtSome (IsMissed stays.run.now.logs stays.ring p) (tree.keys stays.sends) n) old now → Adds (IsPendingFor stays.run.now.logs stays.ring p) old now
all_missing stays p n old now known still_open end h =
    adds_alike (AtSome (IsMissed run c p) sent n) (IsPendingFor run c p) old now (λ x b. to x b (lookup b.item (b.at, slice_get_within sent b.at b.item b.stands, get_or_from_slice_get sent b.at b.item b.item b.stands)))
    (λ x m. from x m (tree.get message.cmp-value.it stays.sends x.msg) refl) h
  where
    run : List Log
    run = stays.run.now.logs

    c : RingId
    c = stays.ring

    sent : List MsgId
    sent = tree.keys stays.sends

    lookup : (m : MsgId) → Contains sent m → (s : Sending) × (tree.get message.cmp-value.it stays.sends m ≡ Some s)
    lookup m has = go (tree.get message.cmp-value.it stays.sends m) refl ((btree_map_contains_key_iff total-law exact_message stays.sends m).1 has)
      where
        go : (o : Option Sending) → tree.get message.cmp-value.it stays.sends m ≡ o → IsSome (tree.get message.cmp-value.it stays.sends m) → (s : Sending) × (tree.get message.cmp-value.it stays.sends m ≡ Some s)
        go (Some s) is some = (s, is)
        go None is some = absurd (let h = rw is at some in cc)

    to : (x : Pending) (b : AtSome (IsMissed run c p) sent n x) → (s : Sending) × (tree.get message.cmp-value.it stays.sends b.item ≡ Some s) → IsPendingFor run c p x
    to x b (s, is) =
        let missed = b.holds in
        record {
          is = record { sent = (s.proc, s.at, (s.service, rw missed.msg (known.sent.found b.item s is).sends)); still_open = rw missed.proc still_open; missing = rw (missed.proc, missed.msg) missed.missing };
          proc = missed.proc;
        }

    from : (x : Pending) → IsPendingFor run c p x → (o : Option Sending) → tree.get message.cmp-value.it stays.sends x.msg ≡ o → AtSome (IsMissed run c p) sent n x
    from x m None is = absurd ((known.sent.none x.msg is).never m.is.sent)
    from x m (Some s) is = listed ((btree_map_contains_key_iff total-law exact_message stays.sends x.msg).0 (rw is refl))
      where
        listed : Contains sent x.msg → AtSome (IsMissed run c p) sent n x
        listed has = grind (arith, slice_get_read, sent)

-- ---- stay by stay

-- a log that stays in c has changed to it
came_to : (log : List Entry) (c : RingId) → StaysIn log c → (i : ℕ) × ChangesTo log i (Regular c)
came_to log c (d, never, last, inl is) = (last.index, rw is at last.change)
came_to log c (d, never, last, inr follows) = (follows.from, follows.first.change)

-- what is pending for the process of a stay
abbrev pub IsPendingThere : List Log → RingId → Stay → Pending → Type 0
IsPendingThere run c stay x = IsPendingFor run c stay.proc x

pub all_stays : (run : List Log) (c : RingId) (stays : List Stay) (n : ℕ) (s t : List Pending) → AreStays run c stays → length stays ≤ n → Adds (AtSome (IsPendingThere run c) stays n) s t → Adds (IsPendingIn run c) s t
all_stays run c stays n s t are end h = adds_alike (AtSome (IsPendingThere run c) stays n) (IsPendingIn run c) s t (λ x b. b.holds.is) (λ x m. from x m) h
  where
    at_stay : (x : Pending) → IsPendingIn run c x → HasStay stays x.proc → AtSome (IsPendingThere run c) stays n x
    at_stay x m has = grind (arith, slice_get_within)

    from : (x : Pending) → IsPendingIn run c x → AtSome (IsPendingThere run c) stays n x
    from x m = (let came = came_to (log_of run x.proc) c m.still_open.1 in at_stay x m (are.whole x.proc came.0 came.1))

-- ---- ring by ring

pub all_rings : (run : List Log) (rings : List RingId) (n : ℕ) (s t : List Pending) → AreRings run rings → length rings ≤ n → ((x : Pending) → Contains s x → ⊥) → Adds (AtSome (IsPendingIn run) rings n) s t → HoldsPending run t
all_rings run rings n s t are end empty h = record { each = λ x. (λ has. elim ((h.each x).0 has) [ inl old ↦ absurd (empty x old) | inr b ↦ to x b.item b.holds ], λ p. (h.each x).1 (inr (from x p))) }
  where
    to : (x : Pending) (c : RingId) → IsPendingIn run c x → IsPending run x.proc x.msg
    to x c m = record { ring = c; sent = m.sent; still_open = m.still_open; missing = m.missing }

    at_ring : (x : Pending) → (p : IsPending run x.proc x.msg) → Contains rings p.ring → AtSome (IsPendingIn run) rings n x
    at_ring x p has = grind (arith, slice_get_read)

    from : (x : Pending) → IsPending run x.proc x.msg → AtSome (IsPendingIn run) rings n x
    from x p = (let came = came_to (log_of run x.proc) p.ring p.still_open.1 in at_ring x p ((are.exact p.ring).1 (record { proc = x.proc; index = came.0; change = came.1 })))
