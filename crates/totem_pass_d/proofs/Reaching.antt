-- Safe messages, the members of the configuration in which a message is delivered, and the members that it reaches.
use Rattle.totem_pass_d.proofs.Common.{◌≡◌, ℕ, ◌<◌, ◌≤◌, inl, inr, List, slice_get, Some, Bool, true, false, IsTrue, ◌↔◌, refl, arith, Contains, RingId, ConfId, Regular, MsgId, Safe, Entry, Conf, Send, Log, members_of, ChangesTo, Delivers, IsMember, IsSafe, IsTransitional, log_of, Names, Follows, Com, MeetsPasses, less_or_not, before_or_at, same_first, one_next, names_no_change, same_change, IsStay, IsSendingOf, IsSafeIn, AreMembersAt}
use Rattle.totem_pass_d.specs.declared.stays.Sending.{Sending}

-- a message sent for another service is not safe
pub not_safe : (run : List Log) (c : RingId) (m : MsgId) (s : Sending) → MeetsPasses run → IsSendingOf run c m s → (s.service ≡ Safe → ⊥) → IsSafeIn run c m → ⊥
not_safe run c m s met sending other safe =
    let one = met.once.one_send safe.proc safe.index s.proc s.at m (Regular c) (Regular c) (Safe, safe.sends) (s.service, sending.sends) in
    let there : slice_get (log_of run s.proc) s.at ≡ Some (Send m (Regular c) Safe) = rw (one.0, one.1) at safe.sends in
    let here = sending.sends in
    other (let same : Some (Send m (Regular c) s.service) ≡ Some (Send m (Regular c) Safe) = cc in cc)

pub safe_or_not : (run : List Log) (c : RingId) (m : MsgId) (s : Sending) (b : Bool) → MeetsPasses run → IsSendingOf run c m s → IsTrue b ↔ (s.service ≡ Safe) → IsTrue b ↔ IsSafeIn run c m
safe_or_not run c m s b met sending decides = (
  λ t. record { proc = s.proc; index = s.at; sends = rw (decides.0 t) at sending.sends },
  λ safe. back b safe decides,
)
  where
    back : (b : Bool) → IsSafeIn run c m → IsTrue b ↔ (s.service ≡ Safe) → IsTrue b
    back true safe decides = refl
    back false safe decides = absurd (not_safe run c m s met sending (λ e. let t = decides.1 e in cc) safe)

-- the members of the change before an entry are those of the configuration that the entry names
pub members_before : (log : List Entry) (c : RingId) (from turn end i k : ℕ) (e : Entry) → IsStay log c from turn end → from < i → i < turn → k ≡ from → slice_get log k ≡ Some e → AreMembersAt log i (members_of e)
members_before log c from turn end i k e is lt below first at =
    let ms = is.change.0 in
    let same : e ≡ Conf (Regular c) ms = (let h = is.change.1 in let there : slice_get log from ≡ Some e = rw first at at in cc) in
    record { change = from; conf = Regular c; with = rw same is.change.1; named = λ d names. is.regular i d lt below names }

-- at most one configuration follows c in a log
one_follows : (log : List Entry) (c : RingId) (d e : ConfId) → Follows log c d → Follows log c e → d ≡ e
one_follows log c d e f g =
    let from = same_first log (Regular c) f.from g.from f.first g.first in
    let to = one_next log g.from f.to g.to (rw from at f.next) g.next in same_change log f.to g.to d e to f.change g.change

pub members_after : (log : List Entry) (c : RingId) (from turn end i k : ℕ) (e : Entry) → IsStay log c from turn end → turn ≤ i → i < end → k ≡ turn → slice_get log k ≡ Some e → AreMembersAt log i (members_of e)
members_after log c from turn end i k e is le below first at =
    let t = is.turns (omega arith) in
    let ms = t.change.0 in
    let same : e ≡ Conf t.conf ms = (let h = t.change.1 in let there : slice_get log turn ≡ Some e = rw first at at in cc) in
    record { change = turn; conf = t.conf; with = rw same t.change.1; named = λ d names. named t.conf t.change t.follows d names }
  where
    named : (x : ConfId) → ChangesTo log turn x → Follows log c x → (d : ConfId) → Names log i d → d ≡ x
    named x change f d names = elim (before_or_at turn i (omega arith)) [
      | inl over ↦ one_follows log c d x (is.following i d over below names) f
      | inr same ↦ absurd (names_no_change log i d names (x, rw same at change))
    ]

-- members of the configuration that an entry names are those of the change before it
pub is_among_members : (run : List Log) (p i : ℕ) (members : List ℕ) (d : ConfId) (q : ℕ) → MeetsPasses run → AreMembersAt (log_of run p) i members → Names (log_of run p) i d → IsMember run d q → Contains members q
is_among_members run p i members d q meets are names (r, j, ns, changes, here) =
    let conf : d ≡ are.conf = are.named d names in
    let same : ns ≡ members = meets.one.members r j p are.change are.conf ns members (rw conf at changes) are.with in
    rw same at here

pub is_member : (run : List Log) (p i : ℕ) (members : List ℕ) (d : ConfId) (q : ℕ) → AreMembersAt (log_of run p) i members → Names (log_of run p) i d → Contains members q → IsMember run d q
is_member run p i members d q are names here =
    let conf : d ≡ are.conf = are.named d names in
    (p, are.change, members, rw conf are.with, here)

-- a safe message that is delivered in c, or in what follows it, was sent in c
pub one_origin : (log : List Entry) (b c : RingId) (d : ConfId) → ((i j : ℕ) (x : ConfId) → ChangesTo log i x → ChangesTo log j x → i ≡ j) → Com log b d → Com log c d → b ≡ c
one_origin log b c d once (inl x) (inl y) = (let same : Regular b ≡ Regular c = cc in cc)
one_origin log b c d once (inl x) (inr g) = absurd (let t : IsTransitional (Regular b) = rw x at g.transitional in t)
one_origin log b c d once (inr f) (inl y) = absurd (let t : IsTransitional (Regular c) = rw y at f.transitional in t)
one_origin log b c d once (inr f) (inr g) =
    let to : f.to ≡ g.to = once f.to g.to d f.change g.change in
    let from : f.from ≡ g.from = (elim (less_or_not f.from g.from) [
      | inl lt ↦ absurd (f.next.none_between g.from lt (omega (arith, g.next.later, to)) (Regular c, g.first.change))
      | inr (inl gt) ↦ absurd (g.next.none_between f.from gt (omega (arith, f.next.later, to)) (Regular b, f.first.change))
      | inr (inr same) ↦ same
    ]) in
    let same : Regular b ≡ Regular c = same_change log f.from g.from (Regular b) (Regular c) from f.first.change g.first.change in cc

pub safe_in : (run : List Log) (c : RingId) (p i : ℕ) (m : MsgId) (d : ConfId) → MeetsPasses run → IsSafe run m → Delivers (log_of run p) i m d → Com (log_of run p) c d → IsSafeIn run c m
safe_in run c p i m d meets (q, j, x, sends) delivers inside =
    let (b, (r, k, (v, at)), com_b) = meets.sent p i m d delivers in
    let same : b ≡ c = one_origin (log_of run p) b c d (meets.one.once p) com_b inside in
    let one = meets.once.one_send q j r k m x (Regular b) (Safe, sends) (v, at) in
    let there : slice_get (log_of run r) k ≡ Some (Send m x Safe) = rw (one.0, one.1) at sends in
    let conf : x ≡ Regular c = (let entries : Some (Send m x Safe) ≡ Some (Send m (Regular b) v) = cc in let regular : x ≡ Regular b = cc in cc) in
    record { proc = r; index = k; sends = rw conf at there }
