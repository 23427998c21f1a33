-- What breaks 3, 7.1 and 7.2 in one regular configuration, event by event, and which processes the end of their stay excuses.
use Rattle.totem_pass_d.proofs.Common.{◌≡◌, ◌⊎◌, inl, inr, List, length, Bool, true, false, refl, arith, ℕ, ◌<◌, ◌≤◌, get_or, slice_get, Some, not, IsTrue, ◌↔◌, sym, All, RingId, Log, IsQuiet, log_of, ChangesTo, Delivers, FailedIn, StaysIn, OpenIn, Com, DeliversIn, HasDelivered, DeliversOrEnds, before_or_at, IsExcused, IsStayOf, MatchBool, OnTrue, OnFalse, ConfId, Regular, MsgId, Service, Entry, Send, Deliver, Fail, Names, IsNotOwned, IsNotReached, IsNotInstalled, MeetsPasses, HasCome, NeverComes, DeliversNot, IsInside, IsBrokenAlone, IsSafeIn, AreMembersAt, HoldsNotOfAll, both_or_not}
use Rattle.totem_pass_d.specs.declared.stays.Stay.{Stay}
use Rattle.std.specs.List.{AllWithin, HoldsAt}
use Rattle.std.proofs.lemmas.Bool.{cases_eq}
use Rattle.std.proofs.lemmas.Grind.{get_or_default_zero}
use Rattle.std.proofs.lemmas.List.Elements.{All-from_all_within, All-contains}
use Rattle.totem_evs.specs.declared.spec.SpecNo.TheVariants as spec
use Rattle.totem_search.proofs.Deciding.{changes_or_not, has_delivered_or_not}
use Rattle.totem_pass_d.proofs.Facts.{Facts, StayFacts, at_turn_no_name}
use Rattle.totem_pass_d.proofs.Reaching.{is_among_members, is_member, safe_in}

pub excused : (run : List Log) (c : RingId) (stay : Stay) → IsStayOf run c stay → IsExcused stay → FailedIn (log_of run stay.proc) c ⊎ OpenIn run stay.proc c
excused run c stay is e = go (rw is.log at (is.is.ends e.0))
  where
    loud : IsQuiet run stay.proc → ⊥
    loud quiet = let told = is.quiet.1 quiet in let other = e.1 in cc

    go : FailedIn (log_of run stay.proc) c ⊎ StaysIn (log_of run stay.proc) c → FailedIn (log_of run stay.proc) c ⊎ OpenIn run stay.proc c
    go (inl failed) = inl failed
    go (inr stays) = inr (loud, stays)

pub not_excused : (run : List Log) (c : RingId) (stay : Stay) → IsStayOf run c stay → (IsExcused stay → ⊥) → FailedIn (log_of run stay.proc) c ⊎ OpenIn run stay.proc c → ⊥
not_excused run c stay is never ends = grind (arith, before_or_at)

-- ---- the events

-- a process that has changed to c, is not excused and has not delivered m has missed it
pub missed : (run : List Log) (c : RingId) (stay : Stay) (m : MsgId) → IsStayOf run c stay → (IsExcused stay → ⊥) → DeliversNot (log_of run stay.proc) c m → DeliversOrEnds run stay.proc c m → ⊥
missed run c stay m is other not (inl delivered) = not.never delivered
missed run c stay m is other not (inr ends) = not_excused run c stay is other ends

-- one that is not excused delivers m or has missed it
pub reached : (run : List Log) (c : RingId) (stay : Stay) (m : MsgId) (b : Bool) → IsStayOf run c stay → (IsExcused stay → ⊥) → OnTrue b (HasDelivered (log_of run stay.proc) c m) → OnFalse b (DeliversNot (log_of run stay.proc) c m)
    → IsTrue b ↔ DeliversOrEnds run stay.proc c m
reached run c stay m true is other there never = (λ t. inl there, λ h. refl)
reached run c stay m false is other there never = (λ t. absurd cc, λ h. absurd (missed run c stay m is other never h))

-- so has a process that never changed to c
pub absent : (run : List Log) (c : RingId) (q : ℕ) (m : MsgId) → MeetsPasses run → NeverComes run c q → DeliversOrEnds run q c m → ⊥
absent run c q m meets never h = go h
  where
    inside : (i : ℕ) (d : ConfId) → Names (log_of run q) i d → Com (log_of run q) c d → ⊥
    inside i d names (inl same) = let s = (meets.placed q).named i d names in never.never s.from (to_c s.from d s.change same)
      where
        to_c : (k : ℕ) (d : ConfId) → ChangesTo (log_of run q) k d → d ≡ Regular c → ChangesTo (log_of run q) k (Regular c)
        to_c k d (ms, h) same = (ms, rw same at h)
    inside i d names (inr f) = never.never f.from f.first.change

    go : DeliversOrEnds run q c m → ⊥
    go (inl (i, (d, at, com_d))) = inside i d (Deliver m d, at, refl) com_d
    go (inr (inl (i, d, at, com_d))) = inside i d (Fail d, at, refl) com_d
    go (inr (inr (loud, (d, fails, last, inl same)))) = never.never last.index (last.change.0, rw same at last.change.1)
    go (inr (inr (loud, (d, fails, last, inr f)))) = never.never f.from f.first.change

excused_or_not : (stay : Stay) → IsExcused stay ⊎ (IsExcused stay → ⊥)
excused_or_not stay = grind (arith, both_or_not, cases_eq)

-- a process delivers m or is excused, or it does not and is not
delivers_or_ends_or_not : (run : List Log) (c : RingId) (stays : List Stay) → Facts run c stays → (p : ℕ) (m : MsgId) → DeliversOrEnds run p c m ⊎ (DeliversOrEnds run p c m → ⊥)
delivers_or_ends_or_not run c stays facts p m = elim (changes_or_not (log_of run p) (Regular c)) [
  | inl (i, change) ↦ (let has = facts.whole p i change in rw has.proc at (of_stay has.stay (facts.each has.stay (record { at = has.at; stands = has.stands }))))
  | inr none ↦ inr (absent run c p m facts.meets (record { never = none }))
]
  where
    of_stay : (stay : Stay) → StayFacts run c stay → DeliversOrEnds run stay.proc c m ⊎ (DeliversOrEnds run stay.proc c m → ⊥)
    of_stay stay is = elim (excused_or_not stay) [
      | inl e ↦ inl (inr (excused run c stay is.of e))
      | inr other ↦ elim (has_delivered_or_not (log_of run stay.proc) c m) [
        | inl has ↦ inl (inl has)
        | inr never ↦ inr (missed run c stay m is.of other (record { never = never }))
      ]
    ]

-- what a test of all members says
pub all_or_not_all : (b : Bool) (P : ℕ → Type 0) (members : List ℕ) → MatchBool b (AllWithin P members 0 (length members)) ((k : ℕ) × (k < length members) × HoldsAt (λ q. P q → ⊥) members k)
    → OnTrue b (All P members) × OnFalse b (HoldsNotOfAll P members)
all_or_not_all true P members h = (All-from_all_within P members h, tt)
all_or_not_all false P members (k, lt, not) = (tt, record { member = get_or members k 0; among = (k, lt, get_or_default_zero members k _ lt); never = not 0 })

-- what is broken if the property does not hold for some member
pub where_not : (b : Bool) (P Q : Type 0) → OnFalse b Q → (Q → P) → OnTrue (not b) P
where_not true P Q h f = tt
where_not false P Q h f = f h

pub where_all : (b : Bool) (P Q : Type 0) → OnTrue b Q → (Q → P) → OnFalse (not b) P
where_all true P Q h f = f h
where_all false P Q h f = tt

same_delivery : (log : List Entry) (i : ℕ) (m n : MsgId) (x y : ConfId) → slice_get log i ≡ Some (Deliver m x) → slice_get log i ≡ Some (Deliver n y) → (n ≡ m) × (y ≡ x)
same_delivery log i m n x y at here = let entries : Some (Deliver n y) ≡ Some (Deliver m x) = cc in (cc, cc)

-- 3
pub owned_alone : (run : List Log) (c : RingId) (stays : List Stay) → Facts run c stays → IsBrokenAlone run c stays spec.OwnDelivery (IsNotOwned run c)
owned_alone run c stays facts = record {
  of = record { empty = λ h. h; one = λ e h. h; is = λ e h. h; many = λ e f more h. h };
  inside = record { each = λ p i (m, (v, at), never). facts.inside p i (Regular c) (Send m (Regular c) v, at, refl) (inl refl) };
  met = λ none. record {
    each = λ p i m sends. elim (delivers_or_ends_or_not run c stays facts p m) [ inl ends ↦ ends | inr never ↦ absurd (none p i (m, sends, never)) ];
  };
}

pub owned_no_send : (run : List Log) (c : RingId) (p i : ℕ) (e : Entry) → slice_get (log_of run p) i ≡ Some e → ((m : MsgId) (x : ConfId) (v : Service) → e ≡ Send m x v → ⊥) → IsNotOwned run c p i → ⊥
owned_no_send run c p i e at other (m, (v, sends), never) = other m (Regular c) v cc

pub owned_excused : (run : List Log) (c : RingId) (stay : Stay) (i : ℕ) → StayFacts run c stay → IsExcused stay → IsNotOwned run c stay.proc i → ⊥
owned_excused run c stay i is e (m, sends, never) = never (inr (excused run c stay is.of e))

pub owned_delivered : (run : List Log) (c : RingId) (stay : Stay) (i k : ℕ) (m : MsgId) (x : ConfId) (v : Service) → slice_get (log_of run stay.proc) i ≡ Some (Send m x v) → DeliversIn (log_of run stay.proc) c m k → IsNotOwned run c stay.proc i → ⊥
owned_delivered run c stay i k m x v h o p = grind arith

pub owned_never : (run : List Log) (c : RingId) (stay : Stay) (i : ℕ) (m : MsgId) (x : ConfId) (v : Service) → StayFacts run c stay → IsInside stay i → slice_get (log_of run stay.proc) i ≡ Some (Send m x v)
    → (IsExcused stay → ⊥) → DeliversNot (log_of run stay.proc) c m → IsNotOwned run c stay.proc i
owned_never run c stay i m x v is inside at other not =
    let regular : x ≡ Regular c = (is.sends i m x inside (v, at)).0 in
    (m, (v, rw regular at at), missed run c stay m is.of other not)

-- 7.2
pub installed_alone : (run : List Log) (c : RingId) (stays : List Stay) → Facts run c stays → IsBrokenAlone run c stays spec.Installed (IsNotInstalled run c)
installed_alone run c stays facts = record {
  of = record { empty = λ h. h; one = λ e h. h; is = λ e h. h; many = λ e f more h. h };
  inside = record { each = λ p i (m, q, safe, at, member, never). facts.inside p i (Regular c) (Deliver m (Regular c), at, refl) (inl refl) };
  met = λ none. record {
    each = λ m p i q safe at member. elim (changes_or_not (log_of run q) (Regular c)) [ inl there ↦ there | inr never ↦ absurd (none p i (m, q, safe, at, member, never)) ];
  };
}

pub installed_no_delivery : (run : List Log) (c : RingId) (p i : ℕ) (e : Entry) → slice_get (log_of run p) i ≡ Some e → ((m : MsgId) (x : ConfId) → e ≡ Deliver m x → ⊥) → IsNotInstalled run c p i → ⊥
installed_no_delivery run c p i e at other (m, q, safe, delivers, member, never) = other m (Regular c) cc

pub installed_late : (run : List Log) (c : RingId) (stay : Stay) (i : ℕ) → StayFacts run c stay → stay.turn ≤ i → i < stay.end → IsNotInstalled run c stay.proc i → ⊥
installed_late run c stay i is late below (m, q, safe, delivers, member, never) = elim (before_or_at stay.turn i (omega arith)) [
  | inl over ↦ (is.is.following i (Regular c) over below (Deliver m (Regular c), delivers, refl)).transitional
  | inr same ↦ at_turn_no_name (log_of run stay.proc) c stay.from stay.turn stay.end i (Regular c) is.is (omega arith) (sym same) (Deliver m (Regular c), delivers, refl)
]

pub installed_unsafe : (run : List Log) (c : RingId) (p i : ℕ) (m : MsgId) (x : ConfId) → MeetsPasses run → slice_get (log_of run p) i ≡ Some (Deliver m x) → (IsSafeIn run c m → ⊥) → IsNotInstalled run c p i → ⊥
installed_unsafe run c p i m x meets at unsafe (n, q, safe, delivers, member, never) =
    let same = same_delivery (log_of run p) i m n x (Regular c) at delivers in
    unsafe (rw same.0 at (safe_in run c p i n (Regular c) meets safe delivers (inl refl)))

pub installed_everywhere : (run : List Log) (c : RingId) (stay : Stay) (i : ℕ) (members : List ℕ) → MeetsPasses run → AreMembersAt (log_of run stay.proc) i members → All (HasCome run c) members → IsNotInstalled run c stay.proc i → ⊥
installed_everywhere run c stay i members meets are all (n, q, safe, delivers, member, never) =
    let come = All-contains (HasCome run c) members q all (is_among_members run stay.proc i members (Regular c) q meets are (Deliver n (Regular c), delivers, refl) member) in
    never come.0 come.1

pub installed_not : (run : List Log) (c : RingId) (stay : Stay) (i : ℕ) (m : MsgId) (x : ConfId) (members : List ℕ) → StayFacts run c stay → stay.from < i → i < stay.turn → slice_get (log_of run stay.proc) i ≡ Some (Deliver m x)
    → IsSafeIn run c m → AreMembersAt (log_of run stay.proc) i members → HoldsNotOfAll (HasCome run c) members → IsNotInstalled run c stay.proc i
installed_not run c stay i m x members is lt below at safe are not_all =
    let regular : x ≡ Regular c = is.is.regular i x lt below (Deliver m x, at, refl) in
    let delivers : Delivers (log_of run stay.proc) i m (Regular c) = rw regular at at in
    (m, not_all.member, (safe.proc, safe.index, Regular c, safe.sends), delivers, is_member run stay.proc i members (Regular c) not_all.member are (Deliver m (Regular c), delivers, refl) not_all.among, λ j change. not_all.never (j, change))

-- 7.1
pub safety_alone : (run : List Log) (c : RingId) (stays : List Stay) → Facts run c stays → IsBrokenAlone run c stays spec.Safety (IsNotReached run c)
safety_alone run c stays facts = record {
  of = record { empty = λ h. h; one = λ e h. h; is = λ e h. h; many = λ e f more h. h };
  inside = record { each = λ p i (m, d, q, safe, at, inside, member, never). facts.inside p i d (Deliver m d, at, refl) inside };
  met = λ none. record {
    each = λ m p i d q safe at inside member. elim (delivers_or_ends_or_not run c stays facts q m) [ inl ends ↦ ends | inr never ↦ absurd (none p i (m, d, q, safe, at, inside, member, never)) ];
  };
}

pub safety_no_delivery : (run : List Log) (c : RingId) (p i : ℕ) (e : Entry) → slice_get (log_of run p) i ≡ Some e → ((m : MsgId) (x : ConfId) → e ≡ Deliver m x → ⊥) → IsNotReached run c p i → ⊥
safety_no_delivery run c p i e at other (m, d, q, safe, delivers, inside, member, never) = other m d cc

pub safety_unsafe : (run : List Log) (c : RingId) (p i : ℕ) (m : MsgId) (x : ConfId) → MeetsPasses run → slice_get (log_of run p) i ≡ Some (Deliver m x) → (IsSafeIn run c m → ⊥) → IsNotReached run c p i → ⊥
safety_unsafe run c p i m x meets at unsafe (n, d, q, safe, delivers, inside, member, never) =
    let same = same_delivery (log_of run p) i m n x d at delivers in
    unsafe (rw same.0 at (safe_in run c p i n d meets safe delivers inside))

pub safety_everywhere : (run : List Log) (c : RingId) (stay : Stay) (i : ℕ) (m : MsgId) (x : ConfId) (members : List ℕ) → MeetsPasses run → slice_get (log_of run stay.proc) i ≡ Some (Deliver m x) → AreMembersAt (log_of run stay.proc) i members
    → All (λ q. DeliversOrEnds run q c m) members → IsNotReached run c stay.proc i → ⊥
safety_everywhere run c stay i m x members meets at are all (n, d, q, safe, delivers, inside, member, never) =
    let same = same_delivery (log_of run stay.proc) i m n x d at delivers in
    never (rw same.0 (All-contains (λ r. DeliversOrEnds run r c m) members q all (is_among_members run stay.proc i members d q meets are (Deliver n d, delivers, refl) member)))

pub safety_not : (run : List Log) (c : RingId) (stay : Stay) (i : ℕ) (m : MsgId) (x : ConfId) (members : List ℕ) → StayFacts run c stay → IsInside stay i → slice_get (log_of run stay.proc) i ≡ Some (Deliver m x)
    → IsSafeIn run c m → AreMembersAt (log_of run stay.proc) i members → HoldsNotOfAll (λ q. DeliversOrEnds run q c m) members → IsNotReached run c stay.proc i
safety_not run c stay i m x members is inside at safe are not_all =
    let belongs = is.stands i x inside (Deliver m x, at, refl) in
    (m, x, not_all.member, (safe.proc, safe.index, Regular c, safe.sends), at, belongs, is_member run stay.proc i members x not_all.member are (Deliver m x, at, refl) not_all.among, not_all.never)
