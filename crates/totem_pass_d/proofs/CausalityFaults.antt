-- The list found for 5 is the least that breaks it: a cause, its effect, and a delivery of the effect without the cause
-- before it. Only suspects have to be searched as causes: they are found by walks back along the logs.
use Rattle.totem_pass_d.proofs.Common.{◌≡◌, ℕ, ◌<◌, ◌≤◌, inl, inr, List, [], ◌∷◌, slice_get, Some, Bool, false, IsTrue, ◌↔◌, refl, sym, arith, nat_lt, ◌⊎◌, zero, suc, ◌+◌, length, true, RingId, ConfId, Regular, MsgId, Service, Place, Entry, Send, Deliver, Log, log_of, entry_at, at_place, Delivers, SendsAt, DeliversIn, IsNotDeliveredFirst, IsHop, BreaksCausalityIn, place, NoneFrom, IsOneEvent, Starts, IsAmong, DeliversNot, IsInside, EachBeginsWithin, NoneWithin, IsLeastWithin, BeginsWithin, OnTrue, OnFalse, Ordering, slice_get_within, Names, before_or_at, Handles, ComesBefore, ComesNotBefore, IsEarlier, IsSuspect, HasAllOf, IsNoted, AreNotedFrom, AreNoted, AreSuspects}
use Rattle.totem_pass_d.specs.declared.stays.Stay.{Stay}
use Rattle.totem_pass_d.proofs.Facts.{Facts, delivery_inside}
use Rattle.totem_pass_d.proofs.Searching.{no_event, only_event, begins_inside, begins_at}
use Rattle.totem_search.specs.Causes.{IsEffect}
use Rattle.totem_search.proofs.Causing.{sends_there, there_sends, index_of}
use Rattle.std.specs.BTreeSet.{BTreeSet}
use Rattle.std.specs.BTreeSet as sorted
use Rattle.std.proofs.lemmas.Grind.{not_there}

-- one delivery of a message in c and in what follows it
pub one_delivery_in : (run : List Log) (c : RingId) (stays : List Stay) (p i j : ℕ) (m : MsgId) → Facts run c stays → DeliversIn (log_of run p) c m i → DeliversIn (log_of run p) c m j → i ≡ j
one_delivery_in run c stays p i j m facts (x, at_i, _) (y, at_j, _) = facts.meets.once.one_delivery p i j m x y at_i at_j

pub none_undelivered : (run : List Log) (c : RingId) (stay : Stay) (m n : MsgId) → DeliversNot (log_of run stay.proc) c n → NoneWithin IsInside (IsOneEvent (IsNotDeliveredFirst run c m n)) stay
none_undelivered run c stay m n never = no_event IsInside (IsNotDeliveredFirst run c m n) stay (λ i (delivers, none). never.never (i, delivers))

pub none_caused : (run : List Log) (c : RingId) (stays : List Stay) (stay : Stay) (m n : MsgId) (k : ℕ) → Facts run c stays → DeliversIn (log_of run stay.proc) c n k → ComesBefore run c stay.proc m k
    → NoneWithin IsInside (IsOneEvent (IsNotDeliveredFirst run c m n)) stay
none_caused run c stays stay m n k facts effect before =
    no_event IsInside (IsNotDeliveredFirst run c m n) stay (λ i (delivers, none). none before.index (rw (one_delivery_in run c stays stay.proc i k n facts delivers effect) before.before) before.delivers)

pub uncaused_here : (run : List Log) (c : RingId) (stays : List Stay) (stay : Stay) (m n : MsgId) (k : ℕ) (places : List Place) → Facts run c stays → DeliversIn (log_of run stay.proc) c n k
    → ((l : ℕ) → l < k → DeliversIn (log_of run stay.proc) c m l → ⊥) → places ≡ place stay.proc k ∷ [] → IsLeastWithin IsInside (IsOneEvent (IsNotDeliveredFirst run c m n)) stay places
uncaused_here run c stays stay m n k places facts delivers none is =
    only_event IsInside (IsNotDeliveredFirst run c m n) stay k places (delivers, none) (λ i h. one_delivery_in run c stays stay.proc i k n facts h.0 delivers) is

not_before : (run : List Log) (c : RingId) (stays : List Stay) (stay : Stay) (m : MsgId) (k l : ℕ) → Facts run c stays → DeliversIn (log_of run stay.proc) c m l → k ≤ l
    → (i : ℕ) → i < k → DeliversIn (log_of run stay.proc) c m i → ⊥
not_before run c stays stay m k l facts cause le i lt delivers = let same = one_delivery_in run c stays stay.proc i l m facts delivers cause in omega arith

pub not_first_begin : (run : List Log) (c : RingId) (stays : List Stay) (m n : MsgId) → Facts run c stays → EachBeginsWithin stays IsInside (IsOneEvent (IsNotDeliveredFirst run c m n))
not_first_begin run c stays m n facts = begins_inside (IsNotDeliveredFirst run c m n) stays (record { each = λ p k ((x, at, belongs), none). facts.inside p k x (Deliver n x, at, refl) belongs })

pub hop_decided : (run : List Log) (c : RingId) (stays : List Stay) (stay : Stay) (m : MsgId) (p i j : ℕ) (b : Bool) → ((stay.proc ≡ p) × (i < j) → ⊥) → Facts run c stays → IsAmong stays stay → j < stay.turn
    → OnTrue b (ComesBefore run c stay.proc m j) → OnFalse b (ComesNotBefore run c stay.proc m j) → IsTrue b ↔ IsHop run c m (place p i) (place stay.proc j)
hop_decided run c stays stay m p i j true apart facts among inside there never = (λ t. let h : ComesBefore run c stay.proc m j = there in to h h.delivers, λ h. refl)
  where
    to : (h : ComesBefore run c stay.proc m j) → DeliversIn (log_of run stay.proc) c m h.index → IsHop run c m (place p i) (place stay.proc j)
    to h (d, at, belongs) =
        let of = facts.each stay among in
        let here = of.is.here h.index d (Deliver m d, at, refl) belongs in
        inr (j, refl, (h.index, h.before, rw (of.is.regular h.index d here.0 (omega (arith, h.before)) (Deliver m d, at, refl)) at at))
hop_decided run c stays stay m p i j false apart facts among inside there never = (λ t. absurd cc, λ h. absurd (from h))
  where
    from : IsHop run c m (place p i) (place stay.proc j) → ⊥
    from (inl (same, lt)) = apart (sym same, omega arith)
    from (inr (k, is, (l, lt, at))) = never l (omega arith) (Regular c, at, inl refl)

-- a message that is sent inside a stay is sent in c
pub send_here : (run : List Log) (c : RingId) (stays : List Stay) (stay : Stay) (i : ℕ) (m : MsgId) (x : ConfId) (s : Service) → Facts run c stays → IsAmong stays stay → IsInside stay i → slice_get (log_of run stay.proc) i ≡ Some (Send m x s)
    → (x ≡ Regular c) × (i < stay.turn)
send_here run c stays stay i m x s facts among inside at = (facts.each stay among).sends i m x inside (s, at)

-- the effects of what is sent at a place
effect_at : (run : List Log) (c : RingId) (m n : MsgId) (x : ConfId) (s : Service) (e : Place) (q j : ℕ) (rest : List Place) → slice_get (log_of run q) j ≡ Some (Send n x s) → IsEffect run c m e (place q j ∷ rest) → IsOneEvent (IsNotDeliveredFirst run c m n) rest
effect_at run c m n x s e q j rest h k = grind (arith, sends_there)

pub effect_starts : (run : List Log) (c : RingId) (m n : MsgId) (x : ConfId) (s : Service) (e : Place) (q j : ℕ) → slice_get (log_of run q) j ≡ Some (Send n x s) → x ≡ Regular c → IsHop run c m e (place q j)
    → Starts (IsOneEvent (IsNotDeliveredFirst run c m n)) (IsEffect run c m e) q j
effect_starts run c m n x s e q j at is hop = grind (arith, there_sends, effect_at)

pub effects_begin : (run : List Log) (c : RingId) (stays : List Stay) (m : MsgId) (e : Place) → Facts run c stays → EachBeginsWithin stays IsInside (IsEffect run c m e)
effects_begin run c stays m e facts = record { each = λ places h. go places h }
  where
    go : (places : List Place) → IsEffect run c m e places → BeginsWithin stays IsInside places
    go [] h = absurd h
    go (f ∷ rest) (n, (s, at), hop, one) = let there = index_of run f (Send n (Regular c) s) at in begins_at run c stays f there.0 (Regular c) rest facts there.1 (Send n (Regular c) s, there.2, refl) (inl refl)

-- the causes
sent_first : (run : List Log) (c : RingId) (e : Place) (rest : List Place) → BreaksCausalityIn run c (e ∷ rest) → (m : MsgId) × SendsAt run e m (Regular c)
sent_first run c e (f ∷ g ∷ []) (k, is, (m, n, send, effect, hop, wrong)) = (m, send)
sent_first run c e rest h = absurd h

pub causes_begin : (run : List Log) (c : RingId) (stays : List Stay) → Facts run c stays → EachBeginsWithin stays IsInside (BreaksCausalityIn run c)
causes_begin run c stays facts = record { each = λ places h. go places h }
  where
    go : (places : List Place) → BreaksCausalityIn run c places → BeginsWithin stays IsInside places
    go [] h = absurd h
    go (e ∷ rest) h =
        let first = sent_first run c e rest h in
        let there = index_of run e (Send first.0 (Regular c) first.1.0) first.1.1 in
        begins_at run c stays e there.0 (Regular c) rest facts there.1 (Send first.0 (Regular c) first.1.0, there.2, refl) (inl refl)

-- ---- suspects

-- ---- one entry

handles_one : (e : Entry) (m n : MsgId) → Handles e m → Handles e n → m ≡ n
handles_one e m n h k = grind arith

pub undelivered : (run : List Log) (c : RingId) (stay : Stay) (e : Entry) (m : MsgId) (y : ConfId) (v : Service) (early : ℕ) → e ≡ Send m y v → DeliversNot (log_of run stay.proc) c m → IsEarlier run c stay.proc e early early
undelivered run c stay e m y v early sends not = grind arith

pub delivered_at : (run : List Log) (c : RingId) (stays : List Stay) (stay : Stay) (e : Entry) (m : MsgId) (y : ConfId) (v : Service) (at old new : ℕ) → Facts run c stays → e ≡ Send m y v → DeliversIn (log_of run stay.proc) c m at → new ≤ old → new ≤ at
    → IsEarlier run c stay.proc e old new
delivered_at run c stays stay e m y v at old new of sends here no_later le = grind (arith, one_delivery_in)

pub comes_if_before : (run : List Log) (c : RingId) (stay : Stay) (m : MsgId) (at k : ℕ) → DeliversIn (log_of run stay.proc) c m at → OnTrue (nat_lt at k) (ComesBefore run c stay.proc m k)
comes_if_before run c stay m at k here = grind arith

pub comes_late : (run : List Log) (c : RingId) (stays : List Stay) (stay : Stay) (m : MsgId) (at k : ℕ) → Facts run c stays → DeliversIn (log_of run stay.proc) c m at → OnFalse (nat_lt at k) (ComesNotBefore run c stay.proc m k)
comes_late run c stays stay m at k facts here = grind (arith, not_before)

module _ (cmp : MsgId → MsgId → Ordering) where
  pub has_through : (r s t : BTreeSet MsgId) → HasAllOf cmp s r → HasAllOf cmp t s → HasAllOf cmp t r
  has_through r s t first second = record { each = λ m has. second.each m (first.each m has) }

  pub noted_before : (s : BTreeSet MsgId) (run : List Log) (c : RingId) (receiver : Stay) (e : Entry) (m : MsgId) (early : ℕ) → Handles e m → ComesBefore run c receiver.proc m early → IsNoted cmp s run c receiver e early
  noted_before s run c receiver e m early handles before = record {
    each = λ n lt h never. (let same : m ≡ n = handles_one e m n handles h in absurd (never before.index before.before (rw same at before.delivers)));
  }

-- ---- one walk

-- the receiver delivers what the sender sends at i or later at `early` or later
pub record Earliest (run : List Log) (c : RingId) (sender receiver : Stay) (i early : ℕ) : Type 0 where
  pub each : (j k : ℕ) (n : MsgId) (x : ConfId) (service : Service) → i ≤ j → j < sender.turn → slice_get (log_of run sender.proc) j ≡ Some (Send n x service) → DeliversIn (log_of run receiver.proc) c n k → early ≤ k

-- what is known after the entries from `next` on
pub record SoFar (cmp : MsgId → MsgId → Ordering) (old now : BTreeSet MsgId) (run : List Log) (c : RingId) (sender receiver : Stay) (next early : ℕ) : Type 0 where
  pub noted : AreNotedFrom cmp now run c sender receiver next
  pub earliest : Earliest run c sender receiver next early
  pub kept : HasAllOf cmp now old
  pub until : next ≤ sender.turn

pub so_far_more : (cmp : MsgId → MsgId → Ordering) (old now then : BTreeSet MsgId) (run : List Log) (c : RingId) (stays : List Stay) (sender receiver : Stay) (next at early new : ℕ) (entry : Entry) → Facts run c stays → IsAmong stays receiver → next ≡ at + 1
    → slice_get (log_of run sender.proc) at ≡ Some entry → IsNoted cmp then run c receiver entry early → HasAllOf cmp then now → IsEarlier run c receiver.proc entry early new → SoFar cmp old now run c sender receiver next early
    → SoFar cmp old then run c sender receiver at new
so_far_more cmp old now then run c stays sender receiver next at early new entry of among is stands noted has grows before = record {
  noted = record {
    each = λ h j k e m n x v from lt until at_h handles at_j d never. elim (before_or_at at h (omega arith)) [
      | inl under ↦ has.each m (before.noted.each h j k e m n x v (omega arith) lt until at_h handles at_j d never)
      | inr same ↦ here h j k e m n x v (sym same) lt until at_h handles at_j d never
    ];
  };
  earliest = record {
    each = λ j k n x v from until at_j d. elim (before_or_at at j (omega arith)) [
      | inl under ↦ (let le = before.earliest.each j k n x v (omega arith) until at_j d in let no_later = grows.no_later in omega arith)
      | inr same ↦ (let there : slice_get (log_of run sender.proc) at ≡ Some (Send n x v) = rw (← same) at at_j in let is_send : entry ≡ Send n x v = cc in grows.each n x v k is_send d)
    ];
  };
  kept = has_through cmp old now then before.kept has;
  until = (let until = before.until in omega arith);
}
  where
    here : (h j k : ℕ) (e : Entry) (m n : MsgId) (x : ConfId) (v : Service) → h ≡ at → h < j → j < sender.turn → slice_get (log_of run sender.proc) h ≡ Some e → Handles e m → slice_get (log_of run sender.proc) j ≡ Some (Send n x v)
        → DeliversIn (log_of run receiver.proc) c n k → ComesNotBefore run c receiver.proc m k → IsSuspect cmp then m
    here h j k e m n x v same lt until at_h handles at_j d never =
        let le = before.earliest.each j k n x v (omega arith) until at_j d in
        let inside = delivery_inside run c stays receiver n k of among d in
        let below = inside.until in
        let there : slice_get (log_of run sender.proc) at ≡ Some e = rw same at at_h in
        let is_entry : e ≡ entry = cc in
        noted.each m (omega arith) (rw is_entry at handles) (λ l under delivers. never l (omega arith) delivers)

pub noted_all : (cmp : MsgId → MsgId → Ordering) (old now : BTreeSet MsgId) (run : List Log) (c : RingId) (sender receiver : Stay) (next early : ℕ) → next ≤ sender.from + 1 → SoFar cmp old now run c sender receiver next early → AreNoted cmp now run c sender receiver
noted_all cmp old now run c sender receiver next early end so_far = record {
  from = λ i above. record { each = λ h j k e m n x v from lt until at_h handles at_j d never. so_far.noted.each h j k e m n x v (omega arith) lt until at_h handles at_j d never };
}

-- ---- all walks

pub noted_still : (cmp : MsgId → MsgId → Ordering) (now then : BTreeSet MsgId) (run : List Log) (c : RingId) (sender receiver : Stay) → HasAllOf cmp then now → AreNoted cmp now run c sender receiver → AreNoted cmp then run c sender receiver
noted_still cmp now then run c sender receiver has noted = record {
  from = λ i above. record { each = λ h j k e m n x v from lt until at_h handles at_j d never. has.each m ((noted.from i above).each h j k e m n x v from lt until at_h handles at_j d never) };
}

pub pairs_more : (cmp : MsgId → MsgId → Ordering) (now then : BTreeSet MsgId) (run : List Log) (c : RingId) (stays : List Stay) (n k : ℕ) (sender receiver : Stay) → slice_get stays n ≡ Some sender → slice_get stays k ≡ Some receiver
    → AreNoted cmp then run c sender receiver → HasAllOf cmp then now → AreSuspects cmp now run c stays n k → AreSuspects cmp then run c stays n (k + 1)
pairs_more cmp now then run c stays n k sender receiver at_n at_k here has are = record {
  each = λ i s j r before at_i at_j. elim before [
    | inl lt ↦ noted_still cmp now then run c s r has (are.each i s j r (inl lt) at_i at_j)
    | inr (same, lt) ↦ elim (before_or_at j k lt) [
      | inl under ↦ noted_still cmp now then run c s r has (are.each i s j r (inr (same, under)) at_i at_j)
      | inr at ↦ this i s j r same at at_i at_j
    ]
  ];
}
  where
    this : (i : ℕ) (s : Stay) (j : ℕ) (r : Stay) → i ≡ n → j ≡ k → slice_get stays i ≡ Some s → slice_get stays j ≡ Some r → AreNoted cmp then run c s r
    this i s j r same at at_i at_j = grind arith

-- the next sender
pub pairs_next : (cmp : MsgId → MsgId → Ordering) (s : BTreeSet MsgId) (run : List Log) (c : RingId) (stays : List Stay) (n k : ℕ) → length stays ≤ k → AreSuspects cmp s run c stays n k → AreSuspects cmp s run c stays (n + 1) 0
pairs_next cmp s run c stays n k end are = record {
  each = λ i sender j receiver before at_i at_j. elim before [
    | inr (same, lt) ↦ absurd (omega arith)
    | inl lt ↦ elim (before_or_at i n lt) [
      | inl under ↦ are.each i sender j receiver (inl under) at_i at_j
      | inr same ↦ are.each i sender j receiver (inr (same, omega (arith, slice_get_within stays j receiver at_j))) at_i at_j
    ]
  ];
}

-- ---- what breaks 5 starts with a suspect

-- a send in c is in the regular part of its process's stay
record SentInside (stays : List Stay) (p j : ℕ) : Type 0 where
  stay : Stay
  among : IsAmong stays stay
  proc : stay.proc ≡ p
  after : stay.from < j
  until : j < stay.turn

module _ (cmp : MsgId → MsgId → Ordering) (s : BTreeSet MsgId) (run : List Log) (c : RingId) (stays : List Stay) (of : Facts run c stays) (are : AreSuspects cmp s run c stays (length stays) 0) where
  sent_inside : (p j : ℕ) (m : MsgId) (v : Service) → slice_get (log_of run p) j ≡ Some (Send m (Regular c) v) → SentInside stays p j
  sent_inside p j m v at =
      let found = of.inside p j (Regular c) (Send m (Regular c) v, at, refl) (inl refl) in
      let until = ((of.each found.stay found.among).sends j m (Regular c) found.inside (v, rw (← found.proc) at at)).1 in
      record { stay = found.stay; among = found.among; proc = found.proc; after = found.inside.after; until = until }

  -- what the sender sent or delivered at i in c, and its send at j
  by_walk : (p i j r k : ℕ) (e : Entry) (m n : MsgId) (v : Service) → i < j → slice_get (log_of run p) i ≡ Some e → Names (log_of run p) i (Regular c) → Handles e m → slice_get (log_of run p) j ≡ Some (Send n (Regular c) v)
      → DeliversIn (log_of run r) c n k → ComesNotBefore run c r m k → IsSuspect cmp s m
  by_walk p i j r k e m n v lt at_i names handles at_j (d, delivers, belongs) never =
      let sent = sent_inside p j n v at_j in
      let receiver = of.inside r k d (Deliver n d, delivers, refl) belongs in
      let above = ((of.each sent.stay sent.among).is.here i (Regular c) (rw (← sent.proc) at names) (inl refl)).0 in
      let noted = are.each sent.among.at sent.stay receiver.among.at receiver.stay (inl (slice_get_within stays sent.among.at sent.stay sent.among.stands)) sent.among.stands receiver.among.stands in
      let never_there : ComesNotBefore run c receiver.stay.proc m k = rw receiver.proc never in
      (noted.from i above).each i j k e m n (Regular c) v (omega arith) lt sent.until (rw (← sent.proc) at at_i) handles (rw (← sent.proc) at at_j) (d, rw (← receiver.proc) at delivers, rw (← receiver.proc) at belongs) never_there

  -- the send of the earlier message is in the later one's log
  in_one_log : (p q a j r k : ℕ) (m n : MsgId) (u v : Service) → at_place (log_of run q) a ≡ Some (Send m (Regular c) u) → q ≡ p → a < suc j → slice_get (log_of run p) j ≡ Some (Send n (Regular c) v) → DeliversIn (log_of run r) c n k
      → ComesNotBefore run c r m k → IsSuspect cmp s m
  in_one_log p q zero j r k m n u v at_e same lt at_j d never = absurd cc
  in_one_log p q (suc i) j r k m n u v at_e same lt at_j d never =
      let here : slice_get (log_of run p) i ≡ Some (Send m (Regular c) u) = rw same at at_e in
      by_walk p i j r k (Send m (Regular c) u) m n v (omega arith) here (Send m (Regular c) u, here, refl) refl at_j d never

  suspected : (m n : MsgId) (e : Place) (p a : ℕ) (u v : Service) → entry_at run e ≡ Some (Send m (Regular c) u) → at_place (log_of run p) a ≡ Some (Send n (Regular c) v)
      → ((e.proc ≡ p) × (e.at < a)) ⊎ ((j : ℕ) × (a ≡ j + 1) × ((i : ℕ) × (i < j) × Delivers (log_of run p) i m (Regular c))) → (r k : ℕ) → DeliversIn (log_of run r) c n k → ComesNotBefore run c r m k → IsSuspect cmp s m
  suspected m n e p zero u v at_e at_f hop r k d never = absurd cc
  suspected m n e p (suc j) u v at_e at_f (inl (same, lt)) r k d never = in_one_log p e.proc e.at j r k m n u v at_e same lt at_f d never
  suspected m n e p (suc j) u v at_e at_f (inr (b, is, (i, lt, delivers))) r k d never =
      by_walk p i j r k (Deliver m (Regular c)) m n v (omega arith) delivers (Deliver m (Regular c), delivers, refl) refl at_f d never

  broken : (m : MsgId) (x : ConfId) (v : Service) (p i : ℕ) (rest : List Place) → slice_get (log_of run p) i ≡ Some (Send m x v) → BreaksCausalityIn run c (place p i ∷ rest) → IsSuspect cmp s m
  broken m x v p i (f ∷ g ∷ []) at (k, is, (o, n, send, effect, hop, (delivers, none))) =
      let sends = sends_there run p i o (Regular c) send in
      let there : slice_get (log_of run p) i ≡ Some (Send o (Regular c) sends.0) = sends.1 in
      let same : o ≡ m = cc in
      rw same at (suspected o n (place p i) f.proc f.at send.0 effect.0 send.1 effect.1 hop g.proc k delivers none)
  broken m x v p i rest at h = absurd h

pub none_unsuspected : (cmp : MsgId → MsgId → Ordering) (s : BTreeSet MsgId) (run : List Log) (c : RingId) (stays : List Stay) (m : MsgId) (x : ConfId) (v : Service) (p i : ℕ) → Facts run c stays → ∥ AreSuspects cmp s run c stays (length stays) 0 ∥₁
    → sorted.contains cmp s m ≡ false → slice_get (log_of run p) i ≡ Some (Send m x v) → NoneFrom (BreaksCausalityIn run c) p i
none_unsuspected cmp s run c stays m x v p i of are not at = grind (arith, not_there, broken)
