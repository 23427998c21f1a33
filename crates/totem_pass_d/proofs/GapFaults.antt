-- The list found for 6.3 is the least that breaks it: an earlier message, a later one, and a process that delivers only
-- the later one.
use Rattle.totem_pass_d.proofs.Common.{◌≡◌, ℕ, ◌+◌, ◌<◌, ◌≤◌, inl, inr, List, [], ◌∷◌, length, slice_get, Option, Some, None, Bool, true, false, not, IsTrue, ◌↔◌, refl, sym, ◌∙◌, arith, below_more, Contains, IfSome, IfNone, unwrap_or, OnTrue, OnFalse, slice_get_within, cases_lt, RingId, ConfId, Regular, MsgId, Place, Entry, Deliver, Log, log_of, Sends, Delivers, WasSentIn, IsMember, Com, DeliversIn, IsGap, BreaksGapIn, ComesFirst, MeetsPasses, less_or_not, Along, before_or_at, place, NoneFrom, IsLeastFrom, IsOneEvent, Starts, IsAmong, DeliversNot, IsSendingOf, NobodySent, IsInside, EachBeginsWithin, NoneWithin, IsLeastWithin, BeginsWithin, AreMembersAt, AreMembersAfter, ComesNotBefore, IsLack, IsLater, TellsMember, IsApart, IsBeyond, IsPassed, HasPassed, IsLast, AreLasts, IsAhead, KeepsUp, AllKeepUp}
use Rattle.totem_pass_d.specs.declared.stays.Stay.{Stay}
use Rattle.totem_pass_d.specs.declared.stays.Sending.{Sending}
use Rattle.totem_pass_d.specs.declared.gap_6_3.Last.{Last}
use Rattle.totem_pass_d.proofs.Reaching.{is_among_members, is_member, one_origin}
use Rattle.totem_pass_d.proofs.Facts.{Facts, delivery_inside}
use Rattle.totem_pass_d.proofs.Searching.{no_event, only_event, begins_inside, begins_at}
use Rattle.totem_pass_d.proofs.CausalityFaults.{one_delivery_in}

-- members
pub tells_member : (run : List Log) (p i q : ℕ) (members : List ℕ) (b : Bool) → MeetsPasses run → AreMembersAt (log_of run p) i members → IsTrue b ↔ Contains members q → TellsMember run (log_of run p) i q b
tells_member run p i q members b meets are decides = record {
  each = λ x names. (
    λ t. is_member run p i members x q are names (decides.0 t),
    λ member. decides.1 (is_among_members run p i members x q meets are names member),
  );
}

-- a process that lacks the earlier message
pub none_later : (run : List Log) (c : RingId) (stay : Stay) (s : ℕ) (m n : MsgId) → DeliversNot (log_of run stay.proc) c n → NoneWithin IsInside (IsOneEvent (IsLack run c s m n)) stay
none_later run c stay s m n never = no_event IsInside (IsLack run c s m n) stay (λ i (d, at, belongs, member, lacks). never.never (i, (d, at, belongs)))

pub none_lacks : (run : List Log) (c : RingId) (stay : Stay) (s k : ℕ) (m n : MsgId) → DeliversIn (log_of run stay.proc) c m k → NoneWithin IsInside (IsOneEvent (IsLack run c s m n)) stay
none_lacks run c stay s k m n here = no_event IsInside (IsLack run c s m n) stay (λ i (d, at, belongs, member, lacks). lacks (k, here))

pub none_member : (run : List Log) (c : RingId) (stays : List Stay) (stay : Stay) (s k : ℕ) (m n : MsgId) (b : Bool) → Facts run c stays → DeliversIn (log_of run stay.proc) c n k → TellsMember run (log_of run stay.proc) k s b → b ≡ false
    → NoneWithin IsInside (IsOneEvent (IsLack run c s m n)) stay
none_member run c stays stay s k m n b facts here tells no_member = no_event IsInside (IsLack run c s m n) stay (λ i (d, at, belongs, member, lacks).
    let same = one_delivery_in run c stays stay.proc i k n facts (d, at, belongs) here in
    let t : b ≡ true = (tells.each d (Deliver n d, rw same at at, refl)).1 member in cc)

pub lack_here : (run : List Log) (c : RingId) (stays : List Stay) (stay : Stay) (s k : ℕ) (m n : MsgId) (b : Bool) (places : List Place) → Facts run c stays → DeliversIn (log_of run stay.proc) c n k → DeliversNot (log_of run stay.proc) c m
    → TellsMember run (log_of run stay.proc) k s b → b ≡ true → places ≡ place stay.proc k ∷ [] → IsLeastWithin IsInside (IsOneEvent (IsLack run c s m n)) stay places
lack_here run c stays stay s k m n b places facts (d, at, belongs) never tells is_member is =
    only_event IsInside (IsLack run c s m n) stay k places (d, at, belongs, (tells.each d (Deliver n d, at, refl)).0 is_member, never.never)
    (λ i (x, at_i, inside, member, lacks). one_delivery_in run c stays stay.proc i k n facts (x, at_i, inside) (d, at, belongs)) is

pub lacks_begin : (run : List Log) (c : RingId) (stays : List Stay) (s : ℕ) (m n : MsgId) → Facts run c stays → EachBeginsWithin stays IsInside (IsOneEvent (IsLack run c s m n))
lacks_begin run c stays s m n facts = begins_inside (IsLack run c s m n) stays (record { each = λ p k (d, at, belongs, member, lacks). facts.inside p k d (Deliver n d, at, refl) belongs })

-- later messages of one log
later_at : (run : List Log) (c : RingId) (s : ℕ) (m n : MsgId) (i p j : ℕ) (d : ConfId) (rest : List Place) → Delivers (log_of run p) j n d → IsLater run c s m i (place p j ∷ rest) → IsOneEvent (IsLack run c s m n) rest
later_at run c s m n i p j d rest h k = grind arith

pub lack_starts : (run : List Log) (c : RingId) (stays : List Stay) (stay : Stay) (s : ℕ) (m n : MsgId) (i j : ℕ) (d : ConfId) → Facts run c stays → IsAmong stays stay → IsInside stay j → slice_get (log_of run stay.proc) j ≡ Some (Deliver n d) → i < j
    → Starts (IsOneEvent (IsLack run c s m n)) (IsLater run c s m i) stay.proc j
lack_starts run c stays stay s m n i j d facts among inside at lt = record {
  to = λ rest h. (j, refl, (lt, (n, (d, at, (facts.each stay among).stands j d inside (Deliver n d, at, refl)), h)));
  from = λ rest h. later_at run c s m n i stay.proc j d rest at h;
}

-- gaps
pub gap_at : (run : List Log) (c : RingId) (p i : ℕ) (rest : List Place) → BreaksGapIn run c (place p i ∷ rest) → (j q k : ℕ) × (rest ≡ place p j ∷ place q k ∷ []) × IsGap run c p i j q k
gap_at run c p i (f ∷ g ∷ []) (a, is, (j, is_f, (k, is_g, (same, gap)))) = (j, g.proc, k, placed, (let at : a ≡ i = omega arith in rw at at gap))
  where
    placed : f ∷ g ∷ [] ≡ place p j ∷ place g.proc k ∷ []
    placed = rw (same, ← is_f, ← is_g) refl
gap_at run c p i rest h = absurd h

-- the sender of a message that is delivered in c or in what follows it sent it in c
pub sent_in : (run : List Log) (c : RingId) (stays : List Stay) (m : MsgId) (p i : ℕ) → Facts run c stays → DeliversIn (log_of run p) c m i → WasSentIn run m (Regular c)
sent_in run c stays m p i facts (d, at, belongs) =
    let (origin, sent, from) = facts.meets.sent p i m d at in
    rw (one_origin (log_of run p) c origin d (facts.meets.one.once p) belongs from) sent

pub none_unsent : (run : List Log) (c : RingId) (stays : List Stay) (stay : Stay) (m : MsgId) (d : ConfId) (i : ℕ) → Facts run c stays → IsAmong stays stay → IsInside stay i → slice_get (log_of run stay.proc) i ≡ Some (Deliver m d) → NobodySent run c m
    → NoneFrom (BreaksGapIn run c) stay.proc i
none_unsent run c stays stay m d i facts among inside at nobody = record {
  none = λ rest h. nobody.never (sent_in run c stays m stay.proc i facts (d, at, (facts.each stay among).stands i d inside (Deliver m d, at, refl)));
}

-- from the list after the earlier delivery to the whole list
later_of : (run : List Log) (c : RingId) (stays : List Stay) (m : MsgId) (d : ConfId) (p i : ℕ) (sending : Sending) → Facts run c stays → slice_get (log_of run p) i ≡ Some (Deliver m d) → IsSendingOf run c m sending
    → (j q k : ℕ) → IsGap run c p i j q k → IsLater run c sending.proc m i (place p j ∷ place q k ∷ [])
later_of run c stays m d p i sending facts at of j q k (o, n, x, y, s, l, (z, at', b'), later, lt, at_k, belongs, send, member, lacks) =
    let same : o ≡ m = cc in
    let one = facts.meets.once.one_send s l sending.proc sending.at m y (Regular c) (rw same at send) (sending.service, of.sends) in
    (j, refl, (lt, (n, later, (k, refl, (x, at_k, belongs, rw one.0 at member, rw same at lacks)))))

gap_of : (run : List Log) (c : RingId) (m : MsgId) (p i j : ℕ) (rest : List Place) (sending : Sending) → DeliversIn (log_of run p) c m i → IsSendingOf run c m sending → IsLater run c sending.proc m i (place p j ∷ rest) → BreaksGapIn run c (place p i ∷ place p j ∷ rest)
gap_of run c m p i j (g ∷ []) sending delivers of (a, is, (lt, (n, later, (k, is_g, (x, at_k, belongs, member, lacks))))) =
    (i, refl, (a, is, (k, is_g, (refl, (m, n, x, Regular c, sending.proc, sending.at, delivers, later, lt, at_k, belongs, (sending.service, of.sends), member, lacks)))))
gap_of run c m p i j rest sending delivers of (a, is, (lt, (n, later, one))) = absurd one

gap_inside : (run : List Log) (c : RingId) (stays : List Stay) (stay : Stay) (i j q k : ℕ) → Facts run c stays → IsAmong stays stay → IsGap run c stay.proc i j q k → IsInside stay j
gap_inside run c stays stay i j q k facts among (o, n, x, y, s, l, earlier, later, lt, at_k, belongs, send, member, lacks) = delivery_inside run c stays stay n j facts among later

pub none_after : (run : List Log) (c : RingId) (stays : List Stay) (stay : Stay) (m : MsgId) (d : ConfId) (i : ℕ) (sending : Sending) → Facts run c stays → IsAmong stays stay → slice_get (log_of run stay.proc) i ≡ Some (Deliver m d) → IsSendingOf run c m sending
    → NoneWithin IsInside (IsLater run c sending.proc m i) stay → NoneFrom (BreaksGapIn run c) stay.proc i
none_after run c stays stay m d i sending facts among at of none = record {
  none = λ rest h.
      let (j, q, k, _, gap) = gap_at run c stay.proc i rest h in
      none.none j (place q k ∷ []) (gap_inside run c stays stay i j q k facts among gap) (later_of run c stays m d stay.proc i sending facts at of j q k gap);
}

pub least_after : (run : List Log) (c : RingId) (stays : List Stay) (stay : Stay) (m : MsgId) (d : ConfId) (i : ℕ) (sending : Sending) (list : List Place) → Facts run c stays → IsAmong stays stay → IsInside stay i → slice_get (log_of run stay.proc) i ≡ Some (Deliver m d)
    → IsSendingOf run c m sending → IsLeastWithin IsInside (IsLater run c sending.proc m i) stay list → IsLeastFrom (BreaksGapIn run c) stay.proc i list
least_after run c stays stay m d i sending list facts among inside at of least = record { least = record { holds = holds; first = λ others h. first others (gap_at run c stay.proc i others h) } }
  where
    holds : BreaksGapIn run c (place stay.proc i ∷ list)
    holds = rw least.is (gap_of run c m stay.proc i least.at least.rest sending (d, at, (facts.each stay among).stands i d inside (Deliver m d, at, refl)) of least.least.least.holds)

    compare : (j q k : ℕ) → IsGap run c stay.proc i j q k → ComesFirst (place stay.proc least.at ∷ least.rest) (place stay.proc j ∷ place q k ∷ [])
    compare j q k gap = let later = later_of run c stays m d stay.proc i sending facts at of j q k gap in elim (less_or_not j least.at) [
      | inl earlier ↦ absurd (least.none_before.none j earlier (place q k ∷ []) (gap_inside run c stays stay i j q k facts among gap) later)
      | inr (inl over) ↦ inl (inr (refl, omega arith))
      | inr (inr same) ↦ inr (rw same refl, least.least.least.first (place q k ∷ []) (rw same at later))
    ]

    first : (others : List Place) → ((j q k : ℕ) × (others ≡ place stay.proc j ∷ place q k ∷ []) × IsGap run c stay.proc i j q k) → ComesFirst list others
    first others (j, q, k, is, gap) = rw (least.is, is) (compare j q k gap)

pub gaps_begin : (run : List Log) (c : RingId) (stays : List Stay) → Facts run c stays → EachBeginsWithin stays IsInside (BreaksGapIn run c)
gaps_begin run c stays facts = record { each = λ places h. go places h }
  where
    go : (places : List Place) → BreaksGapIn run c places → BeginsWithin stays IsInside places
    go (e ∷ f ∷ g ∷ []) (i, is, (j, is_f, (k, is_g, (same, (m, n, d, x, s, l, (y, at, belongs), later, lt, at_k, belongs', send, member, lacks))))) =
        begins_at run c stays e i y (f ∷ g ∷ []) facts (rw (← is) refl) (Deliver m y, at, refl) belongs
    go places h = absurd h

-- ---- the last delivery of a process that another process makes too

-- the entry delivers m, which q does not deliver before until
pub apart_late : (run : List Log) (c : RingId) (p q until at : ℕ) (m : MsgId) (d : ConfId) (b : Bool) → slice_get (log_of run p) at ≡ Some (Deliver m d) → OnFalse b (ComesNotBefore run c q m until) → OnFalse b (IsApart run c p q until at)
apart_late run c p q until at m d true there not = tt
apart_late run c p q until at m d false there not = record {
  never = λ n k (x, is, belongs) lt delivers. (let same : n ≡ m = cc in not k lt (rw same at delivers));
}

-- before until q delivers nothing that p delivers from n on
pub record ApartFrom (run : List Log) (c : RingId) (p q until n : ℕ) : Type 0 where
  pub each : (j : ℕ) → n ≤ j → IsApart run c p q until j

pub apart_at_end : (run : List Log) (c : RingId) (stays : List Stay) (leader : Stay) (q until : ℕ) → Facts run c stays → IsAmong stays leader → ApartFrom run c leader.proc q until leader.end
apart_at_end run c stays leader q until facts among = record {
  each = λ j le. record { never = λ n k delivers lt h. (let inside = delivery_inside run c stays leader n j facts among delivers in let until = inside.until in absurd (omega arith)) };
}

pub apart_more : (run : List Log) (c : RingId) (p q until n k : ℕ) → n ≡ k + 1 → IsApart run c p q until k → ApartFrom run c p q until n → ApartFrom run c p q until k
apart_more run c p q until n k is here after = record {
  each = λ j le. elim (before_or_at k j (omega arith)) [
    | inl under ↦ after.each j (omega arith)
    | inr same ↦ rw (← same) here
  ];
}

-- an index that will do for both parts
pub rough_last : (run : List Log) (c : RingId) (stays : List Stay) (p i : ℕ) (follower : Stay) → Facts run c stays → IsAmong stays follower → IsBeyond run c p follower.proc follower.end i
    → (let last : Last = record { regular = i; following = i } in IsLast run c p follower last)
rough_last run c stays p i follower facts among beyond = record {
  regular = record { each = λ j lt. record { never = λ n k there early here. (beyond.each j lt).never n k there (let until = (facts.each follower among).is.until in omega arith) here } };
  following = record { each = λ k le until. record { never = λ n j lt there here. (beyond.each j lt).never n k there until here } };
}

-- ---- what follows c

-- p delivers at `there` what the follower delivers at k
passed_there : (run : List Log) (c : RingId) (stays : List Stay) (follower : Stay) (p k there i : ℕ) (m : MsgId) (d : ConfId) → Facts run c stays → slice_get (log_of run follower.proc) k ≡ Some (Deliver m d) → DeliversIn (log_of run p) c m there → there ≤ i
    → IsPassed run c p follower k i
passed_there run c stays follower p k there i m d facts at here le = grind (arith, one_delivery_in)

passed_undelivered : (run : List Log) (c : RingId) (follower : Stay) (p k i : ℕ) (m : MsgId) (d : ConfId) → slice_get (log_of run follower.proc) k ≡ Some (Deliver m d) → DeliversNot (log_of run p) c m → IsPassed run c p follower k i
passed_undelivered run c follower p k i m d at not = grind arith

-- p delivers at no later index than i what the follower delivers at k, or never
pub passed_delivered : (run : List Log) (c : RingId) (stays : List Stay) (follower : Stay) (p k i last : ℕ) (m : MsgId) (d : ConfId) (found : Option ℕ) → Facts run c stays → slice_get (log_of run follower.proc) k ≡ Some (Deliver m d)
    → IfSome found (DeliversIn (log_of run p) c m) → IfNone found (DeliversNot (log_of run p) c m) → unwrap_or found last ≤ i → IsPassed run c p follower k i
passed_delivered run c stays follower p k i last m d (Some there) facts at here not le = passed_there run c stays follower p k there i m d facts at here le
passed_delivered run c stays follower p k i last m d None facts at here not le = passed_undelivered run c follower p k i m d at not

-- the entry at k delivers nothing
pub passed_silent : (run : List Log) (c : RingId) (follower : Stay) (p k i : ℕ) (e : Entry) → slice_get (log_of run follower.proc) k ≡ Some e → ((m : MsgId) (d : ConfId) → e ≡ Deliver m d → ⊥) → IsPassed run c p follower k i
passed_silent run c follower p k i e at silent = record { never = λ n j lt delivers (x, is, belongs). (let same : e ≡ Deliver n x = cc in silent n x same) }

pub passed_before : (run : List Log) (c : RingId) (p : ℕ) (follower : Stay) (i : ℕ) → HasPassed run c p follower follower.turn i
passed_before run c p follower i = record { each = λ k le lt. absurd (omega arith) }

pub passed_more : (run : List Log) (c : RingId) (p : ℕ) (follower : Stay) (n i j : ℕ) → i ≤ j → IsPassed run c p follower n j → HasPassed run c p follower n i → HasPassed run c p follower (n + 1) j
passed_more run c p follower n i j le here before = record {
  each = λ k from lt. elim (before_or_at k n lt) [
    | inl under ↦ (let old = before.each k from under in record { never = λ m l later there here. old.never m l (omega arith) there here })
    | inr same ↦ rw same here
  ];
}

-- ---- all followers

pub lasts_whole : (run : List Log) (c : RingId) (stays : List Stay) (p : ℕ) (lasts : List Last) (n : ℕ) → length stays ≡ n → Along (IsLast run c p) stays lasts n → AreLasts run c stays p lasts
lasts_whole run c stays p lasts n end along = record { long = end ∙ sym along.long; each = along.each }

-- ---- each message of a leader

-- p delivers nothing after i that the follower delivers
pub keeps_up_beyond : (run : List Log) (c : RingId) (p : ℕ) (m : MsgId) (i : ℕ) (follower : Stay) (last : Last) (stays : List Stay) → Facts run c stays → IsAmong stays follower → IsLast run c p follower last → last.regular ≤ i
    → ((n : MsgId) (d x : ConfId) (k s l : ℕ) → follower.turn ≤ k → IsInside follower k → Delivers (log_of run follower.proc) k n d → Sends (log_of run s) l m x → IsMember run d s → last.following ≤ i)
    → KeepsUp run c p m i follower
keeps_up_beyond run c p m i follower last stays facts among is regular following = inr (λ j lt (n, d, x, k, s, l, there, at, belongs, send, member).
    let inside = delivery_inside run c stays follower n k facts among (d, at, belongs) in
    elim (cases_lt k follower.turn) [
      | inl early ↦ (is.regular.each j (omega arith)).never n k there early (d, at, belongs)
      | inr le ↦ (is.following.each k le inside.until).never n j (let few = following n d x k s l le inside at send member in omega arith) there (d, at, belongs)
    ])

-- the sender is not a member of what follows
pub keeps_up_outside : (run : List Log) (c : RingId) (p : ℕ) (m : MsgId) (i : ℕ) (follower : Stay) (last : Last) (stays : List Stay) (sending : Sending) (members : List ℕ) (b : Bool) → Facts run c stays → IsAmong stays follower → IsLast run c p follower last → last.regular ≤ i
    → IsSendingOf run c m sending → AreMembersAfter (log_of run follower.proc) follower.turn follower.end members → IsTrue b ↔ Contains members sending.proc → OnTrue (not b) (KeepsUp run c p m i follower)
keeps_up_outside run c p m i follower last stays sending members true facts among is regular of are decides = tt
keeps_up_outside run c p m i follower last stays sending members false facts among is regular of are decides =
    keeps_up_beyond run c p m i follower last stays facts among is regular (λ n d x k s l le inside at send member.
    let one = facts.meets.once.one_send s l sending.proc sending.at m x (Regular c) send (sending.service, of.sends) in
    let has = is_among_members run follower.proc k members d sending.proc facts.meets (are.each k le inside.until) (Deliver n d, at, refl) (rw one.0 at member) in
    let t : false ≡ true = decides.1 has in cc)

-- the first n followers keep up
pub record KeepUpTo (run : List Log) (c : RingId) (stays : List Stay) (p : ℕ) (m : MsgId) (i n : ℕ) : Type 0 where
  pub each : (k : ℕ) → k < n → (stay : Stay) → slice_get stays k ≡ Some stay → KeepsUp run c p m i stay

pub keep_up_more : (run : List Log) (c : RingId) (stays : List Stay) (p : ℕ) (m : MsgId) (i n : ℕ) (stay : Stay) → slice_get stays n ≡ Some stay → KeepsUp run c p m i stay → KeepUpTo run c stays p m i n → KeepUpTo run c stays p m i (n + 1)
keep_up_more run c stays p m i n stay at here before = record {
  each = below_more _ _ before.each (λ s at_n. (let one : s ≡ stay = cc in rw one here));
}

pub keep_up_whole : (run : List Log) (c : RingId) (stays : List Stay) (p : ℕ) (m : MsgId) (i n : ℕ) → length stays ≤ n → KeepUpTo run c stays p m i n → AllKeepUp run c stays p m i
keep_up_whole run c stays p m i n end to = record { each = λ stay among. to.each among.at (omega (arith, slice_get_within stays among.at stay among.stands)) stay among.stands }

-- another log delivers the later message where the sender is a member
ahead_of : (run : List Log) (c : RingId) (p : ℕ) (m n : MsgId) (d x : ConfId) (stay : Stay) (q j k s l : ℕ) → stay.proc ≡ q → DeliversIn (log_of run p) c n j → Delivers (log_of run q) k n d → Com (log_of run q) c d → Sends (log_of run s) l m x → IsMember run d s
    → IsAhead run c p m stay j
ahead_of run c p m n d x stay q j k s l same later at belongs send member = (n, d, x, k, s, l, later, rw (← same) at at, rw (← same) at belongs, send, member)

-- no gap starts at an entry that delivers nothing
pub none_silent : (run : List Log) (c : RingId) (p i : ℕ) (e : Entry) → slice_get (log_of run p) i ≡ Some e → ((m : MsgId) (d : ConfId) → e ≡ Deliver m d → ⊥) → NoneFrom (BreaksGapIn run c) p i
none_silent run c p i e at silent = grind (arith, gap_at)

-- no gap starts at a message with which all keep up
pub none_behind : (run : List Log) (c : RingId) (stays : List Stay) (m : MsgId) (d : ConfId) (p i : ℕ) → Facts run c stays → slice_get (log_of run p) i ≡ Some (Deliver m d) → AllKeepUp run c stays p m i → NoneFrom (BreaksGapIn run c) p i
none_behind run c stays m d p i facts at all = record { none = λ rest h. let g = gap_at run c p i rest h in go g.0 g.1 g.2 g.4 }
  where
    go : (j q k : ℕ) → IsGap run c p i j q k → ⊥
    go j q k (o, n, x, y, s, l, (z, at', b'), later, lt, at_k, belongs, send, member, lacks) =
        let same : o ≡ m = cc in
        let t = facts.inside q k x (Deliver n x, at_k, refl) belongs in
        elim (all.each t.stay t.among) [
          | inl has ↦ lacks (rw (same, ← t.proc) has)
          | inr never ↦ never j lt (ahead_of run c p m n x y t.stay q j k s l t.proc later at_k belongs (rw same at send) member)
        ]
