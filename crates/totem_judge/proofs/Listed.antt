-- What the lists of a configuration say about the logs, if they were verified.
use Rattle.totem_judge.proofs.Common.{◌≡◌, inl, inr, ℕ, ◌<◌, ◌≤◌, List, length, slice_get, Some, refl, sym, ◌∙◌, ap, subst, arith, slice_get_within, ConfId, Regular, MsgId, Entry, Send, Deliver, Conf, Log, IsRun, ChangesTo, Sends, Delivers, log_of, IsChange, Names, Follows, Com, DeliversIn, Numbering, Certified, less_or_not, Sent, Got, Traffic, IsBy, IsLogAt, one_log, one_at, names_no_change, is_stay, IsEventAt, HasSuch, IsAny, ComesBefore, IsLinked, IsThere, IsGotAt, IsSentAt, IsSentIn, IsDeliveryOf, IsDeliveredAt, AreAsListed, IsReplayed, IsSeen, IsOrderly}
use Rattle.totem_judge_run.specs.Stays.{IsStay, Bounds}
use Rattle.totem_judge.specs.declared.gathered.Origin.{Origin}
use Rattle.totem_judge.specs.declared.gathered.Gathered.{Gathered}
use Rattle.totem_judge.specs.declared.gathered.Stay.{Stay}
use Rattle.totem_judge.proofs.Numbers.{below_or_not, entry_of, one_event, one_number, same_index, entries_of}
use Rattle.totem_judge.specs.StaysIn.{IsBounded}

-- a stay that is bounded by changes, and has no other but where it turns
bounds : (entries : List Entry) (numbers : List ℕ) (g : Gathered) (stay : Stay) (n : ℕ) → IsBounded entries g.ring stay → AreAsListed entries numbers g stay stay.end n → Bounds entries g.ring stay.from stay.turn stay.end
bounds entries numbers g stay n is are = record {
  change = is.change;
  two = record {
    first = record {
      later = is.before;
      within = is.turns.within;
      change = is.turns.change;
      none_between = λ k above below change. (let same = at_turn k above (omega (arith, below, is.until)) change in omega (arith, same, below));
    };
    second = λ lt. record {
      later = is.further lt;
      within = is.ends.within;
      change = is.ends.change;
      none_between = λ k above below change. (let same = at_turn k (omega (arith, above, is.before)) below change in omega (arith, same, above));
    };
    whole = λ le. omega (arith, le, is.until, is.ends.within);
  };
}
  where
    at_turn : (k : ℕ) → stay.from < k → k < stay.end → IsChange entries k → k ≡ stay.turn
    at_turn k above below (x, (ms, at)) = are.listed k (Conf x ms) above below at

module _ (run : List Log) (lines : List Numbering) (g : Gathered) (stay : Stay) (p : ℕ) (is_run : IsRun run) where
  -- the entries that were replayed are those of the log
  pub entries_in : IsLogAt run stay.log p → (r : IsReplayed run lines g stay) → r.log.entries ≡ log_of run p
  entries_in log r = ap (λ (x : Log). x.entries) (one_at run stay.log r.log log.log r.log_is log.stands) ∙ sym (entries_of run stay.log p is_run.rising log)

  pub stay_in : IsOrderly run → IsLogAt run stay.log p → IsReplayed run lines g stay → IsStay (log_of run p) g.ring stay.from stay.turn stay.end
  stay_in orderly log r = is_stay (log_of run p) g.ring stay.from stay.turn stay.end (record { placed = orderly.placed p; once = orderly.one.once p; turns = orderly.turns.each p })
      (subst (λ (es : List Entry). Bounds es g.ring stay.from stay.turn stay.end) (entries_in log r) (bounds r.log.entries r.line.numbers g stay _ r.bounded r.are))

-- what was gathered about a configuration of an orderly run was verified, and each log that changes to it has a stay
pub record Verified (run : List Log) (lines : List Numbering) (g : Gathered) (traffic : Traffic) : Type 0 where
  pub is_run : IsRun run
  pub orderly : IsOrderly run
  pub certified : Certified run lines
  pub seen : IsSeen run lines g traffic
  pub whole : (l p i : ℕ) → IsLogAt run l p → ChangesTo (log_of run p) i (Regular g.ring) → HasSuch IsAny g.stays.items (length g.stays.items) l

module _ {run : List Log} {lines : List Numbering} {g : Gathered} {traffic : Traffic} (v : Verified run lines g traffic) where
  open v use {is_run, orderly, certified, seen, whole}

  -- ---- stays

  -- the stay of p's log, at l, in the configuration
  pub record StayOf (l p : ℕ) : Type 0 where
    pub stay : Stay
    pub at : ℕ
    pub stands : slice_get g.stays.items at ≡ Some stay
    pub log : stay.log ≡ l
    pub is : IsStay (log_of run p) g.ring stay.from stay.turn stay.end
    pub replayed : IsReplayed run lines g stay

  replayed_at : (k : ℕ) (stay : Stay) → slice_get g.stays.items k ≡ Some stay → IsReplayed run lines g stay
  replayed_at k stay at = seen.lists.replayed.each k stay (slice_get_within g.stays.items k stay at) at

  pub stay_with : (l p k : ℕ) (stay : Stay) → IsLogAt run l p → slice_get g.stays.items k ≡ Some stay → stay.log ≡ l → StayOf l p
  stay_with l p k stay log at of = record {
    stay = stay;
    at = k;
    stands = at;
    log = of;
    is = stay_in run lines g stay p is_run orderly (subst (λ (j : ℕ). IsLogAt run j p) (sym of) log) (replayed_at k stay at);
    replayed = replayed_at k stay at;
  }

  -- the stay of a log, which keeps the condition
  pub such_stay_of : (Such : Stay → Type 0) (l p : ℕ) → IsLogAt run l p → HasSuch Such g.stays.items (length g.stays.items) l → (s : StayOf l p) × Such s.stay
  unfolding stay_with
  such_stay_of Such l p log has = (stay_with l p has.at has.stay log has.stands has.of, has.such)

  -- a process that changes to the configuration has a stay
  pub come : (l p i : ℕ) → IsLogAt run l p → ChangesTo (log_of run p) i (Regular g.ring) → StayOf l p
  come l p i log change = let has = whole l p i log change in stay_with l p has.at has.stay log has.stands has.of

  -- and so has a process that names it, or what follows it
  pub stay_around : (l p i : ℕ) (d : ConfId) → IsLogAt run l p → Names (log_of run p) i d → Com (log_of run p) g.ring d → StayOf l p
  stay_around l p i d log names (inl same) = let standing = (orderly.placed p).named i d names in come l p standing.from log (subst (λ (x : ConfId). ChangesTo (log_of run p) standing.from x) same standing.change)
  stay_around l p i d log names (inr follows) = come l p follows.from log follows.first.change

  -- the entry where a stay turns names no configuration
  pub before_turn : (l p i : ℕ) (s : StayOf l p) → s.stay.from < i → i < s.stay.end → Names (log_of run p) i (Regular g.ring) → i < s.stay.turn
  before_turn l p i s after until names = elim (less_or_not i s.stay.turn) [
    | inl under ↦ under
    | inr (inl over) ↦ absurd ((s.is.following i (Regular g.ring) over until names).transitional)
    | inr (inr same) ↦ absurd (let turns = s.is.turns (omega (arith, same, until)) in names_no_change (log_of run p) s.stay.turn (Regular g.ring) (rw same at names) (turns.conf, turns.change))
  ]

  pub behind_turn : (l p i : ℕ) (d : ConfId) (s : StayOf l p) → s.stay.from < i → Names (log_of run p) i d → Follows (log_of run p) g.ring d → s.stay.turn ≤ i
  behind_turn l p i d s after names follows = elim (below_or_not i s.stay.turn) [
    | inl under ↦ absurd (let regular = s.is.regular i d after under names in let f : Follows (log_of run p) g.ring (Regular g.ring) = rw regular at follows in f.transitional)
    | inr behind ↦ behind
  ]

  pub follows_here : (l p i : ℕ) (d : ConfId) (s : StayOf l p) → s.stay.turn ≤ i → i < s.stay.end → Names (log_of run p) i d → Follows (log_of run p) g.ring d
  follows_here l p i d s le until names = elim (less_or_not i s.stay.turn) [
    | inl under ↦ absurd (omega arith)
    | inr (inl over) ↦ s.is.following i d over until names
    | inr (inr same) ↦ absurd (let turns = s.is.turns (omega (arith, same, until)) in names_no_change (log_of run p) s.stay.turn d (rw same at names) (turns.conf, turns.change))
  ]

  -- the entries of the log are those that were replayed
  pub own_entry : (l p i : ℕ) (x : Entry) (s : StayOf l p) → IsLogAt run l p → slice_get (log_of run p) i ≡ Some x → slice_get s.replayed.log.entries i ≡ Some x
  own_entry l p i x s log at = rw (entries_in run lines g s.stay p is_run (subst (λ (j : ℕ). IsLogAt run j p) (sym s.log) log) s.replayed) at

  own_event : (l p i : ℕ) (x : Entry) (n : ℕ) (s : StayOf l p) → slice_get s.replayed.log.entries i ≡ Some x → slice_get s.replayed.line.numbers i ≡ Some n → IsEventAt run lines l i x n
  own_event l p i x n s entry number = subst (λ (j : ℕ). IsEventAt run lines j i x n) s.log (record {
    log = s.replayed.log;
    line = s.replayed.line;
    log_is = s.replayed.log_is;
    line_is = s.replayed.line_is;
    entry_is = entry;
    number_is = number;
  })

  -- ---- what is delivered is listed

  -- p's delivery of m at i is listed
  pub record Listed (l p i : ℕ) (m : MsgId) : Type 0 where
    pub s : StayOf l p
    pub conf : ConfId
    pub at : ℕ
    pub after : s.stay.from < i
    pub until : i < s.stay.end
    pub delivers : Delivers (log_of run p) i m conf
    pub is : IsDeliveryOf s.replayed.line.numbers g s.stay at i m
    pub event : IsEventAt run lines l i (Deliver m conf) is.number

  pub listed : (l p i : ℕ) (m : MsgId) → IsLogAt run l p → DeliversIn (log_of run p) g.ring m i → Listed l p i m
  listed l p i m log (d, at, belongs) =
      let s = stay_around l p i d log (Deliver m d, at, refl) belongs in
      let bounds = s.is.here i d (Deliver m d, at, refl) belongs in
      let entry = own_entry l p i (Deliver m d) s log at in
      let told = s.replayed.are.listed i (Deliver m d) bounds.0 bounds.1 entry in
      record {
        s = s;
        conf = d;
        at = told.0;
        after = bounds.0;
        until = bounds.1;
        delivers = at;
        is = told.1;
        event = own_event l p i (Deliver m d) told.1.number s entry told.1.own_number;
      }

  -- ---- what is listed is delivered

  pub got_at : (k : ℕ) (got : Got) → slice_get g.got.items k ≡ Some got → IsGotAt g traffic.logs k
  got_at k got at = seen.lists.got.each k (slice_get_within g.got.items k got at)

  -- the log at l, of p, delivers what is listed at k
  pub record Found (k l p : ℕ) (got : Got) (sent : Sent) : Type 0 where
    pub s : StayOf l p
    pub told : IsDeliveredAt s.replayed.log.entries s.replayed.line.numbers g s.stay k
    pub delivers : Delivers (log_of run p) told.at sent.message told.conf
    pub event : IsEventAt run lines l told.at (Deliver sent.message told.conf) told.is.number
    pub there : IsThere got s.stay told.at

  pub found : (k l p : ℕ) (got : Got) (sent : Sent) → slice_get g.got.items k ≡ Some got → slice_get g.sent.items got.sent ≡ Some sent → IsLogAt run l p → IsBy got l → Found k l p got sent
  found k l p got sent at of log by =
      let is = got_at k got at in
      let gots : is.got ≡ got = one_at g.got.items k is.got got is.got_is at in
      let has = (seen.ends.all.exact l).0 (is.among l (subst (λ (x : Got). IsBy x l) (sym gots) by)) in
      let s = stay_with l p has.at has.stay log has.stands has.of in
      let d = s.replayed.are.delivered k got (slice_get_within g.got.items k got at) at (subst (λ (j : ℕ). IsBy got j) (sym s.log) by) in
      let same : d.is.got ≡ got = one_at g.got.items k d.is.got got d.is.got_is at in
      let sents : d.is.sent ≡ sent = one_at g.sent.items got.sent d.is.sent sent (subst (λ (x : Got). slice_get g.sent.items x.sent ≡ Some d.is.sent) same d.is.sent_is) of in
      let message : d.message ≡ sent.message = sym d.is.message_is ∙ ap (λ (x : Sent). x.message) sents in
      let entry : slice_get s.replayed.log.entries d.at ≡ Some (Deliver sent.message d.conf) = d.entry ∙ ap (λ (m : MsgId). Some (Deliver m d.conf)) message in
      let event = own_event l p d.at (Deliver sent.message d.conf) d.is.number s entry d.is.own_number in
      record {
        s = s;
        told = d;
        delivers = entry_of run lines l p d.at (Deliver sent.message d.conf) d.is.number is_run.rising log event;
        event = event;
        there = subst (λ (x : Got). IsThere x s.stay d.at) same d.is.there;
      }

  -- ---- a message is listed once

  -- some log delivers what is listed at k
  record Somewhere (k : ℕ) (got : Got) (sent : Sent) : Type 0 where
    pub l : ℕ
    pub p : ℕ
    pub log : IsLogAt run l p
    pub found : Found k l p got sent

  somewhere : (k : ℕ) (got : Got) (sent : Sent) → slice_get g.got.items k ≡ Some got → slice_get g.sent.items got.sent ≡ Some sent → Somewhere k got sent
  somewhere k got sent at of =
      let is = got_at k got at in
      let same : is.got ≡ got = one_at g.got.items k is.got got is.got_is at in
      let l = is.some.0 in
      let by : IsBy got l = subst (λ (x : Got). IsBy x l) same is.some.1 in
      let has = (seen.ends.all.exact l).0 (is.among l is.some.1) in
      let here = replayed_at has.at has.stay has.stands in
      let log : IsLogAt run l here.log.proc = record { log = here.log; stands = subst (λ (j : ℕ). slice_get run j ≡ Some here.log) has.of here.log_is; proc = refl } in
      record { l = l; p = here.log.proc; log = log; found = found k l here.log.proc got sent at of log by }

  pub one_got : (j k : ℕ) (a b : Got) (s t : Sent) → slice_get g.got.items j ≡ Some a → slice_get g.got.items k ≡ Some b → slice_get g.sent.items a.sent ≡ Some s → slice_get g.sent.items b.sent ≡ Some t
      → s.message ≡ t.message → j ≡ k
  one_got j k a b s t at_j at_k of_a of_b same =
      let one = somewhere j a s at_j of_a in
      let other = somewhere k b t at_k of_b in
      let first = one.found.told in
      let second = other.found.told in
      let event : IsEventAt run lines one.l first.at (Deliver t.message first.conf) first.is.number = subst (λ (m : MsgId). IsEventAt run lines one.l first.at (Deliver m first.conf) first.is.number) same one.found.event in
      same_index g.got_numbers.items j k first.is.number second.is.number seen.lists.got_rise first.is.number_is second.is.number_is
      (one_number run lines is_run.rising certified one.l other.l one.p other.p first.at second.at t.message first.conf second.conf first.is.number second.is.number one.log other.log event other.found.event)

  -- ---- what was sent

  -- the k-th message was sent here
  pub record SentAt (k : ℕ) (sent : Sent) : Type 0 where
    pub p : ℕ
    pub at : ℕ
    pub origin : Origin
    pub number : ℕ
    pub log : IsLogAt run sent.sender p
    pub entry : slice_get (log_of run p) at ≡ Some (Send sent.message (Regular g.ring) origin.service)
    pub event : IsEventAt run lines sent.sender at (Send sent.message (Regular g.ring) origin.service) number
    pub number_is : slice_get g.sent_numbers.items k ≡ Some number
    pub before : ComesBefore g.got_numbers.items sent.before number
    pub linked : IsLinked g.got.items k sent
    pub origin_is : slice_get g.origins.items k ≡ Some origin

  pub sent_at : (k : ℕ) (sent : Sent) → slice_get g.sent.items k ≡ Some sent → SentAt k sent
  sent_at k sent at =
      let within = slice_get_within g.sent.items k sent at in
      let is = seen.lists.sent.each k within in
      let there = (seen.ends.all.exact is.sent.sender).0 is.among in
      let replayed = seen.lists.replayed.each there.at there.stay there.before there.stands in
      subst (λ (s : Sent). SentAt k s) (one_at g.sent.items k is.sent sent is.sent_is at) (of is there.stay there.of replayed (replayed.sends.each k is.sent within is.sent_is (sym there.of)))
    where
      of : (is : IsSentAt g traffic.logs k) (stay : Stay) → stay.log ≡ is.sent.sender → (r : IsReplayed run lines g stay) → IsSentIn r.log.entries r.line.numbers g stay k → SentAt k is.sent
      of is stay by r here =
          let o = here.is in
          let same : o.sent ≡ is.sent = one_at g.sent.items k o.sent is.sent o.sent_is is.sent_is in
          let number : o.number ≡ is.number = one_at g.sent_numbers.items k o.number is.number o.number_is is.number_is in
          let send : here.entry ≡ Send is.sent.message (Regular g.ring) o.origin.service = subst (λ (s : Sent). here.entry ≡ Send s.message (Regular g.ring) o.origin.service) same o.send.is in
          let event : IsEventAt run lines is.sent.sender here.at (Send is.sent.message (Regular g.ring) o.origin.service) is.number = record {
            log = r.log;
            line = r.line;
            log_is = subst (λ (l : ℕ). slice_get run l ≡ Some r.log) by r.log_is;
            line_is = subst (λ (l : ℕ). slice_get lines l ≡ Some r.line) by r.line_is;
            entry_is = here.stands ∙ ap Some send;
            number_is = o.own_number ∙ ap Some number;
          } in
          let log : IsLogAt run is.sent.sender r.log.proc = record { log = r.log; stands = event.log_is; proc = refl } in
          record {
            p = r.log.proc;
            at = here.at;
            origin = o.origin;
            number = is.number;
            log = log;
            entry = entry_of run lines is.sent.sender r.log.proc here.at (Send is.sent.message (Regular g.ring) o.origin.service) is.number is_run.rising log event;
            event = event;
            number_is = is.number_is;
            before = is.before;
            linked = is.linked;
            origin_is = o.origin_is;
          }

  -- the number of a send is that in the list
  pub number_of_send : (k l p i : ℕ) (sent : Sent) (x : ConfId) (e : Entry) (n : ℕ) → (s : SentAt k sent) → IsLogAt run l p → Sends (log_of run p) i sent.message x → IsEventAt run lines l i e n → s.number ≡ n
  number_of_send k l p i sent x e n s log sends event =
      let one = orderly.once.one_send s.p s.at p i sent.message (Regular g.ring) x (s.origin.service, s.entry) sends in
      let there : IsLogAt run sent.sender p = subst (λ (q : ℕ). IsLogAt run sent.sender q) one.0 s.log in
      let same : sent.sender ≡ l = one_log run sent.sender l p is_run.rising there log in
      let here : IsEventAt run lines l i (Send sent.message (Regular g.ring) s.origin.service) s.number =
      subst (λ (j : ℕ). IsEventAt run lines l j (Send sent.message (Regular g.ring) s.origin.service) s.number) one.1 (subst (λ (j : ℕ). IsEventAt run lines j s.at (Send sent.message (Regular g.ring) s.origin.service) s.number) same s.event) in
      (one_event run lines l i (Send sent.message (Regular g.ring) s.origin.service) e s.number n here event).1

  pub one_sent : (j k : ℕ) (s t : Sent) → slice_get g.sent.items j ≡ Some s → slice_get g.sent.items k ≡ Some t → s.message ≡ t.message → j ≡ k
  one_sent j k s t at_j at_k same =
      let a = sent_at j s at_j in
      let b = sent_at k t at_k in
      let sends : Sends (log_of run b.p) b.at s.message (Regular g.ring) = (b.origin.service, rw same b.entry) in
      same_index g.sent_numbers.items j k a.number b.number seen.lists.sent_rise a.number_is b.number_is
      (number_of_send j t.sender b.p b.at s (Regular g.ring) (Send t.message (Regular g.ring) b.origin.service) b.number a b.log sends b.event)
