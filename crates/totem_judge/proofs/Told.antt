-- The lists of a configuration as parts of its traffic: what was sent, what is delivered, by which logs, and the order.
use Rattle.totem_judge.proofs.Common.{◌≡◌, inl, inr, ℕ, ◌<◌, ◌≤◌, List, slice_get, Some, true, refl, sym, ◌∙◌, ap, subst, arith, ◌↔◌, IsTrue, slice_get_within, Regular, MsgId, Send, Deliver, Log, Sends, Delivers, IsSafe, log_of, DeliversIn, HasDelivered, Numbering, Sent, Got, Traffic, IsBy, has_log, one_at, is_safe, ComesBefore, IsThere, IsOriginAt, IsGotAt}
use Rattle.totem_names.specs.declared.message.Service.{Service}
use Rattle.totem_names.specs.declared.message.Service.TheVariants as services
use Rattle.totem_judge_traffic.specs.LogSets.{Has}
use Rattle.totem_judge_traffic.specs.Traffics.{IsLogAt, AreLogsOf, DeliversBehind, IsSentIn, IsOf, IsGotIn, HasSent, HasGot, SentInOrder, GotInOrder, HeardBefore, GotBehind}
use Rattle.totem_judge.specs.declared.gathered.Origin.{Origin}
use Rattle.totem_judge.specs.declared.gathered.Gathered.{Gathered}
use Rattle.totem_judge.proofs.Numbers.{below_or_not, event_of, in_order, by_number}
use Rattle.totem_judge.proofs.Listed.{Verified, Listed, SentAt, before_turn, behind_turn, follows_here, own_entry, stay_around, got_at, listed, found, sent_at, number_of_send, one_got, one_sent}

module _ {run : List Log} {lines : List Numbering} {g : Gathered} {traffic : Traffic} (v : Verified run lines g traffic) where
  open v use {is_run, orderly, certified, seen}

  -- ---- which logs deliver

  -- the place where p's delivery of m is listed
  place_of : (k l p i : ℕ) (m : MsgId) (got : Got) (sent : Sent) → slice_get g.got.items k ≡ Some got → slice_get g.sent.items got.sent ≡ Some sent → sent.message ≡ m → (f : Listed v l p i m) → f.at ≡ k
  place_of k l p i m got sent at of is f = one_got v f.at k f.is.got got f.is.sent sent f.is.got_is at f.is.sent_is of (f.is.message_is ∙ sym is)

  there_of : (k l p i : ℕ) (m : MsgId) (got : Got) (sent : Sent) → slice_get g.got.items k ≡ Some got → slice_get g.sent.items got.sent ≡ Some sent → sent.message ≡ m → (f : Listed v l p i m) → IsThere got f.s.stay i
  there_of k l p i m got sent at of is f =
      let same = place_of k l p i m got sent at of is f in
      subst (λ (x : Got). IsThere x f.s.stay i) (one_at g.got.items k f.is.got got (subst (λ (j : ℕ). slice_get g.got.items j ≡ Some f.is.got) same f.is.got_is) at) f.is.there

  regular_of : (k : ℕ) (got : Got) (sent : Sent) → slice_get g.got.items k ≡ Some got → slice_get g.sent.items got.sent ≡ Some sent → AreLogsOf run got.regular (λ p. (i : ℕ) × Delivers (log_of run p) i sent.message (Regular g.ring))
  regular_of k got sent at of = record { exact = λ l p log. (from l p log, to l p log) }
    where
      from : (l p : ℕ) → IsLogAt run l p → Has got.regular l → (i : ℕ) × Delivers (log_of run p) i sent.message (Regular g.ring)
      from l p log has =
          let f = found v k l p got sent at of log (inl has) in
          elim (below_or_not f.told.at f.s.stay.turn) [
            | inl under ↦ (f.told.at, (let same = f.s.is.regular f.told.at f.told.conf f.told.after under (Deliver sent.message f.told.conf, f.delivers, refl) in rw same at f.delivers))
            | inr behind ↦ absurd ((f.there.transitional behind).1 (subst (λ (j : ℕ). Has got.regular j) (sym f.s.log) has))
          ]

      to : (l p : ℕ) → IsLogAt run l p → (i : ℕ) × Delivers (log_of run p) i sent.message (Regular g.ring) → Has got.regular l
      to l p log (i, delivers) =
          let f = listed v l p i sent.message log (Regular g.ring, delivers, inl refl) in
          let under = before_turn v l p i f.s f.after f.until (Deliver sent.message (Regular g.ring), delivers, refl) in
          subst (λ (j : ℕ). Has got.regular j) f.s.log (((there_of k l p i sent.message got sent at of refl f).regular under).0)

  transitional_of : (k : ℕ) (got : Got) (sent : Sent) → slice_get g.got.items k ≡ Some got → slice_get g.sent.items got.sent ≡ Some sent → AreLogsOf run got.transitional (DeliversBehind run g.ring sent.message)
  transitional_of k got sent at of = record { exact = λ l p log. (from l p log, to l p log) }
    where
      from : (l p : ℕ) → IsLogAt run l p → Has got.transitional l → DeliversBehind run g.ring sent.message p
      from l p log has =
          let f = found v k l p got sent at of log (inr has) in
          let here : Has got.transitional f.s.stay.log = subst (λ (j : ℕ). Has got.transitional j) (sym f.s.log) has in
          let le : f.s.stay.turn ≤ f.told.at = elim (below_or_not f.told.at f.s.stay.turn) [
            | inl under ↦ absurd ((f.there.regular under).1 here)
            | inr behind ↦ behind
          ] in
          (f.told.at, f.told.conf, f.delivers, follows_here v l p f.told.at f.told.conf f.s le f.told.until (Deliver sent.message f.told.conf, f.delivers, refl))

      to : (l p : ℕ) → IsLogAt run l p → DeliversBehind run g.ring sent.message p → Has got.transitional l
      to l p log (i, d, delivers, follows) =
          let f = listed v l p i sent.message log (d, delivers, inr follows) in
          let le = behind_turn v l p i d f.s f.after (Deliver sent.message d, delivers, refl) follows in
          subst (λ (j : ℕ). Has got.transitional j) f.s.log (((there_of k l p i sent.message got sent at of refl f).transitional le).0)

  -- a log that delivers what is listed is among those listed for it
  is_by : (k l p i : ℕ) (m : MsgId) (got : Got) (sent : Sent) → slice_get g.got.items k ≡ Some got → slice_get g.sent.items got.sent ≡ Some sent → sent.message ≡ m → Listed v l p i m → IsBy got l
  is_by k l p i m got sent at of is f =
      let there = there_of k l p i m got sent at of is f in
      elim (below_or_not i f.s.stay.turn) [
        | inl under ↦ inl (subst (λ (j : ℕ). Has got.regular j) f.s.log ((there.regular under).0))
        | inr behind ↦ inr (subst (λ (j : ℕ). Has got.transitional j) f.s.log ((there.transitional behind).0))
      ]

  by_of : (k : ℕ) (sent : Sent) → slice_get g.sent.items k ≡ Some sent → AreLogsOf run sent.by (λ p. HasDelivered (log_of run p) g.ring sent.message)
  by_of k sent at = record { exact = λ l p log. (from l p log, to l p log) }
    where
      from : (l p : ℕ) → IsLogAt run l p → Has sent.by l → HasDelivered (log_of run p) g.ring sent.message
      from l p log has =
          let link = (sent_at v k sent at).linked.each l has in
          let of : slice_get g.sent.items link.got.sent ≡ Some sent = subst (λ (j : ℕ). slice_get g.sent.items j ≡ Some sent) (sym link.of) at in
          let f = found v link.at l p link.got sent link.stands of log link.by in
          elim (below_or_not f.told.at f.s.stay.turn) [
            | inl under ↦ (f.told.at, (f.told.conf, f.delivers, inl (f.s.is.regular f.told.at f.told.conf f.told.after under (Deliver sent.message f.told.conf, f.delivers, refl))))
            | inr behind ↦ (f.told.at, (f.told.conf, f.delivers, inr (follows_here v l p f.told.at f.told.conf f.s behind f.told.until (Deliver sent.message f.told.conf, f.delivers, refl))))
          ]

      to : (l p : ℕ) → IsLogAt run l p → HasDelivered (log_of run p) g.ring sent.message → Has sent.by l
      to l p log (i, delivers) =
          let f = listed v l p i sent.message log delivers in
          let is = got_at v f.at f.is.got f.is.got_is in
          let gots : is.got ≡ f.is.got = one_at g.got.items f.at is.got f.is.got is.got_is f.is.got_is in
          let place : f.is.got.sent ≡ k = one_sent v f.is.got.sent k f.is.sent sent f.is.sent_is at f.is.message_is in
          let of : slice_get g.sent.items is.got.sent ≡ Some sent = subst (λ (j : ℕ). slice_get g.sent.items j ≡ Some sent) (sym (ap (λ (x : Got). x.sent) gots ∙ place)) at in
          let same : is.sent ≡ sent = one_at g.sent.items is.got.sent is.sent sent is.sent_is of in
          let by : IsBy f.is.got l = is_by f.at l p i sent.message f.is.got f.is.sent f.is.got_is f.is.sent_is f.is.message_is f in
          subst (λ (s : Sent). Has s.by l) same (is.within l (subst (λ (x : Got). IsBy x l) (sym gots) by))

  -- ---- the lists

  pub sent_in : (k : ℕ) (sent : Sent) → slice_get g.sent.items k ≡ Some sent → IsSentIn run g.ring sent
  sent_in k sent at =
      let s = sent_at v k sent at in
      record { proc = s.p; at = s.at; sender = s.log; sends = (s.origin.service, s.entry); by = by_of k sent at }

  safe_told : (service : Service) → is_safe service ≡ true → service ≡ services.Safe
  safe_told services.Agreed e = absurd cc
  safe_told services.Safe e = refl

  pub got_in : (k : ℕ) (got : Got) → slice_get g.got.items k ≡ Some got → IsGotIn run g.ring g.sent.items got
  got_in k got at = subst (λ (x : Got). IsGotIn run g.ring g.sent.items x) same (record {
    sent = is.sent;
    of = is.sent_is;
    sender = is.sender;
    safe = (from, to);
    regular = regular_of k is.got is.sent is.got_is is.sent_is;
    transitional = transitional_of k is.got is.sent is.got_is is.sent_is;
  })
    where
      is : IsGotAt g traffic.logs k
      is = got_at v k got at

      same : is.got ≡ got
      same = one_at g.got.items k is.got got is.got_is at

      s : SentAt v is.got.sent is.sent
      s = sent_at v is.got.sent is.sent is.sent_is

      origins : is.origin ≡ s.origin
      origins = one_at g.origins.items is.got.sent is.origin s.origin is.origin_is s.origin_is

      from : IsTrue is.got.safe → IsSafe run is.sent.message
      from told =
          let kind : is_safe s.origin.service ≡ true = ap (λ (o : Origin). is_safe o.service) (sym origins) ∙ sym is.kind ∙ told in
          (s.p, s.at, Regular g.ring, rw (safe_told s.origin.service kind) at s.entry)

      to : IsSafe run is.sent.message → IsTrue is.got.safe
      to (q, j, x, at_j) =
          let one = orderly.once.one_send s.p s.at q j is.sent.message (Regular g.ring) x (s.origin.service, s.entry) (services.Safe, at_j) in
          let here : slice_get (log_of run q) j ≡ Some (Send is.sent.message (Regular g.ring) s.origin.service) = rw one.1 at (rw one.0 at s.entry) in
          let services_are : s.origin.service ≡ services.Safe = cc in
          is.kind ∙ ap (λ (o : Origin). is_safe o.service) origins ∙ ap is_safe services_are

  pub all_sent : (p i : ℕ) (m : MsgId) → Sends (log_of run p) i m (Regular g.ring) → HasSent run g.sent.items p m
  all_sent p i m (service, at) =
      let log = has_log run p i (Send m (Regular g.ring) service) at in
      let l = log.0 in
      let s = stay_around v l p i (Regular g.ring) log.1 (Send m (Regular g.ring) service, at, refl) (inl refl) in
      let bounds = s.is.here i (Regular g.ring) (Send m (Regular g.ring) service, at, refl) (inl refl) in
      let told = s.replayed.are.listed i (Send m (Regular g.ring) service) bounds.0 bounds.1 (own_entry v l p i (Send m (Regular g.ring) service) s log.1 at) in
      of l log.1 s.replayed.line.numbers told.0 s.stay.log told.1 s.log
    where
      of : (l : ℕ) → IsLogAt run l p → (numbers : List ℕ) (k y : ℕ) (o : IsOriginAt numbers g y k i (Send m (Regular g.ring) service)) → y ≡ l → HasSent run g.sent.items p m
      of l log numbers k y o same =
          let sender : o.sent.sender ≡ l = o.sender ∙ same in
          let entries = o.send.is in
          let message : o.sent.message ≡ m = cc in
          record { at = k; sent = o.sent; stands = o.sent_is; message = message; sender = subst (λ (j : ℕ). IsLogAt run j p) (sym sender) log }

  pub all_got : (p i : ℕ) (m : MsgId) → DeliversIn (log_of run p) g.ring m i → HasGot g.sent.items g.got.items m
  all_got p i m (d, delivers, belongs) =
      let log = has_log run p i (Deliver m d) delivers in
      let f = listed v log.0 p i m log.1 (d, delivers, belongs) in
      record { at = f.at; got = f.is.got; stands = f.is.got_is; sent = f.is.sent; of = f.is.sent_is; message = f.is.message_is }

  -- ---- the order

  -- the number of a delivery of what is listed at j
  number_at : (j l p h : ℕ) (a : Got) (s : Sent) → slice_get g.got.items j ≡ Some a → IsOf g.sent.items a s → (f : Listed v l p h s.message) → slice_get g.got_numbers.items j ≡ Some f.is.number
  number_at j l p h a s at of f = subst (λ (k : ℕ). slice_get g.got_numbers.items k ≡ Some f.is.number) (place_of j l p h s.message a s at of refl f) f.is.number_is

  pub sent_order : SentInOrder run g.ring g.sent.items
  sent_order = record { each = go }
    where
      go : (j k : ℕ) (s t : Sent) (p h i : ℕ) → slice_get g.sent.items j ≡ Some s → slice_get g.sent.items k ≡ Some t → Sends (log_of run p) h s.message (Regular g.ring) → Sends (log_of run p) i t.message (Regular g.ring) → h < i → j < k
      go j k s t p h i at_j at_k (first, at_h) (second, at_i) lt =
          let a = sent_at v j s at_j in
          let b = sent_at v k t at_k in
          let log = has_log run p h (Send s.message (Regular g.ring) first) at_h in
          let e = event_of run lines log.0 p h (Send s.message (Regular g.ring) first) is_run.rising certified.matches log.1 at_h in
          let f = event_of run lines log.0 p i (Send t.message (Regular g.ring) second) is_run.rising certified.matches log.1 at_i in
          let n : a.number ≡ e.0 = number_of_send v j log.0 p h s (Regular g.ring) (Send s.message (Regular g.ring) first) e.0 a log.1 (first, at_h) e.1 in
          let o : b.number ≡ f.0 = number_of_send v k log.0 p i t (Regular g.ring) (Send t.message (Regular g.ring) second) f.0 b log.1 (second, at_i) f.1 in
          let above = (in_order run lines is_run.rising certified log.0 p h i (Send s.message (Regular g.ring) first) (Send t.message (Regular g.ring) second) e.0 f.0 log.1 e.1 f.1).0 lt in
          (by_number g.sent_numbers.items j k a.number b.number seen.lists.sent_rise a.number_is b.number_is).0 (omega (arith, n, o, above))

  pub got_order : GotInOrder run g.ring g.sent.items g.got.items
  got_order = record { each = go }
    where
      go : (j k : ℕ) (a b : Got) (s t : Sent) (p h i : ℕ) → slice_get g.got.items j ≡ Some a → slice_get g.got.items k ≡ Some b → IsOf g.sent.items a s → IsOf g.sent.items b t
          → DeliversIn (log_of run p) g.ring s.message h → DeliversIn (log_of run p) g.ring t.message i → (h < i) ↔ (j < k)
      go j k a b s t p h i at_j at_k of_a of_b (d, first, belongs) second =
          let log = has_log run p h (Deliver s.message d) first in
          let e = listed v log.0 p h s.message log.1 (d, first, belongs) in
          let f = listed v log.0 p i t.message log.1 second in
          let logs = in_order run lines is_run.rising certified log.0 p h i (Deliver s.message e.conf) (Deliver t.message f.conf) e.is.number f.is.number log.1 e.event f.event in
          let lists = by_number g.got_numbers.items j k e.is.number f.is.number seen.lists.got_rise (number_at j log.0 p h a s at_j of_a e) (number_at k log.0 p i b t at_k of_b f) in
          (λ lt. lists.0 (logs.0 lt), λ lt. logs.1 (lists.1 lt))

  pub heard : HeardBefore run g.ring g.sent.items g.got.items
  heard = record { each = go }
    where
      before_of : (j n m before : ℕ) → ComesBefore g.got_numbers.items before m → slice_get g.got_numbers.items j ≡ Some n → n < m → j < before
      before_of j n m before (inl all) at lt = omega (arith, all, slice_get_within g.got_numbers.items j n at)
      before_of j n m before (inr (o, at_o, above)) at lt = (by_number g.got_numbers.items j before n o seen.lists.got_rise at at_o).0 (omega arith)

      go : (j k : ℕ) (a : Got) (s t : Sent) (p h i : ℕ) → slice_get g.got.items j ≡ Some a → IsOf g.sent.items a s → slice_get g.sent.items k ≡ Some t
          → Delivers (log_of run p) h s.message (Regular g.ring) → Sends (log_of run p) i t.message (Regular g.ring) → h < i → j < t.before
      go j k a s t p h i at_j of_a at_k delivers (service, at_i) lt =
          let log = has_log run p h (Deliver s.message (Regular g.ring)) delivers in
          let e = listed v log.0 p h s.message log.1 (Regular g.ring, delivers, inl refl) in
          let b = sent_at v k t at_k in
          let f = event_of run lines log.0 p i (Send t.message (Regular g.ring) service) is_run.rising certified.matches log.1 at_i in
          let n : b.number ≡ f.0 = number_of_send v k log.0 p i t (Regular g.ring) (Send t.message (Regular g.ring) service) f.0 b log.1 (service, at_i) f.1 in
          let above = (in_order run lines is_run.rising certified log.0 p h i (Deliver s.message e.conf) (Send t.message (Regular g.ring) service) e.is.number f.0 log.1 e.event f.1).0 lt in
          before_of j e.is.number b.number t.before b.before (number_at j log.0 p h a s at_j of_a e) (omega (arith, n, above))

  pub behind : GotBehind g.sent.items g.got.items
  behind = record { each = go }
    where
      go : (j : ℕ) (a : Got) (s : Sent) → slice_get g.got.items j ≡ Some a → IsOf g.sent.items a s → s.before ≤ j
      go j a s at of =
          let is = got_at v j a at in
          let gots : is.got ≡ a = one_at g.got.items j is.got a is.got_is at in
          let same : is.sent ≡ s = one_at g.sent.items a.sent is.sent s (subst (λ (x : Got). slice_get g.sent.items x.sent ≡ Some is.sent) gots is.sent_is) of in
          subst (λ (x : Sent). x.before ≤ j) same is.behind
