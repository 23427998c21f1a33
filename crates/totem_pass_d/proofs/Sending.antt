-- What the stays send and deliver, noted entry by entry and stay by stay.
use Rattle.std.proofs.Common.{arith}
use Rattle.totem_pass_d.proofs.Common.{◌≡◌, ℕ, ◌+◌, ◌<◌, inl, inr, List, length, slice_get, Some, None, true, refl, sym, ◌∙◌, ap, below_more, Option, IfSome, IfNone, slice_get_within, RingId, ConfId, Regular, MsgId, Service, Entry, Send, Deliver, Log, Sends, log_of, Delivers, MeetsPasses, before_or_at, equal_at, apart_or_at, exact_message, IsStay, HasStay, AreStays, IsSendingOf, DeliversNot, IsSendOf, HasSendsTo, NotesSends, IsSendOfOne, HasSends, AreSends, DeliversIn, delivered_at, IsDelivery, IsNoDelivery, IsTold, Tells}
use Rattle.std.specs.BTreeMap.{BTreeMap}
use Rattle.std.specs.BTreeMap as tree
use Rattle.totem_names.specs.contracts.message.MsgIdOrd.TheImpl as message
use Rattle.totem_pass_d.specs.declared.stays.Stay.{Stay}
use Rattle.totem_pass_d.specs.declared.stays.Sending.{Sending}
use Rattle.totem_pass_d.proofs.Facts.{stay_of, sends_of, StayFacts}

-- ---- entry by entry

-- the entry at n is no send
pub notes_nothing : (stay : Stay) (n : ℕ) (old now : BTreeMap MsgId Sending) (e : Entry) → slice_get stay.log.now n ≡ Some e → ((m : MsgId) (x : ConfId) (v : Service) → e ≡ Send m x v → ⊥) → NotesSends stay n old now → NotesSends stay (n + 1) old now
notes_nothing stay n old now e at_n other before = grind arith

-- the send at n is noted
pub notes_one : (stay : Stay) (n : ℕ) (old now new : BTreeMap MsgId Sending) (e : Entry) (m : MsgId) (x : ConfId) (v : Service) (sending : Sending) → slice_get stay.log.now n ≡ Some e → e ≡ Send m x v → stay.from < n → n < stay.turn
    → sending.proc ≡ stay.proc → sending.at ≡ n → sending.service ≡ v → tree.Updates message.cmp-value.it now new m (Some sending) → NotesSends stay n old now → NotesSends stay (n + 1) old new
notes_one stay n old now new e m x v sending at_e sends after until proc index service h before = record {
  only = λ k s at. elim (apart_or_at message.cmp-value.it m k) [
    | inl here ↦ (let same = exact_message m k (equal_at (message.cmp-value.it m k) here) in let found : tree.get message.cmp-value.it new m ≡ Some s = rw (← same) at at in let noted = h.1 in let one : sending ≡ s = cc in inr (rw (← one, ← same) is))
    | inr apart ↦ before.only k s (sym (h.2 k apart) ∙ at)
  ];
  kept = λ k none. elim (apart_or_at message.cmp-value.it m k) [
    | inl here ↦ absurd (not_none k here none)
    | inr apart ↦ before.kept k (sym (h.2 k apart) ∙ none)
  ];
  whole = record {
    each = below_more _ _ earlier.each (λ k y w over at none. (let one : k ≡ m = cc in let found : tree.get message.cmp-value.it new m ≡ None = rw one at none in let noted = h.1 in cc));
  };
}
  where
    at_n : slice_get stay.log.now n ≡ Some (Send m x v)
    at_n = rw sends at at_e

    is : IsSendOf stay m sending
    is = record { conf = x; proc = proc; after = rw index after; until = rw index until; sends = rw (index, service) at_n }

    not_none : (k : MsgId) → tree.is_at (message.cmp-value.it m) k ≡ true → tree.get message.cmp-value.it new k ≡ None → ⊥
    not_none k here none = (let same = exact_message m k (equal_at (message.cmp-value.it m k) here) in let found : tree.get message.cmp-value.it new m ≡ None = rw (← same) at none in let noted = h.1 in cc)

    earlier : HasSendsTo stay n new
    earlier = record {
      each = λ i below k y w over at none. elim (apart_or_at message.cmp-value.it m k) [
        | inl here ↦ not_none k here none
        | inr apart ↦ before.whole.each i below k y w over at (sym (h.2 k apart) ∙ none)
      ];
    }

-- ---- stay by stay

pub sends_more : (stays : List Stay) (n : ℕ) (old new : BTreeMap MsgId Sending) (stay : Stay) → slice_get stays n ≡ Some stay → NotesSends stay stay.turn old new → HasSends stays n old → HasSends stays (n + 1) new
sends_more stays n old new stay at_n notes before = record {
  only = λ m sending at. elim (notes.only m sending at) [ inl known ↦ before.only m sending known | inr is ↦ record { at = n; stay = stay; stands = at_n; is = is } ];
  whole = λ k other lt at. elim (before_or_at k n lt) [
    | inl under ↦ (let has = before.whole k other under at in record { each = λ i until m x v after sent none. has.each i until m x v after sent (notes.kept m none) })
    | inr same ↦ (let one : stay ≡ other = (let there : slice_get stays n ≡ Some other = rw same at at in cc) in rw one at notes.whole)
  ];
}

-- a send in c is before the turn
send_before_turn : (log : List Entry) (c : RingId) (from turn end i : ℕ) (m : MsgId) → IsStay log c from turn end → Sends log i m (Regular c) → (from < i) × (i < turn)
send_before_turn log c from turn end i m is (v, at) =
    let here = is.here i (Regular c) (Send m (Regular c) v, at, refl) (inl refl) in
    (here.0, (sends_of log c from turn end i m (Regular c) is tt here.0 here.1 (v, at)).1)

-- what is noted of all stays are the sends in c
pub are_sends : (run : List Log) (c : RingId) (stays : List Stay) (sends : BTreeMap MsgId Sending) → MeetsPasses run → AreStays run c stays → HasSends stays (length stays) sends → AreSends run c sends
are_sends run c stays sends meets are has = record {
  found = λ m sending at. found m sending (has.only m sending at);
  none = λ m none. record { never = λ (p, i, sent). (let stands = (meets.placed p).named i (Regular c) (Send m (Regular c) sent.0, sent.1, refl) in not_sent m none p i sent (are.whole p stands.from stands.change)) };
}
  where
    found : (m : MsgId) (sending : Sending) → IsSendOfOne stays m sending → IsSendingOf run c m sending
    found m sending one =
        let of = stay_of run c stays one.stay are (record { at = one.at; stands = one.stands }) in
        let conf = of.is.regular sending.at one.is.conf one.is.after one.is.until (Send m one.is.conf sending.service, one.is.sends, refl) in
        record { sends = rw (one.is.proc, ← of.log, ← conf) one.is.sends }

    not_sent : (m : MsgId) → tree.get message.cmp-value.it sends m ≡ None → (p i : ℕ) → Sends (log_of run p) i m (Regular c) → HasStay stays p → ⊥
    not_sent m none p i sent h =
        let of = stay_of run c stays h.stay are (record { at = h.at; stands = h.stands }) in
        let log : h.stay.log.now ≡ log_of run p = of.log ∙ ap (λ q. log_of run q) h.proc in
        let here : Sends h.stay.log.now i m (Regular c) = rw log sent in
        let inside = send_before_turn h.stay.log.now c h.stay.from h.stay.turn h.stay.end i m of.is here in
        (has.whole h.at h.stay (slice_get_within stays h.at h.stay h.stands) h.stands).each i inside.1 m (Regular c) here.0 inside.0 here.1 none

-- ---- deliveries

-- the message that is delivered at an index
delivers : (log : List Entry) (i : ℕ) (m : MsgId) → delivered_at log i ≡ Some m → (x : ConfId) × Delivers log i m x
delivers log i m does = grind arith

-- what is found in a stay is delivered in its configurations
pub delivery_is : (run : List Log) (c : RingId) (stay : Stay) (m : MsgId) (found : Option ℕ) → StayFacts run c stay → IfSome found (IsDelivery stay.log.now stay.from stay.end m) → IfSome found (DeliversIn (log_of run stay.proc) c m)
delivery_is run c stay m None facts is = tt
delivery_is run c stay m (Some i) facts is = go (delivers stay.log.now i m is.does)
  where
    go : (x : ConfId) × Delivers stay.log.now i m x → DeliversIn (log_of run stay.proc) c m i
    go (x, there) = let at : Delivers (log_of run stay.proc) i m x = rw facts.log at there in (x, at, facts.stands i x (record { after = is.after; until = is.until }) (Deliver m x, at, refl))

-- what is not found is not delivered there
pub no_delivery : (run : List Log) (c : RingId) (stay : Stay) (m : MsgId) (found : Option ℕ) → StayFacts run c stay → IfNone found (IsNoDelivery stay.log.now stay.from stay.end m) → IfNone found (DeliversNot (log_of run stay.proc) c m)
no_delivery run c stay m (Some i) facts is = tt
no_delivery run c stay m None facts is = record {
  never = λ (i, (x, at, inside)). (let here = facts.is.here i x (Deliver m x, at, refl) inside in is.never i (record { after = here.0; until = here.1; does = rw (facts.log, at) refl }));
}

-- ---- what the indices say

told_more : (kept : MsgId → Option ℕ) (log : List Entry) (from end n : ℕ) → ((m : MsgId) → IsDelivery log from end m n → IsTold kept log from end m) → Tells kept log from end n → Tells kept log from end (n + 1)
told_more kept log from end n here before = grind (arith, before_or_at)

-- nothing is delivered at this index
pub nothing_told : (kept : MsgId → Option ℕ) (log : List Entry) (from end n : ℕ) → delivered_at log n ≡ None → Tells kept log from end n → Tells kept log from end (n + 1)
nothing_told kept log from end n none before = told_more kept log from end n (λ m h. absurd (let does = h.does in cc)) before

-- this index is entered for the message that is delivered at it
pub one_entered : (map new : BTreeMap MsgId ℕ) (log : List Entry) (from end n : ℕ) (m : MsgId) → from < n → n < end → delivered_at log n ≡ Some m → tree.Updates message.cmp-value.it map new m (Some n)
    → Tells (tree.get message.cmp-value.it map) log from end n → Tells (tree.get message.cmp-value.it new) log from end (n + 1)
one_entered map new log from end n m after until does h before = told_more (tree.get message.cmp-value.it new) log from end n (λ k g. (let other = g.does in let same : m ≡ k = cc in rw same at here)) (record {
  each = λ i k lt g. elim (apart_or_at message.cmp-value.it m k) [
    | inl at ↦ rw (exact_message m k (equal_at (message.cmp-value.it m k) at)) at here
    | inr apart ↦ (let old = before.each i k lt g in record { at = old.at; told_of = h.2 k apart ∙ old.told_of; does = old.does })
  ];
})
  where
    here : IsTold (tree.get message.cmp-value.it new) log from end m
    here = record { at = n; told_of = h.1; does = record { after = after; until = until; does = does } }

pub untold_never : (kept : MsgId → Option ℕ) (log : List Entry) (from end : ℕ) (m : MsgId) → Tells kept log from end end → kept m ≡ None → IsNoDelivery log from end m
untold_never kept log from end m tells none = record { never = λ k h. (let found = tells.each k m h.until h in let at = found.told_of in cc) }
