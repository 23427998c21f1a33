-- The list found for 4 is the least that breaks it: a delivery, its process's next change, and that of a process that
-- goes along without the message.
use Rattle.totem_pass_d.proofs.Common.{◌≡◌, ℕ, ◌+◌, ◌<◌, inl, inr, List, [], ◌∷◌, length, slice_get, Some, Bool, IsTrue, ◌↔◌, refl, sym, arith, OnTrue, OnFalse, RingId, ConfId, Regular, Transitional, MsgId, Place, Entry, Deliver, Log, log_of, ChangesTo, IsChange, Delivers, IsNextChange, Follows, Com, DeliversIn, BreaksAtomicityIn, GoesAt, ComesFirst, IsLeast, less_or_not, place, NoneFrom, IsLeastFrom, HoldsOfNone, IsOneEvent, same_change, change_within, one_next, IsStay, IsAmong, DeliversNot, IsInside, EachBeginsWithin, BeginsWithin, NoneWithin, IsLeastWithin, IsAnywhere, IsSpan, IsNoChange, NeverDelivers, IsPartner}
use Rattle.totem_pass_d.specs.declared.stays.Stay.{Stay}
use Rattle.totem_judge_traffic.proofs.Together.{follows_too}
use Rattle.totem_pass_d.proofs.Facts.{Facts}
use Rattle.totem_pass_d.proofs.Searching.{no_event, only_event, begins_at}

-- the next change after i, if there is none between i and j, and the one at j comes next
next_at : (log : List Entry) (i j k : ℕ) → (j < length log → IsNextChange log i j) → ((m : ℕ) → i < m → m < j → IsChange log m → ⊥) → IsNextChange log i k → k ≡ j
next_at log i j k next none is = elim (less_or_not j k) [
  | inl lt ↦ one_next log i k j is (next (omega (arith, change_within log k is.change.0 is.change.1)))
  | inr rest ↦ elim rest [ inl before ↦ absurd (none k is.later before is.change) | inr same ↦ sym same ]
]

-- the next change after the one to c, and after the one to what follows it
next_of_from : (log : List Entry) (c : RingId) (from turn end k : ℕ) → IsStay log c from turn end → IsNextChange log from k → k ≡ turn
next_of_from log c from turn end k is next = next_at log from turn k (λ lt. (is.next lt).1) (λ m after until change. let same = is.changes m after (omega (arith, is.until)) change in omega arith) next

next_of_turn : (log : List Entry) (c : RingId) (from turn end k : ℕ) → IsStay log c from turn end → turn < end → IsNextChange log turn k → k ≡ end
next_of_turn log c from turn end k is lt next = next_at log turn end k (is.last lt) (λ m after until change. let same = is.changes m (omega (arith, is.before)) until change in omega arith) next

-- the change to what follows c is at the turn
turn_of : (run : List Log) (c : RingId) (stays : List Stay) (stay : Stay) (x : ConfId) → Facts run c stays → IsAmong stays stay → Follows (log_of run stay.proc) c x → ChangesTo (log_of run stay.proc) stay.turn x × (stay.turn < stay.end)
turn_of run c stays stay x facts among f =
    let of = facts.each stay among in
    let from = facts.meets.one.once stay.proc f.from stay.from (Regular c) f.first.change of.is.change in
    let to = next_of_from (log_of run stay.proc) c stay.from stay.turn stay.end f.to of.is (rw from at f.next) in
    let change : ChangesTo (log_of run stay.proc) stay.turn x = rw to at f.change in
    (change, (of.is.next (change_within (log_of run stay.proc) stay.turn x change)).0)

-- a process changes to x where its span starts, and goes on where it ends
record Spans (log : List Entry) (x : ConfId) (ch nx : ℕ) : Type 0 where
  change : ChangesTo log ch x
  next : nx < length log → IsNextChange log ch nx
  one : (k : ℕ) → IsNextChange log ch k → k ≡ nx

spans : (run : List Log) (c : RingId) (stays : List Stay) (stay : Stay) (x : ConfId) (ch nx : ℕ) → Facts run c stays → IsAmong stays stay → IsSpan x stay ch nx → Com (log_of run stay.proc) c x → Spans (log_of run stay.proc) x ch nx
spans run c stays stay (Regular r) ch nx facts among (is_ch, is_nx) (inr f) = absurd f.transitional
spans run c stays stay (Transitional l n) ch nx facts among (is_ch, is_nx) (inl same) = absurd cc
spans run c stays stay (Regular r) ch nx facts among (is_ch, is_nx) (inl same) =
    let of = facts.each stay among in
    record {
      change = rw (is_ch, same) of.is.change;
      next = λ lt. rw (is_ch, is_nx) (of.is.next (rw is_nx at lt)).1;
      one = λ k next. rw is_nx (next_of_from (log_of run stay.proc) c stay.from stay.turn stay.end k of.is (rw is_ch at next));
    }
spans run c stays stay (Transitional l n) ch nx facts among (is_ch, is_nx) (inr f) =
    let of = facts.each stay among in
    let turn = turn_of run c stays stay (Transitional l n) facts among f in
    record {
      change = rw is_ch turn.0;
      next = λ lt. rw (is_ch, is_nx) (of.is.last turn.1 (rw is_nx at lt));
      one = λ k next. rw is_nx (next_of_turn (log_of run stay.proc) c stay.from stay.turn stay.end k of.is turn.1 (rw is_ch at next));
    }

goes_next : (run : List Log) (c : RingId) (stays : List Stay) (stay : Stay) (x d : ConfId) (ch nx k : ℕ) → Facts run c stays → IsAmong stays stay → IsSpan x stay ch nx → Com (log_of run stay.proc) c x → GoesAt (log_of run stay.proc) x d k → k ≡ nx
goes_next run c stays stay x d ch nx k facts among span inside (i, change, next, to) =
    let s = spans run c stays stay x ch nx facts among span inside in
    let same = facts.meets.one.once stay.proc i ch x change s.change in s.one k (rw same at next)

goes_here : (run : List Log) (c : RingId) (stays : List Stay) (stay : Stay) (x d : ConfId) (ch nx : ℕ) → Facts run c stays → IsAmong stays stay → IsSpan x stay ch nx → Com (log_of run stay.proc) c x → ChangesTo (log_of run stay.proc) nx d
    → GoesAt (log_of run stay.proc) x d nx
goes_here run c stays stay x d ch nx facts among span inside to =
    let s = spans run c stays stay x ch nx facts among span inside in
    (ch, s.change, s.next (change_within (log_of run stay.proc) nx d to), to)

belongs : (run : List Log) (c : RingId) (stays : List Stay) (stay : Stay) (x : ConfId) (ch nx : ℕ) → Facts run c stays → IsAmong stays stay → IsSpan x stay ch nx → ChangesTo (log_of run stay.proc) ch x → Com (log_of run stay.proc) c x
belongs run c stays stay (Regular r) ch nx facts among (is_ch, is_nx) change =
    inl (same_change (log_of run stay.proc) ch stay.from (Regular r) (Regular c) is_ch change (facts.each stay among).is.change)
belongs run c stays stay (Transitional l n) ch nx facts among (is_ch, is_nx) change =
    let of = facts.each stay among in
    let at : ChangesTo (log_of run stay.proc) stay.turn (Transitional l n) = rw is_ch at change in
    let lt = (of.is.next (change_within (log_of run stay.proc) stay.turn (Transitional l n) at)).0 in
    let turn = of.is.turns lt in
    let same = same_change (log_of run stay.proc) stay.turn stay.turn turn.conf (Transitional l n) refl turn.change at in
    inr (rw same at turn.follows)

-- a process that goes along without the message
pub none_elsewhere : (run : List Log) (c : RingId) (stays : List Stay) (stay : Stay) (m : MsgId) (x d : ConfId) (ch nx : ℕ) → Facts run c stays → IsAmong stays stay → IsSpan x stay ch nx → (ChangesTo stay.log.now ch x → ⊥)
    → NoneWithin IsAnywhere (IsOneEvent (IsPartner run c m x d)) stay
none_elsewhere run c stays stay m x d ch nx facts among span never =
    no_event IsAnywhere (IsPartner run c m x d) stay (λ i h. never (rw (facts.each stay among).log (spans run c stays stay x ch nx facts among span h.0).change))

pub none_next : (run : List Log) (c : RingId) (stays : List Stay) (stay : Stay) (m : MsgId) (x d : ConfId) (ch nx : ℕ) → Facts run c stays → IsAmong stays stay → IsSpan x stay ch nx → (ChangesTo stay.log.now nx d → ⊥)
    → NoneWithin IsAnywhere (IsOneEvent (IsPartner run c m x d)) stay
none_next run c stays stay m x d ch nx facts among span never = no_event IsAnywhere (IsPartner run c m x d) stay (λ i (inside, goes, lacks).
    let same = goes_next run c stays stay x d ch nx i facts among span inside goes in
    never (rw ((facts.each stay among).log, ← same) goes.3))

pub partner_here : (run : List Log) (c : RingId) (stays : List Stay) (stay : Stay) (m : MsgId) (x d : ConfId) (ch nx : ℕ) (places : List Place) → Facts run c stays → IsAmong stays stay → IsSpan x stay ch nx
    → ChangesTo stay.log.now ch x → ChangesTo stay.log.now nx d → NeverDelivers (log_of run stay.proc) c m x → places ≡ place stay.proc nx ∷ [] → IsLeastWithin IsAnywhere (IsOneEvent (IsPartner run c m x d)) stay places
partner_here run c stays stay m x d ch nx places facts among span at to lacks is =
    let log = (facts.each stay among).log in
    let inside = belongs run c stays stay x ch nx facts among span (rw log at at) in
    only_event IsAnywhere (IsPartner run c m x d) stay nx places (inside, goes_here run c stays stay x d ch nx facts among span inside (rw log at to), lacks.never inside)
    (λ i h. goes_next run c stays stay x d ch nx i facts among span inside h.1) is

pub next_is_short : (run : List Log) (c : RingId) (stays : List Stay) (stay : Stay) (d : ConfId) (nx : ℕ) → Facts run c stays → IsAmong stays stay → ChangesTo stay.log.now nx d → nx < 1000000
next_is_short run c stays stay d nx facts among to =
    let of = facts.each stay among in
    let at : ChangesTo (log_of run stay.proc) nx d = rw of.log at to in
    let lt = change_within (log_of run stay.proc) nx d at in let size = of.size in omega arith

-- whether the message is delivered in x
pub never_there : (run : List Log) (c : RingId) (p : ℕ) (m : MsgId) (x : ConfId) → DeliversNot (log_of run p) c m → NeverDelivers (log_of run p) c m x
never_there run c p m x never = record { never = λ inside l at. never.never (l, (x, at, inside)) }

pub delivers_on_true : (run : List Log) (c : RingId) (stay : Stay) (m o : MsgId) (x y : ConfId) (k : ℕ) (b : Bool) → DeliversIn (log_of run stay.proc) c m k → slice_get (log_of run stay.proc) k ≡ Some (Deliver o y) → IsTrue b ↔ (y ≡ x)
    → OnTrue b ((l : ℕ) × Delivers (log_of run stay.proc) l m x)
delivers_on_true run c stay m o x y k b h p q = grind arith

pub never_on_false : (run : List Log) (c : RingId) (stays : List Stay) (stay : Stay) (m o : MsgId) (x y : ConfId) (k : ℕ) (b : Bool) → Facts run c stays → DeliversIn (log_of run stay.proc) c m k → slice_get (log_of run stay.proc) k ≡ Some (Deliver o y)
    → IsTrue b ↔ (y ≡ x) → OnFalse b (NeverDelivers (log_of run stay.proc) c m x)
never_on_false run c stays stay m o x y k b h p q r = grind arith

pub here_delivered : (run : List Log) (c : RingId) (stay : Stay) (m : MsgId) (x : ConfId) (k : ℕ) (e : Entry) → DeliversIn (log_of run stay.proc) c m k → slice_get (log_of run stay.proc) k ≡ Some e → ((o : MsgId) (y : ConfId) → e ≡ Deliver o y → ⊥)
    → NeverDelivers (log_of run stay.proc) c m x
here_delivered run c stay m x k e (d, mine, _) at other = absurd (other m d cc)

pub goes_along : (run : List Log) (c : RingId) (stays : List Stay) (p q k : ℕ) (x d : ConfId) → Facts run c stays → Com (log_of run p) c x → GoesAt (log_of run q) x d k → Com (log_of run q) c x
goes_along run c stays p q k x d facts (inl same) goes = inl same
goes_along run c stays p q k x d facts (inr f) (i, change, next, to) = inr (follows_too run c facts.meets p q i x f change)

pub partings_begin : (run : List Log) (c : RingId) (stays : List Stay) (m : MsgId) (x d : ConfId) → Facts run c stays → EachBeginsWithin stays IsAnywhere (IsOneEvent (IsPartner run c m x d))
partings_begin run c stays m x d facts = record { each = λ places h. go places h }
  where
    of_change : (g : Place) (k i : ℕ) → g.at ≡ k + 1 → ChangesTo (log_of run g.proc) i (Regular c) → BeginsWithin stays IsAnywhere (g ∷ [])
    of_change g k i is change =
        let has = facts.whole g.proc i change in
        record { stay = has.stay; among = record { at = has.at; stands = has.stands }; index = k; reached = tt; rest = []; is = rw (has.proc, ← is) refl }

    go : (places : List Place) → IsOneEvent (IsPartner run c m x d) places → BeginsWithin stays IsAnywhere places
    go (g ∷ []) (k, is, (inl same, (i, change, next, to), lacks)) = of_change g k i is (rw same at change)
    go (g ∷ []) (k, is, (inr f, goes, lacks)) = of_change g k f.from is f.first.change
    go places h = absurd h

-- what starts with this delivery and breaks 4 goes on with its process's next change, and with that of a partner
record IsParted (run : List Log) (c : RingId) (m : MsgId) (x : ConfId) (p nx : ℕ) (rest : List Place) : Type 0 where
  pub to : ConfId
  pub change : ChangesTo (log_of run p) nx to
  pub last : Place
  pub is : rest ≡ place p nx ∷ last ∷ []
  pub partner : IsOneEvent (IsPartner run c m x to) (last ∷ [])

parted : (run : List Log) (c : RingId) (stays : List Stay) (stay : Stay) (m : MsgId) (x : ConfId) (ch nx i : ℕ) (rest : List Place) → Facts run c stays → IsAmong stays stay → IsSpan x stay ch nx → slice_get (log_of run stay.proc) i ≡ Some (Deliver m x)
    → BreaksAtomicityIn run c (place stay.proc i ∷ rest) → IsParted run c m x stay.proc nx rest
parted run c stays stay m x ch nx i (f ∷ g ∷ []) facts among span at (a, is, (j, is_f, (k, is_g, (same, (y, inside_y, (o, d, delivers, goes_y, partner_y, lacks)))))) =
    let start : a ≡ i = omega arith in
    let there : slice_get (log_of run stay.proc) i ≡ Some (Deliver o y) = rw start at delivers in
    let message : o ≡ m = cc in
    let conf : y ≡ x = cc in
    let inside : Com (log_of run stay.proc) c x = rw conf at inside_y in
    let goes : GoesAt (log_of run stay.proc) x d j = rw conf at goes_y in
    let partner : GoesAt (log_of run g.proc) x d k = rw conf at partner_y in
    let next = goes_next run c stays stay x d ch nx j facts among span inside goes in
    record {
      to = d;
      change = rw next at goes.3;
      last = g;
      is = rw (same, ← next, ← is_f) refl;
      partner = (k, is_g, (goes_along run c stays stay.proc g.proc k x d facts inside partner, partner, rw (message, conf) at lacks));
    }
parted run c stays stay m x ch nx i rest facts among span at h = absurd h

pub none_at_end : (run : List Log) (c : RingId) (stays : List Stay) (stay : Stay) (m : MsgId) (x : ConfId) (ch nx i : ℕ) → Facts run c stays → IsAmong stays stay → IsSpan x stay ch nx → slice_get (log_of run stay.proc) i ≡ Some (Deliver m x)
    → IsNoChange stay.log.now nx → NoneFrom (BreaksAtomicityIn run c) stay.proc i
none_at_end run c stays stay m x ch nx i facts among span at no_change = record {
  none = λ rest h. let by = parted run c stays stay m x ch nx i rest facts among span at h in no_change.none (by.to, read by.to by.change);
}
  where
    read : (d : ConfId) → ChangesTo (log_of run stay.proc) nx d → ChangesTo stay.log.now nx d
    read d change = rw (facts.each stay among).log change

pub none_along : (run : List Log) (c : RingId) (stays : List Stay) (stay : Stay) (m : MsgId) (x d : ConfId) (ch nx i : ℕ) → Facts run c stays → IsAmong stays stay → IsSpan x stay ch nx → slice_get (log_of run stay.proc) i ≡ Some (Deliver m x)
    → ChangesTo stay.log.now nx d → HoldsOfNone (IsOneEvent (IsPartner run c m x d)) → NoneFrom (BreaksAtomicityIn run c) stay.proc i
none_along run c stays stay m x d ch nx i facts among span at to none = record {
  none = λ rest h.
      let by = parted run c stays stay m x ch nx i rest facts among span at h in
      let same = same_change (log_of run stay.proc) nx nx by.to d refl by.change (rw (facts.each stay among).log at to) in
      none.none (by.last ∷ []) (rw same at by.partner);
}

pub least_along : (run : List Log) (c : RingId) (stays : List Stay) (stay : Stay) (m : MsgId) (x d : ConfId) (ch nx i : ℕ) (list : List Place) → Facts run c stays → IsAmong stays stay → IsSpan x stay ch nx → IsInside stay i
    → slice_get (log_of run stay.proc) i ≡ Some (Deliver m x) → ChangesTo stay.log.now nx d → IsLeast (IsOneEvent (IsPartner run c m x d)) list → IsLeastFrom (BreaksAtomicityIn run c) stay.proc i (place stay.proc nx ∷ list)
least_along run c stays stay m x d ch nx i list facts among span inside at to least = record {
  least = record {
    holds = holds list least.holds;
    first = λ others h. first others (parted run c stays stay m x ch nx i others facts among span at h);
  };
}
  where
    there : ChangesTo (log_of run stay.proc) nx d
    there = rw (facts.each stay among).log at to

    stands : Com (log_of run stay.proc) c x
    stands = (facts.each stay among).stands i x inside (Deliver m x, at, refl)

    holds : (others : List Place) → IsOneEvent (IsPartner run c m x d) others → BreaksAtomicityIn run c (place stay.proc i ∷ place stay.proc nx ∷ others)
    holds (g ∷ []) (k, is, (along, goes, lacks)) =
        (i, refl, (nx, refl, (k, is, (refl, (x, stands, (m, d, at, goes_here run c stays stay x d ch nx facts among span stands there, goes, lacks))))))
    holds others h = absurd h

    first : (others : List Place) → IsParted run c m x stay.proc nx others → ComesFirst (place stay.proc nx ∷ list) others
    first others by = grind (arith, same_change, there)

pub deliveries_begin : (run : List Log) (c : RingId) (stays : List Stay) → Facts run c stays → EachBeginsWithin stays IsInside (BreaksAtomicityIn run c)
deliveries_begin run c stays facts = record { each = λ places h. go places h }
  where
    go : (places : List Place) → BreaksAtomicityIn run c places → BeginsWithin stays IsInside places
    go (e ∷ f ∷ g ∷ []) (i, is, (j, is_f, (k, is_g, (same, (x, inside, (m, d, delivers, goes, partner, lacks)))))) =
        begins_at run c stays e i x (f ∷ g ∷ []) facts (rw (← is) refl) (Deliver m x, delivers, refl) inside
    go places h = absurd h
