-- 1.3: if all configurations were verified, what is delivered was sent there.
use Rattle.totem_judge.proofs.Common.{◌≡◌, inl, inr, ℕ, List, refl, sym, subst, arith, RingId, ConfId, Regular, Transitional, MsgId, Deliver, Log, ChangesTo, IsChange, IsRegular, IsTransitional, Sends, Delivers, log_of, IsNextChange, Follows, Com, Numbering, has_log}
use Rattle.totem_evs.specs.Delivery.{WasSentFor, DeliversWhatWasSent}
use Rattle.totem_evs.proofs.Originating.{LastBefore, last_before}
use Rattle.totem_judge.specs.declared.gathered.Gathered.{Gathered}
use Rattle.totem_judge.proofs.Listed.{listed, sent_at}
use Rattle.totem_judge.proofs.Whole.{AllSeen, gathers, verified}

module _ {run : List Log} {lines : List Numbering} {list : List Gathered} (all : AllSeen run lines list) where
  open all use {orderly, seen}

  -- what p delivers in c, or in what follows it, was sent in c
  sent_in : (p i j : ℕ) (m : MsgId) (c : RingId) (d : ConfId) → Delivers (log_of run p) i m d → ChangesTo (log_of run p) j (Regular c) → Com (log_of run p) c d → WasSentFor run p m d
  sent_in p i j m c d delivers change belongs =
      let log = has_log run p i (Deliver m d) delivers in
      let l = log.0 in
      let here = gathers all l p j c log.1 change in
      let g = here.gathered in
      let known = seen here.at g here.stands in
      let v = verified all here.at g known.0 here.stands known.1 in
      let there : Com (log_of run p) g.ring d = subst (λ (r : RingId). Com (log_of run p) r d) (sym here.ring) belongs in
      let f = listed v l p i m log.1 (d, delivers, there) in
      let s = sent_at v f.is.got.sent f.is.sent f.is.sent_is in
      let sends : Sends (log_of run s.p) s.at m (Regular g.ring) = (s.origin.service, rw f.is.message_is at s.entry) in
      (c, (s.p, s.at, subst (λ (r : RingId). Sends (log_of run s.p) s.at m (Regular r)) here.ring sends), belongs)

  -- a transitional configuration follows a regular one
  origin : (p i : ℕ) (t : ConfId) → ChangesTo (log_of run p) i t → IsTransitional t → (c : RingId) × Follows (log_of run p) c t
  origin p i t (ns, at) moves = elim (last_before (log_of run p) i) [
    | inr none ↦ absurd (both t ((orderly.turns.each p).regular_first i t (ns, at) none.none) moves)
    | inl (j, last) ↦ from_last j last last.change
  ]
    where
      both : (x : ConfId) → IsRegular x → IsTransitional x → ⊥
      both (Regular c) r m = m
      both (Transitional least next) r m = r

      ring_of : (x : ConfId) → IsRegular x → (c : RingId) × (x ≡ Regular c)
      ring_of (Regular c) r = (c, refl)
      ring_of (Transitional least next) r = absurd r

      from_last : (j : ℕ) → LastBefore (log_of run p) i j → IsChange (log_of run p) j → (c : RingId) × Follows (log_of run p) c t
      from_last j last (y, (ms, at_j)) =
          let next : IsNextChange (log_of run p) j i = record { change = (t, (ns, at)); later = last.before; none_between = last.none_between } in
          let c = ring_of y (((orderly.turns.each p).turns j i y t ms ns (record { first = at_j; second = at; next = next })).1 moves) in
          let there : ChangesTo (log_of run p) j y = (ms, at_j) in
          let here : ChangesTo (log_of run p) j (Regular c.0) = rw c.1 at there in (
            c.0,
            record {
              from = j;
              to = i;
              first = record { change = here; none_before = λ k lt other. (let same = orderly.one.once p k j (Regular c.0) other here in omega arith) };
              next = next;
              change = (ns, at);
              transitional = moves;
            },
          )

  pub unsent_met : DeliversWhatWasSent run
  unsent_met p i m (Regular c) delivers =
      let stands = (orderly.placed p).named i (Regular c) (Deliver m (Regular c), delivers, refl) in
      sent_in p i stands.from m c (Regular c) delivers stands.change (inl refl)
  unsent_met p i m (Transitional least next) delivers =
      let stands = (orderly.placed p).named i (Transitional least next) (Deliver m (Transitional least next), delivers, refl) in
      let from = origin p stands.from (Transitional least next) stands.change tt in
      sent_in p i from.1.from m from.0 (Transitional least next) delivers from.1.first.change (inr from.1)
