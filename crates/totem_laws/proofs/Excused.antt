-- A process that is excused because its log is open is listed as pending.
use Rattle.totem_cert.proofs.Common.{◌≡◌, ℕ, inl, inr, List, sym, arith, Contains, ConfId, MsgId, Entry, Log}
use Rattle.totem_evs.proofs.Common.{RingId, Regular}
use Rattle.totem_evs.specs.declared.pending.Pending.{Pending}
use Rattle.totem_evs.specs.Events.{log_of, ChangesTo, WasSentIn}
use Rattle.totem_evs.specs.Following.{Com, OpenIn, DeliversOrEnds}
use Rattle.totem_evs.specs.Delivery.{WasSentFor}
use Rattle.totem_evs.specs.Unsettled.{ArePending}
use Rattle.totem_evs.proofs.Standing.{less_or_not}
use Rattle.totem_evs.proofs.Originating.{same_com}
use Rattle.totem_laws.specs.Excuses.{StillOwes, SenderIsPending, MemberIsPending}

still_open : (run : List Log) (q : ℕ) (c : RingId) (m : MsgId) → StillOwes run q c m → DeliversOrEnds run q c m → OpenIn run q c
still_open run q c m owes (inl delivered) = absurd (owes.missing delivered)
still_open run q c m owes (inr (inl failed)) = absurd (owes.goes_on failed)
still_open run q c m owes (inr (inr open_there)) = open_there

listed : (run : List Log) (pending : List Pending) (q : ℕ) (c : RingId) (m : MsgId) → ArePending run pending → WasSentIn run m (Regular c)
    → StillOwes run q c m → DeliversOrEnds run q c m → Contains pending (record { proc = q; msg = m })
listed run pending q c m are sent owes ends =
    (are.exact q m).1 (record { ring = c; sent = sent; still_open = still_open run q c m owes ends; missing = owes.missing })

pub sender : SenderIsPending
sender run pending ev are p i m c sends owes = listed run pending p c m are (p, i, sends) owes ((ev.own c).each p i m sends)

-- one entry changes to one configuration
one_ring : (log : List Entry) (b c : RingId) (i : ℕ) → ChangesTo log i (Regular b) → ChangesTo log i (Regular c) → b ≡ c
one_ring log b c i (ms, at) (ns, also) = cc

-- what a log changes to once follows at most one configuration
one_origin : (log : List Entry) (b c : RingId) (d : ConfId) → ((i j : ℕ) → ChangesTo log i d → ChangesTo log j d → i ≡ j) → Com log b d → Com log c d → b ≡ c
one_origin log b c d once (inl is) stays = same_com log c b (rw is at stays)
one_origin log b c d once stays (inl is) = sym (same_com log b c (rw is at stays))
one_origin log b c d once (inr f) (inr g) = elim (less_or_not f.from g.from) [
  | inl less ↦ absurd (f.next.none_between g.from less (let h = g.next.later in let one = to in omega arith) (Regular c, g.first.change))
  | inr rest ↦ elim rest [
    | inl more ↦ absurd (g.next.none_between f.from more (let h = f.next.later in let one = to in omega arith) (Regular b, f.first.change))
    | inr same ↦ one_ring log b c g.from (rw same at f.first.change) g.first.change
  ]
]
  where
    to : f.to ≡ g.to
    to = once f.to g.to f.change g.change

pub member : MemberIsPending
member run pending ev are c m p i d q safe delivers stays is_member owes =
    listed run pending q c m are (from_send (ev.basic.sent p i m d delivers)) owes ((ev.safe.reaches c).each m p i d q safe delivers stays is_member)
  where
    from_send : WasSentFor run p m d → WasSentIn run m (Regular c)
    from_send (b, sent, also) =
        let same : b ≡ c = one_origin (log_of run p) b c d (λ j k. ev.changes.one.once p j k d) also stays in
        rw same at sent
