-- What is noted of sends, and the quick test that makes most searches for them unnecessary.
use Rattle.totem_pass_ab.proofs.Common.{◌≡◌, ℕ, inl, inr, List, [], ◌∷◌, ◌++◌, length, get_or, slice_get, Some, Result, Ok, Err, Bool, false, IsTrue, refl, true, sym, ◌∙◌, ap, subst, Contains, IfOk, RingId, ConfId, Regular, MsgId, Entry, Send, Conf, Log, log_of, IsTransitional, IsChange, WasSentIn, IsFirstChange, Follows, ChangesNext, OnTrue, Ordering, BTreeMap, not_there, All-push, Equal, StaysSound, KnowsLog, sending, WereSent, KnowsRegularChange, AreFollowed, equal_at, apart_or_at, both_equal, exact_ring, exact_message, change_by}
use Rattle.totem_judge_run.specs.Sent.{WasSentTo}
use Rattle.totem_judge_run.proofs.SentOrNot.{sent_or_not}
use Rattle.std.specs.BTreeMap as tree
use Rattle.std.specs.BTreeSet.{BTreeSet}
use Rattle.std.specs.BTreeSet as sorted
use Rattle.std.proofs.lemmas.List.Sorted.{All-permutation}
use Rattle.std.specs.List.Sorted.{IsPermutation, IsSearchInRange}
use Rattle.std.specs.List.{HoldsAt}
use Rattle.std.specs.Result.{is_ok}
use Rattle.std.proofs.lemmas.Map.Lookups.{CmpEqualImpliesEq}
use Rattle.totem_names.specs.declared.message.Service.{Service}
use Rattle.totem_names.specs.contracts.ring.RingIdOrd.TheImpl as ring
use Rattle.totem_names.specs.contracts.message.MsgIdOrd.TheImpl as message
use Rattle.totem_pass_ab.specs.declared.unsent_1_3.Sending.{Sending}
use Rattle.totem_pass_ab.specs.contracts.unsent_1_3.SendingOrd.TheImpl as by_sending
use Rattle.totem_table.specs.declared.keys.Change.{Change}

-- ---- what is noted for the quick test

pub exact_sending : CmpEqualImpliesEq by_sending.cmp-value.it
exact_sending s t e = let h = both_equal (message.cmp-value.it s.message t.message) (ring.cmp-value.it s.ring t.ring) e in
    ap (λ (m : MsgId). sending m s.ring) (exact_message s.message t.message h.0) ∙ ap (sending t.message) (exact_ring s.ring t.ring h.1)

pub one_more_send : (s n : List Sending) (p i : ℕ) (log : List Entry) (m : MsgId) (x : ConfId) (c : RingId) (v : Service) → slice_get log i ≡ Some (Send m x v) → x ≡ Regular c → n ≡ s ++ (sending m c ∷ []) → StaysSound (WereSent s) (WereSent n) p log
one_more_send s n p i log m x c v at is more = record {
  each = λ run logs old. rw more (record { each = All-push (λ (k : Sending). WasSentIn run k.message (Regular k.ring)) s (sending m c) old.each (p, i, (v, rw (logs, is) at at)) });
}

pub in_order : (s n : List Sending) (run : List Log) → IsPermutation s n → WereSent s run → WereSent n run
in_order s n run moved sent = record { each = All-permutation (λ (k : Sending). WasSentIn run k.message (Regular k.ring)) s n moved sent.each }

pub enters_regular_change : (cmp : Change → Change → Ordering) (s n : BTreeSet Change) (p i : ℕ) (log : List Entry) (x : ConfId) (c : RingId) (ms : List ℕ) → slice_get log i ≡ Some (Conf x ms) → x ≡ Regular c → sorted.Updates cmp s n (change_by p (Regular c)) true
    → KnowsRegularChange cmp n p log i
enters_regular_change cmp s n p i log x c ms at is h = record {
  each = λ d (ns, at'). (let same : c ≡ d = (let one : Conf x ms ≡ Conf (Regular d) ns = cc in cc) in
      subst (λ (z : RingId). IsTrue (sorted.contains cmp n (change_by p (Regular z)))) same h.1);
}

-- an entry that is no change is no change to a regular configuration
pub spares_regular_change : (cmp : Change → Change → Ordering) (s : BTreeSet Change) (p : ℕ) (log : List Entry) (i : ℕ) → (IsChange log i → ⊥) → KnowsRegularChange cmp s p log i
spares_regular_change cmp s p log i never = record { each = λ c to. absurd (never (Regular c, to)) }

first_regular_change : (cmp : Change → Change → Ordering) (s : BTreeSet Change) (p i : ℕ) (log : List Entry) (x : ConfId) (c : RingId) (ms : List ℕ) → slice_get log i ≡ Some (Conf x ms) → x ≡ Regular c → sorted.contains cmp s (change_by p (Regular c)) ≡ false
    → KnowsLog (KnowsRegularChange cmp s) p log i → IsFirstChange log (Regular c) i
first_regular_change cmp s p i log x c ms at is new known = record { change = (ms, rw is at at); none_before = λ k lt change. (let had = (known.each k lt).each c change in cc) }

-- the next change after the first one to c follows c
pub follows_first : (cmp : Change → Change → Ordering) (s : BTreeSet Change) (p i j : ℕ) (log : List Entry) (x y z : ConfId) (c : RingId) (ms ks ns : List ℕ) → slice_get log i ≡ Some (Conf x ms) → x ≡ Regular c
    → sorted.contains cmp s (change_by p (Regular c)) ≡ false → KnowsLog (KnowsRegularChange cmp s) p log i → ChangesNext log i j z y ks ns → IsTransitional y → Follows log c y
follows_first cmp s p i j log x y z c ms ks ns at is new known succession moves =
    record { from = i; to = j; first = first_regular_change cmp s p i log x c ms at is new known; next = succession.next; change = (ns, succession.second); transitional = moves }

pub one_more_followed : (cmp : Change → Change → Ordering) → CmpEqualImpliesEq cmp → (r n : BTreeMap Change RingId) (p : ℕ) (log : List Entry) (t : ConfId) (c : RingId) → Follows log c t → tree.Updates cmp r n (change_by p t) (Some c)
    → StaysSound (AreFollowed cmp r) (AreFollowed cmp n) p log
one_more_followed cmp exact r n p log t c follows h = record { each = λ run logs old. more run logs old }
  where
    here_is : (run : List Log) (v : Change) (d : RingId) → log ≡ log_of run p → change_by p t ≡ v → tree.get cmp n v ≡ Some d → Follows (log_of run v.proc) d v.conf
    here_is run v d logs same is =
        let there : tree.get cmp n (change_by p t) ≡ Some d = subst (λ (z : Change). tree.get cmp n z ≡ Some d) (sym same) is in
        let rings : c ≡ d = (let found = h.1 in cc) in
        subst (λ (z : Change). Follows (log_of run z.proc) d z.conf) same (rw (← logs, ← rings) follows)

    more : (run : List Log) → log ≡ log_of run p → AreFollowed cmp r run → AreFollowed cmp n run
    more run logs old = record {
      each = λ v d is. elim (apart_or_at cmp (change_by p t) v) [
        | inr apart ↦ old.each v d (sym (h.2 v apart) ∙ is)
        | inl here ↦ here_is run v d logs (exact (change_by p t) v (equal_at (cmp (change_by p t) v) here)) is
      ];
    }

-- ---- what the quick test shows

-- a message that can't be unsent was sent
sent_if_there : (run : List Log) (log : List Entry) (m : MsgId) (d : ConfId) → ((WasSentTo run log m d → ⊥) → ⊥) → WasSentTo run log m d
sent_if_there run log m d there = elim (sent_or_not run log m d) [ inl sent ↦ sent | inr not_sent ↦ absurd (there not_sent) ]

in_ring : (run : List Log) (m : MsgId) (c : RingId) → WasSentTo run [] m (Regular c) → WasSentIn run m (Regular c)
in_ring run m c (d, sent, inl same) = rw same sent
in_ring run m c (d, sent, inr follows) = absurd follows.transitional

-- what a search finds is among them
pub found : (s : List Sending) (k : Sending) (r : Result ℕ ℕ) (b : Bool) → b ≡ is_ok r → IsSearchInRange r (length s) → IfOk r (HoldsAt (λ y. by_sending.cmp-value.it y k ≡ Equal) s) → OnTrue b (Contains s k)
found s k (Ok i) true e within same = (i, within, exact_sending (get_or s i k) k (same k))
found s k (Err i) true e within same = absurd cc
found s k r false e within same = tt

pub sent_in : (s : List Sending) (run : List Log) (m : MsgId) (c : RingId) (b : Bool) → OnTrue b (Contains s (sending m c)) → ∥ WereSent s run ∥₁ → OnTrue b (WasSentIn run m (Regular c))
sent_in s run m c true (k, lt, is) known =
    in_ring run m c (sent_if_there run [] m (Regular c) (λ never. not_there known (λ h. never (c, subst (λ (z : Sending). WasSentIn run z.message (Regular z.ring)) is (h.each k (sending m c) lt), inl refl))))
sent_in s run m c false has known = tt

pub sent_regular : (run : List Log) (log : List Entry) (m : MsgId) (c : RingId) (b : Bool) → OnTrue b (WasSentIn run m (Regular c)) → OnTrue b (WasSentTo run log m (Regular c))
sent_regular run log m c true sent = (c, sent, inl refl)
sent_regular run log m c false sent = tt

pub sent_before : (cmp : Change → Change → Ordering) (r : BTreeMap Change RingId) (run : List Log) (p : ℕ) (m : MsgId) (c : RingId) (d : ConfId) (b : Bool) → Some c ≡ tree.get cmp r (change_by p d) → ∥ AreFollowed cmp r run ∥₁
    → OnTrue b (WasSentIn run m (Regular c)) → OnTrue b (WasSentTo run (log_of run p) m d)
sent_before cmp r run p m c d true is known sent = sent_if_there run (log_of run p) m d (λ never. not_there known (λ h. never (c, sent, inr (h.each (change_by p d) c (sym is)))))
sent_before cmp r run p m c d false is known sent = tt

pub sent_is_fine : (b : Bool) (P : Type 0) → OnTrue b P → OnTrue b ((P → ⊥) → ⊥)
sent_is_fine true P sent = λ never. never sent
sent_is_fine false P sent = tt
