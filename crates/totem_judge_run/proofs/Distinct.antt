-- Messages that are sent or delivered twice stand twice in the list of all.
use Rattle.totem_judge_run.proofs.Common.{take_more, ◌≡◌, ◌≢◌, ℕ, zero, suc, ◌+◌, ◌<◌, ◌≤◌, inl, inr, List, [], ◌∷◌, ◌++◌, length, take, get_or, slice_get, Some, Result, IfOk, Bool, true, false, refl, sym, ◌∙◌, arith, OnTrue, eq_by_cmp, flat_map-append, append-nil, take_all, slice_get_within, get_or_from_slice_get, MsgId, Entry, Send, Deliver, Log, log_of, log_of_cases, IsNoSendBetween, RisesByOrder, message_in, message_order, messages_in, sent_in, DeliveriesAreOnce, SendsAreOnce, Contains, Contains-append_left, Contains-append_right, option_to_list}
use Rattle.std.specs.List.{All, AllPairs, IsDistinct, flat_map}
use Rattle.std.specs.List.Sorted.{IsPermutation}
use Rattle.std.specs.declared.alloc.AllocError.{AllocError}
use Rattle.std.proofs.Common.{length-append, get_or-append-add}
use Rattle.std.proofs.lemmas.List.{get_or_append_left}
use Rattle.std.proofs.lemmas.Cmp.{eq_by_cmp_equiv}
use Rattle.std.proofs.lemmas.List.Sorted.{IsPermutation-sym}
use Rattle.std.proofs.lemmas.Map.Keys.{IsDistinct-IsPermutation, IsDistinct-from_sorted, apart_from_distinct, sorted_from_all_adjacent}
use Rattle.totem_names.specs.contracts.message.MsgIdOrd.TheImpl.Laws.{total-law}
use Rattle.totem_judge_run.specs.declared.once_1_4.Once.{Once}
use Rattle.totem_judge_run.specs.declared.once_1_4.Once.TheVariants as once
use Rattle.totem_judge_run.proofs.Decisions.{neither_below}

abbrev pub AreDistinct : List MsgId → Type 0
AreDistinct list = AllPairs (λ x y. x ≢ y) list

-- the messages of each of two lists are distinct, and none is in both
parted : (xs ys : List MsgId) → AreDistinct (xs ++ ys) → AreDistinct xs × AreDistinct ys × ((m : MsgId) → Contains xs m → Contains ys m → ⊥)
parted xs ys distinct = (
  λ i j d lt within same. distinct i j d lt (simp length-append (omega arith))
      (rw (get_or_append_left xs ys d i (omega arith), get_or_append_left xs ys d j within) same),
  λ i j d lt within same. distinct (length xs + i) (length xs + j) d (omega arith) (simp length-append (omega arith))
      (rw (get_or-append-add xs ys i d, get_or-append-add xs ys j d) same),
  λ m (k, lt, is) (l, within, same). distinct k (length xs + l) m (omega arith) (simp length-append (omega arith))
      (rw (get_or_append_left xs ys m k lt, get_or-append-add xs ys l m) (is ∙ sym same)),
)

-- ---- the lists of the elements of another list, joined

module _ {X : Type 0} (f : X → List MsgId) where
  -- m is in the list of the element at i
  abbrev IsAt : List X → ℕ → MsgId → Type 0
  IsAt xs i m = (x : X) × (slice_get xs i ≡ Some x) × Contains (f x) m

  has_message : (xs : List X) (i : ℕ) (m : MsgId) → IsAt xs i m → Contains (flat_map f xs) m
  has_message [] i m (x, at, has) = absurd cc
  has_message (y ∷ ys) zero m (x, at, has) = Contains-append_left (f y) (flat_map f ys) m (let same : y ≡ x = cc in rw same has)
  has_message (y ∷ ys) (suc i) m here = Contains-append_right (f y) (flat_map f ys) m (has_message ys i m here)

  distinct_at : (xs : List X) (i : ℕ) (x : X) → slice_get xs i ≡ Some x → AreDistinct (flat_map f xs) → AreDistinct (f x)
  distinct_at [] i x at distinct = absurd cc
  distinct_at (y ∷ ys) zero x at distinct = (let same : y ≡ x = cc in rw same at (parted (f y) (flat_map f ys) distinct).0)
  distinct_at (y ∷ ys) (suc i) x at distinct = distinct_at ys i x at (parted (f y) (flat_map f ys) distinct).1

  not_before : (xs : List X) (i j : ℕ) (m : MsgId) → AreDistinct (flat_map f xs) → i < j → IsAt xs i m → IsAt xs j m → ⊥
  not_before [] i j m distinct lt (x, at, has) there = cc
  not_before (y ∷ ys) i zero m distinct lt here there = omega arith
  not_before (y ∷ ys) zero (suc j) m distinct lt (x, at, has) there =
      (parted (f y) (flat_map f ys) distinct).2 m (let same : y ≡ x = cc in rw same has) (has_message ys j m there)
  not_before (y ∷ ys) (suc i) (suc j) m distinct lt here there =
      not_before ys i j m (parted (f y) (flat_map f ys) distinct).1 (omega arith) here there

  one_at : (xs : List X) (i j : ℕ) (m : MsgId) → AreDistinct (flat_map f xs) → IsAt xs i m → IsAt xs j m → i ≡ j
  one_at xs i j m distinct here there =
      neither_below i j (λ lt. not_before xs i j m distinct lt here there) (λ gt. not_before xs j i m distinct gt there here)

-- ---- the entries of one log

module _ (act : Once) where
  abbrev shown : Entry → List MsgId
  shown e = option_to_list (message_in act e)

  joined : (entries : List Entry) → messages_in act entries ≡ flat_map shown entries
  joined [] = refl
  joined (e ∷ entries) = grind (arith, joined entries)

  -- the entry at i sends or delivers m
  abbrev IsIn : List Entry → ℕ → MsgId → Type 0
  IsIn entries i m = (e : Entry) × (slice_get entries i ≡ Some e) × (message_in act e ≡ Some m)

  is_at : (entries : List Entry) (i : ℕ) (m : MsgId) → IsIn entries i m → IsAt shown entries i m
  is_at entries i m (e, at, is) = (e, at, rw is (0, omega arith, refl))

  one_index : (entries : List Entry) (i j : ℕ) (m : MsgId) → AreDistinct (messages_in act entries) → IsIn entries i m → IsIn entries j m → i ≡ j
  one_index entries i j m distinct here there =
      one_at shown entries i j m (rw (joined entries) at distinct) (is_at entries i m here) (is_at entries j m there)

-- ---- the sends of all logs

module _ (run : List Log) (distinct : AreDistinct (sent_in run)) where
  -- the log whose entry sends m
  abbrev IsSentAt : ℕ → ℕ → MsgId → Type 0
  IsSentAt p i m = (k : ℕ) × (log : Log) × (slice_get run k ≡ Some log) × (log.proc ≡ p) × IsIn once.Send log.entries i m

  sent_at : (p i : ℕ) (m : MsgId) → IsIn once.Send (log_of run p) i m → IsSentAt p i m
  sent_at p i m (e, at, is) = elim (log_of_cases run p) [
    | inl none ↦ absurd (let h : slice_get {X = Entry} [] i ≡ Some e = rw none at at in cc)
    | inr (k, log, at_k, proc, entries) ↦ (k, log, at_k, proc, (e, rw entries at at, is))
  ]

  one_send : (p i q j : ℕ) (m : MsgId) → IsSentAt p i m → IsSentAt q j m → (p ≡ q) × (i ≡ j)
  one_send p i q j m (a, first, at_a, proc_a, here) (b, second, at_b, proc_b, there) =
      let sends : Log → List MsgId = λ log. messages_in once.Send log.entries in
      let has : (log : Log) (i : ℕ) → IsIn once.Send log.entries i m → Contains (messages_in once.Send log.entries) m =
      λ log i is. rw (joined once.Send log.entries) (has_message (shown once.Send) log.entries i m (is_at once.Send log.entries i m is)) in
      let logs : a ≡ b = one_at sends run a b m distinct (first, at_a, has first i here) (second, at_b, has second j there) in
      let same : second ≡ first = (let h : slice_get run a ≡ Some second = rw logs at_b in cc) in
      (sym proc_a ∙ rw (← same) proc_b, one_index once.Send first.entries i j m (distinct_at sends run a first at_a distinct) here (rw same at there))

  pub sends_once : ((p : ℕ) → All IsNoSendBetween (log_of run p)) → SendsAreOnce run
  sends_once regular = record {
    one = λ p i q j m x y (s, at) (t, there). one_send p i q j m (sent_at p i m (Send m x s, at, refl)) (sent_at q j m (Send m y t, there, refl));
    regular = λ p i m x (s, at). rw (get_or_from_slice_get (log_of run p) i (Send m x s) (Send m x s) at) at (regular p i (Send m x s) (slice_get_within (log_of run p) i (Send m x s) at));
  }

pub deliveries_once : (run : List Log) → ((p : ℕ) → AreDistinct (messages_in once.Deliver (log_of run p))) → DeliveriesAreOnce run
deliveries_once run distinct = record {
  one = λ p i j m x y at there. one_index once.Deliver (log_of run p) i j m (distinct p) (Deliver m x, at, refl) (Deliver m y, there, refl);
}

-- ---- what the loops gather

pub none_twice : AreDistinct (messages_in once.Deliver [])
none_twice = λ i j d lt within. absurd (omega arith)

pub none_between : All IsNoSendBetween []
none_between = λ k d within. absurd (omega arith)

pub sent_more : (run : List Log) (k : ℕ) (log : Log) (old new : List MsgId) → slice_get run k ≡ Some log → new ≡ old ++ messages_in once.Send log.entries → old ≡ sent_in (take k run) → new ≡ sent_in (take (k + 1) run)
sent_more run k log old new at is before =
    let within = slice_get_within run k log at in
    let seen : take (k + 1) run ≡ take k run ++ log ∷ [] = take_more run k log within ∙ rw (get_or_from_slice_get run k log log at) refl in
    rw seen (is ∙ rw before (sym (flat_map-append (λ (l : Log). messages_in once.Send l.entries) (take k run) (log ∷ []) ∙ rw (append-nil (messages_in once.Send log.entries)) refl)))

pub sent_all : (run : List Log) (k : ℕ) (sent : List MsgId) → length run ≤ k → sent ≡ sent_in (take k run) → sent ≡ sent_in run
sent_all run k sent end is = rw (take_all k run end) at is

pub sends_once_if : (run : List Log) (sent : List MsgId) (r : Result Bool AllocError) → ((p : ℕ) → All IsNoSendBetween (log_of run p)) → sent ≡ sent_in run → IfOk r (λ ok. OnTrue ok (AreDistinct sent)) → IfOk r (λ ok. OnTrue ok (SendsAreOnce run))
sends_once_if run sent r regular is h = grind (arith, sends_once)

-- ---- ascending lists

abbrev is_same : MsgId → MsgId → Bool
is_same = eq_by_cmp message_order

distinct_if_keys : (list : List MsgId) → IsDistinct is_same list → AreDistinct list
distinct_if_keys list distinct i j d lt within same =
    let apart = apart_from_distinct is_same list i j d distinct lt within in
    let one = (eq_by_cmp_equiv total-law).refl (get_or list j d) in
    absurd (let t : is_same (get_or list i d) (get_or list j d) ≡ true = rw same one in cc)

keys_if_rising : (list : List MsgId) → RisesByOrder list → IsDistinct is_same list
unfolding IsDistinct
keys_if_rising [] rises = tt
keys_if_rising (m ∷ list) rises = IsDistinct-from_sorted message_order (m ∷ list) (sorted_from_all_adjacent total-law (m ∷ list) m (λ k within. rises k m within))

pub distinct_if_rising : (list : List MsgId) → RisesByOrder list → AreDistinct list
distinct_if_rising list rises = distinct_if_keys list (keys_if_rising list rises)

pub distinct_if_sorted : (list sorted : List MsgId) (ok : Bool) → IsPermutation list sorted → OnTrue ok (RisesByOrder sorted) → OnTrue ok (AreDistinct list)
distinct_if_sorted list sorted false moved rises = tt
distinct_if_sorted list sorted true moved rises =
    distinct_if_keys list (IsDistinct-IsPermutation is_same (eq_by_cmp_equiv total-law).symm sorted list (IsPermutation-sym list sorted moved) (keys_if_rising sorted rises))
