-- Where no life but the first is named: from the words of the threads to the logs of their books.
use Rattle.totem_threads.proofs.Common.{◌≡◌, ℕ, zero, suc, ◌<◌, ◌+◌, ◌-◌, ◌==◌, List, [], ◌∷◌, length, map, fold, Bool, true, false, Ok, Err, IfSome, refl, arith, All, IfOk, slice_get, eqb-true, All-nil, All-cons, All-head, All-tail, All-append, All-map, sum_by-cons, life_of, Version, One, Two, Three, Entry, AreFirst, AreLoud, HasFirstLives, IsFirstVersion, first_rank, first_ranks, Stepped, Outcome, node_numbers, Called, Receipt, FitRising, count_at, count_in, Agree, Covers, starts, AreLogsOf, IsFirstSeat, IsFirstBook}
use Rattle.totem_evs.specs.LogRecord.{LogRecord}
use Rattle.totem_core.specs.Table.{step}
use Rattle.totem_core.specs.declared.input.Input.{Input}
use Rattle.totem_core.specs.Replay.{Life, lived, born, one_input, first_change}
use Rattle.totem_core.specs.FirstLives.{IsFirstInput, IsFirstEntry, IsFirstNode, IsFirstStep}
use Rattle.totem_core.proofs.FirstLives.{step_stays}
use Rattle.totem_books.specs.Replay.{Start, IsRecorded}
use Rattle.totem_books.specs.Seats.{SeatRecord, Closed}
use Rattle.totem_threads.proofs.Starting.{processes}

-- ---- packets

-- ---- the calls of a book

abbrev pub IsFirstCall : Called → Type 0
IsFirstCall call = IsFirstInput call.input

abbrev pub IsFirstReceipt : Receipt → Type 0
IsFirstReceipt stub = IsFirstInput stub.input

module _ (calls : List Called) (k : ℕ) where
  -- a receipt of the call at this place is among these
  found_in : (low : ℕ) (stubs : List Receipt) → FitRising calls low stubs → All IsFirstReceipt stubs → 0 < count_at (k + 1) stubs → IfSome (slice_get calls k) IsFirstCall
  found_in low [] fit first some = absurd (omega arith)
  found_in low (stub ∷ stubs) fit first some = by_place (stub.at == k + 1) refl (found_in stub.at stubs fit.2 (All-tail IsFirstReceipt stub stubs first))
    where
      by_place : (b : Bool) → (stub.at == k + 1) ≡ b → (0 < count_at (k + 1) stubs → IfSome (slice_get calls k) IsFirstCall) → IfSome (slice_get calls k) IsFirstCall
      by_place true here others =
          let at : stub.at - 1 ≡ k = omega (arith, eqb-true stub.at (k + 1) here) in
          let call = rw at at fit.1.1 in
          rw call (All-head IsFirstReceipt stub stubs first)
      by_place false other others = let more = rw other at some in others more

  found : (seats : List SeatRecord) → All (λ seat. FitRising calls 0 seat.stubs) seats → All IsFirstSeat seats → 0 < count_in (k + 1) seats → IfSome (slice_get calls k) IsFirstCall
  found [] fit first some = absurd (omega arith)
  found (seat ∷ seats) fit first some =
      by_count (count_at (k + 1) seat.stubs) refl (found seats (All-tail (λ (s : SeatRecord). FitRising calls 0 s.stubs) seat seats fit) (All-tail IsFirstSeat seat seats first))
    where
      all : count_in (k + 1) (seat ∷ seats) ≡ count_at (k + 1) seat.stubs + count_in (k + 1) seats
      all = sum_by-cons (λ (s : SeatRecord). count_at (k + 1) s.stubs) seat seats

      by_count : (n : ℕ) → count_at (k + 1) seat.stubs ≡ n → (0 < count_in (k + 1) seats → IfSome (slice_get calls k) IsFirstCall) → IfSome (slice_get calls k) IsFirstCall
      by_count zero none others = others (omega (arith, all))
      by_count (suc n) here others =
          found_in 0 seat.stubs (All-head (λ (s : SeatRecord). FitRising calls 0 s.stubs) seat seats fit) (All-head IsFirstSeat seat seats first) (omega arith)

each_found : {X : Type 0} (P : X → Type 0) (xs : List X) → ((k : ℕ) → k < length xs → IfSome (slice_get xs k) P) → All P xs
each_found P [] at = All-nil P
each_found P (x ∷ xs) at = All-cons P x xs (at zero (omega arith)) (each_found P xs (λ k inside. at (suc k) (omega arith)))

-- each call has a receipt in one of the seats
calls_first : (calls : List Called) (seats : List SeatRecord) → Agree calls seats → Covers calls seats → All IsFirstSeat seats → All IsFirstCall calls
calls_first calls seats agree covers first =
    each_found IsFirstCall calls (λ k inside. found calls k seats agree.each first (let one = covers.one k inside in omega arith))

pub three_first : (a b c : SeatRecord) → IsFirstSeat a → IsFirstSeat b → IsFirstSeat c → All IsFirstSeat (a ∷ b ∷ c ∷ [])
three_first a b c first second third =
    All-cons IsFirstSeat a (b ∷ c ∷ []) first (All-cons IsFirstSeat b (c ∷ []) second (All-cons IsFirstSeat c [] third (All-nil IsFirstSeat)))

-- ---- the log of a book

record IsFirstLife (life : Life) : Type 0 where
  node : IsFirstNode life.node
  entries : All IsFirstEntry life.entries

lived_first : (life : Life) (o : Outcome Stepped) → IsFirstLife life → IfOk o IsFirstStep → IsFirstLife (lived life o)
lived_first life (Ok s) is stays = record { node = stays.node; entries = All-append IsFirstEntry life.entries s.entries is.entries stays.entries }
lived_first life (Err fault) is stays = record { node = is.node; entries = is.entries }

lives_first : (inputs : List Input) (life : Life) → IsFirstLife life → All IsFirstInput inputs → IsFirstLife (fold one_input life inputs)
lives_first [] life is all = is
lives_first (i ∷ more) life is all =
    let next = lived_first life (step life.node i) is (step_stays life.node i is.node (All-head IsFirstInput i more all)) in
    lives_first more (one_input life i) next (All-tail IsFirstInput i more all)

born_first : (start : Start) → life_of start.me ≡ 1 → AreFirst start.members → IsFirstLife (born start.me start.ring start.members)
born_first start me members = record {
  node = record { life = me; state = tt };
  entries = All-cons IsFirstEntry (first_change start.ring start.members) [] members (All-nil IsFirstEntry);
}

pub book_first : (start : Start) (calls : List Called) (log : List Entry) (seats : List SeatRecord) → IsRecorded start calls log → life_of start.me ≡ 1
    → AreFirst start.members → Agree calls seats → Covers calls seats → All IsFirstSeat seats → All IsFirstEntry log
book_first start calls log seats recorded me members agree covers first =
    let inputs = All-map IsFirstInput (λ (call : Called). call.input) calls (calls_first calls seats agree covers first) in
    rw recorded.log_is (lives_first _ (born start.me start.ring start.members) (born_first start me members) inputs).entries

-- ---- the logs of all books

pub ranks_first : (ids : List ℕ) → AreFirst (first_ranks ids)
ranks_first [] = All-nil (λ p. life_of p ≡ 1)
ranks_first (id ∷ ids) = All-cons (λ p. life_of p ≡ 1) (first_rank id) (first_ranks ids) (omega arith) (ranks_first ids)

unmapped : {X Y : Type 0} (f : X → Y) (P : Y → Type 0) (xs : List X) → All P (map f xs) → All (λ x. P (f x)) xs
unmapped f P [] all = All-nil (λ x. P (f x))
unmapped f P (x ∷ xs) all = All-cons (λ x. P (f x)) x xs (All-head P (f x) (map f xs) all) (unmapped f P xs (All-tail P (f x) (map f xs) all))

pub logs_first : (nodes : ℕ) (books : List Closed) (logs : List LogRecord) → map (λ (b : Closed). b.start) books ≡ starts nodes → AreLogsOf books logs
    → All IsFirstBook books → All HasFirstLives logs
logs_first nodes books logs begun are first =
    let procs : AreFirst (map (λ (l : LogRecord). l.proc) logs) = rw (processes nodes books logs begun are) (ranks_first (node_numbers nodes)) in
    let entries : All (All IsFirstEntry) (map (λ (l : LogRecord). l.entries) logs) = rw are.entries (All-map (All IsFirstEntry) (λ (b : Closed). b.log) books first) in
    let each = unmapped (λ (l : LogRecord). l.proc) (λ p. life_of p ≡ 1) logs procs in
    let all = unmapped (λ (l : LogRecord). l.entries) (All IsFirstEntry) logs entries in
    λ k d inside. (each k d inside, all k d inside)

version_one : (version : Version) (logs : List LogRecord) → IsFirstVersion version logs → AreLoud logs → All HasFirstLives logs → version ≡ One
version_one One logs first loud all = refl
version_one Two logs first loud all = absurd (first.1 all)
version_one Three logs first loud all = absurd (first loud)

pub in_version_one : (nodes : ℕ) (books : List Closed) (logs : List LogRecord) (version : Version) → map (λ (b : Closed). b.start) books ≡ starts nodes → AreLogsOf books logs
    → All IsFirstBook books → IsFirstVersion version logs → version ≡ One
in_version_one nodes books logs version begun are first is = version_one version logs is are.loud (logs_first nodes books logs begun are first)
