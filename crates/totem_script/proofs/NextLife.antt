-- A process that returns.
use Rattle.totem_script.proofs.Common.{◌≡◌, ◌≢◌, ℕ, ◌<◌, ◌+◌, List, [], ◌∷◌, ◌++◌, true, arith, nat_tests, RingName, id_of, life_of, Entry, All-push, LogRecord, Quiet, Node, new_node, first_change}
use Rattle.std.proofs.lemmas.List.{map-append}
use Rattle.totem_script.specs.Laws.{CanReturn}
use Rattle.totem_script.specs.Actors.{Actor, new_actor, log_of, may_return, next_life, ring_of_return, returned, procs_in, IsBelowAll, Rises, AreLives, IsHistory}

-- ---- What the tests say

pub can_return : (a : Actor) → may_return a ≡ true → CanReturn a
can_return a may = grind (arith, nat_tests)

pub may_if_can : (a : Actor) → CanReturn a → may_return a ≡ true
may_if_can a can = grind (arith, nat_tests)

-- ---- The lives before

pub same_id : (p : ℕ) → life_of p < 65535 → id_of (next_life p) ≡ id_of p
same_id p less = omega arith

later : (p : ℕ) → life_of p < 65535 → p < next_life p
later p less = omega arith

procs_more : (logs : List LogRecord) (log : LogRecord) → procs_in (logs ++ log ∷ []) ≡ procs_in logs ++ log.proc ∷ []
procs_more logs log = map-append (λ (l : LogRecord). l.proc) logs (log ∷ [])

lives_more : (id q : ℕ) (ps : List ℕ) → AreLives id ps → id_of q ≡ id → AreLives id (ps ++ q ∷ [])
lives_more id q [] lives is = (is, tt)
lives_more id q (p ∷ ps) lives is = (lives.0, lives_more id q ps lives.1 is)

below_more : (p q : ℕ) (ps : List ℕ) → IsBelowAll p ps → p < q → IsBelowAll p (ps ++ q ∷ [])
below_more p q [] all less = (less, tt)
below_more p q (r ∷ ps) all less = (all.0, below_more p q ps all.1 less)

last_above : (r p : ℕ) (ps : List ℕ) → IsBelowAll r (ps ++ p ∷ []) → r < p
last_above r p [] all = all.0
last_above r p (s ∷ ps) all = last_above r p ps all.1

-- a list that ascends to p, with a process above p after it, is ascending
rises_more : (p q : ℕ) (ps : List ℕ) → Rises (ps ++ p ∷ []) → p < q → Rises ((ps ++ p ∷ []) ++ q ∷ [])
rises_more p q [] rises less = ((less, tt), (tt, tt))
rises_more p q (r ∷ ps) rises less =
    let above = last_above r p ps rises.0 in
    (below_more r q (ps ++ p ∷ []) rises.0 (omega arith), rises_more p q ps rises.1 less)

-- the log of the life that ended joins the earlier ones
pub next_history : (p q : ℕ) (logs all : List LogRecord) (log : LogRecord) → IsHistory p logs → life_of p < 65535 → q ≡ next_life p → log.proc ≡ p → log.ending ≢ Quiet
    → all ≡ logs ++ log ∷ [] → IsHistory q all
next_history p q logs all log history less next is loud more =
    let procs : procs_in all ≡ procs_in logs ++ p ∷ [] = rw (more, ← is) (procs_more logs log) in
    let id : id_of q ≡ id_of p = rw next (same_id p less) in
    let above : p < q = rw next (later p less) in
    record {
      lives = rw (procs, id) (lives_more (id_of p) q (procs_in logs ++ p ∷ []) history.lives id);
      rising = rw procs (rises_more p q (procs_in logs) history.rising above);
      loud = rw more (All-push (λ (l : LogRecord). l.ending ≢ Quiet) logs log history.loud loud);
    }

-- ---- The process after its return

pub is_back : (a : Actor) (p : ℕ) (ring : RingName) (n : Node) (log : LogRecord) (logs : List LogRecord) (entries : List Entry)
    → p ≡ next_life a.proc → ring ≡ ring_of_return a → n ≡ new_node p ring (p ∷ []) → entries ≡ first_change ring (p ∷ []) ∷ []
    → log ≡ log_of a → logs ≡ a.earlier ++ log ∷ [] → record { proc = p; earlier = logs; node = n; entries = entries } ≡ returned a
unfolding returned new_actor
is_back a p ring n log logs entries next on node wrote ended kept = rw (kept, ended, wrote, node, on, next)
