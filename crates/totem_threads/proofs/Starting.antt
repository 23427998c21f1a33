-- The members of the first ring, and the logs of its nodes.
use Rattle.totem_threads.proofs.Common.{◌≡◌, ℕ, ◌+◌, ◌<◌, ◌≤◌, List, [], ◌∷◌, ◌++◌, length, get_or, map, refl, ap, sym, ◌∙◌, arith, AllPairs, IsBelowLog, node_numbers, first_rank, first_ranks, IsRingMembers, start_of, starts, AreLogsOf}
use Rattle.std.proofs.lemmas.List.{length-map, get_or-map}
use Rattle.std.proofs.lemmas.List.FromFn.{length-range_with_len, get_or-range_with_len}
use Rattle.totem_names.specs.declared.refused.ListFault.{ListFault}
use Rattle.totem_names.specs.Lists.{Refuses}
use Rattle.totem_names.proofs.Kept.{not_refused}
use Rattle.totem_evs.specs.LogRecord.{LogRecord}
use Rattle.totem_net.specs.declared.ends.NodeEnds.{NodeEnds}
use Rattle.totem_net.proofs.Numbers.{one_more}
use Rattle.totem_books.specs.Replay.{Start}
use Rattle.totem_books.specs.Seats.{Closed}

number_at : (n i d : ℕ) → i < n → get_or (node_numbers n) i d ≡ 1 + i
number_at n i d less = get_or-range_with_len 1 n i d less

-- one process more
pub numbers_more : (xs : List ℕ) (n j : ℕ) → xs ≡ node_numbers n → j ≡ n + 1 → xs ++ j ∷ [] ≡ node_numbers (n + 1)
numbers_more xs n j is next = ap (λ (ys : List ℕ). ys ++ j ∷ []) is ∙ sym (one_more n j next)

-- 1 to n are members, where they are 1 to 32
pub are_members : (n : ℕ) → 0 < n → n ≤ 32 → IsRingMembers (node_numbers n)
are_members n some few =
    let count = length-range_with_len 1 n in
    record {
      some = omega (arith, count, some);
      processes = record {
        few = omega (arith, count, few);
        rising = λ i j d less inside. rw (number_at n i d (omega (arith, count)), number_at n j d (omega (arith, count))) (omega arith);
        each = λ i d inside. rw (number_at n i d (omega (arith, count))) (record { positive = omega arith; small = omega (arith, count) });
      };
    }

-- ---- With what the nodes begin

apart : (n : ℕ) (ends : List NodeEnds) → map (λ (e : NodeEnds). start_of n e.node) ends ≡ map (start_of n) (map (λ (e : NodeEnds). e.node) ends)
apart n [] = refl
apart n (e ∷ es) = ap (λ (xs : List Start). start_of n e.node ∷ xs) (apart n es)

-- the nodes of a network begin as all
pub starts_of : (n : ℕ) (ends : List NodeEnds) → map (λ (e : NodeEnds). e.node) ends ≡ node_numbers n
    → map (λ (e : NodeEnds). start_of n e.node) ends ≡ starts n
starts_of n ends are = apart n ends ∙ ap (map (start_of n)) are

-- ---- The processes of the books

mes : (books : List Closed) → map (λ (s : Start). s.me) (map (λ (b : Closed). b.start) books) ≡ map (λ (b : Closed). b.start.me) books
mes [] = refl
mes (b ∷ bs) = ap (λ (xs : List ℕ). b.start.me ∷ xs) (mes bs)

numbers : (nodes : ℕ) (ns : List ℕ) → map (λ (s : Start). s.me) (map (start_of nodes) ns) ≡ first_ranks ns
numbers nodes [] = refl
numbers nodes (n ∷ ns) = ap (λ (xs : List ℕ). first_rank n ∷ xs) (numbers nodes ns)

pub processes : (nodes : ℕ) (books : List Closed) (logs : List LogRecord) → map (λ (b : Closed). b.start) books ≡ starts nodes → AreLogsOf books logs
    → map (λ (l : LogRecord). l.proc) logs ≡ first_ranks (node_numbers nodes)
processes nodes books logs begun are =
    are.processes ∙ sym (mes books) ∙ ap (map (λ (s : Start). s.me)) begun ∙ numbers nodes (node_numbers nodes)

-- ---- Their logs are those of a run

module _ (nodes : ℕ) (logs : List LogRecord) (procs : map (λ (l : LogRecord). l.proc) logs ≡ first_ranks (node_numbers nodes)) where
  as_many : length logs ≡ nodes
  as_many = sym (length-map logs (λ (l : LogRecord). l.proc)) ∙ ap length procs ∙ length-map (node_numbers nodes) first_rank ∙ length-range_with_len 1 nodes

  process_at : (i : ℕ) (d : LogRecord) → i < length logs → (get_or logs i d).proc ≡ first_rank (1 + i)
  process_at i d inside =
      sym (get_or-map (λ (l : LogRecord). l.proc) logs i d 0 inside)
      ∙ ap (λ (xs : List ℕ). get_or xs i 0) procs
      ∙ get_or-map first_rank (node_numbers nodes) i 0 0 (omega (arith, as_many, length-range_with_len 1 nodes))
      ∙ ap first_rank (number_at nodes i 0 (omega (arith, as_many)))

  rise : AllPairs IsBelowLog logs
  rise i j d less inside = rw (process_at i d (omega arith), process_at j d inside) (omega arith)

-- they break none of the rules
pub logs_taken : (nodes : ℕ) (books : List Closed) (logs : List LogRecord) (fault : ListFault) → nodes ≤ 32
    → map (λ (b : Closed). b.start) books ≡ starts nodes → AreLogsOf books logs → Refuses 0 32 IsBelowLog logs fault → ⊥
logs_taken nodes books logs fault few begun are refused =
    let procs = processes nodes books logs begun are in
    let same = as_many nodes logs procs in
    not_refused 0 32 IsBelowLog logs fault (omega arith) (omega (arith, same, few)) (rise nodes logs procs) refused

-- ---- Books and their logs, one after another
