-- The first entry out of place.
use Rattle.totem_pass_ab.proofs.Common.{◌≡◌, ℕ, ◌<◌, inl, inr, List, [], ◌∷◌, length, slice_get, Some, refl, arith, Place, Entry, Log, log_of, StaysInPlace, Rising, log_of_at, EachBefore, place, Begins, EachBegins, IsLeastInLog}
use Rattle.totem_evs.specs.declared.spec.SpecNo.TheVariants as spec
use Rattle.totem_evs.specs.ChangeFaults.{IsMisplaced, BreaksPlace}
use Rattle.totem_evs.specs.Answers.{IsLeastBreak}
use Rattle.totem_search.proofs.Searching.{NoneBeforeLog, least_here, begins_at}

-- a log that stays in place has no entry out of place
pub placed_contradicts : (log : List Entry) (i : ℕ) → StaysInPlace log → IsMisplaced log i → ⊥
placed_contradicts log i ok (lt, inl (zero, never)) = never (rw zero (ok.begins (omega arith)))
placed_contradicts log i ok (lt, inr (inl (x, names, never))) = never (ok.named i x names)
placed_contradicts log i ok (lt, inr (inr (k, x, before, fails))) = ok.final k i x fails before lt

-- a list that breaks 2.2 begins at an entry out of place
misplaced_at : (run : List Log) (p i : ℕ) (rest : List Place) → BreaksPlace run (place p i ∷ rest) → IsMisplaced (log_of run p) i
misplaced_at run p i [] (j, is, h) = let same : j ≡ i = omega arith in rw same at h
misplaced_at run p i (f ∷ more) h = absurd h

misplaced_begins : (run : List Log) → EachBegins run (BreaksPlace run)
misplaced_begins run = record { each = λ places h. go places h }
  where
    go : (places : List Place) → BreaksPlace run places → Begins run places
    go (e ∷ []) (i, is, h) = begins_at run e i [] is h.0
    go places h = absurd h

-- the first entry out of place, in a log after those that stay in place, is the first of the run
pub least_at : (run : List Log) (k i : ℕ) (log : Log) → Rising run → slice_get run k ≡ Some log → IsMisplaced log.entries i → EachBefore StaysInPlace run k
    → ((j : ℕ) → j < i → IsMisplaced log.entries j → ⊥) → IsLeastBreak run spec.Misplaced (place log.proc i ∷ [])
least_at run k i log rising at misplaced placed least = least_here run (BreaksPlace run) k log (place log.proc i ∷ []) (misplaced_begins run) rising at here before
  where
    own : log_of run log.proc ≡ log.entries
    own = log_of_at run k log rising at

    here : IsLeastInLog (BreaksPlace run) log.proc (length log.entries) (place log.proc i ∷ [])
    here = record {
      at = i;
      rest = [];
      within = misplaced.0;
      is = refl;
      least = record { least = record { holds = (i, refl, rw own misplaced); first = λ others h. tt } };
      none_before = record { none = λ j rest lt h. least j lt (rw own at (misplaced_at run log.proc j rest h)) };
    }

    before : NoneBeforeLog run (BreaksPlace run) k
    before = record {
      none = λ j m other rest lt at_j within h. placed_contradicts other.entries m (placed.each j other lt at_j) (rw (log_of_at run j other rising at_j) at (misplaced_at run other.proc m rest h));
    }
