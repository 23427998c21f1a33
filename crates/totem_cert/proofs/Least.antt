-- The least event that is left, and the closed list as it is written.
use Rattle.totem_cert.proofs.Common.{◌≡◌, ℕ, suc, ◌+◌, ◌<◌, ◌≤◌, inl, inr, List, ◌∷◌, ◌++◌, length, drop, get_or, slice_get, Some, refl, ◌∙◌, ap, arith, length-append, common_steps, slice_get_within, Place, Entry, Log, SpecNo, IsRun, IsAtMost, IsEntryAt, Numbering, numbers_of, Rising, less_or_not, Step, IsLeft, IsLeastLeft, IsTurned, BeginsLeast, IsBrokenBy, IsClosedList, forward, unless, place, IsSound, NoneReady, IsFirstLeft, IsRound, IsForwardFrom}
use Rattle.totem_cert.proofs.LineFacts.{line_of_at, line_in, event_at, entry_event, at_most, unnumbered_past, past_unnumbered}
use Rattle.totem_cert.proofs.Lists.{at_index, read_is}
use Rattle.totem_cert.proofs.Closing.{drop_here}
use Rattle.totem_cert.proofs.Stepping.{left_unnumbered, unnumbered_left}

first_left_least : (run : List Log) (lines : List Numbering) (k : ℕ) (first : IsFirstLeft run lines k) → Rising run → IsSound run lines → NoneReady run lines → IsLeastLeft run (place first.log.proc (length first.line.numbers))
first_left_least run lines k first rising sound none = record {
  left = unnumbered_left run lines sound none (place first.log.proc (length first.line.numbers)) (x.0, entry_event run k (length first.line.numbers) x.0 rising (record { log = first.log; is_log = first.log_at; is_entry = x.1 }))
      (past_unnumbered lines first.log.proc (length first.line.numbers) (rw (line_of_at run lines k first.log first.line rising sound.fits first.log_at first.line_at) (omega arith)));
  least = λ f left. least f left;
}
  where
    x : (x : Entry) × (slice_get first.log.entries (length first.line.numbers) ≡ Some x)
    x = at_index first.log.entries (length first.line.numbers) first.more

    least : (f : Place) → IsLeft run f → IsAtMost (place first.log.proc (length first.line.numbers)) f
    least f left =
        let a : IsEntryAt run k (length first.line.numbers) x.0 = record { log = first.log; is_log = first.log_at; is_entry = x.1 } in
        let (l, j, b, is) = event_at run f left.event.0 left.event.1 in
        let s = line_in run lines l b.log rising sound.fits b.is_log in
        let past : length (numbers_of lines b.log.proc) ≤ j = unnumbered_past lines b.log.proc j (rw is at (left_unnumbered run lines sound none f left)) in
        let given : length (numbers_of lines b.log.proc) ≡ length s.0.numbers = ap length s.2 in
        rw is (at_most run k (length first.line.numbers) l j x.0 left.event.0 rising a b (elim (less_or_not k l) [
          | inl over ↦ inl over
          | inr (inl under) ↦ absurd (let full = first.before.full l b.log s.0 under b.is_log s.1 in let lt = slice_get_within b.log.entries j left.event.0 b.is_entry in omega arith)
          | inr (inr same) ↦ inr (same, (let one : s.0 ≡ first.line = (let h : slice_get lines k ≡ Some s.0 = rw same s.1 in let g = first.line_at in cc) in let numbers = ap (λ (n : Numbering). length n.numbers) one in omega arith))
        ]))

-- what the k-th log and line say about the least event left
pub least_left_is : (run items : List Log) (lines : List Numbering) (k : ℕ) (log : Log) (line : Numbering) (numbers : List ℕ) → IsRun run → IsSound run lines → NoneReady run lines → IsFirstLeft run lines k
    → items ≡ run → log ≡ get_or items k log → line ≡ get_or lines k line → numbers ≡ line.numbers → IsLeastLeft run (record { proc = log.proc; at = length numbers + 1 })
least_left_is run items lines k log line numbers is_run sound none first same log_is line_is numbers_is =
    let one : log ≡ first.log = read_is items k log first.log (rw same first.log_at) log_is in
    let two : line ≡ first.line = read_is lines k line first.line first.line_at line_is in
    let h = first_left_least run lines k first is_run.rising sound none in
    let e : suc (length first.line.numbers) ≡ length numbers + 1 = rw (numbers_is, two) (omega arith) in
    rw one (rw e at h)

-- what is written for the round is the closed list
pub cycle : (run : List Log) (start : Place) (steps : List Step) (again : ℕ) (written places : List Place) (k : SpecNo) → IsLeastLeft run start → IsRound run start steps again → IsForwardFrom steps again again written
    → IsTurned written places → BeginsLeast places → IsBrokenBy run k places → IsClosedList run k places
cycle run start steps again written places k begins round from turned least broken = grind (arith, common_steps)

pub written_some : (run : List Log) (start : Place) (steps : List Step) (again : ℕ) (written : List Place) → IsRound run start steps again → IsForwardFrom steps again again written → 0 < length written
written_some run start steps again written round from =
    let e = from.each round.last.from (inr (refl, round.last, round.back.at_end, refl)) in
    let d = drop_here steps again round.back.step round.back.at_again in
    let whole : written ≡ forward round.last.from (round.back.step ∷ drop (suc again) steps) = e ∙ ap (λ (vs : List Step). forward round.last.from vs) d in
    some written (forward round.back.step.from (drop (suc again) steps)) round.back.step.from (unless round.back.step.to round.last.from) whole
  where
    some : (ws xs : List Place) (y : Place) (ys : List Place) → ws ≡ xs ++ (y ∷ ys) → 0 < length ws
    some ws xs y ys is = let l : length ws ≡ length xs + length (y ∷ ys) = rw is (length-append xs (y ∷ ys)) in omega arith
