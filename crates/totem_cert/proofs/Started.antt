-- The lines before any entry has a number.
use Rattle.totem_cert.proofs.Common.{◌≡◌, ℕ, suc, ◌*◌, ◌≤◌, List, [], ◌∷◌, length, map, option_map, slice_get, Some, None, refl, ◌∙◌, ap, arith, length-map, slice_get-map, Place, Log, IsRun, Numbering, numbers_of, number_at, IsNumberedSoFar, entries_left, empty_line}
use Rattle.totem_cert.proofs.CountSteps.{logs_short}

line_is : (run : List Log) (k : ℕ) (log : Log) (line : Numbering) → slice_get run k ≡ Some log → slice_get (map empty_line run) k ≡ Some line → line ≡ empty_line log
line_is run k log line at_l at_n = let h : slice_get (map empty_line run) k ≡ Some (empty_line log) = slice_get-map empty_line run k ∙ ap (option_map empty_line) at_l in cc

none_for : (run : List Log) (p : ℕ) → numbers_of (map empty_line run) p ≡ []
none_for [] p = refl
none_for (log ∷ logs) p = grind (arith, none_for logs p)

none_at : (run : List Log) (e : Place) → number_at (map empty_line run) e ≡ None
none_at run e = grind (arith, none_for)

few : (run : List Log) (lines : List Numbering) → ((k : ℕ) (log : Log) → slice_get run k ≡ Some log → length log.entries ≤ 1000000) → entries_left run lines ≤ length run * 1000000
few [] lines each = omega arith
few (log ∷ logs) [] each = omega arith
few (log ∷ logs) (line ∷ lines) each = omega (arith, few logs lines (λ k l at. each (suc k) l at), each 0 log refl)

pub started : (run : List Log) (lines : List Numbering) → IsRun run → lines ≡ map empty_line run → IsNumberedSoFar run lines 0
started run lines is_run is = grind (arith, length-map, line_is, few, logs_short, none_at)
