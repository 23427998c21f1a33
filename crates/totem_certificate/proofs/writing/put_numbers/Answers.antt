use Rattle.totem_certificate.proofs.Common.{◌≡◌, ℕ, ◌+◌, ◌-◌, ◌++◌, ◌≤◌, List, take, drop, codes, decimal, arith, ap, ◌∙◌, wrote_both, numbers_text}
use Rattle.std.proofs.lemmas.Grind.{flat_map-append}
use Rattle.std.proofs.Math.Seq.{take-add}
use Rattle.totem_certificate.proofs.writing.put_numbers.Goals as goal

-- the text of more numbers
longer : (from to : ℕ) (ns : List ℕ) → from ≤ to → numbers_text (take to ns) ≡ numbers_text (take from ns) ++ numbers_text (take (to - from) (drop from ns))
longer from to ns few =
    let same : from + (to - from) ≡ to = omega (arith, few) in
    let parts = take-add from (to - from) ns in
    ap numbers_text (rw same at parts) ∙ flat_map-append (λ (n : ℕ). codes " " ++ decimal n) (take from ns) (take (to - from) (drop from ns))

pub loop-done-preserved : goal.loop-done-preserved
loop-done-preserved g c =
    let both = wrote_both _ _ _ _ _ c.loop-done.invariant c.in_ok-put_few.ensures in
    let further : c.loop-done.done ≤ c.min-end.result = omega (arith, c.min-end.ensures, c.loop-done-test.true) in
    rw (← longer c.loop-done.done c.min-end.result c.args.numbers.now further) at both
