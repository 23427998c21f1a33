use Rattle.totem_certificate.proofs.Common.{◌≡◌, ℕ, ◌-◌, ◌≤◌, List, take, drop, arith, ap, ◌∙◌, take_rest, numbers_text}
use Rattle.totem_certificate.proofs.writing.put_few.Invariants.{Written}
use Rattle.totem_certificate.proofs.writing.put_few.Goals as goal

-- once no number is left, what is put is the text of all
whole : (numbers text : List ℕ) (left start : ℕ) → Written numbers text left start → left ≤ 0 → take (704 - start) (drop start text) ≡ numbers_text numbers
whole numbers text left start written none =
    let no : left ≡ 0 = omega (arith, none) in
    let rest = take_rest text start in
    (rw written.long at rest) ∙ written.spelled ∙ ap (λ (k : ℕ). numbers_text (drop k numbers)) no

pub returns : goal.returns
returns g c =
    let put = c.put.ensures in
    rw (whole c.args.numbers.now c.loop-left.text c.loop-left.left c.loop-left.start c.loop-left.invariant c.loop-left-test.false) at put
