use Rattle.totem_certificate.proofs.Common.{◌≡◌, ℕ, List, ◌*◌, ◌≤◌, drop, length, numbers_text}
use Rattle.totem_certificate.proofs.writing.put_few.Given as goal

-- the bytes from `start` on are the text of the numbers that are done
pub record Written (numbers text : List ℕ) (left start : ℕ) : Type 0 where
  pub few : left ≤ length numbers
  pub room : 11 * left ≤ start
  pub within : start ≤ 704
  pub long : length text ≡ 704
  pub spelled : drop start text ≡ numbers_text (drop left numbers)

abbrev pub invariant-loop-left : goal.invariant-loop-left
invariant-loop-left g l = Written l.numbers l.text l.left l.start

abbrev pub decreases-loop-left : goal.decreases-loop-left
decreases-loop-left g l = l.left
