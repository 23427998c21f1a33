use Rattle.std.proofs.Common.{◌≡◌, [], rules}
use Rattle.totem_check.proofs.Judging.{first_passed}
use Rattle.totem_check.proofs.early.early_along.Goals as goal

pub returns : goal.returns
returns c =
    let faults = c.in_ok-faults.faults.items in
    let none : faults ≡ [] = search rules in
    (first_passed c.args.run.now.logs faults c.in_ok-faults.ensures none, tt)
