use Rattle.totem_books.proofs.Common.{◌≡◌, ◌+◌, ◌≤◌, vec_len, receipts_in, shares_in}
use Rattle.totem_books.proofs.settle.merged.Given as goal

abbrev pub invariant-loop-seat : goal.invariant-loop-seat
invariant-loop-seat g l = record {
  parts : l.all.parts + vec_len l.seats ≡ vec_len l.fn.seats;
  shares : l.all.amount + shares_in l.seats.items ≡ shares_in l.fn.seats.items;
  receipts : l.all.amount + receipts_in l.seats.items ≡ receipts_in l.fn.seats.items;
  apart : l.all.parts ≤ g.L.Ledger.parts;
}

abbrev pub decreases-loop-seat : goal.decreases-loop-seat
decreases-loop-seat g l = goal.left-loop-seat g l
