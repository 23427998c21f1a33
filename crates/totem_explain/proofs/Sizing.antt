-- Sizes add up, part by part.
use Rattle.std.proofs.Common.{◌≡◌, ◌≤◌, ◌<◌, ◌+◌, ◌*◌, ◌∙◌, ap, sym, arith, ℕ, List, [], ◌∷◌, ◌++◌, length, filter, Bool, drop, slice_index_or}
use Rattle.std.proofs.lemmas.List.{length-append, drop_more}
use Rattle.std.proofs.lemmas.List.Elements.{filter-append}
use Rattle.std.proofs.lemmas.List.Sums.{length-filter, count_by-le-length}
use Rattle.totem_evs.specs.declared.entry.Entry.{Entry}
use Rattle.totem_evs.specs.declared.log.Log.{Log}
use Rattle.totem_explain.specs.declared.size.Size.{Size}
use Rattle.totem_explain.specs.Sizes.{all_entries, AddUp, IsWithin, IsSizeOf, is_change, is_send, is_safe_send, is_delivery, is_transitional_delivery, is_failure}

parted : (p : Entry → Bool) (xs ys : List Entry) → length (filter p (xs ++ ys)) ≡ length (filter p xs) + length (filter p ys)
parted p xs ys = ap length (filter-append p xs ys) ∙ length-append (filter p xs) (filter p ys)

-- a part was added to the size, and the rest is left
pub added : (old : Size) (all : List Entry) (size : Size) (part rest : List Entry) (next : Size)
    → AddUp old all size (part ++ rest) → AddUp size part next [] → AddUp old all next rest
added old all size part rest next before one = record {
  changes = omega (arith, before.changes, one.changes, parted is_change part rest);
  sends = omega (arith, before.sends, one.sends, parted is_send part rest);
  safe_sends = omega (arith, before.safe_sends, one.safe_sends, parted is_safe_send part rest);
  deliveries = omega (arith, before.deliveries, one.deliveries, parted is_delivery part rest);
  transitional = omega (arith, before.transitional, one.transitional, parted is_transitional_delivery part rest);
  failures = omega (arith, before.failures, one.failures, parted is_failure part rest);
}

few : (p : Entry → Bool) (xs : List Entry) → length (filter p xs) ≤ length xs
few p xs = rw (length-filter p xs) (count_by-le-length p xs)

-- what was added is no more than the part
pub grown : (size next : Size) (part : List Entry) (most more : ℕ) → length part ≤ more → AddUp size part next [] → IsWithin size most → IsWithin next (most + more)
grown size next part most more short one within = record {
  changes = omega (arith, within.changes, one.changes, few is_change part, short);
  sends = omega (arith, within.sends, one.sends, few is_send part, short);
  safe_sends = omega (arith, within.safe_sends, one.safe_sends, few is_safe_send part, short);
  deliveries = omega (arith, within.deliveries, one.deliveries, few is_delivery part, short);
  transitional = omega (arith, within.transitional, one.transitional, few is_transitional_delivery part, short);
  failures = omega (arith, within.failures, one.failures, few is_failure part, short);
}

-- nothing was there before
pub sized : (none : Size) (all : List Entry) (size : Size) → IsSizeOf [] none → AddUp none all size [] → IsSizeOf all size
sized none all size zero sum = record {
  changes = omega (arith, zero.changes, sum.changes);
  sends = omega (arith, zero.sends, sum.sends);
  safe_sends = omega (arith, zero.safe_sends, sum.safe_sends);
  deliveries = omega (arith, zero.deliveries, sum.deliveries);
  transitional = omega (arith, zero.transitional, sum.transitional);
  failures = omega (arith, zero.failures, sum.failures);
}

-- the entries of the logs that are left, before and after one of them
pub one_log : (logs : List Log) (k : ℕ) (log : Log) → k < length logs → log ≡ slice_index_or logs k log
    → all_entries (drop k logs) ≡ log.entries ++ all_entries (drop (k + 1) logs)
one_log logs k log within at = ap all_entries (drop_more logs k log within ∙ ap (λ (l : Log). l ∷ drop (k + 1) logs) (sym at))

-- a log was added to the size of those before it
pub log_added : (old : Size) (logs : List Log) (k : ℕ) (log : Log) (entries : List Entry) (size next : Size)
    → k < length logs → log ≡ slice_index_or logs k log → entries ≡ log.entries
    → AddUp old (all_entries logs) size (all_entries (drop k logs)) → AddUp size entries next []
    → AddUp old (all_entries logs) next (all_entries (drop (k + 1) logs))
log_added old logs k log entries size next within at same before one =
    added old (all_entries logs) size log.entries (all_entries (drop (k + 1) logs)) next
    (rw (← one_log logs k log within at) before) (rw (← same) one)

pub log_grown : (size next : Size) (entries : List Entry) (k : ℕ) → length entries ≤ 1000000 → AddUp size entries next [] → IsWithin size (1000000 * k) → IsWithin next (1000000 * (k + 1))
log_grown size next entries k few one within =
    let more : 1000000 * (k + 1) ≡ 1000000 * k + 1000000 = omega arith in
    rw more (grown size next entries (1000000 * k) 1000000 few one within)
