-- One more process in an array of fixed size.
use Rattle.totem_packets.proofs.Common.{◌≡◌, ℕ, ◌+◌, ◌-◌, ◌<◌, List, ◌++◌, length, take, drop, replicate, slice_set, sym, ◌∙◌, ap, arith, length-take-le, length-append, length-replicate, length-set, take-append-drop, drop-set-lt, drop-replicate}
use Rattle.std.proofs.Math.Seq.{drop-append-add}
use Rattle.totem_packets.specs.ShortLists.{IsShort}

whole : (xs : List ℕ) (n : ℕ) → IsShort xs n → length xs ≡ 32
whole xs n is = omega (arith, is.few, is.counted, ap length is.unused, length-append (take n xs) (replicate (32 - length (take n xs)) 1), length-replicate {A = ℕ} (32 - length (take n xs)) 1)

pub one_more : (xs : List ℕ) (n x : ℕ) → IsShort xs n → n < 32 → IsShort (slice_set xs n x) (n + 1)
one_more xs n x is lt = record {
  few = omega (arith, lt);
  counted = long;
  unused = rw (long, sym after) (take-append-drop (n + 1) (slice_set xs n x));
}
  where
    long : length (take (n + 1) (slice_set xs n x)) ≡ n + 1
    long = length-take-le (n + 1) (slice_set xs n x) (omega (arith, lt, whole xs n is, length-set xs n x))

    front : List ℕ
    front = take n xs

    free : List ℕ
    free = replicate (32 - length front) 1

    fewer : (32 - length front) - 1 ≡ 32 - (n + 1)
    fewer = omega (arith, is.counted)

    after : drop (n + 1) (slice_set xs n x) ≡ replicate (32 - (n + 1)) 1
    after =
        drop-set-lt (n + 1) xs n x (omega arith)
        ∙ sym (ap (drop (n + 1)) is.unused)
        ∙ ap (λ k. drop (k + 1) (front ++ free)) (sym is.counted)
        ∙ drop-append-add front free 1
        ∙ drop-replicate {X = ℕ} 1 (32 - length front) 1
        ∙ ap (λ k. replicate {A = ℕ} k 1) fewer
