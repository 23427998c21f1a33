-- Held copies over many packets.
use Rattle.std.proofs.Common.{◌≡◌, ℕ, ◌+◌, ◌-◌, ◌<◌, ◌≤◌, List, [], ◌∷◌, ◌++◌, length, refl, ap, ◌∙◌, Bool, true, false, arith, append_assoc, suc, length-append, map, filter}
use Rattle.std.specs.Prelude.{nat_lt}
use Rattle.std.proofs.lemmas.Bool.{ltb-true, ltb-false, lt-ltb, le-ltb, le-leb, lt-leb}
use Rattle.std.proofs.lemmas.List.{map-append}
use Rattle.std.proofs.lemmas.List.Elements.{filter-append}
use Rattle.totem_net.specs.declared.held.HeldCopy.{HeldCopy}
use Rattle.totem_net.specs.Wires.{copies_made, nearer, due, kept, still_held}
use Rattle.totem_net.specs.Waiting.{Arrival, held_after, WaitTheirTime, NoneIsLost}

kept-append : (n : ℕ) (xs ys : List HeldCopy) → kept n (xs ++ ys) ≡ kept n xs ++ kept n ys
kept-append n xs ys =
    ap (map (nearer n)) (filter-append (λ (c : HeldCopy). nat_lt n c.left) xs ys)
    ∙ map-append (nearer n) (filter (λ (c : HeldCopy). nat_lt n c.left) xs) (filter (λ (c : HeldCopy). nat_lt n c.left) ys)

nearer-nearer : (m n : ℕ) (c : HeldCopy) → nearer n (nearer m c) ≡ nearer (m + n) c
nearer-nearer m n c =
    let left : c.left - m - n ≡ c.left - (m + n) = omega arith in ap (λ (k : ℕ). record c { left = k }) left

kept_two :
    (m n : ℕ) (c : HeldCopy) (cs : List HeldCopy) (b : Bool) → nat_lt m c.left ≡ true → nat_lt n (c.left - m) ≡ b
    → kept n (kept m cs) ≡ kept (m + n) cs → kept n (nearer m c ∷ kept m cs) ≡ kept (m + n) (c ∷ cs)
kept_two m n c cs true e f more =
    let below : m + n < c.left = omega (arith, ltb-true n (c.left - m) f) in
    rw (f, lt-ltb (m + n) c.left below) (ap (λ (xs : List HeldCopy). nearer n (nearer m c) ∷ xs) more ∙ ap (λ (d : HeldCopy). d ∷ kept (m + n) cs) (nearer-nearer m n c))
kept_two m n c cs false e f more =
    let above : c.left ≤ m + n = omega (arith, ltb-false n (c.left - m) f) in
    rw (f, le-ltb (m + n) c.left above) more

kept_one :
    (m n : ℕ) (c : HeldCopy) (cs : List HeldCopy) (b : Bool) → nat_lt m c.left ≡ b
    → kept n (kept m cs) ≡ kept (m + n) cs → kept n (kept m (c ∷ cs)) ≡ kept (m + n) (c ∷ cs)
kept_one m n c cs true e more = rw e (kept_two m n c cs (nat_lt n (c.left - m)) e refl more)
kept_one m n c cs false e more =
    let above : c.left ≤ m + n = omega (arith, ltb-false m c.left e) in
    rw (e, le-ltb (m + n) c.left above) more

-- n further packets after m
kept-kept : (m n : ℕ) (cs : List HeldCopy) → kept n (kept m cs) ≡ kept (m + n) cs
kept-kept m n [] = refl
kept-kept m n (c ∷ cs) = kept_one m n c cs (nat_lt m c.left) refl (kept-kept m n cs)

-- one further packet
held_more :
    (m : ℕ) (a : Arrival) (held ys : List HeldCopy)
    → still_held a.fate a.packet (kept m held ++ ys)
    ≡ kept (m + 1) held ++ (kept 1 ys ++ kept 0 (copies_made a.fate a.packet))
held_more m a held ys =
    let own = kept 0 (copies_made a.fate a.packet) in
    ap (λ (xs : List HeldCopy). xs ++ own) (kept-append 1 (kept m held) ys)
    ∙ (ap (λ (xs : List HeldCopy). (xs ++ kept 1 ys) ++ own) (kept-kept m 1 held)
    ∙ append_assoc (kept (m + 1) held) (kept 1 ys) own)

wait_on :
    (m : ℕ) (more : List Arrival) (held ys : List HeldCopy)
    → (newer : List HeldCopy) × (held_after more (kept m held ++ ys) ≡ kept (m + length more) held ++ newer)
wait_on m [] held ys =
    let none : m ≡ m + 0 = omega arith in (ys, ap (λ (k : ℕ). kept k held ++ ys) none)
wait_on m (a ∷ more) held ys =
    let rest = wait_on (m + 1) more held (kept 1 ys ++ kept 0 (copies_made a.fate a.packet)) in
    let one : m + 1 + length more ≡ m + suc (length more) = omega arith in (
      rest.0,
      ap (λ (xs : List HeldCopy). held_after more xs) (held_more m a held ys)
          ∙ (rest.1 ∙ ap (λ (k : ℕ). kept k held ++ rest.0) one),
    )

pub wait_their_time : WaitTheirTime
wait_their_time first more held =
    let rest = wait_on 1 more held (kept 0 (copies_made first.fate first.packet)) in
    let one : 1 + length more ≡ suc (length more) = omega arith in
    (rest.0, rest.1 ∙ ap (λ (k : ℕ). kept k held ++ rest.0) one)

counted_one :
    (n : ℕ) (c : HeldCopy) (cs : List HeldCopy) (b : Bool) → nat_lt n c.left ≡ b
    → length (due n cs) + length (kept n cs) ≡ length cs
    → length (due n (c ∷ cs)) + length (kept n (c ∷ cs)) ≡ suc (length cs)
counted_one n c cs true e more =
    let below : n < c.left = ltb-true n c.left e in
    rw (lt-leb c.left n below, e) (omega arith)
counted_one n c cs false e more =
    let above : c.left ≤ n = ltb-false n c.left e in
    rw (le-leb c.left n above, e) (omega arith)

-- the due copies and the kept copies are all copies
counted : (n : ℕ) (cs : List HeldCopy) → length (due n cs) + length (kept n cs) ≡ length cs
counted n [] = refl
counted n (c ∷ cs) = counted_one n c cs (nat_lt n c.left) refl (counted n cs)

pub none_is_lost : NoneIsLost
none_is_lost fate packet held =
    let own = copies_made fate packet in
    omega (
      arith,
      length-append (due 0 own) (due 1 held),
      length-append (kept 1 held) (kept 0 own),
      counted 0 own,
      counted 1 held,
    )
