-- What is read is spelled so, and what is spelled so is read: the numbers of a line.
use Rattle.totem_certificate.proofs.Common.{decimal, ◌==◌, ◌≡◌, ℕ, zero, suc, inl, inr, List, [], ◌∷◌, ◌++◌, Ok, Err, cond, refl, sym, ◌∙◌, ap, append_assoc, arith, eqb-true, append-nil, ◌>>=◌, after, taken, guard_then, parsed_is, number_is, number_again, numbers_text}
use Rattle.totem_names.specs.declared.fault.TextFault.TheVariants as faults
use Rattle.totem_names.specs.Numbers.{number_at}
use Rattle.totem_certificate.specs.CertGrammar.{numbers_at}
use Rattle.totem_certificate.proofs.LinesFromLeft.{NumbersFrom}

pub numbers_is : (room : ℕ) (ns bytes rest : List ℕ) → numbers_at room bytes ≡ Ok (ns, rest) → NumbersFrom room ns × (32 ∷ bytes ≡ numbers_text ns ++ 10 ∷ rest)
unfolding numbers_at
numbers_is zero ns bytes rest e = absurd cc
numbers_is (suc room) ns bytes rest e =
    after (number_at 4294967295 bytes) (λ n. cond (n.0.1 == 10) (Ok (n.0.0 ∷ [], n.1)) (cond (n.0.1 == 32) (numbers_at room n.1 >>= λ others. Ok (n.0.0 ∷ others.0, others.1)) (Err faults.Word))) (ns, rest) e (λ n mid e1 more.
    let x = number_is 4294967295 n.0 n.1 bytes mid (omega arith) (omega arith) e1 in
    elim (taken (n.1 == 10) (Ok (n.0 ∷ [], mid)) (cond (n.1 == 32) (numbers_at room mid >>= λ others. Ok (n.0 ∷ others.0, others.1)) (Err faults.Word)) (Ok (ns, rest)) more) [
      | inl r ↦
          let same : n.1 ≡ 10 = eqb-true _ _ r.0 in
          let q = parsed_is (n.0 ∷ []) ns mid rest r.1 in
          let text : 32 ∷ bytes ≡ numbers_text (n.0 ∷ []) ++ 10 ∷ mid = ap (λ (t : List ℕ). 32 ∷ t) (x.spelled ∙ ap (λ (b : ℕ). decimal n.0 ++ b ∷ mid) same ∙ ap (λ (t : List ℕ). t ++ 10 ∷ mid) (sym (append-nil (decimal n.0)))) in
          let is : NumbersFrom (suc room) (n.0 ∷ []) = record { some = omega arith; few = omega arith; each = (record { positive = x.positive; small = x.small }, tt) } in
          rw (← q.0, ← q.1) (is, text)
      | inr other ↦
          let t = guard_then (n.1 == 32) (numbers_at room mid >>= λ others. Ok (n.0 ∷ others.0, others.1)) faults.Word (ns, rest) other.1 in
          let same : n.1 ≡ 32 = eqb-true _ _ t.0 in
          after (numbers_at room mid) (λ others. Ok (n.0 ∷ others.0, others.1)) (ns, rest) t.1 (λ others left e2 made.
          let q = parsed_is (n.0 ∷ others) ns left rest made in
          let tail = numbers_is room others mid left e2 in
          let text : 32 ∷ bytes ≡ numbers_text (n.0 ∷ others) ++ 10 ∷ left = ap (λ (t : List ℕ). 32 ∷ t) (x.spelled ∙ ap (λ (b : ℕ). decimal n.0 ++ b ∷ mid) same ∙ ap (λ (t : List ℕ). decimal n.0 ++ t) tail.1 ∙ sym (append_assoc (decimal n.0) (numbers_text others) (10 ∷ left))) in
          let is : NumbersFrom (suc room) (n.0 ∷ others) = record { some = omega arith; few = omega (arith, tail.0.few); each = (record { positive = x.positive; small = x.small }, tail.0.each) } in
          rw (← q.0, ← q.1) (is, text))
    ])

pub numbers_again : (room n : ℕ) (ns rest : List ℕ) → NumbersFrom room (n ∷ ns) → numbers_at room (decimal n ++ (numbers_text ns ++ 10 ∷ rest)) ≡ Ok (n ∷ ns, rest)
unfolding numbers_at
numbers_again zero n ns rest h = absurd (omega (arith, h.few))
numbers_again (suc room) n [] rest h =
    rw (number_again 4294967295 n 10 rest h.each.0.positive h.each.0.small (omega arith) refl) refl
numbers_again (suc room) n (m ∷ ns) rest h =
    let regrouped : numbers_text (m ∷ ns) ++ 10 ∷ rest ≡ 32 ∷ (decimal m ++ (numbers_text ns ++ 10 ∷ rest)) = simp append_assoc in
    let others : NumbersFrom room (m ∷ ns) = record { some = omega arith; few = omega (arith, h.few); each = h.each.1 } in
    rw (regrouped, number_again 4294967295 n 32 (decimal m ++ (numbers_text ns ++ 10 ∷ rest)) h.each.0.positive h.each.0.small (omega arith) refl, numbers_again room m ns rest others) refl

-- the numbers of a line begin with a space
pub numbers_tail : (ns rest : List ℕ) → NumbersFrom 1000000 ns → (bytes : List ℕ) × (numbers_text ns ++ 10 ∷ rest ≡ 32 ∷ bytes) × (numbers_at 1000000 bytes ≡ Ok (ns, rest))
numbers_tail [] rest is = absurd (omega (arith, is.some))
numbers_tail (n ∷ ns) rest is = (decimal n ++ (numbers_text ns ++ 10 ∷ rest), simp append_assoc, numbers_again 1000000 n ns rest is)
