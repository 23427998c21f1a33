-- A run has at most one certificate.
use Rattle.totem_cert.proofs.Common.{below_more, ◌≡◌, ℕ, zero, suc, ◌<◌, inl, inr, List, [], ◌∷◌, Some, sym, ◌∙◌, arith, All, common_steps, slice_get_within, get_or_from_slice_get, Place, Log, IsEvent, at_place, log_of, Strict, Numbering, numbers_of, number_in, number_at, IsBelow, Certified, Matches, less_or_not, InClass, WaitsFor, ClassAtMost, IsPositions, IsNumberedBelow, PositionsAreOne}
use Rattle.std.proofs.lemmas.List.Elements.{All-nil, All-head, All-tail}
use Rattle.totem_evs.proofs.Ordered.{same_length, has_number}
use Rattle.totem_cert.proofs.Classmates.{class_sym, class_trans}
use Rattle.totem_cert.proofs.Lists.{at_index}
use Rattle.totem_cert.proofs.LogHeads.{option_cases, none_unless}
use Rattle.totem_cert.proofs.Walking.{antisym}

all_of : (lines : List Numbering) (p : ℕ) → All (λ line. All (λ n. 0 < n) line.numbers) lines → All (λ n. 0 < n) (numbers_of lines p)
all_of [] p all = All-nil (λ n. 0 < n)
all_of (line ∷ lines) p all = grind (arith, All-head (λ l. All (λ n. 0 < n) l.numbers) line lines all, all_of lines p (All-tail (λ l. All (λ n. 0 < n) l.numbers) line lines all))

-- a place with a number is an event, and the number is not 0
numbered : (run : List Log) (lines : List Numbering) (e : Place) (k : ℕ) → Matches run lines → number_at lines e ≡ Some k → IsEvent run e
numbered run lines e k matches at = go e.at at
  where
    go : (a : ℕ) → number_in (numbers_of lines e.proc) a ≡ Some k → (x : _) × (at_place (log_of run e.proc) a ≡ Some x)
    go zero h = absurd cc
    go (suc i) h = at_index (log_of run e.proc) i (let w = slice_get_within (numbers_of lines e.proc) i k h in let s = same_length run lines e.proc matches in omega arith)

positive : (lines : List Numbering) (e : Place) (k : ℕ) → All (λ line. All (λ n. 0 < n) line.numbers) lines → number_at lines e ≡ Some k → 0 < k
positive lines e k all at = go e.at at
  where
    go : (a : ℕ) → number_in (numbers_of lines e.proc) a ≡ Some k → 0 < k
    go zero h = absurd cc
    go (suc i) h =
        let p = all_of lines e.proc all i 0 (slice_get_within (numbers_of lines e.proc) i k h) in
        rw (get_or_from_slice_get (numbers_of lines e.proc) i k 0 h) at p

in_number : (run : List Log) (lines : List Numbering) (e f : Place) → Certified run lines → InClass run e f → number_at lines e ≡ number_at lines f
in_number run lines e f cert shares = grind (arith, common_steps)

-- what a class waits for has smaller numbers
pub waits_below : (run : List Log) (lines : List Numbering) (f g : Place) (k : ℕ) → Certified run lines → number_at lines f ≡ Some k → WaitsFor run f g → IsNumberedBelow lines g k
waits_below run lines f g k cert at waits = go waits.step
  where
    below : IsBelow lines g waits.member → IsNumberedBelow lines g k
    below (i, j, at_g, at_m, lt) = record { number = i; given = at_g; below = (let h = in_number run lines f waits.member cert waits.shares in let same : j ≡ k = cc in omega arith) }

    go : Strict run g waits.member → IsNumberedBelow lines g k
    go (inl (is_g, is_m, before)) = below (cert.rises g waits.member is_g is_m before)
    go (inr (m, x, sends, delivers)) = below (cert.sent g waits.member m x sends delivers)

-- both certificates have the same numbers below k
record Agree (a b : List Numbering) (k : ℕ) : Type 0 where
  to : (x : Place) (j : ℕ) → j < k → number_at a x ≡ Some j → number_at b x ≡ Some j
  from : (x : Place) (j : ℕ) → j < k → number_at b x ≡ Some j → number_at a x ≡ Some j

agree_sym : (a b : List Numbering) (k : ℕ) → Agree a b k → Agree b a k
agree_sym a b k h = record { to = h.from; from = h.to }

below_too : (a b : List Numbering) (k : ℕ) (g : Place) → Agree a b k → IsNumberedBelow a g k → IsNumberedBelow b g k
below_too a b k g agree h = record { number = h.number; given = agree.to g h.number h.below h.given; below = h.below }

same_class : (run : List Log) (e f : Place) → ClassAtMost run e f → ClassAtMost run f e → InClass run e f
same_class run e f x y =
    let one : x.least ≡ y.least = antisym x.least y.least (x.below y.least y.shares) (y.below x.least x.shares) in
    class_trans run e x.least f x.shares (rw one (class_sym run f y.least y.shares))

next_agrees : (run : List Log) (a b : List Numbering) (k : ℕ) → IsPositions run a → IsPositions run b → Agree a b k → (e : Place) → number_at a e ≡ Some k → number_at b e ≡ Some k
next_agrees run a b k pa pb agree e at_e = go (has_number run b e pb.certified.matches event)
  where
    event : IsEvent run e
    event = numbered run a e k pa.certified.matches at_e

    later : (l : ℕ) → number_at b e ≡ Some l → k < l → ⊥
    later l at_l lt = other (pb.dense e k l at_l (positive a e k pa.certified.positive at_e) (omega arith))
      where
        other : (f : Place) × (number_at b f ≡ Some k) → ⊥
        other (f, at_f) = there (has_number run a f pa.certified.matches (numbered run b f k pb.certified.matches at_f))
          where
            apart : InClass run e f → ⊥
            apart same = let h = in_number run b e f pb.certified same in let s : l ≡ k = cc in omega arith

            there : (n : ℕ) × (number_at a f ≡ Some n) → ⊥
            there (n, at_n) = elim (less_or_not n k) [
              | inl under ↦ (let h = agree.to f n under at_n in let s : n ≡ k = cc in omega arith)
              | inr (inl over) ↦ apart (same_class run e f
                  (pa.least e f k n at_e at_n over (record { each = λ g w. below_too b a k g (agree_sym a b k agree) (waits_below run b f g k pb.certified at_f w) }))
                  (pb.least f e k l at_f at_l lt (record { each = λ g w. below_too a b k g agree (waits_below run a e g k pa.certified at_e w) })))
              | inr (inr same) ↦ (let h : number_at a f ≡ Some k = rw same at at_n in
                  elim (pa.certified.apart e f event (numbered run b f k pb.certified.matches at_f) (at_e ∙ sym h)) [ inl is ↦ apart (inl (event, is)) | inr s ↦ apart (inr s) ])
            ]

    go : (l : ℕ) × (number_at b e ≡ Some l) → number_at b e ≡ Some k
    go has = grind (arith, less_or_not, later)

agree_all : (run : List Log) (a b : List Numbering) → IsPositions run a → IsPositions run b → (k : ℕ) → Agree a b k
agree_all run a b pa pb zero = record { to = λ x j lt at. absurd (omega arith); from = λ x j lt at. absurd (omega arith) }
agree_all run a b pa pb (suc k) = more (agree_all run a b pa pb k)
  where
    more : Agree a b k → Agree a b (suc k)
    more h = grind (arith, below_more, next_agrees, agree_sym)

pub one : PositionsAreOne
one run a b pa pb e = elim (option_cases (number_at a e)) [
  | inr (k, is) ↦ is ∙ sym ((agree_all run a b pa pb (suc k)).to e k (omega arith) is)
  | inl none ↦ none ∙ sym (none_unless (number_at b e) (λ k is. (let h = (agree_all run a b pa pb (suc k)).from e k (omega arith) is in cc)))
]
