-- The walk along a log that looks for an entry out of place.
use Rattle.totem_judge_run.proofs.Common.{◌≡◌, ℕ, ◌+◌, ◌<◌, ◌≤◌, inl, inr, List, length, slice_get, Option, Some, None, Bool, true, false, MatchOption, IsTrue, ◌↔◌, refl, ap, arith, below_more, slice_get_within, ConfId, Entry, Conf, Send, Deliver, Fail, IsFailure, IsChange, Fails, Names, NamesOnly, StandsIn, StaysInPlace, less_or_not}
use Rattle.totem_evs.specs.ChangeFaults.{IsMisplaced}
use Rattle.totem_judge_run.specs.Misplaced.{Fits, standing_after}
use Rattle.totem_evs.proofs.Standing.{one_standing}
use Rattle.totem_judge_run.proofs.Staying.{names_no_change}

-- what is known before the entry at i
pub record Knows (log : List Entry) (i : ℕ) (standing : Option ConfId) (failed : Bool) : Type 0 where
  pub stands : MatchOption standing ((k : ℕ) → k < i → IsChange log k → ⊥) (λ x. StandsIn log i x)
  pub failure : failed ≡ true → (k : ℕ) × (x : ConfId) × (k < i) × Fails log k x
  pub no_failure : failed ≡ false → (k : ℕ) → k < i → (x : ConfId) → Fails log k x → ⊥
  pub begins : 0 < i → IsChange log 0
  pub named : (k : ℕ) → k < i → (x : ConfId) → Names log k x → StandsIn log k x
  pub final : (j k : ℕ) (x : ConfId) → Fails log j x → j < k → k < i → ⊥

-- two configurations that one entry names are one
names_one : (e : Entry) (x y : ConfId) → NamesOnly e x → NamesOnly e y → x ≡ y
names_one e x y h k = grind arith

-- an entry that names the configuration that the log is in leaves it there
keeps : (log : List Entry) (i : ℕ) (standing : Option ConfId) → (IsChange log i → ⊥)
    → MatchOption standing ((k : ℕ) → k < i → IsChange log k → ⊥) (λ x. StandsIn log i x)
    → MatchOption standing ((k : ℕ) → k < i + 1 → IsChange log k → ⊥) (λ x. StandsIn log (i + 1) x)
keeps log i None never stands = below_more _ _ stands never
keeps log i (Some x) never stands = record {
  from = stands.from;
  before = omega (arith, stands.before);
  change = stands.change;
  none_between = λ k lt below. below_more (λ j. stands.from < j → IsChange log j → ⊥) i (λ j under later. stands.none_between j later under) (λ later. never) k below lt;
}

in_standing : (log : List Entry) (i : ℕ) (standing : Option ConfId) (x : ConfId) → standing ≡ Some x
    → MatchOption standing ((k : ℕ) → k < i → IsChange log k → ⊥) (λ x. StandsIn log i x) → StandsIn log i x
in_standing log i standing x e stands = grind arith

-- an entry that is no change and names the configuration that the log is in
goes_on_named : (log : List Entry) (i : ℕ) (standing : Option ConfId) (e : Entry) (x : ConfId) (failed : Bool) → slice_get log i ≡ Some e → NamesOnly e x → standing ≡ Some x
    → (failed ≡ true → Fails log i x) → (failed ≡ false → (y : ConfId) → Fails log i y → ⊥) → Knows log i standing false → Knows log (i + 1) standing failed
goes_on_named log i standing e x failed h n fits is_fail no_fail so_far = grind (arith, in_standing, keeps, names_no_change, names_one)

goes_on_change : (log : List Entry) (i : ℕ) (standing : Option ConfId) (x : ConfId) (ms : List ℕ) → slice_get log i ≡ Some (Conf x ms) → Knows log i standing false → Knows log (i + 1) (Some x) false
goes_on_change log i standing x ms h so_far = record {
  stands = record { from = i; before = omega arith; change = (ms, h); none_between = λ k lt below c. omega arith };
  failure = λ f. absurd cc;
  no_failure = λ f. below_more (λ k. (y : ConfId) → Fails log k y → ⊥) i (so_far.no_failure refl) (λ y q. cc);
  begins = λ lt. elim (less_or_not 0 i) [
    | inl under ↦ so_far.begins under
    | inr (inl over) ↦ absurd (omega arith)
    | inr (inr same) ↦ rw same (x, (ms, h))
  ];
  named = below_more (λ k. (y : ConfId) → Names log k y → StandsIn log k y) i so_far.named (λ y (f, at, names). absurd (let same : f ≡ Conf x ms = cc in rw same at names));
  final = λ j k y q lt below. so_far.no_failure refl j (omega arith) y q;
}

-- one more entry that fits
pub goes_on : (log : List Entry) (i : ℕ) (standing : Option ConfId) (e : Entry) (failed : Bool) → slice_get log i ≡ Some e → Fits standing e → (IsTrue failed ↔ IsFailure e) → Knows log i standing false
    → Knows log (i + 1) (standing_after standing e) failed
goes_on log i standing (Conf x ms) false h fits fails so_far = goes_on_change log i standing x ms h so_far
goes_on log i standing (Send m x s) false h fits fails so_far = goes_on_named log i standing (Send m x s) x false h refl fits (λ f. absurd cc) (λ f y q. cc) so_far
goes_on log i standing (Deliver m x) false h fits fails so_far = goes_on_named log i standing (Deliver m x) x false h refl fits (λ f. absurd cc) (λ f y q. cc) so_far
goes_on log i standing (Fail x) true h fits fails so_far = goes_on_named log i standing (Fail x) x true h refl fits (λ f. h) (λ f. absurd cc) so_far
goes_on log i standing (Fail x) false h fits fails so_far = let never = fails.1 tt in absurd cc
goes_on log i standing other true h fits fails so_far = absurd (fails.0 refl)

-- no entry before is out of place
pub placed : (log : List Entry) (i : ℕ) (standing : Option ConfId) (failed : Bool) → Knows log i standing failed → (k : ℕ) → k < i → IsMisplaced log k → ⊥
placed log i standing failed so_far k lt (within, inl (zero, never)) = never (rw zero (so_far.begins (omega arith)))
placed log i standing failed so_far k lt (within, inr (inl (x, names, never))) = never (so_far.named k lt x names)
placed log i standing failed so_far k lt (within, inr (inr (j, x, before, fails))) = so_far.final j k x fails before lt

-- an entry that doesn't fit is out of place, and so is one after a failure
pub after_failure : (log : List Entry) (i : ℕ) (standing : Option ConfId) → i < length log → Knows log i standing true → IsMisplaced log i
after_failure log i standing lt so_far = (lt, inr (inr (so_far.failure refl)))

not_standing : (log : List Entry) (i : ℕ) (standing : Option ConfId) (x : ConfId) → (standing ≡ Some x → ⊥)
    → MatchOption standing ((k : ℕ) → k < i → IsChange log k → ⊥) (λ x. StandsIn log i x) → StandsIn log i x → ⊥
not_standing log i None x never stands there = stands there.from there.before (x, there.change)
not_standing log i (Some y) x never stands there = never (ap Some (one_standing log i y x stands there))

pub unfit : (log : List Entry) (i : ℕ) (standing : Option ConfId) (e : Entry) → i < length log → slice_get log i ≡ Some e → (Fits standing e → ⊥) → Knows log i standing false → IsMisplaced log i
unfit log i standing (Conf x ms) lt h never so_far = absurd (never tt)
unfit log i standing (Send m x s) lt h never so_far = (lt, inr (inl (x, (Send m x s, h, refl), not_standing log i standing x never so_far.stands)))
unfit log i standing (Deliver m x) lt h never so_far = (lt, inr (inl (x, (Deliver m x, h, refl), not_standing log i standing x never so_far.stands)))
unfit log i standing (Fail x) lt h never so_far = (lt, inr (inl (x, (Fail x, h, refl), not_standing log i standing x never so_far.stands)))

-- at the end the log stays in place
pub all_placed : (log : List Entry) (i : ℕ) (standing : Option ConfId) (failed : Bool) → length log ≤ i → Knows log i standing failed → StaysInPlace log
all_placed log i standing failed end so_far = record {
  begins = λ lt. so_far.begins (omega arith);
  named = λ k x (e, at, names). so_far.named k (omega (arith, slice_get_within log k e at)) x (e, at, names);
  final = λ j k x fails lt within. so_far.final j k x fails lt (omega arith);
}
