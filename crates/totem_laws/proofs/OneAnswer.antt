-- A run has one answer: the cases exclude each other, and each has one answer.
use Rattle.totem_cert.proofs.Common.{◌≡◌, ◌≢◌, ◌⊎◌, inl, inr, List, [], ◌∷◌, refl, sym, ◌∙◌, ap, Place, Log, SpecNo, Numbering}
use Rattle.totem_evs.specs.declared.fault.Fault.{Fault}
use Rattle.totem_evs.specs.declared.pending.Pending.{Pending}
use Rattle.totem_evs.specs.declared.pending.Waiting.{Waiting}
use Rattle.totem_evs.specs.Answers.{Yes, No, IsAnswered, Lists, ListsCycle, HasCertificate, ListsConfigurations, pass_a, pass_b}
use Rattle.totem_cert.proofs.ClosedOne.{closed_one}
use Rattle.totem_cert.proofs.Excluded.{excluded}
use Rattle.totem_laws.specs.OneAnswer.{AnswersAreOne}
use Rattle.totem_laws.proofs.OneList.{pending_one, waiting_one}
use Rattle.totem_laws.proofs.OneBreak.{passes_one, configurations_one}
use Rattle.totem_laws.proofs.OneCertificate.{certificates_one}

one_fault : (a b : Fault) → a.spec ≡ b.spec → a.places ≡ b.places → a ≡ b
one_fault a b e f = ap (λ (k : SpecNo). fault k a.places) e ∙ ap (fault b.spec) f
  where
    fault : SpecNo → List Place → Fault
    fault k places = record { spec = k; places = places }

cycles_one : (run : List Log) (a b : List Fault) → ListsCycle run a → ListsCycle run b → a ≡ b
cycles_one run a b (f, is, first) (g, are, second) =
    let same = closed_one run f.spec g.spec f.places g.places first.list second.list in
    is ∙ ap (λ (h : Fault). h ∷ []) (one_fault f g same.0 same.1) ∙ sym are

not_cyclic : (run : List Log) (faults : List Fault) → ListsCycle run faults → HasCertificate run → ⊥
not_cyclic run faults (f, is, cycle) (lines, certified) = excluded run f.spec f.places lines cycle.list certified

-- the cases of a no
abbrev Refuted : List Log → List Fault → Type 0
Refuted run faults =
    Lists run pass_a faults
    ⊎ (Lists run pass_a [] × Lists run pass_b faults)
    ⊎ (Lists run pass_a [] × Lists run pass_b [] × ListsCycle run faults)
    ⊎ (Lists run pass_a [] × Lists run pass_b [] × HasCertificate run × ListsConfigurations run faults)

-- at most one pass is the first that has a fault
module _ (run : List Log) where
  a_none : (faults : List Fault) → Lists run pass_a faults → Lists run pass_a [] → faults ≡ []
  a_none faults some none = passes_one run pass_a faults [] some none

  b_none : (faults : List Fault) → Lists run pass_b faults → Lists run pass_b [] → faults ≡ []
  b_none faults some none = passes_one run pass_b faults [] some none

  d_none : (faults : List Fault) → ListsConfigurations run faults → ListsConfigurations run [] → faults ≡ []
  d_none faults some none = configurations_one run faults [] some none

  one_no : (a b : List Fault) → a ≢ [] → b ≢ [] → Refuted run a → Refuted run b → a ≡ b
  one_no a b some any (inl h) (inl k) = passes_one run pass_a a b h k
  one_no a b some any (inl h) (inr (inl (none, k))) = absurd (some (a_none a h none))
  one_no a b some any (inl h) (inr (inr (inl (none, no_b, k)))) = absurd (some (a_none a h none))
  one_no a b some any (inl h) (inr (inr (inr (none, no_b, certified, k)))) = absurd (some (a_none a h none))
  one_no a b some any (inr (inl (none, h))) (inl k) = absurd (any (a_none b k none))
  one_no a b some any (inr (inl (none, h))) (inr (inl (also, k))) = passes_one run pass_b a b h k
  one_no a b some any (inr (inl (none, h))) (inr (inr (inl (also, no_b, k)))) = absurd (some (b_none a h no_b))
  one_no a b some any (inr (inl (none, h))) (inr (inr (inr (also, no_b, certified, k)))) = absurd (some (b_none a h no_b))
  one_no a b some any (inr (inr (inl (none, no_b, h)))) (inl k) = absurd (any (a_none b k none))
  one_no a b some any (inr (inr (inl (none, no_b, h)))) (inr (inl (also, k))) = absurd (any (b_none b k no_b))
  one_no a b some any (inr (inr (inl (none, no_b, h)))) (inr (inr (inl (also, too, k)))) = cycles_one run a b h k
  one_no a b some any (inr (inr (inl (none, no_b, h)))) (inr (inr (inr (also, too, certified, k)))) = absurd (not_cyclic run a h certified)
  one_no a b some any (inr (inr (inr (none, no_b, certified, h)))) (inl k) = absurd (any (a_none b k none))
  one_no a b some any (inr (inr (inr (none, no_b, certified, h)))) (inr (inl (also, k))) = absurd (any (b_none b k no_b))
  one_no a b some any (inr (inr (inr (none, no_b, certified, h)))) (inr (inr (inl (also, too, k)))) = absurd (not_cyclic run b k certified)
  one_no a b some any (inr (inr (inr (none, no_b, certified, h)))) (inr (inr (inr (also, too, proved, k)))) = configurations_one run a b h k

  -- a run with a yes has no no
  no_no : (lines : List Numbering) (pending : List Pending) (waiting : List Waiting) (faults : List Fault) → IsAnswered run (Yes lines pending waiting) → faults ≢ [] → Refuted run faults → ⊥
  no_no lines pending waiting faults (no_a, no_b, positions, no_d, rest, more) some (inl h) = some (a_none faults h no_a)
  no_no lines pending waiting faults (no_a, no_b, positions, no_d, rest, more) some (inr (inl (none, h))) = some (b_none faults h no_b)
  no_no lines pending waiting faults (no_a, no_b, positions, no_d, rest, more) some (inr (inr (inl (none, also, h)))) = not_cyclic run faults h (lines, positions.certified)
  no_no lines pending waiting faults (no_a, no_b, positions, no_d, rest, more) some (inr (inr (inr (none, also, certified, h)))) = some (d_none faults h no_d)

pub answers_one : AnswersAreOne
answers_one run (No a) (No b) is_run (some, h) (any, k) = ap No (one_no run a b some any h k)
answers_one run (Yes lines pending waiting) (No faults) is_run h (some, k) = absurd (no_no run lines pending waiting faults h some k)
answers_one run (No faults) (Yes lines pending waiting) is_run (some, k) h = absurd (no_no run lines pending waiting faults h some k)
answers_one run (Yes lines pending waiting) (Yes others open_ones waiters) is_run (a, b, positions, d, open_is, waits) (a', b', also, d', open_are, wait) =
    let one : lines ≡ others = certificates_one run lines others is_run positions also in
    let two : pending ≡ open_ones = pending_one run pending open_ones open_is open_are in
    let three : waiting ≡ waiters = waiting_one run waiting waiters waits wait in
    rw (one, two, three) refl
