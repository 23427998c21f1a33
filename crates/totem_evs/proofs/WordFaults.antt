-- Word is the fault where no other one has its place.
use Rattle.std.proofs.lemmas.Grind.{common_steps}
use Rattle.std.proofs.Common.{arith}
use Rattle.totem_evs.proofs.Common.{◌↔◌, ◌≡◌, List, ℕ, Err, false, refl, sym, ap, ◌∙◌, TextFault, Parsed, is_short, HasNoOther}
use Rattle.totem_names.specs.declared.fault.TextFault.TheVariants as faults
use Rattle.totem_evs.specs.RunGrammar.{run_at}
use Rattle.totem_evs.proofs.OnlyFaults.{fault_only}
use Rattle.totem_evs.proofs.FaultParts.{header_exactly, run_order, run_members, run_end, run_many}
use Rattle.totem_evs.proofs.NumberFaults.{run_number}

-- the faults but Word
abbrev pub NotWord : TextFault → Type 0
NotWord faults.Header = Unit {0}
NotWord faults.Word = ⊥
NotWord faults.Number = Unit {0}
NotWord faults.Order = Unit {0}
NotWord faults.Members = Unit {0}
NotWord faults.End = Unit {0}
NotWord faults.Truncated = Unit {0}
NotWord faults.TooMany = Unit {0}

-- bytes have one fault
pub one_fault : {Y : Type 0} (parse : List ℕ → Parsed Y) (bytes : List ℕ) (f : TextFault) → NotWord f → parse bytes ≡ Err faults.Word → parse bytes ≡ Err f → ⊥
one_fault {Y = Y} parse bytes f is e k = (fault_only {A = Y} NotWord f is).fault faults.Word (sym k ∙ e)

word_alone : (bytes : List ℕ) → run_at bytes ≡ Err faults.Word → HasNoOther bytes
word_alone bytes e = grind (arith, common_steps, one_fault, header_exactly, run_number, run_order, run_members, run_end, run_many)

alone_word : (bytes : List ℕ) (f : TextFault) → is_short f ≡ false → run_at bytes ≡ Err f → HasNoOther bytes → f ≡ faults.Word
alone_word bytes faults.Header long e h = absurd (h.header ((header_exactly bytes).0 e))
alone_word bytes faults.Word long e h = refl
alone_word bytes faults.Number long e h = absurd (h.number ((run_number bytes).0 e))
alone_word bytes faults.Order long e h = absurd (h.order ((run_order bytes).0 e))
alone_word bytes faults.Members long e h = absurd (h.members ((run_members bytes).0 e))
alone_word bytes faults.End long e h = absurd (h.end ((run_end bytes).0 e))
alone_word bytes faults.Truncated long e h = absurd cc
alone_word bytes faults.TooMany long e h = absurd (h.many ((run_many bytes).0 e))

pub word_is_the_rest : (bytes : List ℕ) (f : TextFault) → is_short f ≡ false → run_at bytes ≡ Err f → (f ≡ faults.Word) ↔ HasNoOther bytes
word_is_the_rest bytes f long e = (λ same. word_alone bytes (e ∙ ap (λ (g : TextFault). Err g) same), λ h. alone_word bytes f long e h)
