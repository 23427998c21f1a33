-- Number is the fault of a number that the grammar of certificates reads, and Word is the rest.
use Rattle.totem_certificate.proofs.Common.{◌↔◌, ◌≡◌, ℕ, zero, suc, inr, List, false, Err, refl, ap, ◌∙◌, TextFault, is_short, BreaksNumber}
use Rattle.totem_names.specs.declared.fault.TextFault.TheVariants as faults
use Rattle.totem_evs.proofs.NumberFaults.{Numbered, gives_numbered, cond_numbered, bind_numbered, number_numbered, word', too_many, records_numbered, header_numbered, number_exactly}
use Rattle.totem_evs.proofs.WordFaults.{one_fault}
use Rattle.totem_certificate.specs.CertGrammar.{cert_words, numbers_at, numbering, cert_at}
use Rattle.totem_certificate.specs.CertPlaces.{HasNoOther}
use Rattle.totem_certificate.proofs.OwnFaults.{own_fault}
use Rattle.totem_certificate.proofs.CertParts.{header_exactly, cert_order, cert_many}

-- ---- Number

numbers_numbered : (room : ℕ) → Numbered (numbers_at room)
unfolding numbers_at
numbers_numbered zero = too_many
numbers_numbered (suc room) = bind_numbered _ _ (number_numbered 4294967295 (inr refl)) (λ n. cond_numbered _ _ _ (gives_numbered _) (cond_numbered _ _ _ (bind_numbered _ _ (numbers_numbered room) (λ others. gives_numbered _)) word'))

cert_numbered : Numbered cert_at
unfolding cert_at
cert_numbered = bind_numbered _ _ (header_numbered cert_words) (λ v. bind_numbered _ _ (records_numbered cert_words (λ version p. numbers_at 1000000) numbering (λ version p. numbers_numbered 1000000) v 33 0) (λ lines. gives_numbered _))

pub cert_number : (bytes : List ℕ) → (cert_at bytes ≡ Err faults.Number) ↔ BreaksNumber cert_at bytes
cert_number = number_exactly cert_at cert_numbered

-- ---- Word

word_alone : (bytes : List ℕ) → cert_at bytes ≡ Err faults.Word → HasNoOther bytes
word_alone bytes e = record {
  header = λ h. one_fault cert_at bytes faults.Header tt e ((header_exactly bytes).1 h);
  number = λ h. one_fault cert_at bytes faults.Number tt e ((cert_number bytes).1 h);
  order = λ h. one_fault cert_at bytes faults.Order tt e ((cert_order bytes).1 h);
  many = λ h. one_fault cert_at bytes faults.TooMany tt e ((cert_many bytes).1 h);
}

alone_word : (bytes : List ℕ) (f : TextFault) → is_short f ≡ false → cert_at bytes ≡ Err f → HasNoOther bytes → f ≡ faults.Word
alone_word bytes faults.Header long e h = absurd (h.header ((header_exactly bytes).0 e))
alone_word bytes faults.Word long e h = refl
alone_word bytes faults.Number long e h = absurd (h.number ((cert_number bytes).0 e))
alone_word bytes faults.Order long e h = absurd (h.order ((cert_order bytes).0 e))
alone_word bytes faults.Members long e h = absurd (own_fault bytes faults.Members e)
alone_word bytes faults.End long e h = absurd (own_fault bytes faults.End e)
alone_word bytes faults.Truncated long e h = absurd cc
alone_word bytes faults.TooMany long e h = absurd (h.many ((cert_many bytes).0 e))

pub word_is_the_rest : (bytes : List ℕ) (f : TextFault) → is_short f ≡ false → cert_at bytes ≡ Err f → (f ≡ faults.Word) ↔ HasNoOther bytes
word_is_the_rest bytes f long e = (λ same. word_alone bytes (e ∙ ap (λ (g : TextFault). Err g) same), λ h. alone_word bytes f long e h)
