-- Which faults a certificate's grammar gives.
use Rattle.totem_certificate.proofs.Common.{◌≡◌, ℕ, zero, suc, List, Err, TextFault}
use Rattle.totem_names.specs.declared.fault.TextFault.TheVariants as faults
use Rattle.totem_evs.proofs.OnlyFaults.{Only, OfNames, ok_only, fault_only, cond_only, bind_only, number_only, records_only, header_only}
use Rattle.totem_certificate.specs.CertFaults.{IsOwnFault}
use Rattle.totem_certificate.specs.CertGrammar.{cert_words, numbers_at, numbering, cert_at}

pub numbers_only : (P : TextFault → Type 0) (room : ℕ) (bytes : List ℕ) → OfNames P → P faults.TooMany → Only P (numbers_at room bytes)
unfolding numbers_at
numbers_only P zero bytes is many = fault_only P faults.TooMany many
numbers_only P (suc room) bytes is many = bind_only P _ _ (number_only P 4294967295 bytes is) (λ n. cond_only P _ _ _ (ok_only P _) (cond_only P _ _ _ (bind_only P _ _ (numbers_only P room n.1 is many) (λ others. ok_only P _)) (fault_only P faults.Word is.word)))

-- the faults of names are faults of a certificate
own_names : OfNames IsOwnFault
own_names = record { word = tt; number = tt; short = tt }

cert_own : (bytes : List ℕ) → Only IsOwnFault (cert_at bytes)
unfolding cert_at
cert_own bytes = bind_only IsOwnFault _ _ (header_only cert_words IsOwnFault bytes tt tt) (λ v. bind_only IsOwnFault _ _ (records_only cert_words (λ version p. numbers_at 1000000) numbering IsOwnFault own_names tt tt (λ version p bytes. numbers_only IsOwnFault 1000000 bytes own_names tt) v.0 33 0 v.1) (λ lines. ok_only IsOwnFault _))

pub own_fault : (bytes : List ℕ) (f : TextFault) → cert_at bytes ≡ Err f → IsOwnFault f
own_fault bytes f e = (cert_own bytes).fault f e
