-- The result of a certificate's grammar doesn't change with what follows.
use Rattle.totem_certificate.proofs.Common.{◌≡◌, ℕ, zero, suc, List, [], false, Err, refl, TextFault, Steady, FirstBreak, is_short}
use Rattle.totem_names.specs.declared.fault.TextFault.TheVariants as faults
use Rattle.totem_names.specs.Numbers.{word_at}
use Rattle.totem_names.proofs.Steady.{gives_steady, fault_steady, bind_steady, cond_steady, number_steady, first_break}
use Rattle.totem_evs.specs.Heads.{header_at}
use Rattle.totem_evs.proofs.SteadyRun.{records_steady, header_steady}
use Rattle.totem_certificate.specs.CertGrammar.{cert_words, numbers_at, numbering, cert_at}

numbers_steady : (room : ℕ) → Steady (numbers_at room)
unfolding numbers_at
numbers_steady zero = fault_steady _
numbers_steady (suc room) = bind_steady _ _ (number_steady 4294967295) (λ n. cond_steady _ _ _ (gives_steady _) (cond_steady _ _ _ (bind_steady _ _ (numbers_steady room) (λ others. gives_steady _)) (fault_steady _)))

pub cert_steady : Steady cert_at
unfolding cert_at
cert_steady = bind_steady _ _ (header_steady cert_words) (λ v. bind_steady _ _ (records_steady cert_words (λ version p. numbers_at 1000000) numbering (λ version p. numbers_steady 1000000) v 33 0) (λ lines. gives_steady _))

pub cert_empty : cert_at [] ≡ Err faults.Truncated
unfolding cert_at header_at word_at
cert_empty = refl

pub cert_first_break : (bytes : List ℕ) (f : TextFault) → is_short f ≡ false → cert_at bytes ≡ Err f → FirstBreak cert_at bytes f
cert_first_break bytes f long e = first_break cert_at bytes f cert_steady cert_empty long e
