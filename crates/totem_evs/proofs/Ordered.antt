-- A certificate excludes cycles, and is a total order.
use Rattle.totem_evs.proofs.Common.{◌≡◌, ℕ, zero, suc, ◌<◌, List, [], ◌∷◌, length, get_or, Option, Some, Bool, true, false, refl, sym, ◌∙◌, ap, unwrap_or, ◌==◌, slice_get_within, slice_get-get_or, Place, log_of, at_place, IsEvent, Numbering, numbers_of, number_in, number_at, IsBelow, Matches, CertifiedIsOrdered}
use Rattle.totem_evs.specs.declared.log.Log.{Log}
use Rattle.totem_evs.proofs.Causal.{precedes_rises, no_cycle}

-- a line has as many numbers as the log of its process has entries
pub same_length : (run : List Log) (lines : List Numbering) (p : ℕ) → Matches run lines → length (log_of run p) ≡ length (numbers_of lines p)
same_length [] [] p h = refl
same_length [] (line ∷ lines) p h = absurd cc
same_length (log ∷ logs) [] p h = absurd cc
same_length (log ∷ logs) (line ∷ lines) p h =
    let heads : ◌≡◌ {A = ℕ × ℕ} (log.proc, length log.entries) (line.proc, length line.numbers) = cc in
    let procs : log.proc ≡ line.proc = ap (λ (x : ℕ × ℕ). x.0) heads in
    let lens : length log.entries ≡ length line.numbers = ap (λ (x : ℕ × ℕ). x.1) heads in
    go (line.proc == p) refl procs lens (same_length logs lines p cc)
  where
    go : (b : Bool) → (line.proc == p) ≡ b → log.proc ≡ line.proc → length log.entries ≡ length line.numbers → length (log_of logs p) ≡ length (numbers_of lines p)
        → length (log_of (log ∷ logs) p) ≡ length (numbers_of (line ∷ lines) p)
    go true e procs lens rest = rw (procs, e) lens
    go false e procs lens rest = rw (procs, e) rest

pub has_number : (run : List Log) (lines : List Numbering) (e : Place) → Matches run lines → IsEvent run e → (n : ℕ) × (number_at lines e ≡ Some n)
has_number run lines e matches (x, at) = go e.at at
  where
    go : (a : ℕ) → at_place (log_of run e.proc) a ≡ Some x → (n : ℕ) × (number_in (numbers_of lines e.proc) a ≡ Some n)
    go zero h = absurd cc
    go (suc i) h =
        let within = slice_get_within (log_of run e.proc) i x h in
        (get_or (numbers_of lines e.proc) i 0, slice_get-get_or (numbers_of lines e.proc) i 0 (rw (same_length run lines e.proc matches) at within))

pub ordered : CertifiedIsOrdered
ordered run lines cert = (
  no_cycle run lines cert,
  (
    λ e. unwrap_or (number_at lines e) 0,
    record {
      rises = λ e f h. below e f (precedes_rises run lines cert e f h);
      shared = λ e f h. ap (λ (n : Option ℕ). unwrap_or n 0) (cert.shared e f h);
      apart = λ e f is_e is_f h. cert.apart e f is_e is_f (same e f (has_number run lines e cert.matches is_e) (has_number run lines f cert.matches is_f) h);
    },
  ),
)
  where
    below : (e f : Place) → IsBelow lines e f → unwrap_or (number_at lines e) 0 < unwrap_or (number_at lines f) 0
    below e f (i, j, at_e, at_f, lt) = rw (at_e, at_f) lt

    same : (e f : Place) → ((n : ℕ) × (number_at lines e ≡ Some n)) → ((n : ℕ) × (number_at lines f ≡ Some n)) → unwrap_or (number_at lines e) 0 ≡ unwrap_or (number_at lines f) 0 → number_at lines e ≡ number_at lines f
    same e f (i, at_e) (j, at_f) h = let k : i ≡ j = rw (at_e, at_f) at h in at_e ∙ ap Some k ∙ sym at_f
