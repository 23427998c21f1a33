-- Lines in which each entry has a number form a certificate.
use Rattle.totem_cert.proofs.Common.{◌≡◌, ℕ, ◌<◌, List, length, get_or, slice_get, Some, arith, All, common_steps, slice_get_within, slice_get-get_or, get_or_from_slice_get, Version, IsProcessIn, Log, IsRunIn, IsLogIn, Numbering, number_at, place, IsSound, IsFull, in_order}
use Rattle.totem_certificate.specs.Keeping.{IsLineIn, IsCertificateIn, IsOfText, certificate_version}
use Rattle.totem_cert.proofs.LineFacts.{line_of_at}
use Rattle.totem_cert.proofs.Lists.{at_index}

-- a certificate of that version has a text, and writes the processes of the run
pub of_text : (version : Version) → IsOfText (certificate_version version)
of_text version = grind (arith, common_steps)

process_there : (version : Version) (p : ℕ) → IsProcessIn version p → IsProcessIn (certificate_version version) p
process_there version p is = grind (arith, common_steps)

module _ (version : Version) (run : List Log) (lines : List Numbering) (is_run : IsRunIn version run) (sound : IsSound run lines) (full : IsFull run lines) where
  log_at : (k : ℕ) → k < length lines → (log : Log) × (slice_get run k ≡ Some log)
  log_at k lt = at_index run k (let c = sound.fits.count in omega arith)

  line_is : (k : ℕ) (log : Log) (line : Numbering) → slice_get run k ≡ Some log → slice_get lines k ≡ Some line → IsLineIn (certificate_version version) line
  line_is k log line at_l at_n =
      let h = is_run.each k log (slice_get_within run k log at_l) in
      let l : IsLogIn version log = rw (get_or_from_slice_get run k log log at_l) at h in
      let proc = sound.fits.proc k log line at_l at_n in
      let short = sound.fits.short k log line at_l at_n in
      let long = full.full k log line at_l at_n in
      let some = l.entries.some in
      let few = l.entries.few in
      let s = line_of_at run lines k log line is_run.rising sound.fits at_l at_n in
      record {
        process = rw proc (process_there version log.proc l.process);
        numbers = record {
          some = omega arith;
          few = omega arith;
          each = λ i d lt. (
              let given : number_at lines (place log.proc i) ≡ Some (get_or line.numbers i d) = rw s (slice_get-get_or line.numbers i d lt) in
              let most = sound.sound.few (place log.proc i) (get_or line.numbers i d) given in
              let small = sound.small in
              record { positive = sound.sound.positive (place log.proc i) (get_or line.numbers i d) given; small = omega arith }
              );
        };
      }

  pub each_line : All (IsLineIn (certificate_version version)) lines
  each_line = λ k d lt. (let l = log_at k lt in line_is k l.0 (get_or lines k d) l.1 (slice_get-get_or lines k d lt))

  pub closable : IsCertificateIn (certificate_version version) lines
  closable = record {
    few = (let c = sound.fits.count in let f = is_run.few in omega arith);
    rising = λ i j d lt below. (
        let a = log_at i (omega arith) in
        let b = log_at j below in
        let p = sound.fits.proc i a.0 (get_or lines i d) a.1 (slice_get-get_or lines i d (omega arith)) in
        let q = sound.fits.proc j b.0 (get_or lines j d) b.1 (slice_get-get_or lines j d below) in
        rw (p, q) (in_order run i j a.0 b.0 is_run.rising a.1 b.1 lt)
        );
    each = each_line;
  }
