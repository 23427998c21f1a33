-- If each entry has a number, the lines are the run's certificate.
use Rattle.totem_cert.proofs.Common.{◌≡◌, suc, ◌<◌, inl, inr, List, [], ◌∷◌, get_or, Some, refl, sym, ◌∙◌, arith, All, slice_get_within, slice_get-get_or, Place, Deliver, Log, IsEvent, Numbering, number_at, IsBelow, Matches, Rising, place, WaitsFor, IsPositions, Fits, IsSound, IsFull, IsNumbered}
use Rattle.totem_cert.proofs.Classmates.{class_sym, event_of}
use Rattle.totem_cert.proofs.LineFacts.{line_of_at, line_in, event_at, within_numbered, fits_tail}
use Rattle.totem_cert.proofs.Lists.{at_index}

matches : (run : List Log) (lines : List Numbering) → Fits run lines → IsFull run lines → Matches run lines
matches [] [] fits full = refl
matches [] (line ∷ lines) fits full = absurd (let h = fits.count in omega arith)
matches (log ∷ logs) [] fits full = absurd (let h = fits.count in omega arith)
matches (log ∷ logs) (line ∷ lines) fits full = grind (arith, fits.proc 0 log line, fits.short 0 log line, full.full 0 log line, matches logs lines (fits_tail log logs line lines fits) (record { full = λ j l n at_l at_n. full.full (suc j) l n at_l at_n }))

module _ (run : List Log) (lines : List Numbering) (rising : Rising run) (sound : IsSound run lines) (full : IsFull run lines) where
  numbered : (e : Place) → IsEvent run e → IsNumbered lines e
  numbered e h1 = grind (arith, event_at, line_in, slice_get_within, within_numbered)

  below : (e f : Place) → IsEvent run f → WaitsFor run f e → IsBelow lines e f
  below e f event waits =
      let n = numbered f event in
      let b = (sound.sound.waits f n.number n.given).each e waits in
      (b.number, n.number, b.given, n.given, b.below)

  positive : All (λ line. All (λ n. 0 < n) line.numbers) lines
  positive = λ k d lt i e within.
      let (log, log_at) = at_index run k (let c = sound.fits.count in omega arith) in
      let s = line_of_at run lines k log (get_or lines k d) rising sound.fits log_at (slice_get-get_or lines k d lt) in
      let given : number_at lines (place log.proc i) ≡ Some (get_or (get_or lines k d).numbers i e) = rw s (slice_get-get_or (get_or lines k d).numbers i e within) in
      sound.sound.positive (place log.proc i) (get_or (get_or lines k d).numbers i e) given

  pub full_positions : IsPositions run lines
  full_positions = record {
    certified = record {
      matches = matches run lines sound.fits full;
      positive = positive;
      rises = λ e f is_e is_f before. below e f is_f (record { member = f; shares = inl (is_f, refl); step = inl (is_e, is_f, before) });
      sent = λ e f m x sends delivers. (let is_f : IsEvent run f = (Deliver m delivers.0, delivers.1) in below e f is_f (record { member = f; shares = inl (is_f, refl); step = inr (m, x, sends, delivers) }));
      shared = λ e f same. (let n = numbered e (event_of run f e (class_sym run e f (inr same))) in n.given ∙ sym (sound.sound.shared e f n.number n.given (inr same)));
      apart = λ e f is_e is_f same. (let n = numbered e is_e in let in_class = sound.sound.apart e f n.number n.given (sym same ∙ n.given) in elim in_class [ inl (_, is) ↦ inl is | inr s ↦ inr s ]);
    };
    dense = λ e j k at pos le. (let most = sound.sound.few e k at in sound.sound.dense j pos (omega arith));
    least = λ e f k l at_e at_f lt waits. sound.sound.least e f k at_e (sound.sound.only f l at_f) waits (record { none = λ m at_m. (let same : l ≡ m = cc in omega arith) });
  }
