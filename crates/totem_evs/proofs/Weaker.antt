-- A run that a text of one version can write, and one with any lives and endings.
use Rattle.std.proofs.Common.{arith}
use Rattle.totem_evs.proofs.Common.{◌≡◌, ℕ, List, false, ◌≢◌, All, Version, One, Two, Three, writes_lives, IsProcessIn, life_of, writes_quiet, IsEndingIn, IsMembersIn, members_of, IsEntryIn, IsLogIn, IsRunIn, IsRunOf, RunRecord, AreFirst, AreLoud, HasFirstLives, IsFirstVersion}
use Rattle.totem_evs.specs.declared.entry.Entry.{Entry}
use Rattle.totem_evs.specs.declared.ending.Ending.{Ending}
use Rattle.totem_evs.specs.declared.ending.Ending.TheVariants.{Quiet}
use Rattle.totem_evs.specs.declared.log.Log.{Log}

-- ---- any lives, any endings

process_any : (version : Version) (p : ℕ) → IsProcessIn version p → IsProcessIn Three p
process_any version p is = record { id_fits = is.id_fits; life_fits = is.life_fits; first = λ h. absurd cc }

members_any : (version : Version) (ms : List ℕ) → IsMembersIn version ms → IsMembersIn Three ms
members_any version ms is = record { some = is.some; few = is.few; rising = is.rising; processes = λ j d within. process_any version _ (is.processes j d within) }

entry_any : (version : Version) (e : Entry) → IsEntryIn version e → IsEntryIn Three e
entry_any version e h = grind (arith, members_any)

-- the last version has a word for each ending
pub any_ending : (ending : Ending) → IsEndingIn Three ending
any_ending ending = grind arith

log_any : (version : Version) (log : Log) → IsLogIn version log → IsLogIn Three log
log_any version log is = grind (arith, process_any, entry_any, any_ending)

pub any_lives : (run : RunRecord) → IsRunOf run → IsRunIn Three run.logs
any_lives run is = record { few = is.few; rising = is.rising; each = λ j d within. log_any run.version _ (is.each j d within) }

-- ---- lives that are written, or are first

process_with : (version : Version) (p : ℕ) → (writes_lives version ≡ false → life_of p ≡ 1) → IsProcessIn Three p → IsProcessIn version p
process_with version p first is = record { id_fits = is.id_fits; life_fits = is.life_fits; first = first }

members_with : (version : Version) (ms : List ℕ) → (writes_lives version ≡ false → AreFirst ms) → IsMembersIn Three ms → IsMembersIn version ms
members_with version ms first is = record { some = is.some; few = is.few; rising = is.rising; processes = λ j d within. process_with version _ (λ h. first h j d within) (is.processes j d within) }

entry_with : (version : Version) (e : Entry) → (writes_lives version ≡ false → AreFirst (members_of e)) → IsEntryIn Three e → IsEntryIn version e
entry_with version e h k = grind (arith, members_with)

ending_with : (version : Version) (ending : Ending) → (writes_quiet version ≡ false → ending ≢ Quiet) → IsEndingIn version ending
ending_with version ending h = grind arith

log_with : (version : Version) (log : Log) → (writes_lives version ≡ false → HasFirstLives log) → (writes_quiet version ≡ false → log.ending ≢ Quiet) → IsLogIn Three log → IsLogIn version log
log_with version log first loud is = grind (arith, process_with, entry_with, ending_with)

-- a text can write logs whose lives it writes or are first, and of which it says that they are quiet or none is
pub in_version : (version : Version) (logs : List Log) → (writes_lives version ≡ false → All HasFirstLives logs) → (writes_quiet version ≡ false → AreLoud logs) → IsRunIn Three logs → IsRunIn version logs
in_version version logs first loud is = record { few = is.few; rising = is.rising; each = λ j d within. log_with version _ (λ h. first h j d within) (λ h. loud h j d within) (is.each j d within) }

-- the first version that can write logs is one of a run
pub first_run : (version : Version) (logs : List Log) → IsFirstVersion version logs → IsRunIn Three logs → IsRunOf (record { version = version; logs = logs })
first_run One logs first is = in_version One logs (λ h. first.1) (λ h. first.0) is
first_run Two logs first is = in_version Two logs (λ h. absurd cc) (λ h. first.0) is
first_run Three logs first is = is
