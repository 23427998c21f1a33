-- A script, line by line.
use Rattle.totem_script.proofs.Common.{◌≡◌, ℕ, zero, suc, ◌≤◌, ◌+◌, List, [], ◌∷◌, length, drop, Bool, true, false, Ok, Err, refl, ap, ◌∙◌, arith, length-drop, RunRecord, command_of, Fails, logs_in, Scene, empty_scene, carried_out, run_of}
use Rattle.totem_script.specs.declared.command.Command.{Command}
use Rattle.totem_script.specs.declared.fault.LineFault.{LineFault}
use Rattle.totem_script.specs.declared.script_fault.FaultyLine.{FaultyLine}
use Rattle.totem_script.specs.declared.script_fault.ScriptFault.{ScriptFault}
use Rattle.totem_script.specs.declared.script_fault.ScriptFault.TheVariants.{End, Truncated}
use Rattle.totem_script.specs.declared.script_version.ScriptVersion.{ScriptVersion}
use Rattle.totem_script.specs.Lines.{lines_of, longer_line}
use Rattle.totem_script.specs.Parsed as parsed
use Rattle.totem_script.specs.ScriptFaults.{of_line}
use Rattle.totem_script.specs.Simulation.{Texts, Told, is_end, line_played, closing, play, all_played, simulate, FailsAt, first_line_played, first_headed}

-- ---- A line

module _ (s : Scene) (lines : Texts) where
  pub unfit_text : (fault : ScriptFault) → lines ≡ Err fault ∷ [] → Fails fault (first_line_played s lines)
  unfolding line_played
  unfit_text fault is = record { is = λ other. ap (first_line_played s) is }

  module _ (text : List ℕ) (rest : Texts) (is : lines ≡ Ok text ∷ rest) where
    pub no_command : (fault : LineFault) → parsed.Fails fault (command_of s.version text) → Fails (of_line fault) (first_line_played s lines)
    unfolding line_played
    no_command fault fails = record { is = λ other. let err = fails.is (λ e. other (ap of_line e)) in rw (is, err) }

    module _ (c : Command) (read : command_of s.version text ≡ Ok c) where
      pub not_carried_out : (fault : ScriptFault) → Fails fault (carried_out s c) → Fails fault (first_line_played s lines)
      unfolding line_played
      not_carried_out fault fails = record { is = λ other. rw (is, read, fails.is other) }

      pub was_carried_out : (next : Scene) (b : Bool) → carried_out s c ≡ Ok next → b ≡ is_end c → first_line_played s lines ≡ Ok (record { scene = next; ended = b })
      unfolding line_played
      was_carried_out next b did last = rw (is, last, read, did)

-- ---- Line after line

pub stops : (whole : Told Scene) (n : ℕ) (s : Scene) (lines : Texts) (kind : ScriptFault) → whole ≡ play n s lines → Fails kind (first_line_played s lines)
    → FailsAt (record { kind = kind; line = n }) whole
unfolding play
stops whole n s [] kind so_far fails = record { is = λ other. let same : Truncated ≡ kind = (let e = fails.is other in cc) in so_far ∙ rw same }
stops whole n s (l ∷ lines) kind so_far fails = record { is = λ other. so_far ∙ rw (fails.is other) }

pub goes_on : (whole : Told Scene) (n : ℕ) (s : Scene) (lines rest : Texts) (next : Scene) (b : Bool) → whole ≡ play n s lines
    → first_line_played s lines ≡ Ok (record { scene = next; ended = b }) → rest ≡ drop 1 lines → b ≡ false
    → (whole ≡ play (n + 1) next rest) × (length lines ≡ length rest + 1)
unfolding play
goes_on whole n s [] rest next b so_far did is more = absurd (cc)
goes_on whole n s (l ∷ lines) rest next b so_far did is more =
    let same : rest ≡ lines = is in
    let many : suc (length lines) ≡ length rest + 1 = (let e = ap length same in omega (arith, e)) in
    (so_far ∙ rw (did, more, same), many)

pub ends_here : (whole : Told Scene) (n : ℕ) (s : Scene) (lines rest : Texts) (next : Scene) (b : Bool) → whole ≡ play n s lines
    → first_line_played s lines ≡ Ok (record { scene = next; ended = b }) → rest ≡ drop 1 lines → b ≡ true
    → whole ≡ closing (n + 1) next rest
unfolding play
ends_here whole n s [] rest next b so_far did is last = absurd (cc)
ends_here whole n s (l ∷ lines) rest next b so_far did is last =
    let same : rest ≡ lines = is in
    so_far ∙ rw (did, last, same)

pub closed : (n : ℕ) (s : Scene) (rest : Texts) → rest ≡ [] → closing n s rest ≡ Ok s
unfolding closing
closed n s [] none = refl
closed n s (l ∷ rest) none = absurd (cc)

pub more_behind : (whole : Told Scene) (n : ℕ) (s : Scene) (rest : Texts) → whole ≡ closing n s rest → (rest ≡ [] → ⊥) → FailsAt (record { kind = End; line = n }) whole
unfolding closing
more_behind whole n s [] is some = absurd (some refl)
more_behind whole n s (l ∷ rest) is some = record { is = λ other. is }

-- ---- The whole

longer_many : (b : ℕ) (lines : Texts) (n : ℕ) → length lines ≤ suc n → length (longer_line b lines) ≤ suc (suc n)
longer_many b [] n few = omega arith
longer_many b (Ok text ∷ lines) n few = omega arith
longer_many b (Err fault ∷ lines) n few = omega arith

pub few_lines : (room : ℕ) (bytes : List ℕ) → length (lines_of room bytes) ≤ suc room
unfolding lines_of
few_lines room [] = omega arith
few_lines zero (b ∷ bytes) = omega arith
few_lines (suc room) (b ∷ bytes) = grind (arith, few_lines room bytes, longer_many b (lines_of room bytes) room)

no_head : (lines : Texts) (kind : ScriptFault) → Fails kind (first_headed lines) → FailsAt (record { kind = kind; line = 1 }) (all_played lines)
unfolding all_played
no_head [] kind fails = record { is = λ other. let same : Truncated ≡ kind = (let e = fails.is other in cc) in rw same }
no_head (l ∷ lines) kind fails = record { is = λ other. rw (fails.is other) }

pub a_head : (version : ScriptVersion) (lines rest : Texts) → first_headed lines ≡ Ok version → rest ≡ drop 1 lines
    → all_played lines ≡ play 2 (empty_scene version) rest
unfolding all_played
a_head version [] rest head is = absurd (cc)
a_head version (l ∷ lines) rest head is = let same : rest ≡ lines = is in rw (head, same)

module _ (script : List ℕ) (lines : Texts) (is : lines ≡ lines_of 65536 script) where
  fails_whole : (fault : FaultyLine) → FailsAt fault (all_played lines) → FailsAt fault (simulate script)
  unfolding simulate
  fails_whole fault fails = record { is = λ other. let err = rw is at (fails.is other) in rw err }

  pub without_head : (kind : ScriptFault) → Fails kind (first_headed lines) → FailsAt (record { kind = kind; line = 1 }) (simulate script)
  without_head kind fails = fails_whole (record { kind = kind; line = 1 }) (no_head lines kind fails)

  pub few_behind : (rest : Texts) → rest ≡ drop 1 lines → length rest ≤ 65537
  few_behind rest behind =
      let few = few_lines 65536 script in
      let all = ap length is in
      let fewer = ap length behind in
      omega (arith, few, all, fewer, length-drop 1 lines)

  module _ (version : ScriptVersion) (rest : Texts) (head : first_headed lines ≡ Ok version) (behind : rest ≡ drop 1 lines) where
    pub play_fails : (fault : FaultyLine) → FailsAt fault (play 2 (empty_scene version) rest) → FailsAt fault (simulate script)
    play_fails fault fails = fails_whole fault (record { is = λ other. a_head version lines rest head behind ∙ fails.is other })

    pub play_ends : (s : Scene) (run : RunRecord) → play 2 (empty_scene version) rest ≡ Ok s → run ≡ run_of s.version (logs_in s.actors)
        → simulate script ≡ Ok run
    unfolding simulate
    play_ends s run played logs =
        let whole = rw is at (a_head version lines rest head behind ∙ played) in
        rw (whole, ← logs) refl
