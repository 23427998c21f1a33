-- What becomes of a scene.
use Rattle.totem_script.proofs.Common.{◌≡◌, ℕ, zero, suc, ◌<◌, ◌+◌, ◌-◌, List, [], ◌∷◌, ◌++◌, length, get_or, take, Ok, refl, ap, ◌∙◌, arith, append-nil, concat, take_more, Packet, Sending, Input, ◌>>=◌, Judged, Fails, Actor}
use Rattle.std.proofs.lemmas.List.Folds.{concat-append}
use Rattle.totem_core.specs.declared.input.Input.TheVariants as input
use Rattle.totem_script.specs.declared.script_fault.ScriptFault.{ScriptFault}
use Rattle.totem_script.specs.Casts.{cast_step}
use Rattle.totem_script.specs.Scenes.{Queue, Scene, posted_all, scene_step, run_one, run_times}

-- ---- A step

module _ (s : Scene) (p : ℕ) (i : Input) where
  pub not_stepped : (fault : ScriptFault) → Fails fault (cast_step s.actors p i) → Fails fault (scene_step s p i)
  unfolding scene_step
  not_stepped fault fails = record { is = λ other. rw (fails.is other) }

  pub stepped : (actors shown : List Actor) (packets : List Sending) (queue : Queue) → cast_step s.actors p i ≡ Ok (record { actors = actors; packets = packets })
      → shown ≡ actors → queue ≡ s.queue ++ posted_all s.cut shown p packets
      → scene_step s p i ≡ Ok (record { version = s.version; actors = actors; queue = queue; cut = s.cut; under_way = s.under_way })
  unfolding scene_step
  stepped actors shown packets queue is same posted = rw (is, posted, same)

-- ---- Step after step

pub no_packet : (left : ℕ) (s : Scene) → s.queue ≡ [] → run_times left s ≡ Ok s
unfolding run_times
no_packet zero s none = refl
no_packet (suc left) s none =
    let f : Scene → Judged Scene = run_times left in
    ap (λ (q : Queue). run_one s q >>= f) none ∙ no_packet left s none

pub stopped : (whole : Judged Scene) (left : ℕ) (s : Scene) (queue : Queue) → whole ≡ run_times left s → queue ≡ s.queue → s.queue ≡ []
    → whole ≡ Ok (record { version = s.version; actors = s.actors; queue = queue; cut = s.cut; under_way = s.under_way })
stopped whole left s queue so_far is none = rw is (so_far ∙ no_packet left s none)

pub no_time : (left : ℕ) (s : Scene) → left ≡ 0 → run_times left s ≡ Ok s
unfolding run_times
no_time zero s none = refl
no_time (suc left) s none = absurd (omega arith)

module _ (s : Scene) (p : ℕ) (packet : Packet) (queue : Queue) (is : s.queue ≡ (p, packet) ∷ queue) where
  pub one_went : (left : ℕ) (next : Scene) → 0 < left → scene_step (record s { queue = queue }) p (input.Packet packet) ≡ Ok next
      → run_times left s ≡ run_times (left - 1) next
  unfolding run_times
  one_went zero next some done = absurd (omega arith)
  one_went (suc left) next some done =
      let less : suc left - 1 ≡ left = omega arith in
      rw (less, is, done)

  pub one_failed : (left : ℕ) (fault : ScriptFault) → 0 < left → Fails fault (scene_step (record s { queue = queue }) p (input.Packet packet))
      → Fails fault (run_times left s)
  unfolding run_times
  one_failed zero fault some fails = absurd (omega arith)
  one_failed (suc left) fault some fails = record { is = λ other. rw (is, fails.is other) }

-- the same, of what is left of a whole
pub fails_too : {A : Type 0} (fault : ScriptFault) (whole rest : Judged A) → whole ≡ rest → Fails fault rest → Fails fault whole
fails_too fault whole rest same fails = record { is = λ other. same ∙ fails.is other }

-- ---- All processes of groups

pub group_more : (groups : List (List ℕ)) (i : ℕ) (g procs next : List ℕ) → i < length groups → g ≡ get_or groups i g → procs ≡ concat (take i groups)
    → next ≡ procs ++ g → next ≡ concat (take (i + 1) groups)
group_more groups i g procs next inside is so_far more =
    let one : concat (g ∷ []) ≡ g = append-nil g in
    more ∙ rw (so_far, take_more groups i g inside, concat-append (take i groups) (get_or groups i g ∷ []), ← is, one)
