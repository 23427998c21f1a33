-- In a script of version 1 no life but the first is named.
use Rattle.totem_script.proofs.Common.{◌≡◌, ◌≢◌, ℕ, zero, suc, ◌+◌, ◌-◌, ◌==◌, not, Bool, true, false, List, [], ◌∷◌, length, take, drop, Option, None, Some, Result, Ok, Err, nat_lt, refl, sym, ◌∙◌, arith, if◌then◌else◌, IfOk, IfSome, All, slice_get, codes, All-nil, All-cons, All-head, All-tail, All-append, All-push, All-take, All-drop, All-map, cond_both, RingName, id_of, life_of, Packet, RunRecord, AreFirst, HasFirstLives, Sending, first_rank, first_ranks, Input, Stepped, Outcome, first_change, ◌>>=◌, Judged, by_line, process_in, ring_in, only, FitVersion, version_of, run_of}
use Rattle.std.specs.Str.{bytes_eq}
use Rattle.totem_names.specs.declared.message.Service.{Service}
use Rattle.totem_ring.specs.declared.outcome.To.{To}
use Rattle.totem_ring.specs.declared.outcome.To.TheVariants.{All as ToAll, One as ToOne}
use Rattle.totem_core.specs.declared.input.Input.TheVariants as input
use Rattle.totem_core.specs.Table.{step}
use Rattle.totem_core.specs.FirstLives.{IsFirstPacket, IsFirstSending, IsFirstInput, IsFirstEntry, IsFirstNode, IsFirstStep}
use Rattle.totem_core.proofs.FirstLives.{if_holds, then_holds, Anything, anyway, step_stays}
use Rattle.totem_script.specs.declared.command.Command.{Command}
use Rattle.totem_script.specs.declared.command.Command.TheVariants as command
use Rattle.totem_script.specs.declared.keyword.Keyword.{Keyword}
use Rattle.totem_script.specs.declared.script_version.ScriptVersion.{ScriptVersion}
use Rattle.totem_script.specs.declared.script_version.ScriptVersion.TheVariants as script
use Rattle.totem_script.specs.Parsed.{Parsed}
use Rattle.totem_script.specs.Keywords.{keyword_of}
use Rattle.totem_script.specs.Commands.{words_of, number_words, process_words, some_processes, service_in, payload_in, payload_words, service_words, submit_words, ring_words, groups_from, count_command, process_command, command_by, command_named, command_in, command_of}
use Rattle.totem_script.specs.Actors.{Actor, ActorStepped, new_actor, after_step, actor_step, log_of, logs_of}
use Rattle.totem_script.specs.Casts.{CastStepped, logs_in, with_actor, with_nodes, with_ring, may_make, lives_of, with_return, cast_step, is_known}
use Rattle.totem_script.specs.Scenes.{Queue, Scene, empty_scene, may_pass, to_others, posted_to, posted, posted_all, scene_step, named_step, run_one, run_times, with_first_token, once_more, is_partition, effect, makes_ring, is_in_order, carried_out}
use Rattle.totem_script.specs.Lines.{lines_of}
use Rattle.totem_script.specs.Simulation.{Texts, Told, LinePlayed, at_line, and_then, line_played, closing, play, first_headed, simulate}
use Rattle.totem_script.proofs.Judging.{a_head}

-- ---- what a script has, where no life but the first is named

-- a process that has had one life
pub record IsFirstActor (a : Actor) : Type 0 where
  pub proc : life_of a.proc ≡ 1
  pub earlier : All HasFirstLives a.earlier
  pub node : IsFirstNode a.node
  pub entries : All IsFirstEntry a.entries

abbrev pub IsFirstOnItsWay : ℕ × Packet → Type 0
IsFirstOnItsWay e = IsFirstPacket e.1

-- ---- a process

record IsFirstActorStep (done : ActorStepped) : Type 0 where
  actor : IsFirstActor done.actor
  packets : All IsFirstSending done.packets

after_first : (a : Actor) (o : Outcome Stepped) → IsFirstActor a → IfOk o IsFirstStep → IfOk (after_step a o) IsFirstActorStep
after_first a (Err fault) is all = record { actor = is; packets = All-nil IsFirstSending }
after_first a (Ok done) is all =
    if_holds IsFirstActorStep (nat_lt 1000000 (length a.entries + length done.entries)) _ _ tt (record {
      actor = record {
        proc = is.proc;
        earlier = is.earlier;
        node = all.node;
        entries = All-append IsFirstEntry a.entries done.entries is.entries all.entries;
      };
      packets = all.packets;
    })

actor_first : (a : Actor) (i : Input) → IsFirstActor a → IsFirstInput i → IfOk (actor_step a i) IsFirstActorStep
unfolding actor_step
actor_first a i is first = after_first a (step a.node i) is (step_stays a.node i is.node first)

new_first : (p : ℕ) (ring : RingName) (members : List ℕ) → life_of p ≡ 1 → AreFirst members → IsFirstActor (new_actor p ring members)
unfolding new_actor
new_first p ring members is all = record {
  proc = is;
  earlier = All-nil HasFirstLives;
  node = record { life = is; state = tt };
  entries = All-cons IsFirstEntry (first_change ring members) [] all (All-nil IsFirstEntry);
}

-- ---- all processes

record IsFirstCastStep (done : CastStepped) : Type 0 where
  actors : All IsFirstActor done.actors
  packets : All IsFirstSending done.packets

cast_first : (actors : List Actor) (p : ℕ) (i : Input) → All IsFirstActor actors → IsFirstInput i → IfOk (cast_step actors p i) IsFirstCastStep
unfolding cast_step
cast_first [] p i all first = record { actors = all; packets = All-nil IsFirstSending }
cast_first (a ∷ actors) p i all first =
    let one = All-head IsFirstActor a actors all in
    let others = All-tail IsFirstActor a actors all in
    if_holds IsFirstCastStep (id_of a.proc == p) _ _
    (then_holds IsFirstActorStep IsFirstCastStep (actor_step a i) _ (actor_first a i one first)
    (λ done is. record { actors = All-cons IsFirstActor done.actor actors is.actor others; packets = is.packets }))
    (then_holds IsFirstCastStep IsFirstCastStep (cast_step actors p i) _ (cast_first actors p i others first)
    (λ rest is. record { actors = All-cons IsFirstActor a rest.actors one is.actors; packets = is.packets }))

with_first : (actors : List Actor) (a : Actor) → All IsFirstActor actors → IsFirstActor a → All IsFirstActor (with_actor actors a)
unfolding with_actor
with_first [] a all is = All-cons IsFirstActor a [] is all
with_first (b ∷ actors) a all is =
    cond_both (nat_lt (id_of a.proc) (id_of b.proc)) _ _ (All IsFirstActor) (λ before. All-cons IsFirstActor a (b ∷ actors) is all)
    (λ after. All-cons IsFirstActor b (with_actor actors a) (All-head IsFirstActor b actors all) (with_first actors a (All-tail IsFirstActor b actors all) is))

nodes_first : (ring : RingName) (members procs : List ℕ) (actors : List Actor) → AreFirst members → AreFirst procs → All IsFirstActor actors
    → All IsFirstActor (with_nodes ring members procs actors)
unfolding with_nodes
nodes_first ring members [] actors first firsts all = all
nodes_first ring members (p ∷ procs) actors first firsts all =
    nodes_first ring members procs (with_actor actors (new_actor p ring members)) first (All-tail (λ p. life_of p ≡ 1) p procs firsts)
    (with_first actors (new_actor p ring members) all (new_first p ring members (All-head (λ p. life_of p ≡ 1) p procs firsts) first))

ranks_first : (ids : List ℕ) → AreFirst (first_ranks ids)
ranks_first ids = All-map (λ p. life_of p ≡ 1) first_rank ids (λ k d inside. omega arith)

ring_first : (actors : List Actor) (ring : RingName) (members : List ℕ) → All IsFirstActor actors → IfOk (with_ring actors ring members) (All IsFirstActor)
ring_first actors ring members all =
    if_holds (All IsFirstActor) (may_make actors ring members) _ _
    (if_holds (All IsFirstActor) (nat_lt 32 (lives_of actors + length members)) _ _ tt
    (nodes_first ring (first_ranks members) (first_ranks members) actors (ranks_first members) (ranks_first members) all))
    tt

-- ---- packets on their way

sent_first : (cut : Option (List (List ℕ))) (actors : List Actor) (from : ℕ) (packet : Packet) (to : To) → IsFirstPacket packet
    → All IsFirstOnItsWay (posted_to cut actors from packet to)
unfolding to_others
sent_first cut actors from packet ToAll is = All-map IsFirstOnItsWay (λ (a : Actor). (id_of a.proc, packet)) _ (λ k d inside. is)
sent_first cut actors from packet (ToOne q) is =
    cond_both (may_pass cut from q) _ _ (All IsFirstOnItsWay) (λ passes. All-cons IsFirstOnItsWay (q, packet) [] is (All-nil IsFirstOnItsWay)) (λ stops. All-nil IsFirstOnItsWay)

posted_first : (cut : Option (List (List ℕ))) (actors : List Actor) (from : ℕ) (sendings : List Sending) → All IsFirstSending sendings
    → All IsFirstOnItsWay (posted_all cut actors from sendings)
unfolding posted_all
posted_first cut actors from [] all = All-nil IsFirstOnItsWay
posted_first cut actors from (sending ∷ sendings) all =
    All-append IsFirstOnItsWay (posted cut actors from sending) (posted_all cut actors from sendings)
    (sent_first cut actors from sending.1 sending.0 (All-head IsFirstSending sending sendings all))
    (posted_first cut actors from sendings (All-tail IsFirstSending sending sendings all))

token_first : (queue : Queue) (ring : RingName) → All IsFirstOnItsWay queue → All IsFirstOnItsWay (with_first_token queue ring)
token_first queue ring all = All-push IsFirstOnItsWay queue _ all tt

-- ---- no line of version 1 says `return`

-- a command other than `return`
abbrev pub BringsNobodyBack : Command → Type 0
BringsNobodyBack c = (p : ℕ) → c ≢ command.Return p

then_parsed : {A B : Type 0} (Q : B → Type 0) (v : Parsed A) (f : A → Parsed B) → ((x : A) → IfOk (f x) Q) → IfOk (v >>= f) Q
then_parsed Q v f each = then_holds Anything Q v f (anyway v) (λ x any. each x)

only_this : (c : Command) (ws : List (List ℕ)) → BringsNobodyBack c → IfOk (only c ws) BringsNobodyBack
only_this c [] kind = kind
only_this c (w ∷ ws) kind = tt

counts : (make : ℕ → Command) (ws : List (List ℕ)) → ((n : ℕ) → BringsNobodyBack (make n)) → IfOk (count_command make ws) BringsNobodyBack
counts make ws kind = then_parsed BringsNobodyBack (number_words ws) _ kind

names : (make : ℕ → Command) (ws : List (List ℕ)) → ((p : ℕ) → BringsNobodyBack (make p)) → IfOk (process_command make ws) BringsNobodyBack
names make ws kind = then_parsed BringsNobodyBack (process_words ws) _ kind

rings : (ws : List (List ℕ)) → IfOk (ring_words ws) BringsNobodyBack
rings [] = tt
rings (w ∷ ws) = then_parsed BringsNobodyBack (ring_in w) _ (λ ring. then_parsed BringsNobodyBack (some_processes ws) _ (λ members p e. cc))

payloads : (p : ℕ) (service : Service) (ws : List (List ℕ)) → IfOk (payload_words p service ws) BringsNobodyBack
payloads p service [] = tt
payloads p service (w ∷ ws) = then_parsed BringsNobodyBack (payload_in w) _ (λ payload. only_this (command.Submit p service payload) ws (λ q e. cc))

services : (p : ℕ) (ws : List (List ℕ)) → IfOk (service_words p ws) BringsNobodyBack
services p [] = tt
services p (w ∷ ws) = then_parsed BringsNobodyBack (service_in w) _ (λ service. payloads p service ws)

submits : (ws : List (List ℕ)) → IfOk (submit_words ws) BringsNobodyBack
submits [] = tt
submits (w ∷ ws) = then_parsed BringsNobodyBack (process_in w) _ (λ p. services p ws)

-- the words after this keyword say no `return`
abbrev pub IsOther : Keyword → Type 0
IsOther k = (ws : List (List ℕ)) → IfOk (command_by k ws) BringsNobodyBack

if_keyword : (b : Bool) (o other : Option Keyword) → IfSome o IsOther → IfSome other IsOther → IfSome (if b then o else other) IsOther
if_keyword true o other one others = one
if_keyword false o other one others = others

other_keyword : (w : List ℕ) → IfSome (keyword_of script.One w) IsOther
other_keyword w =
    if_keyword (bytes_eq w (codes "ring")) _ _ rings
    (if_keyword (bytes_eq w (codes "submit")) _ _ submits
    (if_keyword (bytes_eq w (codes "run")) _ _ (λ ws. counts command.Run ws (λ n p e. cc))
    (if_keyword (bytes_eq w (codes "drop")) _ _ (λ ws. counts command.Drop ws (λ n p e. cc))
    (if_keyword (bytes_eq w (codes "repeat")) _ _ (λ ws. counts command.Repeat ws (λ n p e. cc))
    (if_keyword (bytes_eq w (codes "cut")) _ _ (λ ws. then_parsed BringsNobodyBack (groups_from [] [] ws) _ (λ groups p e. cc))
    (if_keyword (bytes_eq w (codes "join")) _ _ (λ ws. only_this command.Join ws (λ p e. cc))
    (if_keyword (bytes_eq w (codes "timer")) _ _ (λ ws. names command.Timer ws (λ p q e. cc))
    (if_keyword (bytes_eq w (codes "crash")) _ _ (λ ws. names command.Crash ws (λ p q e. cc))
    (if_keyword (bytes_eq w (codes "return")) None _ tt
    (if_keyword (bytes_eq w (codes "end")) _ None (λ ws. only_this command.End ws (λ p e. cc)) tt))))))))))

by_keyword : (o : Option Keyword) (ws : List (List ℕ)) → IfSome o IsOther → IfOk (command_named o ws) BringsNobodyBack
by_keyword None ws other = tt
by_keyword (Some k) ws other = other ws

in_words : (ws : List (List ℕ)) → IfOk (command_in script.One ws) BringsNobodyBack
in_words [] = tt
in_words (w ∷ ws) = by_keyword (keyword_of script.One w) ws (other_keyword w)

first_command : (version : ScriptVersion) (line : List ℕ) → version ≡ script.One → IfOk (command_of version line) BringsNobodyBack
first_command version line is = rw is (in_words (words_of line))

-- ---- a line

line_holds : {A B : Type 0} (P : A → Type 0) (Q : B → Type 0) (n : ℕ) (v : Judged A) (f : A → Told B) → IfOk v P → ((x : A) → P x → IfOk (f x) Q)
    → IfOk (and_then (at_line n v) f) Q
line_holds P Q n (Ok x) f is each = each x is
line_holds P Q n (Err fault) f is each = tt

by_line_holds : {A : Type 0} (P : A → Type 0) (v : Parsed A) → IfOk v P → IfOk (by_line v) P
by_line_holds P (Ok x) is = is
by_line_holds P (Err fault) is = tt

-- ---- commands

found_first : (queue : Queue) (place : ℕ) → All IsFirstOnItsWay queue → IfSome (slice_get queue place) IsFirstOnItsWay
found_first [] place all = tt
found_first (e ∷ queue) zero all = All-head IsFirstOnItsWay e queue all
found_first (e ∷ queue) (suc place) all = found_first queue place (All-tail IsFirstOnItsWay e queue all)

-- in a script of this version
module _ (given : ScriptVersion) where
  abbrev IfOne : {A : Type 0} → (A → Type 0) → A → Type 0
  IfOne P x = given ≡ script.One → P x

  if_one : {A E : Type 0} (P : A → Type 0) (v : Result A E) → (given ≡ script.One → IfOk v P) → IfOk v (IfOne P)
  if_one P (Ok x) each = each
  if_one P (Err fault) each = tt

  -- it is of this version; in version 1 it has first lives alone
  record IsFirstScene (s : Scene) : Type 0 where
    version : s.version ≡ given
    actors : given ≡ script.One → All IsFirstActor s.actors
    queue : given ≡ script.One → All IsFirstOnItsWay s.queue

  step_first : (s : Scene) (p : ℕ) (i : Input) → IsFirstScene s → (given ≡ script.One → IsFirstInput i) → IfOk (scene_step s p i) IsFirstScene
  unfolding scene_step
  step_first s p i is first =
      then_holds (IfOne IsFirstCastStep) IsFirstScene (cast_step s.actors p i) _
      (if_one IsFirstCastStep (cast_step s.actors p i) (λ one. cast_first s.actors p i (is.actors one) (first one)))
      (λ done now. record {
        version = is.version;
        actors = λ one. (now one).actors;
        queue = λ one. All-append IsFirstOnItsWay s.queue _ (is.queue one) (posted_first s.cut done.actors p done.packets (now one).packets);
      })

  named_first : (s : Scene) (p : ℕ) (i : Input) → IsFirstScene s → (given ≡ script.One → IsFirstInput i) → IfOk (named_step s p i) IsFirstScene
  named_first s p i is first = if_holds IsFirstScene (is_known s.actors p) _ _ (step_first s p i is first) tt

  one_first : (s : Scene) (queue : Queue) → IsFirstScene s → (given ≡ script.One → All IsFirstOnItsWay queue) → IfOk (run_one s queue) IsFirstScene
  one_first s [] is all = is
  one_first s (e ∷ queue) is all =
      step_first (record s { queue = queue }) e.0 (input.Packet e.1)
      (record { version = is.version; actors = is.actors; queue = λ one. All-tail IsFirstOnItsWay e queue (all one) })
      (λ one. All-head IsFirstOnItsWay e queue (all one))

  run_first : (times : ℕ) (s : Scene) → IsFirstScene s → IfOk (run_times times s) IsFirstScene
  unfolding run_times
  run_first zero s is = is
  run_first (suc times) s is =
      then_holds IsFirstScene IsFirstScene (run_one s s.queue) (run_times times) (one_first s s.queue is is.queue) (λ next now. run_first times next now)

  more_first : (s : Scene) (e : Option (ℕ × Packet)) → IsFirstScene s → (given ≡ script.One → IfSome e IsFirstOnItsWay) → IfOk (once_more s e) IsFirstScene
  more_first s None is first = tt
  more_first s (Some e) is first =
      record { version = is.version; actors = is.actors; queue = λ one. All-push IsFirstOnItsWay s.queue e (is.queue one) (first one) }

  effect_first : (s : Scene) (c : Command) → IsFirstScene s → IfOne BringsNobodyBack c → IfOk (effect s c) IsFirstScene
  effect_first s (command.Ring ring members) is kind =
      then_holds (IfOne (All IsFirstActor)) IsFirstScene (with_ring s.actors ring members) _
      (if_one (All IsFirstActor) (with_ring s.actors ring members) (λ one. ring_first s.actors ring members (is.actors one)))
      (λ actors all. record { version = is.version; actors = all; queue = λ one. token_first s.queue ring (is.queue one) })
  effect_first s (command.Submit p service payload) is kind = named_first s p (input.Submit service payload) is (λ one. tt)
  effect_first s (command.Run times) is kind = run_first times s is
  effect_first s (command.Drop place) is kind =
      if_holds IsFirstScene (nat_lt (place - 1) (length s.queue)) _ _
      (record {
        version = is.version;
        actors = is.actors;
        queue = λ one. All-append IsFirstOnItsWay (take (place - 1) s.queue) (drop (suc (place - 1)) s.queue)
            (All-take IsFirstOnItsWay (place - 1) s.queue (is.queue one)) (All-drop IsFirstOnItsWay (suc (place - 1)) s.queue (is.queue one));
      })
      tt
  effect_first s (command.Repeat place) is kind = more_first s (slice_get s.queue (place - 1)) is (λ one. found_first s.queue (place - 1) (is.queue one))
  effect_first s (command.Cut groups) is kind =
      if_holds IsFirstScene (is_partition s.actors groups) _ _ (record { version = is.version; actors = is.actors; queue = is.queue }) tt
  effect_first s command.Join is kind = record { version = is.version; actors = is.actors; queue = is.queue }
  effect_first s (command.Timer p) is kind = named_first s p input.Timer is (λ one. tt)
  effect_first s (command.Crash p) is kind = named_first s p input.Crash is (λ one. tt)
  effect_first s (command.Return p) is kind =
      then_holds Anything IsFirstScene (with_return s.actors p) _ (anyway (with_return s.actors p))
      (λ done any. record { version = is.version; actors = λ one. absurd (kind one p refl); queue = λ one. absurd (kind one p refl) })
  effect_first s command.End is kind = is

  carried_first : (s : Scene) (c : Command) → IsFirstScene s → IfOne BringsNobodyBack c → IfOk (carried_out s c) IsFirstScene
  carried_first s c is kind =
      if_holds IsFirstScene (is_in_order s c) _ _
      (effect_first (record s { under_way = not (makes_ring c) }) c (record { version = is.version; actors = is.actors; queue = is.queue }) kind)
      tt

  -- ---- line after line

  abbrev Leaves : LinePlayed → Type 0
  Leaves next = IsFirstScene next.scene

  line_first : (s : Scene) (line : Judged (List ℕ)) → IsFirstScene s → IfOk (line_played s line) Leaves
  unfolding line_played
  line_first s line is =
      then_holds Anything Leaves line _ (anyway line)
      (λ text any. then_holds (IfOne BringsNobodyBack) Leaves (by_line (command_of s.version text)) _
      (by_line_holds (IfOne BringsNobodyBack) (command_of s.version text)
      (if_one BringsNobodyBack (command_of s.version text) (λ one. first_command s.version text (is.version ∙ one))))
      (λ c kind. then_holds IsFirstScene Leaves (carried_out s c) _ (carried_first s c is kind)
      (λ next now. now)))

  closes_first : (n : ℕ) (s : Scene) (lines : Texts) → IsFirstScene s → IfOk (closing n s lines) IsFirstScene
  unfolding closing
  closes_first n s [] is = is
  closes_first n s (line ∷ lines) is = tt

  plays_first : (n : ℕ) (s : Scene) (lines : Texts) → IsFirstScene s → IfOk (play n s lines) IsFirstScene
  unfolding play
  plays_first n s [] is = tt
  plays_first n s (line ∷ lines) is =
      line_holds Leaves IsFirstScene n (line_played s line) _ (line_first s line is)
      (λ next now. if_holds IsFirstScene next.ended _ _ (closes_first (n + 1) next.scene lines now) (plays_first (n + 1) next.scene lines now))

  whole_first : (lines : Texts) → IfOk (play 2 (empty_scene given) lines) IsFirstScene
  whole_first lines =
      plays_first 2 (empty_scene given) lines (record { version = refl; actors = λ one. All-nil IsFirstActor; queue = λ one. All-nil IsFirstOnItsWay })

-- ---- the logs

actor_logs : (a : Actor) → IsFirstActor a → All HasFirstLives (logs_of a)
actor_logs a is = All-push HasFirstLives a.earlier (log_of a) is.earlier (is.proc, is.entries)

all_logs : (actors : List Actor) → All IsFirstActor actors → All HasFirstLives (logs_in actors)
all_logs [] all = All-nil HasFirstLives
all_logs (a ∷ actors) all =
    All-append HasFirstLives (logs_of a) (logs_in actors) (actor_logs a (All-head IsFirstActor a actors all)) (all_logs actors (All-tail IsFirstActor a actors all))

-- a script of version 1 leaves logs that name first lives alone
pub played_first : (version : ScriptVersion) (lines : Texts) (s : Scene) → play 2 (empty_scene version) lines ≡ Ok s → s.version ≡ script.One → All HasFirstLives (logs_in s.actors)
played_first version lines s played one =
    let is = rw played at (whole_first version lines) in
    all_logs s.actors (is.actors (sym is.version ∙ one))

-- ---- the run

module _ (script : List ℕ) (version : ScriptVersion) (run : RunRecord) (head : first_headed (lines_of 65536 script) ≡ Ok version) where
  fits : (r : Told Scene) → play 2 (empty_scene version) (drop 1 (lines_of 65536 script)) ≡ r → and_then r (λ s. Ok (run_of s.version (logs_in s.actors))) ≡ Ok run
      → (run.version ≡ version_of version) × FitVersion version run.logs
  fits (Ok s) played is =
      let same : run ≡ run_of s.version (logs_in s.actors) = cc in
      let stays = (let is = rw played at (whole_first version (drop 1 (lines_of 65536 script))) in is.version) in
      rw (same, stays) (refl, λ one. played_first version (drop 1 (lines_of 65536 script)) s played (stays ∙ one))
  fits (Err fault) played is = absurd (cc)

  pub run_fits : simulate script ≡ Ok run → (run.version ≡ version_of version) × FitVersion version run.logs
  unfolding simulate
  run_fits is =
      let whole = a_head version (lines_of 65536 script) (drop 1 (lines_of 65536 script)) head refl in
      let made = rw whole at is in
      fits (play 2 (empty_scene version) (drop 1 (lines_of 65536 script))) refl made
