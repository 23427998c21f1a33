-- If no step can follow on a ring below a number, none does, and none can after it: cell by cell of the node step.
use Rattle.totem_weave.proofs.Common.{◌≡◌, ℕ, ◌+◌, ◌&&◌, ◌^◌, ◌<◌, ◌≤◌, max, not, List, [], ◌∷◌, length, Bool, true, false, cond, Option, None, Some, IfOk, Ok, Err, is_some, nat_lt, nat_le, refl, sym, ap, ◌∙◌, arith, All, and_parts, not-true, cond_both, All-nil, All-cons, All-append, All-map, RingName, Body, Message, Token, Join, CommitToken, Packet, has, is_least, Ring, same_ring, first_token, Sending, Done, given, on_message, on_token, CommitView, Gather, gathered, consensus, on_join, on_timeout, first_commit, on_commit, Leaving, next_bodies, on_ring, is_done, State, Node, Stepped, Told, on_its_ring, sending, is_sealed, commit_view, report, Outcome, by_member, commit_begun, look_at_consensus, taking, gather_begun, to_gather}
use Rattle.totem_names.specs.declared.message.Service.{Service}
use Rattle.totem_packets.specs.declared.packet.Packet.TheVariants as packet
use Rattle.totem_member.specs.declared.views.Phase.{Phase}
use Rattle.totem_member.specs.declared.views.Phase.TheVariants as phase
use Rattle.totem_member.specs.declared.views.Act.{Act}
use Rattle.totem_member.specs.declared.views.Act.TheVariants.{Filled, Entered, Started}
use Rattle.totem_core.specs.declared.input.Input.{Input}
use Rattle.totem_core.specs.declared.input.Input.TheVariants as input
use Rattle.totem_core.specs.declared.state.Recovering.{Recovering}
use Rattle.totem_core.specs.declared.state.State.TheVariants.{Operational, Gathering, Committing, InRecovery}
use Rattle.totem_core.specs.declared.ring_step.RingStep.{RingStep}
use Rattle.totem_core.specs.Visiting.{visit_steps, message_told, visit_told, message_on_installed, message_on_new, visit_installed, visit_new, carried, adopting, having_adopted, installing, after_visit, resend}
use Rattle.totem_core.specs.Table.{on_message as take_message, on_token as take_token, is_late, says_nothing_new, join_in_commit, on_join_in, commit_taken, on_commit_in, acted, recovering, starting, is_quiet, on_timer, on_submit, on_packet, taken, step}
use Rattle.totem_weave.proofs.Parts.{if_either, if_next, if_by_ring, if_by_member}
use Rattle.totem_weave.proofs.Keeping.{LeadsTo, message_keeps, token_keeps, adopting_keeps}
use Rattle.totem_weave.proofs.Allowing.{Allows, AllowsThis, commit_allows}
use Rattle.totem_weave.proofs.Standing.{Suits, NodeStands, Goes, on_installed, on_new, turned, still_installed, sealed}

module _ (least : ℕ) where
  -- it goes so, or is refused
  abbrev AllGo : Outcome Stepped → Type 0
  AllGo o = IfOk o (Goes least)

  either : (test : Bool) (x y : Outcome Stepped) → (test ≡ true → AllGo x) → (test ≡ false → AllGo y) → AllGo (cond test x y)
  either = if_either (Goes least)

  abbrev NotBelow : RingStep → Type 0
  NotBelow step = least ≤ step.ring.seq

  silent : (n : Node) (packets : List Sending) → NodeStands least n → Goes least (sending n packets)
  silent n packets s = record { stands = s; steps = All-nil NotBelow }

  -- ---- on a ring

  one_on : (step : RingStep) → NotBelow step → All NotBelow (step ∷ [])
  one_on step low = All-cons NotBelow step [] low (All-nil NotBelow)

  visit_on : (ring : RingName) (bodies : List Body) (t : Token) → least ≤ ring.seq → All NotBelow (visit_steps ring bodies t)
  visit_on ring bodies t low = All-append NotBelow _ _ (All-map NotBelow _ bodies (λ k d h. low)) (one_on _ low)

  -- what is reported of a step on this ring
  record IsTold (ring : RingName) (told : Told) : Type 0 where
    same : told.ring.ring ≡ ring
    steps : All NotBelow told.ring_steps

  told_message : (ring : Ring) (m : Message) → least ≤ ring.ring.seq → IfOk (message_told ring m) (IsTold ring.ring)
  told_message ring m low =
      if_by_ring (LeadsTo ring.ring) (IsTold ring.ring) (on_message ring m) _ (message_keeps ring m) (λ done same. record { same = same; steps = one_on _ low })

  told_visit : (ring : Ring) (bodies : List Body) (t : Token) → least ≤ ring.ring.seq → IfOk (visit_told ring bodies t) (IsTold ring.ring)
  told_visit ring bodies t low =
      if_by_ring (LeadsTo ring.ring) (IsTold ring.ring) (on_token (given ring bodies) t) _ (token_keeps ring bodies t)
      (λ done same. record { same = same; steps = visit_on ring.ring bodies t low })

  told_goes : (ring : RingName) (o : Outcome Told) (node : Ring → Node) → IfOk o (IsTold ring) → ((now : Ring) → now.ring ≡ ring → NodeStands least (node now))
      → AllGo (on_its_ring o node)
  told_goes ring (Ok told) node is stand = record { stands = stand told.ring is.same; steps = is.steps }
  told_goes ring (Err fault) node is stand = tt

  installed_message_goes : (n : Node) (m : Message) → is_some n.filled ≡ false → NodeStands least n → AllGo (message_on_installed n m)
  installed_message_goes n m unsealed s =
      told_goes n.installed.ring (message_told n.installed m) _ (told_message n.installed m (on_installed least n s unsealed)) (still_installed least n s)

  installed_visit_goes : (n : Node) (t : Token) → is_some n.filled ≡ false → NodeStands least n → AllGo (visit_installed n t)
  installed_visit_goes n t unsealed s =
      told_goes n.installed.ring (visit_told n.installed n.waiting t) _ (told_visit n.installed n.waiting t (on_installed least n s unsealed)) (still_installed least n s)

  new_message_goes : (n : Node) (x : Recovering) (m : Message) → n.filled ≡ Some x.ring.ring → NodeStands least n → AllGo (message_on_new n x m)
  new_message_goes n x m is s =
      let old : Ring = adopting n.installed (carried m.body) in
      told_goes x.ring.ring (message_told x.ring m) (having_adopted n x m) (told_message x.ring m (on_new least n s x.ring.ring is).0)
      (λ now same. turned least (record n { installed = old }) (still_installed least n s old (adopting_keeps n.installed (carried m.body)))
      (InRecovery (record x { ring = now })) (is ∙ ap Some (sym same)))

  installs : (n : Node) (now : Ring) → n.filled ≡ Some now.ring → NodeStands least n → NodeStands least (installing n now)
  installs n now is s = let on = on_new least n s now.ring is in record { above = on.1; suits = refl; none_below = on.0 }

  visited : (n : Node) (x : Recovering) (done : Done) (r : Leaving) → n.filled ≡ Some done.state.ring → NodeStands least n → NodeStands least (after_visit n x done r)
  visited n x done r is s =
      let on : Node = record n { state = InRecovery (record x { ring = done.state; recovery = r }); obligation = r.obligation } in
      cond_both (is_done r done.state) (installing n done.state) on (NodeStands least) (λ over. installs n done.state is s) (λ yet. turned least n s on.state is)

  new_visit_goes : (n : Node) (x : Recovering) (t : Token) → n.filled ≡ Some x.ring.ring → NodeStands least n → AllGo (visit_new n x t)
  new_visit_goes n x t is s =
      let bodies : List Body = next_bodies x.recovery in
      if_by_ring (LeadsTo x.ring.ring) (Goes least) (on_token (given x.ring bodies) t) _ (token_keeps x.ring bodies t)
      (λ done same. record {
        stands = visited (record n { quiet = 0 }) x done (on_ring x.recovery done.state done.packets) (is ∙ ap Some (sym same)) s;
        steps = visit_on x.ring.ring bodies t (on_new least n s x.ring.ring is).0;
      })

  -- ---- to gather

  commit_goes : (n : Node) (g : Gather) (packets : List Sending) → NodeStands least n → AllGo (commit_begun n g packets)
  commit_goes n g packets s =
      let IsHigher = λ (t : CommitToken). n.seq < t.ring.seq in
      if_by_member IsHigher (Goes least) (first_commit (commit_view n phase.Gather g false) (report n)) _
      (if_either IsHigher (nat_le (2 ^ 32) (max n.seq g.seq + 4)) _ _ (λ too_high. tt) (λ high. omega arith))
      (λ t higher. silent _ _ (sealed least n s g t.ring higher))

  looking_goes : (n : Node) (g : Gather) (members : Option (List ℕ)) (packets : List Sending) → NodeStands least n → AllGo (look_at_consensus n g members packets)
  looking_goes n g None packets s = silent _ packets (turned least n s (Gathering g) tt)
  looking_goes n g (Some members) packets s =
      either (is_least (gathered g) n.me) _ _ (λ first. commit_goes n g packets s) (λ other. silent _ packets (turned least n s (Committing g) tt))

  gather_goes : (n : Node) (extra : List ℕ) (cause : Option Join) → NodeStands least n → AllGo (to_gather n extra cause)
  gather_goes n extra cause s =
      if_next (Goes least) (gather_begun n extra) _ (λ new. if_next (Goes least) (taking new cause) _ (λ g. looking_goes (record n { quiet = 0 }) g (consensus g) _ s))

  -- ---- cell by cell

  message_goes : (n : Node) (m : Message) (state : State) → Suits state n.filled → NodeStands least n → AllGo (take_message n m state)
  message_goes n m Operational unsealed s =
      either (same_ring m.ring n.installed.ring) _ _ (λ own. installed_message_goes n m unsealed s)
      (λ other. either (has n.installed.members m.sender) _ _ (λ known. tt) (λ foreign. gather_goes n (m.sender ∷ []) None s))
  message_goes n m (Gathering g) any s =
      let own : Bool = same_ring m.ring n.installed.ring in
      either (own && not (is_sealed n)) _ _ (λ both. installed_message_goes n m (not-true (is_sealed n) (and_parts own (not (is_sealed n)) both).1) s) (λ other. tt)
  message_goes n m (Committing g) any s = tt
  message_goes n m (InRecovery x) is s =
      either (same_ring m.ring n.installed.ring) _ _ (λ old. tt) (λ other. either (same_ring m.ring x.ring.ring) _ _ (λ new. new_message_goes n x m is s) (λ foreign. tt))

  token_goes : (n : Node) (t : Token) (state : State) → Suits state n.filled → NodeStands least n → AllGo (take_token n t state)
  token_goes n t Operational unsealed s = installed_visit_goes n t unsealed s
  token_goes n t (Gathering g) any s = tt
  token_goes n t (Committing g) any s = tt
  token_goes n t (InRecovery x) is s = new_visit_goes n x t is s

  join_in_commit_goes : (n : Node) (g : Gather) (j : Join) → NodeStands least n → AllGo (join_in_commit n g j)
  join_in_commit_goes n g j s = either (says_nothing_new g j) _ _ (λ old. tt) (λ new. gather_goes n [] (Some j) s)

  join_goes : (n : Node) (j : Join) (state : State) → NodeStands least n → AllGo (on_join_in n j state)
  join_goes n j Operational s = gather_goes n [] (Some j) s
  join_goes n j (Gathering g) s = if_next (Goes least) (by_member (on_join g j)) _ (λ done. looking_goes n done.gather done.out.members _ s)
  join_goes n j (Committing g) s = join_in_commit_goes n g j s
  join_goes n j (InRecovery x) s = join_in_commit_goes n x.gather j s

  start_goes : (n : Node) (state : State) → Suits state n.filled → NodeStands least n → AllGo (starting n state)
  start_goes n Operational unsealed s = tt
  start_goes n (Gathering g) any s = tt
  start_goes n (Committing g) any s = tt
  start_goes n (InRecovery x) is s = new_visit_goes n (record x { started = true }) (first_token x.ring.ring) is s

  act_goes : (n : Node) (g : Gather) (t : CommitToken) (a : Act) → Allows (max n.seq g.seq) n.filled t.ring a → NodeStands least n → AllGo (acted n g t a)
  act_goes n g t Filled higher s = silent _ _ (sealed least n s g t.ring (omega arith))
  act_goes n g t Entered is s = silent _ _ (turned least n s (InRecovery (recovering n g t)) is)
  act_goes n g t Started any s = start_goes n n.state s.suits s

  commit_taken_goes : (n : Node) (g : Gather) (p : Phase) (started : Bool) (t : CommitToken) → NodeStands least n → AllGo (commit_taken n g p started t)
  commit_taken_goes n g p started t s =
      let v : CommitView = commit_view n p g started in
      if_by_member (AllowsThis v) (Goes least) (on_commit t v (report n)) _ (commit_allows t v (report n)) (λ out allowed. act_goes n g out.token out.act allowed s)

  commit_token_goes : (n : Node) (t : CommitToken) (state : State) → NodeStands least n → AllGo (on_commit_in n t state)
  commit_token_goes n t Operational s = tt
  commit_token_goes n t (Gathering g) s = commit_taken_goes n g phase.Gather false t s
  commit_token_goes n t (Committing g) s = commit_taken_goes n g phase.Commit false t s
  commit_token_goes n t (InRecovery x) s = commit_taken_goes n x.gather phase.Recovery x.started t s

  resent : (n : Node) (ring : Ring) → least ≤ ring.ring.seq → NodeStands least n → Goes least (resend n ring)
  resent n ring low s = record { stands = s; steps = one_on _ low }

  timer_goes : (n : Node) (state : State) → Suits state n.filled → NodeStands least n → AllGo (on_timer n state)
  timer_goes n Operational unsealed s = either (is_quiet n) _ _ (λ third. gather_goes n [] None s) (λ yet. resent n n.installed (on_installed least n s unsealed) s)
  timer_goes n (Gathering g) any s =
      let done = on_timeout g in
      either (nat_le 2 (n.quiet + 1)) _ _ (λ second. looking_goes (record n { quiet = 0 }) done.gather done.out.members _ s) (λ yet. silent _ _ s)
  timer_goes n (Committing g) any s = either (is_quiet n) _ _ (λ third. gather_goes n [] None s) (λ yet. silent _ _ s)
  timer_goes n (InRecovery x) is s = either (is_quiet n) _ _ (λ third. gather_goes n [] None s) (λ yet. resent n x.ring (on_new least n s x.ring.ring is).0 s)

  packet_goes : (n : Node) (p : Packet) → NodeStands least n → AllGo (on_packet n p)
  packet_goes n (packet.Message m) s = message_goes n m n.state s.suits s
  packet_goes n (packet.Token t) s = token_goes n t n.state s.suits s
  packet_goes n (packet.Join j) s = either (is_late n j) _ _ (λ late. tt) (λ timely. join_goes n j n.state s)
  packet_goes n (packet.Commit t) s = commit_token_goes n t n.state s

  submit_goes : (n : Node) (service : Service) (payload : List ℕ) → NodeStands least n → AllGo (on_submit n service payload)
  submit_goes n service payload s =
      either (nat_lt 1024 (length payload)) _ _ (λ long. tt) (λ short. either (nat_le 16 (length n.waiting)) _ _ (λ many. tt) (λ few. silent _ [] s))

  input_goes : (n : Node) (i : Input) → NodeStands least n → AllGo (taken n i)
  input_goes n (input.Submit service payload) s = submit_goes n service payload s
  input_goes n (input.Packet p) s = packet_goes n p s
  input_goes n input.Timer s = timer_goes n n.state s.suits s
  input_goes n input.Crash s = record { stands = s; steps = All-nil NotBelow }

  pub step_goes : (n : Node) (i : Input) → NodeStands least n → AllGo (step n i)
  step_goes n i s = either n.crashed _ _ (λ crashed. tt) (λ runs. input_goes n i s)
