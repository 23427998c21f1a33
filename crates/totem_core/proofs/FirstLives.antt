-- A node of a first life to which nothing of later lives comes stays so, and gives nothing of them.
use Rattle.totem_core.proofs.Common.{RingName, send_of, ◌≡◌, ℕ, ◌+◌, ◌^◌, ◌==◌, ◌&&◌, not, Bool, true, false, List, [], ◌∷◌, ◌++◌, length, map, filter, Option, None, Some, Result, Ok, Err, refl, ⊎_elim, nat_le, nat_lt, max, arith, if◌then◌else◌, IfOk, IfSome, All, unwrap_or, filter_map, cons_option, cases_Bool, All-nil, All-cons, All-append, All-map, All-filter, All-weaker, life_of, ConfId, Regular, Body, Message, Token, Join, CommitToken, Report, reported_life, member_rank, member_ranks, has, is_least, same_processes, Entry, AreFirst, Ring, first_token, message_refusal, token_refusal, Done, given, unless_refused, resent, after_message, after_token, Sending, broadcasts, numbered, visit, CommitView, Gather, gathered, consensus, on_join, on_timeout, filled_by, unfilled, on_commit, may_fill, may_enter, may_start, Leaving, held_above, new_recovery, next_bodies, on_ring, is_done, last_mark, delivery, deliveries, regular_part, rest_from, between_rings, finish, Node, State, Operational, Gathering, Committing, InRecovery, Recovering, Stepped, Told, sending, on_its_ring, is_sealed, report, commit_view, ◌>>=◌, Outcome, by_ring, by_member, look_at_consensus, commit_begun, gather_begun, taking, to_gather, join_broadcast, send, sends, message_told, visit_told, visit_new, after_visit, finishing_entries, visit_entries}
use Rattle.totem_packets.specs.declared.message.Body.TheVariants.{App, Old, Mark}
use Rattle.totem_packets.specs.declared.commit_member.CommitMember.{CommitMember}
use Rattle.totem_packets.specs.declared.packet.Packet.{Packet}
use Rattle.totem_packets.specs.declared.packet.Packet.TheVariants as packet
use Rattle.totem_packets.specs.OldRings.{processes_of, same_ring, reports_ring, obligation_union}
use Rattle.totem_evs.specs.declared.entry.Entry.TheVariants.{Conf}
use Rattle.totem_ring.specs.declared.fault.RingFault.{RingFault}
use Rattle.totem_member.specs.declared.views.Act.{Act}
use Rattle.totem_member.specs.declared.views.Act.TheVariants.{Filled, Entered, Started}
use Rattle.totem_member.specs.declared.views.CommitOut.{CommitOut}
use Rattle.totem_member.specs.declared.views.Phase.{Phase}
use Rattle.totem_member.specs.declared.views.Phase.TheVariants as phase
use Rattle.totem_member.specs.declared.fault.MemberFault.{MemberFault}
use Rattle.totem_core.specs.declared.input.Input.{Input}
use Rattle.totem_core.specs.declared.input.Input.TheVariants as input
use Rattle.totem_core.specs.Table.{on_message, on_token, is_late, says_nothing_new, join_in_commit, on_join_in, starting, acted, commit_taken, on_commit_in, is_quiet, on_timer, on_packet, taken, step}
use Rattle.totem_core.specs.FirstLives.{AreFirstReports, IsFirstSending, IsFirstInput, IsFirstPacket, IsFirstEntry, IsFirstRecovery, IsFirstState, IsFirstNode, IsFirstStep}

by_test : {C : Type 0} (b : Bool) → (b ≡ true → C) → (b ≡ false → C) → C
by_test b then_so else_so = ⊎_elim then_so else_so (cases_Bool b)

-- ---- what a step comes to, or a part of one

abbrev pub Stays : Outcome Stepped → Type 0
Stays outcome = IfOk outcome IsFirstStep

pub if_holds : {A E : Type 0} (P : A → Type 0) (b : Bool) (v w : Result A E) → IfOk v P → IfOk w P → IfOk (if b then v else w) P
if_holds P true v w then_so else_so = then_so
if_holds P false v w then_so else_so = else_so

pub then_holds : {A B E : Type 0} (P : A → Type 0) (Q : B → Type 0) (v : Result A E) (f : A → Result B E) → IfOk v P → ((x : A) → P x → IfOk (f x) Q) → IfOk (v >>= f) Q
then_holds P Q (Ok x) f is each = each x is
then_holds P Q (Err fault) f is each = tt

abbrev pub Anything : {A : Type 0} → A → Type 0
Anything x = Unit {0}

pub anyway : {A E : Type 0} (v : Result A E) → IfOk v Anything
anyway (Ok x) = tt
anyway (Err fault) = tt

member_stays : {A : Type 0} (P : A → Type 0) (v : Result A MemberFault) (f : A → Outcome Stepped) → IfOk v P → ((x : A) → P x → Stays (f x)) → Stays (by_member v >>= f)
member_stays P (Ok x) f is each = each x is
member_stays P (Err fault) f is each = tt

ring_holds : {A : Type 0} (P : A → Type 0) (o : Option RingFault) (done : Done) (f : Done → A) → P (f done) → IfOk (by_ring (unless_refused o done) >>= (λ d. Ok (f d))) P
ring_holds P None done f is = is
ring_holds P (Some fault) done f is = tt

-- each of these; as records, so that which they are is seen
record AreFirstSendings (sendings : List Sending) : Type 0 where
  each : All IsFirstSending sendings

record AreFirstEntries (entries : List Entry) : Type 0 where
  each : All IsFirstEntry entries

-- what a step on one of the rings comes to
record IsFirstTold (told : Told) : Type 0 where
  packets : AreFirstSendings told.packets
  entries : AreFirstEntries told.entries

its_ring_stays : (told : Outcome Told) (node : Ring → Node) → IfOk told IsFirstTold → ((ring : Ring) → IsFirstNode (node ring)) → Stays (on_its_ring told node)
its_ring_stays (Ok told) node is kept = record { node = kept told.ring; packets = is.packets.each; entries = is.entries.each }
its_ring_stays (Err fault) node is kept = tt

none_sent : AreFirstSendings []
none_sent = record { each = All-nil IsFirstSending }

one_sent : (sending : Sending) → IsFirstSending sending → AreFirstSendings (sending ∷ [])
one_sent sending is = record { each = All-cons IsFirstSending sending [] is (All-nil IsFirstSending) }

none_written : AreFirstEntries []
none_written = record { each = All-nil IsFirstEntry }

sending_first : (n : Node) (packets : List Sending) → IsFirstNode n → AreFirstSendings packets → IsFirstStep (sending n packets)
sending_first n packets is all = record { node = is; packets = all.each; entries = All-nil IsFirstEntry }

-- ---- entries

put_first : (o : Option Entry) (es : List Entry) → IfSome o IsFirstEntry → AreFirstEntries es → AreFirstEntries (cons_option o es)
put_first None es is all = all
put_first (Some e) es is all = record { each = All-cons IsFirstEntry e es is all.each }

each_first : {X : Type 0} (h : X → Option Entry) → ((x : X) → IfSome (h x) IsFirstEntry) → (xs : List X) → AreFirstEntries (filter_map h xs)
each_first h is [] = none_written
each_first h is (x ∷ xs) = put_first (h x) (filter_map h xs) (is x) (each_first h is xs)

nobody : AreFirst []
nobody = All-nil (λ p. life_of p ≡ 1)

delivery_first : (x : ConfId) (m : Message) → IfSome (delivery x m) IsFirstEntry
delivery_first x m = by_body m.body refl
  where
    by_body : (b : Body) → m.body ≡ b → IfSome (delivery x m) IsFirstEntry
    by_body (App service payload) is = rw is nobody
    by_body (Old ring number sender service payload) is = rw is tt
    by_body Mark is = rw is tt

delivered_first : (x : ConfId) (ms : List Message) → AreFirstEntries (deliveries x ms)
delivered_first x ms = each_first (delivery x) (delivery_first x) ms

send_first : (x : ConfId) (ring : RingName) (number : ℕ) (b : Body) → IfSome (send_of x ring number b) IsFirstEntry
send_first x ring number (App service payload) = nobody
send_first x ring number (Old old n sender service payload) = tt
send_first x ring number Mark = tt

sent_first : (x : ConfId) (ms : List Message) → AreFirstEntries (sends x ms)
sent_first x ms = each_first (send x) (λ m. send_first x m.ring m.number m.body) ms

both_first : (es fs : List Entry) → AreFirstEntries es → AreFirstEntries fs → AreFirstEntries (es ++ fs)
both_first es fs first second = record { each = All-append IsFirstEntry es fs first.each second.each }

change_first : (x : ConfId) (members : List ℕ) (es : List Entry) → AreFirst members → AreFirstEntries es → AreFirstEntries (Conf x members ∷ es)
change_first x members es is all = record { each = All-cons IsFirstEntry (Conf x members) es is all.each }

finish_first : (r : Leaving) (old : Ring) → IsFirstRecovery r → AreFirstEntries (finish r old)
finish_first r old is =
    let regular = regular_part r.high old in
    let last = old.handed + length regular in
    both_first _ _
    (both_first _ _
    (both_first _ _ (delivered_first (Regular old.ring) regular) (change_first (between_rings r) r.transitional [] is.transitional none_written))
    (delivered_first (between_rings r) (rest_from r.obliged last (held_above last old.held))))
    (change_first (Regular r.ring) r.members [] is.members none_written)

finishing_first : (r : Leaving) (old ring : Ring) (handed : List Message) → IsFirstRecovery r → AreFirstEntries (finishing_entries r old ring handed)
finishing_first r old ring handed is =
    let last = unwrap_or (last_mark r ring) 0 in
    both_first _ _
    (both_first _ (finish r old) (delivered_first (Regular ring.ring) (filter (λ m. nat_le m.number last) handed)) (finish_first r old is))
    (delivered_first (Regular ring.ring) (filter (λ m. nat_lt last m.number) handed))

visit_entries_first : (r : Leaving) (old ring : Ring) (handed : List Message) → IsFirstRecovery r → AreFirstEntries (visit_entries r old ring handed)
visit_entries_first r old ring handed is = by_test (is_done r ring)
    (λ done. rw done (finishing_first r old ring handed is))
    (λ more. rw more (delivered_first (Regular ring.ring) handed))

-- ---- packets

broadcasts_first : (ms : List Message) → AreFirstSendings (broadcasts ms)
broadcasts_first [] = none_sent
broadcasts_first (m ∷ ms) = record { each = All-cons IsFirstSending _ (broadcasts ms) tt (broadcasts_first ms).each }

both_sent : (xs ys : List Sending) → AreFirstSendings xs → AreFirstSendings ys → AreFirstSendings (xs ++ ys)
both_sent xs ys first second = record { each = All-append IsFirstSending xs ys first.each second.each }

visit_first : (s : Ring) (t : Token) → AreFirstSendings (visit s t).packets
visit_first s t = both_sent _ _ (both_sent _ _ (broadcasts_first _) (broadcasts_first _)) (one_sent _ tt)

resent_first : (s : Ring) (kept : Option Token) → AreFirstSendings (resent s kept)
resent_first s None = none_sent
resent_first s (Some t) = one_sent _ tt

-- ---- commit tokens

filled_first : (p : ℕ) (r : Report) (m : CommitMember) → r.life ≡ 1 → reported_life m.report ≡ 1 → reported_life (filled_by p r m).report ≡ 1
filled_first p r m life reported = by_test (m.proc == p) (λ mine. rw mine life) (λ other. rw other reported)

all_filled : (p : ℕ) (r : Report) (members : List CommitMember) → r.life ≡ 1 → AreFirstReports members → AreFirstReports (map (filled_by p r) members)
all_filled p r members life all =
    All-map (λ (m : CommitMember). reported_life m.report ≡ 1) (filled_by p r) members
    (All-weaker (λ (m : CommitMember). reported_life m.report ≡ 1) (λ (m : CommitMember). reported_life (filled_by p r m).report ≡ 1) (λ m. filled_first p r m life) members all)

none_filled : (procs : List ℕ) → AreFirstReports (map unfilled procs)
none_filled [] = All-nil (λ (m : CommitMember). reported_life m.report ≡ 1)
none_filled (p ∷ procs) = All-cons (λ (m : CommitMember). reported_life m.report ≡ 1) (unfilled p) (map unfilled procs) refl (none_filled procs)

abbrev pub IsFirstCommit : CommitOut → Type 0
IsFirstCommit out = AreFirstReports out.token.members

commit_first : (t : CommitToken) (v : CommitView) (r : Report) → r.life ≡ 1 → AreFirstReports t.members → IfOk (on_commit t v r) IsFirstCommit
commit_first t v r life all =
    if_holds IsFirstCommit (not (same_processes (processes_of t.members) v.members)) _ _ tt
    (if_holds IsFirstCommit (may_fill t v) _ _ (all_filled v.me r t.members life all)
    (if_holds IsFirstCommit (may_enter t v r) _ _
    (if_holds IsFirstCommit (nat_lt 32 (length (obligation_union r.ring t.members))) _ _ tt all)
    (if_holds IsFirstCommit (may_start t v) _ _ all tt)))

rank_first : (m : CommitMember) → reported_life m.report ≡ 1 → life_of (member_rank m) ≡ 1
rank_first m is = rw is (omega arith)

ranks_first : (members : List CommitMember) → AreFirstReports members → AreFirst (member_ranks members)
ranks_first members all =
    All-map (λ p. life_of p ≡ 1) member_rank members
    (All-weaker (λ (m : CommitMember). reported_life m.report ≡ 1) (λ (m : CommitMember). life_of (member_rank m) ≡ 1) rank_first members all)

recovery_first : (me : ℕ) (old : Ring) (t : CommitToken) → AreFirstReports t.members → IsFirstRecovery (new_recovery me old t)
recovery_first me old t all = record {
  members = ranks_first t.members all;
  transitional = ranks_first _ (All-filter (λ (m : CommitMember). reports_ring old.ring m.report) (λ (m : CommitMember). reported_life m.report ≡ 1) t.members all);
}

-- ---- to gather

begun : (n : Node) (g : Gather) (packets : List Sending) → n.life ≡ 1 → AreFirstSendings packets → Stays (commit_begun n g packets)
begun n g packets life all = by_test (nat_le (2 ^ 32) (max n.seq g.seq + 4))
    (λ none. rw none tt)
    (λ some. rw some (sending_first _ _ (record { life = life; state = tt })
    (both_sent packets _ all (one_sent _ (all_filled n.me (report n) (map unfilled (gathered g)) life (none_filled (gathered g)))))))

looked : (n : Node) (g : Gather) (members : Option (List ℕ)) (packets : List Sending) → n.life ≡ 1 → AreFirstSendings packets → Stays (look_at_consensus n g members packets)
looked n g None packets life all = sending_first _ packets (record { life = life; state = tt }) all
looked n g (Some members) packets life all =
    if_holds IsFirstStep (is_least (gathered g) n.me) _ _ (begun n g packets life all) (sending_first _ packets (record { life = life; state = tt }) all)

gathers : (n : Node) (extra : List ℕ) (cause : Option Join) → n.life ≡ 1 → Stays (to_gather n extra cause)
gathers n extra cause life =
    then_holds Anything IsFirstStep (gather_begun n extra) _ (anyway (gather_begun n extra))
    (λ new any. then_holds Anything IsFirstStep (taking new cause) _ (anyway (taking new cause))
    (λ g also. looked (record n { quiet = 0 }) g (consensus g) (join_broadcast g ∷ []) life (one_sent (join_broadcast g) tt)))

-- ---- on a ring

message_first : (ring : Ring) (m : Message) → IfOk (message_told ring m) IsFirstTold
message_first ring m =
    ring_holds IsFirstTold (message_refusal ring m) _ _
    (record { packets = none_sent; entries = delivered_first (Regular ring.ring) (after_message ring m).handed })

visit_told_first : (ring : Ring) (bodies : List Body) (t : Token) → IfOk (visit_told ring bodies t) IsFirstTold
visit_told_first ring bodies t =
    let waiting = given ring bodies in
    ring_holds IsFirstTold (token_refusal waiting t) _ _ (record {
      packets = visit_first waiting t;
      entries =
          both_first _ _ (sent_first (Regular ring.ring) (numbered waiting t.seq waiting.waiting))
          (delivered_first (Regular ring.ring) (after_token waiting t).handed);
    })

after_first : (n : Node) (x : Recovering) (done : Done) (r : Leaving) → n.life ≡ 1 → IsFirstRecovery r → IsFirstNode (after_visit n x done r)
after_first n x done r life is = by_test (is_done r done.state)
    (λ all. rw all (record { life = life; state = tt }))
    (λ more. rw more (record { life = life; state = is }))

visits_new : (n : Node) (x : Recovering) (t : Token) → n.life ≡ 1 → IsFirstRecovery x.recovery → Stays (visit_new n x t)
visits_new n x t life is =
    let ring = given x.ring (next_bodies x.recovery) in
    let done = after_token ring t in
    ring_holds IsFirstStep (token_refusal ring t) done _ (record {
      node = after_first (record n { quiet = 0 }) x done (on_ring x.recovery done.state done.packets) life (record { members = is.members; transitional = is.transitional });
      packets = (visit_first ring t).each;
      entries = (visit_entries_first x.recovery n.installed done.state done.handed is).each;
    })

-- ---- the cells of the table

message_stays : (n : Node) (m : Message) (s : State) → n.life ≡ 1 → IsFirstState n.state → IsFirstState s → Stays (on_message n m s)
message_stays n m Operational life kept is =
    if_holds IsFirstStep (same_ring m.ring n.installed.ring) _ _
    (its_ring_stays _ _ (message_first n.installed m) (λ ring. record { life = life; state = kept }))
    (if_holds IsFirstStep (has n.installed.members m.sender) _ _ tt (gathers n (m.sender ∷ []) None life))
message_stays n m (Gathering g) life kept is =
    if_holds IsFirstStep (same_ring m.ring n.installed.ring && not (is_sealed n)) _ _
    (its_ring_stays _ _ (message_first n.installed m) (λ ring. record { life = life; state = kept }))
    tt
message_stays n m (Committing g) life kept is = tt
message_stays n m (InRecovery x) life kept is =
    if_holds IsFirstStep (same_ring m.ring n.installed.ring) _ _ tt
    (if_holds IsFirstStep (same_ring m.ring x.ring.ring) _ _
    (its_ring_stays _ _ (message_first x.ring m) (λ ring. record { life = life; state = is }))
    tt)

token_stays : (n : Node) (t : Token) (s : State) → n.life ≡ 1 → IsFirstState n.state → IsFirstState s → Stays (on_token n t s)
token_stays n t Operational life kept is = its_ring_stays _ _ (visit_told_first n.installed n.waiting t) (λ ring. record { life = life; state = kept })
token_stays n t (Gathering g) life kept is = tt
token_stays n t (Committing g) life kept is = tt
token_stays n t (InRecovery x) life kept is = visits_new n x t life is

anew : (n : Node) (g : Gather) (j : Join) → n.life ≡ 1 → Stays (join_in_commit n g j)
anew n g j life = if_holds IsFirstStep (says_nothing_new g j) _ _ tt (gathers n [] (Some j) life)

again_first : (again : Bool) (g : Gather) → AreFirstSendings (if again then join_broadcast g ∷ [] else [])
again_first true g = one_sent (join_broadcast g) tt
again_first false g = none_sent

join_stays : (n : Node) (j : Join) (s : State) → n.life ≡ 1 → Stays (on_join_in n j s)
join_stays n j Operational life = gathers n [] (Some j) life
join_stays n j (Gathering g) life =
    member_stays Anything (on_join g j) _ (anyway (on_join g j))
    (λ done is. looked n done.gather done.out.members _ life (again_first done.out.again done.gather))
join_stays n j (Committing g) life = anew n g j life
join_stays n j (InRecovery x) life = anew n x.gather j life

starts : (n : Node) (s : State) → n.life ≡ 1 → IsFirstState s → Stays (starting n s)
starts n Operational life is = tt
starts n (Gathering g) life is = tt
starts n (Committing g) life is = tt
starts n (InRecovery x) life is = visits_new n (record x { started = true }) (first_token x.ring.ring) life is

acts : (n : Node) (g : Gather) (t : CommitToken) (act : Act) → IsFirstNode n → AreFirstReports t.members → Stays (acted n g t act)
acts n g t Filled is all = sending_first _ _ (record { life = is.life; state = tt }) (one_sent _ all)
acts n g t Entered is all = sending_first _ _ (record { life = is.life; state = recovery_first n.me n.installed t all }) (one_sent _ all)
acts n g t Started is all = starts n n.state is.life is.state

takes_commit : (n : Node) (g : Gather) (ph : Phase) (started : Bool) (t : CommitToken) → IsFirstNode n → AreFirstReports t.members → Stays (commit_taken n g ph started t)
takes_commit n g ph started t is all =
    let v = commit_view n ph g started in
    member_stays IsFirstCommit (on_commit t v (report n)) _ (commit_first t v (report n) is.life all)
    (λ out first. acts n g out.token out.act is first)

commit_stays : (n : Node) (t : CommitToken) (s : State) → IsFirstNode n → AreFirstReports t.members → Stays (on_commit_in n t s)
commit_stays n t Operational is all = tt
commit_stays n t (Gathering g) is all = takes_commit n g phase.Gather false t is all
commit_stays n t (Committing g) is all = takes_commit n g phase.Commit false t is all
commit_stays n t (InRecovery x) is all = takes_commit n x.gather phase.Recovery x.started t is all

timer_stays : (n : Node) (s : State) → IsFirstNode n → Stays (on_timer n s)
timer_stays n Operational is =
    if_holds IsFirstStep (is_quiet n) _ _ (gathers n [] None is.life)
    (record { node = record { life = is.life; state = is.state }; packets = (resent_first n.installed n.installed.kept).each; entries = All-nil IsFirstEntry })
timer_stays n (Gathering g) is =
    let done = on_timeout g in
    if_holds IsFirstStep (nat_le 2 (n.quiet + 1)) _ _
    (looked (record n { quiet = 0 }) done.gather done.out.members (join_broadcast done.gather ∷ []) is.life (one_sent (join_broadcast done.gather) tt))
    (sending_first _ _ (record { life = is.life; state = is.state }) (one_sent (join_broadcast g) tt))
timer_stays n (Committing g) is =
    if_holds IsFirstStep (is_quiet n) _ _ (gathers n [] None is.life)
    (sending_first _ _ (record { life = is.life; state = is.state }) none_sent)
timer_stays n (InRecovery x) is =
    if_holds IsFirstStep (is_quiet n) _ _ (gathers n [] None is.life)
    (record { node = record { life = is.life; state = is.state }; packets = (resent_first x.ring x.ring.kept).each; entries = All-nil IsFirstEntry })

-- ---- the step

packet_stays : (n : Node) (p : Packet) → IsFirstNode n → IsFirstPacket p → Stays (on_packet n p)
packet_stays n (packet.Message m) is first = message_stays n m n.state is.life is.state is.state
packet_stays n (packet.Token t) is first = token_stays n t n.state is.life is.state is.state
packet_stays n (packet.Join j) is first = if_holds IsFirstStep (is_late n j) _ _ tt (join_stays n j n.state is.life)
packet_stays n (packet.Commit t) is first = commit_stays n t n.state is first

input_stays : (n : Node) (i : Input) → IsFirstNode n → IsFirstInput i → Stays (taken n i)
input_stays n (input.Submit service payload) is first =
    if_holds IsFirstStep (nat_lt 1024 (length payload)) _ _ tt
    (if_holds IsFirstStep (nat_le 16 (length n.waiting)) _ _ tt
    (sending_first _ _ (record { life = is.life; state = is.state }) none_sent))
input_stays n (input.Packet p) is first = packet_stays n p is first
input_stays n input.Timer is first = timer_stays n n.state is
input_stays n input.Crash is first = record {
  node = record { life = is.life; state = is.state };
  packets = All-nil IsFirstSending;
  entries = All-cons IsFirstEntry _ [] nobody (All-nil IsFirstEntry);
}

pub step_stays : (n : Node) (i : Input) → IsFirstNode n → IsFirstInput i → IfOk (step n i) IsFirstStep
step_stays n i is first = if_holds IsFirstStep n.crashed _ _ tt (input_stays n i is first)
