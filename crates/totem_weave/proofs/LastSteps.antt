-- From the time when a node is sealed, as it is in Recovery, its life has no step on the ring that is installed then.
use Rattle.totem_weave.proofs.Common.{◌≡◌, ◌≢◌, ℕ, ◌+◌, ◌≤◌, List, [], ◌∷◌, ◌++◌, length, drop, Option, None, Some, IfOk, Ok, Err, refl, sym, ap, ◌∙◌, subst, append_assoc, true, is_some, length-append, arith, All, fold, map, true≢false, fold-append, All-nil, All-push, All-same, All-weaker, RingName, State, Node, Stepped, is_sealed, Outcome, Called}
use Rattle.std.proofs.lemmas.List.{append-nil, map-append, length-map}
use Rattle.std.proofs.Math.Seq.{drop-append_seam}
use Rattle.totem_core.specs.declared.input.Input.{Input}
use Rattle.totem_core.specs.Table.{step}
use Rattle.totem_core.specs.Replay.{Answer, Life, born, lived, one_input, replay}
use Rattle.totem_books.specs.Replay.{replies_of}
use Rattle.totem_weave.specs.Adopting.{TellsNoStepOn, replies_after, OnlyAdoptsLast, BooksAdoptLast}
use Rattle.totem_weave.proofs.Standing.{Suits, NodeStands, Goes, least_from}
use Rattle.totem_weave.proofs.Going.{step_goes}

-- the reply reports no step on a ring below this number
abbrev pub TellsAbove : ℕ → Outcome Answer → Type 0
TellsAbove least reply = IfOk reply (λ answer. All (λ step. least ≤ step.ring.seq) answer.ring_steps)

-- after these replies a life reports no step on a ring below the number
record Lives (least : ℕ) (before : List (Outcome Answer)) (life : Life) : Type 0 where
  stands : NodeStands least life.node
  later : List (Outcome Answer)
  replies : life.replies ≡ before ++ later
  above : All (TellsAbove least) later

module _ (least : ℕ) (before : List (Outcome Answer)) where
  adds : (later replies : List (Outcome Answer)) (reply : Outcome Answer) → replies ≡ before ++ later → replies ++ reply ∷ [] ≡ before ++ (later ++ reply ∷ [])
  adds later replies reply is = ap (λ all. all ++ reply ∷ []) is ∙ append_assoc before later (reply ∷ [])

  lives_on : (life : Life) (o : Outcome Stepped) → IfOk o (Goes least) → Lives least before life → Lives least before (lived life o)
  lives_on life (Ok s) goes lives = record {
    stands = goes.stands;
    later = _;
    replies = adds lives.later life.replies _ lives.replies;
    above = All-push (TellsAbove least) lives.later _ lives.above goes.steps;
  }
  lives_on life (Err fault) goes lives = record {
    stands = lives.stands;
    later = _;
    replies = adds lives.later life.replies (Err fault) lives.replies;
    above = All-push (TellsAbove least) lives.later (Err fault) lives.above tt;
  }

  lives_all : (inputs : List Input) (life : Life) → Lives least before life → Lives least before (fold one_input life inputs)
  lives_all [] life lives = lives
  lives_all (i ∷ more) life lives = lives_all more (one_input life i) (lives_on life (step life.node i) (step_goes least life.node i lives.stands) lives)

begun : (least : ℕ) (life : Life) → NodeStands least life.node → Lives least life.replies life
begun least life s = record { stands = s; later = []; replies = sym (append-nil life.replies); above = All-nil (TellsAbove least) }

one_reply : (life : Life) (o : Outcome Stepped) → length (lived life o).replies ≡ length life.replies + 1
one_reply life (Ok s) = length-append life.replies _
one_reply life (Err fault) = length-append life.replies (Err fault ∷ [])

-- a reply to each input
one_each : (inputs : List Input) (life : Life) → length (fold one_input life inputs).replies ≡ length life.replies + length inputs
one_each [] life = omega arith
one_each (i ∷ more) life = omega (arith, one_each more (one_input life i), one_reply life (step life.node i))

above_sealed : (filled : Option RingName) (installed : ℕ) → is_some filled ≡ true → installed + 1 ≤ least_from filled installed
above_sealed None installed is = absurd (true≢false (sym is))
above_sealed (Some ring) installed is = omega arith

not_same : (a b : RingName) → b.seq + 1 ≤ a.seq → a ≢ b
not_same a b low same = let seqs : a.seq ≡ b.seq = ap (λ (r : RingName). r.seq) same in omega arith

none_on : (ring : RingName) (reply : Outcome Answer) → TellsAbove (ring.seq + 1) reply → TellsNoStepOn ring reply
none_on ring (Ok answer) above = All-weaker _ _ (λ step up. not_same step.ring ring up) answer.ring_steps above
none_on ring (Err fault) above = tt

module _ (me : ℕ) (ring : RingName) (members : List ℕ) (before : List Input) where
  -- the life up to here
  abbrev so_far : Life
  so_far = replay me ring members before

  has_lived : Lives 0 [] so_far
  has_lived = lives_all 0 [] before (born me ring members) (record {
    stands = record { above = omega arith; suits = refl; none_below = omega arith };
    later = [];
    replies = refl;
    above = All-nil (TellsAbove 0);
  })

  -- what follows n inputs corresponds to what follows n replies
  behind : (inputs : List Input) (later : List (Outcome Answer)) → (fold one_input so_far inputs).replies ≡ so_far.replies ++ later
      → replies_after me ring members before inputs ≡ later
  behind inputs later is =
      let many : length before ≡ length so_far.replies = omega (arith, one_each before (born me ring members)) in
      ap (λ (life : Life). drop (length before) life.replies) (fold-append one_input (born me ring members) before inputs)
      ∙ ap (drop (length before)) is ∙ ap (λ (k : ℕ). drop k (so_far.replies ++ later)) many ∙ drop-append_seam so_far.replies later

  -- a node that is sealed takes no step on its installed ring, whatever the inputs are
  pub none_once_sealed : is_sealed so_far.node ≡ true → (inputs : List Input)
      → All (TellsNoStepOn so_far.node.installed.ring) (replies_after me ring members before inputs)
  none_once_sealed is inputs =
      let old : RingName = so_far.node.installed.ring in
      let stands : NodeStands (old.seq + 1) so_far.node =
      record { above = has_lived.stands.above; suits = has_lived.stands.suits; none_below = above_sealed so_far.node.filled old.seq is } in
      let lives = lives_all (old.seq + 1) so_far.replies inputs so_far (begun (old.seq + 1) so_far stands) in
      All-same (TellsNoStepOn old) _ lives.later (behind inputs lives.later lives.replies)
      (All-weaker (TellsAbove (old.seq + 1)) (TellsNoStepOn old) (none_on old) lives.later lives.above)

pub adopts_last : OnlyAdoptsLast
adopts_last me ring members before more i adopted adopts =
    let n : Node = (replay me ring members before).node in
    let is : n.filled ≡ Some adopts.recovering.ring.ring =
    subst (λ (state : State). Suits state n.filled) adopts.recovers (has_lived me ring members before).stands.suits in
    rw adopts.of_installed (none_once_sealed me ring members before (ap is_some is) (i ∷ more))

pub books_adopt : BooksAdoptLast
books_adopt start before more call log adopted recorded adopts =
    let input : Called → Input = λ (c : Called). c.input in
    let life : List Input → List (Outcome Answer) = λ (inputs : List Input). (replay start.me start.ring start.members inputs).replies in
    let stored : replies_of before ++ replies_of (call ∷ more) ≡ life (map input before ++ map input (call ∷ more)) =
    sym (map-append (λ (c : Called). c.reply) before (call ∷ more)) ∙ recorded.replies_are ∙ ap life (map-append input before (call ∷ more)) in
    let many : length (map input before) ≡ length (replies_of before) =
    omega (arith, length-map before input, length-map before (λ (c : Called). c.reply)) in
    let later : replies_of (call ∷ more) ≡ replies_after start.me start.ring start.members (map input before) (map input (call ∷ more)) =
    sym (drop-append_seam (replies_of before) (replies_of (call ∷ more))) ∙ ap (drop (length (replies_of before))) stored
    ∙ ap (λ (k : ℕ). drop k (life (map input before ++ map input (call ∷ more)))) (sym many) in
    All-same (TellsNoStepOn adopted.ring) _ _ later
    (adopts_last start.me start.ring start.members (map input before) (map input more) call.input adopted adopts)
