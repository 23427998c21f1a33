-- One call more is one input more in the replay.
use Rattle.totem_books.proofs.Common.{◌≡◌, ℕ, List, [], ◌∷◌, ◌++◌, Ok, Err, refl, sym, ap, subst, ◌∙◌, append-nil, Option, None, Some, IfSome, map, fold, map-append, fold-append, Entry, Node, Stepped, Outcome, Called, Receipt, called}
use Rattle.totem_core.specs.declared.input.Input.{Input}
use Rattle.totem_core.specs.Table.{step}
use Rattle.totem_core.specs.Replay.{Answer, Life, born, lived, one_input}
use Rattle.totem_books.specs.Replies.{entries_of}
use Rattle.totem_books.specs.Replay.{Start, replay, answer_to, node_behind, IsReplay}
use Rattle.totem_books.specs.Taking.{IsTaken, IsAdded}

pub replay_one_more : (start : Start) (calls : List Called) (call : Called) → replay start (calls ++ call ∷ []) ≡ one_input (replay start calls) call.input
replay_one_more start calls call =
    let life = born start.me start.ring start.members in
    let input : Called → Input = λ (c : Called). c.input in
    ap (fold one_input life) (map-append input calls (call ∷ [])) ∙ fold-append one_input life (map input calls) (call.input ∷ [])

-- what a step makes of a life
lived-node : (life : Life) (s : Outcome Stepped) → (lived life s).node ≡ node_behind life.node s
lived-node life (Ok s) = refl
lived-node life (Err fault) = refl

lived-entries : (life : Life) (s : Outcome Stepped) → (lived life s).entries ≡ life.entries ++ entries_of (answer_to s)
lived-entries life (Ok s) = refl
lived-entries life (Err fault) = sym (append-nil life.entries)

lived-replies : (life : Life) (s : Outcome Stepped) → (lived life s).replies ≡ life.replies ++ answer_to s ∷ []
lived-replies life (Ok s) = refl
lived-replies life (Err fault) = refl

-- a call that is answered as the node answers it
pub one_call_more : (start : Start) (calls : List Called) (node after : Node) (log more : List Entry) (i : Input) (reply : Outcome Answer) → IsReplay start calls node log
    → after ≡ node_behind node (step node i) → reply ≡ answer_to (step node i) → more ≡ entries_of reply → IsReplay start (calls ++ called i reply ∷ []) after (log ++ more)
one_call_more start calls node after log more i reply is node_is reply_is more_is =
    let life : Life = replay start calls in
    let one : replay start (calls ++ called i reply ∷ []) ≡ lived life (step life.node i) = replay_one_more start calls (called i reply) in
    let answered : answer_to (step life.node i) ≡ reply = sym (reply_is ∙ ap (λ (n : Node). answer_to (step n i)) is.node_is) in
    record {
      node_is = (node_is ∙ ap (λ (n : Node). node_behind n (step n i)) is.node_is) ∙ sym (ap (λ (l : Life). l.node) one ∙ lived-node life (step life.node i));
      log_is =
          (ap (λ (es : List Entry). es ++ more) is.log_is ∙ ap (λ (es : List Entry). life.entries ++ es) (more_is ∙ ap entries_of (sym answered)))
          ∙ sym (ap (λ (l : Life). l.entries) one ∙ lived-entries life (step life.node i));
      replies_are =
          (map-append (λ (c : Called). c.reply) calls (called i reply ∷ [])
          ∙ (ap (λ (rs : List (Outcome Answer)). rs ++ reply ∷ []) is.replies_are ∙ ap (λ (r : Outcome Answer). life.replies ++ r ∷ []) (sym answered)))
          ∙ sym (ap (λ (l : Life). l.replies) one ∙ lived-replies life (step life.node i));
    }

-- what was taken is stored
pub goes_on : (start : Start) (calls more : List Called) (node behind after : Node) (log written : List Entry) (i : Input) (place : ℕ) (stub : Receipt) (reply : Outcome Answer) → IsReplay start calls node log
    → IsTaken node i place behind stub reply → IsAdded calls more log written stub → after ≡ behind → IsReplay start more after written
goes_on start calls more node behind after log written i place stub reply is t added after_is =
    let next : IsReplay start (calls ++ called i reply ∷ []) after (log ++ entries_of reply) = one_call_more start calls node after log (entries_of reply) i reply is (after_is ∙ t.node) t.answer refl in
    let all : more ≡ calls ++ called i reply ∷ [] = added.call ∙ ap (λ (s : Receipt). calls ++ called s.input s.reply ∷ []) t.told in
    let log_is : written ≡ log ++ entries_of reply = added.entries ∙ ap (λ (s : Receipt). log ++ entries_of s.reply) t.told in
    subst (λ (cs : List Called). IsReplay start cs after written) (sym all) (subst (λ (es : List Entry). IsReplay start (calls ++ called i reply ∷ []) after es) (sym log_is) next)

-- the node that fell behind catches up with its copy
pub comes_level : (before after : Node) (i : Input) (level : Option Node) → IfSome level (λ n. n ≡ node_behind before (step before i)) → after ≡ node_behind before (step before i) → IfSome level (λ n. n ≡ after)
comes_level before after i None has moved = tt
comes_level before after i (Some n) has moved = has ∙ sym moved
