-- At consensus the commit token decides the step.
use Rattle.totem_core.proofs.Common.{◌≡◌, ℕ, Bool, true, false, List, [], ◌∷◌, max, Option, None, Some, Result, Ok, Err, refl, sym, ap, ◌∙◌, subst, ⊎_elim, if◌then◌else◌, list_all, cases_Bool, CommitToken, Join, is_least, Sending, Gather, gathered, agrees, consensus, is_stranger, after_join, first_commit, Node, Gathering, Stepped, sending, report, ◌>>=◌, Outcome, by_member, Fails, join_broadcast, committing, makes_commit, look_at_consensus, gathering_anew}
use Rattle.totem_member.specs.declared.fault.MemberFault.{MemberFault}
use Rattle.totem_core.specs.declared.fault.NodeFault.{NodeFault}
use Rattle.totem_core.specs.Transitions.{view_at, token_at}

-- the node after it looked at consensus, with the commit token that it made
abbrev pub with_token : Node → Gather → Option (List ℕ) → List Sending → Option CommitToken → Stepped
with_token n g None packets token = sending (record n { state = Gathering g }) packets
with_token n g (Some members) packets None = sending (committing n g) packets
with_token n g (Some members) packets (Some token) = makes_commit (committing n g) packets token

abbrev told : Node → Gather → Option (List ℕ) → List Sending → Outcome (Option CommitToken) → Outcome Stepped
told n g members packets made = made >>= (λ token. Ok (with_token n g members packets token))

made_first : (n : Node) (g : Gather) (members : List ℕ) (packets : List Sending) (w : Result CommitToken MemberFault)
    → (by_member w >>= (λ token. Ok (makes_commit (committing n g) packets token))) ≡ told n g (Some members) packets (by_member w >>= (λ token. Ok (Some token)))
made_first n g members packets (Ok token) = refl
made_first n g members packets (Err fault) = refl

looks : (n : Node) (quiet : ℕ) (g : Gather) (packets : List Sending) (all : Bool)
    → look_at_consensus (record n { quiet = quiet }) g (if all then Some (gathered g) else None) packets
    ≡ told (record n { quiet = quiet }) g (if all then Some (gathered g) else None) packets (token_at n (if all then Some (gathered g) else None) g.seq)
looks n quiet g packets false = refl
looks n quiet g packets true = ⊎_elim
    (λ (least : is_least (gathered g) n.me ≡ true). rw least (made_first (record n { quiet = quiet }) g (gathered g) packets (first_commit (view_at n (gathered g) g.seq) (report n))))
    (λ (other : is_least (gathered g) n.me ≡ false). rw other refl)
    (cases_Bool (is_least (gathered g) n.me))

-- the token that it made decides the step
pub agreed : (n : Node) (quiet : ℕ) (g : Gather) (packets : List Sending) (token : Option CommitToken) → token_at n (consensus g) g.seq ≡ Ok token
    → look_at_consensus (record n { quiet = quiet }) g (consensus g) packets ≡ Ok (with_token (record n { quiet = quiet }) g (consensus g) packets token)
agreed n quiet g packets token is =
    looks n quiet g packets (list_all (agrees g) (gathered g)) ∙ ap (told (record n { quiet = quiet }) g (consensus g) packets) is

made_or_not : {A B : Type 0} (fault : NodeFault) (made : Outcome A) (f : A → B) → Fails fault made → Fails fault (made >>= (λ x. Ok (f x)))
made_or_not fault (Ok x) f fails = record { fault_is = λ other. absurd (not_ok (fails.fault_is other)); wanting = λ e. refl }
  where
    not_ok : Ok x ≡ Err fault → ⊥
    not_ok e = cc
made_or_not fault (Err written) f fails = record { fault_is = λ other. ap (λ w. w >>= (λ x. Ok (f x))) (fails.fault_is other); wanting = fails.wanting }

-- and its refusal is that of the step
pub refuses : (n : Node) (quiet : ℕ) (g : Gather) (packets : List Sending) (fault : NodeFault) → Fails fault (token_at n (consensus g) g.seq)
    → Fails fault (look_at_consensus (record n { quiet = quiet }) g (consensus g) packets)
refuses n quiet g packets fault fails =
    subst (λ w. Fails fault w) (sym (looks n quiet g packets (list_all (agrees g) (gathered g))))
    (made_or_not fault (token_at n (consensus g) g.seq) (with_token (record n { quiet = quiet }) g (consensus g) packets) fails)

-- the same for a new gathering that takes a Join
pub refuses_anew : (n : Node) (new : Gather) (j : Join) (fault : NodeFault) → is_stranger new j ≡ false → Fails fault (token_at n (consensus (after_join new j)) (max new.seq j.seq))
    → Fails fault (gathering_anew n new (Some j))
refuses_anew n new j fault known fails = rw known (refuses n 0 (after_join new j) (join_broadcast (after_join new j) ∷ []) fault fails)
