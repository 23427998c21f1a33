-- A token or a join that is read is spelled so, and what is spelled so is read again.
use Rattle.totem_packets.proofs.Common.{◌≡◌, ℕ, ◌^◌, List, ◌++◌, Ok, append_assoc, append-nil, arith, w32, w64, IsToken, IsJoin}
use Rattle.totem_packets.specs.declared.join.Join.{Join}
use Rattle.totem_packets.specs.declared.token.Token as token
use Rattle.totem_packets.specs.Grammar.{token_at, join_at}
use Rattle.totem_packets.specs.Spelling.{token_bytes, join_bytes}
use Rattle.totem_packets.proofs.Taken.{IsTaking, Spells, gives_taking, bind_taking, wide32, wide64, number_taking, number_again, number32_taking, number32_again, process_taking, process_again, positive_taking, above_again, ring_taking, ring_again, maybe_taking, maybe_again}
use Rattle.totem_packets.proofs.TakenLists.{requests_taking, requests_again, processes_taking, processes_again}

pub token_taking : IsTaking (Spells token_bytes IsToken) token_at
unfolding token_at token_bytes
token_taking =
    bind_taking _ _ ring_taking (λ ring f1.
    bind_taking _ _ (positive_taking w64 (2 ^ 64) 18446744073709551615 wide64 (omega arith)) (λ token_seq f2.
    bind_taking _ _ (number_taking w32 (2 ^ 32) wide32) (λ seq f3.
    bind_taking _ _ (number_taking w32 (2 ^ 32) wide32) (λ aru f4.
    bind_taking _ _ maybe_taking (λ aru_id f5.
    bind_taking _ _ requests_taking (λ rtr f6.
    gives_taking _ (simp (append_assoc, append-nil), record { ring = f1; token_seq = f2; seq = f3; aru = f4; aru_id = f5; rtr = f6 })))))))

pub token_again : (t : token.Token) (rest : List ℕ) → IsToken t → token_at (token_bytes t ++ rest) ≡ Ok (t, rest)
unfolding token_at token_bytes
token_again t rest fits = grind (arith, append_assoc, ring_again, above_again, wide64, number_again, wide32, maybe_again, requests_again)

pub join_taking : IsTaking (Spells join_bytes IsJoin) join_at
unfolding join_at join_bytes
join_taking =
    bind_taking _ _ process_taking (λ sender f1.
    bind_taking _ _ number32_taking (λ seq f2.
    bind_taking _ _ processes_taking (λ processes f3.
    bind_taking _ _ processes_taking (λ failed f4.
    gives_taking _ (simp (append_assoc, append-nil), record { sender = f1; seq = f2; processes = f3; failed = f4 })))))

pub join_again : (j : Join) (rest : List ℕ) → IsJoin j → join_at (join_bytes j ++ rest) ≡ Ok (j, rest)
unfolding join_at join_bytes
join_again j rest fits = grind (arith, append_assoc, process_again, number32_again, processes_again)
