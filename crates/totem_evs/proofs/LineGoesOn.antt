-- Where a line of a log is too short, some line continues it.
use Rattle.totem_evs.proofs.Common.{decimal, nat_le, ◌==◌, codes, not, ◌&&◌, ◌≡◌, ℕ, zero, suc, inl, inr, List, [], ◌∷◌, ◌++◌, Ok, Err, Bool, true, false, cond, refl, sym, ◌∙◌, ap, append_assoc, arith, rules, Version, rank_of, id_of, life_of, process_then_is, eqb-true, append-nil, ConfId, Regular, Agreed, MessageName, ◌>>=◌, conf_text, message_text, service_text, IsUpTo, IsConf, IsMessage, service_is, byte_is, word_is, number_to_is, conf_is, line, members_text, writes_quiet, IsLooseMembers, IsLooseEntry}
use Rattle.totem_names.specs.Processes.{writes_lives, process_text, first_life_then, life_then, process_then, IsProcessIn}
use Rattle.totem_names.proofs.RankParts.{id_of_rank, life_of_rank}
use Rattle.totem_names.specs.declared.fault.TextFault.TheVariants as faults
use Rattle.totem_names.specs.declared.message.Service.{Service}
use Rattle.totem_names.specs.Numbers.{word_at, number_at}
use Rattle.totem_names.specs.Parsers.{message_at}
use Rattle.totem_names.specs.Services.{service_at}
use Rattle.totem_evs.specs.declared.entry.Entry.TheVariants.{Conf, Send, Deliver, Fail}
use Rattle.totem_evs.specs.declared.ending.Ending.TheVariants.{Standing, Failed, Quiet}
use Rattle.totem_evs.specs.declared.lines.Line.{Line}
use Rattle.totem_evs.specs.declared.lines.Line.TheVariants as lines
use Rattle.totem_evs.specs.RunGrammar.{members_at, change_at, send_at, delivery_at, open_at, quiet_at, failed_at, fail_at, ail_at, failure_at, line_at}
use Rattle.totem_evs.proofs.LooseFrom.{LooseMembersFrom, loose_member, are_loose_members}
use Rattle.totem_evs.proofs.SpelledLine.{IsLineOf, line_text, not_within, both_true}
use Rattle.totem_evs.proofs.GoesOn.{one_is, Cut, ok_cut, fault_cut, test_cut, bind_cut, last_cut, cut_as, led_cut, byte_cut, word_cut, number_cut, number_to_cut, conf_cut, message_cut, first_ring, first_ring_is}

-- ---- processes

-- a process that texts of this version can write
abbrev pub ProcessTo : Version → List ℕ → Type 0
ProcessTo version t = (p : ℕ) × IsProcessIn version p × (t ≡ process_text version p)

-- a process from its parts
made_process : (version : Version) (id life : ℕ) → IsUpTo 65535 id → IsUpTo 65535 life → (writes_lives version ≡ false → life ≡ 1) → IsProcessIn version (rank_of id life)
made_process version id life id_fits life_fits first = grind (arith, id_of_rank, life_of_rank)

-- the first process
pub first_process_is : (version : Version) → IsProcessIn version (rank_of 1 1)
first_process_is version = made_process version 1 1 (one_is 65535 (omega arith)) (one_is 65535 (omega arith)) (λ h. refl)

-- whether lives are written
abbrev Written : Bool → List ℕ → Type 0
Written lives t = (id : ℕ) × (life : ℕ) × IsUpTo 65535 id × IsUpTo 65535 life × (lives ≡ false → life ≡ 1) × (t ≡ cond lives (decimal id ++ codes ":" ++ decimal life) (decimal id))

some_number : (bytes : List ℕ) → Cut (number_at 65535 bytes) (λ t. (n : ℕ) × IsUpTo 65535 n × (t ≡ decimal n)) bytes
some_number bytes = record {
  goes = λ e. elim (number_cut 65535 bytes (omega arith) (omega arith) e) [
    | inl none ↦ (decimal 1, (1, (one_is 65535 (omega arith)), ap (λ (t : List ℕ). t ++ decimal 1) none))
    | inr x ↦ ([], (x.0, x.1, append-nil bytes ∙ x.2))
  ];
}

first_life_cut : (bytes : List ℕ) → Cut (first_life_then bytes) (Written false) bytes
unfolding first_life_then
first_life_cut bytes =
    last_cut _ _ _ _ _ (some_number bytes)
    (λ t x. (x.0, 1, x.1, (one_is 65535 (omega arith)), (λ h. refl), x.2))

colon_between : (a b : List ℕ) → (a ++ 58 ∷ []) ++ b ≡ a ++ codes ":" ++ b
colon_between a b = simp append_assoc

life_cut : (bytes : List ℕ) → Cut (life_then bytes) (Written true) bytes
unfolding life_then
life_cut bytes =
    bind_cut _ _ _ _ _ (number_to_cut 65535 58 bytes (omega arith) (omega arith))
    (λ t x. (decimal 1, (x.0, 1, x.1, (one_is 65535 (omega arith)), (λ h. absurd cc), ap (λ (k : List ℕ). k ++ decimal 1) x.2 ∙ colon_between (decimal x.0) (decimal 1))))
    (λ id rest e.
    let y = number_to_is 65535 58 id bytes rest (omega arith) (omega arith) e in
    record {
      text = decimal id ++ 58 ∷ [];
      whole = y.spelled ∙ sym (append_assoc (decimal id) (58 ∷ []) rest);
      next = last_cut _ _ _ _ _ (some_number rest)
          (λ t x. (id, x.0, record { positive = y.positive; small = y.small }, x.1, (λ h. absurd cc), ap (λ (k : List ℕ). (decimal id ++ 58 ∷ []) ++ k) x.2 ∙ colon_between (decimal id) (decimal x.0)));
    })

written_is : (version : Version) (t : List ℕ) → Written (writes_lives version) t → ProcessTo version t
written_is version t x =
    let id = x.0 in
    let life = x.1 in
    let i : id_of (rank_of id life) ≡ id = id_of_rank id life (omega (arith, x.3.small)) in
    let l : life_of (rank_of id life) ≡ life = life_of_rank id life (omega (arith, x.3.small)) in
    (rank_of id life, made_process version id life x.2 x.3 x.4, rw (i, l) x.5)

pub process_cut : (version : Version) (bytes : List ℕ) → Cut (process_then version bytes) (ProcessTo version) bytes
unfolding process_then
process_cut version bytes = cut_as _ _ _ _ (go (writes_lives version)) (written_is version)
  where
    go : (t : Bool) → Cut (cond t (life_then bytes) (first_life_then bytes)) (Written t) bytes
    go true = life_cut bytes
    go false = first_life_cut bytes

-- ---- members

abbrev pub MembersTo : Version → ℕ → ℕ → List ℕ → Type 0
MembersTo version room last t = (ms : List ℕ) × LooseMembersFrom version room last ms × (32 ∷ t ≡ members_text (process_text version) ms ++ 10 ∷ [])

one_member_text : (version : Version) (p : ℕ) → 32 ∷ (process_text version p ++ 10 ∷ []) ≡ members_text (process_text version) (p ∷ []) ++ 10 ∷ []
one_member_text version p = ap (λ (t : List ℕ). 32 ∷ (t ++ 10 ∷ [])) (sym (append-nil (process_text version p)))

members_parts : (version : Version) (p : ℕ) (ms t : List ℕ) → 32 ∷ t ≡ members_text (process_text version) ms ++ 10 ∷ [] → 32 ∷ ((process_text version p ++ 32 ∷ []) ++ t) ≡ members_text (process_text version) (p ∷ ms) ++ 10 ∷ []
members_parts version p ms t e = ap (λ (k : List ℕ). 32 ∷ k) (append_assoc (process_text version p) (32 ∷ []) t ∙ ap (λ (k : List ℕ). process_text version p ++ k) e ∙ sym (append_assoc (process_text version p) (members_text (process_text version) ms) (10 ∷ [])))

pub members_cut : (version : Version) (room last : ℕ) (bytes : List ℕ) → Cut (members_at version room last bytes) (MembersTo version room last) bytes
unfolding members_at
members_cut version zero last bytes = fault_cut faults.TooMany (MembersTo version zero last) bytes refl
members_cut version (suc room) last bytes =
    bind_cut (process_then version bytes) (λ p. cond (nat_le (id_of p.0.0) last) (Err faults.Members) (cond (p.0.1 == 10) (Ok (p.0.0 ∷ [], p.1)) (cond (p.0.1 == 32) (members_at version room (id_of p.0.0) p.1 >>= λ others. Ok (p.0.0 ∷ others.0, others.1)) (Err faults.Word)))) (ProcessTo version) (MembersTo version (suc room) last) bytes (process_cut version bytes)
    (λ t x. (10 ∷ [], (x.0 ∷ [], record { some = omega arith; few = omega arith; rises = x.1 }, ap (λ (k : List ℕ). 32 ∷ (k ++ 10 ∷ [])) x.2 ∙ one_member_text version x.0)))
    (λ p rest e.
    let x = process_then_is version p.0 p.1 bytes rest e in
    let is_process : IsProcessIn version p.0 = record { id_fits = x.id_fits; life_fits = x.life_fits; first = x.first } in
    let Is : List ℕ → Type 0 = λ u. MembersTo version (suc room) last ((process_text version p.0 ++ p.1 ∷ []) ++ u) in
    record {
      text = process_text version p.0 ++ p.1 ∷ [];
      whole = x.spelled ∙ sym (append_assoc (process_text version p.0) (p.1 ∷ []) rest);
      next = test_cut (nat_le (id_of p.0) last) (Err faults.Members) (cond (p.1 == 10) (Ok (p.0 ∷ [], rest)) (cond (p.1 == 32) (members_at version room (id_of p.0) rest >>= λ others. Ok (p.0 ∷ others.0, others.1)) (Err faults.Word))) Is rest
          (λ h. fault_cut faults.Members Is rest refl)
          (λ above. test_cut (p.1 == 10) (Ok (p.0 ∷ [], rest)) (cond (p.1 == 32) (members_at version room (id_of p.0) rest >>= λ others. Ok (p.0 ∷ others.0, others.1)) (Err faults.Word)) Is rest
          (λ h. ok_cut (p.0 ∷ [], rest) Is rest)
          (λ h. test_cut (p.1 == 32) (members_at version room (id_of p.0) rest >>= λ others. Ok (p.0 ∷ others.0, others.1)) (Err faults.Word) Is rest
          (λ h. let same : p.1 ≡ 32 = eqb-true p.1 32 h in
          last_cut (members_at version room (id_of p.0) rest) (λ others. (p.0 ∷ others.0, others.1)) (MembersTo version room (id_of p.0)) Is rest (members_cut version room (id_of p.0) rest)
          (λ t m. (p.0 ∷ m.0, record { some = omega arith; few = omega (arith, m.1.few); rises = loose_member version last p.0 m.0 (not_within (id_of p.0) last above) is_process m.1.rises }, ap (λ (b : ℕ). 32 ∷ ((process_text version p.0 ++ b ∷ []) ++ t)) same ∙ members_parts version p.0 m.0 t m.2)))
          (λ h. fault_cut faults.Word Is rest refl)));
    })

-- ---- lines

abbrev pub LineTo : Version → Bool → Bool → Bool → List ℕ → Type 0
LineTo version full some failed t = (l : Line) × IsLineOf (IsLooseEntry version) (writes_quiet version) full some failed l × (t ≡ line_text version l)

one_member : (version : Version) → IsLooseMembers version (rank_of 1 1 ∷ [])
one_member version = are_loose_members version (rank_of 1 1 ∷ []) (record { some = omega arith; few = omega arith; rises = first_process_is version })

change_whole : (x ms t : List ℕ) → 32 ∷ t ≡ ms ++ 10 ∷ [] → 99 ∷ (codes "onf " ++ ((x ++ 32 ∷ []) ++ t)) ≡ (codes "conf " ++ x ++ ms) ++ 10 ∷ []
change_whole x ms t e = ap (λ (k : List ℕ). codes "conf " ++ k) (append_assoc x (32 ∷ []) t ∙ ap (λ (k : List ℕ). x ++ k) e ∙ sym (append_assoc x ms (10 ∷ [])))

pub change_cut : (version : Version) (full some failed : Bool) (bytes : List ℕ) → Cut (change_at version full bytes) (λ u. LineTo version full some failed (99 ∷ u)) bytes
unfolding change_at
change_cut version full some failed bytes =
    test_cut _ _ _ _ _
    (λ h. fault_cut _ _ _ refl)
    (λ h. bind_cut _ _ _ _ _ (word_cut faults.Word (codes "onf ") bytes refl)
    (λ t e.
    let u = (conf_text (Regular first_ring) ++ 32 ∷ []) ++ (process_text version (rank_of 1 1) ++ 10 ∷ []) in
    (u, (lines.Entry (Conf (Regular first_ring) (rank_of 1 1 ∷ [])), (h, (first_ring_is, one_member version)), ap (λ (k : List ℕ). 99 ∷ (k ++ u)) e ∙ change_whole (conf_text (Regular first_ring)) (members_text (process_text version) (rank_of 1 1 ∷ [])) (process_text version (rank_of 1 1) ++ 10 ∷ []) (one_member_text version (rank_of 1 1)))))
    (λ w rest e. record {
      text = codes "onf ";
      whole = word_is faults.Word (codes "onf ") bytes rest w e;
      next = bind_cut _ _ _ _ _ (conf_cut 32 rest)
          (λ t x.
          let u = process_text version (rank_of 1 1) ++ 10 ∷ [] in
          (u, (lines.Entry (Conf x.0 (rank_of 1 1 ∷ [])), (h, (x.1, one_member version)), ap (λ (k : List ℕ). 99 ∷ (codes "onf " ++ (k ++ u))) x.2 ∙ change_whole (conf_text x.0) (members_text (process_text version) (rank_of 1 1 ∷ [])) u (one_member_text version (rank_of 1 1)))))
          (λ x rest2 e2.
          let y = conf_is 32 x rest rest2 e2 in
          record {
            text = conf_text x ++ 32 ∷ [];
            whole = y.1 ∙ sym (append_assoc (conf_text x) (32 ∷ []) rest2);
            next = last_cut _ _ _ _ _ (members_cut version 32 0 rest2)
                (λ t m. (lines.Entry (Conf x m.0), (h, (y.0, are_loose_members version m.0 m.1)), change_whole (conf_text x) (members_text (process_text version) m.0) t m.2));
          });
    }))

-- a service
abbrev pub ServiceTo : List ℕ → Type 0
ServiceTo t = (s : Service) × (t ≡ service_text s)

service_cut : (bytes : List ℕ) → Cut (service_at bytes) ServiceTo bytes
unfolding service_at
service_cut [] = record { goes = λ e. (97 ∷ [], (Agreed, refl)) }
service_cut (b ∷ rest) = search (rules, ok_cut, test_cut, fault_cut)

-- the first message
first_message : MessageName
first_message = record { ring = first_ring; number = 1 }

first_message_is : IsMessage first_message
unfolding first_message
first_message_is = record { ring_fits = first_ring_is; number_fits = record { positive = omega arith; small = omega arith } }

message_end : List ℕ
message_end = message_text first_message ++ 10 ∷ []

send_whole : (x s m : List ℕ) → 115 ∷ (codes "end " ++ ((x ++ 32 ∷ []) ++ (s ++ (codes " " ++ (m ++ 10 ∷ []))))) ≡ (codes "send " ++ x ++ codes " " ++ s ++ codes " " ++ m) ++ 10 ∷ []
send_whole x s m = simp append_assoc

-- what is after the configuration of a send
send_tail : (version : Version) (full some failed : Bool) (x : ConfId) (rest : List ℕ) → full ≡ false → IsConf x
    → Cut (service_at rest >>= λ service. word_at faults.Word (codes " ") service.1 >>= λ space. message_at 10 space.1 >>= λ m. Ok (lines.Entry (Send m.0 x service.0), m.1)) (λ u. LineTo version full some failed (115 ∷ (codes "end " ++ ((conf_text x ++ 32 ∷ []) ++ u)))) rest
unfolding message_end
send_tail version full some failed x rest h is =
    bind_cut _ _ _ _ _ (service_cut rest)
    (λ t s. (codes " " ++ message_end, (lines.Entry (Send first_message x s.0), (h, (first_message_is, is)), ap (λ (k : List ℕ). 115 ∷ (codes "end " ++ ((conf_text x ++ 32 ∷ []) ++ (k ++ (codes " " ++ message_end))))) s.1 ∙ send_whole (conf_text x) (service_text s.0) (message_text first_message))))
    (λ s rest2 e2. record {
      text = service_text s;
      whole = service_is s rest rest2 e2;
      next = bind_cut _ _ _ _ _ (word_cut faults.Word (codes " ") rest2 refl)
          (λ t e. (message_end, (lines.Entry (Send first_message x s), (h, (first_message_is, is)), ap (λ (k : List ℕ). 115 ∷ (codes "end " ++ ((conf_text x ++ 32 ∷ []) ++ (service_text s ++ (k ++ message_end))))) e ∙ send_whole (conf_text x) (service_text s) (message_text first_message))))
          (λ v rest3 e3. record {
            text = codes " ";
            whole = word_is faults.Word (codes " ") rest2 rest3 v e3;
            next = last_cut _ _ _ _ _ (message_cut 10 rest3)
                (λ t m. (lines.Entry (Send m.0 x s), (h, (m.1, is)), ap (λ (k : List ℕ). 115 ∷ (codes "end " ++ ((conf_text x ++ 32 ∷ []) ++ (service_text s ++ (codes " " ++ k))))) m.2 ∙ send_whole (conf_text x) (service_text s) (message_text m.0)));
          });
    })

pub send_cut : (version : Version) (full some failed : Bool) (bytes : List ℕ) → Cut (send_at full bytes) (λ u. LineTo version full some failed (115 ∷ u)) bytes
unfolding send_at message_end
send_cut version full some failed bytes =
    test_cut _ _ _ _ _
    (λ h. fault_cut _ _ _ refl)
    (λ h. bind_cut _ _ _ _ _ (word_cut faults.Word (codes "end ") bytes refl)
    (λ t e.
    let u = (conf_text (Regular first_ring) ++ 32 ∷ []) ++ (service_text Agreed ++ (codes " " ++ message_end)) in
    (u, (lines.Entry (Send first_message (Regular first_ring) Agreed), (h, (first_message_is, first_ring_is)), ap (λ (k : List ℕ). 115 ∷ (k ++ u)) e ∙ send_whole (conf_text (Regular first_ring)) (service_text Agreed) (message_text first_message))))
    (λ w rest e. record {
      text = codes "end ";
      whole = word_is faults.Word (codes "end ") bytes rest w e;
      next = bind_cut _ _ _ _ _ (conf_cut 32 rest)
          (λ t x.
          let u = service_text Agreed ++ (codes " " ++ message_end) in
          (u, (lines.Entry (Send first_message x.0 Agreed), (h, (first_message_is, x.1)), ap (λ (k : List ℕ). 115 ∷ (codes "end " ++ (k ++ u))) x.2 ∙ send_whole (conf_text x.0) (service_text Agreed) (message_text first_message))))
          (λ x rest2 e2.
          let y = conf_is 32 x rest rest2 e2 in
          record {
            text = conf_text x ++ 32 ∷ [];
            whole = y.1 ∙ sym (append_assoc (conf_text x) (32 ∷ []) rest2);
            next = send_tail version full some failed x rest2 h y.0;
          });
    }))

delivery_whole : (x m : List ℕ) → 100 ∷ (codes "lv " ++ ((x ++ 32 ∷ []) ++ (m ++ 10 ∷ []))) ≡ (codes "dlv " ++ x ++ codes " " ++ m) ++ 10 ∷ []
delivery_whole x m = simp append_assoc

pub delivery_cut : (version : Version) (full some failed : Bool) (bytes : List ℕ) → Cut (delivery_at full bytes) (λ u. LineTo version full some failed (100 ∷ u)) bytes
unfolding delivery_at message_end
delivery_cut version full some failed bytes =
    test_cut _ _ _ _ _
    (λ h. fault_cut _ _ _ refl)
    (λ h. bind_cut _ _ _ _ _ (word_cut faults.Word (codes "lv ") bytes refl)
    (λ t e.
    let u = (conf_text (Regular first_ring) ++ 32 ∷ []) ++ message_end in
    (u, (lines.Entry (Deliver first_message (Regular first_ring)), (h, (first_message_is, first_ring_is)), ap (λ (k : List ℕ). 100 ∷ (k ++ u)) e ∙ delivery_whole (conf_text (Regular first_ring)) (message_text first_message))))
    (λ w rest e. record {
      text = codes "lv ";
      whole = word_is faults.Word (codes "lv ") bytes rest w e;
      next = bind_cut _ _ _ _ _ (conf_cut 32 rest)
          (λ t x. (message_end, (lines.Entry (Deliver first_message x.0), (h, (first_message_is, x.1)), ap (λ (k : List ℕ). 100 ∷ (codes "lv " ++ (k ++ message_end))) x.2 ∙ delivery_whole (conf_text x.0) (message_text first_message))))
          (λ x rest2 e2.
          let y = conf_is 32 x rest rest2 e2 in
          record {
            text = conf_text x ++ 32 ∷ [];
            whole = y.1 ∙ sym (append_assoc (conf_text x) (32 ∷ []) rest2);
            next = last_cut _ _ _ _ _ (message_cut 10 rest2)
                (λ t m. (lines.Entry (Deliver m.0 x), (h, (m.1, y.0)), ap (λ (k : List ℕ). 100 ∷ (codes "lv " ++ ((conf_text x ++ 32 ∷ []) ++ k))) m.2 ∙ delivery_whole (conf_text x) (message_text m.0)));
          });
    }))

-- ---- closing words and failures

open_cut : (version : Version) (full some failed : Bool) (bytes : List ℕ) → Cut (open_at some failed bytes) (λ u. LineTo version full some failed (111 ∷ u)) bytes
unfolding open_at
open_cut version full some failed bytes =
    test_cut _ _ _ _ _
    (λ h. last_cut _ _ _ _ _ (word_cut faults.Word (line (codes "pen")) bytes refl) (λ t e. (lines.Close Standing, both_true some failed h, ap (λ (k : List ℕ). 111 ∷ k) e)))
    (λ h. fault_cut _ _ _ refl)

quiet_cut : (version : Version) (full some failed : Bool) (bytes : List ℕ) → Cut (quiet_at (writes_quiet version) some failed bytes) (λ u. LineTo version full some failed (113 ∷ u)) bytes
unfolding quiet_at
quiet_cut version full some failed bytes =
    test_cut _ _ _ _ _
    (λ written. test_cut _ _ _ _ _
    (λ h. last_cut _ _ _ _ _ (word_cut faults.Word (line (codes "uiet")) bytes refl) (λ t e. (lines.Close Quiet, (written, (both_true some failed h).0, (both_true some failed h).1), ap (λ (k : List ℕ). 113 ∷ k) e)))
    (λ h. fault_cut _ _ _ refl))
    (λ h. fault_cut _ _ _ refl)

failed_cut : (version : Version) (full some failed : Bool) (bytes : List ℕ) → Cut (failed_at failed bytes) (λ u. LineTo version full some failed (codes "faile" ++ u)) bytes
unfolding failed_at
failed_cut version full some failed bytes =
    test_cut _ _ _ _ _
    (λ h. last_cut _ _ _ _ _ (word_cut faults.Word (line (codes "d")) bytes refl) (λ t e. (lines.Close Failed, h, ap (λ (k : List ℕ). codes "faile" ++ k) e)))
    (λ h. fault_cut _ _ _ refl)

fail_cut : (version : Version) (full some failed : Bool) (bytes : List ℕ) → Cut (fail_at full bytes) (λ u. LineTo version full some failed (codes "fail " ++ u)) bytes
unfolding fail_at
fail_cut version full some failed bytes =
    test_cut _ _ _ _ _
    (λ h. fault_cut _ _ _ refl)
    (λ h. last_cut _ _ _ _ _ (conf_cut 10 bytes) (λ t x. (lines.Entry (Fail x.0), (h, x.1), ap (λ (k : List ℕ). codes "fail " ++ k) x.2)))

-- some line continues these bytes
first_failure : (version : Version) (full some failed : Bool) → full ≡ false → LineTo version full some failed (codes "fail " ++ (conf_text (Regular first_ring) ++ 10 ∷ []))
first_failure version full some failed h = (lines.Entry (Fail (Regular first_ring)), (h, first_ring_is), refl)

ail_from : (version : Version) (full some failed : Bool) (bytes : List ℕ) (b : ℕ) (u : List ℕ) → LineTo version full some failed (codes "fail" ++ b ∷ u) → Cut (ail_at full failed bytes) (λ u. LineTo version full some failed (102 ∷ u)) bytes
unfolding ail_at
ail_from version full some failed bytes b u one =
    bind_cut _ _ _ _ _ (word_cut faults.Word (codes "ail") bytes refl)
    (λ t e. (b ∷ u, rw e one))
    (λ w rest e. record {
      text = codes "ail";
      whole = word_is faults.Word (codes "ail") bytes rest w e;
      next = bind_cut _ _ _ _ _ (byte_cut b rest)
          (λ t e. (u, rw e one))
          (λ c rest2 e2. record {
            text = c ∷ [];
            whole = byte_is rest c rest2 e2;
            next = test_cut _ _ _ _ _
                (λ h. let same : c ≡ 101 = eqb-true c 101 h in rw same (failed_cut version full some failed rest2))
                (λ h. test_cut _ _ _ _ _
                (λ h. let same : c ≡ 32 = eqb-true c 32 h in rw same (fail_cut version full some failed rest2))
                (λ h. fault_cut _ _ _ refl));
          });
    })

failure_cut : (version : Version) (full some failed : Bool) (bytes : List ℕ) → Cut (failure_at full failed bytes) (λ u. LineTo version full some failed (102 ∷ u)) bytes
unfolding failure_at
failure_cut version full some failed bytes = go full failed
  where
    go : (full failed : Bool) → Cut (cond (full && not failed) (Err faults.TooMany) (ail_at full failed bytes)) (λ u. LineTo version full some failed (102 ∷ u)) bytes
    go false failed = ail_from version false some failed bytes 32 (conf_text (Regular first_ring) ++ 10 ∷ []) (first_failure version false some failed refl)
    go true true = ail_from version true some true bytes 101 (codes "d" ++ 10 ∷ []) (lines.Close Failed, refl, refl)
    go true false = fault_cut _ _ _ refl

line_from : (version : Version) (full some failed : Bool) (bytes : List ℕ) (b : ℕ) (u : List ℕ) → LineTo version full some failed (b ∷ u) → Cut (line_at version full some failed bytes) (LineTo version full some failed) bytes
unfolding line_at
line_from version full some failed [] b u one = record { goes = λ e. (b ∷ u, one) }
line_from version full some failed (c ∷ rest) b u one =
    test_cut _ _ _ _ _
    (led_cut c 99 _ _ _ (change_cut version full some failed rest))
    (λ h. test_cut _ _ _ _ _
    (led_cut c 115 _ _ _ (send_cut version full some failed rest))
    (λ h. test_cut _ _ _ _ _
    (led_cut c 100 _ _ _ (delivery_cut version full some failed rest))
    (λ h. test_cut _ _ _ _ _
    (led_cut c 102 _ _ _ (failure_cut version full some failed rest))
    (λ h. test_cut _ _ _ _ _
    (led_cut c 111 _ _ _ (open_cut version full some failed rest))
    (λ h. test_cut _ _ _ _ _
    (led_cut c 113 _ _ _ (quiet_cut version full some failed rest))
    (λ h. fault_cut _ _ _ refl))))))

pub line_cut : (version : Version) (full some failed : Bool) (bytes : List ℕ) → (some ≡ false → full ≡ false) → Cut (line_at version full some failed bytes) (LineTo version full some failed) bytes
line_cut version full false failed bytes room = line_from version full false failed bytes 102 (codes "ail " ++ (conf_text (Regular first_ring) ++ 10 ∷ [])) (first_failure version full false failed (room refl))
line_cut version full true false bytes room = line_from version full true false bytes 111 (codes "pen" ++ 10 ∷ []) (lines.Close Standing, (refl, refl), refl)
line_cut version full true true bytes room = line_from version full true true bytes 102 (codes "ailed" ++ 10 ∷ []) (lines.Close Failed, refl, refl)
