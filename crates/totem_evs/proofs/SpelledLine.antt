-- What is read is spelled so, and what is spelled so is read: the lines of a log.
use Rattle.totem_evs.proofs.Common.{nat_le, ◌==◌, codes, not, ◌&&◌, ◌≡◌, ℕ, zero, suc, ◌<◌, inl, inr, List, [], ◌∷◌, ◌++◌, Ok, Err, Bool, true, false, cond, refl, sym, ◌∙◌, ap, append_assoc, arith, Version, id_of, process_then_is, process_then_again, eqb-true, append-nil, nat_tests, ConfId, MessageName, ◌>>=◌, conf_text, message_text, service_text, IsConf, IsMessage, service_is, service_again, after, taken, guard_then, guard_else, parsed_is, byte_is, word_is, word_again, conf_is, conf_again, message_is, message_again, IsMembersIn, writes_quiet, IsEntryIn, line, members_text, entry_text, ending_text}
use Rattle.totem_names.specs.Processes.{process_text, process_then, IsProcessIn}
use Rattle.totem_names.specs.declared.fault.TextFault.TheVariants as faults
use Rattle.totem_names.specs.declared.message.Service.{Service}
use Rattle.totem_names.specs.Numbers.{byte_at, word_at}
use Rattle.totem_names.specs.Parsers.{conf_at, message_at}
use Rattle.totem_names.specs.Services.{service_at}
use Rattle.totem_evs.specs.declared.entry.Entry.{Entry}
use Rattle.totem_evs.specs.declared.entry.Entry.TheVariants.{Conf, Send, Deliver, Fail}
use Rattle.totem_evs.specs.declared.ending.Ending.TheVariants.{Standing, Failed, Quiet}
use Rattle.totem_evs.specs.declared.lines.Line.{Line}
use Rattle.totem_evs.specs.declared.lines.Line.TheVariants as lines
use Rattle.totem_evs.specs.RunGrammar.{members_at, change_at, send_at, delivery_at, open_at, quiet_at, failed_at, fail_at, ail_at, failure_at, line_at}
use Rattle.totem_evs.proofs.PartFaults.{byte_pick}
use Rattle.totem_evs.proofs.FromLeft.{MembersFrom, are_members, members_from}

-- ---- members

pub not_within : (a b : ℕ) → nat_le a b ≡ false → b < a
not_within a b h = grind (arith, nat_tests)

-- the first of some members
pub members_first : (spell : ℕ → List ℕ) (p : ℕ) (ps rest : List ℕ) → members_text spell (p ∷ ps) ++ rest ≡ 32 ∷ (spell p ++ (members_text spell ps ++ rest))
members_first spell p ps rest = append_assoc (32 ∷ spell p) (members_text spell ps) rest

pub members_is : (version : Version) (room last : ℕ) (ms bytes rest : List ℕ) → members_at version room last bytes ≡ Ok (ms, rest) → MembersFrom version room last ms × (32 ∷ bytes ≡ members_text (process_text version) ms ++ 10 ∷ rest)
unfolding members_at
members_is version zero last ms bytes rest e = absurd cc
members_is version (suc room) last ms bytes rest e =
    after (process_then version bytes) (λ p. cond (nat_le (id_of p.0.0) last) (Err faults.Members) (cond (p.0.1 == 10) (Ok (p.0.0 ∷ [], p.1)) (cond (p.0.1 == 32) (members_at version room (id_of p.0.0) p.1 >>= λ others. Ok (p.0.0 ∷ others.0, others.1)) (Err faults.Word)))) (ms, rest) e (λ p mid e1 more.
    let x = process_then_is version p.0 p.1 bytes mid e1 in
    let is_process : IsProcessIn version p.0 = record { id_fits = x.id_fits; life_fits = x.life_fits; first = x.first } in
    let g = guard_else (nat_le (id_of p.0) last) (cond (p.1 == 10) (Ok (p.0 ∷ [], mid)) (cond (p.1 == 32) (members_at version room (id_of p.0) mid >>= λ others. Ok (p.0 ∷ others.0, others.1)) (Err faults.Word))) faults.Members (ms, rest) more in
    let above : last < id_of p.0 = not_within (id_of p.0) last g.0 in
    elim (taken (p.1 == 10) (Ok (p.0 ∷ [], mid)) (cond (p.1 == 32) (members_at version room (id_of p.0) mid >>= λ others. Ok (p.0 ∷ others.0, others.1)) (Err faults.Word)) (Ok (ms, rest)) g.1) [
      | inl r ↦
          let same : p.1 ≡ 10 = eqb-true _ _ r.0 in
          let q = parsed_is (p.0 ∷ []) ms mid rest r.1 in
          let text : 32 ∷ bytes ≡ members_text (process_text version) (p.0 ∷ []) ++ 10 ∷ mid = ap (λ (t : List ℕ). 32 ∷ t) (x.spelled ∙ ap (λ (b : ℕ). process_text version p.0 ++ b ∷ mid) same ∙ ap (λ (t : List ℕ). t ++ 10 ∷ mid) (sym (append-nil (process_text version p.0)))) in
          let is : MembersFrom version (suc room) last (p.0 ∷ []) = record { some = omega arith; few = omega arith; rises = (above, is_process, tt) } in
          rw (← q.0, ← q.1) (is, text)
      | inr other ↦
          let t = guard_then (p.1 == 32) (members_at version room (id_of p.0) mid >>= λ others. Ok (p.0 ∷ others.0, others.1)) faults.Word (ms, rest) other.1 in
          let same : p.1 ≡ 32 = eqb-true _ _ t.0 in
          after (members_at version room (id_of p.0) mid) (λ others. Ok (p.0 ∷ others.0, others.1)) (ms, rest) t.1 (λ others left e2 made.
          let q = parsed_is (p.0 ∷ others) ms left rest made in
          let tail = members_is version room (id_of p.0) others mid left e2 in
          let text : 32 ∷ bytes ≡ members_text (process_text version) (p.0 ∷ others) ++ 10 ∷ left = ap (λ (t : List ℕ). 32 ∷ t) (x.spelled ∙ ap (λ (b : ℕ). process_text version p.0 ++ b ∷ mid) same ∙ ap (λ (t : List ℕ). process_text version p.0 ++ t) tail.1 ∙ sym (append_assoc (process_text version p.0) (members_text (process_text version) others) (10 ∷ left))) in
          let is : MembersFrom version (suc room) last (p.0 ∷ others) = record { some = omega arith; few = omega (arith, tail.0.few); rises = (above, is_process, tail.0.rises) } in
          rw (← q.0, ← q.1) (is, text))
    ])

pub members_again : (version : Version) (room last p : ℕ) (ps rest : List ℕ) → MembersFrom version room last (p ∷ ps) → members_at version room last (process_text version p ++ (members_text (process_text version) ps ++ 10 ∷ rest)) ≡ Ok (p ∷ ps, rest)
unfolding members_at
members_again version zero last p ps rest h = absurd (omega (arith, h.few))
members_again version (suc room) last p [] rest h =
    let above : nat_le (id_of p) last ≡ false = (let lt = h.rises.0 in grind (arith, nat_tests)) in
    rw (process_then_again version p 10 rest refl h.rises.1, above) refl
members_again version (suc room) last p (q ∷ ps) rest h =
    let above : nat_le (id_of p) last ≡ false = (let lt = h.rises.0 in grind (arith, nat_tests)) in
    let regrouped : members_text (process_text version) (q ∷ ps) ++ 10 ∷ rest ≡ 32 ∷ (process_text version q ++ (members_text (process_text version) ps ++ 10 ∷ rest)) = members_first (process_text version) q ps (10 ∷ rest) in
    let others : MembersFrom version room (id_of p) (q ∷ ps) = record { some = omega arith; few = omega (arith, h.few); rises = h.rises.2 } in
    rw (regrouped, process_then_again version p 32 (process_text version q ++ (members_text (process_text version) ps ++ 10 ∷ rest)) refl h.rises.1, above, members_again version room (id_of p) q ps rest others) refl

-- ---- lines

abbrev pub line_text : Version → Line → List ℕ
line_text version (lines.Entry e) = line (entry_text (process_text version) e)
line_text version (lines.Close ending) = line (ending_text ending)

-- a line that may follow, `quiet` where that is written; this holds for its entry
abbrev pub IsLineOf : (Entry → Type 0) → Bool → Bool → Bool → Bool → Line → Type 0
IsLineOf E written full some failed (lines.Entry e) = (full ≡ false) × E e
IsLineOf E written full some failed (lines.Close Standing) = (some ≡ true) × (failed ≡ false)
IsLineOf E written full some failed (lines.Close Failed) = failed ≡ true
IsLineOf E written full some failed (lines.Close Quiet) = (written ≡ true) × (some ≡ true) × (failed ≡ false)

abbrev pub IsLine : Version → Bool → Bool → Bool → Line → Type 0
IsLine version full some failed l = IsLineOf (IsEntryIn version) (writes_quiet version) full some failed l

pub send_parts : (x s m rest : List ℕ) → (codes "send " ++ x ++ codes " " ++ s ++ codes " " ++ m ++ 10 ∷ []) ++ rest ≡ 115 ∷ (codes "end " ++ (x ++ 32 ∷ (s ++ (32 ∷ (m ++ 10 ∷ rest)))))
send_parts x s m rest = simp append_assoc

pub delivery_parts : (x m rest : List ℕ) → (codes "dlv " ++ x ++ codes " " ++ m ++ 10 ∷ []) ++ rest ≡ 100 ∷ (codes "lv " ++ (x ++ 32 ∷ (m ++ 10 ∷ rest)))
delivery_parts x m rest = simp append_assoc

pub change_parts : (x ms rest : List ℕ) → (codes "conf " ++ x ++ ms ++ 10 ∷ []) ++ rest ≡ 99 ∷ (codes "onf " ++ (x ++ (ms ++ 10 ∷ rest)))
change_parts x ms rest = simp append_assoc

pub fail_parts : (x rest : List ℕ) → (codes "fail " ++ x ++ 10 ∷ []) ++ rest ≡ 102 ∷ (codes "ail" ++ 32 ∷ (x ++ 10 ∷ rest))
fail_parts x rest = simp append_assoc

-- what a part of a line is read as, after its first letter
pub record Fits (version : Version) (full some failed : Bool) (letter : ℕ) (bytes : List ℕ) (l : Line) (rest : List ℕ) : Type 0 where
  pub is : IsLine version full some failed l
  pub spelled : letter ∷ bytes ≡ line_text version l ++ rest

change_is : (version : Version) (full some failed : Bool) (l : Line) (bytes rest : List ℕ) → change_at version full bytes ≡ Ok (l, rest) → Fits version full some failed 99 bytes l rest
unfolding change_at
change_is version full some failed l bytes rest e =
    let g = guard_else full (word_at faults.Word (codes "onf ") bytes >>= λ w. conf_at 32 w.1 >>= λ x. members_at version 32 0 x.1 >>= λ members. Ok (lines.Entry (Conf x.0 members.0), members.1)) faults.TooMany (l, rest) e in
    after (word_at faults.Word (codes "onf ") bytes) (λ w. conf_at 32 w.1 >>= λ x. members_at version 32 0 x.1 >>= λ members. Ok (lines.Entry (Conf x.0 members.0), members.1)) (l, rest) g.1 (λ w b1 e1 m1.
    after (conf_at 32 b1) (λ x. members_at version 32 0 x.1 >>= λ members. Ok (lines.Entry (Conf x.0 members.0), members.1)) (l, rest) m1 (λ x b2 e2 m2.
    after (members_at version 32 0 b2) (λ members. Ok (lines.Entry (Conf x members.0), members.1)) (l, rest) m2 (λ ms b3 e3 made.
    let q = parsed_is (lines.Entry (Conf x ms)) l b3 rest made in
    let t1 = word_is faults.Word (codes "onf ") bytes b1 w e1 in
    let t2 = conf_is 32 x b1 b2 e2 in
    let t3 = members_is version 32 0 ms b2 b3 e3 in
    let text : 99 ∷ bytes ≡ (codes "conf " ++ conf_text x ++ members_text (process_text version) ms ++ 10 ∷ []) ++ b3 =
    ap (λ (t : List ℕ). 99 ∷ t) (t1 ∙ ap (λ (t : List ℕ). codes "onf " ++ t) (t2.1 ∙ ap (λ (t : List ℕ). conf_text x ++ t) t3.1)) ∙ sym (change_parts (conf_text x) (members_text (process_text version) ms) b3) in
    let fits : Fits version full some failed 99 bytes (lines.Entry (Conf x ms)) b3 = record { is = (g.0, (t2.0, are_members version ms t3.0)); spelled = text } in
    rw (← q.0, ← q.1) fits)))

send_is : (version : Version) (full some failed : Bool) (l : Line) (bytes rest : List ℕ) → send_at full bytes ≡ Ok (l, rest) → Fits version full some failed 115 bytes l rest
unfolding send_at
send_is version full some failed l bytes rest e =
    let g = guard_else full (word_at faults.Word (codes "end ") bytes >>= λ w. conf_at 32 w.1 >>= λ x. service_at x.1 >>= λ service. word_at faults.Word (codes " ") service.1 >>= λ space. message_at 10 space.1 >>= λ m. Ok (lines.Entry (Send m.0 x.0 service.0), m.1)) faults.TooMany (l, rest) e in
    after (word_at faults.Word (codes "end ") bytes) (λ w. conf_at 32 w.1 >>= λ x. service_at x.1 >>= λ service. word_at faults.Word (codes " ") service.1 >>= λ space. message_at 10 space.1 >>= λ m. Ok (lines.Entry (Send m.0 x.0 service.0), m.1)) (l, rest) g.1 (λ w b1 e1 m1.
    after (conf_at 32 b1) (λ x. service_at x.1 >>= λ service. word_at faults.Word (codes " ") service.1 >>= λ space. message_at 10 space.1 >>= λ m. Ok (lines.Entry (Send m.0 x.0 service.0), m.1)) (l, rest) m1 (λ x b2 e2 m2.
    after (service_at b2) (λ service. word_at faults.Word (codes " ") service.1 >>= λ space. message_at 10 space.1 >>= λ m. Ok (lines.Entry (Send m.0 x service.0), m.1)) (l, rest) m2 (λ s b3 e3 m3.
    after (word_at faults.Word (codes " ") b3) (λ space. message_at 10 space.1 >>= λ m. Ok (lines.Entry (Send m.0 x s), m.1)) (l, rest) m3 (λ v b4 e4 m4.
    after (message_at 10 b4) (λ m. Ok (lines.Entry (Send m.0 x s), m.1)) (l, rest) m4 (λ m b5 e5 made.
    let q = parsed_is (lines.Entry (Send m x s)) l b5 rest made in
    let t1 = word_is faults.Word (codes "end ") bytes b1 w e1 in
    let t2 = conf_is 32 x b1 b2 e2 in
    let t3 = service_is s b2 b3 e3 in
    let t4 = word_is faults.Word (codes " ") b3 b4 v e4 in
    let t5 = message_is 10 m b4 b5 e5 in
    let text : 115 ∷ bytes ≡ (codes "send " ++ conf_text x ++ codes " " ++ service_text s ++ codes " " ++ message_text m ++ 10 ∷ []) ++ b5 =
    ap (λ (t : List ℕ). 115 ∷ t) (t1 ∙ ap (λ (t : List ℕ). codes "end " ++ t) (t2.1 ∙ ap (λ (t : List ℕ). conf_text x ++ 32 ∷ t) (t3 ∙ ap (λ (t : List ℕ). service_text s ++ t) (t4 ∙ ap (λ (t : List ℕ). 32 ∷ t) t5.1)))) ∙ sym (send_parts (conf_text x) (service_text s) (message_text m) b5) in
    let fits : Fits version full some failed 115 bytes (lines.Entry (Send m x s)) b5 = record { is = (g.0, (t5.0, t2.0)); spelled = text } in
    rw (← q.0, ← q.1) fits)))))

delivery_is : (version : Version) (full some failed : Bool) (l : Line) (bytes rest : List ℕ) → delivery_at full bytes ≡ Ok (l, rest) → Fits version full some failed 100 bytes l rest
unfolding delivery_at
delivery_is version full some failed l bytes rest e =
    let g = guard_else full (word_at faults.Word (codes "lv ") bytes >>= λ w. conf_at 32 w.1 >>= λ x. message_at 10 x.1 >>= λ m. Ok (lines.Entry (Deliver m.0 x.0), m.1)) faults.TooMany (l, rest) e in
    after (word_at faults.Word (codes "lv ") bytes) (λ w. conf_at 32 w.1 >>= λ x. message_at 10 x.1 >>= λ m. Ok (lines.Entry (Deliver m.0 x.0), m.1)) (l, rest) g.1 (λ w b1 e1 m1.
    after (conf_at 32 b1) (λ x. message_at 10 x.1 >>= λ m. Ok (lines.Entry (Deliver m.0 x.0), m.1)) (l, rest) m1 (λ x b2 e2 m2.
    after (message_at 10 b2) (λ m. Ok (lines.Entry (Deliver m.0 x), m.1)) (l, rest) m2 (λ m b3 e3 made.
    let q = parsed_is (lines.Entry (Deliver m x)) l b3 rest made in
    let t1 = word_is faults.Word (codes "lv ") bytes b1 w e1 in
    let t2 = conf_is 32 x b1 b2 e2 in
    let t3 = message_is 10 m b2 b3 e3 in
    let text : 100 ∷ bytes ≡ (codes "dlv " ++ conf_text x ++ codes " " ++ message_text m ++ 10 ∷ []) ++ b3 =
    ap (λ (t : List ℕ). 100 ∷ t) (t1 ∙ ap (λ (t : List ℕ). codes "lv " ++ t) (t2.1 ∙ ap (λ (t : List ℕ). conf_text x ++ 32 ∷ t) t3.1)) ∙ sym (delivery_parts (conf_text x) (message_text m) b3) in
    let fits : Fits version full some failed 100 bytes (lines.Entry (Deliver m x)) b3 = record { is = (g.0, (t3.0, t2.0)); spelled = text } in
    rw (← q.0, ← q.1) fits)))

pub both_true : (a b : Bool) → (a && not b) ≡ true → (a ≡ true) × (b ≡ false)
both_true a b h = grind arith

open_is : (version : Version) (full some failed : Bool) (l : Line) (bytes rest : List ℕ) → open_at some failed bytes ≡ Ok (l, rest) → Fits version full some failed 111 bytes l rest
unfolding open_at
open_is version full some failed l bytes rest e =
    let g = guard_then (some && not failed) (word_at faults.Word (line (codes "pen")) bytes >>= λ w. Ok (lines.Close Standing, w.1)) faults.End (l, rest) e in
    let tests = both_true some failed g.0 in
    after (word_at faults.Word (line (codes "pen")) bytes) (λ w. Ok (lines.Close Standing, w.1)) (l, rest) g.1 (λ w b1 e1 made.
    let q = parsed_is (lines.Close Standing) l b1 rest made in
    let t1 = word_is faults.Word (line (codes "pen")) bytes b1 w e1 in
    let fits : Fits version full some failed 111 bytes (lines.Close Standing) b1 = record { is = (tests.0, tests.1); spelled = ap (λ (t : List ℕ). 111 ∷ t) t1 } in
    rw (← q.0, ← q.1) fits)

quiet_is : (version : Version) (full some failed : Bool) (l : Line) (bytes rest : List ℕ) → quiet_at (writes_quiet version) some failed bytes ≡ Ok (l, rest) → Fits version full some failed 113 bytes l rest
unfolding quiet_at
quiet_is version full some failed l bytes rest e =
    let d = guard_then (writes_quiet version) (cond (some && not failed) (word_at faults.Word (line (codes "uiet")) bytes >>= λ w. Ok (lines.Close Quiet, w.1)) (Err faults.End)) faults.Word (l, rest) e in
    let g = guard_then (some && not failed) (word_at faults.Word (line (codes "uiet")) bytes >>= λ w. Ok (lines.Close Quiet, w.1)) faults.End (l, rest) d.1 in
    let tests = both_true some failed g.0 in
    after (word_at faults.Word (line (codes "uiet")) bytes) (λ w. Ok (lines.Close Quiet, w.1)) (l, rest) g.1 (λ w b1 e1 made.
    let q = parsed_is (lines.Close Quiet) l b1 rest made in
    let t1 = word_is faults.Word (line (codes "uiet")) bytes b1 w e1 in
    let fits : Fits version full some failed 113 bytes (lines.Close Quiet) b1 = record { is = (d.0, tests.0, tests.1); spelled = ap (λ (t : List ℕ). 113 ∷ t) t1 } in
    rw (← q.0, ← q.1) fits)

failed_is : (version : Version) (full some failed : Bool) (l : Line) (bytes rest : List ℕ) → failed_at failed bytes ≡ Ok (l, rest) → IsLine version full some failed l × (codes "faile" ++ bytes ≡ line_text version l ++ rest)
unfolding failed_at
failed_is version full some failed l bytes rest e =
    let g = guard_then failed (word_at faults.Word (line (codes "d")) bytes >>= λ w. Ok (lines.Close Failed, w.1)) faults.End (l, rest) e in
    after (word_at faults.Word (line (codes "d")) bytes) (λ w. Ok (lines.Close Failed, w.1)) (l, rest) g.1 (λ w b1 e1 made.
    let q = parsed_is (lines.Close Failed) l b1 rest made in
    let t1 = word_is faults.Word (line (codes "d")) bytes b1 w e1 in
    let fits : IsLine version full some failed (lines.Close Failed) × (codes "faile" ++ bytes ≡ line_text version (lines.Close Failed) ++ b1) = (g.0, ap (λ (t : List ℕ). codes "faile" ++ t) t1) in
    rw (← q.0, ← q.1) fits)

fail_is : (version : Version) (full some failed : Bool) (l : Line) (bytes rest : List ℕ) → fail_at full bytes ≡ Ok (l, rest) → IsLine version full some failed l × (codes "fail " ++ bytes ≡ line_text version l ++ rest)
unfolding fail_at
fail_is version full some failed l bytes rest e =
    let g = guard_else full (conf_at 10 bytes >>= λ x. Ok (lines.Entry (Fail x.0), x.1)) faults.TooMany (l, rest) e in
    after (conf_at 10 bytes) (λ x. Ok (lines.Entry (Fail x.0), x.1)) (l, rest) g.1 (λ x b1 e1 made.
    let q = parsed_is (lines.Entry (Fail x)) l b1 rest made in
    let t1 = conf_is 10 x bytes b1 e1 in
    let fits : IsLine version full some failed (lines.Entry (Fail x)) × (codes "fail " ++ bytes ≡ line_text version (lines.Entry (Fail x)) ++ b1) = ((g.0, t1.0), ap (λ (t : List ℕ). codes "fail " ++ t) t1.1 ∙ sym (fail_parts (conf_text x) b1)) in
    rw (← q.0, ← q.1) fits)

ail_is : (version : Version) (full some failed : Bool) (l : Line) (bytes rest : List ℕ) → ail_at full failed bytes ≡ Ok (l, rest) → Fits version full some failed 102 bytes l rest
unfolding ail_at
ail_is version full some failed l bytes rest e =
    after (word_at faults.Word (codes "ail") bytes) (λ w. byte_at w.1 >>= λ b. cond (b.0 == 101) (failed_at failed b.1) (cond (b.0 == 32) (fail_at full b.1) (Err faults.Word))) (l, rest) e (λ w b1 e1 m1.
    after (byte_at b1) (λ b. cond (b.0 == 101) (failed_at failed b.1) (cond (b.0 == 32) (fail_at full b.1) (Err faults.Word))) (l, rest) m1 (λ b b2 e2 m2.
    let t1 = word_is faults.Word (codes "ail") bytes b1 w e1 in
    let t2 = byte_is b1 b b2 e2 in
    let whole : 102 ∷ bytes ≡ codes "fail" ++ b ∷ b2 = ap (λ (t : List ℕ). 102 ∷ t) (t1 ∙ ap (λ (t : List ℕ). codes "ail" ++ t) t2) in
    byte_pick b 101 _ _ _ m2 (λ h k.
    let found = failed_is version full some failed l b2 rest k in
    record { is = found.0; spelled = whole ∙ ap (λ (k : ℕ). codes "fail" ++ k ∷ b2) h ∙ found.1 }) (λ k.
    byte_pick b 32 _ _ _ k (λ h k.
    let found = fail_is version full some failed l b2 rest k in record { is = found.0; spelled = whole ∙ ap (λ (k : ℕ). codes "fail" ++ k ∷ b2) h ∙ found.1 }) (λ k.
    absurd cc))))

failure_is : (version : Version) (full some failed : Bool) (l : Line) (bytes rest : List ℕ) → failure_at full failed bytes ≡ Ok (l, rest) → Fits version full some failed 102 bytes l rest
unfolding failure_at
failure_is version full some failed l bytes rest e = ail_is version full some failed l bytes rest (guard_else (full && not failed) (ail_at full failed bytes) faults.TooMany (l, rest) e).1

-- by the letter
led : (version : Version) (full some failed : Bool) (letter b : ℕ) (bytes mid : List ℕ) (l : Line) (rest : List ℕ) → bytes ≡ b ∷ mid → b ≡ letter → Fits version full some failed letter mid l rest → IsLine version full some failed l × (bytes ≡ line_text version l ++ rest)
led version full some failed letter b bytes mid l rest whole same fits = (fits.is, whole ∙ ap (λ (k : ℕ). k ∷ mid) same ∙ fits.spelled)

pub line_is : (version : Version) (full some failed : Bool) (l : Line) (bytes rest : List ℕ) → line_at version full some failed bytes ≡ Ok (l, rest) → IsLine version full some failed l × (bytes ≡ line_text version l ++ rest)
unfolding line_at
line_is version full some failed l bytes rest e =
    after (byte_at bytes) (λ b. cond (b.0 == 99) (change_at version full b.1) (cond (b.0 == 115) (send_at full b.1) (cond (b.0 == 100) (delivery_at full b.1) (cond (b.0 == 102) (failure_at full failed b.1) (cond (b.0 == 111) (open_at some failed b.1) (cond (b.0 == 113) (quiet_at (writes_quiet version) some failed b.1) (Err faults.Word))))))) (l, rest) e (λ b mid e1 more.
    let whole = byte_is bytes b mid e1 in
    byte_pick b 99 _ _ _ more (λ h k.
    led version full some failed 99 b bytes mid l rest whole h (change_is version full some failed l mid rest k)) (λ k.
    byte_pick b 115 _ _ _ k (λ h k.
    led version full some failed 115 b bytes mid l rest whole h (send_is version full some failed l mid rest k)) (λ k.
    byte_pick b 100 _ _ _ k (λ h k.
    led version full some failed 100 b bytes mid l rest whole h (delivery_is version full some failed l mid rest k)) (λ k.
    byte_pick b 102 _ _ _ k (λ h k.
    led version full some failed 102 b bytes mid l rest whole h (failure_is version full some failed l mid rest k)) (λ k.
    byte_pick b 111 _ _ _ k (λ h k.
    led version full some failed 111 b bytes mid l rest whole h (open_is version full some failed l mid rest k)) (λ k.
    byte_pick b 113 _ _ _ k (λ h k.
    led version full some failed 113 b bytes mid l rest whole h (quiet_is version full some failed l mid rest k)) (λ k.
    absurd cc)))))))

-- ---- a line that is spelled so

members_tail : (version : Version) (ms rest : List ℕ) → IsMembersIn version ms → (bytes : List ℕ) × (members_text (process_text version) ms ++ 10 ∷ rest ≡ 32 ∷ bytes) × (members_at version 32 0 bytes ≡ Ok (ms, rest))
members_tail version [] rest is = absurd (omega (arith, is.some))
members_tail version (p ∷ ps) rest is = (process_text version p ++ (members_text (process_text version) ps ++ 10 ∷ rest), members_first (process_text version) p ps (10 ∷ rest), members_again version 32 0 p ps rest (members_from version (p ∷ ps) is))

change_again : (version : Version) (x : ConfId) (ms rest : List ℕ) → IsConf x → IsMembersIn version ms → change_at version false (codes "onf " ++ (conf_text x ++ (members_text (process_text version) ms ++ 10 ∷ rest))) ≡ Ok (lines.Entry (Conf x ms), rest)
unfolding change_at
change_again version x ms rest is members =
    let t = members_tail version ms rest members in
    rw (t.1, word_again faults.Word (codes "onf ") (conf_text x ++ 32 ∷ t.0), conf_again 32 x t.0 refl is, t.2) refl

send_again : (x : ConfId) (s : Service) (m : MessageName) (rest : List ℕ) → IsConf x → IsMessage m → send_at false (codes "end " ++ (conf_text x ++ 32 ∷ (service_text s ++ (32 ∷ (message_text m ++ 10 ∷ rest))))) ≡ Ok (lines.Entry (Send m x s), rest)
unfolding send_at
send_again x s m rest is fits =
    let t1 = word_again faults.Word (codes "end ") (conf_text x ++ 32 ∷ (service_text s ++ (32 ∷ (message_text m ++ 10 ∷ rest)))) in
    let t2 = conf_again 32 x (service_text s ++ (32 ∷ (message_text m ++ 10 ∷ rest))) refl is in
    let t3 = service_again s (32 ∷ (message_text m ++ 10 ∷ rest)) in
    let t4 : word_at faults.Word (codes " ") (32 ∷ (message_text m ++ 10 ∷ rest)) ≡ Ok (tt, message_text m ++ 10 ∷ rest) = word_again faults.Word (codes " ") (message_text m ++ 10 ∷ rest) in
    rw (t1, t2, t3, t4, message_again 10 m rest refl fits) refl

delivery_again : (x : ConfId) (m : MessageName) (rest : List ℕ) → IsConf x → IsMessage m → delivery_at false (codes "lv " ++ (conf_text x ++ 32 ∷ (message_text m ++ 10 ∷ rest))) ≡ Ok (lines.Entry (Deliver m x), rest)
unfolding delivery_at
delivery_again x m rest is fits =
    rw (word_again faults.Word (codes "lv ") (conf_text x ++ 32 ∷ (message_text m ++ 10 ∷ rest)), conf_again 32 x (message_text m ++ 10 ∷ rest) refl is, message_again 10 m rest refl fits) refl

fail_again : (x : ConfId) (failed : Bool) (rest : List ℕ) → IsConf x → failure_at false failed (codes "ail" ++ 32 ∷ (conf_text x ++ 10 ∷ rest)) ≡ Ok (lines.Entry (Fail x), rest)
unfolding failure_at ail_at fail_at
fail_again x failed rest is = rw (word_again faults.Word (codes "ail") (32 ∷ (conf_text x ++ 10 ∷ rest)), conf_again 10 x rest refl is) refl

pub line_again : (version : Version) (full some failed : Bool) (l : Line) (rest : List ℕ) → IsLine version full some failed l → line_at version full some failed (line_text version l ++ rest) ≡ Ok (l, rest)
unfolding line_at open_at quiet_at failure_at ail_at failed_at word_at
line_again version full some failed (lines.Entry (Conf x ms)) rest is = ap (line_at version full some failed) (change_parts (conf_text x) (members_text (process_text version) ms) rest) ∙ rw is.0 (change_again version x ms rest is.1.0 is.1.1)
line_again version full some failed (lines.Entry (Send m x s)) rest is = ap (line_at version full some failed) (send_parts (conf_text x) (service_text s) (message_text m) rest) ∙ rw is.0 (send_again x s m rest is.1.1 is.1.0)
line_again version full some failed (lines.Entry (Deliver m x)) rest is = ap (line_at version full some failed) (delivery_parts (conf_text x) (message_text m) rest) ∙ rw is.0 (delivery_again x m rest is.1.1 is.1.0)
line_again version full some failed (lines.Entry (Fail x)) rest is = ap (line_at version full some failed) (fail_parts (conf_text x) rest) ∙ rw is.0 (fail_again x failed rest is.1)
line_again version full some failed (lines.Close Standing) rest is = rw (is.0, is.1) refl
line_again version full some failed (lines.Close Failed) rest is = grind arith
line_again version full some failed (lines.Close Quiet) rest is = rw (is.0, is.1, is.2) refl
