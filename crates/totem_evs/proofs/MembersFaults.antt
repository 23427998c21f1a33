-- Where a fault of a run's text is: members that are not ascending, and what a limit refuses.
use Rattle.totem_evs.proofs.Common.{◌==◌, nat_le, codes, ◌↔◌, ◌≡◌, ◌≢◌, ℕ, zero, suc, ◌<◌, ◌≤◌, ◌⊎◌, inl, inr, List, [], ◌∷◌, ◌++◌, length, Bool, true, false, cond, Ok, Err, refl, sym, ap, subst, ◌∙◌, append_assoc, arith, Version, id_of, process_then_is, process_then_again, nat_tests, ConfId, TextFault, ◌>>=◌, conf_text, IsConf, last_of, taken, word_is, word_again, conf_is, conf_again, IsMembersIn, members_text, writes_quiet, BeginsEntry, HasManyMembers, IsMemberBelow}
use Rattle.totem_names.specs.Processes.{process_text, process_then, IsProcessIn}
use Rattle.totem_names.specs.declared.fault.TextFault.TheVariants as faults
use Rattle.totem_names.specs.Numbers.{is_digit, word_at}
use Rattle.totem_names.specs.Parsers.{conf_at}
use Rattle.totem_evs.specs.declared.lines.Line.{Line}
use Rattle.totem_evs.specs.declared.lines.Line.TheVariants as lines
use Rattle.totem_evs.specs.declared.entry.Entry.TheVariants.{Conf}
use Rattle.totem_evs.specs.RunGrammar.{members_at, change_at, send_at, delivery_at, fail_at, ail_at, failure_at, line_at}
use Rattle.totem_evs.proofs.FromLeft.{Rises, are_members, members_from}
use Rattle.totem_evs.proofs.SpelledLine.{not_within, members_first}
use Rattle.totem_evs.proofs.OnlyFaults.{Only, OfNames, ok_only, fault_only, cond_only, bind_only, byte_only, word_only, process_only, conf_only, sent_only, send_only, delivered_only, delivery_only, lost_only, open_only, quiet_only, failed_only, failure_only}
use Rattle.totem_evs.proofs.PartFaults.{bind_case, byte_pick, line_case, ail_case}

-- ---- TooMany

abbrev pub NotMany : TextFault → Type 0
NotMany faults.Header = Unit {0}
NotMany faults.Word = Unit {0}
NotMany faults.Number = Unit {0}
NotMany faults.Order = Unit {0}
NotMany faults.Members = Unit {0}
NotMany faults.End = Unit {0}
NotMany faults.Truncated = Unit {0}
NotMany faults.TooMany = ⊥

pub names_not_many : OfNames NotMany
names_not_many = record { word = tt; number = tt; short = tt }

-- ascending members, the greatest number allowed, and a space
record IsFull (version : Version) (room last : ℕ) (bytes : List ℕ) : Type 0 where
  members : List ℕ
  rest : List ℕ
  rises : Rises version last members
  many : length members ≡ room
  is : 32 ∷ bytes ≡ members_text (process_text version) members ++ 32 ∷ rest

one_member : (version : Version) (p : ℕ) (ms bytes mid rest : List ℕ) → bytes ≡ process_text version p ++ 32 ∷ mid → 32 ∷ mid ≡ members_text (process_text version) ms ++ 32 ∷ rest → 32 ∷ bytes ≡ members_text (process_text version) (p ∷ ms) ++ 32 ∷ rest
one_member version p ms bytes mid rest e f =
    ap (λ (t : List ℕ). 32 ∷ t) (e ∙ ap (λ (t : List ℕ). process_text version p ++ t) f ∙ sym (append_assoc (process_text version p) (members_text (process_text version) ms) (32 ∷ rest)))

members_full : (version : Version) (room last : ℕ) (bytes : List ℕ) → members_at version room last bytes ≡ Err faults.TooMany → IsFull version room last bytes
unfolding members_at
members_full version zero last bytes e = record { members = []; rest = bytes; rises = tt; many = refl; is = refl }
members_full version (suc room) last bytes e =
    bind_case (process_then version bytes) (λ p. cond (nat_le (id_of p.0.0) last) (Err faults.Members) (cond (p.0.1 == 10) (Ok (p.0.0 ∷ [], p.1)) (cond (p.0.1 == 32) (members_at version room (id_of p.0.0) p.1 >>= λ others. Ok (p.0.0 ∷ others.0, others.1)) (Err faults.Word)))) faults.TooMany e
    (λ k. absurd ((process_only NotMany version bytes names_not_many).fault faults.TooMany k))
    (λ p mid e1 k.
    let x = process_then_is version p.0 p.1 bytes mid e1 in
    let is_process : IsProcessIn version p.0 = record { id_fits = x.id_fits; life_fits = x.life_fits; first = x.first } in
    elim (taken (nat_le (id_of p.0) last) (Err faults.Members) (cond (p.1 == 10) (Ok (p.0 ∷ [], mid)) (cond (p.1 == 32) (members_at version room (id_of p.0) mid >>= λ others. Ok (p.0 ∷ others.0, others.1)) (Err faults.Word))) (Err faults.TooMany) k) [
      | inl y ↦ absurd ((fault_only {A = List ℕ} NotMany faults.Members tt).fault faults.TooMany y.1)
      | inr y ↦ byte_pick p.1 10 (Ok (p.0 ∷ [], mid)) (cond (p.1 == 32) (members_at version room (id_of p.0) mid >>= λ others. Ok (p.0 ∷ others.0, others.1)) (Err faults.Word)) (Err faults.TooMany) y.1
          (λ h k. absurd ((ok_only {A = List ℕ} NotMany (p.0 ∷ [], mid)).fault faults.TooMany k))
          (λ k. byte_pick p.1 32 (members_at version room (id_of p.0) mid >>= λ others. Ok (p.0 ∷ others.0, others.1)) (Err faults.Word) (Err faults.TooMany) k
          (λ h k. bind_case (members_at version room (id_of p.0) mid) (λ others. Ok (p.0 ∷ others.0, others.1)) faults.TooMany k
          (λ k.
          let tail = members_full version room (id_of p.0) mid k in
          record {
            members = p.0 ∷ tail.members;
            rest = tail.rest;
            rises = (not_within (id_of p.0) last y.0, is_process, tail.rises);
            many = ap suc tail.many;
            is = one_member version p.0 tail.members bytes mid tail.rest (x.spelled ∙ ap (λ (b : ℕ). process_text version p.0 ++ b ∷ mid) h) tail.is;
          })
          (λ others left e2 k. absurd ((ok_only {A = List ℕ} NotMany (p.0 ∷ others, left)).fault faults.TooMany k)))
          (λ k. absurd ((fault_only {A = List ℕ} NotMany faults.Word tt).fault faults.TooMany k)))
    ])

full_members : (version : Version) (room last p : ℕ) (ps rest : List ℕ) → Rises version last (p ∷ ps) → length (p ∷ ps) ≡ room → members_at version room last (process_text version p ++ (members_text (process_text version) ps ++ 32 ∷ rest)) ≡ Err faults.TooMany
unfolding members_at
full_members version zero last p ps rest h many = absurd (omega arith)
full_members version (suc room) last p [] rest h many =
    let above : nat_le (id_of p) last ≡ false = (let lt = h.0 in grind (arith, nat_tests)) in
    let none : room ≡ 0 = omega arith in
    rw (process_then_again version p 32 rest refl h.1, above, none) refl
full_members version (suc room) last p (q ∷ ps) rest h many =
    let above : nat_le (id_of p) last ≡ false = (let lt = h.0 in grind (arith, nat_tests)) in
    let regrouped : members_text (process_text version) (q ∷ ps) ++ 32 ∷ rest ≡ 32 ∷ (process_text version q ++ (members_text (process_text version) ps ++ 32 ∷ rest)) = members_first (process_text version) q ps (32 ∷ rest) in
    rw (regrouped, process_then_again version p 32 (process_text version q ++ (members_text (process_text version) ps ++ 32 ∷ rest)) refl h.1, above, full_members version room (id_of p) q ps rest h.2 (omega arith)) refl

-- a change up to its members
change_text : (x t u : List ℕ) (rest : List ℕ) → 32 ∷ rest ≡ t ++ u → codes "onf " ++ (x ++ 32 ∷ rest) ≡ codes "onf " ++ (x ++ (t ++ u))
change_text x t u rest e = ap (λ (k : List ℕ). codes "onf " ++ (x ++ k)) e

change_members : {P : Type 0} (version : Version) (Not : TextFault → Type 0) (bytes : List ℕ) (f : TextFault) → OfNames Not → (Not f → ⊥) → change_at version false bytes ≡ Err f
    → ((x : ConfId) (rest : List ℕ) → IsConf x → bytes ≡ codes "onf " ++ (conf_text x ++ 32 ∷ rest) → members_at version 32 0 rest ≡ Err f → P) → P
unfolding change_at
change_members version Not bytes f names never e then =
    bind_case (word_at faults.Word (codes "onf ") bytes) (λ w. conf_at 32 w.1 >>= λ x. members_at version 32 0 x.1 >>= λ members. Ok (lines.Entry (Conf x.0 members.0), members.1)) f e
    (λ k. absurd (never ((word_only Not faults.Word (codes "onf ") bytes names.word names.short).fault f k)))
    (λ w b1 e1 k. bind_case (conf_at 32 b1) (λ x. members_at version 32 0 x.1 >>= λ members. Ok (lines.Entry (Conf x.0 members.0), members.1)) f k
    (λ k. absurd (never ((conf_only Not 32 b1 names).fault f k)))
    (λ x b2 e2 k. bind_case (members_at version 32 0 b2) (λ members. Ok (lines.Entry (Conf x members.0), members.1)) f k
    (λ k. let y = conf_is 32 x b1 b2 e2 in then x b2 y.0 (word_is faults.Word (codes "onf ") bytes b1 w e1 ∙ ap (λ (t : List ℕ). codes "onf " ++ t) y.1) k)
    (λ members left e3 k. absurd cc)))

members_change : (version : Version) (x : ConfId) (rest : List ℕ) (f : TextFault) → IsConf x → members_at version 32 0 rest ≡ Err f → change_at version false (codes "onf " ++ (conf_text x ++ 32 ∷ rest)) ≡ Err f
unfolding change_at
members_change version x rest f is e = rw (word_again faults.Word (codes "onf ") (conf_text x ++ 32 ∷ rest)) (rw (conf_again 32 x rest refl is) (rw e refl))

change_many : (version : Version) (bytes rest : List ℕ) → bytes ≡ 99 ∷ rest → change_at version false rest ≡ Err faults.TooMany → HasManyMembers version bytes
change_many version bytes rest is e =
    change_members version NotMany rest faults.TooMany names_not_many (λ no'. no') e (λ x left fits text k.
    let m = members_full version 32 0 left k in
    record {
      conf = x;
      members = m.members;
      rest = m.rest;
      conf_fits = fits;
      are = are_members version m.members (record { some = omega (arith, m.many); few = omega (arith, m.many); rises = m.rises });
      many = m.many;
      is = is ∙ ap (λ (t : List ℕ). 99 ∷ t) (text ∙ change_text (conf_text x) (members_text (process_text version) m.members) (32 ∷ m.rest) left m.is);
    })

many_change : (version : Version) (bytes : List ℕ) → HasManyMembers version bytes → (rest : List ℕ) × (bytes ≡ 99 ∷ rest) × (change_at version false rest ≡ Err faults.TooMany)
many_change version bytes h = go h.members h.are h.many h.is
  where
    go : (ms : List ℕ) → IsMembersIn version ms → length ms ≡ 32 → bytes ≡ codes "conf " ++ (conf_text h.conf ++ (members_text (process_text version) ms ++ 32 ∷ h.rest)) → (rest : List ℕ) × (bytes ≡ 99 ∷ rest) × (change_at version false rest ≡ Err faults.TooMany)
    go [] are many is = absurd (omega arith)
    go (p ∷ ps) are many is =
        let from = members_from version (p ∷ ps) are in
        let tail = process_text version p ++ (members_text (process_text version) ps ++ 32 ∷ h.rest) in
        let regrouped : members_text (process_text version) (p ∷ ps) ++ 32 ∷ h.rest ≡ 32 ∷ tail = members_first (process_text version) p ps (32 ∷ h.rest) in (
          codes "onf " ++ (conf_text h.conf ++ 32 ∷ tail),
          is ∙ ap (λ (t : List ℕ). codes "conf " ++ (conf_text h.conf ++ t)) regrouped,
          members_change version h.conf tail faults.TooMany h.conf_fits (full_members version 32 0 p ps h.rest from.rises many),
        )

abbrev ManyIn : Version → Bool → Bool → List ℕ → Type 0
ManyIn version full failed bytes = ((full ≡ true) × BeginsEntry failed bytes) ⊎ ((full ≡ false) × HasManyMembers version bytes)

full_failure : (failed : Bool) (bytes rest : List ℕ) → bytes ≡ 102 ∷ rest → failure_at true failed rest ≡ Err faults.TooMany → BeginsEntry failed bytes
unfolding failure_at
full_failure false bytes rest is e = inr (inl (rest, refl, is))
full_failure true bytes rest is e =
    ail_case true true rest faults.TooMany (λ h. absurd cc) (λ h. absurd cc) e
    (λ more behind k. absurd ((failed_only NotMany true more names_not_many tt).fault faults.TooMany k))
    (λ more behind k. inr (inr (more, refl, is ∙ ap (λ (t : List ℕ). 102 ∷ t) behind)))

few_failure : (failed : Bool) (rest : List ℕ) → Only NotMany (failure_at false failed rest)
unfolding failure_at ail_at
few_failure failed rest =
    let names = names_not_many in search (fault_only, cond_only, bind_only, byte_only, word_only, failed_only, lost_only) depth 12

line_many : (version : Version) (full some failed : Bool) (bytes : List ℕ) → line_at version full some failed bytes ≡ Err faults.TooMany → ManyIn version full failed bytes
line_many version true some failed bytes e =
    line_case version true some failed bytes faults.TooMany (λ h. absurd cc) (λ h. absurd cc) e
    (λ rest is k. inl (refl, inl (rest, inl is)))
    (λ rest is k. inl (refl, inl (rest, inr (inl is))))
    (λ rest is k. inl (refl, inl (rest, inr (inr is))))
    (λ rest is k. inl (refl, full_failure failed bytes rest is k))
    (λ rest is k. absurd ((open_only NotMany some failed rest names_not_many tt).fault faults.TooMany k))
    (λ rest is k. absurd ((quiet_only NotMany (writes_quiet version) some failed rest names_not_many tt).fault faults.TooMany k))
line_many version false some failed bytes e =
    line_case version false some failed bytes faults.TooMany (λ h. absurd cc) (λ h. absurd cc) e
    (λ rest is k. inr (refl, change_many version bytes rest is k))
    (λ rest is k. absurd ((sent_only NotMany rest names_not_many).fault faults.TooMany k))
    (λ rest is k. absurd ((delivered_only NotMany rest names_not_many).fault faults.TooMany k))
    (λ rest is k. absurd ((few_failure failed rest).fault faults.TooMany k))
    (λ rest is k. absurd ((open_only NotMany some failed rest names_not_many tt).fault faults.TooMany k))
    (λ rest is k. absurd ((quiet_only NotMany (writes_quiet version) some failed rest names_not_many tt).fault faults.TooMany k))

many_line : (version : Version) (full some failed : Bool) (bytes : List ℕ) → ManyIn version full failed bytes → line_at version full some failed bytes ≡ Err faults.TooMany
unfolding line_at change_at send_at delivery_at failure_at ail_at fail_at word_at
many_line version full some failed bytes (inl (is_full, inl (rest, inl is))) = rw (is, is_full) refl
many_line version full some failed bytes (inl (is_full, inl (rest, inr (inl is)))) = rw (is, is_full) refl
many_line version full some failed bytes (inl (is_full, inl (rest, inr (inr is)))) = rw (is, is_full) refl
many_line version full some failed bytes (inl (is_full, inr (inl (rest, ends, is)))) = rw (is, is_full, ends) refl
many_line version full some failed bytes (inl (is_full, inr (inr (rest, ends, is)))) = rw (is, is_full, ends) refl
many_line version full some failed bytes (inr (not_full, h)) = let x = many_change version bytes h in rw (x.1, not_full) x.2

pub many_exactly : (version : Version) (full some failed : Bool) (bytes : List ℕ) → (line_at version full some failed bytes ≡ Err faults.TooMany) ↔ (((full ≡ true) × BeginsEntry failed bytes) ⊎ ((full ≡ false) × HasManyMembers version bytes))
many_exactly version full some failed bytes = (line_many version full some failed bytes, many_line version full some failed bytes)

-- ---- Members

abbrev pub NotMembers : TextFault → Type 0
NotMembers f = f ≢ faults.Members

pub names_not_members : OfNames NotMembers
names_not_members = record { word = λ h. absurd cc; number = λ h. absurd cc; short = λ h. absurd cc }

-- the identifier of the last
last_from : ℕ → List ℕ → ℕ
last_from last [] = last
last_from last (p ∷ ps) = last_from (id_of p) ps

last_from_end : (last x : ℕ) (front : List ℕ) → last_from last (front ++ x ∷ []) ≡ id_of x
unfolding last_from
last_from_end last x [] = refl
last_from_end last x (p ∷ front) = last_from_end (id_of p) x front

-- ascending members, and one that is not above them
record Falls (version : Version) (room last : ℕ) (bytes : List ℕ) : Type 0 where
  members : List ℕ
  member : ℕ
  byte : ℕ
  rest : List ℕ
  rises : Rises version last members
  few : length members < room
  fits : IsProcessIn version member
  below : id_of member ≤ last_from last members
  complete : is_digit byte ≡ false
  is : 32 ∷ bytes ≡ members_text (process_text version) members ++ 32 ∷ (process_text version member ++ byte ∷ rest)

pub within_is : (a b : ℕ) → nat_le a b ≡ true → a ≤ b
within_is a b h = grind (arith, nat_tests)

members_fall : (version : Version) (room last : ℕ) (bytes : List ℕ) → members_at version room last bytes ≡ Err faults.Members → Falls version room last bytes
unfolding members_at last_from
members_fall version zero last bytes e = absurd ((fault_only {A = List ℕ} NotMembers faults.TooMany (λ h. absurd cc)).fault faults.Members e refl)
members_fall version (suc room) last bytes e =
    bind_case (process_then version bytes) (λ p. cond (nat_le (id_of p.0.0) last) (Err faults.Members) (cond (p.0.1 == 10) (Ok (p.0.0 ∷ [], p.1)) (cond (p.0.1 == 32) (members_at version room (id_of p.0.0) p.1 >>= λ others. Ok (p.0.0 ∷ others.0, others.1)) (Err faults.Word)))) faults.Members e
    (λ k. absurd ((process_only NotMembers version bytes names_not_members).fault faults.Members k refl))
    (λ p mid e1 k.
    let x = process_then_is version p.0 p.1 bytes mid e1 in
    let is_process : IsProcessIn version p.0 = record { id_fits = x.id_fits; life_fits = x.life_fits; first = x.first } in
    elim (taken (nat_le (id_of p.0) last) (Err faults.Members) (cond (p.1 == 10) (Ok (p.0 ∷ [], mid)) (cond (p.1 == 32) (members_at version room (id_of p.0) mid >>= λ others. Ok (p.0 ∷ others.0, others.1)) (Err faults.Word))) (Err faults.Members) k) [
      | inl y ↦ record {
        members = [];
        member = p.0;
        byte = p.1;
        rest = mid;
        rises = tt;
        few = omega arith;
        fits = is_process;
        below = within_is (id_of p.0) last y.0;
        complete = x.behind;
        is = ap (λ (t : List ℕ). 32 ∷ t) x.spelled;
      }
      | inr y ↦ byte_pick p.1 10 (Ok (p.0 ∷ [], mid)) (cond (p.1 == 32) (members_at version room (id_of p.0) mid >>= λ others. Ok (p.0 ∷ others.0, others.1)) (Err faults.Word)) (Err faults.Members) y.1
          (λ h k. absurd ((ok_only {A = List ℕ} NotMembers (p.0 ∷ [], mid)).fault faults.Members k refl))
          (λ k. byte_pick p.1 32 (members_at version room (id_of p.0) mid >>= λ others. Ok (p.0 ∷ others.0, others.1)) (Err faults.Word) (Err faults.Members) k
          (λ h k. bind_case (members_at version room (id_of p.0) mid) (λ others. Ok (p.0 ∷ others.0, others.1)) faults.Members k
          (λ k.
          let tail = members_fall version room (id_of p.0) mid k in
          record {
            members = p.0 ∷ tail.members;
            member = tail.member;
            byte = tail.byte;
            rest = tail.rest;
            rises = (not_within (id_of p.0) last y.0, is_process, tail.rises);
            few = omega (arith, tail.few);
            fits = tail.fits;
            below = tail.below;
            complete = tail.complete;
            is = one_member version p.0 tail.members bytes mid (process_text version tail.member ++ tail.byte ∷ tail.rest) (x.spelled ∙ ap (λ (b : ℕ). process_text version p.0 ++ b ∷ mid) h) tail.is;
          })
          (λ others left e2 k. absurd ((ok_only {A = List ℕ} NotMembers (p.0 ∷ others, left)).fault faults.Members k refl)))
          (λ k. absurd ((fault_only {A = List ℕ} NotMembers faults.Word (λ h. absurd cc)).fault faults.Members k refl)))
    ])

-- what follows the space before these members
abbrev behind : Version → List ℕ → List ℕ → List ℕ
behind version [] tail = tail
behind version (p ∷ ps) tail = process_text version p ++ (members_text (process_text version) ps ++ 32 ∷ tail)

behind_space : (version : Version) (ps tail : List ℕ) → members_text (process_text version) ps ++ 32 ∷ tail ≡ 32 ∷ behind version ps tail
behind_space version [] tail = refl
behind_space version (p ∷ ps) tail = members_first (process_text version) p ps (32 ∷ tail)

fall_members : (version : Version) (room last : ℕ) (ms : List ℕ) (m b : ℕ) (rest : List ℕ) → Rises version last ms → length ms < room → IsProcessIn version m → id_of m ≤ last_from last ms → is_digit b ≡ false → members_at version room last (behind version ms (process_text version m ++ b ∷ rest)) ≡ Err faults.Members
unfolding members_at last_from
fall_members version zero last ms m b rest rises few fits below complete = absurd (omega arith)
fall_members version (suc room) last [] m b rest rises few fits below complete =
    let test : nat_le (id_of m) last ≡ true = grind (arith, nat_tests) in
    rw (process_then_again version m b rest complete fits, test) refl
fall_members version (suc room) last (p ∷ ps) m b rest rises few fits below complete =
    let above : nat_le (id_of p) last ≡ false = (let lt = rises.0 in grind (arith, nat_tests)) in
    let tail = process_text version m ++ b ∷ rest in
    rw (behind_space version ps tail, process_then_again version p 32 (behind version ps tail) refl rises.1, above, fall_members version room (id_of p) ps m b rest rises.2 (omega arith) fits below complete) refl

fallen : (version : Version) (bytes : List ℕ) (x : ConfId) (left : List ℕ) → IsConf x → bytes ≡ codes "conf " ++ (conf_text x ++ 32 ∷ left) → (ms : List ℕ) (m b : ℕ) (tail : List ℕ) → Rises version 0 ms → length ms < 32 → IsProcessIn version m → id_of m ≤ last_from 0 ms → is_digit b ≡ false
    → 32 ∷ left ≡ members_text (process_text version) ms ++ 32 ∷ (process_text version m ++ b ∷ tail) → IsMemberBelow version false bytes
unfolding last_from
fallen version bytes x left fits text [] m b tail rises few member below complete is = absurd (omega (arith, member.id_fits.positive))
fallen version bytes x left fits text (q ∷ qs) m b tail rises few member below complete is =
    let y = last_of q qs in
    let same : q ∷ qs ≡ y.0 ++ y.1 ∷ [] = y.2 in
    record {
      conf = x;
      front = y.0;
      above = y.1;
      member = m;
      byte = b;
      rest = tail;
      room = refl;
      conf_fits = fits;
      members = subst (IsMembersIn version) same (are_members version (q ∷ qs) (record { some = omega arith; few = omega (arith, few); rises = rises }));
      few = subst (λ (ms : List ℕ). length ms < 32) same few;
      fits = member;
      below = subst (λ (n : ℕ). id_of m ≤ n) (ap (last_from 0) same ∙ last_from_end 0 y.1 y.0) below;
      complete = complete;
      is = subst (λ (ms : List ℕ). bytes ≡ codes "conf " ++ (conf_text x ++ (members_text (process_text version) ms ++ 32 ∷ (process_text version m ++ b ∷ tail)))) same (text ∙ ap (λ (t : List ℕ). codes "conf " ++ (conf_text x ++ t)) is);
    }

change_fall : (version : Version) (bytes rest : List ℕ) → bytes ≡ 99 ∷ rest → change_at version false rest ≡ Err faults.Members → IsMemberBelow version false bytes
change_fall version bytes rest is e =
    change_members version NotMembers rest faults.Members names_not_members (λ no'. no' refl) e (λ x left fits text k.
    let m = members_fall version 32 0 left k in
    fallen version bytes x left fits (is ∙ ap (λ (t : List ℕ). 99 ∷ t) text) m.members m.member m.byte m.rest m.rises m.few m.fits m.below m.complete m.is)

fall_change : (version : Version) (bytes : List ℕ) → IsMemberBelow version false bytes → (rest : List ℕ) × (bytes ≡ 99 ∷ rest) × (change_at version false rest ≡ Err faults.Members)
fall_change version bytes h =
    let ms = h.front ++ h.above ∷ [] in
    let tail = process_text version h.member ++ h.byte ∷ h.rest in
    let from = members_from version ms h.members in
    let below : id_of h.member ≤ last_from 0 ms = rw (last_from_end 0 h.above h.front) h.below in (
      codes "onf " ++ (conf_text h.conf ++ 32 ∷ behind version ms tail),
      h.is ∙ ap (λ (t : List ℕ). codes "conf " ++ (conf_text h.conf ++ t)) (behind_space version ms tail),
      members_change version h.conf (behind version ms tail) faults.Members h.conf_fits (fall_members version 32 0 ms h.member h.byte h.rest from.rises h.few h.fits below h.complete),
    )

-- a limit that is reached is TooMany
full_change : (version : Version) (rest : List ℕ) → change_at version true rest ≡ Err faults.Members → ⊥
unfolding change_at
full_change version rest e = (fault_only {A = Line} NotMembers faults.TooMany (λ h. absurd cc)).fault faults.Members e refl

line_fall : (version : Version) (full some failed : Bool) (bytes : List ℕ) → line_at version full some failed bytes ≡ Err faults.Members → IsMemberBelow version full bytes
line_fall version full some failed bytes e =
    line_case version full some failed bytes faults.Members (λ h. absurd cc) (λ h. absurd cc) e
    (λ rest is k. change full rest is k)
    (λ rest is k. absurd ((send_only NotMembers full rest names_not_members (λ h. absurd cc)).fault faults.Members k refl))
    (λ rest is k. absurd ((delivery_only NotMembers full rest names_not_members (λ h. absurd cc)).fault faults.Members k refl))
    (λ rest is k. absurd ((failure_only NotMembers full failed rest names_not_members (λ h. absurd cc) (λ h. absurd cc)).fault faults.Members k refl))
    (λ rest is k. absurd ((open_only NotMembers some failed rest names_not_members (λ h. absurd cc)).fault faults.Members k refl))
    (λ rest is k. absurd ((quiet_only NotMembers (writes_quiet version) some failed rest names_not_members (λ h. absurd cc)).fault faults.Members k refl))
  where
    change : (full : Bool) (rest : List ℕ) → bytes ≡ 99 ∷ rest → change_at version full rest ≡ Err faults.Members → IsMemberBelow version full bytes
    change true rest is k = absurd (full_change version rest k)
    change false rest is k = change_fall version bytes rest is k

fall_line : (version : Version) (full some failed : Bool) (bytes : List ℕ) → IsMemberBelow version full bytes → line_at version full some failed bytes ≡ Err faults.Members
unfolding line_at
fall_line version true some failed bytes h = absurd (let k = h.room in cc)
fall_line version false some failed bytes h = let x = fall_change version bytes h in rw x.1 x.2

pub members_exactly : (version : Version) (full some failed : Bool) (bytes : List ℕ) → (line_at version full some failed bytes ≡ Err faults.Members) ↔ IsMemberBelow version full bytes
members_exactly version full some failed bytes = (line_fall version full some failed bytes, fall_line version full some failed bytes)
