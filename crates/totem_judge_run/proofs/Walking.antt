-- One walk along a log, entry after entry.
use Rattle.totem_judge_run.proofs.Common.{take_more, ◌≡◌, ◌↔◌, ◌≤◌, ◌+◌, ◌++◌, ◌∷◌, [], ℕ, List, length, take, slice_get, Option, Some, Bool, false, IsTrue, refl, sym, ap, ◌∙◌, arith, option_to_list, append_assoc, append-nil, AllWithin, take_all, slice_get_within, get_or_from_slice_get, All-from_all_within, AllWithin-more, at_read, filter_map-append, ConfId, MsgId, Entry, Deliver, Log, IsFailure, AreRight, Enters, IsLastBefore, Keeps, AddsSend, IsNoSendBetween, message_in, messages_in}
use Rattle.totem_judge_run.specs.declared.first_changes.FirstChanges.{FirstChanges}
use Rattle.totem_judge_run.specs.declared.once_1_4.Once.TheVariants as once
use Rattle.totem_judge_run.specs.Misplaced.{Fits, standing_after}
use Rattle.totem_judge_run.specs.Walked.{IsWalked, last_after}
use Rattle.totem_judge_run.proofs.Behind.{now_before, still_before}
use Rattle.totem_judge_run.proofs.ChangesMet.{more_right}
use Rattle.totem_judge_run.proofs.Walk.{Knows, all_placed, goes_on}

-- what is known before the entry at `at`
pub record SoFar (log : Log) (at : ℕ) (sent sending : List MsgId) (old new : FirstChanges) (standing : Option ConfId) (failed : Bool) (before : Option ℕ) : Type 0 where
  pub placed : Knows log.entries at standing failed
  pub adds : sending ≡ sent ++ messages_in once.Send (take at log.entries)
  pub regular : AllWithin IsNoSendBetween log.entries 0 at
  pub right : AreRight new log at
  pub kept : Keeps old new
  pub last : IsLastBefore log.entries at before

last_more : (entries : List Entry) (at : ℕ) (before : Option ℕ) (e : Entry) → slice_get entries at ≡ Some e → IsLastBefore entries at before → IsLastBefore entries (at + 1) (last_after before at e)
last_more entries at before e h k = grind (arith, now_before, still_before)

-- the list of what was sent has grown by the message of the entry
sent_more : (entries : List Entry) (at : ℕ) (e : Entry) (sent sending more : List MsgId) → slice_get entries at ≡ Some e → more ≡ sending ++ option_to_list (message_in once.Send e)
    → sending ≡ sent ++ messages_in once.Send (take at entries) → more ≡ sent ++ messages_in once.Send (take (at + 1) entries)
sent_more entries at e sent sending more there adds before =
    let within = slice_get_within entries at e there in
    let seen : take (at + 1) entries ≡ take at entries ++ e ∷ [] = take_more entries at e within
    ∙ rw (get_or_from_slice_get entries at e e there) refl in
    rw seen (adds ∙ rw before (append_assoc sent (messages_in once.Send (take at entries)) _ ∙ ap (λ list. sent ++ list) (sym (filter_map-append (message_in once.Send) (take at entries) (e ∷ []) ∙ ap (λ list. messages_in once.Send (take at entries) ++ list) (one_message e)))))
  where
    one_message : (e : Entry) → messages_in once.Send (e ∷ []) ≡ option_to_list (message_in once.Send e)
    one_message e = grind arith

pub so_far_more : (log : Log) (at : ℕ) (e : Entry) (sent sending more : List MsgId) (old new firsts : FirstChanges) (standing : Option ConfId) (failed : Bool) (before : Option ℕ)
    → slice_get log.entries at ≡ Some e → Fits standing e → (IsTrue failed ↔ IsFailure e) → AddsSend sending more e → Enters new firsts log at
    → SoFar log at sent sending old new standing false before → SoFar log (at + 1) sent more old firsts (standing_after standing e) failed (last_after before at e)
so_far_more log at e sent sending more old new firsts standing failed before there fits fails adds enters so = record {
  placed = goes_on log.entries at standing e failed there fits fails so.placed;
  adds = sent_more log.entries at e sent sending more there adds.adds so.adds;
  regular = AllWithin-more IsNoSendBetween log.entries 0 at so.regular (at_read log.entries IsNoSendBetween at e (slice_get_within log.entries at e there) (sym (get_or_from_slice_get log.entries at e e there)) adds.regular);
  right = more_right new firsts log at enters so.right;
  kept = record { each = λ x f is. enters.kept.each x f (so.kept.each x f is) };
  last = last_more log.entries at before e there so.last;
}

-- past a delivery nothing else has to be noted
pub delivered : (log : Log) (at : ℕ) (m : MsgId) (x : ConfId) (sent sending : List MsgId) (old new : FirstChanges) (standing : Option ConfId) (before : Option ℕ)
    → slice_get log.entries at ≡ Some (Deliver m x) → Fits standing (Deliver m x) → SoFar log at sent sending old new standing false before → SoFar log (at + 1) sent sending old new standing false before
delivered log at m x sent sending old new standing before there fits so =
    so_far_more log at (Deliver m x) sent sending sending old new new standing false before there fits (λ h. absurd cc, λ h. absurd h) (record { adds = sym (append-nil sending); regular = tt })
    (record { right = λ y ms change. absurd cc; kept = record { each = λ y f is. is } }) so

pub walked : (log : Log) (at : ℕ) (sent sending : List MsgId) (old new : FirstChanges) (standing : Option ConfId) (failed : Bool) (before : Option ℕ) → length log.entries ≤ at
    → SoFar log at sent sending old new standing failed before → IsWalked sent sending old new log
walked log at sent sending old new standing failed before end so = record {
  placed = all_placed log.entries at standing failed end so.placed;
  sends = record { adds = rw (take_all at log.entries end) at so.adds; regular = All-from_all_within IsNoSendBetween log.entries (λ k d low under. so.regular k d low (omega arith)) };
  changes = record { right = record { each = λ i lt. so.right.each i (omega arith) }; kept = so.kept };
}
