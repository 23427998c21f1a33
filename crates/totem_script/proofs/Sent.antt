-- Packets that are put on their way, one after the other.
use Rattle.totem_script.proofs.Common.{◌≡◌, ℕ, ◌<◌, ◌≤◌, ◌+◌, ◌==◌, ◌&&◌, List, [], ◌∷◌, ◌++◌, length, get_or, drop, Bool, true, false, not, Option, sym, ap, ◌∙◌, append_assoc, append-nil, drop_more, drop_all, id_of, Packet, Sending, Actor}
use Rattle.std.proofs.lemmas.Grind.{flat_map-append}
use Rattle.totem_script.specs.Scenes.{Queue, may_pass, to_others, posted, posted_all}

module _ (cut : Option (List (List ℕ))) (from : ℕ) (packet : Packet) (actors : List Actor) (start now : Queue) (i : ℕ) (a : Actor)
    (inside : i < length actors) (is : a ≡ get_or actors i a)
    (so_far : start ++ to_others cut from packet actors ≡ now ++ to_others cut from packet (drop i actors)) where
  split : start ++ to_others cut from packet actors ≡ now ++ to_others cut from packet (a ∷ drop (i + 1) actors)
  split = so_far ∙ ap (λ (l : List Actor). now ++ to_others cut from packet l) (drop_more actors i a inside ∙ ap (λ (b : Actor). b ∷ drop (i + 1) actors) (sym is))

  pub passed_by : (b : Bool) (p : ℕ) → p ≡ id_of a.proc → b ≡ not (p == from) && may_pass cut from p → b ≡ false
      → start ++ to_others cut from packet actors ≡ now ++ to_others cut from packet (drop (i + 1) actors)
  unfolding to_others
  passed_by b p same test out = let off = rw same at (sym test ∙ out) in split ∙ rw off

  pub reached : (b : Bool) (p : ℕ) → p ≡ id_of a.proc → b ≡ not (p == from) && may_pass cut from p → b ≡ true → (copy : Packet) → copy ≡ packet
      → (next : Queue) → next ≡ now ++ (p, copy) ∷ []
      → start ++ to_others cut from packet actors ≡ next ++ to_others cut from packet (drop (i + 1) actors)
  unfolding to_others
  reached b p same test on copy is_copy next more =
      let goes = rw same at (sym test ∙ on) in
      split ∙ rw (goes, more, same, is_copy, append_assoc)

pub all_reached : (cut : Option (List (List ℕ))) (from : ℕ) (packet : Packet) (actors : List Actor) (start now : Queue) (i : ℕ) → length actors ≤ i
    → start ++ to_others cut from packet actors ≡ now ++ to_others cut from packet (drop i actors) → start ++ to_others cut from packet actors ≡ now
unfolding to_others
all_reached cut from packet actors start now i end so_far =
    so_far ∙ ap (λ (l : List Actor). now ++ to_others cut from packet l) (drop_all i actors end) ∙ append-nil now

module _ (cut : Option (List (List ℕ))) (actors : List Actor) (from : ℕ) (start : Queue) where
  pub none_posted : start ≡ start ++ posted_all cut actors from []
  unfolding posted_all
  none_posted = sym (append-nil start)

  pub one_posted : (now next : Queue) (before : List Sending) (sending : Sending) → now ≡ start ++ posted_all cut actors from before
      → next ≡ now ++ posted cut actors from sending → next ≡ start ++ posted_all cut actors from (before ++ sending ∷ [])
  unfolding posted_all
  one_posted now next before sending so_far more =
      more ∙ rw (so_far, flat_map-append (posted cut actors from) before (sending ∷ []), append-nil (posted cut actors from sending)) (append_assoc start _ _)
