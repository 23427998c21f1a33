-- The messages that a member delivers, act by act, and those of all members, one member after the other.
use Rattle.totem_weave.proofs.Common.{◌≡◌, ℕ, ◌+◌, ◌<◌, ◌≤◌, List, [], ◌∷◌, ◌++◌, map, zip, length, take, get_or, Some, Result, Ok, Err, refl, sym, ◌∙◌, ap, arith, take_more, take_all, map_more, RingName, Message, RingFault, RingOut, Act, Ring, Done, act_on, Own, IsAt, own_start, own_after, with_act, with_acts, up_by, Tries}
use Rattle.std.proofs.lemmas.Slice.Zip.{length-zip, get_or-zip}
use Rattle.totem_weave.specs.declared.track.Track.{Track}
use Rattle.totem_weave.proofs.OwnActs.{with_acts-append}

pub done_more : (own : Own) (old new : Ring) (up : List Message) (act : Act) (out : RingOut) → Tries old new (act_on old act) (Some out) → IsAt own old up
    → IsAt (with_act own act) new (up ++ out.handed.items)
done_more own old new up act out tries at = go (act_on old act) refl tries
  where
    go : (r : Result Done RingFault) → act_on old act ≡ r → Tries old new r (Some out) → IsAt (with_act own act) new (up ++ out.handed.items)
    go (Err fault) is tries = absurd tries
    go (Ok done) is tries =
        let e : act_on own.state act ≡ Ok done = rw (← at.state_is) is in
        record {
          state_is = tries.state ∙ ap (λ r. (own_after own act r).state) (sym e);
          up_is = ap (λ ms. ms ++ out.handed.items) at.up_is ∙ ap (λ ms. own.up ++ ms) tries.handed ∙ ap (λ r. (own_after own act r).up) (sym e);
        }

-- one act more
pub acts_more : (own : Own) (acts : List Act) (i : ℕ) (act : Act) → i < length acts → act ≡ get_or acts i act
    → with_acts own (take (i + 1) acts) ≡ with_act (with_acts own (take i acts)) act
acts_more own acts i act lt is =
    ap (with_acts own) (take_more acts i act lt ∙ ap (λ a. take i acts ++ a ∷ []) (sym is)) ∙ with_acts-append own (take i acts) (act ∷ [])

-- one member more
pub ups_more : (ring : RingName) (ids members : List ℕ) (tracks : List Track) (i p : ℕ) (t : Track) (ups : List (ℕ × List Message)) (up : List Message)
    → length tracks ≡ length members → i < length members → p ≡ get_or members i p → t ≡ get_or tracks i t
    → ups ≡ map (up_by ring ids) (take i (zip members tracks)) → up ≡ (with_acts (own_start ring ids t.proc) t.acts.items).up
    → ups ++ (p, up) ∷ [] ≡ map (up_by ring ids) (take (i + 1) (zip members tracks))
ups_more ring ids members tracks i p t ups up each within at_p at_t so_far up_is =
    let pairs : List (ℕ × Track) = zip members tracks in
    let inside : i < length pairs = omega (arith, length-zip members tracks, each, within) in
    let pair : get_or pairs i (p, t) ≡ (p, t) =
    get_or-zip members tracks i (p, t) within (omega arith) ∙ ap (λ (q : ℕ). (q, get_or tracks i t)) (sym at_p) ∙ ap (λ (u : Track). (p, u)) (sym at_t) in
    let last : up_by ring ids (get_or pairs i (p, t)) ≡ (p, up) = ap (up_by ring ids) pair ∙ ap (λ (ms : List Message). (p, ms)) (sym up_is) in
    ap (λ (all : List (ℕ × List Message)). all ++ (p, up) ∷ []) so_far
    ∙ ap (λ (x : ℕ × List Message). map (up_by ring ids) (take i pairs) ++ x ∷ []) (sym last)
    ∙ sym (map_more (up_by ring ids) pairs i (p, t) inside)

-- and all of them
pub ups_all : (ring : RingName) (ids members : List ℕ) (tracks : List Track) (i : ℕ) → length members ≤ i
    → map (up_by ring ids) (take i (zip members tracks)) ≡ map (up_by ring ids) (zip members tracks)
ups_all ring ids members tracks i all = ap (map (up_by ring ids)) (take_all i (zip members tracks) (omega (arith, length-zip members tracks)))
