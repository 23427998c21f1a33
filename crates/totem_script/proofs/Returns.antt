-- The result of a return.
use Rattle.totem_script.proofs.Common.{Contains, slice_index_or, nat_tests, id_of, position_or_len}
use Rattle.std.proofs.Common.{◌≡◌, ◌↔◌, ℕ, zero, suc, ◌<◌, ◌==◌, List, [], ◌∷◌, length, get_or, set, take, drop, true, false, Ok, Err, refl, sym, ap, ◌∙◌, arith}
use Rattle.std.proofs.lemmas.List.{set-get_or, set_split}
use Rattle.std.proofs.lemmas.List.Sums.{passes_at_first}
use Rattle.totem_script.specs.declared.script_fault.ScriptFault.TheVariants.{Members}
use Rattle.totem_script.specs.Actors.{Actor, new_actor, may_return, returned, ring_of_return, IsBelowAll, Rises}
use Rattle.totem_script.specs.Casts.{Returned, IsCast, ids_in, is_known, return_of, with_return}
use Rattle.totem_script.specs.Laws.{ReturnsIfCrashed, IsNextLife}
use Rattle.totem_script.proofs.Casting.{nobody_back, back_at, back_where}
use Rattle.totem_script.proofs.NextLife.{can_return, may_if_can}

-- ---- A process that the script has

below : (p : ℕ) (xs : List Actor) (k : ℕ) (a : Actor) → IsBelowAll p (ids_in xs) → k < length xs → slice_index_or xs k a ≡ a
    → p < id_of a.proc
below p [] k a all inside is = absurd (omega arith)
below p (b ∷ xs) zero a all inside is = rw (← is) all.0
below p (b ∷ xs) (suc k) a all inside is = below p xs k a all.1 (omega arith) is

-- it is the first with its identifier
first_at : (xs : List Actor) (k : ℕ) (a : Actor) → Rises (ids_in xs) → k < length xs → slice_index_or xs k a ≡ a
    → k ≡ position_or_len (λ b. id_of b.proc == id_of a.proc) xs
first_at [] k a rising inside is = absurd (omega arith)
first_at (b ∷ xs) zero a rising inside is = grind (arith, nat_tests)
first_at (b ∷ xs) (suc k) a rising inside is =
    let less = below (id_of b.proc) xs k a rising.0 (omega arith) is in
    let rest = first_at xs k a rising.1 (omega arith) is in
    grind (arith, nat_tests)

pub if_crashed : (actors : List Actor) (a : Actor) → IsCast actors → Contains actors a → ReturnsIfCrashed actors a
if_crashed actors a cast has =
    let few = cast.few in
    let is : return_of actors (id_of a.proc) ≡ back_at (id_of a.proc) actors has.0 a =
    back_where (id_of a.proc) actors has.0 a (first_at actors has.0 a cast.rising has.1 has.2) has.1 ∙ ap (back_at (id_of a.proc) actors has.0) has.2 in
    record {
      comes = (λ ok. grind (arith, nat_tests, can_return a), λ both. grind (arith, nat_tests, may_if_can a both.0));
      place = (λ e can. grind (arith, may_if_can a can), λ never. grind (arith, can_return a));
      too_many = (λ e. grind (arith, nat_tests, can_return a), λ both. grind (arith, nat_tests, may_if_can a both.0));
    }

-- ---- The processes of the script

pub if_unknown : (actors : List Actor) (p : ℕ) → (with_return actors p ≡ Err Members) ↔ (is_known actors p ≡ false)
unfolding return_of
if_unknown [] p = (λ e. refl, λ no. refl)
if_unknown (a ∷ xs) p = (λ e. grind (arith, nat_tests, (if_unknown xs p).0), λ no. grind (arith, nat_tests, (if_unknown xs p).1))

-- ---- The next life

next_at : (actors : List Actor) (p k : ℕ) (d : Actor) (done : Returned) → k ≡ position_or_len (λ a. id_of a.proc == p) actors → k < length actors
    → with_return actors p ≡ Ok done → IsNextLife actors p done
unfolding returned new_actor
next_at actors p k d done at inside is =
    let old : Actor = get_or actors k d in
    let may : may_return old ≡ true = grind (arith, back_where p actors k d) in
    let made : done ≡ record { actors = set actors k (returned old); ring = ring_of_return old } = grind (arith, back_where p actors k d) in
    let less = (can_return old may).life in
    let named : id_of old.proc ≡ p = grind (arith, nat_tests, passes_at_first (λ a. id_of a.proc == p) actors d) in
    rw made (record {
      front = take k actors;
      old = old;
      new = returned old;
      back = drop (suc k) actors;
      before = sym (set-get_or actors k d) ∙ set_split actors k old inside;
      after = set_split actors k (returned old) inside;
      named = named;
      crashed = (can_return old may).crashed;
      same = omega (arith, less, named);
      next = omega (arith, less);
      seq = refl;
      rep = named;
      alone = refl;
      begun = refl;
      kept = refl;
    })

pub next_life_begins : (actors : List Actor) (p : ℕ) (done : Returned) → with_return actors p ≡ Ok done → IsNextLife actors p done
next_life_begins [] p done is = absurd (grind (arith, nobody_back p []))
next_life_begins (a ∷ xs) p done is = next_at (a ∷ xs) p _ a done refl (grind (arith, nobody_back p (a ∷ xs))) is
