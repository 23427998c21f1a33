-- Lists of one bad entry, or of two, are those that break 1.4 and 2.3.
use Rattle.totem_judge_run.proofs.Common.{arith, inl, inr, List, [], ◌∷◌, refl, Place, Conf, Send, Deliver, Log}
use Rattle.std.proofs.lemmas.Bool.{cases_eq}
use Rattle.totem_evs.specs.Delivery.{DeliversOnce}
use Rattle.totem_evs.specs.Changes.{IsOneConfiguration}
use Rattle.totem_evs.specs.DeliveryFaults.{BreaksTwice}
use Rattle.totem_evs.specs.ChangeFaults.{BreaksConfiguration}
use Rattle.totem_search.specs.Search.{place, HoldsOfNone}
use Rattle.totem_search.specs.Pairs.{IsOneOrTwo}
use Rattle.totem_search.proofs.Deciding.{sure}
use Rattle.totem_search.specs.Bad.{IsForeignChange, AreTwoForms, IsSendBetween, AreTwice}
use Rattle.totem_judge_run.proofs.Decisions.{contains_or_not, same_list_or_not, regular_or_transitional}

pub no_two_forms : (run : List Log) → HoldsOfNone (IsOneOrTwo run IsForeignChange AreTwoForms) → IsOneConfiguration run
no_two_forms run never = record {
  once = λ p i j x (ms, h) (ns, k). sure (cases_eq i j)
      (λ other. never.none (place p i ∷ place p j ∷ []) (i, refl, (Conf x ms, h, (j, refl, (Conf x ns, k, (refl, inl (refl, other)))))));
  members = λ p i q j x ms ns h k. sure (same_list_or_not ms ns)
      (λ other. never.none (place p i ∷ place q j ∷ []) (i, refl, (Conf x ms, h, (j, refl, (Conf x ns, k, (refl, inr other))))));
  own = λ p i x ms h. sure (contains_or_not ms p) (λ foreign. never.none (place p i ∷ []) (i, refl, (Conf x ms, h, foreign)));
}

pub forms_break : (run : List Log) (ps : List Place) → IsOneOrTwo run IsForeignChange AreTwoForms ps → BreaksConfiguration run ps
forms_break run ps h = grind arith

pub breaks_are_forms : (run : List Log) (ps : List Place) → BreaksConfiguration run ps → IsOneOrTwo run IsForeignChange AreTwoForms ps
breaks_are_forms run ps h = grind arith

pub nothing_twice : (run : List Log) → HoldsOfNone (IsOneOrTwo run IsSendBetween AreTwice) → DeliversOnce run
nothing_twice run never = record {
  one_send = λ p i q j m x y (s, h) (t, k). elim (cases_eq p q) [
    | inr other ↦ absurd (never.none (place p i ∷ place q j ∷ []) (i, refl, (Send m x s, h, (j, refl, (Send m y t, k, (refl, inl other))))))
    | inl procs ↦ (
      procs,
      sure (cases_eq i j)
          (λ other. never.none (place p i ∷ place q j ∷ []) (i, refl, (Send m x s, h, (j, refl, (Send m y t, k, (refl, inr other)))))),
    )
  ];
  regular = λ p i m x (s, h). elim (regular_or_transitional x) [
    | inl regular ↦ regular
    | inr between ↦ absurd (never.none (place p i ∷ []) (i, refl, (Send m x s, h, between)))
  ];
  one_delivery = λ p i j m x y h k. sure (cases_eq i j)
      (λ other. never.none (place p i ∷ place p j ∷ []) (i, refl, (Deliver m x, h, (j, refl, (Deliver m y, k, (refl, refl, other))))));
}

pub twice_breaks : (run : List Log) (ps : List Place) → IsOneOrTwo run IsSendBetween AreTwice ps → BreaksTwice run ps
twice_breaks run ps h = grind arith

pub breaks_are_twice : (run : List Log) (ps : List Place) → BreaksTwice run ps → IsOneOrTwo run IsSendBetween AreTwice ps
breaks_are_twice run ps h = grind arith
