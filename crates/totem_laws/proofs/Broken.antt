-- Each specification is met, or broken by no places.
use Rattle.totem_cert.proofs.Common.{List, get_or, Log, SpecNo}
use Rattle.totem_evs.specs.declared.spec.SpecNo.TheVariants as spec
use Rattle.totem_evs.specs.Answers.{TakeTurns, No, Meets}
use Rattle.totem_evs.specs.Synchrony.{IsVirtuallySynchronous}
use Rattle.totem_evs.proofs.Consistent.{not_met, one_of}
use Rattle.totem_evs.proofs.Synchronous.{sound}
use Rattle.totem_evs.proofs.Precedence.{each_log_ordered, each_twins_agree}
use Rattle.totem_laws.specs.Laws.{FaultsAreNotMet, EachIsMet}

pub faults_not_met : FaultsAreNotMet
faults_not_met run faults answered = λ i fault within ok.
    let named = get_or faults i fault in not_met run named.spec named.places ((sound run (No faults) answered).1 i fault within) ok

all_of : (run : List Log) → ((k : SpecNo) → Meets run k) → IsVirtuallySynchronous run
all_of run meets =
    let turn : TakeTurns run = meets spec.Turns in
    record {
      basic = record { no_cycle = meets spec.Cycle; ordered = each_log_ordered run; sent = meets spec.Unsent; once = meets spec.Twice };
      changes = record { together = meets spec.End; in_place = meets spec.Misplaced; one = meets spec.Configuration; turns = turn.each; origin = turn.origin; twins = each_twins_agree run };
      own = meets spec.OwnDelivery;
      atomic = meets spec.Atomicity;
      causal = meets spec.Causality;
      order = meets spec.Order;
      no_gaps = meets spec.Gap;
      safe = record { reaches = meets spec.Safety; installed = meets spec.Installed };
    }

pub each_met : EachIsMet
each_met run = (one_of run, all_of run)
