use Rattle.totem_plain.proofs.Common.{[], ◌∷◌, refl, arith, IfOk-weaker}
use Rattle.totem_evs.specs.declared.spec.SpecNo.TheVariants as spec
use Rattle.totem_plain.proofs.Listing.{each_then}
use Rattle.totem_plain.proofs.passes.pass_d.Goals as goal

pub faults_of-requires-3 : goal.faults_of-requires-3
faults_of-requires-3 c = (2, omega arith, refl)

pub faults_of-requires-4 : goal.faults_of-requires-4
faults_of-requires-4 c = (3, omega arith, refl)

pub faults_of-requires-5 : goal.faults_of-requires-5
faults_of-requires-5 c = (4, omega arith, refl)

pub returns : goal.returns
returns c =
    let run = c.args.run.now.logs in
    let rings = c.in_ok-rings.rings.items in
    let one = each_then run rings [] spec.OwnDelivery [] _ _ refl (rw c.deref.ensures.value at c.in_ok-own.ensures) refl in
    let two = each_then run rings (spec.OwnDelivery ∷ []) spec.Atomicity _ _ _ c.in_ok-two.ensures (rw c.deref-2.ensures.value at c.in_ok-faults_of.ensures) one in
    let three = each_then run rings (spec.OwnDelivery ∷ spec.Atomicity ∷ []) spec.Causality _ _ _ c.in_ok-three.ensures (rw c.deref-3.ensures.value at c.in_ok-faults_of-2.ensures) two in
    let four = each_then run rings (spec.OwnDelivery ∷ spec.Atomicity ∷ spec.Causality ∷ []) spec.Gap _ _ _ c.in_ok-four.ensures (rw c.deref-4.ensures.value at c.in_ok-faults_of-3.ensures) three in
    let five = each_then run rings (spec.OwnDelivery ∷ spec.Atomicity ∷ spec.Causality ∷ spec.Gap ∷ []) spec.Safety _ _ _ c.in_ok-five.ensures (rw c.deref-5.ensures.value at c.in_ok-faults_of-4.ensures) four in
    IfOk-weaker c.joined-5.result _ _ (λ list is. record {
      rings = rings;
      are = c.in_ok-rings.ensures;
      lists = each_then run rings (spec.OwnDelivery ∷ spec.Atomicity ∷ spec.Causality ∷ spec.Gap ∷ spec.Safety ∷ []) spec.Installed _ _ list.items is (rw c.deref-6.ensures.value at c.in_ok-faults_of-5.ensures) five;
    }) c.joined-5.ensures
