use Rattle.std.proofs.Common.{arith}
use Rattle.totem_evs.proofs.Common.{◌∙◌, ap, ReadState, err_from_is_err_and}
use Rattle.totem_evs.specs.declared.part.Part.TheVariants as parts
use Rattle.totem_evs.specs.declared.stage.Stage.{Stage}
use Rattle.totem_evs.proofs.Folding.{version_kept}
use Rattle.totem_evs.proofs.FoldedRun.{first_fault, first_folded, part_folded, end_folded, next_fault, folded_still}
use Rattle.totem_evs.proofs.PassedOn.{header_fault}
use Rattle.totem_evs.proofs.Gathers.{first_gathers, may_gather, each_has, falls}
use Rattle.totem_evs.proofs.reading.read_run.Goals as goal

pub returns-in_err-version : goal.returns-in_err-version
returns-in_err-version g c = grind (arith, err_from_is_err_and, first_fault, header_fault)

pub parts-init : goal.parts-init
parts-init g c = grind (arith, first_folded, first_gathers)

pub returns-in_err-next : goal.returns-in_err-next
returns-in_err-next g c =
    let kept = c.in_default.ensures.kept in
    let still = rw c.in_default-2.is at c.in_ok-entry.ensures.kept in
    let repeated = folded_still _ _ _ _ c.take_repeat.new.self _ c.parts.invariant.0 kept.0 kept.1 kept.2 in
    let folded = folded_still _ _ _ _ c.take_whole.new.self _ repeated still.0 c.in_ok-entry.ensures.failures still.1 in
    let p = err_from_is_err_and c.from_residual-in_err-next.result c.from_residual-in_err-next.ensures.1 in
    rw (p.1, p.2) (next_fault _ _ _ c.take_whole.new.self c.next.new.self _ _ folded c.in_err-next.ensures.read)

pub into_run-requires : goal.into_run-requires
into_run-requires g c =
    let kept = c.in_default.ensures.kept in
    let still = rw c.in_default-2.is at c.in_ok-entry.ensures.kept in
    let repeated = folded_still _ _ _ _ c.take_repeat.new.self _ c.parts.invariant.0 kept.0 kept.1 kept.2 in
    let folded = folded_still _ _ _ _ c.take_whole.new.self _ repeated still.0 c.in_ok-entry.ensures.failures still.1 in
    let fits = rw c.in-None.is at c.in_ok-next.ensures.read in
    rw (ap (λ (s : ReadState). s.stage.version) still.1 ∙ ap (λ (s : ReadState). s.stage.version) kept.2 ∙ c.parts.invariant.2) at (end_folded _ _ _ c.take_whole.new.self _ folded fits.0).is

pub returns-in-None : goal.returns-in-None
returns-in-None g c =
    let kept = c.in_default.ensures.kept in
    let still = rw c.in_default-2.is at c.in_ok-entry.ensures.kept in
    let repeated = folded_still _ _ _ _ c.take_repeat.new.self _ c.parts.invariant.0 kept.0 kept.1 kept.2 in
    let folded = folded_still _ _ _ _ c.take_whole.new.self _ repeated still.0 c.in_ok-entry.ensures.failures still.1 in
    let fits = rw c.in-None.is at c.in_ok-next.ensures.read in
    rw c.into_run.ensures (rw (ap (λ (s : ReadState). s.stage.version) still.1 ∙ ap (λ (s : ReadState). s.stage.version) kept.2 ∙ c.parts.invariant.2) at (end_folded _ _ _ c.take_whole.new.self _ folded fits.0), each_has c.take_whole.new.self _ folded.gathers fits.0.comes fits.1)

pub add-requires : goal.add-requires
add-requires g c = grind (arith, folded_still, may_gather)

pub returns-in_err-add-in-Some-3 : goal.returns-in_err-add-in-Some-3
returns-in_err-add-in-Some-3 g c = grind (arith, folded_still, err_from_is_err_and)

pub parts-smaller : goal.parts-smaller
parts-smaller g c = grind (arith, folded_still, falls)

pub parts-preserved : goal.parts-preserved
parts-preserved g c =
    let kept = c.in_default.ensures.kept in
    let still = rw c.in_default-2.is at c.in_ok-entry.ensures.kept in
    let repeated = folded_still _ _ _ _ c.take_repeat.new.self _ c.parts.invariant.0 kept.0 kept.1 kept.2 in
    let folded = folded_still _ _ _ _ c.take_whole.new.self _ repeated still.0 c.in_ok-entry.ensures.failures still.1 in
    let fits = rw c.in-Some-3.is at c.in_ok-next.ensures.read in
    (rw c.in_ok-add-in-Some-3.ensures (part_folded _ _ _ c.take_whole.new.self _ _ _ folded fits), c.in_ok-next.ensures.limits, ap (λ (s : Stage). s.version) fits.goes.stage ∙ version_kept _ _ ∙ ap (λ (s : ReadState). s.stage.version) still.1 ∙ ap (λ (s : ReadState). s.stage.version) kept.2 ∙ c.parts.invariant.2)

pub parts-preserved-in-Some : goal.parts-preserved-in-Some
parts-preserved-in-Some g c =
    let fits = c.in-Some.ensures.taken in
    (rw c.in_ok-add_entry.ensures (part_folded _ _ _ c.parts.parts c.take_repeat.new.self _ _ c.parts.invariant.0 fits), c.in-Some.ensures.limits, ap (λ (s : Stage). s.version) fits.goes.stage ∙ version_kept c.parts.parts.stage (parts.Entry c.in-Some.entry) ∙ c.parts.invariant.2)

pub parts-preserved-in-Some-2 : goal.parts-preserved-in-Some-2
parts-preserved-in-Some-2 g c =
    let kept = c.in_default.ensures.kept in
    let repeated = folded_still _ _ _ _ c.take_repeat.new.self _ c.parts.invariant.0 kept.0 kept.1 kept.2 in
    let fits = rw c.in-Some-2.is at c.in_ok-entry.ensures.taken in
    (rw c.in_ok-add_entry-2.ensures (part_folded _ _ _ c.take_repeat.new.self c.take_whole.new.self _ _ repeated fits), c.in_ok-entry.ensures.limits, ap (λ (s : Stage). s.version) fits.goes.stage ∙ version_kept c.take_repeat.new.self.stage (parts.Entry c.in-Some-2.entry) ∙ ap (λ (s : ReadState). s.stage.version) kept.2 ∙ c.parts.invariant.2)
