use Rattle.totem_cert.proofs.Common.{◌≡◌, suc, ◌-◌, ap, arith, sym, Place}
use Rattle.totem_cert.proofs.TwinSteps.{found_message}
use Rattle.totem_cert.proofs.twins.delivered.Goals as goal

pub returns-in-Some-clause-found : goal.returns-in-Some-clause-found
returns-in-Some-clause-found c =
    let procs = ap (λ (e : Place). e.proc) c.e.view_is in
    let ats = ap (λ (e : Place). e.at) c.e.view_is in
    let e : c.args.e.now.at ≡ suc (c.e.inside.at - 1) = (let h = c.e.invariant in omega (arith, h, ats)) in
    found_message c.args.run.now.logs c.args.e.now _ _ _ c.message_of.ensures (rw procs at (sym c.in-Some.ensures)) e
