use Rattle.totem_pass_d.proofs.Common.{refl, arith, slice_get-get_or}
use Rattle.totem_pass_d.proofs.Sending.{notes_nothing, notes_one}
use Rattle.totem_pass_d.proofs.stays.note_sends.Goals.{in-Send+in_ok-insert, in_default}
use Rattle.totem_pass_d.proofs.stays.note_sends.Goals as goal

pub loop-at-preserved : goal.loop-at-preserved
loop-at-preserved c =
    let at = slice_get-get_or c.args.stay.now.log.now c.loop-at.at c.index-stay-at.result (omega (arith, c.requires.within, c.loop-at-test.true)) in
    elim c.match-stay-at.branch [
      | in-Send+in_ok-insert w ↦ rw w.sends-is
          (notes_one c.args.stay.now c.loop-at.at _ _ w.insert.new.self _ _ _ _ _ at w.in-Send.is (let le = c.loop-at.auto.at in omega arith) c.loop-at-test.true refl refl refl w.in_ok-insert.ensures.updates c.loop-at.invariant)
      | in_default w ↦ rw w.sends-is (notes_nothing c.args.stay.now c.loop-at.at _ _ _ at w.in_default.not-Send c.loop-at.invariant)
    ]
