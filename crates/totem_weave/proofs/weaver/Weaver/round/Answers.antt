use Rattle.std.proofs.Common.{◌≡◌, ◌+◌, ◌||◌, Bool, sym, ◌∙◌, subst, arith}
use Rattle.totem_weave.proofs.Rounds.{RoundSoFar, round_more, round_ends}
use Rattle.totem_weave.proofs.weaver.Weaver.round.Goals as goal
use Rattle.totem_weave.proofs.weaver.Weaver.round.Goals.{then-moved, else-moved}

pub loop-place-preserved : goal.loop-place-preserved
loop-place-preserved c =
    let moved : (c.loop-place.moved || c.in_ok-stepped.stepped) ≡ c.if-moved.moved =
    elim c.if-moved.branch [ then-moved w ↦ rw w.if-moved.true (sym (w.moved-is ∙ w.if-moved.true)) | else-moved w ↦ rw w.if-moved.false (sym w.moved-is) ] in
    let P : Bool → Type 0 = λ b. RoundSoFar c.args.tracks.now c.args.self.now c.advance.new.self (c.loop-place.place + 1) b in
    record {
      under_way = c.in_ok-stepped.ensures.goes_on.under_way;
      ring = c.in_ok-stepped.ensures.goes_on.ring ∙ c.loop-place.invariant.ring;
      so_far =
          subst P moved
          (round_more c.args.tracks.now c.args.self.now c.loop-place.self c.advance.new.self c.loop-place.place c.loop-place.moved c.in_ok-stepped.stepped c.in_ok-stepped.ensures.goes_on.ring
          c.loop-place.invariant.so_far c.in_ok-stepped.ensures.steps);
    }

pub returns : goal.returns
returns c = record {
  goes_on = record { under_way = c.loop-place.invariant.under_way; ring = c.loop-place.invariant.ring };
  round = round_ends c.args.tracks.now c.args.self.now c.loop-place.self c.loop-place.place c.loop-place.moved (omega arith) c.loop-place.invariant.so_far;
}
