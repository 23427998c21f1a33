use Rattle.totem_pass_d.proofs.Common.{◌<◌, length, rules, arith, slice_get-get_or}
use Rattle.totem_pass_d.proofs.Facts.{facts_of}
use Rattle.totem_pass_d.proofs.stays.Stays.entry_in.Goals as goal

pub offset_bounds-stay-at : goal.offset_bounds-stay-at
offset_bounds-stay-at c =
    let of = (facts_of c.args.self.now c.requires.known).each c.args.stay.now c.requires.among in
    let few : c.args.at < 1000000 = omega (arith, of.few, c.requires.inside.until) in search rules

pub bounds-stay-at : goal.bounds-stay-at
bounds-stay-at c =
    let of = (facts_of c.args.self.now c.requires.known).each c.args.stay.now c.requires.among in
    rw of.log (omega (arith, of.is.within, c.requires.inside.until))

pub returns : goal.returns
returns c =
    let of = (facts_of c.args.self.now c.requires.known).each c.args.stay.now c.requires.among in
    let within : c.args.at < length c.args.stay.now.log.now = rw of.log (omega (arith, of.is.within, c.requires.inside.until)) in
    rw (← of.log) (slice_get-get_or c.args.stay.now.log.now c.args.at c.index-stay-at.result within)
