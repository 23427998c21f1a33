use Rattle.totem_pass_d.proofs.Facts.{facts_of}
use Rattle.totem_pass_d.proofs.Sending.{delivery_is, no_delivery}
use Rattle.totem_pass_d.proofs.stays.Stays.delivery_of.Goals as goal

pub index_of-requires : goal.index_of-requires
index_of-requires c = let s = c.args.self.now in ((facts_of s c.requires.known).each c.args.stay.now c.requires.among).of.told

pub returns-clause-found : goal.returns-clause-found
returns-clause-found c =
    let s = c.args.self.now in
    delivery_is s.run.now.logs s.ring c.args.stay.now c.args.message.now c.index_of.result ((facts_of s c.requires.known).each c.args.stay.now c.requires.among) c.index_of.ensures.found

pub returns-clause-none : goal.returns-clause-none
returns-clause-none c =
    let s = c.args.self.now in
    no_delivery s.run.now.logs s.ring c.args.stay.now c.args.message.now c.index_of.result ((facts_of s c.requires.known).each c.args.stay.now c.requires.among) c.index_of.ensures.none
