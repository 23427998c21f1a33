use Rattle.totem_evs.proofs.writing.put_version.Goals as goal

pub returns-in-One : goal.returns-in-One
returns-in-One g c = rw c.in-One.is c.put.ensures

pub returns-in-Two : goal.returns-in-Two
returns-in-Two g c = rw c.in-Two.is c.put-in-Two.ensures

pub returns-in-Three : goal.returns-in-Three
returns-in-Three g c = rw c.in-Three.is c.put-in-Three.ensures
