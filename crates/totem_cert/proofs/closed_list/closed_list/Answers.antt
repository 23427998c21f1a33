use Rattle.totem_evs.specs.ClosedLists.{IsClosedList}
use Rattle.totem_cert.proofs.Least.{written_some, cycle}
use Rattle.totem_cert.proofs.Closing.{closed_breaks}
use Rattle.totem_cert.proofs.closed_list.closed_list.Goals as goal

pub turned-requires : goal.turned-requires
turned-requires c = rw c.deref-2.ensures.value (written_some _ _ _ _ _ c.in_ok-round.ensures (rw c.deref.ensures.value at c.in_ok-written.ensures))

pub returns : goal.returns
returns c =
    let places = c.new.ensures in
    let list : IsClosedList c.args.run.now.logs c.broken_by.result c.new.result = rw c.new.ensures (cycle _ _ _ _ _ _ _ c.least_left-start.ensures c.in_ok-round.ensures (rw c.deref.ensures.value at c.in_ok-written.ensures)
    (rw c.deref-2.ensures.value at c.in_ok-places.ensures.turned) c.in_ok-places.ensures.least (rw c.deref-3.ensures.value at c.broken_by.ensures)) in
    record { list = list; breaks = closed_breaks _ _ _ list }
