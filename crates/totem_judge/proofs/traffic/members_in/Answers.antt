use Rattle.totem_judge.proofs.Common.{Some, refl, ap, ◌∙◌, arith, rules, slice_get_read, Entry, LogRecord}
use Rattle.totem_judge.proofs.traffic.members_in.Goals as goal

pub returns-in-Conf : goal.returns-in-Conf
returns-in-Conf c =
    let stay = c.index-stays-0.result in
    let log = c.index-logs-index.result in
    let entries = c.as_slice-entries.ensures.value ∙ ap (λ (l : LogRecord). l.entries) c.log.view_is in
    let at = slice_get_read c.as_slice-entries.result.now _ stay.from c.index-entries-stay.result refl c.if-stay-entries.false c.index-entries-stay.is in
    record {
      at = 0;
      stay = stay;
      stands = slice_get_read c.args.stays.now _ 0 stay refl (search rules) c.index-stays-0.is;
      log = log;
      log_is = slice_get_read c.args.logs.now _ stay.log log refl (omega (arith, c.if-index-logs.false)) c.index-logs-index.is;
      conf = c.in-Conf.field-0;
      members = c.in-Conf.members;
      change = (rw entries at at) ∙ ap (λ (e : Entry). Some e) c.in-Conf.is;
      are = c.member_logs.ensures;
    }
