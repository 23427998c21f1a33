use Rattle.totem_judge_certificate.proofs.Common.{ap, class_barred_by}
use Rattle.totem_judge_certificate.specs.declared.class.Class.TheVariants.{Change, Delivery}
use Rattle.totem_judge_certificate.proofs.Naming.{barred}
use Rattle.totem_judge_certificate.proofs.passed.Passed.note.Goals as goal

pub returns-in_ok-insert-in-Conf-clause-new : goal.returns-in_ok-insert-in-Conf-clause-new
returns-in_ok-insert-in-Conf-clause-new c = rw c.in_ok-insert-in-Conf.ensures.added (barred _ _ (Change c.in-Conf.conf) _ (ap class_barred_by c.in-Conf.is) (λ yes. yes, λ yes. yes))

pub returns-in-Send-clause-new : goal.returns-in-Send-clause-new
returns-in-Send-clause-new c = barred _ _ (Delivery c.in-Send.message) _ (ap class_barred_by c.in-Send.is) c.has_delivery.ensures

pub returns-else-is_new-clause-new : goal.returns-else-is_new-clause-new
returns-else-is_new-clause-new c = barred _ _ (Delivery c.in-Deliver.message) _ (ap class_barred_by c.in-Deliver.is) c.has_delivery-is_new.ensures
