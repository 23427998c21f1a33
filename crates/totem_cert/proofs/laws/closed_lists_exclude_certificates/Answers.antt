use Rattle.totem_cert.proofs.Excluded.{excluded}
use Rattle.totem_cert.proofs.laws.closed_lists_exclude_certificates.Goals as goal

pub returns : goal.returns
returns c = excluded
