use Rattle.totem_script.proofs.Returns.{if_crashed, if_unknown}
use Rattle.totem_script.proofs.laws.only_the_crashed_return.Goals as goal

pub returns-clause-known : goal.returns-clause-known
returns-clause-known c = if_crashed

pub returns-clause-others : goal.returns-clause-others
returns-clause-others c = if_unknown
