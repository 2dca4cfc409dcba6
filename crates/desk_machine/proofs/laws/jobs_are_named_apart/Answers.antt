use Rattle.desk_machine.proofs.RuleLaws.{all_open}
use Rattle.desk_machine.proofs.laws.jobs_are_named_apart.Goals as goal

pub returns : goal.returns
returns c = λ d new said names most runs. let h = all_open d new said (record { names = names; most = most }) runs in (h.names, h.most)
