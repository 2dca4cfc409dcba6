use Rattle.std.proofs.Common.{rules}
use Rattle.std.proofs.lemmas.List.Sorted.{answers_always}
use Rattle.output_groups.proofs.ScriptLaws.{same_by_ties, script_lt, script_order}
use Rattle.output_groups.proofs.forming.sort_by_script.Goals as goal

pub returns-clause-sorted : goal.returns-clause-sorted
returns-clause-sorted c = c.in_ok-sort_by.ensures.sorted script_lt script_order (answers_always _ _ _ (λ f a r g h. search rules))

pub returns-clause-same : goal.returns-clause-same
returns-clause-same c = same_by_ties _ _ (c.sort_by.ensures.stable script_lt script_order (answers_always _ _ _ (λ f a r g h. search rules)))
