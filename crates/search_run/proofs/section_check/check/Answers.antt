use Rattle.std.specs.Prelude.{◌≡◌}
use Rattle.std.proofs.Common.{rules}
use Rattle.search_run.proofs.CheckLaws.{checked_err, checked_ok}
use Rattle.search_run.proofs.section_check.check.Goals as goal

pub returns-clause-ok : goal.returns-clause-ok
returns-clause-ok c =
    let text : c.args.section.now.letters ≡ c.as_slice.result.now = search rules in
    λ p h. checked_ok p c.args.section.now.answer c.as_slice.result.now c.args.section.now.letters c.in_ok-checker.checker c.args.made c.judge.result text c.in_ok-checker.was h c.judge.ensures.ok

pub returns-clause-fault : goal.returns-clause-fault
returns-clause-fault c =
    let text : c.args.section.now.letters ≡ c.as_slice.result.now = search rules in
    λ p h. checked_err p c.args.section.now.answer c.as_slice.result.now c.args.section.now.letters c.in_ok-checker.checker c.args.made c.judge.result text c.in_ok-checker.was h c.judge.ensures.fault
