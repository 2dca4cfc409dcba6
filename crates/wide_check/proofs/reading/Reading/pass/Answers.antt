use Rattle.std.proofs.Common.{◌≡◌, ◌+◌, ◌-◌, arith, refl, ap, ◌∙◌}
use Rattle.pick_problem.specs.Later.{behind_twins}
use Rattle.wide_check.proofs.MoveLaws.{passed}
use Rattle.wide_check.proofs.reading.Reading.pass.Goals as goal

pub returns-clause-reading : goal.returns-clause-reading
returns-clause-reading c =
    let there : c.args.self.now.next - 1 + 1 ≡ c.args.self.now.next = omega arith in
    passed c.args.claim.now.problem c.run_end-self.ensures.problem c.args.self.now _ c.requires.reading c.requires.below refl refl refl refl
    (c.run_end-self.ensures.end ∙ ap (behind_twins c.args.claim.now.problem) there) (omega arith)
