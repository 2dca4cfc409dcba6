use Rattle.std.specs.Prelude.{ℕ, List}
use Rattle.std.proofs.Common.{ap, subst, sym, ◌∙◌}
use Rattle.desk_machine.specs.Commands.{plain_command}
use Rattle.desk_machine.specs.Commits.{IsCommit}
use Rattle.fund_desk.proofs.StepLaws.{commit_name, told_commit}
use Rattle.fund_desk.proofs.desk.Desk.command.Goals as goal

pub returns-in-Commit-clause-commits : goal.returns-in-Commit-clause-commits
returns-in-Commit-clause-commits c = λ name txid psbt same e.
    let word = c.as_str-in-Commit.result.now in
    subst (λ (n : List ℕ). IsCommit c.args.self.now n txid psbt c.commit.new.self) (c.as_str-in-Commit.ensures.value ∙ commit_name _ name (sym (ap plain_command c.in-Commit.is) ∙ same))
    (told_commit (IsCommit c.args.self.now word txid psbt c.commit.new.self) c.commit.result c.told-in-Commit.result txid psbt c.told-in-Commit.ensures (c.commit.ensures.commits txid psbt) e)
