use Rattle.std.proofs.Common.{◌≡◌, rules}
use Rattle.search_run.specs.Stands.{IsStand}
use Rattle.search_run.proofs.ExactLaws.{closed_due, memory_alone}
use Rattle.search_run.proofs.run.SearchRun.verify.Goals as goal

pub verify-requires : goal.verify-requires
verify-requires c =
    let steps : c.as_slice.result.now ≡ c.args.self.now.steps = search rules in
    let closed : c.as_slice-2.result.now ≡ c.args.self.now.stand.past.closed = search rules in
    let stands : IsStand c.args.self.now.seed c.args.self.now.steps c.args.self.now.stand = search rules in
    closed_due c.args.self.now.seed _ c.args.self.now.steps c.as_slice.result.now c.args.self.now.stand c.as_slice-2.result.now (search rules) steps closed stands

pub returns-clause-made : goal.returns-clause-made
returns-clause-made c =
    let steps : c.as_slice.result.now ≡ c.args.self.now.steps = search rules in
    let closed : c.as_slice-2.result.now ≡ c.args.self.now.stand.past.closed = search rules in
    memory_alone c.args.self.now.seed _ c.args.self.now.steps c.as_slice.result.now c.as_slice-2.result.now c.args.self.now.stand.past.closed c.verify.result (search rules) steps closed c.verify.ensures.refused
