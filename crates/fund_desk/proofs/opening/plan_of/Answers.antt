use Rattle.std.proofs.Common.{ap, subst, sym, ◌∙◌}
use Rattle.coin_candidates.specs.Candidates.{AreCandidates}
use Rattle.fund_files.specs.declared.chain.Chain.{Chain}
use Rattle.fund_files.specs.declared.whole_chain.WholeChain.TheInside.{Inside}
use Rattle.fund_steps.proofs.BumpLaws.{no_bump}
use Rattle.desk_machine.specs.State.{candidates_at, desk_of}
use Rattle.request_text.specs.PlainRequest.{PlainRequest}
use Rattle.fund_desk.proofs.LookLaws.{candidates_filter}
use Rattle.fund_desk.proofs.OpenLaws.{due_fault, plan_made}
use Rattle.fund_desk.proofs.opening.plan_of.Goals as goal

pub new-requires-clause-bump : goal.new-requires-clause-bump
new-requires-clause-bump c = no_bump c.args.request.now _ c.requires.bump

pub new-requires-clause-candidates : goal.new-requires-clause-candidates
new-requires-clause-candidates c = subst AreCandidates (sym c.in_ok-keep_free.ensures) (candidates_filter _ _ c.in_ok-coins.ensures.fit)

pub returns-in-Err-clause-fault : goal.returns-in-Err-clause-fault
returns-in-Err-clause-fault c = λ other.
    let d = desk_of c.args.held.now c.args.committed.now in
    let own = ap (λ (i : Inside). i.wallet.change) c.held-inside.view_is ∙ ap (λ (k : Chain). k.wallet.change) c.held.view_is in
    let is = plan_made d c.args.request.now _ _ _ own c.in_ok-keep_free.ensures (c.in_ok-coins.ensures.coins ∙ ap (λ (q : PlainRequest). candidates_at c.args.held.now q.rate) c.request.view_is) in
    due_fault _ _ c.in-Err.fault c.faults_are_found.ensures.fault is c.in-Err.ensures.fault other

pub returns-in-Ok-clause-plan : goal.returns-in-Ok-clause-plan
returns-in-Ok-clause-plan c =
    let d = desk_of c.args.held.now c.args.committed.now in
    let all = c.in_ok-coins.ensures.coins ∙ ap (λ (q : PlainRequest). candidates_at c.args.held.now q.rate) c.request.view_is in
    c.in-Ok.ensures.plan ∙ plan_made d c.args.request.now _ _ _ (ap (λ (i : Inside). i.wallet.change) c.held-inside.view_is ∙ ap (λ (k : Chain). k.wallet.change) c.held.view_is) c.in_ok-keep_free.ensures all
