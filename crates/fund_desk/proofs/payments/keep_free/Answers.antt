use Rattle.std.specs.Prelude.{Bool, not}
use Rattle.std.proofs.Common.{ap, rules, ◌∙◌}
use Rattle.std.proofs.lemmas.Fn.{filter_same}
use Rattle.indexmap.specs.IndexSet.{contains}
use Rattle.fund_base.specs.Outpoints.{same_outpoint}
use Rattle.coin_candidates.specs.declared.candidate.Candidate.{Candidate}
use Rattle.desk_machine.specs.State.{is_reserved}
use Rattle.fund_desk.proofs.LookLaws.{kept_same}
use Rattle.fund_desk.proofs.payments.keep_free.Goals as goal

pub returns : goal.returns
returns c =
    let p : Candidate → Bool = λ x. not (contains same_outpoint c.in_ok-reserved.reserved x.coin) in
    let q : Candidate → Bool = λ x. not (is_reserved c.args.committed.now x.coin) in
    filter_same _ p _ (λ x b f' k. search rules) _ _ c.retain.ensures.filtered ∙ kept_same p q (λ x. ap not (c.in_ok-reserved.ensures x.coin)) c.args.coins.now.items
