use Rattle.std.proofs.Common.{◌∙◌, Some, ap}
use Rattle.std.specs.Prelude.{option_map}
use Rattle.coin_candidates.specs.declared.candidate.Candidate.{Candidate}
use Rattle.payment_facts.specs.AnyCoin.{facts_at}
use Rattle.payment_states.specs.Candidates.{candidate_of}
use Rattle.payment_facts.proofs.any_coin.fact_at.Goals as goal

pub returns-in_ok-candidate-in-Some-clause-exact : goal.returns-in_ok-candidate-in-Some-clause-exact
unfolding facts_at
returns-in_ok-candidate-in-Some-clause-exact c = λ rate told.
    ap (λ (x : Candidate). Some x) (c.in_ok-candidate-in-Some.ensures rate told) ∙ ap (option_map (candidate_of c.args.wallet.now c.args.book.now c.args.tip rate)) c.in-Some.ensures

pub returns-in-None-clause-exact : goal.returns-in-None-clause-exact
unfolding facts_at
returns-in-None-clause-exact c = λ rate told. ap (option_map (candidate_of c.args.wallet.now c.args.book.now c.args.tip rate)) c.in-None.ensures
