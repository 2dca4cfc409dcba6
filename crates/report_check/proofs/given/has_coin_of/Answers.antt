use Rattle.std.proofs.Common.{rules}
use Rattle.std.proofs.lemmas.List.Sorted.{answers_always}
use Rattle.coin_candidates.specs.declared.candidate.Candidate.{Candidate}
use Rattle.report_check.proofs.SortedLaws.{searched}
use Rattle.report_check.proofs.given.has_coin_of.Goals as goal

pub returns : goal.returns
returns c =
    let facts = c.binary_search_by_key.ensures in
    let by_point = facts.position (λ (own : Candidate). own.coin) (answers_always _ _ _ (λ f a r g called. search rules)) in
    searched c.args.coins.now c.args.coin.now c.binary_search_by_key.result c.is_ok.result c.requires facts.bound by_point c.is_ok.ensures.value
