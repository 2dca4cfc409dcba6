use Rattle.std.specs.Prelude.{List, Some, option_copied}
use Rattle.std.proofs.Common.{sym, subst}
use Rattle.coin_candidates.specs.declared.candidate.Candidate.{Candidate}
use Rattle.report_check.specs.Finding.{IsCoinAt, IsPlaceAt, NoneAt}
use Rattle.report_check.proofs.FindingLaws.{found_at}
use Rattle.report_check.proofs.coin_index.CoinIndex.coin_at.Goals as goal

pub returns-in-Some : goal.returns-in-Some
returns-in-Some c =
    let coins = c.self.inside.coins.now in
    let point = c.args.point.now in
    let place : IsPlaceAt coins point (Some c.in-Some.place.now) = subst (IsPlaceAt coins point) (sym c.in-Some.ensures.value) (c.self.invariant point) in
    subst (λ (cs : List Candidate). IsCoinAt cs point (option_copied c.get-in-Some.result)) c.self.view_is (found_at coins point c.in-Some.place.now c.get-in-Some.result c.get-in-Some.ensures.lookup place)

pub returns-in-None : goal.returns-in-None
returns-in-None c =
    let point = c.args.point.now in
    subst (λ (cs : List Candidate). NoneAt cs point) c.self.view_is (subst (IsPlaceAt c.self.inside.coins.now point) (sym c.in-None.ensures.value) (c.self.invariant point))
