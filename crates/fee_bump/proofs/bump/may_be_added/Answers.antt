use Rattle.std.proofs.Common.{◌∙◌, ◌&&◌, not, filter, subst}
use Rattle.std.specs.Prelude.{bytes_eq}
use Rattle.std.specs.List.{list_any}
use Rattle.fund_base.specs.Outpoints.{same_outpoint}
use Rattle.coin_candidates.specs.declared.candidate.Candidate.{Candidate}
use Rattle.wallet_text.specs.WalletRules.{IsWallet}
use Rattle.fee_bump.proofs.FitLaws.{added_by}
use Rattle.fee_bump.proofs.bump.may_be_added.Goals as goal

pub returns : goal.returns
returns c = λ rate.
    c.in_ok-candidates.ensures
    ∙ (λ k. filter (λ (x : Candidate). not (list_any (same_outpoint x.coin) c.args.points.now.keys) && not (list_any (bytes_eq x.coin.txid) (c.requires.gone k))) (c.in_ok-coins.ensures.exact k))
    ∙ added_by c.args.wallet.now c.args.book.now c.args.tip rate (subst IsWallet c.wallet.view_is c.wallet.invariant) c.requires.book c.keeps_rules.ensures c.args.names.now c.args.points.now.keys
