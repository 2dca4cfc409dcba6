use Rattle.std.proofs.Common.{◌≡◌, ◌∙◌, ◌-◌, ap, arith, rules}
use Rattle.fee_rates.specs.Fee.{fee_of}
use Rattle.known_fees.specs.Missing.{size_of}
use Rattle.known_fees.specs.Worth.{fee_in, paid_by}
use Rattle.known_fees.proofs.MissingLaws.{capped, fee_most}
use Rattle.known_fees.proofs.shortfall.lack.Goals as goal

pub returns-clause-value : goal.returns-clause-value
unfolding fee_in
returns-clause-value c =
    let h = c.args.book.now in
    let ts = c.args.txs.now in
    let t = c.args.tx.now in
    let less : c.saturating_sub.result ≡ c.fee.result - c.in_ok-paid.paid = search rules in
    let due = c.fee.ensures.value ∙ ap (fee_of c.args.rate) c.size.ensures.value in
    less
    ∙ (λ k. due k - c.in_ok-paid.ensures.value k)
    ∙ capped (fee_of c.args.rate (size_of t)) (paid_by h ts t) (fee_most c.args.rate (size_of t) c.requires.rate (omega arith))
