use Rattle.std.proofs.Common.{◌≡◌, ◌∙◌, Bool, true, false, cond, sym, ap, rules}
use Rattle.known_fees.specs.Missing.{is_known, lack_of, missing_of}
use Rattle.known_fees.proofs.MissingLaws.{unknown}
use Rattle.known_fees.proofs.shortfall.missing.Goals as goal

pub returns-then-not-are_known-clause-value : goal.returns-then-not-are_known-clause-value
returns-then-not-are_known-clause-value c =
    let off : c.are_known.result ≡ false = search rules in
    sym (unknown c.args.rate c.args.book.now c.args.txs.now c.args.tx.now (sym c.are_known.ensures ∙ off))

pub returns-clause-value : goal.returns-clause-value
unfolding missing_of
returns-clause-value c =
    let on : c.are_known.result ≡ true = search rules in
    let known : is_known c.args.book.now c.args.txs.now c.args.tx.now ≡ true = sym c.are_known.ensures ∙ on in
    c.in_ok-lack.ensures.value ∙ sym (ap (λ (b : Bool). cond b (lack_of c.args.rate c.args.book.now c.args.txs.now c.args.tx.now) 0) known)
