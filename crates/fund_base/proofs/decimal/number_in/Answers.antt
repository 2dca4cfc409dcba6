use Rattle.std.proofs.Common.{◌≤◌, ◌<◌, length, arith}
use Rattle.std.proofs.lemmas.Bool.Decides.{nat_tests}
use Rattle.fund_base.proofs.Decimals.{reads}
use Rattle.fund_base.proofs.decimal.number_in.Goals as goal

pub returns : goal.returns
returns c =
    let some : 0 < length c.args.text.now = grind (arith, nat_tests) in
    reads _ _ _ (omega arith) some
    (λ zero_first. let short : 2 ≤ length c.args.text.now → ⊥ = λ more. cc (c.if-has_leading_zero.false, c.has_leading_zero.ensures.1 (zero_first, more)) in omega arith)
    c.digits_of.ensures.found c.digits_of.ensures.none
