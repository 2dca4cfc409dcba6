use Rattle.std.proofs.Common.{◌≡◌, None, subst}
use Rattle.coin_book.specs.Faults.{fault_of}
use Rattle.fund_files.specs.declared.chain.Chain.{Chain}
use Rattle.fund_payment.proofs.ParentLaws.{held_book}
use Rattle.fund_payment.proofs.signing.coins_have_makers.Goals as goal

pub returns : goal.returns
returns c = λ rate.
    let k = c.args.held.now in
    c.candidates_have_makers.ensures k.wallet k.book k.tip.height rate c.requires.rules (held_book k c.requires) (subst (λ (x : Chain). fault_of x.book ≡ None) c.held.view_is c.keeps_rules.ensures)
