use Rattle.std.proofs.Common.{◌≡◌, ◌∙◌, List, None, ap, subst, sym}
use Rattle.coin_book.specs.Faults.{fault_of}
use Rattle.fund_files.specs.declared.chain.Chain.{Chain}
use Rattle.fund_base.specs.declared.outpoint.OutPoint.{OutPoint}
use Rattle.fund_payment.proofs.ParentLaws.{held_book}
use Rattle.payment_states.proofs.FitSteps.{fit}
use Rattle.payment_facts.specs.AnyCoin.{facts_among}
use Rattle.desk_machine.specs.State.{candidates_in, points}
use Rattle.fund_desk.specs.Ready.{IsOneAtEach}
use Rattle.fund_desk.proofs.ReadyLaws.{all_ready, one_at_each}
use Rattle.fund_desk.proofs.ready.ready_of.Goals as goal

pub returns-clause-exact : goal.returns-clause-exact
returns-clause-exact c =
    let k = c.args.held.now in
    c.in_ok-ready.ensures.exact
    ∙ ap (λ (x : Chain). facts_among x.wallet x.book x.tip.height 0 c.deref.result.now) c.held.view_is
    ∙ ap (λ (os : List OutPoint). facts_among k.wallet k.book k.tip.height 0 os) (c.deref.ensures.value ∙ c.in_ok-points.ensures)
    ∙ all_ready k.wallet k.book k.tip.height 0 (points c.args.coins.now) c.requires.rules (held_book k c.requires) (subst (λ (x : Chain). fault_of x.book ≡ None) c.held.view_is c.keeps_rules.ensures)

pub returns-clause-one : goal.returns-clause-one
returns-clause-one c = subst IsOneAtEach (sym (returns-clause-exact c)) (one_at_each (candidates_in c.args.held.now) (points c.args.coins.now))

pub returns-clause-fit : goal.returns-clause-fit
returns-clause-fit c =
    let k = c.args.held.now in
    fit k.wallet k.book c.requires.rules (held_book k c.requires) (subst (λ (x : Chain). fault_of x.book ≡ None) c.held.view_is c.keeps_rules.ensures) k.tip.height 0
