-- What a payment by `wide` saves is its waste below 0.
use Rattle.std.proofs.Common.{◌≡◌, ℕ, List, sym, ap, subst, arith}
use Rattle.std.specs.Prelude.{ℤ, pos, ◌+◌, ◌+ℤ◌}
use Rattle.std.proofs.lemmas.Int.{ints}
use Rattle.fee_rates.specs.Fee.{fee_of, vsize_of}
use Rattle.fee_rates.specs.Terms.{base_of}
use Rattle.fee_rates.specs.declared.terms.PaymentLoad.{PaymentLoad}
use Rattle.fund_files.specs.Chain.{chain_from, history_of}
use Rattle.fund_payment.specs.Report.{reported}
use Rattle.fund_plan.proofs.FigureLaws.{figures_agree}
use Rattle.fund_plan.specs.Chosen.{load_for}
use Rattle.fund_plan.specs.Figures.{spending_of}
use Rattle.fund_plan.specs.Pays.{raised_of}
use Rattle.fund_report.specs.PlainFunded as reports
use Rattle.fund_shelf.specs.Causes.{ShelfView}
use Rattle.fund_steps.specs.Amounts.{fees_of}
use Rattle.fund_steps.specs.Plan.{PlainPlan}
use Rattle.command_inputs.specs.Outcome.{plan_of}
use Rattle.pay_words.specs.declared.asked.Asked.{Asked}
use Rattle.pay_words.specs.declared.way.Way.{Way}
use Rattle.pay_words.specs.declared.way.Way.TheVariants as ways
use Rattle.command_pay.specs.AsAsked.{ClaimsBy, IsAsAsked, tries_by}
use Rattle.command_pay.specs.Saving.{IsSavingOf}
use Rattle.command_pay.specs.declared.report.PaidReport.TheVariants.{Whole}

-- at plain numbers
saving_at : (waste : ℤ) (others fee spending : ℕ) → waste +ℤ pos others ≡ pos (fee + spending) → spending ≡ 0 → waste +ℤ pos others ≡ pos fee
saving_at waste others fee spending e none = omega (arith, ints, e, none)

pub saving_of : (a : Asked) (files : ShelfView) (f : reports.PlainFunded) (log : List ℕ) (k : IsAsAsked a files (Whole f) log) → a.way ≡ ways.Wide → IsSavingOf k.wallet k.blocks k.request k.paid.funded f
saving_of a files f log k way =
    let plan : PlainPlan = plan_of (chain_from k.wallet k.blocks) k.request in
    let l : PaymentLoad = load_for plan k.paid.funded.row in
    let claims = subst (λ (w : Way). ClaimsBy w plan k.paid.funded) way k.paid.claims in
    let sum = figures_agree plan k.paid.funded k.paid.pays in
    let spending : spending_of k.request l k.paid.funded.change ≡ 0 = ap (spending_of k.request l) claims.change in
    let told : reports.PlainFunded = reported (history_of k.wallet k.blocks) k.request k.wallet.change (tries_by a.way plan) k.paid.funded in
    subst (IsSavingOf k.wallet k.blocks k.request k.paid.funded) {x = told} (sym k.paid.report)
    (saving_at k.paid.funded.waste (fee_of k.request.rate (vsize_of (base_of l)) + fees_of k.request.long_term k.paid.funded.coins + l.burden + raised_of k.request.rate l) told.fee (spending_of k.request l k.paid.funded.change) sum.waste spending)
