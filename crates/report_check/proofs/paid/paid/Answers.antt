use Rattle.std.specs.Prelude.{ℕ, List, ◌==◌, find, option_copied}
use Rattle.std.proofs.Common.{ap, subst, sym, ◌∙◌}
use Rattle.std.proofs.lemmas.Bool.{both_ways}
use Rattle.fund_report.specs.PlainFunded.{PlainFunded}
use Rattle.fund_steps.specs.Listed.{presets_in}
use Rattle.fund_steps.specs.Plan.{PlainPlan}
use Rattle.fund_steps.specs.Selection.{unlisted}
use Rattle.output_groups.specs.Ladder.{ladder_of}
use Rattle.output_groups.specs.declared.rows.Row.{Row}
use Rattle.request_text.specs.PlainRequest.{PlainRequest}
use Rattle.tx_codec.specs.declared.tx.TxIn.{TxIn}
use Rattle.report_check.specs.PaidRefused.{IsCoinRefusal, IsPaidRefusal}
use Rattle.report_check.specs.Paying.{AreTaken}
use Rattle.psbt_codec.specs.Text.{IsPsbtText}
use Rattle.report_check.proofs.PaidLaws.{coins_refused, row_same, taken_as, unpaid}
use Rattle.report_check.proofs.paid.paid.Goals as goal

pub is_paid-requires-clause-coins : goal.is_paid-requires-clause-coins
is_paid-requires-clause-coins c =
    let p = c.args.funding.now in
    let f = c.args.f.now in
    let presets = c.presets.ensures.value ∙ ap presets_in c.funds-funds.ensures in
    let rest = c.rest.ensures.value ∙ ap (λ (q : PlainPlan). unlisted q.request.coins q.candidates) c.funds-funds.ensures in
    let rows = c.ladder-rows.ensures.rows ∙ ap (λ (q : PlainRequest). ladder_of q.zero_conf q.include_unsafe) c.request.view_is in
    let found = c.row_at-row.ensures ∙ ap (λ (n : ℕ). find (λ (r : Row). r.number == n) c.ladder-rows.result.now) (ap (λ (x : PlainFunded). x.row) c.f.view_is) in
    let row = row_same p c.args.request.now f.row (option_copied c.row_at-row.result) c.ladder-rows.result.now c.requires.request rows found in
    let inputs = c.inputs_of-inputs.ensures in
    subst (λ (xs : List TxIn). AreTaken p f.row xs c.in-Ok.coins.items) inputs
    (taken_as p f.row c.presets.result.now c.rest.result.now (option_copied c.row_at-row.result) c.inputs_of-inputs.result.now c.in-Ok.coins.items presets rest row c.in-Ok.ensures.found)

pub returns-in-Err-clause-fault : goal.returns-in-Err-clause-fault
returns-in-Err-clause-fault c =
    let p = c.args.funding.now in
    let f = c.args.f.now in
    let t = c.in_ok-psbt.psbt in
    let presets = c.presets.ensures.value ∙ ap presets_in c.funds-funds.ensures in
    let rest = c.rest.ensures.value ∙ ap (λ (q : PlainPlan). unlisted q.request.coins q.candidates) c.funds-funds.ensures in
    let rows = c.ladder-rows.ensures.rows ∙ ap (λ (q : PlainRequest). ladder_of q.zero_conf q.include_unsafe) c.request.view_is in
    let found = c.row_at-row.ensures ∙ ap (λ (n : ℕ). find (λ (r : Row). r.number == n) c.ladder-rows.result.now) (ap (λ (x : PlainFunded). x.row) c.f.view_is) in
    let row = row_same p c.args.request.now f.row (option_copied c.row_at-row.result) c.ladder-rows.result.now c.requires.request rows found in
    let inputs = c.inputs_of-inputs.ensures in
    let text = subst (λ (b : List ℕ). IsPsbtText b t) (c.deref.ensures.value ∙ ap (λ (x : PlainFunded). x.text) c.f.view_is) c.in_ok-psbt.ensures.found in
    let refused = subst (λ (xs : List TxIn). IsCoinRefusal c.presets.result.now c.rest.result.now (option_copied c.row_at-row.result) xs c.in-Err.fault) inputs c.in-Err.ensures.foreign in
    coins_refused p f t c.presets.result.now c.rest.result.now (option_copied c.row_at-row.result) c.in-Err.fault c.keeps_rules.ensures text presets rest row refused

pub returns-clause-fault : goal.returns-clause-fault
returns-clause-fault c =
    let p = c.args.funding.now in
    let f = c.args.f.now in
    let t = c.in_ok-psbt.psbt in
    let presets = c.presets.ensures.value ∙ ap presets_in c.funds-funds.ensures in
    let rest = c.rest.ensures.value ∙ ap (λ (q : PlainPlan). unlisted q.request.coins q.candidates) c.funds-funds.ensures in
    let rows = c.ladder-rows.ensures.rows ∙ ap (λ (q : PlainRequest). ladder_of q.zero_conf q.include_unsafe) c.request.view_is in
    let found = c.row_at-row.ensures ∙ ap (λ (n : ℕ). find (λ (r : Row). r.number == n) c.ladder-rows.result.now) (ap (λ (x : PlainFunded). x.row) c.f.view_is) in
    let row = row_same p c.args.request.now f.row (option_copied c.row_at-row.result) c.ladder-rows.result.now c.requires.request rows found in
    let inputs = c.inputs_of-inputs.ensures in
    let text = subst (λ (b : List ℕ). IsPsbtText b t) (c.deref.ensures.value ∙ ap (λ (x : PlainFunded). x.text) c.f.view_is) c.in_ok-psbt.ensures.found in
    let taken = subst (λ (xs : List TxIn). AreTaken p f.row xs c.in-Ok.coins.items) inputs
    (taken_as p f.row c.presets.result.now c.rest.result.now (option_copied c.row_at-row.result) c.inputs_of-inputs.result.now c.in-Ok.coins.items presets rest row c.in-Ok.ensures.found) in
    let broken = c.in-Err-check_paid.ensures.broken in
    subst (IsPaidRefusal p f) (sym broken.1) (unpaid p f t c.in-Ok.coins.items text taken (λ pays. both_ways c.in-Ok-is_paid.kept broken.0 (c.in-Ok-is_paid.ensures.1 pays)))
