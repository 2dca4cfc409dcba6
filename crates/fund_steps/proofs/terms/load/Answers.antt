use Rattle.std.proofs.Common.{◌≡◌, ◌∙◌, ℕ, refl, ap, arith, List, length}
use Rattle.std.specs.Prelude.{ℤ, pos, neg_ℤ, ◌≤ℤ◌, ◌-ℤ◌, min, sum_by, Bool, not, ◌==◌}
use Rattle.std.proofs.lemmas.Int.{ints}
use Rattle.coin_candidates.specs.declared.candidate.Candidate.{Candidate}
use Rattle.fee_rates.specs.Output.{output_size_of, dust_of}
use Rattle.request_text.specs.PlainRequest.{PlainRequest, paid_to}
use Rattle.request_text.specs.declared.request.Recipient.{Recipient}
use Rattle.wallet_text.specs.declared.wallet.Watch.{Watch}
use Rattle.fund_steps.specs.Amounts.{charges_of, value_of, weight_of}
use Rattle.fund_steps.specs.Terms.{load_of}
use Rattle.fund_steps.proofs.terms.load.Goals as goal
use mir.Syntax.{w128}
use mir.Val.{to_z, of_z}

kept : (x : ℤ) → neg_ℤ (pos 210_001_000_000_000_000_000) ≤ℤ x → x ≤ℤ pos 2_100_000_000_000_000 → to_z w128 (of_z w128 x) ≡ x
kept x low high = omega (arith, ints)

abbrev sizes : List Recipient → ℕ
sizes rs = min (sum_by (λ (q : Recipient). output_size_of q.script) rs) 1_000_000_000

parts : (r : PlainRequest) (w : Watch) (coins : List Candidate) (paid outputs count : ℕ) (worth : ℤ) (weight : ℕ) (some : Bool) (burden size dust : ℕ) → paid ≡ paid_to r.recipients → outputs ≡ sizes r.recipients → count ≡ min (length r.recipients) 1_000_000_000
    → worth ≡ pos (value_of coins) -ℤ pos (charges_of r.rate coins) → weight ≡ weight_of coins → some ≡ not (length coins == 0) → size ≡ output_size_of w.script → dust ≡ dust_of w.script
    → record { paid = paid; outputs = outputs; count = count; coins = length coins; preset_effective = worth; preset_weight = weight; has_presets = some; burden = burden; change_size = size; change_weight = w.weight; change_dust = dust } ≡ load_of r w coins burden
unfolding load_of
parts r w coins paid outputs count worth weight some burden size dust a b d e f g h i = rw (a, b, d, e, f, g, h, i) refl

pub returns-clause-value : goal.returns-clause-value
returns-clause-value c =
    let e = c.effective.ensures in
    let coins = c.args.coins.now in
    let rate = ap (λ (r : PlainRequest). r.rate) c.request.view_is in
    let recipients = ap (λ (r : PlainRequest). r.recipients) c.request.view_is in
    parts c.args.request.now c.args.change.now coins _ _ _ _ _ _ c.args.burden _ _ c.paid.ensures.value
    (c.outputs_size.ensures.value ∙ ap sizes (c.deref.ensures.value ∙ recipients))
    (c.outputs_count.ensures.value ∙ ap (λ (l : List Recipient). min (length l) 1_000_000_000) (c.deref-2.ensures.value ∙ recipients))
    (kept c.effective.result e.low e.high ∙ e.value ∙ ap (λ (n : ℕ). pos (value_of coins) -ℤ pos (charges_of n coins)) rate)
    c.weight.ensures
    (ap not c.is_empty.ensures)
    c.output_size.ensures.value
    c.dust.ensures.value
