-- What a payment weighs whose recipients bear the fee.
use Rattle.std.proofs.Common.{◌≡◌, ◌+◌, ◌*◌, ℕ, List, Option, Some, None, refl, arith}
use Rattle.coin_candidates.specs.declared.candidate.Candidate.{Candidate}
use Rattle.fee_rates.specs.Output.{output_size_of}
use Rattle.fee_rates.specs.Terms.{base_of}
use Rattle.fund_plan.specs.Pays.{payment_weight}
use Rattle.fund_steps.specs.Amounts.{weight_of}
use Rattle.fund_steps.specs.Terms.{load_of}
use Rattle.output_groups.specs.declared.rows.Row.{Row}
use Rattle.request_text.specs.PlainRequest.{PlainRequest}
use Rattle.wallet_text.specs.declared.wallet.Watch.{Watch}
use Rattle.fee_sharing.specs.RowShares.{load_in}

size_in : (r : PlainRequest) (w : Watch) (row : Row) (cs : List Candidate) → (load_in r w row cs).change_size ≡ output_size_of w.script
unfolding load_of
size_in r w row cs = refl

pub weighed : (r : PlainRequest) (w : Watch) (row : Row) (cs coins : List Candidate) (amount : Option ℕ) (base weight n : ℕ) → base ≡ base_of (load_in r w row cs) → weight ≡ weight_of coins → (amount ≡ None → n ≡ 0)
    → ((k : ℕ) → amount ≡ Some k → n ≡ 4 * output_size_of w.script) → base + weight + n ≡ payment_weight (load_in r w row cs) coins amount
weighed r w row cs coins None base weight n b c nothing some = let z : n ≡ 0 = nothing refl in omega (arith, b, c, z)
weighed r w row cs coins (Some k) base weight n b c nothing some =
    let z : n ≡ 4 * output_size_of w.script = some k refl in
    let s : (load_in r w row cs).change_size ≡ output_size_of w.script = size_in r w row cs in
    omega (arith, b, c, z, s)
