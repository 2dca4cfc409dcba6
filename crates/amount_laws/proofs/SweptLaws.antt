-- What a sweep reports is a text of the payment.
use Rattle.std.proofs.Common.{◌≡◌, ◌≤◌, ◌-◌, ◌∙◌, ℕ, List, [], ◌∷◌, ◌++◌, map, None, ap, arith, append_assoc}
use Rattle.std.specs.Prelude.{All, codes}
use Rattle.std.specs.Fmt.{decimal}
use Rattle.std.specs.List.{AllByRecursion, flat_map}
use Rattle.coin_book.specs.History.{History}
use Rattle.coin_candidates.specs.declared.candidate.Candidate.{Candidate}
use Rattle.fee_rates.specs.Fee.{vsize_of}
use Rattle.fee_sharing.specs.Sweep.{sweep_weight}
use Rattle.fund_files.specs.declared.chain.Chain.{Chain}
use Rattle.fund_payment.specs.Report.{line_of}
use Rattle.fund_plan.specs.Pays.{payment_from, unsigned_input}
use Rattle.fund_report.specs.ReportText.{IsSizedCoin, in_line as told_line, line}
use Rattle.fund_steps.specs.Amounts.{AreWithin, value_of}
use Rattle.psbt_codec.specs.PartialTransaction.{PartialTransaction}
use Rattle.psbt_codec.specs.Psbt.{IsPsbt, written}
use Rattle.request_text.specs.PlainRequest.{PlainRequest}
use Rattle.tx_codec.specs.TransactionText.{InputFits}
use Rattle.wallet_text.specs.declared.wallet.Watch.{Watch}
use Rattle.checked_runs.proofs.LineLaws.{is_line}
use Rattle.checked_runs.proofs.PsbtLaws.{written_some}
use Rattle.checked_runs.proofs.ReportLaws.{coins_fit, lines_some}
use Rattle.command_end.specs.LinesText.{lines_text}
use Rattle.command_amounts.specs.Lines.{figure_lines, in_lines}
use Rattle.command_amounts.specs.Signing.{psbt_from, psbt_text_from}
use Rattle.command_sweep.specs.Outcome.{sweep_report, swept_lines, swept_request}
use Rattle.command_sweep.specs.Results.{SweepsAll}
use Rattle.amount_reports.specs.SweptText.{IsSweptText, figures_text, swept_text}
use Rattle.amount_reports.proofs.WrittenLaws.{ins_written}
use Rattle.amount_laws.specs.Told.{swept_told}
use Rattle.amount_laws.proofs.LineLaws.{figures_are, ins_are, last_line, small_size}

text_is : (k : Chain) (r : PlainRequest) (coins : List Candidate) (amount : ℕ) → sweep_report k r coins amount ≡ swept_text (flat_map told_line (map line_of coins)) (swept_told k r coins amount)
unfolding swept_lines swept_text
text_is k r coins amount =
    let weight : ℕ = sweep_weight r coins in
    let fee : ℕ = value_of coins - amount in
    let text : List ℕ = psbt_text_from k.book (swept_request r amount) k.wallet.change coins None in
    let head : List ℕ = (codes "swept " ++ decimal amount) ++ (10 ∷ []) in
    let ins : List ℕ = lines_text (in_lines coins) in
    let figures : List ℕ = lines_text (figure_lines weight fee) in
    let psbt : List ℕ = (codes "psbt " ++ text) ++ (10 ∷ []) in
    let first : head ≡ line (codes "swept ") (decimal amount) = last_line (codes "swept ") (decimal amount) in
    let last : psbt ≡ line (codes "psbt ") text = last_line (codes "psbt ") text in
    let regroup : (head ++ (ins ++ figures)) ++ psbt ≡ head ++ (ins ++ (figures ++ psbt)) = append_assoc head (ins ++ figures) psbt ∙ ap (λ t. head ++ t) (append_assoc ins figures psbt) in
    let tail : figures ++ psbt ≡ figures_text weight (vsize_of weight) fee ++ line (codes "psbt ") text = ap (λ t. t ++ psbt) (figures_are weight fee) ∙ ap (λ t. figures_text weight (vsize_of weight) fee ++ t) last in
    regroup
    ∙ ap (λ t. t ++ (ins ++ (figures ++ psbt))) first
    ∙ ap (λ t. line (codes "swept ") (decimal amount) ++ t) (ap (λ t. t ++ (figures ++ psbt)) (ins_are coins) ∙ ap (λ t. flat_map told_line (map line_of coins) ++ t) tail)

inputs_fit : (h : History) (r : PlainRequest) (w : Watch) (coins : List Candidate) → IsPsbt (psbt_from h r w coins None) → All InputFits (map (unsigned_input r.replaceable) coins)
unfolding psbt_from payment_from
inputs_fit h r w coins psbt = psbt.text.inputs

pub sweep_reads : (k : Chain) (r : PlainRequest) (coins : List Candidate) (amount : ℕ) → SweepsAll k r coins amount → AreWithin coins → IsPsbt (psbt_from k.book (swept_request r amount) k.wallet.change coins None)
    → IsSweptText (sweep_report k r coins amount) (swept_told k r coins amount)
sweep_reads k r coins amount sweeps fit psbt =
    let to_sign : PartialTransaction = psbt_from k.book (swept_request r amount) k.wallet.change coins None in
    let sized : AllByRecursion IsSizedCoin (map line_of coins) = coins_fit r.replaceable coins (inputs_fit k.book (swept_request r amount) k.wallet.change coins psbt) fit.each in
    let worth : value_of coins ≤ 2_100_000_000_000_000 = fit.value in
    let light : sweep_weight r coins ≤ 400_000 = sweeps.pays.light in
    record {
      coins = flat_map told_line (map line_of coins);
      lines = text_is k r coins amount;
      ins = ins_written (map line_of coins) sized;
      some = lines_some coins sweeps.some;
      amount = omega (arith, sweeps.pays.fee_covers, worth);
      weight = omega (arith, light);
      vsize = omega (arith, small_size (sweep_weight r coins) light);
      fee = omega (arith, worth);
      psbt = is_line (written r.psbt to_sign) (written_some r.psbt to_sign);
    }
