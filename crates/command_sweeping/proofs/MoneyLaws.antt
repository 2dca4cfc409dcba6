-- The money of a payment of all coins goes where it is asked for.
use Rattle.std.proofs.Common.{◌≡◌, ◌+◌, ◌≤◌, ◌-◌, ◌∙◌, ℕ, Bool, List, [], ◌∷◌, ◌++◌, length, map, None, refl, sym, ap, subst, arith, append-nil}
use Rattle.std.specs.Prelude.{sum_by}
use Rattle.std.specs.List.{AllZip}
use Rattle.std.proofs.lemmas.List.Folds.{fold-map}
use Rattle.coin_candidates.specs.declared.candidate.Candidate.{Candidate}
use Rattle.fund_base.specs.declared.outpoint.OutPoint.{OutPoint}
use Rattle.fund_shelf.specs.Causes.{ShelfView}
use Rattle.fund_files.specs.Chain.{chain_from, history_of}
use Rattle.fund_payment.specs.Report.{line_of}
use Rattle.fund_plan.specs.Pays.{payment_from, recipient_output, unsigned_input}
use Rattle.fund_report.specs.declared.report.InLine.{InLine}
use Rattle.fund_steps.specs.Amounts.{value_of}
use Rattle.psbt_codec.specs.Text.{psbt_text}
use Rattle.request_making.specs.declared.payment.Payment.{Payment}
use Rattle.request_text.specs.PlainRequest.{PlainRequest}
use Rattle.request_text.specs.declared.request.Recipient.{Recipient}
use Rattle.tx_codec.specs.declared.tx.TxIn.{TxIn}
use Rattle.tx_codec.specs.declared.tx.TxOut.{TxOut}
use Rattle.command_amounts.specs.Amounts.{given}
use Rattle.command_amounts.specs.Signing.{psbt_from}
use Rattle.command_pay.specs.Money.{IsPaidBy, IsScriptOf}
use Rattle.command_pay.proofs.MoneyLaws.{parts_of, prevs}
use Rattle.command_sweep.specs.Outcome.{swept_request}
use Rattle.pay_words.specs.declared.asked.Asked.{Asked}
use Rattle.amount_reports.specs.SweptText.{PlainSwept}
use Rattle.amount_laws.specs.Told.{swept_told}
use Rattle.command_sweeping.specs.AsAsked.{IsAsAsked, IsMoneyOf}

-- the one payment that is asked for, and the script that it names
pub record IsOne (ps : List Payment) (rs : List Recipient) (amount : ℕ) : Type 0 where
  pub asked : Payment
  pub output : TxOut
  pub one : ps ≡ asked ∷ []
  pub outputs : map recipient_output (given rs (amount ∷ [])) ≡ output ∷ []
  pub amount_is : output.value ≡ amount
  pub script : IsScriptOf asked.to output.script

one_of : (ps : List Payment) (rs : List Recipient) (amount : ℕ) → length rs ≡ 1 → AllZip IsPaidBy ps (map recipient_output rs) → IsOne ps rs amount
one_of ps [] amount one paid = absurd (omega (arith, one))
one_of ps (q ∷ r ∷ rs) amount one paid = absurd (omega (arith, one))
one_of [] (q ∷ []) amount one paid = absurd paid
one_of (p ∷ o ∷ ps) (q ∷ []) amount one paid = absurd paid.1
one_of (p ∷ []) (q ∷ []) amount one paid = record { asked = p; output = record { value = amount; script = q.script }; one = refl; outputs = refl; amount_is = refl; script = paid.0.script }

whole : (amount worth fee : ℕ) → amount ≤ worth → fee ≡ worth - amount → worth ≡ amount + fee
whole amount worth fee within is = omega (arith, within, is)

pub money_of : (a : Asked) (files : ShelfView) (r : PlainSwept) → IsAsAsked a files r → IsMoneyOf a r
unfolding payment_from psbt_from
money_of a files r k =
    let parts = parts_of a.payments.items a.coins.items a.settings k.request k.asks in
    let paying : PlainRequest = swept_request k.request k.amount in
    let one = one_of a.payments.items k.request.recipients k.amount k.taken.one parts.recipients in
    let worth : sum_by (λ (c : InLine). c.value) (map line_of k.coins) ≡ value_of k.coins = fold-map (λ (n : ℕ) (c : InLine). n + c.value) line_of 0 k.coins in
    let it : IsMoneyOf a (swept_told (chain_from k.wallet k.blocks) k.request k.coins k.amount) = record {
      psbt = psbt_from (history_of k.wallet k.blocks) paying k.wallet.change k.coins None;
      asked = one.asked;
      output = one.output;
      is = k.psbt;
      text = ap (λ (version : ℕ). psbt_text version (psbt_from (history_of k.wallet k.blocks) paying k.wallet.change k.coins None)) parts.psbt;
      one = one.one;
      outputs = append-nil (map recipient_output paying.recipients) ∙ one.outputs;
      amount = one.amount_is;
      script = one.script;
      spends = prevs k.request.replaceable k.coins;
      money = worth ∙ whole k.amount (value_of k.coins) (value_of k.coins - k.amount) (omega (arith, k.sweeps.pays.fee_covers)) refl;
    } in
    subst (λ (x : PlainSwept). IsMoneyOf a x) (sym k.report) it
