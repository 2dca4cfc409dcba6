-- A report that is accepted of a replacement replaces the payment that the request names.
use Rattle.std.specs.Prelude.{List}
use Rattle.block_feed.specs.Block.{ChainBlock}
use Rattle.fund_report.specs.PlainFunded.{PlainFunded}
use Rattle.fund_report.specs.declared.report.Report.{Report}
use Rattle.fund_report.specs.declared.report.Report.TheVariants.{Funded, NoSelection, Unfinished}
use Rattle.fund_steps.specs.Plan.{IsPlan, PlainPlan}
use Rattle.psbt_codec.specs.PartialTransaction.{PartialTransaction}
use Rattle.psbt_codec.specs.Text.{IsPsbtText}
use Rattle.report_check.proofs.BurdenLaws.{burden_brought, weight_said}
use Rattle.report_check.proofs.PaymentLaws.{all_held}
use Rattle.report_check.specs.Payment.{PaysBy}
use Rattle.report_check.specs.Verdict.{IsPaid}
use Rattle.request_text.specs.PlainRequest.{PlainRequest}
use Rattle.wallet_text.specs.PlainWallet.{PlainWallet}
use Rattle.command_inputs.specs.Replacing.{PaysTheBurden}
use Rattle.command_check.specs.Evidence.{BurdenReplaces}
use Rattle.command_check.specs.Statuses.{Replaced, payment_in}

-- what pays as a report says pays the burden
burden_by : (p : PlainPlan) (f : PlainFunded) (t : PartialTransaction) → IsPlan p → IsPsbtText f.text t → (k : PaysBy p f t) → PaysTheBurden p (payment_in f k.coins)
burden_by p f t h text k = record {
  coins = all_held p f.row k.coins h k.spendable;
  presets = k.presets;
  fee = burden_brought p f t k;
  weight = weight_said p f h (t, text, k);
}

pub replaced_as : (w : PlainWallet) (blocks : List ChainBlock) (r : PlainRequest) (plan : PlainPlan) → BurdenReplaces w blocks r plan → IsPlan plan → (found : Report) → IsPaid plan found → Replaced w blocks r plan found
replaced_as w blocks r plan all h (Funded f) (t, text, k) = record { psbt = t; text = text; pays = k; replaces = all (payment_in f k.coins) (burden_by plan f t h text k) }
replaced_as w blocks r plan all h (NoSelection tries) paid = tt
replaced_as w blocks r plan all h (Unfinished tries row stage) paid = tt
