-- What a signer gets of a payment, by its coins and its change.
use Rattle.std.specs.Prelude.{ℕ, ◌≤◌, ◌<◌, List, map, length, Option, IfSome}
use Rattle.coin_book.specs.History.{History}
use Rattle.coin_candidates.specs.declared.candidate.Candidate.{Candidate}
use Rattle.fund_payment.specs.Report.{spent_of}
use Rattle.fund_plan.specs.Pays.{outputs_of, payment_from}
use Rattle.fund_steps.specs.Amounts.{AreWithin, value_of}
use Rattle.psbt_codec.specs.PartialTransaction.{PartialTransaction}
use Rattle.psbt_codec.specs.Text.{psbt_text}
use Rattle.request_text.specs.PlainRequest.{PlainRequest}
use Rattle.wallet_text.specs.declared.wallet.Watch.{Watch}

-- the payment to be signed: its unsigned transaction, and for each input what a signer needs to know of its coin (BIP 174)
unfoldable pub psbt_from : History → PlainRequest → Watch → (coins : List Candidate) → (change : Option ℕ) → PartialTransaction
psbt_from h r w coins change = record { tx = payment_from r w coins change; spent = map (spent_of h) coins }

-- its text: in the version that the request asks for, in base64 with the standard alphabet and padding
abbrev pub psbt_text_from : History → PlainRequest → Watch → (coins : List Candidate) → (change : Option ℕ) → List ℕ
psbt_text_from h r w coins change = psbt_text r.psbt (psbt_from h r w coins change)

-- Coins and a change of which a payment of the request can be made: one coin at least, all within their bounds, and outputs
-- within what the coins are worth.
pub record CanBeSigned (r : PlainRequest) (coins : List Candidate) (change : Option ℕ) : Type 0 where
  pub coins_fit : AreWithin coins
  pub some : 0 < length coins
  pub change_fits : IfSome change (λ n. n ≤ 2_100_000_000_000_000)
  pub within : outputs_of r change ≤ value_of coins
