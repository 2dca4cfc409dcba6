-- What a sweep of files comes to, and what it means.
use Rattle.std.specs.Prelude.{ℕ, pos, ◌≡◌, ◌≤◌, ◌<◌, ◌<ℤ◌, ◌⊎◌, List, [], length, None}
use Rattle.block_feed.specs.Block.{ChainBlock}
use Rattle.coin_candidates.specs.declared.candidate.Candidate.{Candidate}
use Rattle.fee_sharing.specs.Sweep.{PaysSwept, sweep_amount, swept_of}
use Rattle.fund_report.specs.ReportText.{IsReportText}
use Rattle.fund_report.specs.declared.report.Report.TheVariants as kinds
use Rattle.fund_steps.specs.Amounts.{AreWithin}
use Rattle.psbt_codec.specs.Psbt.{IsPsbt}
use Rattle.request_text.specs.PlainRequest.{IsRequest, PlainRequest, paid_to}
use Rattle.wallet_text.specs.PlainWallet.{PlainWallet}
use Rattle.fund_files.specs.Chain.{chain_from, history_of}
use Rattle.fund_files.specs.declared.chain.Chain.{Chain}
use Rattle.fund_payment.specs.Shown.{ShowsCoins}
use Rattle.command_end.specs.Names.{Sources}
use Rattle.command_inputs.specs.Names.{Payment}
use Rattle.command_inputs.specs.Outcome.{none_report}
use Rattle.command_amounts.specs.Coins.{coins_for}
use Rattle.command_amounts.specs.Signing.{psbt_from}
use Rattle.command_sweep.specs.Inputs.{AreInputs}
use Rattle.command_sweep.specs.Outcome.{NoSelection, Swept, outcome_of, sweep_report, swept_request}

-- A payment of all coins of a chain: those of the pool of the ladder's last row, each a group by itself, in the order of their
-- outpoints. The recipient gets what they are worth less the fees of their inputs, their prices and the fee of the base, and no
-- less than is asked for. With that amount the request keeps its rules.
pub record SweepsAll (k : Chain) (r : PlainRequest) (coins : List Candidate) (amount : ℕ) : Type 0 where
  pub coins_are : coins ≡ swept_of r (coins_for k r)
  pub some : 0 < length coins
  pub amount_is : pos amount ≡ sweep_amount r coins
  pub enough : paid_to r.recipients ≤ amount
  pub pays : PaysSwept r (coins_for k r) coins amount
  pub rules : IsRequest (swept_request r amount)

-- A wallet, blocks and a request with a payment of all coins, which are within their bounds. It pays at least the fee of its
-- declared weight and the prices of its coins. What a signer gets is a PSBT in the request's version (BIP 174, BIP 370), of which
-- each input shows the value and the script of its coin. The report tells of it. Where the files are told, they hold this wallet,
-- these blocks and this request.
pub record IsSwept (told_files : Type 0) (files : List ℕ → List ℕ) (s : Sources) (p : Payment) (report : List ℕ) : Type 0 where
  pub wallet : PlainWallet
  pub blocks : List ChainBlock
  pub asked : PlainRequest
  pub coins : List Candidate
  pub amount : ℕ
  pub inputs : told_files → AreInputs files s p wallet blocks asked
  pub sweeps : SweepsAll (chain_from wallet blocks) asked coins amount
  pub psbt : IsPsbt (psbt_from (history_of wallet blocks) (swept_request asked amount) wallet.change coins None)
  pub shows : ShowsCoins coins (psbt_from (history_of wallet blocks) (swept_request asked amount) wallet.change coins None)
  pub fit : AreWithin coins
  pub reports : report ≡ sweep_report (chain_from wallet blocks) asked coins amount
  pub comes_to : told_files → outcome_of files s p ≡ Swept report

-- there is no coin to be swept, or less is left than is asked for
abbrev pub IsShort : Chain → PlainRequest → Type 0
IsShort k r = (swept_of r (coins_for k r) ≡ []) ⊎ (sweep_amount r (swept_of r (coins_for k r)) <ℤ pos (paid_to r.recipients))

-- A wallet, blocks and a request for which nothing is swept. Where the files are told, they hold this wallet, these blocks and
-- this request.
pub record IsNotSwept (told_files : Type 0) (files : List ℕ → List ℕ) (s : Sources) (p : Payment) (report : List ℕ) : Type 0 where
  pub wallet : PlainWallet
  pub blocks : List ChainBlock
  pub asked : PlainRequest
  pub inputs : told_files → AreInputs files s p wallet blocks asked
  pub short : IsShort (chain_from wallet blocks) asked
  pub reports : report ≡ none_report 0
  pub told : IsReportText report (kinds.NoSelection 0)
  pub comes_to : told_files → outcome_of files s p ≡ NoSelection report
