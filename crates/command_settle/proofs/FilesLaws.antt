-- What the files come to, up to the signed transaction, by what was found in them one by one.
use Rattle.std.proofs.Common.{◌≡◌, ◌∙◌, ℕ, nat_lt, List, length, Result, Ok, Err, inl, inr, refl, sym, ap, arith}
use Rattle.std.proofs.lemmas.Bool.{lt-ltb, le-ltb, cond-false}
use Rattle.request_text.specs.PlainRequest.{PlainRequest}
use Rattle.wallet_text.specs.PlainWallet.{PlainWallet}
use Rattle.wallet_text.specs.WalletText.{wallet_of}
use Rattle.wallet_text.specs.declared.fault.Refusal as wallets
use Rattle.fund_files.proofs.ChainLaws.{asked_held}
use Rattle.fund_files.specs.Cause.{FileCause, TooLong}
use Rattle.fund_files.specs.Contents.{HasRequest, HasWallet}
use Rattle.fund_files.specs.FileStops.{IsWalletCause}
use Rattle.fund_files.specs.Outcome.{asked_of}
use Rattle.fund_files.specs.Refusals.{IsRequestCause}
use Rattle.fund_files.specs.declared.refusal.File.TheVariants as inputs
use Rattle.command_settle.specs.Files.{Cause, File, FitsReport, FitsTx, IsLongReport, IsLongTx, Judged, LongReport, LongTx, by_lengths, by_request, by_signed, by_wallet, judged_of, signed_of}
use Rattle.command_settle.specs.Names.{Names}

-- a refusal for a cause
abbrev pub refused : Cause → Result Judged Cause
refused cause = Err cause

module _ (files : List ℕ → List ℕ) (n : Names) where
  pub wallet_refused : (c : FileCause) → IsWalletCause (files n.wallet) c → judged_of files n ≡ refused (File c)
  unfolding judged_of
  wallet_refused c (inl h) = rw (lt-ltb 16777216 (length (files n.wallet)) h.1) (ap (λ (x : FileCause). refused (File x)) (sym h.0))
  wallet_refused c (inr h) =
      cond-false (nat_lt 16777216 (length (files n.wallet))) (refused (File (TooLong inputs.Wallet))) (by_wallet (wallet_of (files n.wallet)) (files n.request) (files n.report) (files n.tx)) (le-ltb 16777216 (length (files n.wallet)) h.0)
      ∙ ap (λ (r : Result PlainWallet wallets.Refusal). by_wallet r (files n.request) (files n.report) (files n.tx)) h.2
      ∙ ap (λ (x : FileCause). refused (File x)) (sym h.3)

  module _ (w : PlainWallet) (held : HasWallet (files n.wallet) w) where
    wallet_read : judged_of files n ≡ by_request w (asked_of (files n.request)) (files n.report) (files n.tx)
    unfolding judged_of
    wallet_read = rw (le-ltb 16777216 (length (files n.wallet)) held.fits, held.form) refl

    pub wallet_apart : (c : FileCause) → IsWalletCause (files n.wallet) c → ⊥
    wallet_apart c (inl h) = omega (arith, held.fits, h.1)
    wallet_apart c (inr h) = let e : ◌≡◌ {A = Result PlainWallet wallets.Refusal} (Ok w) (Err h.1) = sym held.form ∙ h.2 in absurd cc

    pub request_refused : (c : FileCause) → IsRequestCause (files n.request) c → judged_of files n ≡ refused (File c)
    request_refused c h = wallet_read ∙ ap (λ (r : Result PlainRequest FileCause). by_request w r (files n.report) (files n.tx)) h.due

    module _ (r : PlainRequest) (asked : HasRequest (files n.request) r) where
      inputs_read : judged_of files n ≡ by_lengths w r (files n.report) (files n.tx)
      inputs_read = wallet_read ∙ ap (λ (x : Result PlainRequest FileCause). by_request w x (files n.report) (files n.tx)) (asked_held (files n.request) r asked)

      by_long_report : IsLongReport (files n.report) → by_lengths w r (files n.report) (files n.tx) ≡ refused LongReport
      by_long_report long = rw (lt-ltb 67108864 (length (files n.report)) long) refl

      pub report_refused : IsLongReport (files n.report) → judged_of files n ≡ refused LongReport
      report_refused long = inputs_read ∙ by_long_report long

      by_long_tx : FitsReport (files n.report) → IsLongTx (files n.tx) → by_lengths w r (files n.report) (files n.tx) ≡ refused LongTx
      by_long_tx fits long = rw (le-ltb 67108864 (length (files n.report)) fits, lt-ltb 1048576 (length (files n.tx)) long) refl

      pub tx_refused : FitsReport (files n.report) → IsLongTx (files n.tx) → judged_of files n ≡ refused LongTx
      tx_refused fits long = inputs_read ∙ by_long_tx fits long

      by_fitting : FitsReport (files n.report) → FitsTx (files n.tx) → by_lengths w r (files n.report) (files n.tx) ≡ by_signed w r (signed_of (files n.tx))
      by_fitting fits fits_too = rw (le-ltb 67108864 (length (files n.report)) fits, le-ltb 1048576 (length (files n.tx)) fits_too) refl

      pub files_read : FitsReport (files n.report) → FitsTx (files n.tx) → judged_of files n ≡ by_signed w r (signed_of (files n.tx))
      files_read fits fits_too = inputs_read ∙ by_fitting fits fits_too
