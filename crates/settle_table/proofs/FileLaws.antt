-- The files are refused before the last two are looked into, or they hold what those two are beside.
use Rattle.std.proofs.Common.{◌≡◌, ◌∙◌, ◌⊎◌, inl, inr, ℕ, List, Result, Ok, Err, refl, sym, subst}
use Rattle.fund_shelf.specs.Causes.{ShelfView}
use Rattle.hex.specs.Hex.{decode_of}
use Rattle.hex.specs.declared.error.FromHexError.{FromHexError}
use Rattle.request_text.specs.PlainRequest.{PlainRequest}
use Rattle.request_text.specs.RequestText.{request_of}
use Rattle.request_text.specs.declared.fault.Refusal as requests
use Rattle.settle_check.specs.declared.fault.SettleFault.{SettleFault}
use Rattle.tx_codec.specs.Transaction.{Transaction}
use Rattle.tx_codec.specs.declared.fault.TxFault.{TxFault}
use Rattle.wallet_text.specs.PlainWallet.{PlainWallet}
use Rattle.wallet_text.specs.WalletText.{wallet_of}
use Rattle.wallet_text.specs.declared.fault.Refusal as wallets
use Rattle.command_settle.proofs.FilesLaws.{files_read}
use Rattle.command_settle.specs.Files.{AreFiles, Cause, Judged, NotHex, NotTx, Unsettled, by_form, by_hex, by_signed, judged_of, judged_with, line_of, signed_of}
use Rattle.command_settle.specs.Names.{Names}
use Rattle.command_settle.specs.Outcome.{ComesTo, Refused}
use Rattle.command_settle.specs.Stops.{IsFileCause, IsFileStop, StopsFor as SettleStopsFor, cause_of}
use Rattle.command_settle.specs.declared.stop.Stop.{Stop as SettleStop}
use Rattle.command_settle.specs.declared.stop.Stop.TheVariants as stops
use Rattle.settle_table.specs.Stops.{IsUntold, StopsFor}
use Rattle.settle_table.specs.declared.stop.Stop.TheVariants.{Settle}

-- ---- the cause

-- a refusal that is so before the last two are looked into is no broken rule
refused_alone : (files : List ℕ → List ℕ) (n : Names) (cause : Cause) → ComesTo files n (Refused cause) → IsFileCause cause → judged_of files n ≡ Err cause
refused_alone files n cause (inl e) alone = e
refused_alone files n cause (inr (j, held, (fault, is, broken))) alone = absurd (subst IsFileCause is alone)

-- a stop at a file is told as it is
pub file_stops : (told : Type 0) (n : Names) (old new : ShelfView) (stop : SettleStop) → SettleStopsFor told n old new stop → (told → IsFileStop stop) → StopsFor told n old new (Settle stop)
file_stops told n old new (stops.Read file) h alone = h
file_stops told n old new (stops.Refused refusal) h alone = λ t. inl (alone t, refused_alone old.files n (cause_of refusal) (h t) (alone t))
file_stops told n old new stops.Memory h alone = tt

-- ---- where a wallet and a request are held

same_cause : (a b : Cause) → ◌≡◌ {A = Result Transaction Cause} (Err a) (Err b) → a ≡ b
same_cause a b e = cc

-- what isn't a transaction in hex is refused for that
form_apart : (y : Result Transaction TxFault) (cause : Cause) → by_form y ≡ Err cause → IsFileCause cause → ⊥
form_apart (Ok t) cause e alone = cc
form_apart (Err fault) cause e alone = subst IsFileCause (sym (same_cause (NotTx fault) cause e)) alone

module _ (file : List ℕ) where
  hex_apart : (x : Result (List ℕ) FromHexError) (cause : Cause) → by_hex x ≡ Err cause → IsFileCause cause → ⊥
  hex_apart (Ok bytes) cause e alone = form_apart _ cause e alone
  hex_apart (Err error) cause e alone = subst IsFileCause (sym (same_cause NotHex cause e)) alone

  signed_apart : (cause : Cause) → signed_of file ≡ Err cause → IsFileCause cause → ⊥
  unfolding signed_of
  signed_apart cause e alone = hex_apart (decode_of (line_of file)) cause e alone

  by_signed_apart : (w : PlainWallet) (r : PlainRequest) (x : Result Transaction Cause) → signed_of file ≡ x → (cause : Cause) → by_signed w r x ≡ Err cause → IsFileCause cause → ⊥
  by_signed_apart w r (Ok t) read cause e alone = let both : ◌≡◌ {A = Result Judged Cause} (Ok (judged_with w r t)) (Err cause) = e in cc
  by_signed_apart w r (Err other) read cause e alone =
      let same : other ≡ cause = let both : ◌≡◌ {A = Result Judged Cause} (Err other) (Err cause) = e in cc in
      signed_apart other read (subst IsFileCause (sym same) alone)

module _ (files : List ℕ → List ℕ) (n : Names) (w : PlainWallet) (r : PlainRequest) (held : AreFiles files n w r (files n.report) (files n.tx)) where
  refused_never : (cause : Cause) → judged_of files n ≡ Err cause → IsFileCause cause → ⊥
  refused_never cause e alone =
      by_signed_apart (files n.tx) w r (signed_of (files n.tx)) refl cause (sym (files_read files n w held.wallet r held.request held.report.fits held.tx.fits) ∙ e) alone

  -- then a stop at a file is a failed read or want of memory
  pub file_untold : (told : Type 0) (old new : ShelfView) → old.files ≡ files → told → (stop : SettleStop) → SettleStopsFor told n old new stop → (told → IsFileStop stop) → IsUntold (Settle stop)
  file_untold told old new same t (stops.Read file) h alone = tt
  file_untold told old new same t (stops.Refused refusal) h alone =
      refused_never (cause_of refusal) (refused_alone files n (cause_of refusal) (subst (λ (f : List ℕ → List ℕ). ComesTo f n (Refused (cause_of refusal))) same (h t)) (alone t)) (alone t)
  file_untold told old new same t stops.Memory h alone = tt

  module _ (v : PlainWallet) (q : PlainRequest) (report tx : List ℕ) (are : AreFiles files n v q report tx) where
    -- the wallet and the request are those
    pub one_wallet : v ≡ w
    one_wallet = let both : ◌≡◌ {A = Result PlainWallet wallets.Refusal} (Ok v) (Ok w) = sym are.wallet.form ∙ held.wallet.form in cc

    pub one_request : q ≡ r
    one_request = let both : ◌≡◌ {A = Result PlainRequest requests.Refusal} (Ok q) (Ok r) = sym are.request.form ∙ held.request.form in cc
