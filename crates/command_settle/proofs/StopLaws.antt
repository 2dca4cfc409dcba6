-- Why the command stops, joined over the calls that were made.
use Rattle.std.proofs.Common.{◌≡◌, ◌∙◌, ℕ, List, Result, Ok, Err, ◌⊎◌, inl, inr, refl, sym, ap, subst}
use Rattle.std.specs.Prelude.{◌≢◌, IfErr, IfOk, String, string_bytes}
use Rattle.std.specs.declared.alloc.Global.{Global}
use Rattle.request_text.specs.PlainRequest.{PlainRequest}
use Rattle.fund_report.specs.PlainFunded.{PlainFunded}
use Rattle.fund_report.specs.ReportText.{IsReportText}
use Rattle.fund_report.specs.Reported.{IsReportFault}
use Rattle.fund_report.specs.declared.fault.ReportFault.{ReportFault}
use Rattle.fund_report.specs.declared.fault.ReportFault.TheVariants as forms
use Rattle.fund_report.specs.declared.report.Report.TheVariants as reports
use Rattle.psbt_codec.specs.PartialTransaction.{PartialTransaction}
use Rattle.psbt_codec.specs.Text.{HasPsbtFault}
use Rattle.psbt_codec.specs.declared.fault.PsbtFault.{PsbtFault}
use Rattle.psbt_codec.specs.declared.fault.PsbtFault.TheVariants as psbts
use Rattle.settle_check.specs.Broken.{IsSettleFault}
use Rattle.settle_check.specs.declared.fault.SettleFault.{SettleFault}
use Rattle.settle_check.specs.declared.fault.SettleFault.TheVariants as faults
use Rattle.tx_codec.specs.declared.tx.TxOut.{TxOut}
use Rattle.wallet_text.specs.declared.wallet.Watch.{Watch}
use Rattle.tx_codec.specs.Transaction.{Transaction}
use Rattle.wallet_text.specs.PlainWallet.{PlainWallet}
use Rattle.fund_files.specs.Contents.{HasRequest, HasWallet}
use Rattle.fund_files.specs.Refusals.{IsRequestCause}
use Rattle.fund_shelf.proofs.Outside.{rose_earlier}
use Rattle.fund_shelf.specs.Causes.{OnlyReads, ShelfView}
use Rattle.command_settle.proofs.FilesLaws.{files_read, refused, report_refused, request_refused, tx_refused, wallet_refused}
use Rattle.command_settle.specs.Files.{AreFiles, Cause, FitsReport, IsLongReport, IsLongTx, IsReport, IsTx, Judged, by_signed, judged_of, judged_with, signed_of}
use Rattle.command_settle.specs.Names.{Names}
use Rattle.command_settle.specs.Outcome.{BreaksBy, IsSettled, IsSettledBy, IsSettledIn, IsUnsettled}
use Rattle.command_settle.specs.Payment.{AreAll, HasPayment, IsPayment, IsPaymentFault, known_of, output_of}
use Rattle.command_settle.specs.Stops.{IsContentCause, IsContentSettled, IsFormFault, IsScriptFault, IsTextFault, IsValueFault, StopsAs, StopsAtReport, StopsAtRequest, StopsAtTx, StopsAtWallet, StopsBy, StopsFor, cause_of, psbt_stop_of, report_stop_of}
use Rattle.command_settle.specs.declared.stop.SettleFile.{SettleFile}
use Rattle.command_settle.specs.declared.stop.SettleFile.TheVariants.{Wallet, Request, Report, Tx}
use Rattle.command_settle.specs.declared.stop.Stop.{Stop}
use Rattle.command_settle.specs.declared.stop.Stop.TheVariants as stops

-- a file that isn't read is the one that is named
named : (told : Type 0) (n : Names) (old new : ShelfView) (other file : SettleFile) → other ≡ file → StopsFor told n old new (stops.Read file) → StopsFor told n old new (stops.Read other)
named told n old new other file is h = subst (λ (f : SettleFile). StopsFor told n old new (stops.Read f)) (sym is) h

module _ (told : Type 0) (n : Names) (old : ShelfView) where
  -- at the wallet
  pub wallet_stops : (new : ShelfView) (stop : Stop) → StopsAtWallet told n.wallet old new stop → StopsFor told n old new stop
  wallet_stops new (stops.Read file) h = named told n old new file Wallet h.0 (h.1, λ t. tt)
  wallet_stops new (stops.Refused refusal) h = λ t. let x = h t in inl (wallet_refused old.files n x.0 x.2 ∙ ap refused (sym x.1))
  wallet_stops new stops.Memory h = tt

  module _ (w : PlainWallet) (held : told → HasWallet (old.files n.wallet) w) (middle : ShelfView) (only : OnlyReads told old middle) where
    -- at the request
    pub request_stops : (new : ShelfView) (stop : Stop) → StopsAtRequest told n.request middle new stop → StopsFor told n old new stop
    request_stops new (stops.Read file) h = named told n old new file Request h.0 (rose_earlier _ _ _ (only.reads n.request) h.1, λ t. (w, held t))
    request_stops new (stops.Refused refusal) h = λ t.
        let x = h t in
        inl (request_refused old.files n w (held t) x.0 (subst (λ (files : List ℕ → List ℕ). IsRequestCause (files n.request) x.0) (only.same t) x.2) ∙ ap refused (sym x.1))
    request_stops new stops.Memory h = tt

    module _ (r : PlainRequest) (asked : told → HasRequest (old.files n.request) r) where
      -- at the report
      pub report_stops : (new : ShelfView) (stop : Stop) → StopsAtReport told n.report middle new stop → StopsFor told n old new stop
      report_stops new (stops.Read file) h = named told n old new file Report h.0 (rose_earlier _ _ _ (only.reads n.report) h.1, λ t. ((w, held t), (r, asked t)))
      report_stops new (stops.Refused refusal) h = λ t.
          let x = h t in
          inl (report_refused old.files n w (held t) r (asked t) (subst (λ (files : List ℕ → List ℕ). IsLongReport (files n.report)) (only.same t) x.1) ∙ ap refused (sym x.0))
      report_stops new stops.Memory h = tt

      -- at the transaction
      pub tx_stops : (told → FitsReport (old.files n.report)) → (new : ShelfView) (stop : Stop) → StopsAtTx told n.tx middle new stop → StopsFor told n old new stop
      tx_stops fits new (stops.Read file) h = named told n old new file Tx h.0 (rose_earlier _ _ _ (only.reads n.tx) h.1, λ t. (((w, held t), (r, asked t)), fits t))
      tx_stops fits new (stops.Refused refusal) h = λ t.
          let x = h t in
          inl (tx_refused old.files n w (held t) r (asked t) (fits t) (subst (λ (files : List ℕ → List ℕ). IsLongTx (files n.tx)) (only.same t) x.1) ∙ ap refused (sym x.0))
      tx_stops fits new stops.Memory h = tt

-- ---- what was read

module _ (told : Type 0) (n : Names) (old new : ShelfView) (w : PlainWallet) (r : PlainRequest) (report tx : List ℕ) (are : told → AreFiles old.files n w r report tx) where
  read_as : (t : told) (x : Result Transaction Cause) → signed_of tx ≡ x → judged_of old.files n ≡ by_signed w r x
  read_as t x e =
      let a = are t in
      files_read old.files n w a.wallet r a.request a.report.fits a.tx.fits
      ∙ ap (λ (bytes : List ℕ). by_signed w r (signed_of bytes)) (sym a.tx.is)
      ∙ ap (λ (y : Result Transaction Cause). by_signed w r y) e

  content_cause : (t : told) (cause : Cause) → IsContentCause w r report tx cause → (judged_of old.files n ≡ Err cause) ⊎ ((j : Judged) × (judged_of old.files n ≡ Ok j) × BreaksBy (IsUnsettled (old.files n.report) j) cause)
  content_cause t cause (inl e) = inl (read_as t (Err cause) e)
  content_cause t cause (inr (s, e, (fault, is, broken))) =
      inr (judged_with w r s, read_as t (Ok s) e, (fault, is, subst (λ (bytes : List ℕ). IsUnsettled bytes (judged_with w r s) fault) (are t).report.is broken))

  pub content_stops : (stop : Stop) → StopsAs (IsContentCause w r report tx) stop → StopsFor told n old new stop
  content_stops (stops.Read file) h = absurd h
  content_stops (stops.Refused refusal) h = λ t. content_cause t (cause_of refusal) h
  content_stops stops.Memory h = tt

  pub content_settled : (text : List ℕ) → IsContentSettled w r report tx text → told → IsSettled old.files n text
  content_settled text (s, e, settled) t = record {
    judged = judged_with w r s;
    held = read_as t (Ok s) e;
    settled = subst (λ (bytes : List ℕ). IsSettledIn bytes (judged_with w r s) text) (are t).report.is settled;
  }

-- ---- the payment

-- a report that isn't read leaves the texts of reports, or there was not enough memory
pub form_stops : (bytes : List ℕ) (fault : ReportFault) → IsReportFault bytes fault → StopsBy (IsFormFault bytes) (report_stop_of fault)
form_stops bytes (forms.Form place) h = (faults.Report place, refl, h)
form_stops bytes forms.Memory h = tt

-- a PSBT that isn't read has the fault, or there was not enough memory
pub text_stops : (text : List ℕ) (fault : PsbtFault) → (fault ≢ psbts.Memory → HasPsbtFault text fault) → StopsBy (IsTextFault text) (psbt_stop_of fault)
text_stops text psbts.Magic h = (faults.Psbt psbts.Magic, refl, (psbts.Magic, refl, h (λ e. cc)))
text_stops text (psbts.Truncated n) h = (faults.Psbt (psbts.Truncated n), refl, (psbts.Truncated n, refl, h (λ e. cc)))
text_stops text (psbts.LongCompact n) h = (faults.Psbt (psbts.LongCompact n), refl, (psbts.LongCompact n, refl, h (λ e. cc)))
text_stops text (psbts.RepeatKey n) h = (faults.Psbt (psbts.RepeatKey n), refl, (psbts.RepeatKey n, refl, h (λ e. cc)))
text_stops text psbts.NoUnsigned h = (faults.Psbt psbts.NoUnsigned, refl, (psbts.NoUnsigned, refl, h (λ e. cc)))
text_stops text (psbts.Unsigned n) h = (faults.Psbt (psbts.Unsigned n), refl, (psbts.Unsigned n, refl, h (λ e. cc)))
text_stops text psbts.NotBare h = (faults.Psbt psbts.NotBare, refl, (psbts.NotBare, refl, h (λ e. cc)))
text_stops text (psbts.Field n) h = (faults.Psbt (psbts.Field n), refl, (psbts.Field n, refl, h (λ e. cc)))
text_stops text (psbts.Version n) h = (faults.Psbt (psbts.Version n), refl, (psbts.Version n, refl, h (λ e. cc)))
text_stops text (psbts.Mixed n) h = (faults.Psbt (psbts.Mixed n), refl, (psbts.Mixed n, refl, h (λ e. cc)))
text_stops text (psbts.Lacking n) h = (faults.Psbt (psbts.Lacking n), refl, (psbts.Lacking n, refl, h (λ e. cc)))
text_stops text (psbts.RequiredLock n) h = (faults.Psbt (psbts.RequiredLock n), refl, (psbts.RequiredLock n, refl, h (λ e. cc)))
text_stops text (psbts.WrongParent n) h = (faults.Psbt (psbts.WrongParent n), refl, (psbts.WrongParent n, refl, h (λ e. cc)))
text_stops text (psbts.Trailing n) h = (faults.Psbt (psbts.Trailing n), refl, (psbts.Trailing n, refl, h (λ e. cc)))
text_stops text psbts.NotBase64 h = (faults.Psbt psbts.NotBase64, refl, (psbts.NotBase64, refl, h (λ e. cc)))
text_stops text psbts.Memory h = tt

-- a stop for a fault is one for a wider one
pub wider : (P Q : SettleFault → Type 0) → ((fault : SettleFault) → P fault → Q fault) → (stop : Stop) → StopsBy P stop → StopsBy Q stop
wider P Q on (stops.Read file) h = absurd h
wider P Q on (stops.Refused refusal) (fault, is, h) = (fault, is, on fault h)
wider P Q on stops.Memory h = tt

-- at the report
form_any : (report : List ℕ) (scripts : List Watch) (fault : SettleFault) → IsFormFault report fault → IsPaymentFault report scripts fault
form_any report scripts (faults.Report place) h = h
form_any report scripts faults.NotFunded h = h
form_any report scripts (faults.Psbt fault) h = absurd h
form_any report scripts (faults.NoValue index) h = absurd h
form_any report scripts (faults.Foreign index) h = absurd h
form_any report scripts (faults.Differs part) h = absurd h
form_any report scripts (faults.Unsigned index) h = absurd h
form_any report scripts (faults.Heavier index most weight) h = absurd h
form_any report scripts (faults.TooHeavy weight) h = absurd h
form_any report scripts (faults.BelowRate fee needed) h = absurd h

module _ (report : List ℕ) (scripts : List Watch) where
  Payable : SettleFault → Type 0
  Payable fault = IsPaymentFault report scripts fault

  pub form_stops_all : (stop : Stop) → StopsBy (IsFormFault report) stop → StopsBy (IsPaymentFault report scripts) stop
  form_stops_all stop h = wider (IsFormFault report) (IsPaymentFault report scripts) (form_any report scripts) stop h

  by_text : (f : PlainFunded) → IsReportText report (reports.Funded f) → (fault : SettleFault) → IsTextFault f.text fault → Payable fault
  unfolding Payable
  by_text f text fault (e, is, broken) = subst Payable (sym is) (f, text, broken)

  -- at its PSBT
  pub text_stops_all : (f : PlainFunded) → IsReportText report (reports.Funded f) → (stop : Stop) → StopsBy (IsTextFault f.text) stop → StopsBy (IsPaymentFault report scripts) stop
  unfolding Payable
  text_stops_all f text stop h = wider (IsTextFault f.text) Payable (by_text f text) stop h

  by_value : (p : PartialTransaction) → HasPayment report p → (fault : SettleFault) → IsValueFault (known_of p) fault → Payable fault
  unfolding Payable
  by_value p has fault (index, is, first) = subst Payable (sym is) (p, has, first)

  -- at what it spends
  pub value_stops_all : (p : PartialTransaction) → HasPayment report p → (stop : Stop) → StopsBy (IsValueFault (known_of p)) stop → StopsBy (IsPaymentFault report scripts) stop
  unfolding Payable
  value_stops_all p has stop h = wider (IsValueFault (known_of p)) Payable (by_value p has) stop h

  by_script : (p : PartialTransaction) (spent : List TxOut) → HasPayment report p → AreAll output_of (known_of p) spent → (fault : SettleFault) → IsScriptFault scripts spent fault → Payable fault
  unfolding Payable
  by_script p spent has all fault (index, is, first) = subst Payable (sym is) (p, spent, has, all, first)

  -- at a script
  pub script_stops_all : (p : PartialTransaction) (spent : List TxOut) → HasPayment report p → AreAll output_of (known_of p) spent → (stop : Stop) → StopsBy (IsScriptFault scripts spent) stop → StopsBy (IsPaymentFault report scripts) stop
  unfolding Payable
  script_stops_all p spent has all stop h = wider (IsScriptFault scripts spent) Payable (by_script p spent has all) stop h

-- ---- the judgement

module _ (w : PlainWallet) (r : PlainRequest) (report tx : List ℕ) where
  -- at the transaction
  pub signed_stops : (stop : Stop) → StopsAs (λ cause. signed_of tx ≡ Err cause) stop → StopsAs (IsContentCause w r report tx) stop
  signed_stops (stops.Read file) h = absurd h
  signed_stops (stops.Refused refusal) h = inl h
  signed_stops stops.Memory h = tt

  module _ (t : Transaction) (signed : signed_of tx ≡ Ok t) where
    -- at the payment
    pub payment_stops : (stop : Stop) → StopsBy (IsPaymentFault report w.scripts) stop → StopsAs (IsContentCause w r report tx) stop
    payment_stops (stops.Read file) h = absurd h
    payment_stops (stops.Refused refusal) (fault, is, broken) = inr (t, signed, (fault, is, inl broken))
    payment_stops stops.Memory h = tt

    module _ (p : PartialTransaction) (spent : List TxOut) (declared : List ℕ) (payment : IsPayment report w.scripts p spent declared) where
      other : (fault : SettleFault) → IsSettleFault p.tx spent declared t r.rate fault → IsUnsettled report (judged_with w r t) fault
      other fault h = inr (record { psbt = p; spent = spent; declared = declared; payment = payment; first = h })

      -- at what settles it
      pub settle_stops : (stop : Stop) → StopsBy (IsSettleFault p.tx spent declared t r.rate) stop → StopsAs (IsContentCause w r report tx) stop
      settle_stops (stops.Read file) h = absurd h
      settle_stops (stops.Refused refusal) (fault, is, broken) = inr (t, signed, (fault, is, other fault broken))
      settle_stops stops.Memory h = tt

      pub if_settle_stops : {T : Type 0} (result : Result T Stop) → IfErr result (StopsBy (IsSettleFault p.tx spent declared t r.rate)) → IfErr result (StopsAs (IsContentCause w r report tx))
      if_settle_stops (Ok x) h = tt
      if_settle_stops (Err stop) h = settle_stops stop h

      pub if_settled : (result : Result (String Global) Stop) → IfOk result (λ text. IsSettledBy p.tx spent declared t r.rate (string_bytes text)) → IfOk result (λ text. IsContentSettled w r report tx (string_bytes text))
      if_settled (Ok text) h = (t, signed, record { psbt = p; spent = spent; declared = declared; payment = payment; settled = h })
      if_settled (Err stop) h = tt

-- ---- results

pub if_content_settled : (told : Type 0) (n : Names) (old new : ShelfView) (w : PlainWallet) (r : PlainRequest) (report tx : List ℕ) (result : Result (String Global) Stop) → (told → AreFiles old.files n w r report tx)
    → IfOk result (λ text. IsContentSettled w r report tx (string_bytes text)) → told → IfOk result (λ text. IsSettled old.files n (string_bytes text))
if_content_settled told n old new w r report tx (Ok text) are h t = content_settled told n old new w r report tx are (string_bytes text) h t
if_content_settled told n old new w r report tx (Err stop) are h t = tt

pub if_content_stops : (told : Type 0) (n : Names) (old new : ShelfView) (w : PlainWallet) (r : PlainRequest) (report tx : List ℕ) {T : Type 0} (result : Result T Stop) → (told → AreFiles old.files n w r report tx) → IfErr result (StopsAs (IsContentCause w r report tx)) → IfErr result (StopsFor told n old new)
if_content_stops told n old new w r report tx (Ok x) are h = tt
if_content_stops told n old new w r report tx (Err stop) are h = content_stops told n old new w r report tx are stop h

-- ---- what was read before is in the files

module _ (told : Type 0) (n : Names) (old middle : ShelfView) (only : OnlyReads told old middle) where
  pub request_back : (r : PlainRequest) → (told → HasRequest (middle.files n.request) r) → told → HasRequest (old.files n.request) r
  request_back r h t = subst (λ (files : List ℕ → List ℕ). HasRequest (files n.request) r) (only.same t) (h t)

  pub report_back : (bytes : List ℕ) → (told → IsReport (middle.files n.report) bytes) → told → IsReport (old.files n.report) bytes
  report_back bytes h t = subst (λ (files : List ℕ → List ℕ). IsReport (files n.report) bytes) (only.same t) (h t)

  pub tx_back : (bytes : List ℕ) → (told → IsTx (middle.files n.tx) bytes) → told → IsTx (old.files n.tx) bytes
  tx_back bytes h t = subst (λ (files : List ℕ → List ℕ). IsTx (files n.tx) bytes) (only.same t) (h t)
