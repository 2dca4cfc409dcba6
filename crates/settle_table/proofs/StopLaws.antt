-- Why a signed transaction isn't shown to settle a payment, joined over the calls that were made.
use Rattle.std.proofs.Common.{◌≡◌, ◌⊎◌, inl, inr, ℕ, List, Result, Ok, Err, refl, sym, subst}
use Rattle.std.specs.Prelude.{IfErr, IfOk}
use Rattle.fund_shelf.specs.Causes.{ShelfView}
use Rattle.psbt_codec.specs.PartialTransaction.{PartialTransaction}
use Rattle.request_text.specs.PlainRequest.{PlainRequest}
use Rattle.settle_check.specs.Broken.{IsSettleFault}
use Rattle.settle_check.specs.declared.fault.SettleFault.{SettleFault}
use Rattle.tx_codec.specs.Transaction.{Transaction}
use Rattle.tx_codec.specs.declared.tx.TxOut.{TxOut}
use Rattle.wallet_text.specs.PlainWallet.{PlainWallet}
use Rattle.command_settle.proofs.StopLaws.{wider}
use Rattle.command_settle.specs.Files.{AreFiles, Cause, judged_with}
use Rattle.command_settle.specs.Names.{Names}
use Rattle.command_settle.specs.Outcome.{IsUnsettled}
use Rattle.command_settle.specs.Payment.{IsPayment, IsPaymentFault}
use Rattle.command_settle.specs.Stops.{StopsBy}
use Rattle.command_settle.specs.declared.stop.SettleFile.{SettleFile}
use Rattle.command_settle.specs.declared.stop.Stop.{Stop as SettleStop}
use Rattle.command_settle.specs.declared.stop.Stop.TheVariants as stops
use Rattle.settle_table.specs.Forms.{Holds, form_of}
use Rattle.settle_table.specs.Outcome.{IsSettledBy, IsSettledIn, IsSettlement}
use Rattle.settle_table.specs.Stops.{StopsAt, StopsAtForm, StopsBehind, StopsBroken, StopsFor, StopsInside}
use Rattle.settle_table.specs.declared.forms.Form.{Form}
use Rattle.settle_table.specs.declared.forms.Form.TheVariants.{Hex, Base64, Binary}
use Rattle.settle_table.specs.declared.settling.Settlement.{Settlement}
use Rattle.settle_table.specs.declared.stop.Stop.{Stop}
use Rattle.settle_table.specs.declared.stop.Stop.TheVariants.{Settle, Psbt}

-- ---- what was read

module _ (w : PlainWallet) (r : PlainRequest) (report tx : List ℕ) where
  -- at the transaction
  pub signed_stops : (stop : Stop) → StopsAt tx stop → StopsInside w r report tx stop
  signed_stops stop h = inl h

  module _ (t : Transaction) (holds : Holds tx t) where
    -- at the payment
    pub payment_stops : (stop : SettleStop) → StopsBy (IsPaymentFault report w.scripts) stop → StopsInside w r report tx (Settle stop)
    payment_stops stop h = inr (t, holds, wider (IsPaymentFault report w.scripts) (IsUnsettled report (judged_with w r t)) (λ fault broken. inl broken) stop h)

    module _ (p : PartialTransaction) (spent : List TxOut) (declared : List ℕ) (payment : IsPayment report w.scripts p spent declared) where
      other : (fault : SettleFault) → IsSettleFault p.tx spent declared t r.rate fault → IsUnsettled report (judged_with w r t) fault
      other fault h = inr (record { psbt = p; spent = spent; declared = declared; payment = payment; first = h })

      settle_stops : (stop : Stop) → StopsBroken (IsSettleFault p.tx spent declared t r.rate) stop → StopsInside w r report tx stop
      settle_stops (Settle stop) h = inr (t, holds, wider (IsSettleFault p.tx spent declared t r.rate) (IsUnsettled report (judged_with w r t)) other stop h)
      settle_stops (Psbt fault) h = absurd h

      -- at what settles it
      pub if_settle_stops : (result : Result Settlement Stop) → IfErr result (StopsBroken (IsSettleFault p.tx spent declared t r.rate)) → IfErr result (StopsInside w r report tx)
      if_settle_stops (Ok x) h = tt
      if_settle_stops (Err stop) h = settle_stops stop h

      pub if_settled : (result : Result Settlement Stop) → IfOk result (λ x. IsSettledBy p.tx spent declared t r.rate x.settled x.inputs.items) → IfOk result (λ x. IsSettledIn w r report tx x.settled x.inputs.items)
      if_settled (Ok x) h = record { signed = t; psbt = p; spent = spent; declared = declared; holds = holds; payment = payment; settled = h }
      if_settled (Err stop) h = tt

-- ---- the files

-- what was read stands in the files
pub as_files : (files : List ℕ → List ℕ) (n : Names) (w : PlainWallet) (r : PlainRequest) (report tx : List ℕ) → AreFiles files n w r report tx → AreFiles files n w r (files n.report) (files n.tx)
as_files files n w r report tx a = record { wallet = a.wallet; request = a.request; report = record { fits = a.report.fits; is = refl }; tx = record { fits = a.tx.fits; is = refl } }

-- no file is read any more
no_form_reads : (f : Form) (file : List ℕ) (other : SettleFile) → StopsAtForm f file (Settle (stops.Read other)) → ⊥
no_form_reads Hex file other h = h
no_form_reads Base64 file other h = h
no_form_reads Binary file other h = h

none_read : (w : PlainWallet) (r : PlainRequest) (report tx : List ℕ) (other : SettleFile) → StopsInside w r report tx (Settle (stops.Read other)) → ⊥
none_read w r report tx other (inl h) = no_form_reads (form_of tx) tx other h
none_read w r report tx other (inr (t, holds, h)) = h

module _ (told : Type 0) (n : Names) (old new : ShelfView) (w : PlainWallet) (r : PlainRequest) (report tx : List ℕ) (are : told → AreFiles old.files n w r report tx) where
  behind : (stop : Stop) → StopsInside w r report tx stop → told → StopsBehind old.files n stop
  behind stop h t =
      let a = are t in
      record {
        wallet = w;
        request = r;
        held = as_files old.files n w r report tx a;
        stops = subst (λ (b : List ℕ). StopsInside w r (old.files n.report) b stop) a.tx.is (subst (λ (b : List ℕ). StopsInside w r b tx stop) a.report.is h);
      }

  inside_stops : (stop : Stop) → StopsInside w r report tx stop → StopsFor told n old new stop
  inside_stops (Settle (stops.Read other)) h = absurd (none_read w r report tx other h)
  inside_stops (Settle (stops.Refused refusal)) h = λ t. inr (behind (Settle (stops.Refused refusal)) h t)
  inside_stops (Settle stops.Memory) h = tt
  inside_stops (Psbt fault) h = λ t. behind (Psbt fault) h t

  -- a stop at what was read is one of the files
  pub if_inside_stops : (result : Result Settlement Stop) → IfErr result (StopsInside w r report tx) → IfErr result (StopsFor told n old new)
  if_inside_stops (Ok x) h = tt
  if_inside_stops (Err stop) h = inside_stops stop h

  -- and so what settles
  pub if_settlement : (result : Result Settlement Stop) → IfOk result (λ x. IsSettledIn w r report tx x.settled x.inputs.items) → told → IfOk result (λ x. IsSettlement old.files n x.settled x.inputs.items)
  if_settlement (Ok x) h t =
      let a = are t in
      record {
        wallet = w;
        request = r;
        held = as_files old.files n w r report tx a;
        settled = subst (λ (b : List ℕ). IsSettledIn w r (old.files n.report) b x.settled x.inputs.items) a.tx.is (subst (λ (b : List ℕ). IsSettledIn w r b tx x.settled x.inputs.items) a.report.is h);
      }
  if_settlement (Err stop) h t = tt
