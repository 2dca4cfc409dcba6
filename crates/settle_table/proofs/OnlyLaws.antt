-- What settles a payment is told of it, memory aside.
use Rattle.std.proofs.Common.{◌≡◌, ◌∙◌, ◌+◌, ℕ, List, Result, Ok, Err, refl, sym, ap, subst, arith}
use Rattle.std.specs.Prelude.{IfErr, IfOk, MatchResult, sum, sum_by}
use Rattle.fund_shelf.specs.Causes.{ShelfView}
use Rattle.psbt_codec.specs.PartialTransaction.{PartialTransaction}
use Rattle.request_text.specs.PlainRequest.{PlainRequest}
use Rattle.settle_check.proofs.FaultLaws.{no_fault}
use Rattle.settle_check.specs.Broken.{IsSettleFault}
use Rattle.settle_check.specs.Settled.{true_weight_of, worth_of}
use Rattle.settle_check.specs.declared.judging.Settled.{Settled}
use Rattle.tx_codec.specs.Transaction.{Transaction}
use Rattle.tx_codec.specs.declared.tx.TxOut.{TxOut}
use Rattle.wallet_text.specs.PlainWallet.{PlainWallet}
use Rattle.command_settle.proofs.PaymentLaws.{one_payment, payment_apart, same_declared, same_spent}
use Rattle.command_settle.specs.Files.{AreFiles}
use Rattle.command_settle.specs.Names.{Names}
use Rattle.command_settle.specs.Payment.{IsPayment, IsPaymentFault}
use Rattle.command_settle.specs.Stops.{StopsBy}
use Rattle.command_settle.specs.declared.stop.Stop.{Stop as SettleStop}
use Rattle.command_settle.specs.declared.stop.Stop.TheVariants as stops
use Rattle.settle_table.proofs.FileLaws.{one_request, one_wallet}
use Rattle.settle_table.specs.Outcome.{IsSettledBy, IsSettledIn, IsSettlement}
use Rattle.settle_table.specs.Stops.{IsUntold, StopsBroken}
use Rattle.settle_table.specs.declared.inputs.WeighedInput.{WeighedInput}
use Rattle.settle_table.specs.declared.settling.Settlement.{Settlement}
use Rattle.settle_table.specs.declared.stop.Stop.{Stop}
use Rattle.settle_table.specs.declared.stop.Stop.TheVariants.{Settle, Psbt}

-- ---- the figures

abbrev figures : (txid : List ℕ) → (weight vsize fee spare : ℕ) → Settled
figures txid weight vsize fee spare = record { txid = txid; weight = weight; vsize = vsize; fee = fee; spare = spare }

same_figures : (t u : List ℕ) (a b c d e f g h : ℕ) → t ≡ u → a ≡ b → c ≡ d → e ≡ f → g ≡ h → figures t a c e g ≡ figures u b d f h
same_figures t u a b c d e f g h p q r s v =
    ap (λ (x : List ℕ). figures x a c e g) p ∙ ap (λ (x : ℕ). figures u x c e g) q ∙ ap (λ (x : ℕ). figures u b x e g) r ∙ ap (λ (x : ℕ). figures u b d x g) s ∙ ap (λ (x : ℕ). figures u b d f x) v

same_summand : (a b more total : ℕ) → a + more ≡ total → b + more ≡ total → a ≡ b
same_summand a b more total x y = omega (arith, x, y)

module _ (p : PartialTransaction) (spent : List TxOut) (declared : List ℕ) (t : Transaction) (rate : ℕ) (s u : Settled) (inputs others : List WeighedInput) (x : IsSettledBy p.tx spent declared t rate s inputs) (y : IsSettledBy p.tx spent declared t rate u others) where
  one_settled : s ≡ u
  one_settled =
      same_figures s.txid u.txid s.weight u.weight s.vsize u.vsize s.fee u.fee s.spare u.spare (x.txid ∙ sym y.txid) (x.weight ∙ sym y.weight) (x.vsize ∙ sym y.vsize)
      (same_summand s.fee u.fee (worth_of t.outputs) (worth_of spent) x.fee y.fee)
      (same_summand s.spare u.spare (sum_by (true_weight_of t.segwit) t.inputs) (sum declared) x.spare y.spare)

  one_weighing : inputs ≡ others
  one_weighing = x.inputs_are ∙ sym y.inputs_are

-- ---- the payment

module _ (w : PlainWallet) (r : PlainRequest) (report tx : List ℕ) (s : Settled) (inputs : List WeighedInput) (x : IsSettledIn w r report tx s inputs) where
  -- the payment is told
  pub payment_only : (stop : SettleStop) → StopsBy (IsPaymentFault report w.scripts) stop → Settle stop ≡ Settle stops.Memory
  payment_only (stops.Read file) h = absurd h
  payment_only (stops.Refused refusal) (fault, is, broken) = absurd (payment_apart report w.scripts x.psbt x.spent x.declared fault x.payment broken)
  payment_only stops.Memory h = refl

  module _ (p : PartialTransaction) (spent : List TxOut) (declared : List ℕ) (payment : IsPayment report w.scripts p spent declared) (t : Transaction) (is : t ≡ x.signed) where
    settled_there : IsSettledBy p.tx spent declared t r.rate s inputs
    settled_there =
        subst (λ (v : Transaction). IsSettledBy p.tx spent declared v r.rate s inputs) (sym is)
        (subst (λ (l : List ℕ). IsSettledBy p.tx spent l x.signed r.rate s inputs) (same_declared report w.scripts x.psbt p x.spent spent x.declared declared x.payment payment)
        (subst (λ (l : List TxOut). IsSettledBy p.tx l x.declared x.signed r.rate s inputs) (same_spent report w.scripts x.psbt p x.spent spent x.declared declared x.payment payment)
        (subst (λ (q : PartialTransaction). IsSettledBy q.tx x.spent x.declared x.signed r.rate s inputs) (one_payment report x.psbt p x.payment.psbt payment.psbt) x.settled)))

    broken_only : (stop : SettleStop) → StopsBy (IsSettleFault p.tx spent declared t r.rate) stop → Settle stop ≡ Settle stops.Memory
    broken_only (stops.Read file) h = absurd h
    broken_only (stops.Refused refusal) (fault, e, broken) = absurd (no_fault p.tx spent declared t r.rate fault settled_there.settles broken)
    broken_only stops.Memory h = refl

    stop_only : (stop : Stop) → StopsBroken (IsSettleFault p.tx spent declared t r.rate) stop → stop ≡ Settle stops.Memory
    stop_only (Settle stop) h = broken_only stop h
    stop_only (Psbt fault) h = absurd h

    -- and so is the settlement
    pub judged_only : (result : Result Settlement Stop) → IfOk result (λ y. IsSettledBy p.tx spent declared t r.rate y.settled y.inputs.items) → IfErr result (StopsBroken (IsSettleFault p.tx spent declared t r.rate))
        → MatchResult result (λ y. (y.settled ≡ s) × (y.inputs.items ≡ inputs)) (λ stop. stop ≡ Settle stops.Memory)
    judged_only (Ok y) ok err =
        (one_settled p spent declared t r.rate y.settled s y.inputs.items inputs ok settled_there, one_weighing p spent declared t r.rate y.settled s y.inputs.items inputs ok settled_there)
    judged_only (Err stop) ok err = stop_only stop err

-- ---- the files

memory_untold : (stop : Stop) → stop ≡ Settle stops.Memory → IsUntold stop
memory_untold stop e = subst IsUntold (sym e) tt

untold_or : (s : Settled) (inputs : List WeighedInput) (result : Result Settlement Stop) → MatchResult result (λ y. (y.settled ≡ s) × (y.inputs.items ≡ inputs)) (λ stop. stop ≡ Settle stops.Memory) → MatchResult result (λ y. (y.settled ≡ s) × (y.inputs.items ≡ inputs)) IsUntold
untold_or s inputs (Ok y) h = h
untold_or s inputs (Err stop) h = memory_untold stop h

-- what the files come to is what those that were read come to
pub settled_read : (files : List ℕ → List ℕ) (n : Names) (v : PlainWallet) (q : PlainRequest) (report tx : List ℕ) → AreFiles files n v q report tx → (s : Settled) (inputs : List WeighedInput) → IsSettlement files n s inputs → IsSettledIn v q report tx s inputs
settled_read files n v q report tx are s inputs x =
    subst (λ (a : PlainWallet). IsSettledIn a q report tx s inputs) (sym (one_wallet files n x.wallet x.request x.held v q report tx are))
    (subst (λ (b : PlainRequest). IsSettledIn x.wallet b report tx s inputs) (sym (one_request files n x.wallet x.request x.held v q report tx are))
    (subst (λ (b : List ℕ). IsSettledIn x.wallet x.request b tx s inputs) (sym are.report.is)
    (subst (λ (b : List ℕ). IsSettledIn x.wallet x.request (files n.report) b s inputs) (sym are.tx.is) x.settled)))

pub settlement_only : (told : Type 0) (n : Names) (old : ShelfView) (v : PlainWallet) (q : PlainRequest) (report tx : List ℕ) → (told → AreFiles old.files n v q report tx) → (result : Result Settlement Stop)
    → ((s : Settled) (inputs : List WeighedInput) → IsSettledIn v q report tx s inputs → MatchResult result (λ y. (y.settled ≡ s) × (y.inputs.items ≡ inputs)) (λ stop. stop ≡ Settle stops.Memory))
    → told → (s : Settled) (inputs : List WeighedInput) → IsSettlement old.files n s inputs → MatchResult result (λ y. (y.settled ≡ s) × (y.inputs.items ≡ inputs)) IsUntold
settlement_only told n old v q report tx are result only t s inputs x = untold_or s inputs result (only s inputs (settled_read old.files n v q report tx (are t) s inputs x))
