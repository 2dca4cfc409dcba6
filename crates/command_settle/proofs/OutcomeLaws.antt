-- The files come to one outcome at most.
use Rattle.std.proofs.Common.{◌≡◌, ◌∙◌, ℕ, List, Result, Ok, Err, inl, inr, sym, ap, subst}
use Rattle.psbt_codec.specs.PartialTransaction.{PartialTransaction}
use Rattle.settle_check.proofs.FaultLaws.{no_fault, one_fault}
use Rattle.settle_check.specs.Broken.{IsSettleFault}
use Rattle.settle_check.specs.declared.fault.SettleFault.{SettleFault}
use Rattle.tx_codec.specs.declared.tx.TxOut.{TxOut}
use Rattle.command_settle.proofs.PaymentLaws.{one_payment, one_payment_fault, payment_apart, same_declared, same_spent}
use Rattle.command_settle.specs.Files.{Cause, Judged, Unsettled, judged_of}
use Rattle.command_settle.specs.Names.{Names}
use Rattle.command_settle.specs.Outcome.{ComesTo, IsOtherFault, IsSettled, IsSettledIn, IsUnsettled, Outcome, Refused, Settled}
use Rattle.command_settle.specs.Payment.{IsPayment}
use Rattle.command_settle.specs.Words.{settled_text}

same_cause : (a b : Cause) (r : Result Judged Cause) → r ≡ Err a → r ≡ Err b → a ≡ b
same_cause a b r x y = let e : ◌≡◌ {A = Result Judged Cause} (Err a) (Err b) = sym x ∙ y in cc

same_judged : (a b : Judged) (r : Result Judged Cause) → r ≡ Ok a → r ≡ Ok b → a ≡ b
same_judged a b r x y = let e : ◌≡◌ {A = Result Judged Cause} (Ok a) (Ok b) = sym x ∙ y in cc

not_both : (a : Cause) (b : Judged) (r : Result Judged Cause) → r ≡ Err a → r ≡ Ok b → ⊥
not_both a b r x y = let e : ◌≡◌ {A = Result Judged Cause} (Err a) (Ok b) = sym x ∙ y in absurd cc

module _ (report : List ℕ) (j : Judged) where
  -- a fault of what settles one payment is one of what settles another, which is the same
  moved : (p q : PartialTransaction) (spent spent' : List TxOut) (declared declared' : List ℕ) (fault : SettleFault) → p ≡ q → spent ≡ spent' → declared ≡ declared' → IsSettleFault p.tx spent declared j.signed j.request.rate fault → IsSettleFault q.tx spent' declared' j.signed j.request.rate fault
  moved p q spent spent' declared declared' fault a b c h =
      subst (λ (l : List ℕ). IsSettleFault q.tx spent' l j.signed j.request.rate fault) c
      (subst (λ (l : List TxOut). IsSettleFault q.tx l declared j.signed j.request.rate fault) b
      (subst (λ (x : PartialTransaction). IsSettleFault x.tx spent declared j.signed j.request.rate fault) a h))

  other_there : (fault : SettleFault) (x : IsOtherFault report j fault) (q : PartialTransaction) (spent : List TxOut) (declared : List ℕ) → IsPayment report j.wallet.scripts q spent declared → IsSettleFault q.tx spent declared j.signed j.request.rate fault
  other_there fault x q spent declared h =
      moved x.psbt q x.spent spent x.declared declared fault (one_payment report x.psbt q x.payment.psbt h.psbt)
      (same_spent report j.wallet.scripts x.psbt q x.spent spent x.declared declared x.payment h)
      (same_declared report j.wallet.scripts x.psbt q x.spent spent x.declared declared x.payment h) x.first

  pub one_rule : (d e : SettleFault) → IsUnsettled report j d → IsUnsettled report j e → d ≡ e
  one_rule d e (inl x) (inl y) = one_payment_fault report j.wallet.scripts d e x y
  one_rule d e (inl x) (inr y) = absurd (payment_apart report j.wallet.scripts y.psbt y.spent y.declared d y.payment x)
  one_rule d e (inr x) (inl y) = absurd (payment_apart report j.wallet.scripts x.psbt x.spent x.declared e x.payment y)
  one_rule d e (inr x) (inr y) = one_fault y.psbt.tx y.spent y.declared j.signed j.request.rate d e (other_there d x y.psbt y.spent y.declared y.payment) y.first

  pub rule_apart : (d : SettleFault) (text : List ℕ) → IsUnsettled report j d → IsSettledIn report j text → ⊥
  rule_apart d text (inl x) y = payment_apart report j.wallet.scripts y.psbt y.spent y.declared d y.payment x
  rule_apart d text (inr x) y = no_fault y.psbt.tx y.spent y.declared j.signed j.request.rate d y.settled.settles (other_there d x y.psbt y.spent y.declared y.payment)

  one_text : (a b : List ℕ) → IsSettledIn report j a → IsSettledIn report j b → a ≡ b
  one_text a b x y =
      x.settled.prints
      ∙ ap (λ (l : List TxOut). settled_text j.signed l x.declared) (same_spent report j.wallet.scripts x.psbt y.psbt x.spent y.spent x.declared y.declared x.payment y.payment)
      ∙ ap (λ (l : List ℕ). settled_text j.signed y.spent l) (same_declared report j.wallet.scripts x.psbt y.psbt x.spent y.spent x.declared y.declared x.payment y.payment)
      ∙ sym y.settled.prints

module _ (files : List ℕ → List ℕ) (n : Names) where
  one_cause : (a b : Cause) → ComesTo files n (Refused a) → ComesTo files n (Refused b) → a ≡ b
  one_cause a b (inl x) (inl y) = same_cause a b (judged_of files n) x y
  one_cause a b (inl x) (inr (j, held, broken)) = absurd (not_both a j (judged_of files n) x held)
  one_cause a b (inr (j, held, broken)) (inl y) = absurd (not_both b j (judged_of files n) y held)
  one_cause a b (inr (j, held, (d, is, x))) (inr (k, kept, (e, too, y))) =
      let same : k ≡ j = same_judged k j (judged_of files n) kept held in
      let there = subst (λ (v : Judged). IsUnsettled (files n.report) v e) same y in
      is ∙ ap (λ (f : SettleFault). Unsettled f) (one_rule (files n.report) j d e x there) ∙ sym too

  refused_apart : (a : Cause) (text : List ℕ) → ComesTo files n (Refused a) → IsSettled files n text → ⊥
  refused_apart a text (inl x) y = not_both a y.judged (judged_of files n) x y.held
  refused_apart a text (inr (j, held, (d, is, x))) y =
      let same : j ≡ y.judged = same_judged j y.judged (judged_of files n) held y.held in
      rule_apart (files n.report) y.judged d text (subst (λ (v : Judged). IsUnsettled (files n.report) v d) same x) y.settled

  same_settled : (a b : List ℕ) → IsSettled files n a → IsSettled files n b → a ≡ b
  same_settled a b x y =
      let same : x.judged ≡ y.judged = same_judged x.judged y.judged (judged_of files n) x.held y.held in
      one_text (files n.report) y.judged a b (subst (λ (v : Judged). IsSettledIn (files n.report) v a) same x.settled) y.settled

  pub one_outcome : (a b : Outcome) → ComesTo files n a → ComesTo files n b → a ≡ b
  one_outcome (Refused c) (Refused d) x y = ap (λ (v : Cause). Refused v) (one_cause c d x y)
  one_outcome (Refused c) (Settled t) x y = absurd (refused_apart c t x y)
  one_outcome (Settled t) (Refused c) x y = absurd (refused_apart c t y x)
  one_outcome (Settled t) (Settled u) x y = ap (λ (v : List ℕ). Settled v) (same_settled t u x y)
