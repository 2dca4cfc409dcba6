-- What a signer gets of a payment.
use Rattle.std.proofs.Common.{◌≡◌, ◌∙◌, ℕ, List, Option, Result, Ok, Err, refl, ap, subst}
use Rattle.std.specs.Prelude.{IfOk}
use Rattle.coin_book.specs.History.{History}
use Rattle.coin_candidates.specs.declared.candidate.Candidate.{Candidate}
use Rattle.fund_payment.specs.Report.{psbt_of}
use Rattle.fund_plan.specs.Selection.{PlainFunded}
use Rattle.psbt_codec.specs.PartialTransaction.{PartialTransaction}
use Rattle.psbt_codec.specs.Text.{psbt_text}
use Rattle.request_text.specs.PlainRequest.{PlainRequest}
use Rattle.wallet_text.specs.declared.wallet.Watch.{Watch}
use Rattle.command_amounts.specs.Signing.{psbt_from}

psbt_is : (h : History) (r : PlainRequest) (w : Watch) (f : PlainFunded) → psbt_of h r w f ≡ psbt_from h r w f.coins f.change
unfolding psbt_of psbt_from
psbt_is h r w f = refl

-- what is made of a payment from these coins and with this change, by a book that is this history
pub signed_is : (h h' : History) (r : PlainRequest) (w w' : Watch) (f : PlainFunded) (coins : List Candidate) (change : Option ℕ) → h ≡ h' → w ≡ w' → f.coins ≡ coins → f.change ≡ change → psbt_of h r w f ≡ psbt_from h' r w' coins change
signed_is h h' r w w' f coins change same script own paid =
    psbt_is h r w f ∙ (ap (λ (x : History). psbt_from x r w f.coins f.change) same ∙ (ap (λ (x : Watch). psbt_from h' r x f.coins f.change) script
    ∙ (ap (λ (l : List Candidate). psbt_from h' r w' l f.change) own ∙ ap (λ (o : Option ℕ). psbt_from h' r w' coins o) paid)))

-- the text is that of the same payment
pub text_is : {T E : Type 0} (bytes : T → List ℕ) (res : Result T E) (v v' : ℕ) (p p' : PartialTransaction) → v ≡ v' → p ≡ p' → IfOk res (λ t. bytes t ≡ psbt_text v p) → IfOk res (λ t. bytes t ≡ psbt_text v' p')
text_is bytes res v v' p p' same is h =
    subst (λ (x : PartialTransaction). IfOk res (λ t. bytes t ≡ psbt_text v' x)) is (subst (λ (n : ℕ). IfOk res (λ t. bytes t ≡ psbt_text n p)) same h)

-- what holds whatever the answer is
pub always : {T E : Type 0} {P : Type 0} (res : Result T E) → P → IfOk res (λ _. P)
always (Ok t) h = h
always (Err e) h = tt
