-- What the recipients of a request are left with, where its amounts and dust thresholds are at hand as lists.
use Rattle.std.specs.Prelude.{ℕ, ◌≡◌, List, Result, Ok, Err, IfOk, IfErr, OnOk}
use Rattle.std.proofs.Common.{◌∙◌, ap, subst}
use Rattle.fee_sharing.specs.Shares.{AllReach, AreLeft, IsFirstShortAt, IsShareFault, left_of}
use Rattle.fee_sharing.specs.declared.fault.ShareFault.{ShareFault}
use Rattle.fee_sharing.specs.declared.fault.ShareFault.TheVariants as faults
use Rattle.request_text.specs.PlainRequest.{IsRequest, PlainRequest}
use Rattle.command_amounts.specs.Amounts.{amounts_of}
use Rattle.command_share.proofs.PayLaws.{request_kept}
use Rattle.command_share.specs.Bearing.{IsBearFault}
use Rattle.command_share.specs.Paying.{amounts_left, dusts_of, shared_request}

module _ (r : PlainRequest) (borne : ℕ) (amounts dusts : List ℕ) (same : amounts ≡ amounts_of r) (dust : dusts ≡ dusts_of r) where
  left_of_them : (l : List ℕ) → l ≡ left_of borne amounts → AreLeft borne amounts dusts l → AreLeft borne (amounts_of r) (dusts_of r) (amounts_left r borne)
  left_of_them l value h =
      subst (λ (a : List ℕ). AreLeft borne a (dusts_of r) (left_of borne a)) same
      (subst (λ (d : List ℕ). AreLeft borne amounts d (left_of borne amounts)) dust (subst (λ (x : List ℕ). AreLeft borne amounts dusts x) value h))

  pub value_is : (x : Result (List ℕ) ShareFault) → IfOk x (λ l. l ≡ left_of borne amounts) → IfOk x (λ l. l ≡ amounts_left r borne)
  value_is (Ok l) value = value ∙ ap (left_of borne) same
  value_is (Err fault) value = tt

  pub left_is : (x : Result (List ℕ) ShareFault) → IfOk x (λ l. l ≡ left_of borne amounts) → IfOk x (AreLeft borne amounts dusts) → IfOk x (λ _. AreLeft borne (amounts_of r) (dusts_of r) (amounts_left r borne))
  left_is (Ok l) value h = left_of_them l value h
  left_is (Err fault) value h = tt

  pub all_reach : (x : Result (List ℕ) ShareFault) → OnOk x (AllReach borne amounts dusts) → IfOk x (λ _. AllReach borne (amounts_of r) (dusts_of r))
  all_reach (Ok l) h = subst (λ (a : List ℕ). AllReach borne a (dusts_of r)) same (subst (λ (d : List ℕ). AllReach borne amounts d) dust h)
  all_reach (Err fault) h = tt

  pub rules_kept : (x : Result (List ℕ) ShareFault) → IsRequest r → IfOk x (λ l. l ≡ left_of borne amounts) → IfOk x (AreLeft borne amounts dusts) → IfOk x (λ _. IsRequest (shared_request r borne))
  rules_kept (Ok l) rules value h = request_kept r borne (left_of_them l value h) rules
  rules_kept (Err fault) rules value h = tt

  pub first_falls_short : (x : Result (List ℕ) ShareFault) → IfErr x (IsShareFault borne amounts dusts) → IfErr x (IsBearFault r borne)
  first_falls_short (Ok l) h = tt
  first_falls_short (Err (faults.ShareDust index)) h =
      subst (λ (a : List ℕ). IsFirstShortAt borne a (dusts_of r) index) same (subst (λ (d : List ℕ). IsFirstShortAt borne amounts d index) dust h)
  first_falls_short (Err faults.Memory) h = tt
