-- What a plan is given where a payment is replaced.
use Rattle.std.proofs.Common.{◌≡◌, ◌∙◌, ℕ, true, false, List, Option, Some, None, refl, sym, ap, subst, All, Contains}
use Rattle.std.specs.Prelude.{IsSome, is_some, option_and_then, option_map}
use Rattle.std.proofs.lemmas.List.Elements.{All-contains, All-weaker}
use Rattle.std.proofs.lemmas.Option.{none-some, same_Some}
use Rattle.coin_book.specs.Faults.{fault_of as book_fault}
use Rattle.fee_bump.proofs.PlanLaws.{candidates_alone_fit, presets_alone_fit, presets_aside, terms_burden, terms_made, terms_together}
use Rattle.fee_bump.specs.Bump.{PlainTerms, terms_of}
use Rattle.fee_bump.specs.Faults.{fault_of as bump_fault_of}
use Rattle.fee_bump.specs.declared.fault.BumpFault.{BumpFault}
use Rattle.coin_candidates.specs.Candidates.{AreCandidates}
use Rattle.coin_candidates.specs.declared.candidate.Candidate.{Candidate}
use Rattle.fund_steps.specs.Plan.{IsBumpFor, coins_in, coins_with}
use Rattle.payment_states.proofs.MakerSteps.{all_made}
use Rattle.payment_states.specs.BookOf.{IsBookOf}
use Rattle.payment_states.specs.Makers.{HasMaker}
use Rattle.request_text.specs.PlainRequest.{PlainRequest}
use Rattle.fund_files.specs.Chain.{IsChain}
use Rattle.fund_files.specs.declared.chain.Chain.{Chain}
use Rattle.fund_payment.proofs.ParentLaws.{held_book}
use Rattle.command_inputs.specs.Outcome.{bump_fault_in, bump_of, candidates_by, plan_of, terms_for}

-- a request that has no terms names no payment
pub none_named : (k : Chain) (r : PlainRequest) → None ≡ terms_for k r → r.bump ≡ None
none_named k r e = by r.bump e
  where
    terms : PlainTerms
    terms = terms_of k.wallet k.book k.tip.height r

    by : (o : Option (List ℕ)) → None ≡ option_map (λ (txid : List ℕ). terms) o → o ≡ None
    by None same = refl
    by (Some txid) same = absurd (none-some terms same)

-- by whether the request names a payment
module _ (k : Chain) (r : PlainRequest) where
  abbrev own : List ℕ → PlainTerms
  own txid = terms_of k.wallet k.book k.tip.height r

  abbrev due : List ℕ → Option BumpFault
  due txid = bump_fault_of k.wallet k.book r

  no_terms_by : (o : Option (List ℕ)) → is_some o ≡ false → None ≡ option_map own o
  no_terms_by None e = refl
  no_terms_by (Some txid) e = absurd cc

  no_fault_by : (o : Option (List ℕ)) → is_some o ≡ false → option_and_then due o ≡ None
  no_fault_by None e = refl
  no_fault_by (Some txid) e = absurd cc

  terms_by : (o : Option (List ℕ)) → is_some o ≡ true → Some (terms_of k.wallet k.book k.tip.height r) ≡ option_map own o
  terms_by None e = absurd cc
  terms_by (Some txid) e = refl

  fault_by : (o : Option (List ℕ)) → is_some o ≡ true → bump_fault_of k.wallet k.book r ≡ option_and_then due o
  fault_by None e = absurd cc
  fault_by (Some txid) e = refl

  pub no_terms : is_some r.bump ≡ false → None ≡ terms_for k r
  no_terms e = no_terms_by r.bump e

  pub no_fault : is_some r.bump ≡ false → bump_fault_in k r ≡ None
  no_fault e = no_fault_by r.bump e

  pub terms_are : is_some r.bump ≡ true → Some (terms_of k.wallet k.book k.tip.height r) ≡ terms_for k r
  terms_are e = terms_by r.bump e

  pub fault_is : is_some r.bump ≡ true → bump_fault_of k.wallet k.book r ≡ bump_fault_in k r
  fault_is e = fault_by r.bump e

-- where nothing keeps a named payment from being replaced, nothing keeps that one
pub fault_there : (k : Chain) (r : PlainRequest) (txid : List ℕ) → r.bump ≡ Some txid → bump_fault_in k r ≡ None → bump_fault_of k.wallet k.book r ≡ None
fault_there k r txid named clear = sym (ap (λ (o : Option (List ℕ)). option_and_then (λ (t : List ℕ). bump_fault_of k.wallet k.book r) o) named) ∙ clear

-- the terms are those of the payment that is named
record AreNamed (k : Chain) (r : PlainRequest) (t : PlainTerms) : Type 0 where
  txid : List ℕ
  named : r.bump ≡ Some txid
  is : t ≡ terms_of k.wallet k.book k.tip.height r

terms_there : (k : Chain) (r : PlainRequest) (t : PlainTerms) → Some t ≡ terms_for k r → AreNamed k r t
terms_there k r t e = by r.bump refl e
  where
    terms : PlainTerms
    terms = terms_of k.wallet k.book k.tip.height r

    by : (o : Option (List ℕ)) → r.bump ≡ o → Some t ≡ option_map (λ (txid : List ℕ). terms) o → AreNamed k r t
    by None own same = absurd (none-some t (sym same))
    by (Some txid) own same = record { txid = txid; named = own; is = same_Some t terms same }

module _ (k : Chain) (r : PlainRequest) (held : IsChain k) (sound : book_fault k.book ≡ None) where
  abbrev terms : PlainTerms
  terms = terms_of k.wallet k.book k.tip.height r

  book : IsBookOf k.wallet k.book
  book = held_book k held

  -- ---- what a plan asks

  named_fits : (txid : List ℕ) → r.bump ≡ Some txid → bump_fault_in k r ≡ None → IsBumpFor r terms.candidates (Some (bump_of terms))
  named_fits txid named clear = record {
    asked = (λ some. let there : IsSome {T = List ℕ} (Some txid) = refl in subst (λ (o : Option (List ℕ)). IsSome o) (sym named) there, λ some. refl);
    fits = record {
      presets = presets_alone_fit k.wallet k.book k.tip.height r held.rules book sound;
      others = presets_aside k.wallet k.book k.tip.height r held.rules book sound;
      together = terms_together k.wallet k.book k.tip.height r held.rules book sound;
      burden = terms_burden k.wallet k.book k.tip.height r held.rules book sound txid named (fault_there k r txid named clear);
    };
  }

  pub bump_fits : (t : PlainTerms) → Some t ≡ terms_for k r → bump_fault_in k r ≡ None → IsBumpFor r t.candidates (Some (bump_of t))
  bump_fits t e clear =
      let a = terms_there k r t e in
      subst (λ (x : PlainTerms). IsBumpFor r x.candidates (Some (bump_of x))) (sym a.is) (named_fits a.txid a.named clear)

  pub added_fit : (t : PlainTerms) → Some t ≡ terms_for k r → AreCandidates t.candidates
  added_fit t e =
      subst (λ (x : PlainTerms). AreCandidates x.candidates) (sym (terms_there k r t e).is) (candidates_alone_fit k.wallet k.book k.tip.height r held.rules book sound)

  -- ---- the coins that a plan can spend

  made_by : (o : Option (List ℕ)) → All (HasMaker k.book) (coins_with (option_map bump_of (option_map (λ (txid : List ℕ). terms) o)) (candidates_by k r.rate (option_map (λ (txid : List ℕ). terms) o)))
  made_by None = all_made k.wallet k.book k.tip.height r.rate held.rules book sound
  made_by (Some txid) = terms_made k.wallet k.book k.tip.height r held.rules book sound

  pub coins_made : All (HasMaker k.book) (coins_in (plan_of k r))
  coins_made = made_by r.bump

  -- so the book has the transactions that made the coins which a payment takes from these
  pub spent_made : (coins : List Candidate) → All (Contains (coins_in (plan_of k r))) coins → All (HasMaker k.book) coins
  spent_made coins from =
      All-weaker (Contains (coins_in (plan_of k r))) (HasMaker k.book) (λ c there. All-contains (HasMaker k.book) (coins_in (plan_of k r)) c coins_made there) coins from
