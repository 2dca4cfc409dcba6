-- A payment of all coins to one recipient.
use Rattle.std.specs.Prelude.{ℕ, ◌≡◌, ◌≤◌, List, [], ◌∷◌, length, All, None}
use Rattle.std.proofs.Common.{sym, subst, arith}
use Rattle.std.proofs.lemmas.List.Elements.{All-cons, All-head, All-nil}
use Rattle.coin_candidates.specs.Candidates.{AreCandidates}
use Rattle.coin_candidates.specs.declared.candidate.Candidate.{Candidate}
use Rattle.fee_sharing.proofs.SweepLaws.{swept_fit}
use Rattle.fee_sharing.specs.Sweep.{IsSwept, IsSweptBy, KeepsAlone, sweep_weight, swept_of}
use Rattle.fee_sharing.specs.declared.swept.Swept.{Swept}
use Rattle.fee_sharing.specs.declared.swept.Swept.TheVariants as sweeps
use Rattle.fund_steps.specs.Amounts.{AreWithin, value_of}
use Rattle.payment_states.specs.Makers.{HasMaker}
use Rattle.request_text.specs.PlainRequest.{IsRecipient, IsRequest, PlainRequest, paid_to}
use Rattle.request_text.specs.declared.request.Recipient.{Recipient}
use Rattle.fund_files.specs.declared.chain.Chain.{Chain}
use Rattle.command_amounts.specs.Amounts.{given}
use Rattle.command_amounts.specs.Coins.{AreCoins, coins_for}
use Rattle.command_amounts.specs.Signing.{CanBeSigned}
use Rattle.command_sweep.proofs.EndedLaws.{made_among}
use Rattle.command_sweep.proofs.OutcomeLaws.{paid_due, short_due}
use Rattle.command_sweep.specs.Endings.{CanEnd}
use Rattle.command_sweep.specs.Inputs.{CanSweep}
use Rattle.command_sweep.specs.Outcome.{swept_request}
use Rattle.command_sweep.specs.Results.{SweepsAll}

-- ---- the request with the amount

paid_one : (qs : List Recipient) (amount : ℕ) → length qs ≡ 1 → paid_to (given qs (amount ∷ [])) ≡ amount
paid_one [] amount one = absurd (omega (arith, one))
paid_one (q ∷ []) amount one = omega arith
paid_one (q ∷ x ∷ qs) amount one = absurd (omega (arith, one))

one_kept : (qs : List Recipient) (amount : ℕ) → length qs ≡ 1 → All IsRecipient qs → paid_to qs ≤ amount → amount ≤ 2_100_000_000_000_000 → All IsRecipient (given qs (amount ∷ []))
one_kept [] amount one h enough most = absurd (omega (arith, one))
one_kept (q ∷ []) amount one h enough most =
    let own = All-head IsRecipient q [] h in
    All-cons IsRecipient (record q { amount = amount }) [] (record { bytes = own.bytes; some = own.some; most = own.most; dust = omega (arith, own.dust, enough); money = most }) (All-nil IsRecipient)
one_kept (q ∷ x ∷ qs) amount one h enough most = absurd (omega (arith, one))

some_given : (qs : List Recipient) (amount : ℕ) → 1 ≤ length qs → 1 ≤ length (given qs (amount ∷ []))
some_given [] amount some = some
some_given (q ∷ qs) amount some = omega arith

pub request_kept : (r : PlainRequest) (amount : ℕ) → IsRequest r → length r.recipients ≡ 1 → paid_to r.recipients ≤ amount → amount ≤ 2_100_000_000_000_000 → IsRequest (swept_request r amount)
request_kept r amount h one enough most = record {
  some = some_given r.recipients amount h.some;
  recipients = one_kept r.recipients amount one h.recipients enough most;
  money = omega (arith, paid_one r.recipients amount one, most);
  rate = h.rate;
  long_term = h.long_term;
  discard = h.discard;
  change_target = h.change_target;
  seed = h.seed;
  tries = h.tries;
  coins = h.coins;
  distinct = h.distinct;
  bump = h.bump;
  alone = h.alone;
  locktime = h.locktime;
  psbt = h.psbt;
}

pub can_sign : (k : Chain) (r : PlainRequest) (coins : List Candidate) (amount : ℕ) → length r.recipients ≡ 1 → AreWithin coins → SweepsAll k r coins amount → CanBeSigned (swept_request r amount) coins None
can_sign k r coins amount one fit h = record {
  coins_fit = fit;
  some = h.some;
  change_fits = tt;
  within = omega (arith, paid_one r.recipients amount one, h.pays.fee_covers);
}

pub amount_within : (k : Chain) (r : PlainRequest) (coins : List Candidate) (amount : ℕ) → SweepsAll k r coins amount → amount ≤ value_of coins
amount_within k r coins amount h = omega (arith, h.pays.fee_covers)

-- ---- what the coins come to

record IsKnown (k : Chain) (r : PlainRequest) (swept : Swept) (cs : List Candidate) : Type 0 where
  fit : AreCandidates cs
  worth : value_of cs ≤ 2_100_000_000_000_000
  makers : All (HasMaker k.book) cs
  is : IsSwept r cs swept
  by : IsSweptBy r cs swept
  few : (n : ℕ) → KeepsAlone r cs n → n ≤ 10_000
  light : sweep_weight r (swept_of r cs) ≤ 400_000

can_at : (k : Chain) (r : PlainRequest) (swept : Swept) → IsRequest r → length r.recipients ≡ 1 → IsKnown k r swept (coins_for k r) → CanEnd k r swept
can_at k r sweeps.Short rules one h =
    let can : CanSweep k r = record { worth = h.worth; few = h.few; light = h.light } in
    (h.is, short_due k r can h.is)
can_at k r (sweeps.Paid coins amount) rules one h =
    let can : CanSweep k r = record { worth = h.worth; few = h.few; light = h.light } in
    let fit = subst AreWithin (sym h.is.0) (swept_fit r (coins_for k r) h.fit h.worth) in
    let sweeps : SweepsAll k r coins.items amount = record {
      coins_are = h.is.0;
      some = h.is.1;
      amount_is = h.is.2;
      enough = h.is.3;
      pays = h.by;
      rules = request_kept r amount rules one h.is.3 (omega (arith, h.by.fee_covers, fit.value));
    } in
    (sweeps, fit, made_among k (coins_for k r) coins.items h.makers h.by.held, paid_due k r can coins.items amount sweeps)

pub can_end : (k : Chain) (r : PlainRequest) (cs : List Candidate) (swept : Swept) → IsRequest r → length r.recipients ≡ 1 → AreCoins k r cs → IsSwept r cs swept → IsSweptBy r cs swept → ((n : ℕ) → KeepsAlone r cs n → n ≤ 10_000)
    → sweep_weight r (swept_of r cs) ≤ 400_000 → CanEnd k r swept
can_end k r cs swept rules one coins is by few light =
    can_at k r swept rules one (subst (IsKnown k r swept) coins.are (record { fit = coins.fit; worth = coins.worth; makers = coins.makers; is = is; by = by; few = few; light = light }))
