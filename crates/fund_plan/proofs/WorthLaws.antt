-- What a change and a sequence are worth, in the words of the script, the wallet and the request.
use Rattle.std.specs.Prelude.{ℕ, ◌≡◌, ◌≤◌, ◌<◌, ◌==◌, Bool, true, false, List, [], ◌∷◌, map, length, Any, IsTrue, ◌↔◌, Option, Some, None, IfSome}
use Rattle.std.proofs.Common.{refl, sym, ap, subst, arith}
use Rattle.coin_candidates.specs.declared.candidate.Candidate.{Candidate}
use Rattle.tx_codec.specs.Signals.{Signals}
use Rattle.tx_codec.specs.declared.tx.TxIn.{TxIn}
use Rattle.fee_rates.specs.Fee.{input_fee_of}
use Rattle.fee_rates.specs.Output.{dust_of}
use Rattle.fee_rates.specs.Terms.{change_least_of}
use Rattle.fee_rates.specs.declared.terms.PaymentLoad.{PaymentLoad}
use Rattle.output_groups.proofs.Members.{from_map}
use Rattle.request_text.specs.PlainRequest.{PlainRequest}
use Rattle.wallet_text.specs.declared.wallet.Watch.{Watch}
use Rattle.fund_steps.specs.Plan.{PlainPlan}
use Rattle.fund_steps.specs.Terms.{load_of, rates_of}
use Rattle.fund_plan.specs.Answer.{IsPayment}
use Rattle.fund_plan.specs.Chosen.{load_by, load_for}
use Rattle.fund_plan.specs.Pays.{IsWorthIt, payment_from, payment_of, sequence_of, unsigned_input}
use Rattle.fund_plan.specs.Selection.{PlainFunded}

dust_by : (p : PlainPlan) (b : Bool) (n : ℕ) → (load_by p b n).change_dust ≡ dust_of p.change.script
unfolding load_of
dust_by p true n = refl
dust_by p false n = refl

weight_by : (p : PlainPlan) (b : Bool) (n : ℕ) → (load_by p b n).change_weight ≡ p.change.weight
unfolding load_of
weight_by p true n = refl
weight_by p false n = refl

worth_at : (p : PlainPlan) (l : PaymentLoad) (amount : Option ℕ) → l.change_dust ≡ dust_of p.change.script → l.change_weight ≡ p.change.weight → IfSome amount (λ n. change_least_of (rates_of p.request) l ≤ n) → IfSome amount (IsWorthIt p.request p.change)
worth_at p l None dust weight h = tt
worth_at p l (Some n) dust weight h =
    let spend = ap (input_fee_of p.request.discard) weight in
    record { dust = omega (arith, h, dust); spending = omega (arith, h, spend) }

pub change_worth_it : (p : PlainPlan) (f : PlainFunded) → IsPayment p f → IfSome f.change (IsWorthIt p.request p.change)
change_worth_it p f a = worth_at p (load_for p f.row) f.change (dust_by p (f.row == 0) f.row) (weight_by p (f.row == 0) f.row) a.pays.change_worth

-- ---- signals of replacement

low_of : (b : Bool) → sequence_of b < 4_294_967_294 → IsTrue b
low_of true h = refl
low_of false h = absurd (omega (arith, h))

signals_asked : (b : Bool) (coins : List Candidate) → Any (λ (i : TxIn). i.sequence < 4_294_967_294) (map (unsigned_input b) coins) → IsTrue b
signals_asked b coins h =
    let at = from_map (unsigned_input b) coins h.1 (h.0, h.2, h.3) in
    low_of b (subst (λ (i : TxIn). i.sequence < 4_294_967_294) (sym at.2) h.4)

asked_signals : (b : Bool) (coins : List Candidate) → 0 < length coins → IsTrue b → Any (λ (i : TxIn). i.sequence < 4_294_967_294) (map (unsigned_input b) coins)
asked_signals b [] some asked = absurd (omega (arith, some))
asked_signals true (c ∷ coins) some asked = (0, unsigned_input true c, omega arith, refl, omega arith)
asked_signals false (c ∷ coins) some asked = absurd (cc)

pub signals_where : (r : PlainRequest) (change : Watch) (f : PlainFunded) → 0 < length f.coins → (Signals (payment_of r change f) ↔ IsTrue r.replaceable)
unfolding payment_from
signals_where r change f some = (signals_asked r.replaceable f.coins, asked_signals r.replaceable f.coins some)
