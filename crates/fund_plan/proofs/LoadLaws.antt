-- What the payment of a row is to carry, part by part, and that no row has too many groups.
use Rattle.std.specs.Prelude.{ℕ, ◌≡◌, ◌≤◌, Bool, List}
use Rattle.std.proofs.Common.{ap, subst, arith}
use Rattle.coin_candidates.specs.declared.candidate.Candidate.{Candidate}
use Rattle.fee_rates.specs.declared.terms.PaymentLoad.{PaymentLoad}
use Rattle.output_groups.specs.Pool.{CountsKept, IsPoolFault}
use Rattle.output_groups.specs.declared.fault.PoolFault.TheVariants.{TooMany}
use Rattle.output_groups.specs.declared.rows.Row.{Row}
use Rattle.request_text.specs.PlainRequest.{PlainRequest, paid_to}
use Rattle.wallet_text.specs.declared.wallet.Watch.{Watch}
use Rattle.fund_steps.specs.Amounts.{AreWithin}
use Rattle.fund_steps.specs.Plan.{IsRoomy, PlainPlan}
use Rattle.fund_steps.specs.Selection.{unlisted}
use Rattle.fund_steps.specs.Terms.{load_of}

pub paid_is : (r : PlainRequest) (w : Watch) (coins : List Candidate) (d : ℕ) (l : PaymentLoad) → l ≡ load_of r w coins d → l.paid ≡ paid_to r.recipients
unfolding load_of
paid_is r w coins d l e = ap (λ (x : PaymentLoad). x.paid) e

pub few_coins : (r : PlainRequest) (w : Watch) (coins : List Candidate) (d : ℕ) (l : PaymentLoad) → l ≡ load_of r w coins d → AreWithin coins → l.coins ≤ 100_000
unfolding load_of
few_coins r w coins d l e h = let n = ap (λ (x : PaymentLoad). x.coins) e in omega (arith, n, h.count)

-- a row that keeps at most 10,000 groups doesn't keep more
pub never_many : (p : PlainPlan) (row : Row) (group : Bool) (rate : ℕ) (cs : List Candidate) (n : ℕ) → IsRoomy p row → group ≡ p.request.group → rate ≡ p.request.rate → cs ≡ unlisted p.request.coins p.candidates
    → IsPoolFault group row rate cs (TooMany n) → ⊥
never_many p row group rate cs n roomy g r c due =
    let rest = unlisted p.request.coins p.candidates in
    let kept =
    subst (λ (b : Bool). CountsKept b row p.request.rate rest n) g
    (subst (λ (x : ℕ). CountsKept group row x rest n) r (subst (λ (l : List Candidate). CountsKept group row rate l n) c due.0))
    in
    absurd (omega (arith, roomy n kept, due.1))
