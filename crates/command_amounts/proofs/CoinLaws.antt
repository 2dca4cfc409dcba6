-- The coins that may be spent.
use Rattle.std.proofs.Common.{◌≡◌, ◌≤◌, ◌<◌, ℕ, List, None, ap, subst, sym}
use Rattle.std.specs.Prelude.{All}
use Rattle.coin_book.specs.Faults.{fault_of as book_fault}
use Rattle.coin_candidates.specs.Candidates.{AreCandidates}
use Rattle.coin_candidates.specs.declared.candidate.Candidate.{Candidate}
use Rattle.fund_files.specs.Chain.{IsChain}
use Rattle.fund_files.specs.declared.chain.Chain.{Chain}
use Rattle.fund_payment.proofs.ParentLaws.{held_book}
use Rattle.fund_steps.specs.Amounts.{value_of}
use Rattle.fund_steps.specs.declared.fault.PlanFault.TheVariants as plans
use Rattle.payment_states.proofs.MakerSteps.{all_made}
use Rattle.payment_states.specs.Makers.{HasMaker}
use Rattle.request_text.specs.PlainRequest.{PlainRequest}
use Rattle.command_inputs.specs.Outcome.{candidates_in}
use Rattle.command_amounts.specs.Coins.{AreCoins, AreTooMuch, coins_for}

module _ (k : Chain) (r : PlainRequest) (coins : List Candidate) (are : coins ≡ coins_for k r) where
  pub are_coins : IsChain k → book_fault k.book ≡ None → AreCandidates coins → value_of coins ≤ 2_100_000_000_000_000 → AreCoins k r coins
  are_coins held sound fit worth = record {
    are = are;
    fit = fit;
    worth = worth;
    makers = subst (λ (l : List Candidate). All (HasMaker k.book) l) (sym are) (all_made k.wallet k.book k.tip.height r.rate held.rules (held_book k held) sound);
  }

  pub are_too_much : (sum : ℕ) → sum ≡ value_of coins → 2_100_000_000_000_000 < sum → AreTooMuch k r (plans.Total sum)
  are_too_much sum is more = (subst (λ (l : List Candidate). sum ≡ value_of l) are is, more)
