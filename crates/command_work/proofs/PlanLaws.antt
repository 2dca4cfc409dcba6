-- The plan of a workload's request keeps its rules, where the workload's transactions have distinct txids.
use Rattle.std.proofs.Common.{◌≡◌, ◌≢◌, ◌∙◌, ℕ, ◌*◌, ◌/◌, ◌<◌, ◌≤◌, List, [], ◌∷◌, length, get_or, map, filter, false, Option, Some, None, refl, sym, ap, subst, arith, All}
use Rattle.std.specs.Prelude.{not, sum_by}
use Rattle.std.proofs.lemmas.List.{length-map}
use Rattle.std.proofs.lemmas.List.Elements.{All-filter, All-map, All-nil, All-weaker}
use Rattle.std.proofs.lemmas.List.Sums.{sum_by-le}
use Rattle.fund_base.proofs.Lists.{filter_le}
use Rattle.coin_candidates.specs.Candidates.{AreCandidates}
use Rattle.coin_candidates.specs.declared.candidate.Candidate.{Candidate}
use Rattle.fund_base.specs.declared.outpoint.OutPoint.{OutPoint}
use Rattle.tx_codec.specs.TransactionText.{IsTransaction}
use Rattle.block_feed.specs.Block.{ChainBlock}
use Rattle.coin_book.specs.Coins.{Made, coins_of, made_of}
use Rattle.coin_book.specs.History.{History}
use Rattle.coin_book.specs.declared.coin.Coin.{Coin}
use Rattle.payment_states.proofs.FitSteps.{fit}
use Rattle.payment_states.specs.BookOf.{IsBookOf}
use Rattle.fund_steps.proofs.BumpLaws.{no_bump}
use Rattle.payment_states.specs.Candidates.{candidate_at, candidate_of, candidates_of, is_candidate}
use Rattle.payment_states.specs.PendingView.{place_in}
use Rattle.output_groups.specs.Forming.{alone}
use Rattle.output_groups.specs.Measures.{is_useful}
use Rattle.output_groups.specs.Part.{Part}
use Rattle.output_groups.specs.Pool.{CountsKept, keeps}
use Rattle.output_groups.specs.declared.rows.Row.{Row}
use Rattle.request_text.specs.PlainRequest.{IsRequest}
use Rattle.fund_steps.proofs.FaultLaws.{fault_found, none_found}
use Rattle.fund_steps.specs.Amounts.{value_of}
use Rattle.fund_steps.specs.Faults as faults
use Rattle.fund_steps.specs.Plan.{HasEligible, IsPlanFault, IsPlan, IsRoomy, IsWithin, ladder_in}
use Rattle.fund_steps.specs.Selection.{is_listed, unlisted}
use Rattle.fund_steps.specs.declared.fault.PlanFault.{PlanFault}
use Rattle.fund_steps.specs.declared.fault.PlanFault.TheVariants as plans
use Rattle.wallet_text.specs.PlainWallet.{PlainWallet}
use Rattle.wallet_text.specs.WalletRules.{AreDistinctEarlier, IsWallet}
use Rattle.command_work.proofs.CoinLaws.{total_within}
use Rattle.command_work.proofs.MakerLaws.{earlier_are}
use Rattle.command_work.proofs.RuleLaws.{request_is, wallet_is}
use Rattle.command_work.specs.Coins.{total_of}
use Rattle.command_work.specs.Load.{earlier_of, request_of, wallet_of}
use Rattle.command_work.specs.Outcome.{load_of, load_plan}
use Rattle.command_work.proofs.BookLaws.{IsCheap, load_cheap, load_few, load_sound}

-- ---- candidates

kept_value : (w : PlainWallet) (h : History) (tip rate : ℕ) (c : Coin) → (candidate_of w h tip rate c).value ≡ c.value
kept_value w h tip rate c = by c.height (place_in w.pending c.coin.txid)
  where
    by : (height place : Option ℕ) → (candidate_at w h tip rate c height place).value ≡ c.value
    by None place = refl
    by (Some height) place = refl

abbrev IsSmallCoin : Candidate → Type 0
IsSmallCoin c = c.value ≤ 5_009_999

cheap_candidates : (w : PlainWallet) (h : History) (tip rate : ℕ) → All IsCheap (made_of h) → All IsSmallCoin (candidates_of w h tip rate)
unfolding candidates_of
cheap_candidates w h tip rate cheap =
    All-map IsSmallCoin (candidate_of w h tip rate) (filter (is_candidate w h tip) (coins_of h))
    (All-filter (is_candidate w h tip) (λ (c : Coin). IsSmallCoin (candidate_of w h tip rate c)) (coins_of h)
    (All-map (λ (c : Coin). IsSmallCoin (candidate_of w h tip rate c)) (λ (m : Made). m.coin) (made_of h)
    (All-weaker IsCheap (λ (m : Made). IsSmallCoin (candidate_of w h tip rate m.coin)) (λ m le. subst (λ (v : ℕ). v ≤ 5_009_999) (sym (kept_value w h tip rate m.coin)) le) (made_of h) cheap)))

few_candidates : (w : PlainWallet) (h : History) (tip rate : ℕ) → length (candidates_of w h tip rate) ≤ length (coins_of h)
unfolding candidates_of
few_candidates w h tip rate =
    let a = filter_le (is_candidate w h tip) (coins_of h) in
    let b = length-map (filter (is_candidate w h tip) (coins_of h)) (candidate_of w h tip rate) in
    omega arith

within : (cs : List Candidate) → All IsSmallCoin cs → length cs ≤ 10_000 → value_of cs ≤ 2_100_000_000_000_000
within cs cheap few =
    let most = sum_by-le (λ (c : Candidate). c.value) 5_009_999 cs cheap in
    omega arith

-- ---- groups

-- each coin is a group by itself
few_kept : (row : Row) (rate : ℕ) (cs : List Candidate) (n : ℕ) → CountsKept false row rate cs n → n ≤ length cs
few_kept row rate cs n h =
    let k = h.are_kept in
    let a : length h.kept ≡ length (map (λ (p : Part). p.coins) (filter (keeps row) k.parts)) = ap (λ (gs : List (List Candidate)). length gs) k.kept_are in
    let b = length-map (filter (keeps row) k.parts) (λ (p : Part). p.coins) in
    let c = filter_le (keeps row) k.parts in
    let d : length k.parts ≡ length (map alone (filter (is_useful rate) cs)) = ap (λ (ps : List Part). length ps) k.formed in
    let e = length-map (filter (is_useful rate) cs) alone in
    let f = filter_le (is_useful rate) cs in
    let g = h.count in
    omega arith

-- ---- the plan

load_wallet : (number count : ℕ) → AreDistinctEarlier (earlier_of number count) → IsWallet (wallet_of number count)
load_wallet number count distinct = wallet_is (earlier_of number count) (earlier_are number count) distinct

load_request : (number count : ℕ) → 1 ≤ count → count ≤ 10_000 → IsRequest (request_of number count)
load_request number count some most =
    let total = total_within number count in
    let low = total.0 in
    let high = total.1 in
    request_is (total_of number count / 20) (omega arith) (omega arith)

load_book : (number count : ℕ) → IsBookOf (wallet_of number count) (load_of number count).book
load_book number count = record { blocks = []; texts = All-nil (λ (b : ChainBlock). All IsTransaction b.txs); scripts = refl; confirmed = refl; pending = refl }

load_candidates : (number count : ℕ) → count ≤ 10_000 → AreDistinctEarlier (earlier_of number count) → AreCandidates (load_plan number count).candidates
load_candidates number count most distinct =
    fit (wallet_of number count) (load_of number count).book (load_wallet number count distinct) (load_book number count) (load_sound number count most distinct) (load_of number count).tip.height 25_000

load_count : (number count : ℕ) → length (load_plan number count).candidates ≤ count
load_count number count =
    let a = few_candidates (wallet_of number count) (load_of number count).book (load_of number count).tip.height 25_000 in
    let b = load_few number count in
    omega arith

load_within : (number count : ℕ) → count ≤ 10_000 → IsWithin (load_plan number count)
load_within number count most =
    let few = load_count number count in
    within (load_plan number count).candidates (cheap_candidates (wallet_of number count) (load_of number count).book (load_of number count).tip.height 25_000 (load_cheap number count)) (omega arith)

load_roomy : (number count : ℕ) → count ≤ 10_000 → (row : Row) → IsRoomy (load_plan number count) row
load_roomy number count most row = λ n keeps.
    let a = few_kept row 25_000 (unlisted [] (load_plan number count).candidates) n keeps in
    let b = filter_le (λ (c : Candidate). not (is_listed [] c.coin)) (load_plan number count).candidates in
    let c = load_count number count in
    omega arith

pub load_keeps : (number count : ℕ) → 1 ≤ count → count ≤ 10_000 → AreDistinctEarlier (earlier_of number count) → IsPlan (load_plan number count)
load_keeps number count some most distinct = record {
  request = load_request number count some most;
  bump = no_bump (request_of number count) (load_plan number count).candidates refl;
  change = (load_wallet number count distinct).change;
  candidates = load_candidates number count most distinct;
  within = load_within number count most;
  eligible = All-nil (HasEligible (load_plan number count));
  roomy = λ k d lt. load_roomy number count most (get_or (ladder_in (load_plan number count)) k d);
}

-- so it has no fault
pub load_unrefused : (number count : ℕ) (fault : PlanFault) → 1 ≤ count → count ≤ 10_000 → AreDistinctEarlier (earlier_of number count) → IsPlanFault (load_plan number count) fault → fault ≢ plans.Memory → ⊥
load_unrefused number count fault some most distinct is real =
    let a : faults.fault_of (load_plan number count) ≡ Some fault = fault_found (load_plan number count) fault is real in
    let b : faults.fault_of (load_plan number count) ≡ None = none_found (load_plan number count) (load_keeps number count some most distinct) in
    let e : None ≡ Some fault = sym b ∙ a in
    absurd cc
