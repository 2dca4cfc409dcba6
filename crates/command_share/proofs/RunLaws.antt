-- What the searches of a request come to, and what a report needs of it.
use Rattle.std.specs.Prelude.{ℕ, ◌≡◌, ◌≤◌, ◌+◌, List, [], ◌∷◌, map, All, Contains, Ok}
use Rattle.std.proofs.Common.{sym, subst, inl, inr}
use Rattle.std.proofs.lemmas.List.Elements.{All-cons, All-contains, All-head, All-nil, All-tail, All-weaker}
use Rattle.closing_log.specs.Log.{PlainSection}
use Rattle.coin_candidates.specs.declared.candidate.Candidate.{Candidate}
use Rattle.fee_rates.specs.Fee.{fee_of, vsize_of}
use Rattle.fee_sharing.specs.RowShares.{amount_of, unpriced}
use Rattle.fund_steps.specs.Amounts.{value_of}
use Rattle.fund_steps.specs.declared.fault.PlanFault.{PlanFault}
use Rattle.output_groups.specs.declared.rows.Row.{Row}
use Rattle.payment_states.specs.Makers.{HasMaker}
use Rattle.request_text.specs.PlainRequest.{PlainRequest, paid_to}
use Rattle.wallet_text.specs.declared.wallet.Watch.{Watch}
use Rattle.fund_files.specs.declared.chain.Chain.{Chain}
use Rattle.command_amounts.specs.Coins.{AreCoins, coins_for}
use Rattle.command_share.proofs.StopLaws.{rows_stop}
use Rattle.command_share.specs.Endings.{CanPay, CanReport, IsRunOf}
use Rattle.command_share.specs.Paying.{PlainPaying}
use Rattle.command_share.specs.Rows.{AreCrowded, AreSearches, IsChosen, PlainRun, searched}
use Rattle.command_share.specs.Stops.{StopsSharing, fault_stop_of}
use Rattle.command_share.specs.declared.rows.RowsEnd.{RowsEnd}
use Rattle.command_share.specs.declared.rows.RowsEnd.TheVariants as ends

made_unpriced : (k : Chain) (cs : List Candidate) → All (HasMaker k.book) cs → All (HasMaker k.book) (map unpriced cs)
made_unpriced k [] made = All-nil (HasMaker k.book)
made_unpriced k (c ∷ cs) made =
    let h = All-head (HasMaker k.book) c cs made in
    All-cons (HasMaker k.book) (unpriced c) (map unpriced cs) (record { maker = h.maker; parent = h.parent; makes = record { txid = h.makes.txid; output = h.makes.output } }) (made_unpriced k cs (All-tail (HasMaker k.book) c cs made))

made_among : (k : Chain) (all coins : List Candidate) → All (HasMaker k.book) all → All (Contains all) coins → All (HasMaker k.book) coins
made_among k all coins made from = All-weaker (Contains all) (HasMaker k.book) (λ c there. All-contains (HasMaker k.book) all c made there) coins from

module _ (k : Chain) (r : PlainRequest) (w : Watch) (cs : List Candidate) (made : All (HasMaker k.book) cs) where
  chosen_pays : (row : Row) (s : PlainSection) (f : PlainPaying) → IsChosen r w row cs s f → CanPay k r f
  chosen_pays row s f h = record {
    coins = h.pays.fit;
    some = h.pays.some;
    covers = subst (λ (n : ℕ). paid_to r.recipients + amount_of f.change + fee_of r.rate (vsize_of n) ≤ value_of f.coins + f.borne) (sym h.weight_is) h.pays.fee_covers;
    makers = made_among k (map unpriced cs) f.coins (made_unpriced k cs made) h.pays.held;
  }

  can_report : (run : PlainRun) (end : RowsEnd) → AreSearches r w cs run end → CanReport k r end
  can_report run ends.Nothing h = tt
  can_report run (ends.Found f) (inl h) = chosen_pays _ h.first f h.chosen
  can_report run (ends.Found f) (inr h) = chosen_pays _ h.second f h.chosen
  can_report run (ends.Open number) h = tt

record IsSearchOf (k : Chain) (r : PlainRequest) (w : Watch) (run : PlainRun) (cs : List Candidate) : Type 0 where
  worth : value_of cs ≤ 2_100_000_000_000_000
  made : All (HasMaker k.book) cs
  value : searched r w cs ≡ Ok run
  tries : run.tries ≤ r.tries
  means : AreSearches r w cs run run.end

run_at : (k : Chain) (r : PlainRequest) (run : PlainRun) → IsSearchOf k r k.wallet.change run (coins_for k r) → IsRunOf k r run
run_at k r run h = record {
  worth = h.worth;
  comes_to = h.value;
  tries = h.tries;
  means = h.means;
  can = can_report k r k.wallet.change (coins_for k r) h.made run run.end h.means;
}

pub run_is : (k : Chain) (r : PlainRequest) (w : Watch) (cs : List Candidate) (run : PlainRun) → w ≡ k.wallet.change → AreCoins k r cs → searched r w cs ≡ Ok run → run.tries ≤ r.tries → AreSearches r w cs run run.end → IsRunOf k r run
run_is k r w cs run own coins value tries means =
    run_at k r run
    (subst (λ (l : List Candidate). IsSearchOf k r k.wallet.change run l) coins.are
    (subst (λ (x : Watch). IsSearchOf k r x run cs) own (record { worth = coins.worth; made = coins.makers; value = value; tries = tries; means = means })))

pub rows_fault : (k : Chain) (r : PlainRequest) (w : Watch) (cs : List Candidate) (fault : PlanFault) → w ≡ k.wallet.change → AreCoins k r cs → AreCrowded r w cs fault → StopsSharing k r (fault_stop_of fault)
rows_fault k r w cs fault own coins h =
    rows_stop k r fault (subst (λ (l : List Candidate). value_of l ≤ 2_100_000_000_000_000) coins.are coins.worth)
    (subst (λ (l : List Candidate). AreCrowded r k.wallet.change l fault) coins.are (subst (λ (x : Watch). AreCrowded r x cs fault) own h))
