-- A payment whose recipients bear the fee, from the coins of one row of the ladder.
use Rattle.std.specs.Prelude.{ℕ, ◌≡◌, ◌≤◌, ◌<◌, ◌+◌, ◌-◌, All, Contains, false, true, List, [], length, map, max, nat_le, sum_by, Option, Some, None, if◌then◌else◌}
use Rattle.closing_log.specs.Log.{PlainSection}
use Rattle.closing_log.specs.declared.log.Stage.TheVariants as stage
use Rattle.coin_candidates.specs.declared.candidate.Candidate.{Candidate}
use Rattle.fee_rates.specs.Fee.{fee_of, vsize_of}
use Rattle.fee_rates.specs.Terms.{base_of, change_fee_of, change_least_of, change_limit_of}
use Rattle.fee_rates.specs.declared.terms.PaymentLoad.{PaymentLoad}
use Rattle.output_groups.specs.Ladder.{Meets}
use Rattle.output_groups.specs.Places.{members}
use Rattle.output_groups.specs.PlainPool.{PlainPool}
use Rattle.output_groups.specs.Pool.{CountsKept}
use Rattle.output_groups.specs.PoolOf.{pool_of}
use Rattle.output_groups.specs.declared.rows.Row.{Row}
use Rattle.pick_problem.specs.Best.{IsBest}
use Rattle.pick_problem.specs.Digest.{digest_of}
use Rattle.pick_problem.specs.Letters.{IsAcceptedText, letters_of}
use Rattle.pick_problem.specs.Problem.{IsProblem, PlainProblem}
use Rattle.pick_problem.specs.Walk.{Walk, walk}
use Rattle.pick_problem.specs.declared.item.Kind.TheVariants as kind
use Rattle.request_text.specs.PlainRequest.{PlainRequest, paid_to}
use Rattle.wallet_text.specs.declared.wallet.Watch.{Watch}
use Rattle.fund_steps.specs.Amounts.{AreWithin, fees_of, value_of}
use Rattle.fund_steps.specs.Searches.{load_with}
use Rattle.fund_steps.specs.Selection.{AreSorted, in_order}
use Rattle.fund_steps.specs.Terms.{load_of, rates_of}
use Rattle.fund_plan.specs.Pays.{payment_weight}
use Rattle.fee_sharing.specs.declared.fault.ShareRowFault.{ShareRowFault}
use Rattle.fee_sharing.specs.declared.fault.ShareRowFault.TheVariants as fault
use Rattle.fee_sharing.specs.declared.shared.Shared.{Shared}
use Rattle.fee_sharing.specs.declared.shared.Shared.TheVariants as shared

-- ---- what is chosen from

-- the coin without its price
abbrev pub unpriced : Candidate → Candidate
unpriced c = record c { price = 0 }

-- The pool of a row by what coins are worth: at rate 0 and without prices, so that each group's value is that of its coins.
-- A group's cost is then what its inputs would cost at the long-term rate, below zero.
abbrev pub worth_pool : PlainRequest → Row → List Candidate → PlainPool
worth_pool r row cs = pool_of r.group row 0 r.long_term (map unpriced cs)

-- what the payment is to carry: its recipients and its change, where it may spend all coins of the pool
abbrev pub load_from : PlainRequest → Watch → PlainPool → PaymentLoad
load_from r change pool = load_with (load_of r change [] 0) (sum_by (λ (g : List Candidate). length g) pool.groups)

abbrev pub load_in : PlainRequest → Watch → Row → List Candidate → PaymentLoad
load_in r change row cs = load_from r change (worth_pool r row cs)

-- what the coins are to be worth at least: what the recipients are asked to get together, and at least 1, so that a coin is
-- spent
abbrev pub least_worth : PlainRequest → ℕ
least_worth r = max (paid_to r.recipients) 1

-- The lightest selection is looked for that is worth that, within the weight that is left beside a change.
abbrev pub problem_from : PlainRequest → Watch → PlainPool → PlainProblem
problem_from r change pool = record {
  items = pool.items;
  lo = least_worth r;
  hi = least_worth r;
  most_weight = change_limit_of (load_from r change pool);
  kind = kind.Lean;
}

abbrev pub problem_in : PlainRequest → Watch → Row → List Candidate → PlainProblem
problem_in r change row cs = problem_from r change (worth_pool r row cs)

-- the search after at most so many tries
abbrev pub walk_in : PlainRequest → Watch → Row → List Candidate → (budget : ℕ) → Walk
walk_in r change row cs budget = walk (problem_in r change row cs) budget

-- the coins at places of the pool, in the order of their outpoints
abbrev pub chosen_in : PlainRequest → Row → List Candidate → (places : List ℕ) → List Candidate
chosen_in r row cs places = in_order (members (worth_pool r row cs).groups places)

-- ---- change and fee

-- what coins are worth above what the recipients are asked to get
abbrev pub excess_of : PlainRequest → List Candidate → ℕ
excess_of r coins = value_of coins - paid_to r.recipients

-- all of it is change exactly where it is at least the least change that is worth making
abbrev pub change_with : (least excess : ℕ) → Option ℕ
change_with least excess = if nat_le least excess then Some excess else None

abbrev pub change_of : PlainRequest → PaymentLoad → List Candidate → Option ℕ
change_of r l coins = change_with (change_least_of (rates_of r) l) (excess_of r coins)

-- what the payment is to pay for its base, by its declared weight in weight units, and for each input
abbrev pub needed_with : PlainRequest → (base : ℕ) → List Candidate → ℕ
needed_with r base coins = fee_of r.rate (vsize_of base) + fees_of r.rate coins

-- What the recipients bear: without a change what the excess doesn't pay of that, and with one all of it and the fee of the
-- change output.
abbrev pub borne_with : (needed change_fee excess : ℕ) → (change : Option ℕ) → ℕ
borne_with needed change_fee excess None = needed - excess
borne_with needed change_fee excess (Some amount) = needed + change_fee

abbrev pub borne_of : PlainRequest → PaymentLoad → List Candidate → (change : Option ℕ) → ℕ
borne_of r l coins change = borne_with (needed_with r (base_of l) coins) (change_fee_of (rates_of r) l) (excess_of r coins) change

-- the amount of a change, and nothing without one
abbrev pub amount_of : Option ℕ → ℕ
amount_of None = 0
amount_of (Some amount) = amount

-- ---- what a row comes to

-- A finished search: it has the row, the stage `lean-small` and the digest of its problem, which keeps the rules of problems.
-- Its answer is the best selection of the problem: the lightest one, and of these the one of least value. It has none exactly
-- where no selection is admissible. Its letters are accepted with that answer. It is what so many tries leave, of which these
-- were made.
pub record IsFinished (x : PlainProblem) (row budget : ℕ) (s : PlainSection) (tries : ℕ) : Type 0 where
  pub is : s ≡ record { row = row; stage = stage.LeanSmall; digest = digest_of x; letters = letters_of (walk x budget).tokens; answer = (walk x budget).best }
  pub done : (walk x budget).done ≡ true
  pub tries_are : tries ≡ (walk x budget).tries
  pub fits : IsProblem x
  pub best : IsBest x s.answer
  pub accepted : IsAcceptedText x s.answer s.letters

-- an answer's coins, their change, and what the recipients bear
pub record IsFound (r : PlainRequest) (w : Watch) (row : Row) (cs : List Candidate) (answer : Option (List ℕ)) (coins : List Candidate) (change : Option ℕ) (borne : ℕ) : Type 0 where
  pub places : List ℕ
  pub answer_is : answer ≡ Some places
  pub coins_are : coins ≡ chosen_in r row cs places
  pub change_is : change ≡ change_of r (load_in r w row cs) coins
  pub borne_is : borne ≡ borne_of r (load_in r w row cs) coins change

-- What a row comes to after at most so many tries: its search is finished without an answer, or with one; or so many tries
-- were made and the search isn't done.
abbrev pub IsShared : PlainRequest → Watch → Row → List Candidate → (budget : ℕ) → Shared → Type 0
IsShared r w row cs budget (shared.None section tries) = IsFinished (problem_in r w row cs) row.number budget section tries × (section.answer ≡ None)
IsShared r w row cs budget (shared.Found section coins change borne tries) =
    IsFinished (problem_in r w row cs) row.number budget section tries × IsFound r w row cs section.answer coins.items change borne
IsShared r w row cs budget (shared.Open tries) = (tries ≡ budget) × ((walk_in r w row cs budget).done ≡ false)

-- How the coins of a payment and its money stand. They are candidates without their prices, each once, which meet the row
-- and are worth what the recipients are asked to get. The payment weighs at most 400,000 weight units. With what the
-- recipients bear, the coins pay for the recipients, the change, and the fee of that weight at the rate.
pub record PaysShared (r : PlainRequest) (w : Watch) (row : Row) (cs coins : List Candidate) (change : Option ℕ) (borne : ℕ) : Type 0 where
  pub held : All (Contains (map unpriced cs)) coins
  pub meet : All (Meets row) coins
  pub sorted : AreSorted coins
  pub fit : AreWithin coins
  pub some : 0 < length coins
  pub enough : paid_to r.recipients ≤ value_of coins
  pub light : payment_weight (load_in r w row cs) coins change ≤ 400_000
  pub fee_covers : paid_to r.recipients + amount_of change + fee_of r.rate (vsize_of (payment_weight (load_in r w row cs) coins change)) ≤ value_of coins + borne

abbrev pub IsPaidBy : PlainRequest → Watch → Row → List Candidate → Shared → Type 0
IsPaidBy r w row cs (shared.None section tries) = Unit {0}
IsPaidBy r w row cs (shared.Found section coins change borne tries) = PaysShared r w row cs coins.items change borne
IsPaidBy r w row cs (shared.Open tries) = Unit {0}

-- ---- too many groups

-- the row keeps so many groups of the coins without prices at rate 0
abbrev pub KeepsWorth : PlainRequest → Row → List Candidate → ℕ → Type 0
KeepsWorth r row cs n = CountsKept r.group row 0 (map unpriced cs) n

abbrev pub IsShareRowFault : PlainRequest → Row → List Candidate → ShareRowFault → Type 0
IsShareRowFault r row cs (fault.TooMany n) = KeepsWorth r row cs n × (10_000 < n)
IsShareRowFault r row cs fault.Memory = Unit {0}
