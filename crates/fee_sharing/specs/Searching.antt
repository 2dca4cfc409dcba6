-- The pieces of which a row's search is made: coins without prices, sizes of groups, terms, problem and section.
use Rattle.std.specs.Prelude.{ℕ, ◌≡◌, ◌≤◌, ◌↔◌, true, All, List, Option, Some, None}
use Rattle.closing_log.specs.Log.{PlainSection}
use Rattle.closing_log.specs.declared.log.Stage.TheVariants as stage
use Rattle.coin_candidates.specs.Candidates.{AreCandidates}
use Rattle.coin_candidates.specs.declared.candidate.Candidate.{Candidate}
use Rattle.fee_rates.specs.declared.terms.Terms.{Terms}
use Rattle.output_groups.specs.Places.{members}
use Rattle.output_groups.specs.PlainGroups.{PlainGroups, pool_in}
use Rattle.output_groups.specs.declared.rows.Row.{Row}
use Rattle.pick_problem.specs.Digest.{digest_of}
use Rattle.pick_problem.specs.Problem.{PlainProblem}
use Rattle.pick_problem.specs.Walk.{after_tries}
use Rattle.pick_problem.specs.declared.position.Progress.{Progress}
use Rattle.pick_problem.specs.declared.position.Progress.TheVariants.{Done}
use Rattle.request_text.specs.PlainRequest.{PlainRequest, paid_to}
use Rattle.walk_engine.specs.Search.{PlainSearch, letters}
use Rattle.fund_steps.specs.Amounts.{value_of}
use Rattle.fund_steps.specs.Making.{KeepsManyOf}
use Rattle.fund_steps.specs.Selection.{in_order}
use Rattle.fee_sharing.specs.RowShares.{borne_with, change_with, excess_of, needed_with}
use Rattle.fee_sharing.specs.declared.fault.ShareRowFault.{ShareRowFault}
use Rattle.fee_sharing.specs.declared.fault.ShareRowFault.TheVariants as fault
use Rattle.fee_sharing.specs.declared.shared.Shared.{Shared}
use Rattle.fee_sharing.specs.declared.shared.Shared.TheVariants as shared

-- at most so many tries of a search were made, and whether it is done then
pub record HasTried (old new : PlainSearch) (n : ℕ) (p : Progress) : Type 0 where
  pub problem : new.problem ≡ old.problem
  pub before : new.before ≡ old.before
  pub walk : new.walk ≡ after_tries old.problem old.walk n
  pub over : (p ≡ Done) ↔ (new.walk.done ≡ true)

-- The groups of coins without prices at rate 0, and the search of a row's problem over their items, which asks for what the
-- recipients are asked to get.
pub record IsRowSearch (r : PlainRequest) (row : Row) (g : PlainGroups) (x : PlainProblem) (s : PlainSearch) : Type 0 where
  pub candidates : AreCandidates g.candidates
  pub worth : value_of g.candidates ≤ 2_100_000_000_000_000
  pub prices : All (λ (c : Candidate). c.price ≡ 0) g.candidates
  pub rate : g.rate ≡ 0
  pub items : x.items ≡ (pool_in g row).items
  pub asks : paid_to r.recipients ≤ x.lo
  pub search : s.problem ≡ x

-- why a row's pool isn't seen: it keeps more than 10,000 of the groups
abbrev pub IsSeenFault : PlainGroups → Row → ShareRowFault → Type 0
IsSeenFault g row (fault.TooMany n) = KeepsManyOf g row n
IsSeenFault g row fault.Memory = Unit {0}

-- the section of a row's search
abbrev pub section_of : Row → PlainProblem → PlainSearch → PlainSection
section_of row x s = record { row = row.number; stage = stage.LeanSmall; digest = digest_of x; letters = letters s; answer = s.walk.best }

-- the coins of a selection, the change and what the recipients bear, by the terms of the row
pub record IsBorne (r : PlainRequest) (t : Terms) (coins : List Candidate) (change : Option ℕ) (borne : ℕ) : Type 0 where
  pub change_is : change ≡ change_with t.change_least (excess_of r coins)
  pub borne_is : borne ≡ borne_with (needed_with r t.base coins) t.change_fee (excess_of r coins) change

-- what a search that is done comes to
abbrev pub IsClosed : PlainRequest → Row → PlainGroups → Terms → PlainProblem → PlainSearch → Shared → Type 0
IsClosed r row g t x s (shared.None section tries) = (section ≡ section_of row x s) × (tries ≡ s.walk.tries) × (s.walk.best ≡ None)
IsClosed r row g t x s (shared.Found section coins change borne tries) =
    (section ≡ section_of row x s) × (tries ≡ s.walk.tries) × ((places : List ℕ) × (s.walk.best ≡ Some places) × (coins.items ≡ in_order (members (pool_in g row).groups places))) × IsBorne r t coins.items change borne
IsClosed r row g t x s (shared.Open tries) = ⊥
