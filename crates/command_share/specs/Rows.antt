-- The two rows of which coins are taken where the recipients bear the fee, and what their searches come to.
use Rattle.std.specs.Prelude.{ℕ, ◌≡◌, ◌≤◌, ◌<◌, ◌+◌, ◌-◌, ◌⊎◌, nat_lt, false, List, [], ◌∷◌, ◌++◌, map, Option, Some, None, Result, Ok, Err, if◌then◌else◌}
use Rattle.closing_log.specs.Log.{PlainSection}
use Rattle.closing_log.specs.declared.log.Stage.TheVariants as stage
use Rattle.coin_candidates.specs.declared.candidate.Candidate.{Candidate}
use Rattle.output_groups.specs.Counting.{kept_count}
use Rattle.output_groups.specs.Ladder.{confirmed_row}
use Rattle.output_groups.specs.declared.rows.Row.{Row}
use Rattle.pick_problem.specs.Digest.{digest_of}
use Rattle.pick_problem.specs.Letters.{letters_of}
use Rattle.pick_problem.specs.Walk.{Walk}
use Rattle.fee_sharing.specs.RowShares.{IsFinished, IsFound, KeepsWorth, PaysShared, borne_of, change_of, chosen_in, load_in, problem_in, unpriced, walk_in}
use Rattle.fee_sharing.specs.declared.fault.ShareRowFault.{ShareRowFault}
use Rattle.fee_sharing.specs.declared.fault.ShareRowFault.TheVariants as faults
use Rattle.fund_plan.specs.Pays.{payment_weight}
use Rattle.fund_steps.specs.declared.fault.PlanFault.{PlanFault}
use Rattle.fund_steps.specs.declared.fault.PlanFault.TheVariants as plans
use Rattle.request_text.specs.PlainRequest.{PlainRequest}
use Rattle.wallet_text.specs.declared.wallet.Watch.{Watch}
use Rattle.command_share.specs.Paying.{PlainPaying}
use Rattle.command_share.specs.declared.rows.RowsEnd.{RowsEnd}
use Rattle.command_share.specs.declared.rows.RowsEnd.TheVariants as ends

-- the searches of some rows: what they came to, those that are finished, and the tries that were made
pub record PlainRun : Type 0 where
  pub end : RowsEnd
  pub sections : List PlainSection
  pub tries : ℕ

-- row 1 and row 2 of the ladder
abbrev pub first_row : Row
first_row = confirmed_row 1 6

abbrev pub second_row : Row
second_row = confirmed_row 2 1

-- nothing is searched yet
abbrev pub beginning : PlainRun
beginning = record { end = ends.Nothing; sections = []; tries = 0 }

-- ---- what a row comes to

-- how many groups a row keeps
abbrev pub kept_worth : PlainRequest → Row → List Candidate → ℕ
kept_worth r row cs = kept_count r.group row 0 (map unpriced cs)

-- the section of a row's walk that is done
abbrev pub section_of : PlainRequest → Watch → Row → List Candidate → Walk → PlainSection
section_of r w row cs k = record { row = row.number; stage = stage.LeanSmall; digest = digest_of (problem_in r w row cs); letters = letters_of k.tokens; answer = k.best }

-- the payment from the groups at places of a row's pool
abbrev pub paying_with : PlainRequest → Watch → Row → List Candidate → List Candidate → (change : Option ℕ) → PlainPaying
paying_with r w row cs coins change = record {
  row = row;
  coins = coins;
  change = change;
  borne = borne_of r (load_in r w row cs) coins change;
  weight = payment_weight (load_in r w row cs) coins change;
}

abbrev pub paying_from : PlainRequest → Watch → Row → List Candidate → (places : List ℕ) → PlainPaying
paying_from r w row cs places = paying_with r w row cs (chosen_in r row cs places) (change_of r (load_in r w row cs) (chosen_in r row cs places))

-- by the best selection of a row
abbrev pub by_best : PlainRequest → Watch → Row → List Candidate → Option (List ℕ) → RowsEnd
by_best r w row cs None = ends.Nothing
by_best r w row cs (Some places) = ends.Found (paying_from r w row cs places)

-- by its walk with the tries that are left
abbrev pub by_walk : PlainRequest → Watch → Row → List Candidate → PlainRun → Walk → PlainRun
by_walk r w row cs before k =
    if k.done
    then record { end = by_best r w row cs k.best; sections = before.sections ++ section_of r w row cs k ∷ []; tries = before.tries + k.tries }
    else record { end = ends.Open row.number; sections = before.sections; tries = before.tries + (r.tries - before.tries) }

-- behind the searches of the rows before: the search of this row, with the tries that are left; or the row keeps too many groups
unfoldable pub after_row : PlainRequest → Watch → Row → List Candidate → PlainRun → Result PlainRun PlanFault
after_row r w row cs before =
    if nat_lt 10_000 (kept_worth r row cs) then Err (plans.TooMany row.number (kept_worth r row cs))
    else Ok (by_walk r w row cs before (walk_in r w row cs (r.tries - before.tries)))

-- the second row is searched where the first one has nothing
abbrev pub by_first : PlainRequest → Watch → List Candidate → PlainRun → RowsEnd → Result PlainRun PlanFault
by_first r w cs run ends.Nothing = after_row r w second_row cs run
by_first r w cs run end = Ok run

abbrev pub then_second : PlainRequest → Watch → List Candidate → Result PlainRun PlanFault → Result PlainRun PlanFault
then_second r w cs (Err fault) = Err fault
then_second r w cs (Ok run) = by_first r w cs run run.end

-- the searches of a request with its tries
abbrev pub searched : PlainRequest → Watch → List Candidate → Result PlainRun PlanFault
searched r w cs = then_second r w cs (after_row r w first_row cs beginning)

-- ---- what that means

-- The search of a row is finished within some tries, no more than the request's. It has the best selection of the row's problem,
-- which is the lightest, and of these the one of least value; or none, exactly where no selection is admissible. Its letters are
-- accepted with that answer.
pub record IsSearched (r : PlainRequest) (w : Watch) (row : Row) (cs : List Candidate) (s : PlainSection) : Type 0 where
  pub budget : ℕ
  pub within : budget ≤ r.tries
  pub tries : ℕ
  pub finished : IsFinished (problem_in r w row cs) row.number budget s tries

-- it has none
pub record HasNone (r : PlainRequest) (w : Watch) (row : Row) (cs : List Candidate) (s : PlainSection) : Type 0 where
  pub search : IsSearched r w row cs s
  pub none : s.answer ≡ None

-- a payment from its answer: the coins, their change, what the recipients bear, and the declared weight
pub record IsChosen (r : PlainRequest) (w : Watch) (row : Row) (cs : List Candidate) (s : PlainSection) (f : PlainPaying) : Type 0 where
  pub row_is : f.row ≡ row
  pub search : IsSearched r w row cs s
  pub found : IsFound r w row cs s.answer f.coins f.change f.borne
  pub pays : PaysShared r w row cs f.coins f.change f.borne
  pub weight_is : f.weight ≡ payment_weight (load_in r w row cs) f.coins f.change

-- What a row comes to behind the searches before it.
-- The tries that it made are those that its search tells.
abbrev pub EndsRow : PlainRequest → Watch → Row → List Candidate → PlainRun → PlainRun → RowsEnd → Type 0
EndsRow r w row cs before after ends.Nothing = (s : PlainSection) × (h : HasNone r w row cs s) × (after.sections ≡ before.sections ++ s ∷ []) × (after.tries ≡ before.tries + h.search.tries)
EndsRow r w row cs before after (ends.Found f) = (s : PlainSection) × (after.sections ≡ before.sections ++ s ∷ []) × IsChosen r w row cs s f
EndsRow r w row cs before after (ends.Open number) = (number ≡ row.number) × (after.sections ≡ before.sections) × (after.tries ≡ r.tries) × ((walk_in r w row cs (r.tries - before.tries)).done ≡ false)

-- row 1 has a selection, and this is the payment from it
pub record FoundFirst (r : PlainRequest) (w : Watch) (cs : List Candidate) (sections : List PlainSection) (f : PlainPaying) : Type 0 where
  pub first : PlainSection
  pub sections_are : sections ≡ first ∷ []
  pub chosen : IsChosen r w first_row cs first f

-- row 1 has none, row 2 has one, and this is the payment from it
pub record FoundSecond (r : PlainRequest) (w : Watch) (cs : List Candidate) (sections : List PlainSection) (f : PlainPaying) : Type 0 where
  pub first : PlainSection
  pub second : PlainSection
  pub sections_are : sections ≡ first ∷ second ∷ []
  pub none : HasNone r w first_row cs first
  pub chosen : IsChosen r w second_row cs second f

-- neither has one
pub record FoundNone (r : PlainRequest) (w : Watch) (cs : List Candidate) (sections : List PlainSection) : Type 0 where
  pub first : PlainSection
  pub second : PlainSection
  pub sections_are : sections ≡ first ∷ second ∷ []
  pub none : HasNone r w first_row cs first
  pub neither : HasNone r w second_row cs second

-- all tries were made in row 1, whose walk isn't done
pub record IsOpenInFirst (r : PlainRequest) (w : Watch) (cs : List Candidate) (number : ℕ) : Type 0 where
  pub number_is : number ≡ first_row.number
  pub open_walk : (walk_in r w first_row cs r.tries).done ≡ false

-- row 1 has no selection, and the other tries were made in row 2, whose walk isn't done
pub record IsOpenInSecond (r : PlainRequest) (w : Watch) (cs : List Candidate) (number : ℕ) : Type 0 where
  pub number_is : number ≡ second_row.number
  pub first : PlainSection
  pub none : HasNone r w first_row cs first
  pub open_walk : (walk_in r w second_row cs (r.tries - none.search.tries)).done ≡ false

-- what the searches of both rows come to; the sections are those of the finished searches
abbrev pub AreSearches : PlainRequest → Watch → List Candidate → PlainRun → RowsEnd → Type 0
AreSearches r w cs run ends.Nothing = FoundNone r w cs run.sections
AreSearches r w cs run (ends.Found f) = FoundFirst r w cs run.sections f ⊎ FoundSecond r w cs run.sections f
AreSearches r w cs run (ends.Open number) = (IsOpenInFirst r w cs number ⊎ IsOpenInSecond r w cs number) × (run.tries ≡ r.tries)

-- ---- too many groups

-- why a row isn't searched, as the fault of a plan
abbrev pub row_fault : Row → ShareRowFault → PlanFault
row_fault row (faults.TooMany n) = plans.TooMany row.number n
row_fault row faults.Memory = plans.Memory

-- the row of this number keeps so many groups, which are more than 10,000
abbrev pub IsCrowdedRow : PlainRequest → Row → List Candidate → PlanFault → Type 0
IsCrowdedRow r row cs (plans.Total sum) = ⊥
IsCrowdedRow r row cs (plans.NotEligible point) = ⊥
IsCrowdedRow r row cs (plans.TooMany number n) = (number ≡ row.number) × KeepsWorth r row cs n × (10_000 < n)
IsCrowdedRow r row cs plans.Memory = Unit {0}

-- row 1 keeps too many, or it has no selection and row 2 keeps too many; this is the fault of the searches
abbrev pub AreCrowded : PlainRequest → Watch → List Candidate → PlanFault → Type 0
AreCrowded r w cs (plans.Total sum) = ⊥
AreCrowded r w cs (plans.NotEligible point) = ⊥
AreCrowded r w cs (plans.TooMany number n) =
    (searched r w cs ≡ Err (plans.TooMany number n))
    × (((number ≡ first_row.number) × KeepsWorth r first_row cs n × (10_000 < n))
    ⊎ ((number ≡ second_row.number) × ((s : PlainSection) × HasNone r w first_row cs s) × KeepsWorth r second_row cs n × (10_000 < n)))
AreCrowded r w cs plans.Memory = Unit {0}
