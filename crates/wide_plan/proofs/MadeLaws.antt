-- What is at hand for the payment of a row.
use Rattle.std.specs.Prelude.{ℕ, ◌≡◌, ◌++◌, List, []}
use Rattle.std.proofs.Common.{sym, ap, ◌∙◌}
use Rattle.closing_log.specs.declared.mark.Mark.{Mark}
use Rattle.coin_candidates.specs.declared.candidate.Candidate.{Candidate}
use Rattle.fee_rates.specs.declared.terms.PaymentLoad.{PaymentLoad}
use Rattle.output_groups.specs.Ladder.{ladder_of}
use Rattle.output_groups.specs.PlainGroups.{PlainGroups, pool_in as pool_from}
use Rattle.output_groups.specs.declared.rows.Row.{Row}
use Rattle.request_text.specs.PlainRequest.{PlainRequest}
use Rattle.fund_steps.specs.Listed.{presets_in}
use Rattle.fund_steps.specs.Making.{groups_for}
use Rattle.fund_steps.specs.Plan.{PlainPlan}
use Rattle.fund_steps.specs.Selection.{in_order, unlisted}
use Rattle.fund_plan.specs.Chosen.{chosen_at, coins_at, members, row_among, row_of}
use Rattle.fund_plan.specs.Selection.{PlainFunded}
use Rattle.fund_plan.specs.Steps.{groups_of, load_in}
use Rattle.wide_plan.specs.Run.{paid_at, paid_by}

-- the row of a number, by the ladder of the request
pub row_is : (p : PlainPlan) (q r : PlainRequest) (rows : List Row) (row : Row) (number : ℕ) → p.request ≡ r → q ≡ r → rows ≡ ladder_of q.zero_conf q.include_unsafe → row ≡ row_among rows number → row ≡ row_of p number
row_is p q r rows row number of own all is =
    is ∙ (ap (λ (rs : List Row). row_among rs number) all ∙ ap (λ (x : PlainRequest). row_among (ladder_of x.zero_conf x.include_unsafe) number) (own ∙ sym of))

-- the groups of the coins that aren't listed
pub groups_are : (p f : PlainPlan) (q r : PlainRequest) (rest : List Candidate) (g : PlainGroups) → p.request ≡ r → q ≡ r → f ≡ p → rest ≡ unlisted f.request.coins f.candidates → g ≡ groups_for q rest → g ≡ groups_of p
groups_are p f q r rest g of own funds all is =
    is ∙ (ap (λ (x : PlainRequest). groups_for x rest) (own ∙ sym of) ∙ ap (groups_for p.request) (all ∙ ap (λ (x : PlainPlan). unlisted x.request.coins x.candidates) funds))

-- the coins at places, where none is given
pub coins_are : (p : PlainPlan) (row : Row) (g : PlainGroups) (places : List ℕ) (chosen coins : List Candidate) → presets_in p ≡ [] → g ≡ groups_of p → chosen ≡ members (pool_from g row).groups places → coins ≡ in_order chosen → coins ≡ coins_at p row places
coins_are p row g places chosen coins none from is put =
    let here : chosen ≡ chosen_at p row places = is ∙ ap (λ (x : PlainGroups). members (pool_from x row).groups places) from in
    put ∙ (ap in_order here ∙ sym (ap (λ (ps : List Candidate). in_order (ps ++ chosen_at p row places)) none))

-- the payment, by its parts
pub paid_is : (p : PlainPlan) (mark : Mark) (number : ℕ) (places : List ℕ) (row : Row) (l : PaymentLoad) (coins : List Candidate) (f : PlainFunded) → row ≡ row_of p number → l ≡ load_in p row → coins ≡ coins_at p row places → f ≡ paid_by p l mark number coins → f ≡ paid_at p mark number places
paid_is p mark number places row l coins f at carried own is =
    is
    ∙ (ap (λ (x : PaymentLoad). paid_by p x mark number coins) carried
    ∙ (ap (λ (cs : List Candidate). paid_by p (load_in p row) mark number cs) own
    ∙ ap (λ (r : Row). paid_by p (load_in p r) mark number (coins_at p r places)) at))
