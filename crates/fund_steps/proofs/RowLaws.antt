-- The rows of a ladder, as they are gone over, and the coins that they may take.
use Rattle.std.specs.Prelude.{ℕ, ◌≡◌, ◌≢◌, ◌≤◌, ◌<◌, ◌+◌, Bool, List, ◌∷◌, ◌++◌, All, length, take, drop, get_or, filter}
use Rattle.std.proofs.Common.{refl, sym, ap, subst, ◌∙◌, arith, add-one, drop-cons}
use Rattle.std.proofs.lemmas.List.{take-append-drop, take_all}
use Rattle.std.proofs.lemmas.List.Elements.{All-filter}
use Rattle.std.proofs.lemmas.List.Kept.{AllPairs-filter}
use Rattle.fee_rates.specs.declared.terms.PaymentLoad.{PaymentLoad}
use Rattle.fee_rates.specs.declared.terms.Rates.{Rates}
use Rattle.coin_candidates.specs.Candidates.{AreCandidates, IsCandidate}
use Rattle.coin_candidates.specs.declared.candidate.Candidate.{Candidate}
use Rattle.output_groups.specs.Ladder.{ladder_of}
use Rattle.output_groups.specs.PlainGroups.{PlainGroups, pool_in}
use Rattle.output_groups.specs.Pool.{CountsKept}
use Rattle.output_groups.specs.declared.rows.Row.{Row}
use Rattle.request_text.specs.PlainRequest.{PlainRequest}
use Rattle.search_run.specs.Step.{PlainStep}
use Rattle.fund_steps.specs.Making.{KeepsFewOf, KeepsManyOf, groups_for, steps_for, steps_with}
use Rattle.fund_steps.specs.Plan.{IsFirstCrowded, IsRoomy, PlainPlan, ladder_in}
use Rattle.fund_steps.specs.Selection.{unlisted}
use Rattle.fund_steps.specs.Terms.{rates_of}
use Rattle.fund_steps.specs.declared.turns.Turn.{Turn}
use Rattle.fund_steps.proofs.SelectionLaws.{filter_length}

-- the row keeps at most 10,000 groups of these coins
abbrev pub KeepsFew : PlainRequest → List Candidate → Row → Type 0
KeepsFew r coins row = (n : ℕ) → CountsKept r.group row r.rate coins n → n ≤ 10_000

-- a row keeps as many of the groups that these coins form
pub row_few : (r : PlainRequest) (coins : List Candidate) (row : Row) (g : PlainGroups) → g ≡ groups_for r coins → KeepsFewOf g row → KeepsFew r coins row
row_few r coins row g is few = subst (λ (x : PlainGroups). KeepsFewOf x row) is few

pub row_many : (r : PlainRequest) (coins : List Candidate) (row : Row) (g : PlainGroups) (n : ℕ) → g ≡ groups_for r coins → KeepsManyOf g row n → CountsKept r.group row r.rate coins n × (10_000 < n)
row_many r coins row g n is many = subst (λ (x : PlainGroups). KeepsManyOf x row n) is many

-- and its steps are those of its pool of these coins
pub row_made : (q : PlainRequest) (l : PaymentLoad) (coins : List Candidate) (us : List Turn) (row : Row) (g : PlainGroups) (r : Rates) (now new : List PlainStep) → g ≡ groups_for q coins → r ≡ rates_of q → new ≡ now ++ steps_with r l us (record { row = row; pool = pool_in g row }) → new ≡ now ++ steps_for q l coins us row
row_made q l coins us row g r now new is same made =
    made
    ∙ ap (λ (x : PlainGroups). now ++ steps_with r l us (record { row = row; pool = pool_in x row })) is
    ∙ ap (λ (x : Rates). now ++ steps_with x l us (record { row = row; pool = pool_in (groups_for q coins) row })) same

-- what the rows keep of the coins that a plan's request doesn't list
few_in : (p : PlainPlan) (r : PlainRequest) (coins : List Candidate) (rows : List Row) → p.request ≡ r → unlisted p.request.coins p.candidates ≡ coins → All (KeepsFew r coins) rows → All (IsRoomy p) rows
few_in p r coins rows same rest few =
    subst (λ (q : PlainRequest). All (KeepsFew q (unlisted p.request.coins p.candidates)) rows) (sym same)
    (subst (λ (l : List Candidate). All (KeepsFew r l) rows) (sym rest) few)

-- all of the rows keep few
pub all_roomy : (p : PlainPlan) (r : PlainRequest) (coins : List Candidate) (rows : List Row) (i : ℕ) → p.request ≡ r → unlisted p.request.coins p.candidates ≡ coins → rows ≡ ladder_of r.zero_conf r.include_unsafe → length rows ≤ i → All (KeepsFew r coins) (take i rows) → All (IsRoomy p) (ladder_in p)
all_roomy p r coins rows i same rest is end few =
    let whole : All (KeepsFew r coins) rows = subst (λ (l : List Row). All (KeepsFew r coins) l) (take_all i rows end) few in
    let ladder : rows ≡ ladder_in p = is ∙ ap (λ (q : PlainRequest). ladder_of q.zero_conf q.include_unsafe) (sym same) in
    subst (λ (l : List Row). All (IsRoomy p) l) ladder (few_in p r coins rows same rest whole)

-- the row after those is the first that keeps more
pub first_many : (p : PlainPlan) (r : PlainRequest) (coins : List Candidate) (rows : List Row) (i n : ℕ) (d : Row) → p.request ≡ r → unlisted p.request.coins p.candidates ≡ coins → rows ≡ ladder_of r.zero_conf r.include_unsafe → i < length rows → All (KeepsFew r coins) (take i rows) → CountsKept r.group (get_or rows i d) r.rate coins n → 10_000 < n → IsFirstCrowded p (get_or rows i d).number n
first_many p r coins rows i n d same rest is lt few counts many =
    let row = get_or rows i d in
    let ladder : ladder_in p ≡ rows = ap (λ (q : PlainRequest). ladder_of q.zero_conf q.include_unsafe) same ∙ sym is in
    let here : drop i rows ≡ row ∷ drop (i + 1) rows = rw add-one (drop-cons rows i d lt) in
    record {
      front = take i rows;
      row = row;
      rest = drop (i + 1) rows;
      parts = ladder ∙ sym (take-append-drop i rows) ∙ ap (λ (l : List Row). take i rows ++ l) here;
      before = few_in p r coins (take i rows) same rest few;
      number_is = refl;
      keeps = subst (λ (q : PlainRequest). CountsKept q.group row q.rate (unlisted p.request.coins p.candidates) n) (sym same) (subst (λ (l : List Candidate). CountsKept r.group row r.rate l n) (sym rest) counts);
      many = many;
    }

-- candidates that are taken out are candidates
pub filter_candidates : (p : Candidate → Bool) (coins : List Candidate) → AreCandidates coins → AreCandidates (filter p coins)
filter_candidates p coins h = record {
  each = All-filter p IsCandidate coins h.each;
  count = omega (arith, filter_length p coins, h.count);
  distinct = AllPairs-filter (λ (a b : Candidate). a.coin ≢ b.coin) p coins h.distinct;
}
