use Rattle.std.proofs.Common.{◌≡◌, ℕ, List, [], ◌∷◌, Some, None, refl, subst, arith}
use Rattle.std.proofs.lemmas.Option.{same_Some}
use Rattle.fund_plan.specs.State.{place_of}
use Rattle.fund_plan.specs.declared.outcome.Place.{Place}
use Rattle.fund_report.specs.ReportText.{IsRead, IsReportText}
use Rattle.fund_report.specs.declared.report.Report.TheVariants as kinds
use Rattle.search_run.specs.Step.{PlainStep}
use Rattle.command_inputs.specs.PlanEnds.{IsOpenAt, IsOpenReport}
use Rattle.command_inputs.proofs.funding.open_report.Goals as goal

-- where there is no place nothing is left
none_left : (left : List PlainStep) → None ≡ place_of left → left ≡ []
none_left [] e = refl
none_left (x ∷ rest) e = absurd cc

pub unreachable-requires : goal.unreachable-requires
unreachable-requires c = subst IsOpenAt (none_left _ c.in-None.ensures) c.requires

-- a report of the place is one of the search that is open
open_means : (left : List PlainStep) (place : Place) (tries : ℕ) (text : List ℕ) → Some place ≡ place_of left → IsOpenAt left → (IsRead place.stage → IsReportText text (kinds.Unfinished tries place.row place.stage)) → IsOpenReport text tries left
open_means [] place tries text e h f = absurd h
open_means (x ∷ rest) place tries text e h f =
    let at : Place = record { row = x.row; stage = x.stage } in
    subst (λ (q : Place). IsRead q.stage → IsReportText text (kinds.Unfinished tries q.row q.stage)) (same_Some place at e) f h

pub returns-clause-means : goal.returns-clause-means
returns-clause-means c =
    let t = c.in_ok-text-in-Some.text.items in
    let q = c.in-Some.place in
    let tries : c.tries-tries.result ≡ c.args.plan.now.stand.past.tries = c.tries-tries.ensures in
    open_means c.args.plan.now.stand.left q c.args.plan.now.stand.past.tries t c.in-Some.ensures c.requires
    (λ h. subst (λ (n : ℕ). IsReportText t (kinds.Unfinished n q.row q.stage)) tries (c.in_ok-text-in-Some.ensures.means h (omega arith, omega arith)))
