-- What is reported of a payment by `wide` is a text of its report.
use Rattle.std.specs.Prelude.{ℕ, ◌≡◌, ◌≤◌, ◌<◌, ◌-◌, ◌++◌, List, [], ◌∷◌, Contains, length, map, Option, Some, None, if◌then◌else◌}
use Rattle.std.proofs.Common.{Bool, true, false, arith, sym, subst}
use Rattle.std.proofs.lemmas.List.{length-map}
use Rattle.std.proofs.lemmas.List.Elements.{Contains-append_right}
use Rattle.closing_log.specs.declared.log.Stage.TheVariants as stage
use Rattle.closing_log.specs.declared.mark.Mark.{Mark}
use Rattle.closing_log.specs.declared.mark.Mark.TheVariants as mark
use Rattle.coin_book.specs.History.{History}
use Rattle.coin_candidates.specs.declared.candidate.Candidate.{Candidate}
use Rattle.fund_plan.specs.Answer.{IsPayment, IsSelection}
use Rattle.fund_plan.specs.Chosen.{load_for}
use Rattle.fund_plan.specs.Pays.{payment_from, payment_of, unsigned_input}
use Rattle.fund_plan.specs.Selection.{PlainFunded}
use Rattle.fund_plan.specs.Steps.{steps_of}
use Rattle.fund_plan.proofs.PaysLaws.{selection_is}
use Rattle.fund_payment.specs.Report.{psbt_of, report_of, reported}
use Rattle.fund_report.specs.PlainFunded as reports
use Rattle.fund_report.specs.ReportText.{IsReportText, text_of}
use Rattle.fund_report.specs.declared.report.Report.TheVariants as kinds
use Rattle.fund_steps.specs.Plan.{IsPlan, PlainPlan}
use Rattle.kept_job.proofs.LogLaws.{small_row}
use Rattle.output_groups.proofs.Members.{head_in}
use Rattle.psbt_codec.specs.Psbt.{IsPsbt}
use Rattle.search_run.specs.Step.{PlainStep}
use Rattle.checked_runs.proofs.FoundLaws.{CanBeTold}
use Rattle.checked_runs.proofs.TellLaws.{report_reads}
use Rattle.wide_plan.specs.Claims.{Claims, ClaimsBy}
use Rattle.wide_plan.specs.Rows.{PlainRows, PlainWideSection, done_at, rows_after}
use Rattle.wide_plan.specs.Run.{rows_of, run_of}
use Rattle.wide_plan.specs.declared.rows.RowsEnd.TheVariants as ends
use Rattle.wide_plan.proofs.EndLaws.{tries_most}
use Rattle.wide_report.specs.WideText.{IsWideText}
use Rattle.wide_report.proofs.WideLaws.{wide_of}
use Rattle.wide_search.specs.WideWalk.{Walk, walk}

-- ---- the tries

-- a row that is done, and those behind it
tries_done : (x : PlainStep) (w : Walk) (rest : PlainRows) (n : ℕ) (best : Option (List ℕ)) → w.tries ≤ n → rest.tries ≤ n - w.tries → (done_at x w rest best).tries ≤ n
tries_done x w rest n None few others = omega (arith, few, others)
tries_done x w rest n (Some q) few others = few

abbrev open_rows : PlainStep → Walk → PlainRows
open_rows x w = record { closed = []; end = ends.Open x.row w.best; tries = w.tries }

tries_by : (x : PlainStep) (w : Walk) (rest : PlainRows) (n : ℕ) (done : Bool) → w.tries ≤ n → rest.tries ≤ n - w.tries
    → (if done then done_at x w rest w.best else open_rows x w).tries ≤ n
tries_by x w rest n true few others = tries_done x w rest n w.best few others
tries_by x w rest n false few others = few

-- no search makes more than it has
rows_tries : (steps : List PlainStep) (n : ℕ) → (rows_after steps n).tries ≤ n
rows_tries [] n = omega arith
rows_tries (x ∷ rest) n =
    let w : Walk = walk x.problem n in
    tries_by x w (rows_after rest (n - w.tries)) n w.done (tries_most x.problem n) (rows_tries rest (n - w.tries))

pub few_tries : (p : PlainPlan) → IsPlan p → (run_of p).tries ≤ 10_000_000
unfolding rows_of
few_tries p plan = let most = rows_tries (steps_of p) p.request.tries in let asked = plan.request.tries.1 in omega (arith, most, asked)

-- ---- the row

row_of_step : (p : PlainPlan) (f : PlainFunded) (front rest : List PlainStep) (x : PlainStep) → steps_of p ≡ front ++ x ∷ rest → x.row ≡ f.row → f.row ≤ 255
row_of_step p f front rest x parts row =
    let there : Contains (steps_of p) x = subst (λ (xs : List PlainStep). Contains xs x) (sym parts) (Contains-append_right front (x ∷ rest) x (head_in x rest)) in
    let small = small_row p x there in
    omega (arith, small, row)

row_by : (p : PlainPlan) (f : PlainFunded) (closed : List PlainWideSection) (tries : ℕ) (m : Mark) → ClaimsBy p f closed tries m → f.row ≤ 255
row_by p f closed tries mark.Exhausted c = row_of_step p f c.front c.rest c.step c.parts c.row
row_by p f closed tries mark.Partial c = row_of_step p f c.used_up.front c.used_up.rest c.used_up.step c.used_up.parts c.row
row_by p f closed tries mark.Drawn c = absurd c
row_by p f closed tries mark.Given c = absurd c

-- ---- the coins

coins_some : (b : Bool) (coins : List Candidate) → 0 < length (map (unsigned_input b) coins) → 0 < length coins
coins_some b coins some = omega (arith, some, length-map coins (unsigned_input b))

inputs_some : (h : History) (p : PlainPlan) (f : PlainFunded) → IsPsbt (psbt_of h p.request p.change f) → 0 < length (map (unsigned_input p.request.replaceable) f.coins)
unfolding psbt_of payment_from
inputs_some h p f psbt = psbt.text.inputs_some

-- ---- the report

-- the same payment by another search
abbrev as_changeless : PlainFunded → PlainFunded
as_changeless f = record f { stage = stage.Changeless }

pays_so : (p : PlainPlan) (f : PlainFunded) → IsPayment p f → IsPayment p (as_changeless f)
pays_so p f a = record { candidates = a.candidates; presets = a.presets; at_hand = a.at_hand; coins = a.coins; pays = a.pays; weight_is = a.weight_is; waste_is = a.waste_is }

pub wide_reads : (h : History) (p : PlainPlan) (f : PlainFunded) (closed : List PlainWideSection) (tries made : ℕ) → IsPlan p → IsPayment p f → Claims p f closed tries → IsPsbt (psbt_of h p.request p.change f) → made ≤ 10_000_000
    → IsWideText (report_of h p.request p.change made f) (reported h p.request p.change made f)
unfolding report_of psbt_of
wide_reads h p f closed tries made plan a claims psbt few =
    let other : PlainFunded = as_changeless f in
    let some = coins_some p.request.replaceable f.coins (inputs_some h p f psbt) in
    let selection : IsSelection p.request other = selection_is p.request p.change (load_for p f.row) other (payment_of p.request p.change other) a.coins some a.pays in
    let told : CanBeTold p other = record { row = row_by p f closed tries f.mark claims.claim; stage = tt; selection = selection } in
    let reads : IsReportText (text_of (kinds.Funded (reported h p.request p.change made other))) (kinds.Funded (reported h p.request p.change made other)) = report_reads h p made other plan (pays_so p f a) told psbt few in
    wide_of (reported h p.request p.change made f) claims.stage reads
