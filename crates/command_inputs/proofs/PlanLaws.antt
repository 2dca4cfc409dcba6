-- How a plan's run ends is what is due, and what the files of the command come to.
use Rattle.std.proofs.Common.{◌≡◌, ◌∙◌, ℕ, ◌-◌, min, List, ◌∷◌, Option, Some, None, Result, Ok, Err, refl, sym, ap, subst, arith, All}
use Rattle.std.specs.Prelude.{◌≢◌, IfErr, IfOk, option_map}
use Rattle.block_feed.specs.Block.{ChainBlock}
use Rattle.closing_log.specs.Log.{PlainLog}
use Rattle.coin_book.specs.Faults.{fault_of as book_fault}
use Rattle.closing_log.specs.LogText.{IsLogText, text_of as log_text_of}
use Rattle.fund_shelf.specs.Causes.{ShelfView}
use Rattle.coin_candidates.specs.declared.candidate.Candidate.{Candidate}
use Rattle.fund_plan.proofs.ClaimLaws.{funded_claims, none_claims, open_claims}
use Rattle.fund_plan.proofs.EligibleLaws.{payment_may}
use Rattle.fund_plan.proofs.EndLaws.{end_back, moved_none, new_told}
use Rattle.fund_plan.proofs.KeepLaws.{written_on}
use Rattle.fund_plan.specs.Resumed.{saved_at}
use Rattle.search_run.proofs.MadeLaws.{kept_begins}
use Rattle.search_run.specs.Found.{PlainFound}
use Rattle.kept_job.specs.Kept.{new_of}
use Rattle.fund_plan.specs.Answer.{ArePayments, HasSelection, IsPayment, IsSelection}
use Rattle.fund_plan.specs.Claims.{IsUsedUp}
use Rattle.fund_plan.specs.Outcome.{beginning_of, end_at, is_partial, led, log_at, most_tries, outcome_at, stand_after, tries_at}
use Rattle.fund_plan.specs.Selection.{PlainFunded}
use Rattle.fund_plan.specs.State.{PlanState, end_in, moved, partial_of, told}
use Rattle.fund_plan.specs.Steps.{steps_of}
use Rattle.fund_plan.specs.declared.outcome.Outcome.{Outcome as Answer}
use Rattle.fund_plan.specs.declared.outcome.Outcome.TheVariants as answers
use Rattle.fund_steps.specs.Plan.{IsPlanFault, IsPlan, PlainBump, PlainPlan}
use Rattle.fund_steps.specs.declared.fault.PlanFault.{PlanFault}
use Rattle.fund_steps.specs.declared.fault.PlanFault.TheVariants as plans
use Rattle.fund_report.specs.ReportText.{IsRead, IsReportText}
use Rattle.fund_report.specs.declared.report.Report.TheVariants as kinds
use Rattle.payment_states.specs.Makers.{HasMaker}
use Rattle.psbt_codec.specs.Psbt.{IsPsbt}
use Rattle.request_text.specs.PlainRequest.{PlainRequest}
use Rattle.search_run.specs.Kept.{log_of}
use Rattle.search_run.specs.Run.{Stand}
use Rattle.search_run.specs.Step.{AreSteps, PlainStep}
use Rattle.search_run.specs.declared.ending.End.{End}
use Rattle.wallet_text.specs.PlainWallet.{PlainWallet}
use Rattle.wallet_text.specs.declared.wallet.Watch.{Watch}
use Rattle.fund_files.specs.Chain.{IsChain, chain_from}
use Rattle.fund_files.specs.declared.chain.Chain.{Chain}
use Rattle.fund_payment.specs.Report.{psbt_of, report_of}
use Rattle.fund_payment.specs.Shown.{ShowsCoins}
use Rattle.command_end.specs.Names.{Sources}
use Rattle.command_inputs.specs.Cause.{Cause, Files, Bump, Plan, cause_of}
use Rattle.command_inputs.specs.Outcome.{Unfinished, NoSelection, Funded, bump_fault_in, bump_of, candidates_by, log_text_at, none_report, none_report_at, open_report, open_report_at, plan_of, terms_for}
use Rattle.command_inputs.specs.Inputs.{AreAsked, AreInputs}
use Rattle.command_inputs.specs.Meant.{IsMeant}
use Rattle.command_inputs.specs.Names.{Payment}
use Rattle.command_inputs.specs.PlanEnds.{CanEnd, IsAfter, IsConcluded, IsEndOf, IsEnded, IsLeftAt, IsNew, IsOpen, IsOpenAt, IsOpenReport, IsPaid, IsUnpaid, MeansFault, StopsPlan, plan_stop_of}
use Rattle.command_inputs.specs.Stops.{StopsFor}
use Rattle.command_inputs.specs.declared.funding.Ending.{Ending}
use Rattle.command_inputs.specs.declared.funding.Ending.TheVariants as endings
use Rattle.command_inputs.specs.declared.refusal.Stop.{Stop}
use Rattle.command_inputs.specs.declared.refusal.Stop.TheVariants as stops
use Rattle.command_inputs.proofs.OutcomeLaws.{due_is, inputs_due, plan_refused}
use Rattle.command_inputs.proofs.EndedLaws.{log_written, open_stage}
use Rattle.command_inputs.proofs.PackageLaws.{pays_for_packages}
use Rattle.command_inputs.proofs.ReplaceLaws.{replaces_named}
use Rattle.command_inputs.proofs.TermsLaws.{spent_made}

-- a plan of these parts
abbrev plan_from : PlainRequest → Watch → List Candidate → Option PlainBump → PlainPlan
plan_from r change coins bump = record { request = r; change = change; candidates = coins; bump = bump }

-- ---- why no plan is made

plan_stops : (k : Chain) (r : PlainRequest) (fault : PlanFault) → IsPlanFault (plan_of k r) fault → StopsPlan k r (plan_stop_of fault)
plan_stops k r (plans.Total sum) h = let real : plans.Total sum ≢ plans.Memory = λ e. absurd cc in (plan_refused k r (plans.Total sum) h real, (h, real))
plan_stops k r (plans.NotEligible point) h = let real : plans.NotEligible point ≢ plans.Memory = λ e. absurd cc in (plan_refused k r (plans.NotEligible point) h real, (h, real))
plan_stops k r (plans.TooMany number n) h = let real : plans.TooMany number n ≢ plans.Memory = λ e. absurd cc in (plan_refused k r (plans.TooMany number n) h real, (h, real))
plan_stops k r plans.Memory h = tt

pub same_plan : (k : Chain) (r : PlainRequest) (change : Watch) (coins : List Candidate) (bump : Option PlainBump) → change ≡ k.wallet.change → coins ≡ candidates_by k r.rate (terms_for k r) → bump ≡ option_map bump_of (terms_for k r) → plan_from r change coins bump ≡ plan_of k r
same_plan k r change coins bump own all given =
    ap (λ (w : Watch). plan_from r w coins bump) own ∙ ap (λ (cs : List Candidate). plan_from r k.wallet.change cs bump) all ∙ ap (plan_from r k.wallet.change (candidates_by k r.rate (terms_for k r))) given

pub plan_stops_at : (k : Chain) (r : PlainRequest) (change : Watch) (coins : List Candidate) (bump : Option PlainBump) (fault : PlanFault) → change ≡ k.wallet.change → coins ≡ candidates_by k r.rate (terms_for k r) → bump ≡ option_map bump_of (terms_for k r) → IsPlanFault (plan_from r change coins bump) fault → StopsPlan k r (plan_stop_of fault)
plan_stops_at k r change coins bump fault own all given h =
    plan_stops k r fault (subst (λ (p : PlainPlan). IsPlanFault p fault) (same_plan k r change coins bump own all given) h)

pub new_is : (k : Chain) (r : PlainRequest) (change : Watch) (coins : List Candidate) (bump : Option PlainBump) (s : PlanState) → change ≡ k.wallet.change → coins ≡ candidates_by k r.rate (terms_for k r) → bump ≡ option_map bump_of (terms_for k r) → s.plan ≡ plan_from r change coins bump → s.stand ≡ beginning_of s.plan → s.partial ≡ None → IsNew k r s
new_is k r change coins bump s own all given is stand partial = record { plan = is ∙ same_plan k r change coins bump own all given; stand = stand; partial = partial }

-- ---- a plan behind its tries

is_new : (s : PlanState) → s.stand ≡ beginning_of s.plan → s.partial ≡ None → s ≡ new_of s.plan
is_new s stand partial =
    ap (λ (x : Stand). record { plan = s.plan; stand = x; partial = s.partial }) stand
    ∙ ap (λ (o : Option PlainFound). record { plan = s.plan; stand = beginning_of s.plan; partial = o }) partial

state_at : PlainPlan → ℕ → PlanState
state_at p n = record { plan = p; stand = stand_after p n; partial = partial_of (end_at p (stand_after p n)) }

moved_at : (s : PlanState) (n : ℕ) → s.stand ≡ beginning_of s.plan → s.partial ≡ None → moved s n ≡ state_at s.plan n
unfolding state_at
moved_at s n new none =
    let granted : Stand → ℕ = λ x. min n (most_tries - x.past.tries) in
    moved_none s n s.partial none
    ∙ ap (λ (x : Stand). record { plan = s.plan; stand = led s.plan x (granted x); partial = partial_of (end_at s.plan (led s.plan x (granted x))) }) new

log_there : (p : PlainPlan) (n : ℕ) → log_of (is_partial (end_in (state_at p n))) (stand_after p n) ≡ log_at p n
unfolding state_at log_at
log_there p n = ap (λ (d : End). log_of (is_partial d) (stand_after p n)) (end_back (state_at p n) (end_at p (stand_after p n)) refl)

gone : (old new : PlanState) (n : ℕ) (o : Answer) → old.stand ≡ beginning_of old.plan → old.partial ≡ None → IsPlan old.plan → AreSteps (steps_of old.plan) → new ≡ moved old n → o ≡ told new → ArePayments old.plan o → HasSelection old.plan.request o
    → IsAfter old.plan n new o
unfolding state_at tries_at
gone old new n o stand partial rules steps is says pays fits =
    let e : new ≡ state_at old.plan n = is ∙ moved_at old n stand partial in
    record {
      rules = rules;
      steps = steps;
      outcome = says ∙ ap told is ∙ new_told old n stand partial;
      pays = pays;
      fits = fits;
      tries = ap (λ (s : PlanState). s.stand.past.tries) e;
      left = ap (λ (s : PlanState). s.stand.left) e;
      log = ap (λ (s : PlanState). log_of (is_partial (end_in s)) s.stand) e ∙ log_there old.plan n;
      stands = is ∙ ap (λ (s : PlanState). moved s n) (is_new old stand partial);
    }

pub after : (k : Chain) (r : PlainRequest) (old new : PlanState) (n : ℕ) (o : Answer) → IsNew k r old → n ≡ r.tries → IsPlan old.plan → AreSteps (steps_of old.plan) → new ≡ moved old n → o ≡ told new → ArePayments old.plan o → HasSelection old.plan.request o
    → IsAfter (plan_of k r) r.tries new o
after k r old new n o h tries rules steps is says pays fits =
    subst (λ (m : ℕ). IsAfter (plan_of k r) m new o) tries (subst (λ (p : PlainPlan). IsAfter p n new o) h.plan (gone old new n o h.stand h.partial rules steps is says pays fits))

-- ---- the run is unfinished

pub used_up : (p : PlainPlan) (n : ℕ) (s : PlanState) (o : Answer) → IsAfter p n s o → o ≡ answers.Unfinished → IsUsedUp p n
used_up p n s o a is = open_claims p n (sym a.outcome ∙ is)

open_left : (left : List PlainStep) (x : PlainStep) (rest : List PlainStep) → left ≡ x ∷ rest → IsRead x.stage → IsOpenAt left
open_left left x rest e h = subst IsOpenAt (sym e) h

-- a search is open
pub is_open : (p : PlainPlan) (n : ℕ) (s : PlanState) (o : Answer) → IsAfter p n s o → o ≡ answers.Unfinished → IsOpenAt s.stand.left
is_open p n s o a is =
    let u = used_up p n s o a is in
    open_left s.stand.left u.step u.rest (a.left ∙ u.left) (open_stage p n u.step u.rest a.steps u.left)

-- what is left can be kept
left_there : (k : Chain) (r : PlainRequest) (s : PlanState) (o : Answer) → IsAfter (plan_of k r) r.tries s o → o ≡ answers.Unfinished → IsLeftAt k r s
left_there k r s o a is =
    let p : PlainPlan = plan_of k r in
    record {
      steps = a.steps;
      stands = a.stands;
      can = record {
        unfinished = ap told a.stands ∙ (new_told (new_of p) r.tries refl refl ∙ (sym a.outcome ∙ is));
        text = λ digest saved e.
            written_on (new_of p) r.tries digest 1 saved a.steps (kept_begins p.request.seed (steps_of p) a.steps)
            (subst (λ (x : PlanState). saved_at digest 1 x ≡ Some saved) a.stands e) (omega arith) (omega arith);
      };
    }

pub concluded_open : (k : Chain) (r : PlainRequest) (s : PlanState) (o : Answer) (text : List ℕ) → IsAfter (plan_of k r) r.tries s o → o ≡ answers.Unfinished → text ≡ open_report s.stand.past.tries s.stand.left → IsOpenReport text s.stand.past.tries s.stand.left → IsPlan (plan_of k r) × IsOpen k r text × IsLeftAt k r s
concluded_open k r s o text a is text_is told =
    let p : PlainPlan = plan_of k r in
    let u = used_up p r.tries s o a is in
    let out : outcome_at p r.tries ≡ answers.Unfinished = sym a.outcome ∙ is in
    let same : text ≡ open_report_at p r.tries = text_is ∙ ap (λ (n : ℕ). open_report n s.stand.left) a.tries ∙ ap (open_report (tries_at p r.tries)) a.left in (
      a.rules,
      record {
        outcome = out;
        used_up = u;
        reports = same ∙ ap (open_report (tries_at p r.tries)) u.left;
        told = subst (λ (xs : List PlainStep). IsOpenReport text (tries_at p r.tries) xs) (a.left ∙ u.left) (subst (λ (n : ℕ). IsOpenReport text n s.stand.left) a.tries told);
        due = due_is k r answers.Unfinished a.rules out ∙ ap (λ (t : List ℕ). Unfinished t) (sym same);
      },
      left_there k r s o a is,
    )

-- ---- the run is at its end

record IsLogged (p : PlainPlan) (n : ℕ) (log : List ℕ) : Type 0 where
  logs : log ≡ log_text_at p n
  reads : IsLogText log (log_at p n)

logged : (p : PlainPlan) (n : ℕ) (s : PlanState) (o : Answer) (log : List ℕ) → IsAfter p n s o → IsLogText (log_text_of (log_at p n)) (log_at p n) → log ≡ log_text_of (log_of (is_partial (end_in s)) s.stand) → IsLogged p n log
logged p n s o log a reads is =
    let same : log ≡ log_text_at p n = is ∙ ap (λ (l : PlainLog). log_text_of l) a.log in
    record { logs = same; reads = subst (λ (t : List ℕ). IsLogText t (log_at p n)) (sym same) reads }

pub concluded_none : (k : Chain) (r : PlainRequest) (s : PlanState) (o : Answer) (text log : List ℕ) → IsAfter (plan_of k r) r.tries s o → o ≡ answers.NoSelection → text ≡ none_report s.stand.past.tries → IsReportText text (kinds.NoSelection s.stand.past.tries) → log ≡ log_text_of (log_of (is_partial (end_in s)) s.stand)
    → IsPlan (plan_of k r) × IsUnpaid k r text log
concluded_none k r s o text log a is text_is told log_is =
    let p : PlainPlan = plan_of k r in
    let out : outcome_at p r.tries ≡ answers.NoSelection = sym a.outcome ∙ is in
    let goes : outcome_at p r.tries ≡ answers.Unfinished → ⊥ = λ e. absurd (let x = sym out ∙ e in cc) in
    let w = log_written p r.tries a.steps goes in
    let l = logged p r.tries s o log a w.reads log_is in
    let same : text ≡ none_report_at p r.tries = text_is ∙ ap (λ (n : ℕ). none_report n) a.tries in (
      a.rules,
      record {
        steps = a.steps;
        outcome = out;
        none = none_claims p r.tries a.rules a.steps out;
        reports = same;
        told = subst (λ (n : ℕ). IsReportText text (kinds.NoSelection n)) a.tries told;
        logs = l.logs;
        reads = l.reads;
        ended = w.ended;
        due = due_is k r answers.NoSelection a.rules out ∙ ap (λ (t : List ℕ). NoSelection t (log_text_at p r.tries)) (sym same) ∙ ap (λ (t : List ℕ). NoSelection text t) (sym l.logs);
      },
    )

-- the book has the transactions that made the coins of a payment
pub paid_from : (k : Chain) (r : PlainRequest) (s : PlanState) (o : Answer) (f : PlainFunded) → IsChain k → book_fault k.book ≡ None → IsAfter (plan_of k r) r.tries s o → o ≡ answers.Funded f → All (HasMaker k.book) f.coins
paid_from k r s o f held sound a is =
    let pays : IsPayment (plan_of k r) f = subst (ArePayments (plan_of k r)) is a.pays in
    spent_made k r held sound f.coins pays.candidates

pub paid_fits : (k : Chain) (r : PlainRequest) (s : PlanState) (o : Answer) (f : PlainFunded) → IsAfter (plan_of k r) r.tries s o → o ≡ answers.Funded f → IsSelection r f
paid_fits k r s o f a is = subst (HasSelection r) is a.fits

pub concluded_paid : (k : Chain) (r : PlainRequest) (s : PlanState) (o : Answer) (f : PlainFunded) (tries : ℕ) (text log : List ℕ) → IsChain k → book_fault k.book ≡ None → bump_fault_in k r ≡ None → IsAfter (plan_of k r) r.tries s o → o ≡ answers.Funded f → tries ≡ s.stand.past.tries → text ≡ report_of k.book r k.wallet.change tries f
    → IsPsbt (psbt_of k.book r k.wallet.change f) → ShowsCoins f.coins (psbt_of k.book r k.wallet.change f) → log ≡ log_text_of (log_of (is_partial (end_in s)) s.stand) → IsPlan (plan_of k r) × IsPaid k r text log
concluded_paid k r s o f tries text log held sound clear a is tried text_is psbt shows log_is =
    let p : PlainPlan = plan_of k r in
    let out : outcome_at p r.tries ≡ answers.Funded f = sym a.outcome ∙ is in
    let goes : outcome_at p r.tries ≡ answers.Unfinished → ⊥ = λ e. absurd (let x = sym out ∙ e in cc) in
    let w = log_written p r.tries a.steps goes in
    let l = logged p r.tries s o log a w.reads log_is in
    let pays : IsPayment p f = subst (ArePayments p) is a.pays in
    let report : ℕ → List ℕ = λ n. report_of k.book r k.wallet.change n f in
    let same : text ≡ report (tries_at p r.tries) = text_is ∙ ap report (tried ∙ a.tries) in (
      a.rules,
      record {
        funded = f;
        steps = a.steps;
        outcome = out;
        pays = pays;
        eligible = payment_may p f a.rules pays;
        replaces = replaces_named k r f held sound clear a.rules pays;
        packages = pays_for_packages k r f held.rules pays;
        claims = funded_claims p r.tries f a.rules a.steps out;
        psbt = psbt;
        shows = shows;
        reports = same;
        logs = l.logs;
        reads = l.reads;
        ended = w.ended;
        due = due_is k r (answers.Funded f) a.rules out ∙ ap (λ (t : List ℕ). Funded t (log_text_at p r.tries)) (sym same) ∙ ap (λ (t : List ℕ). Funded text t) (sym l.logs);
      },
    )

-- ---- what the files come to

-- a run with the request's tries can end
pub can_end : (k : Chain) (r : PlainRequest) (s : PlanState) (o : Answer) → IsChain k → book_fault k.book ≡ None → IsAfter (plan_of k r) r.tries s o → CanEnd k r s o
can_end k r s o held sound a = record {
  goes_on = is_open (plan_of k r) r.tries s o a;
  selects = λ f is. paid_fits k r s o f a is;
  makers = λ f is. paid_from k r s o f held sound a is;
}

-- how it ends
pub concluded : (k : Chain) (r : PlainRequest) (s : PlanState) (o : Answer) (e : Ending (Unit {0})) → IsChain k → book_fault k.book ≡ None → bump_fault_in k r ≡ None → IsAfter (plan_of k r) r.tries s o → IsEndOf k r s o tt e → IsConcluded k r e
concluded k r s o (endings.Unfinished left) held sound clear a h =
    let c = concluded_open k r s o left.report.items a h.0 h.1.reports h.1.told in
    (c.0, c.1, subst (IsLeftAt k r) (sym h.1.plan_is) c.2)
concluded k r s o (endings.NoSelection texts) held sound clear a h = concluded_none k r s o texts.report.items texts.log.items a h.0 h.1.reports h.1.told h.1.logs
concluded k r s o (endings.Funded texts) held sound clear a h =
    concluded_paid k r s o h.0 s.stand.past.tries texts.report.items texts.log.items held sound clear a h.1 refl h.2.reports h.2.psbt h.2.shows h.2.logs

ended_on : (told_files : Type 0) (files : List ℕ → List ℕ) (s : Sources) (p : Payment) (w : PlainWallet) (blocks : List ChainBlock) (r : PlainRequest) (e : Ending (Unit {0})) → (told_files → AreInputs files s p w blocks r) → IsConcluded (chain_from w blocks) r e → IsEnded told_files files s p e
ended_on told_files files s p w blocks r (endings.Unfinished left) inputs c = (
  record {
    wallet = w;
    blocks = blocks;
    asked = r;
    inputs = inputs;
    plan = c.0;
    steps = c.2.steps;
    outcome = c.1.outcome;
    used_up = c.1.used_up;
    reports = c.1.reports;
    told = c.1.told;
    comes_to = λ t. inputs_due files s p w blocks r (inputs t) ∙ c.1.due;
  },
  c.2,
)
ended_on told_files files s p w blocks r (endings.NoSelection texts) inputs c = record {
  wallet = w;
  blocks = blocks;
  asked = r;
  inputs = inputs;
  plan = c.0;
  steps = c.1.steps;
  outcome = c.1.outcome;
  none = c.1.none;
  reports = c.1.reports;
  told = c.1.told;
  logs = c.1.logs;
  reads = c.1.reads;
  ended = c.1.ended;
  comes_to = λ t. inputs_due files s p w blocks r (inputs t) ∙ c.1.due;
}
ended_on told_files files s p w blocks r (endings.Funded texts) inputs c = record {
  wallet = w;
  blocks = blocks;
  asked = r;
  funded = c.1.funded;
  inputs = inputs;
  plan = c.0;
  steps = c.1.steps;
  outcome = c.1.outcome;
  pays = c.1.pays;
  eligible = c.1.eligible;
  replaces = c.1.replaces;
  packages = c.1.packages;
  claims = c.1.claims;
  psbt = c.1.psbt;
  shows = c.1.shows;
  reports = c.1.reports;
  logs = c.1.logs;
  reads = c.1.reads;
  ended = c.1.ended;
  comes_to = λ t. inputs_due files s p w blocks r (inputs t) ∙ c.1.due;
}

meant : (files : List ℕ → List ℕ) (s : Sources) (p : Payment) (w : PlainWallet) (blocks : List ChainBlock) (r : PlainRequest) (cause : Cause) → AreInputs files s p w blocks r → MeansFault (chain_from w blocks) r cause → IsMeant files s p cause
meant files s p w blocks r (Files cause) inputs m = absurd m
meant files s p w blocks r (Bump fault) inputs m = absurd m
meant files s p w blocks r (Plan fault) inputs m = (w, blocks, r, inputs, m.0, m.1)

pub stops_on : (told_files : Type 0) (s : Sources) (p : Payment) (w : PlainWallet) (blocks : List ChainBlock) (r : PlainRequest) (old new : ShelfView) (stop : Stop) → (told_files → AreInputs old.files s p w blocks r) → StopsPlan (chain_from w blocks) r stop → StopsFor told_files s p old new stop
stops_on told_files s p w blocks r old new (stops.Read file) inputs is = absurd is
stops_on told_files s p w blocks r old new (stops.Refused refusal) inputs is = λ t.
    (inputs_due old.files s p w blocks r (inputs t) ∙ is.0, meant old.files s p w blocks r (cause_of refusal) (inputs t) is.1)
stops_on told_files s p w blocks r old new stops.Keep inputs is = absurd is
stops_on told_files s p w blocks r old new stops.Memory inputs is = tt

pub if_ends : (told_files : Type 0) (files : List ℕ → List ℕ) (s : Sources) (p : Payment) (k : Chain) (r : PlainRequest) (result : Result (Ending (Unit {0})) Stop) → AreAsked told_files files s p k r → IfOk result (IsConcluded k r) → IfOk result (IsEnded told_files files s p)
if_ends told_files files s p k r (Ok e) h c = ended_on told_files files s p k.wallet h.held.blocks r e h.inputs (subst (λ (x : Chain). IsConcluded x r e) h.held.is c)
if_ends told_files files s p k r (Err stop) h c = tt

pub if_stops : (told_files : Type 0) (s : Sources) (p : Payment) (k : Chain) (r : PlainRequest) (old new : ShelfView) (result : Result (Ending (Unit {0})) Stop) → AreAsked told_files old.files s p k r → IfErr result (StopsPlan k r) → IfErr result (StopsFor told_files s p old new)
if_stops told_files s p k r old new (Ok e) h is = tt
if_stops told_files s p k r old new (Err stop) h is = stops_on told_files s p k.wallet h.held.blocks r old new stop h.inputs (subst (λ (x : Chain). StopsPlan x r stop) h.held.is is)
