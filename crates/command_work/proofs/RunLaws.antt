-- How the run on a workload ends, and why there is none.
use Rattle.std.proofs.Common.{◌≡◌, ◌≢◌, ◌∙◌, ℕ, ◌≤◌, List, [], Some, None, Result, Ok, Err, refl, sym, ap, subst}
use Rattle.std.specs.Prelude.{IfErr, IfOk, codes}
use Rattle.coin_book.specs.Faults.{fault_of}
use Rattle.coin_book.specs.declared.fault.BookFault.{BookFault}
use Rattle.fund_base.specs.declared.memory.Memory.{Memory}
use Rattle.request_text.specs.PlainRequest.{PlainRequest}
use Rattle.wallet_text.specs.PlainWallet.{PlainWallet}
use Rattle.wallet_text.specs.Reported.{refusal_of}
use Rattle.wallet_text.specs.WalletRules.{AreDistinctEarlier, IsWallet}
use Rattle.wallet_text.specs.declared.fault.Refusal.TheVariants as wallets
use Rattle.wallet_text.specs.declared.fault.WalletFault.{WalletFault}
use Rattle.wallet_text.specs.declared.fault.WalletFault.TheVariants as told
use Rattle.command_work.specs.Load.{earlier_of, request_of, wallet_of}
use Rattle.command_work.specs.Refused.{IsRefused}
use Rattle.command_work.specs.Summary.{summary_text}
use Rattle.fund_files.specs.Alone.{StopsAlone}
use Rattle.fund_files.specs.Cause as causes
use Rattle.fund_files.specs.Chain.{history_of}
use Rattle.fund_files.specs.declared.chain.Chain.{Chain}
use Rattle.fund_files.specs.declared.refusal.FileRefusal.TheVariants as file_refusals
use Rattle.fund_files.specs.declared.stop.Stop.{Stop as FileStop}
use Rattle.fund_files.specs.declared.stop.Stop.TheVariants as file_stops
use Rattle.command_end.specs.declared.status.Status.{Status}
use Rattle.command_end.specs.declared.status.Status.TheVariants as statuses
use Rattle.command_inputs.specs.Cause.{Cause, Files, Bump, Plan, cause_of}
use Rattle.command_inputs.specs.PlanEnds.{IsConcluded, IsOpen, IsPaid, IsUnpaid, MeansFault, StopsPlan}
use Rattle.fund_steps.specs.Plan.{IsEligible, IsPlan}
use Rattle.command_inputs.specs.Stops.{lifted}
use Rattle.command_inputs.specs.declared.funding.Ending.{Ending}
use Rattle.command_inputs.specs.declared.refusal.Refusal.{Refusal}
use Rattle.command_inputs.specs.declared.refusal.Refusal.TheVariants as refusals
use Rattle.command_inputs.specs.declared.refusal.Stop.{Stop}
use Rattle.command_inputs.specs.declared.refusal.Stop.TheVariants as stops
use Rattle.command_work.specs.Outcome.{IsCollision, Summed, outcome_of, load_of, load_plan, summed}
use Rattle.command_work.specs.Statuses.{IsFunded, IsNotFunded, IsSummary, IsUnfinished}
use Rattle.command_work.specs.Stops.{IsRun, StopsLoad}
use Rattle.command_work.specs.declared.running.Run.{Run}
use Rattle.command_work.proofs.BookLaws.{load_sound}
use Rattle.std.proofs.lemmas.List.Elements.{All-weaker}
use Rattle.fund_steps.proofs.BumpLaws.{may_plain}
use Rattle.fund_steps.specs.Listed.{MaySpend}
use Rattle.command_work.proofs.OutcomeLaws.{distinct_due}
use Rattle.command_work.proofs.PlanLaws.{load_unrefused}

-- ---- its summary

pub run_open : (number count : ℕ) (report summary : List ℕ) → AreDistinctEarlier (earlier_of number count) → IsPlan (load_plan number count) × IsOpen (load_of number count) (request_of number count) report → summary ≡ summary_text number count report → IsUnfinished number count summary
run_open number count report summary distinct h is = record {
  report = report;
  plan = h.0;
  outcome = h.1.outcome;
  used_up = h.1.used_up;
  told = h.1.told;
  sums = is;
  comes_to = distinct_due number count distinct ∙ ap (summed number count) h.1.due ∙ ap (λ (t : List ℕ). Summed statuses.Unfinished t) (sym is);
}

pub run_none : (number count : ℕ) (report log summary : List ℕ) → AreDistinctEarlier (earlier_of number count) → IsPlan (load_plan number count) × IsUnpaid (load_of number count) (request_of number count) report log → summary ≡ summary_text number count report → IsNotFunded number count summary
run_none number count report log summary distinct h is = record {
  report = report;
  plan = h.0;
  outcome = h.1.outcome;
  none = h.1.none;
  told = h.1.told;
  sums = is;
  comes_to = distinct_due number count distinct ∙ ap (summed number count) h.1.due ∙ ap (λ (t : List ℕ). Summed statuses.NoSelection t) (sym is);
}

pub run_paid : (number count : ℕ) (report log summary : List ℕ) → AreDistinctEarlier (earlier_of number count) → IsPlan (load_plan number count) × IsPaid (load_of number count) (request_of number count) report log → summary ≡ summary_text number count report → IsFunded number count summary
run_paid number count report log summary distinct h is = record {
  funded = h.1.funded;
  plan = h.0;
  steps = h.1.steps;
  outcome = h.1.outcome;
  pays = h.1.pays;
  eligible = All-weaker (MaySpend (load_plan number count)) (IsEligible (load_plan number count)) (λ c may. may_plain (load_plan number count) c refl may) h.1.funded.coins h.1.eligible;
  packages = h.1.packages;
  claims = h.1.claims;
  psbt = h.1.psbt;
  shows = h.1.shows;
  sums = is ∙ ap (λ (t : List ℕ). summary_text number count t) h.1.reports;
  comes_to = distinct_due number count distinct ∙ ap (summed number count) h.1.due ∙ ap (λ (t : List ℕ). Summed statuses.Done t) (sym is);
}

pub if_run : (number count : ℕ) (report : List ℕ) (status : Status) (result : Result Run Memory) → ((summary : List ℕ) → summary ≡ summary_text number count report → IsSummary number count status summary) → IfOk result (λ (r : Run). r.summary.items ≡ summary_text number count report) → IfOk result (λ (r : Run). r.status ≡ status)
    → IfOk result (IsRun number count)
if_run number count report status (Ok r) whole text is = subst (λ (s : Status). IsSummary number count s r.summary.items) (sym is) (whole r.summary.items text)
if_run number count report status (Err e) whole text is = tt

-- ---- the workload is refused

collision_told : (number count : ℕ) (fault : WalletFault) → IsRefused number count fault → fault ≢ told.Memory → IsCollision number count (Files (causes.BadWallet (refusal_of fault)))
collision_told number count (told.Repeat list index) is real = record {
  place = is.place;
  first = is.first;
  cause_is = ap (λ (xs : List ℕ). Files (causes.BadWallet (wallets.Repeat xs index))) is.name ∙ ap (λ (n : ℕ). Files (causes.BadWallet (wallets.Repeat (codes "earlier") n))) is.place_is;
}
collision_told number count told.Memory is real = absurd (real refl)
collision_told number count told.NotJson is real = absurd is
collision_told number count (told.Kind name) is real = absurd is
collision_told number count (told.Member name) is real = absurd is
collision_told number count (told.Missing name) is real = absurd is
collision_told number count (told.Script index) is real = absurd is
collision_told number count (told.Weight index) is real = absurd is
collision_told number count (told.Tx list index fault) is real = absurd is
collision_told number count (told.ParentLater index) is real = absurd is

abbrev wallet_refusal : WalletFault → Refusal
wallet_refusal fault = refusals.Files (file_refusals.BadWallet fault)

pub load_stops : (number count : ℕ) (fault : WalletFault) (stop : Stop) → IsRefused number count fault → (stop ≢ stops.Memory → (fault ≢ told.Memory) × (stop ≡ stops.Refused (wallet_refusal fault))) → StopsLoad number count stop
load_stops number count fault (stops.Read file) is h =
    let e : stops.Read file ≡ stops.Refused (wallet_refusal fault) = (h (λ e. absurd cc)).1 in
    absurd cc
load_stops number count fault (stops.Refused refusal) is h =
    let r = h (λ e. absurd cc) in
    let e : stops.Refused refusal ≡ stops.Refused (wallet_refusal fault) = r.1 in
    let same : refusal ≡ wallet_refusal fault = cc in
    subst (λ (x : Refusal). IsCollision number count (cause_of x)) (sym same) (collision_told number count fault is r.0)
load_stops number count fault stops.Keep is h =
    let e : stops.Keep ≡ stops.Refused (wallet_refusal fault) = (h (λ e. absurd cc)).1 in
    absurd cc
load_stops number count fault stops.Memory is h = tt

-- ---- a book holds its coins

pub hold_stops : (number count : ℕ) (w : PlainWallet) (stop : FileStop) → count ≤ 10_000 → AreDistinctEarlier (earlier_of number count) → w ≡ wallet_of number count → StopsAlone w stop → StopsLoad number count (lifted stop)
hold_stops number count w (file_stops.Read file) most distinct is h = absurd h
hold_stops number count w (file_stops.Refused refusal) most distinct is h =
    let sound : fault_of (history_of w []) ≡ None = subst (λ (x : PlainWallet). fault_of (history_of x []) ≡ None) (sym is) (load_sound number count most distinct) in
    let e : None ≡ Some h.0 = sym sound ∙ h.1 in
    absurd cc
hold_stops number count w file_stops.Memory most distinct is h = tt

-- ---- a plan is made of its request

no_means : (number count : ℕ) (cause : Cause) → 1 ≤ count → count ≤ 10_000 → AreDistinctEarlier (earlier_of number count) → MeansFault (load_of number count) (request_of number count) cause → ⊥
no_means number count (Files cause) some most distinct m = m
no_means number count (Bump fault) some most distinct m = m
no_means number count (Plan fault) some most distinct m = load_unrefused number count fault some most distinct m.0 m.1

stops_at : (number count : ℕ) (stop : Stop) → 1 ≤ count → count ≤ 10_000 → AreDistinctEarlier (earlier_of number count) → StopsPlan (load_of number count) (request_of number count) stop → StopsLoad number count stop
stops_at number count (stops.Read file) some most distinct h = absurd h
stops_at number count (stops.Refused refusal) some most distinct h = absurd (no_means number count (cause_of refusal) some most distinct h.1)
stops_at number count stops.Keep some most distinct h = absurd h
stops_at number count stops.Memory some most distinct h = tt

pub if_stops : (number count : ℕ) (k : Chain) (r : PlainRequest) (result : Result (Ending (Unit {0})) Stop) → 1 ≤ count → count ≤ 10_000 → AreDistinctEarlier (earlier_of number count) → k ≡ load_of number count → r ≡ request_of number count → IfErr result (StopsPlan k r) → IfErr result (StopsLoad number count)
if_stops number count k r (Ok e) some most distinct held asked h = tt
if_stops number count k r (Err stop) some most distinct held asked h =
    stops_at number count stop some most distinct
    (subst (λ (x : PlainRequest). StopsPlan (load_of number count) x stop) asked (subst (λ (x : Chain). StopsPlan x r stop) held h))

pub if_ends : (number count : ℕ) (k : Chain) (r : PlainRequest) (result : Result (Ending (Unit {0})) Stop) → k ≡ load_of number count → r ≡ request_of number count → IfOk result (IsConcluded k r) → IfOk result (IsConcluded (load_of number count) (request_of number count))
if_ends number count k r (Ok e) held asked h =
    subst (λ (x : PlainRequest). IsConcluded (load_of number count) x e) asked (subst (λ (x : Chain). IsConcluded x r e) held h)
if_ends number count k r (Err stop) held asked h = tt
