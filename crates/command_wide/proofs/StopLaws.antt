-- Why a wide search stops, and that no stop is told as printed whole.
use Rattle.std.specs.Prelude.{ℕ, ◌≡◌, ◌≢◌, List}
use Rattle.std.proofs.Common.{inl, inr, subst, sym, ◌∙◌}
use Rattle.block_feed.specs.Block.{ChainBlock}
use Rattle.fund_shelf.proofs.Outside.{rose_earlier}
use Rattle.fund_shelf.specs.Causes.{OnlyReads, ShelfView, SinkView}
use Rattle.fund_steps.specs.Plan.{IsPlanFault}
use Rattle.fund_steps.specs.declared.fault.PlanFault.{PlanFault}
use Rattle.fund_steps.specs.declared.fault.PlanFault.TheVariants as plans
use Rattle.request_text.specs.PlainRequest.{PlainRequest}
use Rattle.wallet_text.specs.PlainWallet.{PlainWallet}
use Rattle.fund_files.specs.Cause.{cause_of}
use Rattle.fund_files.specs.Chain.{chain_from}
use Rattle.fund_files.specs.Contents.{HasRequest}
use Rattle.fund_files.specs.FileStops.{StopsAsked, StopsChain}
use Rattle.fund_files.specs.Joined.{IsChainOf}
use Rattle.fund_files.specs.Refusals.{IsRequestCause}
use Rattle.fund_files.specs.declared.chain.Chain.{Chain}
use Rattle.fund_files.specs.declared.refusal.File.{File}
use Rattle.fund_files.specs.declared.refusal.File.TheVariants.{Wallet, Blocks, Request}
use Rattle.fund_files.specs.declared.stop.Stop.{Stop as FileStop}
use Rattle.fund_files.specs.declared.stop.Stop.TheVariants as files
use Rattle.command_end.proofs.WholeLaws.{answered_stops}
use Rattle.command_end.specs.Names.{Sources}
use Rattle.command_end.specs.Printed.{TellsWhole}
use Rattle.command_end.specs.declared.status.Status.{Status}
use Rattle.command_end.specs.declared.status.Status.TheVariants as statuses
use Rattle.command_inputs.proofs.StopLaws.{stop_untold as payment_untold}
use Rattle.command_inputs.specs.Cause.{Cause, Files, Bump, Plan, cause_of as cause_of_payment}
use Rattle.command_inputs.specs.Inputs.{IsUnread, Reaches}
use Rattle.command_inputs.specs.Names.{Payment}
use Rattle.command_inputs.specs.Outcome.{plan_of}
use Rattle.command_inputs.specs.PlanEnds.{MeansFault}
use Rattle.command_inputs.specs.declared.refusal.Stop.TheVariants as payments
use Rattle.wide_plan.specs.Asked.{IsForWide}
use Rattle.command_wide.proofs.OutcomeLaws.{chain_refused, inputs_due, not_wide_due, plan_refused, request_refused}
use Rattle.command_wide.specs.Inputs.{AreAsked, AreInputs, AreNotWide, IsMeant, IsNotWide}
use Rattle.command_wide.specs.Stops.{IsStoppedWith, StopsFor, StopsPlan, fault_stop_of, file_stop_of, not_wide_words}
use Rattle.command_wide.specs.declared.stop.Stop.{Stop}
use Rattle.command_wide.specs.declared.stop.Stop.TheVariants as stops

-- ---- the files

-- at the wallet or the blocks
pub chain_stops : (told : Type 0) (s : Sources) (p : Payment) (old new : ShelfView) (stop : FileStop) → StopsChain told s.wallet s.blocks old new stop → StopsFor told s p old new (file_stop_of stop)
chain_stops told s p old new (files.Read Wallet) h = (h.0, λ t. tt)
chain_stops told s p old new (files.Read Blocks) h = h
chain_stops told s p old new (files.Read Request) h = absurd h.0
chain_stops told s p old new (files.Refused refusal) h = λ t.
    let cause = h t in
    (chain_refused old.files s p (cause_of refusal) cause.due, inl cause.meant)
chain_stops told s p old new files.Memory h = tt

-- at the request, which was read after these
pub asked_stops : (told : Type 0) (s : Sources) (p : Payment) (k : Chain) (old middle new : ShelfView) (stop : FileStop) → IsChainOf told (old.files s.wallet) (old.files s.blocks) k → OnlyReads told old middle → StopsAsked told p.request middle new stop → StopsFor told s p old new (file_stop_of stop)
asked_stops told s p k old middle new (files.Read named) h only is =
    (subst (λ (f : File). IsUnread s p f old new) (sym is.0) (rose_earlier _ _ _ (only.reads p.request) is.1), λ t. subst (λ (f : File). Reaches old.files s f) (sym is.0) (k.wallet, h.held.blocks, h.chain t))
asked_stops told s p k old middle new (files.Refused refusal) h only is = λ t.
    let cause : IsRequestCause (old.files p.request) (cause_of refusal) = subst (λ (f : List ℕ → List ℕ). IsRequestCause (f p.request) (cause_of refusal)) (only.same t) (is t) in
    (request_refused old.files s p k.wallet h.held.blocks (cause_of refusal) (h.chain t) cause.due, inr (k.wallet, h.held.blocks, h.chain t, cause.meant))
asked_stops told s p k old middle new files.Memory h only is = tt

-- at a request that the wide search doesn't take
pub other_stops : (told : Type 0) (s : Sources) (p : Payment) (k : Chain) (r : PlainRequest) (old middle : ShelfView) → IsChainOf told (old.files s.wallet) (old.files s.blocks) k → OnlyReads told old middle → (told → HasRequest (middle.files p.request) r) → (IsForWide r → ⊥) → told → AreNotWide old.files s p
other_stops told s p k r old middle h only asked other t =
    let is : IsNotWide old.files s p = record {
      wallet = k.wallet;
      blocks = h.held.blocks;
      asked = r;
      chain = h.chain t;
      request = subst (λ (f : List ℕ → List ℕ). HasRequest (f p.request) r) (only.same t) (asked t);
      other = other;
    } in
    (not_wide_due old.files s p is, is)

pub asked_is : (told : Type 0) (files seen : List ℕ → List ℕ) (s : Sources) (p : Payment) (k : Chain) (r : PlainRequest) → IsChainOf told (files s.wallet) (files s.blocks) k → (told → seen ≡ files) → (told → HasRequest (seen p.request) r) → IsForWide r → AreAsked told files s p k r
asked_is told files seen s p k r h same asked wide = record {
  held = h.held;
  inputs = λ t. record {
    chain = h.chain t;
    request = subst (λ (f : List ℕ → List ℕ). HasRequest (f p.request) r) (same t) (asked t);
    wide = wide;
  };
  wide = wide;
}

-- ---- the plan

pub plan_stops : (k : Chain) (r : PlainRequest) (fault : PlanFault) → IsPlanFault (plan_of k r) fault → StopsPlan k r (fault_stop_of fault)
plan_stops k r (plans.Total sum) h = let real : plans.Total sum ≢ plans.Memory = λ e. absurd cc in (plan_refused k r (plans.Total sum) h real, (h, real))
plan_stops k r (plans.NotEligible point) h = let real : plans.NotEligible point ≢ plans.Memory = λ e. absurd cc in (plan_refused k r (plans.NotEligible point) h real, (h, real))
plan_stops k r (plans.TooMany number n) h = let real : plans.TooMany number n ≢ plans.Memory = λ e. absurd cc in (plan_refused k r (plans.TooMany number n) h real, (h, real))
plan_stops k r plans.Memory h = tt

meant : (files : List ℕ → List ℕ) (s : Sources) (p : Payment) (w : PlainWallet) (blocks : List ChainBlock) (r : PlainRequest) (cause : Cause) → AreInputs files s p w blocks r → MeansFault (chain_from w blocks) r cause → IsMeant files s p cause
meant files s p w blocks r (Files cause) inputs m = absurd m
meant files s p w blocks r (Bump fault) inputs m = absurd m
meant files s p w blocks r (Plan fault) inputs m = (w, blocks, r, inputs, m.0, m.1)

stops_on : (told : Type 0) (s : Sources) (p : Payment) (w : PlainWallet) (blocks : List ChainBlock) (r : PlainRequest) (old new : ShelfView) (stop : Stop) → (told → AreInputs old.files s p w blocks r) → StopsPlan (chain_from w blocks) r stop → StopsFor told s p old new stop
stops_on told s p w blocks r old new (stops.AsPayment (payments.Read file)) inputs is = absurd is
stops_on told s p w blocks r old new (stops.AsPayment (payments.Refused refusal)) inputs is = λ t.
    (inputs_due old.files s p w blocks r (inputs t) ∙ is.0, meant old.files s p w blocks r (cause_of_payment refusal) (inputs t) is.1)
stops_on told s p w blocks r old new (stops.AsPayment payments.Keep) inputs is = absurd is
stops_on told s p w blocks r old new (stops.AsPayment payments.Memory) inputs is = tt
stops_on told s p w blocks r old new stops.NotWide inputs is = absurd is

pub held_stops : (told : Type 0) (s : Sources) (p : Payment) (k : Chain) (r : PlainRequest) (old new : ShelfView) (stop : Stop) → AreAsked told old.files s p k r → StopsPlan k r stop → StopsFor told s p old new stop
held_stops told s p k r old new stop h is = stops_on told s p k.wallet h.held.blocks r old new stop h.inputs (subst (λ (x : Chain). StopsPlan x r stop) h.held.is is)

-- ---- no stop is told as printed whole

pub stop_untold : (told : Type 0) (s : Sources) (p : Payment) (stop : Stop) (sink sink' : SinkView) (result : Status) → IsStoppedWith told s p stop sink sink' result → TellsWhole result → ⊥
stop_untold told s p (stops.AsPayment stop) sink sink' result h whole = payment_untold told s p stop sink sink' result h whole
stop_untold told s p stops.NotWide sink sink' result h whole = answered_stops told not_wide_words statuses.Input sink sink' result (λ w. w) h whole
