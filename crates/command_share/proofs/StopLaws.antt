-- Why a payment whose recipients bear the fee stops, and that no stop is told as printed whole.
use Rattle.std.specs.Prelude.{ℕ, ◌≤◌, List}
use Rattle.std.proofs.Common.{subst, ◌∙◌}
use Rattle.block_feed.specs.Block.{ChainBlock}
use Rattle.fund_shelf.specs.Causes.{ShelfView, SinkView}
use Rattle.fund_steps.specs.Amounts.{value_of}
use Rattle.fund_steps.specs.declared.fault.PlanFault.{PlanFault}
use Rattle.fund_steps.specs.declared.fault.PlanFault.TheVariants as plans
use Rattle.request_text.specs.PlainRequest.{PlainRequest}
use Rattle.wallet_text.specs.PlainWallet.{PlainWallet}
use Rattle.fund_files.specs.Chain.{chain_from}
use Rattle.fund_files.specs.declared.chain.Chain.{Chain}
use Rattle.command_end.proofs.WholeLaws.{answered_stops}
use Rattle.command_end.specs.Names.{Sources}
use Rattle.command_end.specs.Printed.{TellsWhole}
use Rattle.command_end.specs.declared.status.Status.{Status}
use Rattle.command_end.specs.declared.status.Status.TheVariants as statuses
use Rattle.command_inputs.proofs.StopLaws.{stop_untold as payment_untold}
use Rattle.command_inputs.specs.Cause.{Cause, Files, Bump, Plan, cause_of}
use Rattle.command_inputs.specs.Names.{Payment}
use Rattle.command_inputs.specs.declared.refusal.Refusal.TheVariants as refusals
use Rattle.command_inputs.specs.declared.refusal.Stop.{Stop as PaymentStop}
use Rattle.command_inputs.specs.declared.refusal.Stop.TheVariants as payments
use Rattle.command_amounts.specs.Coins.{AreTooMuch, coins_for}
use Rattle.command_amounts.specs.Files.{AreHeld, StopsAtFiles}
use Rattle.command_share.proofs.OutcomeLaws.{fault_due, files_refused, inputs_due, not_share_due, total_due}
use Rattle.command_share.specs.Asked.{IsForShare}
use Rattle.command_share.specs.Inputs.{AreAsked, AreInputs, AreNotShare, IsMeant, IsNotShare}
use Rattle.command_share.specs.Rows.{AreCrowded}
use Rattle.command_share.specs.Stops.{IsStoppedWith, MeansFault, StopsFor, StopsSharing, fault_stop_of, not_share_words, share_dust_words}
use Rattle.command_share.specs.declared.stop.Stop.{Stop}
use Rattle.command_share.specs.declared.stop.Stop.TheVariants as stops

-- ---- the files

pub file_stops : (told : Type 0) (s : Sources) (p : Payment) (old new : ShelfView) (stop : PaymentStop) → StopsAtFiles told s p old new stop → StopsFor told s p old new (stops.AsPayment stop)
file_stops told s p old new (payments.Read file) h = h
file_stops told s p old new (payments.Refused (refusals.Files refusal)) h = λ t. let r = h t in (files_refused old.files s p _ r.0, r.1)
file_stops told s p old new (payments.Refused (refusals.Bump fault)) h = absurd h
file_stops told s p old new (payments.Refused (refusals.Plan fault)) h = absurd h
file_stops told s p old new payments.Keep h = absurd h
file_stops told s p old new payments.Memory h = tt

-- a request that isn't taken
pub other_stops : (told : Type 0) (files : List ℕ → List ℕ) (s : Sources) (p : Payment) (k : Chain) (r : PlainRequest) → AreHeld told files s p k r → (IsForShare r → ⊥) → told → AreNotShare files s p
other_stops told files s p k r h other t =
    let is : IsNotShare files s p = record { wallet = k.wallet; blocks = h.held.blocks; asked = r; all = h.all t; other = other } in
    (not_share_due files s p is, is)

pub asked_is : (told : Type 0) (files : List ℕ → List ℕ) (s : Sources) (p : Payment) (k : Chain) (r : PlainRequest) → AreHeld told files s p k r → IsForShare r → AreAsked told files s p k r
asked_is told files s p k r h taken = record { held = h.held; inputs = λ t. record { all = h.all t; taken = taken }; taken = taken }

-- ---- the plan

-- coins that are worth too much
pub coins_stop : (k : Chain) (r : PlainRequest) (fault : PlanFault) → AreTooMuch k r fault → StopsSharing k r (fault_stop_of fault)
coins_stop k r (plans.Total sum) h = (total_due k r sum h.0 h.1, h)
coins_stop k r (plans.NotEligible point) h = absurd h
coins_stop k r (plans.TooMany number n) h = absurd h
coins_stop k r plans.Memory h = tt

-- a row that keeps too many groups
pub rows_stop : (k : Chain) (r : PlainRequest) (fault : PlanFault) → value_of (coins_for k r) ≤ 2_100_000_000_000_000 → AreCrowded r k.wallet.change (coins_for k r) fault → StopsSharing k r (fault_stop_of fault)
rows_stop k r (plans.Total sum) worth h = absurd h
rows_stop k r (plans.NotEligible point) worth h = absurd h
rows_stop k r (plans.TooMany number n) worth h = (fault_due k r (plans.TooMany number n) worth h.0, (worth, h.1))
rows_stop k r plans.Memory worth h = tt

meant : (files : List ℕ → List ℕ) (s : Sources) (p : Payment) (w : PlainWallet) (blocks : List ChainBlock) (r : PlainRequest) (cause : Cause) → AreInputs files s p w blocks r → MeansFault (chain_from w blocks) r cause → IsMeant files s p cause
meant files s p w blocks r (Files cause) inputs m = absurd m
meant files s p w blocks r (Bump fault) inputs m = absurd m
meant files s p w blocks r (Plan fault) inputs m = (w, blocks, r, inputs, m)

stops_on : (told : Type 0) (s : Sources) (p : Payment) (w : PlainWallet) (blocks : List ChainBlock) (r : PlainRequest) (old new : ShelfView) (stop : Stop) → (told → AreInputs old.files s p w blocks r) → StopsSharing (chain_from w blocks) r stop → StopsFor told s p old new stop
stops_on told s p w blocks r old new (stops.AsPayment (payments.Read file)) inputs is = absurd is
stops_on told s p w blocks r old new (stops.AsPayment (payments.Refused refusal)) inputs is = λ t.
    (inputs_due old.files s p w blocks r (inputs t) ∙ is.0, meant old.files s p w blocks r (cause_of refusal) (inputs t) is.1)
stops_on told s p w blocks r old new (stops.AsPayment payments.Keep) inputs is = absurd is
stops_on told s p w blocks r old new (stops.AsPayment payments.Memory) inputs is = tt
stops_on told s p w blocks r old new stops.NotShare inputs is = absurd is
stops_on told s p w blocks r old new (stops.ShareDust index) inputs is = λ t. (inputs_due old.files s p w blocks r (inputs t) ∙ is.0, (w, blocks, r, inputs t, is.1))

pub held_stops : (told : Type 0) (s : Sources) (p : Payment) (k : Chain) (r : PlainRequest) (old new : ShelfView) (stop : Stop) → AreAsked told old.files s p k r → StopsSharing k r stop → StopsFor told s p old new stop
held_stops told s p k r old new stop h is = stops_on told s p k.wallet h.held.blocks r old new stop h.inputs (subst (λ (x : Chain). StopsSharing x r stop) h.held.is is)

-- ---- no stop is told as printed whole

pub stop_untold : (told : Type 0) (s : Sources) (p : Payment) (stop : Stop) (sink sink' : SinkView) (result : Status) → IsStoppedWith told s p stop sink sink' result → TellsWhole result → ⊥
stop_untold told s p (stops.AsPayment stop) sink sink' result h whole = payment_untold told s p stop sink sink' result h whole
stop_untold told s p stops.NotShare sink sink' result h whole = answered_stops told not_share_words statuses.Input sink sink' result (λ w. w) h whole
stop_untold told s p (stops.ShareDust index) sink sink' result h whole = answered_stops told (share_dust_words index) statuses.Input sink sink' result (λ w. w) h whole
