-- A desk as a machine: to each command one reply, and one next state.
use Rattle.std.specs.Prelude.{ℕ, ◌++◌, ◌∷◌, ◌||◌, [], not, List, Bool, Option, Some, None, Result, Ok, Err, bytes_eq, filter, is_some, length, nat_le, if◌then◌else◌}
use Rattle.std.specs.List.{list_any}
use Rattle.hex.specs.Hex.{decode_of}
use Rattle.hex.specs.declared.error.FromHexError.{FromHexError}
use Rattle.block_feed.specs.Block.{ChainBlock}
use Rattle.block_feed.specs.declared.fault.FeedFault.{FeedFault}
use Rattle.coin_book.specs.Faults.{fault_of}
use Rattle.coin_book.specs.History as histories
use Rattle.coin_book.specs.declared.fault.BookFault.{BookFault}
use Rattle.fund_base.specs.Parsing.{whole_of}
use Rattle.coin_candidates.specs.declared.candidate.Candidate.{Candidate}
use Rattle.fund_files.specs.declared.chain.Chain.{Chain}
use Rattle.fund_payment.specs.Report.{psbt_of}
use Rattle.fund_plan.specs.Pays.{payment_of}
use Rattle.fund_plan.specs.Selection.{PlainFunded}
use Rattle.fund_plan.specs.declared.outcome.Outcome.{Outcome}
use Rattle.fund_plan.specs.declared.outcome.Outcome.TheVariants as answers
use Rattle.fund_steps.specs.Faults as plans
use Rattle.fund_steps.specs.Plan.{PlainPlan}
use Rattle.fund_steps.specs.declared.fault.PlanFault.{PlanFault}
use Rattle.psbt_codec.specs.PartialTransaction.{PartialTransaction}
use Rattle.psbt_codec.specs.Psbt.{written}
use Rattle.request_text.specs.PlainRequest.{PlainRequest}
use Rattle.request_text.specs.RequestText.{request_of}
use Rattle.request_text.specs.declared.fault.Refusal as requests
use Rattle.tx_codec.specs.Reading.{tx_at}
use Rattle.tx_codec.specs.Transaction.{Transaction}
use Rattle.tx_codec.specs.Txid.{txid_of}
use Rattle.tx_codec.specs.declared.fault.TxFault.{TxFault}
use Rattle.tx_codec.specs.declared.fault.TxFault.TheVariants.{Trailing}
use Rattle.tx_codec.specs.declared.tx.TxIn.{TxIn}
use Rattle.wallet_text.specs.PlainWallet.{PlainWallet}
use Rattle.desk_machine.specs.Commands.{Command, Open, Turn, Commit, Close, Release, Blocks, Pending}
use Rattle.desk_machine.specs.Records.{Records, records_of}
use Rattle.desk_machine.specs.Replies.{Reply, Refusal, BadRequest, HasBump, BadPlan, BadBlocks, BadBook, BadHex, BadTx, Repeats, ComesLater, TakenName, AllOpen, Refused, Opened, NoJob, NotFunded, Taken, Committed, Closed, NotCommitted, Released, Tip, Seen}
use Rattle.desk_machine.specs.State.{Job, Payment, PlainDesk, candidates_in, free_at, has_job, job_at, new_job, points, put_job, without_job}
use Rattle.desk_machine.specs.Taken.{first_taken}
use Rattle.desk_machine.specs.Turns.{turn_reply, turned}

-- a reply, and the desk behind it
pub record Step : Type 0 where
  pub reply : Reply
  pub next : PlainDesk

-- the desk stays as it was
abbrev pub stay : PlainDesk → Reply → Step
stay d reply = record { reply = reply; next = d }

-- the same desk with these jobs, with these payments
abbrev pub with_jobs : PlainDesk → List Job → PlainDesk
with_jobs d jobs = record { held = d.held; committed = d.committed; jobs = jobs }

abbrev pub with_committed : PlainDesk → List Payment → PlainDesk
with_committed d committed = record { held = d.held; committed = committed; jobs = d.jobs }

-- ---- open

-- what a job is opened with: the coins that may be spent now, with their prices at the request's rate, but for those of
-- committed payments
abbrev pub plan_in : PlainDesk → PlainRequest → PlainPlan
plan_in d r = record { request = r; change = d.held.wallet.change; candidates = free_at d r.rate; bump = None }

abbrev pub by_fault : PlainPlan → Option PlanFault → Result PlainPlan Refusal
by_fault p (Some fault) = Err (BadPlan fault)
by_fault p None = Ok p

abbrev pub plan_by : PlainDesk → Result PlainRequest requests.Refusal → Result PlainPlan Refusal
plan_by d (Err fault) = Err (BadRequest fault)
plan_by d (Ok r) = if is_some r.bump then Err HasBump else by_fault (plan_in d r) (plans.fault_of (plan_in d r))

-- the plan of the request of a file, or why there is none
abbrev pub plan_for : PlainDesk → (request : List ℕ) → Result PlainPlan Refusal
plan_for d request = plan_by d (request_of request)

abbrev pub by_plan : PlainDesk → List ℕ → Result PlainPlan Refusal → Step
by_plan d name (Err refusal) = stay d (Refused refusal)
by_plan d name (Ok p) = record { reply = Opened; next = with_jobs d (d.jobs ++ new_job name p ∷ []) }

unfoldable pub open_step : PlainDesk → (name request : List ℕ) → Step
open_step d name request =
    if has_job d.jobs name then stay d TakenName
    else if nat_le 64 (length d.jobs) then stay d AllOpen
    else by_plan d name (plan_for d request)

-- ---- turn

-- the reply to a turn of the job that was found
abbrev pub reply_in : ℕ → Option Job → Reply
reply_in n None = NoJob
reply_in n (Some j) = turn_reply j.state n

-- the jobs behind it
abbrev pub jobs_in : List Job → List ℕ → ℕ → Option Job → List Job
jobs_in jobs name n None = jobs
jobs_in jobs name n (Some j) = put_job name (turned j n) jobs

unfoldable pub turn_step : PlainDesk → List ℕ → ℕ → Step
turn_step d name n = record { reply = reply_in n (job_at d.jobs name); next = with_jobs d (jobs_in d.jobs name n (job_at d.jobs name)) }

-- ---- commit

-- the payment that a turn came to, if it came to one
abbrev pub funded_of : Option Outcome → Option PlainFunded
funded_of None = None
funded_of (Some answers.Unfinished) = None
funded_of (Some answers.NoSelection) = None
funded_of (Some (answers.Funded f)) = Some f

-- the unsigned transaction of a payment of a job
abbrev pub payment_at : Chain → Job → PlainFunded → Transaction
payment_at k j f = payment_of j.state.plan.request k.wallet.change f

-- and its PSBT
abbrev pub psbt_at : Chain → Job → PlainFunded → PartialTransaction
psbt_at k j f = psbt_of k.book j.state.plan.request k.wallet.change f

-- the payment as it is remembered
abbrev pub committed_of : Chain → Job → PlainFunded → Payment
committed_of k j f = record { txid = txid_of (payment_at k j f); coins = points f.coins }

-- the desk behind a commit
abbrev pub with_payment : PlainDesk → List ℕ → Job → PlainFunded → PlainDesk
with_payment d name j f = record { held = d.held; committed = d.committed ++ committed_of d.held j f ∷ []; jobs = without_job name d.jobs }

abbrev pub by_taken : PlainDesk → List ℕ → Job → PlainFunded → Option Candidate → Step
by_taken d name j f (Some c) = stay d (Taken c.coin)
by_taken d name j f None = record { reply = Committed (txid_of (payment_at d.held j f)) (written j.state.plan.request.psbt (psbt_at d.held j f)); next = with_payment d name j f }

-- the first coin of a payment of a job that can't be spent
abbrev pub taken_at : PlainDesk → Job → PlainFunded → Option Candidate
taken_at d j f = first_taken d.committed (candidates_in d.held) j.state.plan.request f.row f.coins

abbrev pub by_funded : PlainDesk → List ℕ → Job → Option PlainFunded → Step
by_funded d name j None = stay d NotFunded
by_funded d name j (Some f) = by_taken d name j f (taken_at d j f)

abbrev pub commit_by : PlainDesk → List ℕ → Option Job → Step
commit_by d name None = stay d NoJob
commit_by d name (Some j) = by_funded d name j (funded_of j.answer)

unfoldable pub commit_step : PlainDesk → List ℕ → Step
commit_step d name = commit_by d name (job_at d.jobs name)

-- ---- close, release

unfoldable pub close_step : PlainDesk → List ℕ → Step
close_step d name = if has_job d.jobs name then record { reply = Closed; next = with_jobs d (without_job name d.jobs) } else stay d NoJob

abbrev pub has_txid : List ℕ → Payment → Bool
has_txid txid p = bytes_eq txid p.txid

-- the payments of other txids
abbrev pub without_payment : List ℕ → List Payment → List Payment
without_payment txid committed = filter (λ (p : Payment). not (has_txid txid p)) committed

unfoldable pub release_step : PlainDesk → List ℕ → Step
release_step d txid =
    if list_any (has_txid txid) d.committed then record { reply = Released; next = with_committed d (without_payment txid d.committed) } else stay d NotCommitted

-- ---- blocks

-- a reply, and the chain behind it
pub record Grown : Type 0 where
  pub reply : Reply
  pub held : Chain

abbrev pub refused_at : Chain → Refusal → Grown
refused_at k refusal = record { reply = Refused refusal; held = k }

-- the desk with that chain
abbrev pub grown : PlainDesk → Grown → Step
grown d g = record { reply = g.reply; next = record { held = g.held; committed = d.committed; jobs = d.jobs } }

-- a chain with one block more
abbrev pub with_block : Chain → ChainBlock → Chain
with_block k b = record { wallet = k.wallet; book = histories.with_block k.book b; tip = record { height = b.height; hash = b.hash } }

-- where no block is left
abbrev pub blocks_end : Chain → Option FeedFault → Grown
blocks_end k (Some fault) = refused_at k (BadBlocks fault)
blocks_end k None = record { reply = Tip k.tip.height k.tip.hash; held = k }

-- a block that no book holds is refused, and otherwise the next ones are added
abbrev pub by_book : Chain → Option BookFault → Grown → Grown
by_book k (Some fault) next = refused_at k (BadBook fault)
by_book k None next = next

-- the blocks are added one by one, and behind them stands what ends them
unfoldable pub add_blocks : Chain → List ChainBlock → Option FeedFault → Grown
add_blocks k [] fault = blocks_end k fault
add_blocks k (b ∷ blocks) fault = by_book k (fault_of (histories.with_block k.book b)) (add_blocks (with_block k b) blocks fault)

-- these blocks, and what ends them
abbrev pub add_records : Chain → Records → Grown
add_records k r = add_blocks k r.blocks r.fault

-- the blocks of these bytes, behind the tip
abbrev pub records_at : Chain → List ℕ → Records
records_at k bytes = records_of bytes k.tip.hash k.tip.height

abbrev pub blocks_step : PlainDesk → List ℕ → Step
blocks_step d bytes = grown d (add_records d.held (records_at d.held bytes))

-- ---- pending

-- a wallet with one transaction more that waits
abbrev pub waiting : PlainWallet → Transaction → PlainWallet
waiting w t = record {
  height = w.height;
  hash = w.hash;
  scripts = w.scripts;
  change = w.change;
  earlier = w.earlier;
  pending = w.pending ++ t ∷ [];
  abandoned = w.abandoned;
  locked = w.locked;
}

-- and its chain
abbrev pub with_pending : Chain → Transaction → Chain
with_pending k t = record { wallet = waiting k.wallet t; book = histories.with_pending k.book t; tip = k.tip }

-- a transaction that waits has this txid
abbrev pub is_repeat : List Transaction → List ℕ → Bool
is_repeat pending txid = list_any (λ (t : Transaction). bytes_eq (txid_of t) txid) pending

-- the transaction spends an output of the one of this txid
abbrev pub spends_txid : List ℕ → Transaction → Bool
spends_txid txid t = list_any (λ (i : TxIn). bytes_eq i.prev.txid txid) t.inputs

-- it or a transaction that waits spends an output of it
abbrev pub is_later : List Transaction → Transaction → Bool
is_later pending t = list_any (spends_txid (txid_of t)) pending || spends_txid (txid_of t) t

abbrev pub pending_by_book : Chain → Transaction → Option BookFault → Grown
pending_by_book k t (Some fault) = refused_at k (BadBook fault)
pending_by_book k t None = record { reply = Seen (txid_of t); held = with_pending k t }

abbrev pub pending_by_tx : Chain → Result Transaction TxFault → Grown
pending_by_tx k (Err fault) = refused_at k (BadTx fault)
pending_by_tx k (Ok t) =
    if is_repeat k.wallet.pending (txid_of t) then refused_at k Repeats
    else if is_later k.wallet.pending t then refused_at k ComesLater
    else pending_by_book k t (fault_of (histories.with_pending k.book t))

-- the transaction that bytes are, all of them
abbrev pub whole_tx : List ℕ → Result Transaction TxFault
whole_tx bytes = whole_of Trailing (tx_at (record { rest = bytes; place = 0 }))

abbrev pub pending_by_hex : Chain → Result (List ℕ) FromHexError → Grown
pending_by_hex k (Err error) = refused_at k BadHex
pending_by_hex k (Ok bytes) = pending_by_tx k (whole_tx bytes)

-- the transaction of these hex digits, beside those that wait
unfoldable pub add_pending : Chain → List ℕ → Grown
add_pending k hex = pending_by_hex k (decode_of hex)

abbrev pub pending_step : PlainDesk → List ℕ → Step
pending_step d hex = grown d (add_pending d.held hex)

-- ---- all

-- the reply to a command, and the desk behind it
abbrev pub step_of : PlainDesk → Command → Step
step_of d (Open name request) = open_step d name request
step_of d (Turn name tries) = turn_step d name tries
step_of d (Commit name) = commit_step d name
step_of d (Close name) = close_step d name
step_of d (Release txid) = release_step d txid
step_of d (Blocks bytes) = blocks_step d bytes
step_of d (Pending hex) = pending_step d hex
