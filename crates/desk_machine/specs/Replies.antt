-- What a desk replies.
use Rattle.std.specs.Prelude.{ℕ, ◌≢◌, List}
use Rattle.block_feed.specs.declared.fault.FeedFault.{FeedFault}
use Rattle.block_feed.specs.declared.fault.FeedFault.TheVariants as feeds
use Rattle.closing_log.specs.declared.mark.Mark.{Mark}
use Rattle.coin_book.specs.declared.fault.BookFault.{BookFault}
use Rattle.fund_base.specs.declared.outpoint.OutPoint.{OutPoint}
use Rattle.fund_steps.specs.declared.fault.PlanFault.{PlanFault}
use Rattle.request_text.specs.Reported.{plain_fault}
use Rattle.request_text.specs.declared.fault.Refusal as requests
use Rattle.tx_codec.specs.declared.fault.TxFault.{TxFault}
use Rattle.desk_machine.specs.declared.reply.Refusal as refused
use Rattle.desk_machine.specs.declared.reply.Refusal.TheVariants as refusals
use Rattle.desk_machine.specs.declared.reply.Reply as given
use Rattle.desk_machine.specs.declared.reply.Reply.TheVariants as givens

-- why a request, blocks or a pending transaction are refused
pub data Refusal : Type 0 where
  BadRequest : requests.Refusal → Refusal
  HasBump : Refusal
  BadPlan : PlanFault → Refusal
  BadBlocks : FeedFault → Refusal
  BadBook : BookFault → Refusal
  BadHex : Refusal
  BadTx : TxFault → Refusal
  Repeats : Refusal
  ComesLater : Refusal

-- the replies, without where their texts lie in memory
pub data Reply : Type 0 where
  TakenName : Reply
  AllOpen : Reply
  Refused : Refusal → Reply
  Opened : Reply
  NoJob : Reply
  Spent : Reply
  Unfinished : (tries : ℕ) → Reply
  NoSelection : (tries : ℕ) → Reply
  Funded : Mark → (tries : ℕ) → Reply
  NotFunded : Reply
  Taken : OutPoint → Reply
  Committed : (txid psbt : List ℕ) → Reply
  Closed : Reply
  NotCommitted : Reply
  Released : Reply
  Tip : (height : ℕ) → (hash : List ℕ) → Reply
  Seen : (txid : List ℕ) → Reply
  NoMemory : Reply

abbrev pub plain_refusal : refused.Refusal → Refusal
plain_refusal (refusals.Request fault) = BadRequest (plain_fault fault)
plain_refusal refusals.Bump = HasBump
plain_refusal (refusals.Plan fault) = BadPlan fault
plain_refusal (refusals.Feed fault) = BadBlocks fault
plain_refusal (refusals.Book fault) = BadBook fault
plain_refusal refusals.Kind = BadHex
plain_refusal (refusals.Tx fault) = BadTx fault
plain_refusal refusals.Repeat = Repeats
plain_refusal refusals.ParentLater = ComesLater

abbrev pub plain_reply : given.Reply → Reply
plain_reply givens.TakenName = TakenName
plain_reply givens.Full = AllOpen
plain_reply (givens.Refused refusal) = Refused (plain_refusal refusal)
plain_reply givens.Opened = Opened
plain_reply givens.NoJob = NoJob
plain_reply givens.Spent = Spent
plain_reply (givens.Unfinished tries) = Unfinished tries
plain_reply (givens.NoSelection tries) = NoSelection tries
plain_reply (givens.Funded mark tries) = Funded mark tries
plain_reply givens.NotFunded = NotFunded
plain_reply (givens.Taken coin) = Taken coin
plain_reply (givens.Committed txid psbt) = Committed txid psbt.items
plain_reply givens.Closed = Closed
plain_reply givens.NotCommitted = NotCommitted
plain_reply givens.Released = Released
plain_reply (givens.Tip height hash) = Tip height hash
plain_reply (givens.Seen txid) = Seen txid
plain_reply givens.Memory = NoMemory

-- the fault of blocks is one of their bytes: not that they weren't read, are too many, or that memory ran out
abbrev pub IsOfBytes : Reply → Type 0
IsOfBytes (Refused (BadBlocks fault)) = (fault ≢ feeds.Read) × (fault ≢ feeds.Limit) × (fault ≢ feeds.Memory)
IsOfBytes reply = Unit {0}
