-- Why a file is refused, without where its words lie in memory.
use Rattle.fund_base.specs.declared.outpoint.OutPoint.{OutPoint}
use Rattle.block_feed.specs.declared.fault.FeedFault.{FeedFault}
use Rattle.request_text.specs.Reported.{plain_fault}
use Rattle.request_text.specs.declared.fault.Refusal as requests
use Rattle.wallet_text.specs.Reported.{refusal_of}
use Rattle.wallet_text.specs.declared.fault.Refusal as wallets
use Rattle.fund_files.specs.declared.refusal.File.{File}
use Rattle.fund_files.specs.declared.refusal.FileRefusal.{FileRefusal}
use Rattle.fund_files.specs.declared.refusal.FileRefusal.TheVariants as refusals

-- the causes of the same names as the refusals
pub data FileCause : Type 0 where
  TooLong : File → FileCause
  BadWallet : wallets.Refusal → FileCause
  BadBlocks : FeedFault → FileCause
  RepeatCoin : OutPoint → FileCause
  ManyCoins : FileCause
  BadRequest : requests.Refusal → FileCause

-- the cause of a refusal
abbrev pub cause_of : FileRefusal → FileCause
cause_of (refusals.TooLong file) = TooLong file
cause_of (refusals.BadWallet fault) = BadWallet (refusal_of fault)
cause_of (refusals.BadBlocks fault) = BadBlocks fault
cause_of (refusals.RepeatCoin coin) = RepeatCoin coin
cause_of refusals.ManyCoins = ManyCoins
cause_of (refusals.BadRequest fault) = BadRequest (plain_fault fault)
