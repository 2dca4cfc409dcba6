-- What the files hold, up to the signed transaction, and why they are refused.
use Rattle.std.specs.Prelude.{ℕ, ◌≡◌, ◌<◌, ◌≤◌, ◌-◌, ◌==◌, List, length, slice_index, take, nat_lt, if◌then◌else◌, Result, Ok, Err}
use Rattle.fund_base.specs.Parsing.{whole_of}
use Rattle.fund_files.specs.Cause.{BadWallet, FileCause, TooLong}
use Rattle.fund_files.specs.Contents.{HasRequest, HasWallet}
use Rattle.fund_files.specs.Outcome.{asked_of}
use Rattle.fund_files.specs.declared.refusal.File.TheVariants as inputs
use Rattle.fund_shelf.specs.Causes.{Rose, ShelfView}
use Rattle.hex.specs.Hex.{decode_of}
use Rattle.hex.specs.declared.error.FromHexError.{FromHexError}
use Rattle.request_text.specs.PlainRequest.{PlainRequest}
use Rattle.settle_check.specs.declared.fault.SettleFault.{SettleFault}
use Rattle.tx_codec.specs.Reading.{tx_at}
use Rattle.tx_codec.specs.Transaction.{Transaction}
use Rattle.tx_codec.specs.declared.fault.TxFault.{TxFault}
use Rattle.tx_codec.specs.declared.fault.TxFault.TheVariants.{Trailing}
use Rattle.wallet_text.specs.PlainWallet.{PlainWallet}
use Rattle.wallet_text.specs.WalletText.{wallet_of}
use Rattle.wallet_text.specs.declared.fault.Refusal as wallets
use Rattle.command_settle.specs.Names.{Names, name_of}
use Rattle.command_settle.specs.declared.stop.SettleFile.{SettleFile}
use Rattle.command_settle.specs.declared.stop.SettleFile.TheVariants.{Wallet, Request, Report, Tx}

-- ---- why they are refused

-- the causes of the same names as the refusals
pub data Cause : Type 0 where
  File : FileCause → Cause
  LongReport : Cause
  LongTx : Cause
  NotHex : Cause
  NotTx : TxFault → Cause
  Unsettled : SettleFault → Cause

-- ---- lengths

-- a report has at most 67,108,864 bytes
abbrev pub FitsReport : List ℕ → Type 0
FitsReport file = length file ≤ 67108864

abbrev pub IsLongReport : List ℕ → Type 0
IsLongReport file = 67108864 < length file

-- the file of a transaction has at most 1,048,576
abbrev pub FitsTx : List ℕ → Type 0
FitsTx file = length file ≤ 1048576

abbrev pub IsLongTx : List ℕ → Type 0
IsLongTx file = 1048576 < length file

-- the bytes are those of a file that isn't too long
pub record IsReport (file bytes : List ℕ) : Type 0 where
  pub fits : FitsReport file
  pub is : bytes ≡ file

pub record IsTx (file bytes : List ℕ) : Type 0 where
  pub fits : FitsTx file
  pub is : bytes ≡ file

-- ---- the order of the files

-- a read of this file failed
abbrev pub IsUnread : Names → SettleFile → ShelfView → ShelfView → Type 0
IsUnread n file old new = Rose (old.reads (name_of n file)) (new.reads (name_of n file))

-- the files hold a wallet and a request
abbrev pub HaveInputs : (List ℕ → List ℕ) → Names → Type 0
HaveInputs files n = ((w : PlainWallet) × HasWallet (files n.wallet) w) × ((r : PlainRequest) × HasRequest (files n.request) r)

-- The files before this one are in order, so that it is read.
abbrev pub IsReached : (List ℕ → List ℕ) → Names → SettleFile → Type 0
IsReached files n Wallet = Unit {0}
IsReached files n Request = (w : PlainWallet) × HasWallet (files n.wallet) w
IsReached files n Report = HaveInputs files n
IsReached files n Tx = HaveInputs files n × FitsReport (files n.report)

-- the files hold this wallet and this request, and these bytes of a report and of a transaction
pub record AreFiles (files : List ℕ → List ℕ) (n : Names) (w : PlainWallet) (r : PlainRequest) (found given : List ℕ) : Type 0 where
  pub wallet : HasWallet (files n.wallet) w
  pub request : HasRequest (files n.request) r
  pub report : IsReport (files n.report) found
  pub tx : IsTx (files n.tx) given

-- ---- the signed transaction

-- the bytes of a file without the line feed at their end, where one stands there
abbrev pub line_of : List ℕ → List ℕ
line_of file = if slice_index file (length file - 1) == 10 then take (length file - 1) file else file

-- by the transaction that was read
abbrev pub by_form : Result Transaction TxFault → Result Transaction Cause
by_form (Err fault) = Err (NotTx fault)
by_form (Ok t) = Ok t

-- by the bytes that the hex spells
abbrev pub by_hex : Result (List ℕ) FromHexError → Result Transaction Cause
by_hex (Err e) = Err NotHex
by_hex (Ok bytes) = by_form (whole_of Trailing (tx_at (record { rest = bytes; place = 0 })))

-- The transaction that a file holds in hex, with or without a line feed at the end (BIP 144); or its first fault.
unfoldable pub signed_of : List ℕ → Result Transaction Cause
signed_of file = by_hex (decode_of (line_of file))

-- ---- all of it

-- a wallet, a request and a signed transaction
pub record Judged : Type 0 where
  pub wallet : PlainWallet
  pub request : PlainRequest
  pub signed : Transaction

abbrev pub judged_with : PlainWallet → PlainRequest → Transaction → Judged
judged_with w r t = record { wallet = w; request = r; signed = t }

-- by the transaction
abbrev pub by_signed : PlainWallet → PlainRequest → Result Transaction Cause → Result Judged Cause
by_signed w r (Err cause) = Err cause
by_signed w r (Ok t) = Ok (judged_with w r t)

-- by the lengths of the report and of the transaction
abbrev pub by_lengths : PlainWallet → PlainRequest → (report tx : List ℕ) → Result Judged Cause
by_lengths w r report tx = if nat_lt 67108864 (length report) then Err LongReport else if nat_lt 1048576 (length tx) then Err LongTx else by_signed w r (signed_of tx)

-- by the request that was read
abbrev pub by_request : PlainWallet → Result PlainRequest FileCause → (report tx : List ℕ) → Result Judged Cause
by_request w (Err cause) report tx = Err (File cause)
by_request w (Ok r) report tx = by_lengths w r report tx

-- by the wallet that was read
abbrev pub by_wallet : Result PlainWallet wallets.Refusal → (request report tx : List ℕ) → Result Judged Cause
by_wallet (Err fault) request report tx = Err (File (BadWallet fault))
by_wallet (Ok w) request report tx = by_request w (asked_of request) report tx

-- The files are taken one by one: the wallet and the request, each for its length and then for its form; the lengths of the
-- report and of the transaction; and then the transaction. The contents of the report are judged behind all of these.
unfoldable pub judged_of : (List ℕ → List ℕ) → Names → Result Judged Cause
judged_of files n =
    if nat_lt 16777216 (length (files n.wallet)) then Err (File (TooLong inputs.Wallet)) else by_wallet (wallet_of (files n.wallet)) (files n.request) (files n.report) (files n.tx)
