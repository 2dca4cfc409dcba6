-- The sentence of each fault: what it may be, and what to do. docs/TROUBLES.md has them word for word.
use Rattle.std.specs.Prelude.{ℕ, List, Option, Some, None, bytes_eq, codes, string_bytes, if◌then◌else◌}
use Rattle.tx_codec.specs.declared.fault.TxFault.{TxFault}
use Rattle.tx_codec.specs.declared.fault.TxFault.TheVariants as txs
use Rattle.block_feed.specs.declared.fault.FeedFault.{FeedFault}
use Rattle.block_feed.specs.declared.fault.FeedFault.TheVariants as feeds
use Rattle.segwit_addr.specs.declared.fault.AddrFault.{AddrFault}
use Rattle.segwit_addr.specs.declared.fault.AddrFault.TheVariants as addresses
use Rattle.wallet_text.specs.declared.fault.WalletFault.{WalletFault}
use Rattle.wallet_text.specs.declared.fault.WalletFault.TheVariants as wallets
use Rattle.json_fields.specs.declared.fault.FieldFault.{FieldFault}
use Rattle.json_fields.specs.declared.fault.FieldFault.TheVariants as fields
use Rattle.keys_text.specs.declared.fault.KeysFault.{KeysFault}
use Rattle.keys_text.specs.declared.fault.KeysFault.TheVariants as keys
use Rattle.request_text.specs.declared.fault.RequestFault.{RequestFault}
use Rattle.request_text.specs.declared.fault.RequestFault.TheVariants as requests
use Rattle.fee_bump.specs.declared.fault.BumpFault.{BumpFault}
use Rattle.fee_bump.specs.declared.fault.BumpFault.TheVariants as bumps
use Rattle.payment_states.specs.declared.state.State.{State}
use Rattle.payment_states.specs.declared.state.State.TheVariants as states
use Rattle.fund_steps.specs.declared.fault.PlanFault.{PlanFault}
use Rattle.fund_steps.specs.declared.fault.PlanFault.TheVariants as plans
use Rattle.kept_job.specs.declared.fault.KeptFault.{KeptFault}
use Rattle.kept_job.specs.declared.fault.KeptFault.TheVariants as jobs
use Rattle.report_check.specs.declared.fault.CheckFault.{CheckFault}
use Rattle.report_check.specs.declared.fault.CheckFault.TheVariants as checks
use Rattle.psbt_codec.specs.declared.fault.PsbtFault.{PsbtFault}
use Rattle.psbt_codec.specs.declared.fault.PsbtFault.TheVariants as psbts
use Rattle.fault_lines.specs.declared.stop.Stop.{Stop}
use Rattle.settle_check.specs.declared.fault.Differing.{Differing}
use Rattle.settle_check.specs.declared.fault.Differing.TheVariants as parts
use Rattle.settle_check.specs.declared.fault.SettleFault.{SettleFault}
use Rattle.settle_check.specs.declared.fault.SettleFault.TheVariants as settles
use Rattle.fault_lines.specs.declared.stop.Stop.TheVariants as stops
use Rattle.fault_lines.specs.declared.unsuited.Unsuited.{Unsuited}
use Rattle.fault_lines.specs.declared.unsuited.Unsuited.TheVariants as unsuited

-- what stops a command besides the faults of a file or of a plan
unfoldable pub stop_sentence : Stop → List ℕ
stop_sentence stops.Usage = codes "These words are no command: the help shows the commands with examples."
stop_sentence stops.Read = codes "The file of this name was not read: it is missing, a folder, a pipe or closed to you; check the name, or write its bytes to a file."
stop_sentence stops.Write = codes "LOG was not written: its folder is missing or closed to you, or the disk is full; name a LOG in a folder of yours."
stop_sentence stops.Keep = codes "The file of jobs was not read or written: another command holds it, it is something else, or the disk is full; run it again."
stop_sentence stops.Memory = codes "The machine has too little memory: try again with less beside it."
stop_sentence stops.WalletLimit = codes "The wallet file is above 16 MiB: leave out earlier transactions whose outputs are spent."
stop_sentence stops.BlocksLimit = codes "The block file is above 1 GiB, or above 64 MiB in a script: give the last blocks alone, raise height and hash, and put older transactions into earlier."
stop_sentence stops.RequestLimit = codes "The request file is above 1 MiB: pay fewer recipients at once."
stop_sentence stops.CoinsLimit = codes "There are more than 100,000 coins, spent ones among them: leave out earlier transactions whose outputs are spent."
stop_sentence stops.ReportLimit = codes "The report is above 64 MiB: give the report that was printed."
stop_sentence stops.LogLimit = codes "The log is above 64 MiB: give LOG as it was written, or where a job is gone on with, begin anew under another name."
stop_sentence stops.ScriptLimit = codes "The script of the desk is above 16 MiB: cut it into several."
stop_sentence stops.KeysLimit = codes "The keys file is above 16 MiB: leave out scripts that have no coins."
stop_sentence stops.PsbtLimit = codes "The PSBT file is above 64 MiB: give the PSBT that was printed."
stop_sentence stops.TxLimit = codes "The file of the signed transaction is above 1 MiB: give the hex of one transaction, and nothing else."
stop_sentence stops.NotHex = codes "The file of the signed transaction is no hex, or a blank or quotes stand in it: give the hex alone, as finalizepsbt tells it."
stop_sentence stops.RepeatCoin = codes "A transaction stands in earlier and in a block too: leave it out of earlier."

-- a fault of a transaction
unfoldable pub tx_sentence : TxFault → List ℕ
tx_sentence (txs.Truncated place) = codes "A transaction was cut off in copying, or a txid stands in its place: copy its whole hex again, as gettransaction tells it."
tx_sentence (txs.LongCompact place) = codes "A transaction has a number in a spelling that is too long: it was changed, so copy it again."
tx_sentence (txs.ValueRange output) = codes "The outputs of a transaction are worth more than all bitcoin: it was changed or made up, so copy it again."
tx_sentence txs.NoInputs = codes "A transaction has no input: it was changed or is not finished, so copy the one that is in the chain or was sent."
tx_sentence txs.NoOutputs = codes "A transaction has no output: it was changed or is not finished, so copy the one that is in the chain or was sent."
tx_sentence txs.BadFlag = codes "A transaction has a marker of witnesses without its flag: it was changed, so copy it again."
tx_sentence txs.EmptyWitness = codes "A transaction announces witnesses and has none: it was changed or is not signed, so copy it again."
tx_sentence (txs.Trailing place) = codes "Bytes stand behind a transaction: leave off what is behind it."
tx_sentence txs.Memory = stop_sentence stops.Memory

-- a fault of a block file
unfoldable pub blocks_sentence : FeedFault → List ℕ
blocks_sentence (feeds.Magic place) = codes "The block file has no record of a main network block at this place: it must hold whole records, each with magic f9beb4d9 and length before it."
blocks_sentence (feeds.Length place) = codes "The block file was cut off at this place, or a length in it is wrong: copy it again."
blocks_sentence (feeds.Tx height fault) = codes "A transaction of the block at this height can not be read: the block file was changed, so copy the block again."
blocks_sentence (feeds.Merkle height) = codes "The transactions of the block at this height are not those that its header names: copy the block again."
blocks_sentence (feeds.Mutated height) = codes "The block at this height has transactions twice and is no block of the chain: copy the block again."
blocks_sentence (feeds.NotLinked kept found) = codes "A block does not follow the one before it: blocks are missing, twice or out of order, or hash is not that of the last block before the file."
blocks_sentence (feeds.Trailing height) = codes "Bytes stand behind the last transaction of the block at this height: copy the block again."
blocks_sentence (feeds.Empty height) = codes "The block at this height has no transaction: copy the block again."
blocks_sentence feeds.Read = stop_sentence stops.Read
blocks_sentence feeds.Limit = stop_sentence stops.BlocksLimit
blocks_sentence feeds.Memory = stop_sentence stops.Memory

-- a fault of an address
unfoldable pub address_sentence : AddrFault → List ℕ
address_sentence addresses.Case = codes "This is a base58 address, or letters of both cases are mixed: give the script that getaddressinfo tells, or spell the address in one case."
address_sentence addresses.Separator = codes "This is no address of a witness program: ask for one that begins with bc1."
address_sentence addresses.Letter = codes "A letter that no address has stands there, as a blank before or after it: take it off."
address_sentence addresses.Checksum = codes "A letter of the address is mistyped, or bitcoin: stands before it: copy it again, without bitcoin: and what follows a question mark."
address_sentence addresses.Network = codes "This is an address of another network, as tb1 and bcrt1 are of test networks, ltc1 of Litecoin and ex1 of Liquid: ask for one that begins with bc1."
address_sentence addresses.Version = codes "The address has a version or a checksum that does not belong to it: ask for another."
address_sentence addresses.Length = codes "The address is too short or too long, as a Lightning invoice is: ask for an address of the main network."
address_sentence addresses.Padding = codes "The address has bits left over: it was not made by a wallet, so ask for another."
address_sentence addresses.Memory = stop_sentence stops.Memory

-- the value of this name isn't what has to stand there
unfoldable pub wallet_kind_sentence : List ℕ → List ℕ
wallet_kind_sentence name =
    if bytes_eq name (codes "root") then codes "The wallet file is JSON and no object: it has to begin with a brace and name its members." else
    if bytes_eq name (codes "script") then codes "A script of the wallet file is no hex, or an address stands in its place: give the scriptPubKey that getaddressinfo tells." else
    if bytes_eq name (codes "tx") then codes "A transaction of the wallet file is no hex or has an odd number of digits: copy it again." else
    if bytes_eq name (codes "height") then codes "A height of the wallet file is no whole number, or one of earlier is above the wallet: give that block as a block, or raise height and hash together." else
    if bytes_eq name (codes "hash") then codes "The hash of the wallet file is not 64 hex digits: give that of the block at height, as getblockhash tells it." else
    if bytes_eq name (codes "weight") then codes "A weight of the wallet file is no whole number: give weight units from 165 to 400,000, without quotes." else
    if bytes_eq name (codes "scripts") then codes "The scripts of the wallet file are no list of entries with script and weight, or an entry is none: write each in braces." else
    if bytes_eq name (codes "change") then codes "The change of the wallet file is no entry with script and weight: write both in braces, as one of scripts." else
    if bytes_eq name (codes "earlier") then codes "The earlier transactions of the wallet file are no list of entries with tx and height, or an entry is none: write each in braces." else
    if bytes_eq name (codes "pending") then codes "The pending list of the wallet file is no list of transactions in hex, or one was cut off: write the hex of each alone, in quotes." else
    if bytes_eq name (codes "abandoned") then codes "The abandoned payments of the wallet file are no list of txids: write 64 hex digits for each, in quotes." else
    if bytes_eq name (codes "locked") then codes "The locked coins of the wallet file are no list of TXID:INDEX: copy each from what coins prints, in quotes." else
    codes "The member of this name in the wallet file is not what has to stand there: see the table of the wallet file."

-- a member of a name that isn't known
unfoldable pub wallet_member_sentence : List ℕ
wallet_member_sentence = codes "The wallet file has a member of a name that is not known: take it out, or spell it as the table of the wallet file does."

-- a member that has to be there isn't
unfoldable pub wallet_missing_sentence : List ℕ
wallet_missing_sentence = codes "The wallet file lacks the member of this name: give it."

-- a transaction stands before it in its list
unfoldable pub wallet_repeat_sentence : List ℕ
wallet_repeat_sentence = codes "The transaction at this index stands before it in the same list: take it out."

-- a fault of a wallet file
unfoldable pub wallet_sentence : WalletFault → List ℕ
wallet_sentence wallets.NotJson = codes "The wallet file is no JSON text: python3 -m json.tool FILE names the line; save it as UTF-8 without a byte order mark."
wallet_sentence (wallets.Kind name) = wallet_kind_sentence name
wallet_sentence (wallets.Member name) = wallet_member_sentence
wallet_sentence (wallets.Missing name) = wallet_missing_sentence
wallet_sentence (wallets.Script index) = codes "The script at this index stands there twice, is empty, or is longer than 10,000 bytes: take it out; one past the last script means change."
wallet_sentence (wallets.Weight index) = codes "The weight at this index is out of 165 to 400,000: give weight units and not virtual bytes; one past the last script means change."
wallet_sentence (wallets.Tx list index fault) = tx_sentence fault
wallet_sentence (wallets.Repeat list index) = wallet_repeat_sentence
wallet_sentence (wallets.ParentLater index) = codes "In pending a child stands before its parent: put the parent first."
wallet_sentence wallets.Memory = stop_sentence stops.Memory

-- the value of a name isn't what has to stand there, in a keys file
unfoldable pub keys_kind_sentence : List ℕ
keys_kind_sentence = codes "The member of this name in the keys file is not what has to stand there: see the table of the keys file; an xpub stands in hex."

-- a member of a name that isn't known, there
unfoldable pub keys_member_sentence : List ℕ
keys_member_sentence = codes "The keys file has a member of a name that is not known: take it out, or spell it as the table of the keys file does."

-- a member that has to be there and isn't
unfoldable pub keys_missing_sentence : List ℕ
keys_missing_sentence = codes "The keys file lacks the member of this name: give it."

-- a fault of the form of a keys file
unfoldable pub keys_form_sentence : FieldFault → List ℕ
keys_form_sentence fields.NotJson = codes "The keys file is no JSON text: python3 -m json.tool FILE names the line; save it as UTF-8 without a byte order mark."
keys_form_sentence (fields.Kind name) = keys_kind_sentence
keys_form_sentence (fields.Member name) = keys_member_sentence
keys_form_sentence (fields.Missing name) = keys_missing_sentence
keys_form_sentence fields.Memory = stop_sentence stops.Memory

-- a fault of a keys file
unfoldable pub keys_sentence : KeysFault → List ℕ
keys_sentence (keys.Field fault) = keys_form_sentence fault
keys_sentence (keys.Script index) = codes "The script at this index of scripts stands there twice, is empty, or is longer than 10,000 bytes: take it out."
keys_sentence (keys.Redeem index) = codes "The entry at this index has a redeem script, and its script pays to no script hash: take the redeem script out, or copy the script again."
keys_sentence (keys.Witness index) = codes "The witness script at this index is not the one whose hash stands in the redeem script, or else in the script: copy all of them again."
keys_sentence (keys.Internal index) = codes "The entry at this index has an internal key and pays to no taproot output, or the other way round: give the key for taproot alone."
keys_sentence (keys.Key index key) = codes "The key at the second index is no compressed public key, or for taproot not the internal key: copy it again."
keys_sentence (keys.RepeatKey index key) = codes "The key at the second index stands before it in its entry: take it out."
keys_sentence (keys.Xpub index) = codes "The key at this index of xpubs is no extended public key, or its path has not as many steps as its depth says: copy both again."
keys_sentence (keys.RepeatXpub index) = codes "The key at this index of xpubs stands before it in the list: take it out."

-- the value of this name isn't what has to stand there: of the members behind `seed` in the table, and of the other rates
unfoldable pub other_request_kind_sentence : List ℕ → List ℕ
other_request_kind_sentence name =
    if bytes_eq name (codes "long_term") then codes "The rate is no whole number of satoshi per 1,000 virtual bytes: multiply satoshi per virtual byte by 1,000." else
    if bytes_eq name (codes "discard") then codes "The rate is no whole number of satoshi per 1,000 virtual bytes: multiply satoshi per virtual byte by 1,000." else
    if bytes_eq name (codes "change_target") then codes "The change that is aimed at is no whole number of satoshi: write it without a point and without quotes." else
    if bytes_eq name (codes "tries") then codes "The tries are no whole number: write one from 1 to 10,000,000, without quotes." else
    if bytes_eq name (codes "when_unfinished") then codes "What is done when tries are used up is neither take nor stop: write one of these." else
    if bytes_eq name (codes "zero_conf") then codes "The member of this name in the request file is neither true nor false: write one of these, without quotes." else
    if bytes_eq name (codes "include_unsafe") then codes "The member of this name in the request file is neither true nor false: write one of these, without quotes." else
    if bytes_eq name (codes "group") then codes "The member of this name in the request file is neither true nor false: write one of these, without quotes." else
    if bytes_eq name (codes "replaceable") then codes "The member of this name in the request file is neither true nor false: write one of these, without quotes." else
    if bytes_eq name (codes "bump") then codes "The payment that is to be replaced is not named by its txid: copy its 64 hex digits from what coins prints." else
    if bytes_eq name (codes "locktime") then codes "The lock time is no whole number up to 4,294,967,295: give a height, or from 500,000,000 on the seconds since 1970." else
    if bytes_eq name (codes "psbt") then codes "The version of the PSBT is neither 0 nor 2: write one of these." else
    codes "The member of this name in the request file is not what has to stand there: see the table of the request file."

-- the value of this name isn't what has to stand there
unfoldable pub request_kind_sentence : List ℕ → List ℕ
request_kind_sentence name =
    if bytes_eq name (codes "root") then codes "The request file is JSON and no object: it has to begin with a brace and name its members." else
    if bytes_eq name (codes "recipients") then codes "The recipients are no list, or one of them has both or neither of address and script: write each in braces, with one of these and an amount." else
    if bytes_eq name (codes "address") then codes "An address of the request file is no text: write it in quotes." else
    if bytes_eq name (codes "script") then codes "The script of a recipient is no hex or has an odd number of digits: give the scriptPubKey that getaddressinfo tells." else
    if bytes_eq name (codes "amount") then codes "An amount is no whole number of satoshi: write it without a point and without quotes." else
    if bytes_eq name (codes "rate") then codes "The rate is no whole number of satoshi per 1,000 virtual bytes: multiply satoshi per virtual byte by 1,000." else
    if bytes_eq name (codes "coins") then codes "A coin is not spelled as TXID:INDEX: copy it from what coins prints." else
    if bytes_eq name (codes "method") then codes "The method is not known: auto, changeless, weight, draw and manual are." else
    if bytes_eq name (codes "seed") then codes "The seed is not 64 hex digits: openssl rand -hex 32 prints such." else
    other_request_kind_sentence name

-- a member of this name may not stand there. That of `coins` may, but not beside `bump`
unfoldable pub request_member_sentence : List ℕ → List ℕ
request_member_sentence name =
    if bytes_eq name (codes "coins") then codes "The request lists coins and names a payment to be replaced: leave one of the two out." else
    codes "The request file has a member of a name that is not known: take it out, or spell it as the table of the request file does."

-- a member that has to be there isn't
unfoldable pub request_missing_sentence : List ℕ
request_missing_sentence = codes "The request file lacks the member of this name: give it; the methods auto and draw need a seed of 64 hex digits."

-- a rate is above its range
unfoldable pub rate_range_sentence : List ℕ
rate_range_sentence = codes "The rate of this name is above 100,000 satoshi per virtual byte: give less."

-- a fault of a request file
unfoldable pub request_sentence : RequestFault → List ℕ
request_sentence requests.NotJson = codes "The request file is no JSON text: python3 -m json.tool FILE names the line; save it as UTF-8 without a byte order mark."
request_sentence (requests.Kind name) = request_kind_sentence name
request_sentence (requests.Member name) = request_member_sentence (string_bytes name)
request_sentence (requests.Missing name) = request_missing_sentence
request_sentence (requests.Address index fault) = address_sentence fault
request_sentence (requests.Script index) = codes "The script of the recipient at this index is empty or longer than 10,000 bytes: copy it again."
request_sentence (requests.AmountRange index) = codes "The amount of the recipient at this index is above 21,000,000 bitcoin: give less."
request_sentence (requests.Dust index) = codes "The amount of the recipient at this index is less than nodes relay: pay more; 1 bitcoin is 100000000 satoshi."
request_sentence requests.SumRange = codes "The amounts are together above 21,000,000 bitcoin: pay less."
request_sentence requests.NoRecipients = codes "Nobody is to be paid: name a recipient."
request_sentence (requests.RateRange name) = rate_range_sentence
request_sentence requests.TriesRange = codes "The number of tries is 0 or above 10,000,000: give one between."
request_sentence (requests.Repeat index) = codes "The coin at this index, counted from 0, stands before it too: take it out."
request_sentence requests.Memory = stop_sentence stops.Memory

-- the state of the payment that the request names, where it isn't Pending
unfoldable pub state_sentence : State → List ℕ
state_sentence (states.Confirmed height) = codes "The payment that bump names is confirmed, so nothing can replace it: leave bump out of the request."
state_sentence (states.Conflicted txid) = codes "A confirmed transaction spends a coin of the payment that bump names: it can not confirm any more, so leave bump out and pay anew."
state_sentence states.Abandoned = codes "The payment that bump names was abandoned in the wallet file: leave bump out and pay anew, or take the txid out of abandoned."
state_sentence (states.Replaced txid) = codes "A later payment of pending replaces the one that bump names: name the later one, or take it out of pending if it was never sent."
state_sentence states.Pending = codes "The payment that bump names waits for a block."

-- the payment that the request names is none that waits: there is none of its txid, or one of this state
unfoldable pub not_pending_sentence : Option State → List ℕ
not_pending_sentence None = codes "No transaction of pending has the txid in bump: copy the txid again, or put the payment and its parents into pending."
not_pending_sentence (Some state) = state_sentence state

-- why a payment isn't replaced
unfoldable pub bump_sentence : BumpFault → List ℕ
bump_sentence (bumps.NotPending found) = not_pending_sentence found
bump_sentence bumps.NotSignalling = codes "The payment that bump names does not signal that it may be replaced, nor does an ancestor that waits: nodes may refuse another, so wait for it."
bump_sentence (bumps.ForeignInput coin) = codes "The payment that bump names, or one that spends its outputs, spends a coin that the wallet does not know: add its script or its transaction."
bump_sentence (bumps.TooManyEvicted n) = codes "More than 100 waiting payments would be replaced together: replace one of the later ones, or wait."
bump_sentence bumps.RateBelowIncrement = codes "The rate is below 1 satoshi per virtual byte: nodes relay no replacement at such a rate, so give 1000 or more."
bump_sentence (bumps.RateNotHigher fee vsize) = codes "The rate is not above that of the payment that bump names: multiply its fee by 1000, divide by its size, and give more than that."
bump_sentence bumps.Memory = stop_sentence stops.Memory

-- a fault of a plan
unfoldable pub plan_sentence : PlanFault → List ℕ
plan_sentence (plans.Total sum) = codes "The coins are worth more than all bitcoin: an earlier transaction of the wallet file is made up, so copy these again."
plan_sentence (plans.NotEligible coin) = codes "A listed coin may not be spent: its txid is reversed, or it is spent, locked, too young or not safe; coins lists those that may."
plan_sentence (plans.TooMany number n) = codes "More than 10,000 groups of coins are there: spend the coins of one script together, or lock some."
plan_sentence plans.Memory = stop_sentence stops.Memory

-- why a request that is in order isn't paid by `wide`, `share` or `sweep`, besides the faults of every plan
unfoldable pub unsuited_sentence : Unsuited → List ℕ
unsuited_sentence unsuited.NotWide = codes "The wide search takes a request whose method is changeless, without coins and bump: write it so, or use fund."
unsuited_sentence unsuited.NotShare = codes "Recipients bear the fee of a request whose method is weight, without coins and bump: write it so, or use fund."
unsuited_sentence unsuited.NotSweep = codes "A sweep takes a request of one recipient, without coins and bump: write it so, or use fund."
unsuited_sentence (unsuited.ShareDust index) = codes "The amount of the recipient at this index, less its share of the fee, is less than nodes relay: pay more, or give a lower rate."
unsuited_sentence (unsuited.TooHeavy weight) = codes "A payment of all coins weighs above 400,000 weight units, and nodes do not relay it: lock some coins, and pay these later."

-- a fault of a kept job
unfoldable pub kept_sentence : KeptFault → List ℕ
kept_sentence jobs.NoJob = codes "There is no job of this name: fund with this JOB, and with when_unfinished stop."
kept_sentence (jobs.Form place) = codes "The kept job was changed: begin anew under another name."
kept_sentence (jobs.JobElse kept now) = codes "The job was begun with other files: give the files of the job, byte for byte."
kept_sentence jobs.Spent = codes "The job has made 10,000,000 tries: fund anew with when_unfinished take, or ask for another payment."
kept_sentence (jobs.Part number) = codes "A part of the kept log is missing: the file of jobs was changed, so begin anew under another name."
kept_sentence jobs.LongLog = stop_sentence stops.LogLimit
kept_sentence (jobs.Parts kept now) = codes "The kept parts of the log are not those that were kept: the file of jobs was changed, so begin anew under another name."
kept_sentence (jobs.Section index) = codes "The kept log is not that of this payment: begin anew under another name."
kept_sentence jobs.IllFormed = codes "No search stands where the kept job says: begin anew under another name."
kept_sentence (jobs.Log index fault) = codes "The kept log proves less than it claims: begin anew under another name."
kept_sentence jobs.Failed = stop_sentence stops.Keep
kept_sentence jobs.Memory = stop_sentence stops.Memory

-- a rule that a report breaks
unfoldable pub check_sentence : CheckFault → List ℕ
check_sentence (checks.Report place) = codes "The report leaves its form at this place, or its tries are not those of its log: give both as they were written."
check_sentence (checks.Psbt fault) = codes "The PSBT of the report was cut or changed: copy it again."
check_sentence (checks.Coin coin) = codes "An input spends a coin that may not be spent by these files: they are of another moment, or the report is of another request."
check_sentence checks.Pays = codes "Do not sign it: it pays otherwise than the request asks, or the report is of another request."
check_sentence (checks.LogForm place) = codes "The log leaves its form at this place: give LOG as it was written."
check_sentence (checks.Section index) = codes "The log is of another request, wallet or chain: give the files of the report."
check_sentence (checks.Log index fault) = codes "The log proves nothing of a search: fund the payment anew."
check_sentence checks.Answer = codes "Do not believe the mark of the report: fund the payment anew."
check_sentence checks.Memory = stop_sentence stops.Memory

-- a fault of a signed transaction
unfoldable pub signed_sentence : TxFault → List ℕ
signed_sentence (txs.Truncated place) = codes "The signed transaction was cut off, or a txid or a PSBT stands in its place: give its whole hex, as finalizepsbt tells it."
signed_sentence (txs.LongCompact place) = codes "The signed transaction has a number in a spelling that is too long: it was changed, so copy it again."
signed_sentence (txs.ValueRange output) = codes "The outputs of the signed transaction are worth more than all bitcoin: it was changed, so copy it again."
signed_sentence txs.NoInputs = codes "The signed transaction has no input: it was changed or is no transaction, so copy its whole hex again."
signed_sentence txs.NoOutputs = codes "The signed transaction has no output: it was changed or is no transaction, so copy its whole hex again."
signed_sentence txs.BadFlag = codes "The signed transaction has a marker of witnesses without its flag: it was changed, so copy it again."
signed_sentence txs.EmptyWitness = codes "The transaction announces witnesses and has none: it was changed or is not signed, so give the hex that the signer made."
signed_sentence (txs.Trailing place) = codes "Bytes stand behind the signed transaction: leave off what is behind it."
signed_sentence txs.Memory = stop_sentence stops.Memory

-- in what a signed transaction is another payment
unfoldable pub differing_sentence : Differing → List ℕ
differing_sentence parts.Version = codes "Do not send it: its version is not that of the payment; sign the PSBT of the report, or give the report of this transaction."
differing_sentence parts.Locktime = codes "Do not send it: its lock time is not that of the payment; sign the PSBT of the report, or give the report of this transaction."
differing_sentence parts.Count = codes "Do not send it: it has other inputs or outputs than the payment; sign the PSBT of the report, or give the report of this transaction."
differing_sentence (parts.Input index) = codes "Do not send it: the input at this index is not that of the payment; sign the PSBT of the report, or give the report of this transaction."
differing_sentence (parts.Output index) = codes "Do not send it: the output at this index is not that of the payment; sign the PSBT of the report, or give the report of this transaction."

-- a rule that a signed transaction breaks, or the report beside it
unfoldable pub settle_sentence : SettleFault → List ℕ
settle_sentence (settles.Report place) = codes "The report leaves its form at this place: give it as it was written; those of wide, share and sweep are not read."
settle_sentence settles.NotFunded = codes "The report is of no payment: give one whose first line begins with funded."
settle_sentence (settles.Psbt fault) = codes "The PSBT of the report was cut or changed: give the report as it was written."
settle_sentence (settles.NoValue index) = codes "The PSBT of the report does not show what the input at this index spends: give the report as it was written."
settle_sentence (settles.Foreign index) = codes "The input at this index spends from a script that the wallet file does not list: give the wallet file of the payment."
settle_sentence (settles.Differs part) = differing_sentence part
settle_sentence (settles.Unsigned index) = codes "The input at this index, counted from 0, is not signed: sign it, make the PSBT final, and give the whole transaction."
settle_sentence (settles.Heavier index declared weight) = codes "The input at this index weighs more than the wallet file declares: write the last number as the weight of its script, and fund anew."
settle_sentence (settles.TooHeavy weight) = codes "The transaction weighs above 400,000 weight units, and nodes do not relay it: fund anew, from fewer coins."
settle_sentence (settles.BelowRate fee needed) = codes "The fee is less than the rate of the request asks for this size: give the request of the payment, or fund anew."

-- a fault of a PSBT
unfoldable pub psbt_sentence : PsbtFault → List ℕ
psbt_sentence psbts.Magic = codes "The file is no PSBT: its text begins with cHNidP, so give the PSBT that was printed."
psbt_sentence (psbts.Truncated place) = codes "The PSBT was cut off: copy it again."
psbt_sentence (psbts.LongCompact place) = codes "The PSBT has a number in a spelling that is too long: it was changed, so copy it again."
psbt_sentence (psbts.RepeatKey place) = codes "The PSBT has a key twice: it was changed, so copy it again."
psbt_sentence psbts.NoUnsigned = codes "The PSBT has no unsigned transaction, as one of version 0 has: it was changed, so copy it again."
psbt_sentence (psbts.Unsigned fault) = codes "The transaction of the PSBT can not be read: the PSBT was changed, so copy it again."
psbt_sentence psbts.NotBare = codes "The transaction of the PSBT is signed already: give the PSBT that was printed."
psbt_sentence (psbts.Field place) = codes "A field of the PSBT is not as its type asks: the PSBT was changed, so copy it again."
psbt_sentence (psbts.Version version) = codes "The PSBT is of a version that is not read: ask for one of version 0 or 2."
psbt_sentence (psbts.Mixed place) = codes "The PSBT is of version 2 and has the unsigned transaction of version 0 too: give the PSBT that was printed."
psbt_sentence (psbts.Lacking kind) = codes "The PSBT is of version 2 and lacks a field of this type: it was cut or changed, so copy it again."
psbt_sentence (psbts.RequiredLock input) = codes "An input of the PSBT asks for a lock time of its own: give the PSBT that was printed, which asks for none."
psbt_sentence (psbts.WrongParent input) = codes "The whole transaction beside an input is not the one that the input spends: give the PSBT that was printed."
psbt_sentence (psbts.Trailing place) = codes "Bytes stand behind the PSBT: leave off what is behind it."
psbt_sentence psbts.NotBase64 = codes "The PSBT is not spelled in base64: copy it again, on one line."
psbt_sentence psbts.Memory = stop_sentence stops.Memory

-- an input of a PSBT whose transaction isn't there
unfoldable pub missing_sentence : List ℕ
missing_sentence = codes "Neither the files nor the PSBT have the transaction that an input spends: give the files from which it was funded."

-- an input of a PSBT that shows another output
unfoldable pub other_output_sentence : List ℕ
other_output_sentence = codes "Do not sign it: an input shows another output than the one that it spends has."

-- a PSBT that has pairs which would get lost
unfoldable pub other_pairs_sentence : List ℕ
other_pairs_sentence = codes "The PSBT has more than was printed, as signatures: give the PSBT that was printed."

-- a PSBT that tells an extended public key otherwise than the keys file
unfoldable pub key_global_sentence : List ℕ
key_global_sentence = codes "The PSBT has the extended public key of this number in the keys file with another origin: find out which is right before you sign."

-- a PSBT that tells a key or a script of an input otherwise than the keys file
unfoldable pub key_input_sentence : List ℕ
key_input_sentence = codes "The PSBT tells a key or a script of the input at this index in another way than the keys file: find out which is right before you sign."

-- a PSBT that tells a key or a script of an output otherwise than the keys file
unfoldable pub key_output_sentence : List ℕ
key_output_sentence = codes "The PSBT tells a key or a script of the output at this index in another way than the keys file: find out which is right before you sign."

-- a report that says that the coins do not pay
unfoldable pub none_sentence : List ℕ
none_sentence = codes "The coins do not pay this: too few, too dear at this rate, or not listed; pay less, give a lower rate, or --zero-conf for own outputs that wait."

-- a report that says that the tries are used up
unfoldable pub unfinished_sentence : List ℕ
unfinished_sentence = codes "The tries were used up before the search was done, and no payment was made: give more --tries, or another --method where no flag asks for this one."
