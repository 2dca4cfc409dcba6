-- The words of a refusal come of its cause alone.
use Rattle.std.proofs.Common.{◌≡◌, ℕ, List, ◌∷◌, ◌++◌, refl, ap}
use Rattle.std.specs.Prelude.{codes}
use Rattle.std.specs.Fmt.{decimal}
use Rattle.json_fields.specs.declared.fault.FieldFault.TheVariants as fields
use Rattle.request_text.specs.Reported.{plain_fault}
use Rattle.request_text.specs.declared.fault.Refusal as requests
use Rattle.request_text.specs.declared.fault.Refusal.TheVariants as asked
use Rattle.request_text.specs.declared.fault.RequestFault.{RequestFault}
use Rattle.request_text.specs.declared.fault.RequestFault.TheVariants as request_faults
use Rattle.wallet_text.specs.Reported.{refusal_of}
use Rattle.wallet_text.specs.declared.fault.Refusal as wallets
use Rattle.wallet_text.specs.declared.fault.Refusal.TheVariants as held
use Rattle.wallet_text.specs.declared.fault.WalletFault.{WalletFault}
use Rattle.wallet_text.specs.declared.fault.WalletFault.TheVariants as wallet_faults
use Rattle.fund_files.specs.Cause as causes
use Rattle.fund_files.specs.declared.refusal.FileRefusal.{FileRefusal}
use Rattle.fund_files.specs.declared.refusal.FileRefusal.TheVariants as file_refusals
use Rattle.command_end.specs.Coin.{coin_text}
use Rattle.command_end.specs.Lines.{file_refusal_words, file_word}
use Rattle.command_end.specs.Name.{shown_name}
use Rattle.command_end.specs.Words.{address_fault_words, bump_fault_words, feed_fault_words, plan_fault_words, request_fault_words, tx_fault_words, wallet_fault_words}
use Rattle.command_inputs.specs.Cause.{Bump, Cause, Files, Plan, cause_of}
use Rattle.command_inputs.specs.Words.{refusal_words}
use Rattle.command_inputs.specs.declared.refusal.Refusal.{Refusal}
use Rattle.command_inputs.specs.declared.refusal.Refusal.TheVariants as refusals

pub wallet_words : wallets.Refusal → List ℕ
wallet_words (held.Field fields.NotJson) = codes "NotJson"
wallet_words (held.Field (fields.Kind name)) = codes "Kind " ++ shown_name name
wallet_words (held.Field (fields.Member name)) = codes "Member " ++ shown_name name
wallet_words (held.Field (fields.Missing name)) = codes "Missing " ++ shown_name name
wallet_words (held.Field fields.Memory) = codes "Memory"
wallet_words (held.Script index) = codes "Script " ++ decimal index
wallet_words (held.Weight index) = codes "Weight " ++ decimal index
wallet_words (held.Tx list index fault) = codes "Tx " ++ (shown_name list ++ (32 ∷ decimal index ++ (32 ∷ tx_fault_words fault)))
wallet_words (held.Repeat list index) = codes "Repeat " ++ (shown_name list ++ (32 ∷ decimal index))
wallet_words (held.ParentLater index) = codes "ParentLater " ++ decimal index

wallet_told : (f : WalletFault) → wallet_fault_words f ≡ wallet_words (refusal_of f)
unfolding wallet_fault_words wallet_words
wallet_told wallet_faults.NotJson = refl
wallet_told (wallet_faults.Kind name) = refl
wallet_told (wallet_faults.Member name) = refl
wallet_told (wallet_faults.Missing name) = refl
wallet_told (wallet_faults.Script index) = refl
wallet_told (wallet_faults.Weight index) = refl
wallet_told (wallet_faults.Tx list index fault) = refl
wallet_told (wallet_faults.Repeat list index) = refl
wallet_told (wallet_faults.ParentLater index) = refl
wallet_told wallet_faults.Memory = refl

pub request_words : requests.Refusal → List ℕ
request_words (asked.Field fields.NotJson) = codes "NotJson"
request_words (asked.Field (fields.Kind name)) = codes "Kind " ++ shown_name name
request_words (asked.Field (fields.Member name)) = codes "Member " ++ shown_name name
request_words (asked.Field (fields.Missing name)) = codes "Missing " ++ shown_name name
request_words (asked.Field fields.Memory) = codes "Memory"
request_words (asked.Address index fault) = codes "Address " ++ (decimal index ++ (32 ∷ address_fault_words fault))
request_words (asked.Script index) = codes "Script " ++ decimal index
request_words (asked.AmountRange index) = codes "AmountRange " ++ decimal index
request_words (asked.Dust index) = codes "Dust " ++ decimal index
request_words asked.SumRange = codes "SumRange"
request_words asked.NoRecipients = codes "NoRecipients"
request_words (asked.RateRange name) = codes "RateRange " ++ shown_name name
request_words asked.TriesRange = codes "TriesRange"
request_words (asked.Repeat index) = codes "Repeat " ++ decimal index

request_told : (f : RequestFault) → request_fault_words f ≡ request_words (plain_fault f)
unfolding request_fault_words request_words
request_told request_faults.NotJson = refl
request_told (request_faults.Kind name) = refl
request_told (request_faults.Member name) = refl
request_told (request_faults.Missing name) = refl
request_told (request_faults.Address index fault) = refl
request_told (request_faults.Script index) = refl
request_told (request_faults.AmountRange index) = refl
request_told (request_faults.Dust index) = refl
request_told request_faults.SumRange = refl
request_told request_faults.NoRecipients = refl
request_told (request_faults.RateRange name) = refl
request_told request_faults.TriesRange = refl
request_told (request_faults.Repeat index) = refl
request_told request_faults.Memory = refl

abbrev pub file_words : causes.FileCause → List ℕ
file_words (causes.TooLong file) = codes "limit " ++ file_word file
file_words (causes.BadWallet fault) = codes "input wallet " ++ wallet_words fault
file_words (causes.BadBlocks fault) = codes "input blocks " ++ feed_fault_words fault
file_words (causes.RepeatCoin coin) = codes "input book RepeatCoin " ++ coin_text coin
file_words causes.ManyCoins = codes "limit coins"
file_words (causes.BadRequest fault) = codes "input request " ++ request_words fault

pub file_told : (r : FileRefusal) → file_refusal_words r ≡ file_words (causes.cause_of r)
unfolding file_refusal_words
file_told (file_refusals.TooLong file) = refl
file_told (file_refusals.BadWallet fault) = ap (λ (x : List ℕ). codes "input wallet " ++ x) (wallet_told fault)
file_told (file_refusals.BadBlocks fault) = refl
file_told (file_refusals.RepeatCoin coin) = refl
file_told file_refusals.ManyCoins = refl
file_told (file_refusals.BadRequest fault) = ap (λ (x : List ℕ). codes "input request " ++ x) (request_told fault)

abbrev pub cause_words : Cause → List ℕ
cause_words (Files cause) = file_words cause
cause_words (Bump fault) = bump_fault_words fault
cause_words (Plan fault) = plan_fault_words fault

pub refusal_told : (r : Refusal) → refusal_words r ≡ cause_words (cause_of r)
unfolding refusal_words
refusal_told (refusals.Files refusal) = file_told refusal
refusal_told (refusals.Bump fault) = refl
refusal_told (refusals.Plan fault) = refl
