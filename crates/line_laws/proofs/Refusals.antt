-- The line of each refusal has its sentence.
use Rattle.std.proofs.Common.{◌++◌, codes, refl}
use Rattle.command_complete.specs.Words as completing
use Rattle.command_complete.specs.Words.{input_fault_words}
use Rattle.command_complete.specs.declared.stop.Refusal as completions
use Rattle.command_complete.specs.declared.stop.Refusal.TheVariants as incomplete
use Rattle.command_complete.specs.declared.fault.CompleteFault.TheVariants as inputs
use Rattle.command_end.specs.Lines.{file_refusal_words}
use Rattle.command_inputs.specs.Words as funding
use Rattle.command_inputs.specs.declared.refusal.Refusal as payments
use Rattle.command_inputs.specs.declared.refusal.Refusal.TheVariants as unpaid
use Rattle.command_settle.specs.Words as settling
use Rattle.command_settle.specs.Words.{differing_words, settle_fault_words}
use Rattle.command_settle.specs.declared.stop.Refusal as settlings
use Rattle.command_settle.specs.declared.stop.Refusal.TheVariants as unsettled
use Rattle.fault_lines.specs.Lines.{HasSentence, differing_line, input_line, keys_line, keys_rest, limit_line, line_sentence, psbt_line, psbt_rest, settle_line, signed_line, words_sentence}
use Rattle.fault_lines.proofs.LineLaws.{blocks_told, bump_told, plan_told, psbt_told, request_told, signed_told, wallet_told}
use Rattle.fault_lines.specs.Sentences.{differing_sentence, keys_form_sentence, keys_sentence, psbt_sentence, settle_sentence}
use Rattle.keys_files.specs.Words.{field_fault_words, key_fault_words, keys_fault_words}
use Rattle.json_fields.specs.declared.fault.FieldFault.TheVariants as fields
use Rattle.keys_text.specs.declared.fault.KeysFault.{KeysFault}
use Rattle.keys_text.specs.declared.fault.KeysFault.TheVariants as keys
use Rattle.psbt_keys.specs.declared.fault.KeyFault.{KeyFault}
use Rattle.psbt_keys.specs.declared.fault.KeyFault.TheVariants as unkeyed
use Rattle.fund_files.specs.declared.refusal.File.TheVariants as files
use Rattle.fund_files.specs.declared.refusal.FileRefusal.{FileRefusal}
use Rattle.fund_files.specs.declared.refusal.FileRefusal.TheVariants as refused
use Rattle.settle_check.specs.declared.fault.Differing.{Differing}
use Rattle.settle_check.specs.declared.fault.Differing.TheVariants as parts
use Rattle.settle_check.specs.declared.fault.SettleFault.{SettleFault}
use Rattle.settle_check.specs.declared.fault.SettleFault.TheVariants as settles
use Rattle.line_laws.specs.Sentences.{HasFileNumbers, HasPaymentNumbers, HasSettlingNumbers, completion_sentence, file_sentence, keyed_sentence, payment_sentence, settling_sentence}

pub file_told : (r : FileRefusal) → HasFileNumbers r → HasSentence (file_refusal_words r) (file_sentence r)
unfolding line_sentence words_sentence input_line limit_line file_refusal_words
file_told (refused.TooLong files.Wallet) p = refl
file_told (refused.TooLong files.Blocks) p = refl
file_told (refused.TooLong files.Request) p = refl
file_told (refused.BadWallet fault) p = wallet_told fault p
file_told (refused.BadBlocks fault) p = blocks_told fault
file_told (refused.RepeatCoin coin) p = refl
file_told refused.ManyCoins p = refl
file_told (refused.BadRequest fault) p = request_told fault p

pub payment_told : (r : payments.Refusal) → HasPaymentNumbers r → HasSentence (funding.refusal_words r) (payment_sentence r)
unfolding line_sentence funding.refusal_words
payment_told (unpaid.Files refusal) p = file_told refusal p
payment_told (unpaid.Bump fault) p = bump_told fault
payment_told (unpaid.Plan fault) p = plan_told fault

pub completion_told : (r : completions.Refusal) → HasSentence (completing.refusal_words r) (completion_sentence r)
unfolding line_sentence words_sentence input_line psbt_line psbt_rest completing.refusal_words input_fault_words psbt_sentence
completion_told (incomplete.Psbt fault) = psbt_told fault
completion_told incomplete.OtherPairs = refl
completion_told (incomplete.Input (inputs.Missing index coin)) = refl
completion_told (incomplete.Input (inputs.OtherOutput index coin)) = refl
completion_told (incomplete.Input inputs.Memory) = refl

pub keys_told : (f : KeysFault) → HasSentence (codes "input keys " ++ keys_fault_words f) (keys_sentence f)
unfolding line_sentence words_sentence input_line keys_line keys_rest keys_fault_words field_fault_words keys_sentence keys_form_sentence
keys_told (keys.Field fields.NotJson) = refl
keys_told (keys.Field (fields.Kind name)) = refl
keys_told (keys.Field (fields.Member name)) = refl
keys_told (keys.Field (fields.Missing name)) = refl
keys_told (keys.Field fields.Memory) = refl
keys_told (keys.Script index) = refl
keys_told (keys.Redeem index) = refl
keys_told (keys.Witness index) = refl
keys_told (keys.Internal index) = refl
keys_told (keys.Key index key) = refl
keys_told (keys.RepeatKey index key) = refl
keys_told (keys.Xpub index) = refl
keys_told (keys.RepeatXpub index) = refl

pub keyed_told : (f : KeyFault) → HasSentence (codes "input psbt " ++ key_fault_words f) (keyed_sentence f)
unfolding line_sentence words_sentence input_line psbt_line psbt_rest key_fault_words
keyed_told (unkeyed.Psbt fault) = psbt_told fault
keyed_told (unkeyed.Global number) = refl
keyed_told (unkeyed.Input index kind) = refl
keyed_told (unkeyed.Output index kind) = refl

-- each way in which a transaction is another payment
differing_told : (part : Differing) → HasSentence (codes "settle Differs " ++ differing_words part) (differing_sentence part)
unfolding line_sentence words_sentence settle_line differing_line differing_words differing_sentence
differing_told parts.Version = refl
differing_told parts.Locktime = refl
differing_told parts.Count = refl
differing_told (parts.Input index) = refl
differing_told (parts.Output index) = refl

-- each rule that is broken
rule_told : (fault : SettleFault) → HasSentence (codes "settle " ++ settle_fault_words fault) (settle_sentence fault)
unfolding line_sentence words_sentence settle_line settle_fault_words settle_sentence
rule_told (settles.Report place) = refl
rule_told settles.NotFunded = refl
rule_told (settles.Psbt fault) = refl
rule_told (settles.NoValue index) = refl
rule_told (settles.Foreign index) = refl
rule_told (settles.Differs part) = differing_told part
rule_told (settles.Unsigned index) = refl
rule_told (settles.Heavier index declared weight) = refl
rule_told (settles.TooHeavy weight) = refl
rule_told (settles.BelowRate fee needed) = refl

pub settling_told : (r : settlings.Refusal) → HasSettlingNumbers r → HasSentence (settling.refusal_words r) (settling_sentence r)
unfolding line_sentence words_sentence input_line limit_line signed_line
settling_told (unsettled.File refusal) p = file_told refusal p
settling_told unsettled.LongReport p = refl
settling_told unsettled.LongTx p = refl
settling_told unsettled.NotHex p = refl
settling_told (unsettled.NotTx fault) p = signed_told fault
settling_told (unsettled.Unsettled fault) p = rule_told fault
