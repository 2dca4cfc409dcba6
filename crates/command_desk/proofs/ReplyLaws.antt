-- One reply of the machine is shown by one line.
use Rattle.std.specs.Prelude.{ℕ, ◌≡◌, List, [], ◌∷◌, ◌++◌, codes}
use Rattle.std.specs.Fmt.{decimal}
use Rattle.std.proofs.Common.{refl, sym, ap, ◌∙◌}
use Rattle.base64.specs.Engines.{standard}
use Rattle.base64.specs.GeneralPurpose.{encode_of}
use Rattle.closing_log.specs.MarkWord.{mark_word}
use Rattle.command_end.specs.Coin.{coin_text, shown_hash}
use Rattle.command_end.specs.Name.{shown_name}
use Rattle.command_end.specs.Words.{address_fault_words, feed_fault_words, request_fault_words, tx_fault_words}
use Rattle.json_fields.specs.declared.fault.FieldFault.{FieldFault}
use Rattle.json_fields.specs.declared.fault.FieldFault.TheVariants as fields
use Rattle.request_text.specs.Reported.{plain_fault}
use Rattle.request_text.specs.declared.fault.Refusal as plain_requests
use Rattle.request_text.specs.declared.fault.Refusal.TheVariants as plain
use Rattle.request_text.specs.declared.fault.RequestFault.{RequestFault}
use Rattle.request_text.specs.declared.fault.RequestFault.TheVariants as requests
use Rattle.desk_machine.specs.Replies as said
use Rattle.desk_machine.specs.Replies.{plain_refusal, plain_reply}
use Rattle.desk_machine.specs.declared.reply.Refusal.{Refusal}
use Rattle.desk_machine.specs.declared.reply.Refusal.TheVariants as refusals
use Rattle.desk_machine.specs.declared.reply.Reply.{Reply}
use Rattle.desk_machine.specs.declared.reply.Reply.TheVariants as replies
use Rattle.command_desk.specs.Line.{Line}
use Rattle.command_desk.specs.ReplyText.{book_words, plan_words, refusal_words, reply_line, reply_words, subject_of}

-- the words of a fault by its plain form
field_text : FieldFault → List ℕ
field_text fields.NotJson = codes "NotJson"
field_text (fields.Kind name) = codes "Kind " ++ shown_name name
field_text (fields.Member name) = codes "Member " ++ shown_name name
field_text (fields.Missing name) = codes "Missing " ++ shown_name name
field_text fields.Memory = codes "Memory"

request_text : plain_requests.Refusal → List ℕ
request_text (plain.Field fault) = field_text fault
request_text (plain.Address index fault) = codes "Address " ++ (decimal index ++ (32 ∷ address_fault_words fault))
request_text (plain.Script index) = codes "Script " ++ decimal index
request_text (plain.AmountRange index) = codes "AmountRange " ++ decimal index
request_text (plain.Dust index) = codes "Dust " ++ decimal index
request_text plain.SumRange = codes "SumRange"
request_text plain.NoRecipients = codes "NoRecipients"
request_text (plain.RateRange name) = codes "RateRange " ++ shown_name name
request_text plain.TriesRange = codes "TriesRange"
request_text (plain.Repeat index) = codes "Repeat " ++ decimal index

request_is : (fault : RequestFault) → request_fault_words fault ≡ request_text (plain_fault fault)
unfolding request_fault_words request_text field_text
request_is requests.NotJson = refl
request_is (requests.Kind name) = refl
request_is (requests.Member name) = refl
request_is (requests.Missing name) = refl
request_is (requests.Address index fault) = refl
request_is (requests.Script index) = refl
request_is (requests.AmountRange index) = refl
request_is (requests.Dust index) = refl
request_is requests.SumRange = refl
request_is requests.NoRecipients = refl
request_is (requests.RateRange name) = refl
request_is requests.TriesRange = refl
request_is (requests.Repeat index) = refl
request_is requests.Memory = refl

refusal_text : said.Refusal → List ℕ
refusal_text (said.BadRequest fault) = request_text fault
refusal_text said.HasBump = codes "bump"
refusal_text (said.BadPlan fault) = plan_words fault
refusal_text (said.BadBlocks fault) = feed_fault_words fault
refusal_text (said.BadBook fault) = book_words fault
refusal_text said.BadHex = codes "Kind"
refusal_text (said.BadTx fault) = tx_fault_words fault
refusal_text said.Repeats = codes "Repeat"
refusal_text said.ComesLater = codes "ParentLater"

refusal_is : (refusal : Refusal) → refusal_words refusal ≡ refusal_text (plain_refusal refusal)
unfolding refusal_words refusal_text
refusal_is (refusals.Request fault) = request_is fault
refusal_is refusals.Bump = refl
refusal_is (refusals.Plan fault) = refl
refusal_is (refusals.Feed fault) = refl
refusal_is (refusals.Book fault) = refl
refusal_is refusals.Kind = refl
refusal_is (refusals.Tx fault) = refl
refusal_is refusals.Repeat = refl
refusal_is refusals.ParentLater = refl

reply_text : List ℕ → said.Reply → List ℕ
reply_text about said.TakenName = codes "taken-name " ++ about
reply_text about said.AllOpen = codes "full"
reply_text about (said.Refused refusal) = codes "refused " ++ (about ++ (32 ∷ refusal_text refusal))
reply_text about said.Opened = codes "opened " ++ about
reply_text about said.NoJob = codes "no-job " ++ about
reply_text about said.Spent = codes "spent " ++ about
reply_text about (said.Unfinished tries) = codes "unfinished " ++ (about ++ (32 ∷ decimal tries))
reply_text about (said.NoSelection tries) = codes "none " ++ (about ++ (32 ∷ decimal tries))
reply_text about (said.Funded mark tries) = codes "funded " ++ (about ++ (32 ∷ mark_word mark ++ (32 ∷ decimal tries)))
reply_text about said.NotFunded = codes "not-funded " ++ about
reply_text about (said.Taken coin) = codes "taken " ++ (about ++ (32 ∷ coin_text coin))
reply_text about (said.Committed txid psbt) = codes "committed " ++ (about ++ (32 ∷ shown_hash txid ++ (32 ∷ encode_of standard psbt)))
reply_text about said.Closed = codes "closed " ++ about
reply_text about said.NotCommitted = codes "not-committed " ++ about
reply_text about said.Released = codes "released " ++ about
reply_text about (said.Tip height hash) = codes "tip " ++ (decimal height ++ (32 ∷ shown_hash hash))
reply_text about (said.Seen txid) = codes "seen " ++ shown_hash txid
reply_text about said.NoMemory = codes "memory"

reply_is : (about : List ℕ) (reply : Reply) → reply_words about reply ≡ reply_text about (plain_reply reply)
unfolding reply_words reply_text
reply_is about replies.TakenName = refl
reply_is about replies.Full = refl
reply_is about (replies.Refused refusal) = ap (λ (words : List ℕ). codes "refused " ++ (about ++ (32 ∷ words))) (refusal_is refusal)
reply_is about replies.Opened = refl
reply_is about replies.NoJob = refl
reply_is about replies.Spent = refl
reply_is about (replies.Unfinished tries) = refl
reply_is about (replies.NoSelection tries) = refl
reply_is about (replies.Funded mark tries) = refl
reply_is about replies.NotFunded = refl
reply_is about (replies.Taken coin) = refl
reply_is about (replies.Committed txid psbt) = refl
reply_is about replies.Closed = refl
reply_is about replies.NotCommitted = refl
reply_is about replies.Released = refl
reply_is about (replies.Tip height hash) = refl
reply_is about (replies.Seen txid) = refl
reply_is about replies.Memory = refl

pub one_line : (line : Line) (a b : Reply) → plain_reply a ≡ plain_reply b → reply_line line a ≡ reply_line line b
one_line line a b same =
    ap (λ (words : List ℕ). words ++ (10 ∷ [])) (reply_is (subject_of line) a ∙ ap (reply_text (subject_of line)) same ∙ sym (reply_is (subject_of line) b))
