-- The line that shows a reply.
use Rattle.std.specs.Prelude.{ℕ, List, [], ◌∷◌, ◌++◌, codes}
use Rattle.std.specs.Fmt.{decimal}
use Rattle.base64.specs.Engines.{standard}
use Rattle.base64.specs.GeneralPurpose.{encode_of}
use Rattle.closing_log.specs.MarkWord.{mark_word}
use Rattle.coin_book.specs.declared.fault.BookFault.{BookFault}
use Rattle.coin_book.specs.declared.fault.BookFault.TheVariants as books
use Rattle.command_end.specs.Coin.{coin_text, shown_hash}
use Rattle.command_end.specs.Words.{feed_fault_words, request_fault_words, tx_fault_words}
use Rattle.fund_steps.specs.declared.fault.PlanFault.{PlanFault}
use Rattle.fund_steps.specs.declared.fault.PlanFault.TheVariants as plans
use Rattle.desk_machine.specs.declared.reply.Refusal.{Refusal}
use Rattle.desk_machine.specs.declared.reply.Refusal.TheVariants as refusals
use Rattle.desk_machine.specs.declared.reply.Reply.{Reply}
use Rattle.desk_machine.specs.declared.reply.Reply.TheVariants as replies
use Rattle.command_desk.specs.Line.{Line, Open, Turn, Commit, Close, Release, Blocks, Pending, Other}

-- why no plan is made: the name of the fault and its fields, each after one blank
abbrev pub plan_words : PlanFault → List ℕ
plan_words (plans.Total sum) = codes "Total " ++ decimal sum
plan_words (plans.NotEligible coin) = codes "NotEligible " ++ coin_text coin
plan_words (plans.TooMany number n) = codes "TooMany " ++ (decimal number ++ (32 ∷ decimal n))
plan_words plans.Memory = codes "Memory"

-- the same of a book
abbrev pub book_words : BookFault → List ℕ
book_words (books.RepeatCoin coin) = codes "RepeatCoin " ++ coin_text coin
book_words books.Full = codes "Full"
book_words books.Memory = codes "Memory"

-- and of a refusal
unfoldable pub refusal_words : Refusal → List ℕ
refusal_words (refusals.Request fault) = request_fault_words fault
refusal_words refusals.Bump = codes "bump"
refusal_words (refusals.Plan fault) = plan_words fault
refusal_words (refusals.Feed fault) = feed_fault_words fault
refusal_words (refusals.Book fault) = book_words fault
refusal_words refusals.Kind = codes "Kind"
refusal_words (refusals.Tx fault) = tx_fault_words fault
refusal_words refusals.Repeat = codes "Repeat"
refusal_words refusals.ParentLater = codes "ParentLater"

-- what a line is about, as its reply shows it: the name of a job, the txid of a release
abbrev pub subject_of : Line → List ℕ
subject_of (Open name file) = name
subject_of (Turn name tries) = name
subject_of (Commit name) = name
subject_of (Close name) = name
subject_of (Release txid) = shown_hash txid
subject_of (Blocks file) = codes "blocks"
subject_of (Pending hex) = codes "pending"
subject_of Other = codes "command"

-- the words of a reply about this
unfoldable pub reply_words : List ℕ → Reply → List ℕ
reply_words about replies.TakenName = codes "taken-name " ++ about
reply_words about replies.Full = codes "full"
reply_words about (replies.Refused refusal) = codes "refused " ++ (about ++ (32 ∷ refusal_words refusal))
reply_words about replies.Opened = codes "opened " ++ about
reply_words about replies.NoJob = codes "no-job " ++ about
reply_words about replies.Spent = codes "spent " ++ about
reply_words about (replies.Unfinished tries) = codes "unfinished " ++ (about ++ (32 ∷ decimal tries))
reply_words about (replies.NoSelection tries) = codes "none " ++ (about ++ (32 ∷ decimal tries))
reply_words about (replies.Funded mark tries) = codes "funded " ++ (about ++ (32 ∷ mark_word mark ++ (32 ∷ decimal tries)))
reply_words about replies.NotFunded = codes "not-funded " ++ about
reply_words about (replies.Taken coin) = codes "taken " ++ (about ++ (32 ∷ coin_text coin))
reply_words about (replies.Committed txid psbt) = codes "committed " ++ (about ++ (32 ∷ shown_hash txid ++ (32 ∷ encode_of standard psbt.items)))
reply_words about replies.Closed = codes "closed " ++ about
reply_words about replies.NotCommitted = codes "not-committed " ++ about
reply_words about replies.Released = codes "released " ++ about
reply_words about (replies.Tip height hash) = codes "tip " ++ (decimal height ++ (32 ∷ shown_hash hash))
reply_words about (replies.Seen txid) = codes "seen " ++ shown_hash txid
reply_words about replies.Memory = codes "memory"

-- the line of a reply
abbrev pub reply_line : Line → Reply → List ℕ
reply_line line reply = reply_words (subject_of line) reply ++ (10 ∷ [])

-- the reply to any other line
abbrev pub other_line : List ℕ
other_line = codes "refused command\n"
