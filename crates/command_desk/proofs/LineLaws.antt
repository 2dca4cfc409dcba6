-- One line of a script: its command, its reply, and why it isn't done.
use Rattle.std.specs.Prelude.{ℕ, ◌≡◌, List, Option, Some, None, option_map, Result, Err}
use Rattle.std.proofs.Common.{sym, subst}
use Rattle.fund_shelf.specs.Causes.{ShelfView, SinkView}
use Rattle.desk_machine.specs.Commands.{Command, plain_command}
use Rattle.desk_machine.specs.State.{PlainDesk}
use Rattle.desk_machine.specs.declared.command.Command as given
use Rattle.command_desk.specs.Line.{Line, Open, Turn, Commit, Close, Release, Blocks, Pending, Other, Wanted, wanted}
use Rattle.command_desk.specs.Course.{Answers, AnswersBy, IsCommandLine}
use Rattle.command_desk.specs.Halts.{HaltsAt, HaltsLine, HaltsPutting, HaltsReading, HaltsReplying, HasCommand, HasPutPart, IsBegun, IsDoneLine, IsReplied, LacksMemory}
use Rattle.command_desk.specs.declared.halt.Halt.{Halt}
use Rattle.command_desk.specs.declared.halt.Halt.TheVariants as halts

-- ---- the file of a line

names_command : (line : Line) (want : Wanted) → wanted line ≡ Some want → IsCommandLine line
names_command (Open name file) want is = tt
names_command (Turn name tries) want is = tt
names_command (Commit name) want is = tt
names_command (Close name) want is = tt
names_command (Release txid) want is = tt
names_command (Blocks file) want is = tt
names_command (Pending hex) want is = tt
names_command Other want is = absurd (cc)

pub read_halts : (told : Type 0) (line : Line) (want : Wanted) (old new : ShelfView) (halt : Halt) → wanted line ≡ Some want → HaltsReading told want.file want.most old new halt → HaltsAt told line old new halt
read_halts told line want old new halts.Unread is h = (want, is, h)
read_halts told line want old new halts.TooLong is h = λ t. record { want = want; names = is; long = h t }
read_halts told line want old new halts.Memory is h = names_command line want is
read_halts told line want old new halts.Unwritten is h = absurd h
read_halts told line want old new halts.Full is h = absurd h

-- ---- the whole line

pub answered : (told : Type 0) (files : List ℕ → List ℕ) (line : Line) (o : Option given.Command) (old new : PlainDesk) (printed : List ℕ) → HasCommand told files line o → AnswersBy line (option_map plain_command o) old printed new → told → Answers files line old printed new
answered told files line None old new printed h a t = subst (λ (l : Line). Answers files l old printed new) (sym h) (tt, a)
answered told files line (Some command) old new printed h a t = let x = h.2 t in (x.0, subst (λ (c : Option Command). AnswersBy line c old printed new) (sym x.1) a)

pub at_halts : (told_files told : Type 0) (line : Line) (d : PlainDesk) (shelf shelf' : ShelfView) (sink sink' : SinkView) (halt : Halt) → sink' ≡ sink → HaltsAt told_files line shelf shelf' halt → HaltsLine told_files told line d shelf shelf' sink sink' halt
at_halts told_files told line d shelf shelf' sink sink' halts.Unread same h = (h, same)
at_halts told_files told line d shelf shelf' sink sink' halts.TooLong same h = (h, same)
at_halts told_files told line d shelf shelf' sink sink' halts.Memory same h = (h, same)
at_halts told_files told line d shelf shelf' sink sink' halts.Unwritten same h = absurd h
at_halts told_files told line d shelf shelf' sink sink' halts.Full same h = absurd h

-- ---- the reply, put

pub text_halts : (told : Type 0) (line : Line) (command : Option Command) (d next : PlainDesk) (sink sink' : SinkView) (reply : List ℕ) (halt : Halt) → AnswersBy line command d reply next → HaltsPutting told reply sink sink' halt → HaltsReplying told line command d sink sink' halt
text_halts told line command d next sink sink' reply halts.Unwritten answers h = (h.0, record { reply = reply; next = next; answers = answers; part = h.1 })
text_halts told line command d next sink sink' reply halts.Full answers h = (h.0, record { reply = reply; next = next; answers = answers; part = h.1 })
text_halts told line command d next sink sink' reply halts.Unread answers h = absurd h
text_halts told line command d next sink sink' reply halts.TooLong answers h = absurd h
text_halts told line command d next sink sink' reply halts.Memory answers h = absurd h

-- ---- the command that was read, and its reply

module _ (told_files told : Type 0) (line : Line) (o : Option given.Command) (d : PlainDesk) (shelf shelf' : ShelfView) (sink sink' : SinkView) (has : HasCommand told_files shelf.files line o) where
  pub replied_line : (e : PlainDesk) → IsReplied told line (option_map plain_command o) d e sink sink' → IsDoneLine told_files told shelf.files line d e sink sink'
  replied_line e h = record { printed = h.printed; answers = answered told_files shelf.files line o d e h.printed has h.answers; written = h.written }

  begun : IsBegun told line (option_map plain_command o) d sink sink' → HasPutPart told_files told shelf.files line d sink sink'
  begun h = record { reply = h.reply; next = h.next; answers = answered told_files shelf.files line o d h.next h.reply has h.answers; part = h.part }

  lacking : (c : Option given.Command) → HasCommand told_files shelf.files line c → LacksMemory (option_map plain_command c) sink sink' → IsCommandLine line × (sink' ≡ sink)
  lacking None has h = absurd h
  lacking (Some command) has h = (has.0, h)

  pub replying_halts : (halt : Halt) → HaltsReplying told line (option_map plain_command o) d sink sink' halt → HaltsLine told_files told line d shelf shelf' sink sink' halt
  replying_halts halts.Unwritten h = (h.0, begun h.1)
  replying_halts halts.Full h = (h.0, begun h.1)
  replying_halts halts.Memory h = lacking o has h
  replying_halts halts.Unread h = absurd h
  replying_halts halts.TooLong h = absurd h

-- it isn't that the file was unread, unless the halt says so
pub not_unread : (r : Result Unit Halt) (halt : Halt) → r ≡ Err halt → (halt ≡ halts.Unread → ⊥) → r ≡ Err halts.Unread → ⊥
not_unread r halt was other is = other (cc (was, is))
