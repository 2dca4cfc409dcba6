-- What a desk prints to the lines of a script.
use Rattle.std.specs.Prelude.{ℕ, ◌≡◌, ◌≤◌, ◌<◌, List, [], ◌∷◌, ◌++◌, codes, length, Option, Some, None, IfSome}
use Rattle.desk_machine.specs.Commands.{Command}
use Rattle.desk_machine.specs.Machine.{step_of}
use Rattle.desk_machine.specs.Replies.{plain_reply}
use Rattle.desk_machine.specs.State.{PlainDesk}
use Rattle.desk_machine.specs.declared.reply.Reply.{Reply}
use Rattle.command_desk.specs.Line.{Line, Open, Turn, Commit, Close, Release, Blocks, Pending, Other, Wanted, command_of, line_of, wanted}
use Rattle.command_desk.specs.ReplyText.{other_line, reply_line}

-- ---- the file of a line

-- the file that a line names, if it names one, is within its limit
abbrev pub IsWithin : (List ℕ → List ℕ) → Line → Type 0
IsWithin files line = IfSome (wanted line) (λ (w : Wanted). length (files w.file) ≤ w.most)

-- the line names a file that is longer than its limit
pub record IsLong (files : List ℕ → List ℕ) (line : Line) : Type 0 where
  pub want : Wanted
  pub names : wanted line ≡ Some want
  pub long : want.most < length (files want.file)

-- the name of the file of a line; where it names none, no bytes
abbrev pub file_name : Line → List ℕ
file_name (Open name file) = file
file_name (Blocks file) = file
file_name (Turn name tries) = []
file_name (Commit name) = []
file_name (Close name) = []
file_name (Release txid) = []
file_name (Pending hex) = []
file_name Other = []

-- how a fault line names that file where it is too long
abbrev pub long_word : Line → List ℕ
long_word (Open name file) = codes "request"
long_word (Blocks file) = codes "blocks"
long_word (Turn name tries) = []
long_word (Commit name) = []
long_word (Close name) = []
long_word (Release txid) = []
long_word (Pending hex) = []
long_word Other = []

-- the line is a command; any other is refused, which takes no memory
abbrev pub IsCommandLine : Line → Type 0
IsCommandLine (Open name file) = Unit {0}
IsCommandLine (Turn name tries) = Unit {0}
IsCommandLine (Commit name) = Unit {0}
IsCommandLine (Close name) = Unit {0}
IsCommandLine (Release txid) = Unit {0}
IsCommandLine (Blocks file) = Unit {0}
IsCommandLine (Pending hex) = Unit {0}
IsCommandLine Other = ⊥

-- ---- the reply to a line

-- The line of the machine's reply to a command, and the desk behind it.
pub record Replies (line : Line) (command : Command) (old : PlainDesk) (printed : List ℕ) (new : PlainDesk) : Type 0 where
  pub reply : Reply
  pub reply_is : plain_reply reply ≡ (step_of old command).reply
  pub printed_is : printed ≡ reply_line line reply
  pub next_is : new ≡ (step_of old command).next

-- by the command of a line: any other line is refused, and leaves the desk as it was
abbrev pub AnswersBy : Line → Option Command → PlainDesk → List ℕ → PlainDesk → Type 0
AnswersBy line None old printed new = (printed ≡ other_line) × (new ≡ old)
AnswersBy line (Some command) old printed new = Replies line command old printed new

-- The file of a line is within its limit; and to the line this is printed, and the desk is led from one state to another.
abbrev pub Answers : (List ℕ → List ℕ) → Line → PlainDesk → List ℕ → PlainDesk → Type 0
Answers files line old printed new = IsWithin files line × AnswersBy line (command_of files line) old printed new

-- To these lines, one after the other, this is printed, and the desk is led from one state to another.
abbrev pub Course : (List ℕ → List ℕ) → List (List ℕ) → PlainDesk → List ℕ → PlainDesk → Type 0
Course files [] old printed new = (printed ≡ []) × (new ≡ old)
Course files (line ∷ lines) old printed new =
    (first : List ℕ) × (mid : PlainDesk) × (rest : List ℕ) × Answers files (line_of line) old first mid × Course files lines mid rest new × (printed ≡ first ++ rest)
