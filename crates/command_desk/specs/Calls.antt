-- The lines of a script as calls of the machine, and what is printed of them.
use Rattle.std.specs.Prelude.{ℕ, ◌≡◌, List, [], ◌∷◌, ◌++◌, Option, Some, None}
use Rattle.desk_machine.specs.Commands.{Command}
use Rattle.desk_machine.specs.Replies.{plain_reply}
use Rattle.desk_machine.specs.Runs.{Said}
use Rattle.desk_machine.specs.declared.reply.Reply.{Reply}
use Rattle.command_desk.specs.Line.{Line, command_of, line_of}
use Rattle.command_desk.specs.ReplyText.{other_line, reply_line}

-- The first of some calls is that of a line, and its reply is printed; or the line is no command, and that is printed. What is
-- said of the other lines stands behind.
abbrev pub ShowsBy : Line → Option Command → (List Said → List ℕ → Type 0) → List Said → List ℕ → Type 0
ShowsBy line None others said printed = (rest : List ℕ) × others said rest × (printed ≡ other_line ++ rest)
ShowsBy line (Some command) others [] printed = ⊥
ShowsBy line (Some command) others (s ∷ said) printed =
    (reply : Reply) × (rest : List ℕ) × (s.command ≡ command) × (plain_reply reply ≡ s.reply) × others said rest × (printed ≡ reply_line line reply ++ rest)

-- The calls have the commands of these lines, one after the other, and this shows their replies.
abbrev pub Shows : (List ℕ → List ℕ) → List (List ℕ) → List Said → List ℕ → Type 0
Shows files [] said printed = (said ≡ []) × (printed ≡ [])
Shows files (line ∷ lines) said printed = ShowsBy (line_of line) (command_of files (line_of line)) (Shows files lines) said printed
