-- What a call gave for either of its arms is what its caller gives.
use Rattle.std.specs.Prelude.{ℕ, ◌≡◌, ◌++◌, List, Option, option_map, Result, Ok, Err, IfErr, OnOk}
use Rattle.fund_shelf.specs.Causes.{ShelfView, SinkView}
use Rattle.desk_machine.specs.Commands.{Command, plain_command}
use Rattle.desk_machine.specs.State.{PlainDesk}
use Rattle.desk_machine.specs.declared.command.Command as given
use Rattle.command_desk.specs.Line.{Line}
use Rattle.command_desk.specs.Course.{AnswersBy}
use Rattle.command_desk.specs.Halts.{HaltsLine, HaltsPutting, HaltsReplying, HasCommand, IsDoneLine, IsReplied}
use Rattle.command_desk.specs.declared.halt.Halt.{Halt}
use Rattle.command_desk.proofs.LineLaws.{replied_line, replying_halts, text_halts}

module _ (told : Type 0) (line : Line) (command : Option Command) (d e : PlainDesk) (sink sink' : SinkView) (text : List ℕ) (answers : AnswersBy line command d text e) where
  pub put_replied : (r : Result Unit Halt) → (told → OnOk r (sink'.written ≡ sink.written ++ text)) → OnOk r (IsReplied told line command d e sink sink')
  put_replied (Ok done) all = record { printed = text; answers = answers; written = all }
  put_replied (Err halt) all = tt

  pub put_halted : (r : Result Unit Halt) → IfErr r (HaltsPutting told text sink sink') → IfErr r (HaltsReplying told line command d sink sink')
  put_halted (Ok done) h = tt
  put_halted (Err halt) h = text_halts told line command d e sink sink' text halt answers h

module _ (told_files told : Type 0) (line : Line) (o : Option given.Command) (d e : PlainDesk) (shelf shelf' : ShelfView) (sink sink' : SinkView) (has : HasCommand told_files shelf.files line o) where
  pub line_done : (r : Result Unit Halt) → OnOk r (IsReplied told line (option_map plain_command o) d e sink sink') → OnOk r (IsDoneLine told_files told shelf.files line d e sink sink')
  line_done (Ok done) h = replied_line told_files told line o d shelf shelf' sink sink' has e h
  line_done (Err halt) h = tt

  pub line_halted : (r : Result Unit Halt) → IfErr r (HaltsReplying told line (option_map plain_command o) d sink sink') → IfErr r (HaltsLine told_files told line d shelf shelf' sink sink')
  line_halted (Ok done) h = tt
  line_halted (Err halt) h = replying_halts told_files told line o d shelf shelf' sink sink' has halt h
