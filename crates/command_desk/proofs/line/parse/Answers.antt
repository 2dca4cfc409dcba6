use Rattle.std.proofs.Common.{ap, option_copied}
use Rattle.command_desk.proofs.WordLaws.{many_words}
use Rattle.command_desk.proofs.line.parse.Goals as goal

pub returns-in_default-Some : goal.returns-in_default-Some
returns-in_default-Some c =
    many_words c.args.line.now c.next_word.result.0.now c.next_word-2.result.0.now c.next_word-3.result.0.now
    (option_copied c.next_word.result.1) (option_copied c.next_word-2.result.1) (option_copied c.next_word-3.result.1)
    c.in-Some.behind.now c.in-Some-behind.behind.now c.in_default-Some.field-0-1.now
    c.next_word.ensures (ap option_copied c.in-Some.is) c.next_word-2.ensures (ap option_copied c.in-Some-behind.is) c.next_word-3.ensures (ap option_copied c.in_default-Some.is-1)
