use Rattle.std.proofs.Common.{◌≡◌, ◌∙◌, ◌<◌, ◌==◌, arith, false, length, sym}
use Rattle.std.proofs.lemmas.Bool.{eqb-false}
use Rattle.command_desk.proofs.TextLaws.{some_file, no_file}
use Rattle.command_desk.proofs.line.file_of.Goals as goal

pub returns-in-Ok : goal.returns-in-Ok
returns-in-Ok c =
    let filled : (length c.args.word.now == 0) ≡ false = sym c.is_empty.ensures ∙ c.if-is_empty.false in
    let other = eqb-false (length c.args.word.now) 0 filled in
    let some : 0 < length c.args.word.now = omega (arith, other) in
    some_file c.args.word.now c.in-Ok.file.now some c.in-Ok.ensures.cases.0 c.in-Ok.ensures.cases.1

pub returns-in-Err : goal.returns-in-Err
returns-in-Err c = no_file c.args.word.now c.in-Err.ensures.cases.0
