use Rattle.std.proofs.Common.{◌+◌, ◌∙◌, ◌∷◌, List, ℕ, ap, arith, length, sym, take}
use Rattle.std.proofs.lemmas.Slice.{between_to_end}
use Rattle.command_desk.specs.Script.{words_of}
use Rattle.command_desk.proofs.CutLaws.{word_ends, word_is_last}
use Rattle.command_desk.proofs.script.next_word.Goals as goal

pub returns-in-Some : goal.returns-in-Some
returns-in-Some c =
    let cut = word_ends c.args.line.now c.in-Some.end (sym c.in-Some.ensures) in
    cut.1 ∙ ap (λ (rest : List ℕ). take c.in-Some.end c.args.line.now ∷ words_of rest) (sym (between_to_end c.args.line.now (c.in-Some.end + 1) (length c.args.line.now) (omega arith)))

pub returns-in-None : goal.returns-in-None
returns-in-None c = word_is_last c.args.line.now (sym c.in-None.ensures)
