use Rattle.std.proofs.Common.{◌+◌, ◌∙◌, ◌∷◌, List, ℕ, ap, arith, length, sym, take}
use Rattle.std.proofs.lemmas.Slice.{between_to_end}
use Rattle.command_desk.specs.Script.{lines_of}
use Rattle.command_desk.proofs.CutLaws.{line_ends, line_is_last}
use Rattle.command_desk.proofs.script.next_line.Goals as goal

pub returns-in-Some-clause-parts : goal.returns-in-Some-clause-parts
returns-in-Some-clause-parts c =
    let cut = line_ends c.args.text.now c.in-Some.end (sym c.in-Some.ensures) in
    cut.1 ∙ ap (λ (rest : List ℕ). take c.in-Some.end c.args.text.now ∷ lines_of rest) (sym (between_to_end c.args.text.now (c.in-Some.end + 1) (length c.args.text.now) (omega arith)))

pub returns-in-None-clause-parts : goal.returns-in-None-clause-parts
returns-in-None-clause-parts c = line_is_last c.args.text.now c.requires (sym c.in-None.ensures)
