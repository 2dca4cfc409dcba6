use Rattle.std.proofs.Common.{◌∙◌, ◌++◌, ap, codes, List, ℕ}
use Rattle.command_pay.specs.Said.{unwritten_text}
use Rattle.command_pay.proofs.said.unwritten_text.Goals as goal

pub returns : goal.returns
unfolding unwritten_text
returns c =
    c.in_ok-format.ensures.ok
    ∙ ap (λ (said : List ℕ). codes "The file " ++ (c.args.name.now ++ (codes " was not written: it is there already, its folder is missing or closed to you, or the disk is full; name a new file. A part of it may stand there." ++ said))) c.earlier_words.ensures
