use Rattle.std.proofs.Common.{◌∙◌, ◌++◌, ap, codes, List, ℕ}
use Rattle.people_advice.specs.Files.{there_text}
use Rattle.people_advice.proofs.files.there_text.Goals as goal

pub returns : goal.returns
unfolding there_text
returns c =
    c.in_ok-format.ensures.ok
    ∙ ap (λ (said : List ℕ). codes "The file " ++ (c.args.name.now ++ (codes " is there already, and stays as it was: name a new file." ++ said))) c.earlier_words.ensures
