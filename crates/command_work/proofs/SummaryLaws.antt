-- The parts of a summary.
use Rattle.std.proofs.Common.{◌≡◌, ℕ, List, ◌++◌, append_assoc, ap, ◌∙◌}
use Rattle.command_work.specs.Lines.{short_lines}
use Rattle.command_work.specs.Summary.{digest_line, summary_text, title_of}

pub summed : (number count : ℕ) (report title lines whole : List ℕ) → title ≡ title_of number count → lines ≡ title ++ short_lines report → whole ≡ lines ++ digest_line report → whole ≡ summary_text number count report
unfolding summary_text
summed number count report title lines whole one two three =
    let lines_are : lines ≡ title_of number count ++ short_lines report = two ∙ ap (λ (l : List ℕ). l ++ short_lines report) one in
    three ∙ ap (λ (l : List ℕ). l ++ digest_line report) lines_are ∙ append_assoc (title_of number count) (short_lines report) (digest_line report)
