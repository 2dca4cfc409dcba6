use Rattle.std.proofs.Common.{◌≡◌, ◌∙◌, refl, ap, Bool, false, List, ℕ, Option, Some, None, bytes_eq, codes, if◌then◌else◌}
use Rattle.std.proofs.lemmas.Bool.{false_from_ne_true}
use Rattle.std.proofs.lemmas.Slice.Eq.{bytes_eq-Decides}
use Rattle.fault_lines.specs.Sentences.{none_sentence, unfinished_sentence}
use Rattle.fault_lines.specs.Word.{told, word}
use Rattle.fault_lines.specs.Lines.{input_line, limit_line, line_sentence, plan_line, unpaid_line, words_sentence}
use Rattle.fault_lines.proofs.LineLaws.{blocks_told, bump_told, plan_told, psbt_told, request_told, wallet_told}
use Rattle.fault_lines.proofs.laws.lines_have_their_sentence.Goals as goal

pub returns-clause-wallet : goal.returns-clause-wallet
unfolding line_sentence words_sentence input_line
returns-clause-wallet c = λ f p. wallet_told f p

pub returns-clause-blocks : goal.returns-clause-blocks
unfolding line_sentence words_sentence input_line
returns-clause-blocks c = λ f. blocks_told f

pub returns-clause-request : goal.returns-clause-request
unfolding line_sentence words_sentence input_line
returns-clause-request c = λ f p. request_told f p

pub returns-clause-plan : goal.returns-clause-plan
unfolding line_sentence
returns-clause-plan c = λ f. plan_told f

pub returns-clause-bump : goal.returns-clause-bump
unfolding line_sentence
returns-clause-bump c = λ f. bump_told f

pub returns-clause-psbt : goal.returns-clause-psbt
unfolding line_sentence words_sentence input_line
returns-clause-psbt c = λ f. psbt_told f

pub returns-clause-coin : goal.returns-clause-coin
unfolding line_sentence words_sentence input_line
returns-clause-coin c = λ coin. refl

pub returns-clause-read : goal.returns-clause-read
unfolding line_sentence words_sentence
returns-clause-read c = λ name. refl

pub returns-clause-write : goal.returns-clause-write
unfolding line_sentence words_sentence
returns-clause-write c = λ name. refl

pub returns-clause-other : goal.returns-clause-other
unfolding line_sentence unpaid_line
returns-clause-other c = λ line none first second.
    let no_none : bytes_eq (word line) (codes "none") ≡ false = false_from_ne_true _ (λ same. first ((bytes_eq-Decides (word line) (codes "none")).0 same)) in
    let no_unfinished : bytes_eq (word line) (codes "unfinished") ≡ false = false_from_ne_true _ (λ same. second ((bytes_eq-Decides (word line) (codes "unfinished")).0 same)) in
    ap (λ (rest : Option (List ℕ)). told rest (λ (words : List ℕ). words_sentence words) (unpaid_line line)) none
    ∙ ap (λ (b : Bool). if b then Some none_sentence else (if bytes_eq (word line) (codes "unfinished") then Some unfinished_sentence else None)) no_none
    ∙ ap (λ (b : Bool). if b then Some unfinished_sentence else None) no_unfinished
