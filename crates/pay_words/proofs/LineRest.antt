-- The words of what is left of a list of lines.
use Rattle.std.proofs.Common.{◌≡◌, ℕ, zero, suc, ◌+◌, ◌<◌, ◌≤◌, List, [], ◌∷◌, length, get_or, drop, Option, Some, None, Result, Ok, Err, refl, ap, subst, sym, ◌∙◌, arith}
use Rattle.std.specs.Prelude.{IsOk, IsSome}
use Rattle.std.proofs.lemmas.List.{at_drop_all}
use Rattle.fund_base.specs.Parsing.{◌>>=◌}
use Rattle.pay_words.specs.Lines.{BeginsWithPayment, comma_cut, with_line, with_parts, words_from}
use Rattle.pay_words.specs.declared.line_fault.LineFault.{LineFault}
use Rattle.pay_words.proofs.Rest.{stands}

line_here : (before ls : List (List ℕ)) (i : ℕ) (line : List ℕ) → i < length ls → line ≡ get_or ls i line → words_from before (drop i ls) ≡ (with_line before line >>= λ ws. words_from ws (drop (i + 1) ls))
unfolding words_from
line_here before ls i line lt is = stands (words_from before) ls i line lt is

-- the line at a place is taken
pub line_taken : (before after ls : List (List ℕ)) (i : ℕ) (line : List ℕ) (total : Result (List (List ℕ)) LineFault) → (i < length ls) × (line ≡ get_or ls i line) → with_line before line ≡ Ok after → words_from before (drop i ls) ≡ total → words_from after (drop (i + 1) ls) ≡ total
line_taken before after ls i line total at taken so_far =
    let here = line_here before ls i line at.0 at.1 in
    let step = ap (λ (r : Result (List (List ℕ)) LineFault). r >>= λ ws. words_from ws (drop (i + 1) ls)) taken in
    sym (here ∙ step) ∙ so_far

-- the line at a place is refused
pub line_refused : (before ls : List (List ℕ)) (i : ℕ) (line : List ℕ) (fault : LineFault) (total : Result (List (List ℕ)) LineFault) → (i < length ls) × (line ≡ get_or ls i line) → with_line before line ≡ Err fault → words_from before (drop i ls) ≡ total → total ≡ Err fault
line_refused before ls i line fault total at refused so_far =
    let here = line_here before ls i line at.0 at.1 in
    let step = ap (λ (r : Result (List (List ℕ)) LineFault). r >>= λ ws. words_from ws (drop (i + 1) ls)) refused in
    sym so_far ∙ (here ∙ step)

pub lines_ended : (before ls : List (List ℕ)) (i : ℕ) → length ls ≤ i → words_from before (drop i ls) ≡ Ok before
unfolding words_from
lines_ended before ls i le = at_drop_all (words_from before) ls i le

-- a line that is taken, or would be if there were memory, stands behind a first one that is a payment, or is it
some_cut : (before : List (List ℕ)) (o : Option (List ℕ × List ℕ)) → IsOk (with_parts before o) → IsSome o
some_cut before None ok = absurd cc
some_cut before (Some parts) ok = refl

pub first_line : (before ls : List (List ℕ)) (i : ℕ) (line : List ℕ) → (i < length ls) × (line ≡ get_or ls i line) → (0 < i → BeginsWithPayment ls) → IsOk (with_line before line) → BeginsWithPayment ls
first_line before [] i line at behind ok = absurd (omega (arith, at.0))
first_line before (l ∷ ls) zero line at behind ok = subst (λ (x : List ℕ). IsSome (comma_cut x)) at.1 (some_cut before (comma_cut line) ok)
first_line before (l ∷ ls) (suc i) line at behind ok = behind (omega arith)
