-- The lines of what recipients get.
use Rattle.std.proofs.Common.{◌≡◌, ◌∙◌, ◌+◌, ◌<◌, ℕ, suc, List, [], ◌∷◌, ◌++◌, length, get_or, take, sym, ap, append_assoc, arith}
use Rattle.std.proofs.lemmas.List.{length-take-le, take_more}
use Rattle.command_end.specs.LinesText.{lines_text}
use Rattle.command_amounts.proofs.LineLaws.{lines_append}
use Rattle.command_share.specs.Outcome.{pay_line, pay_lines}

lines_of : (place : ℕ) (xs : List ℕ) (y : ℕ) → pay_lines place (xs ++ y ∷ []) ≡ pay_lines place xs ++ pay_line (length xs + place) y ∷ []
lines_of place [] y = ap (λ (n : ℕ). pay_line n y ∷ []) (none_plus place)
  where
    none_plus : (n : ℕ) → n ≡ 0 + n
    none_plus n = omega arith
lines_of place (x ∷ xs) y =
    ap (λ (l : List (List ℕ)). pay_line place x ∷ l)
    (lines_of (suc place) xs y ∙ ap (λ (n : ℕ). pay_lines (suc place) xs ++ pay_line n y ∷ []) (later (length xs) place))
  where
    later : (n place : ℕ) → n + suc place ≡ suc n + place
    later n place = omega arith

-- the line of one recipient more
pub pays_more : (amounts : List ℕ) (i amount : ℕ) (old text : List ℕ) → i < length amounts → amount ≡ get_or amounts i 0 → text ≡ old ++ lines_text (pay_lines 0 (take i amounts))
    → text ++ lines_text (pay_line i amount ∷ []) ≡ old ++ lines_text (pay_lines 0 (take (i + 1) amounts))
pays_more amounts i amount old text lt is so_far =
    let count : length (take i amounts) + 0 ≡ i = omega (arith, length-take-le i amounts (omega (arith, lt))) in
    ap (λ (l : List ℕ). l ++ lines_text (pay_line i amount ∷ [])) so_far
    ∙ append_assoc old (lines_text (pay_lines 0 (take i amounts))) (lines_text (pay_line i amount ∷ []))
    ∙ ap (λ (l : List ℕ). old ++ l)
    (sym (lines_append (pay_lines 0 (take i amounts)) (pay_line i amount ∷ []))
    ∙ ap (λ (l : List (List ℕ)). lines_text l)
    (ap (λ (n : ℕ). pay_lines 0 (take i amounts) ++ pay_line n amount ∷ []) (sym count)
    ∙ sym (lines_of 0 (take i amounts) amount)
    ∙ ap (pay_lines 0) (sym (take_more amounts i 0 lt ∙ ap (λ (d : ℕ). take i amounts ++ d ∷ []) (sym is)))))
