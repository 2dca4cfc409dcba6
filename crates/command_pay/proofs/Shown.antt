-- The lines of recipients that get other amounts, one by one.
use Rattle.std.proofs.Common.{◌≡◌, ◌≤◌, ◌<◌, ◌+◌, ◌∙◌, ℕ, zero, suc, List, [], ◌∷◌, ◌++◌, length, get_or, take, refl, sym, ap, arith, append-nil, append_assoc}
use Rattle.std.specs.Prelude.{min}
use Rattle.std.proofs.lemmas.List.{take_all}
use Rattle.request_making.specs.declared.payment.Payment.{Payment}
use Rattle.command_pay.specs.Table.{gets_line, shares_text}

next : (ps : List Payment) (ns : List ℕ) (i : ℕ) (d : Payment) → i < length ps → i < length ns → shares_text (take (suc i) ps) (take (suc i) ns) ≡ shares_text (take i ps) (take i ns) ++ gets_line (get_or ps i d).to (get_or ns i 0)
next [] ns i d within below = absurd (omega (arith, within))
next (p ∷ ps) [] i d within below = absurd (omega (arith, below))
next (p ∷ ps) (n ∷ ns) zero d within below = append-nil (gets_line p.to n)
next (p ∷ ps) (n ∷ ns) (suc i) d within below =
    ap (λ (t : List ℕ). gets_line p.to n ++ t) (next ps ns i d (omega (arith, within)) (omega (arith, below)))
    ∙ sym (append_assoc (gets_line p.to n) (shares_text (take i ps) (take i ns)) (gets_line (get_or ps i d).to (get_or ns i 0)))

same_place : (ps : List Payment) (ns : List ℕ) (m n : ℕ) → m ≡ n → shares_text (take m ps) (take m ns) ≡ shares_text (take n ps) (take n ns)
same_place ps ns m n e = ap (λ (x : ℕ). shares_text (take x ps) (take x ns)) e

-- one recipient more
pub shares_more : (ps : List Payment) (ns : List ℕ) (i : ℕ) (d : Payment) (front so_far said after : List ℕ) → i < min (length ps) (length ns) → so_far ≡ front ++ shares_text (take i ps) (take i ns) → after ≡ so_far ++ said → said ≡ gets_line (get_or ps i d).to (get_or ns i 0)
    → after ≡ front ++ shares_text (take (i + 1) ps) (take (i + 1) ns)
shares_more ps ns i d front so_far said after within before made says =
    let last : List ℕ = gets_line (get_or ps i d).to (get_or ns i 0) in
    made
    ∙ ap (λ (t : List ℕ). t ++ said) before
    ∙ ap (λ (t : List ℕ). (front ++ shares_text (take i ps) (take i ns)) ++ t) says
    ∙ append_assoc front (shares_text (take i ps) (take i ns)) last
    ∙ ap (λ (t : List ℕ). front ++ t) (sym (next ps ns i d (omega (arith, within)) (omega (arith, within))) ∙ same_place ps ns (suc i) (i + 1) (omega arith))

-- as many as there are recipients or amounts
done : (ps : List Payment) (ns : List ℕ) (i : ℕ) → min (length ps) (length ns) ≤ i → shares_text (take i ps) (take i ns) ≡ shares_text ps ns
done [] ns zero most = refl
done [] ns (suc i) most = refl
done (p ∷ ps) [] zero most = refl
done (p ∷ ps) [] (suc i) most = refl
done (p ∷ ps) (n ∷ ns) zero most = absurd (omega (arith, most))
done (p ∷ ps) (n ∷ ns) (suc i) most = ap (λ (t : List ℕ). gets_line p.to n ++ t) (done ps ns i (omega (arith, most)))

pub shares_all : (ps : List Payment) (ns : List ℕ) (i : ℕ) (front so_far : List ℕ) → min (length ps) (length ns) ≤ i → so_far ≡ front ++ shares_text (take i ps) (take i ns) → so_far ≡ front ++ shares_text ps ns
shares_all ps ns i front so_far most before = before ∙ ap (λ (t : List ℕ). front ++ t) (done ps ns i most)
