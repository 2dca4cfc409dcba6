-- A request whose recipients get other amounts.
use Rattle.std.proofs.Common.{◌≡◌, ◌∙◌, ◌<◌, ◌≤◌, ◌+◌, ℕ, zero, suc, List, [], ◌∷◌, ◌++◌, get_or, take, length, refl, ap, arith}
use Rattle.std.proofs.lemmas.List.{take_all}
use Rattle.request_text.specs.declared.request.Recipient.{Recipient}
use Rattle.command_amounts.specs.Amounts.{given}

-- one recipient more
pub given_more : (qs : List Recipient) (ns : List ℕ) (i : ℕ) (d : Recipient) (e : ℕ) → length ns ≡ length qs → i < length qs
    → given (take i qs) (take i ns) ++ (record (get_or qs i d) { amount = get_or ns i e }) ∷ [] ≡ given (take (suc i) qs) (take (suc i) ns)
given_more [] ns i d e same less = absurd (omega (arith, less))
given_more (q ∷ qs) [] i d e same less = absurd (omega (arith, same))
given_more (q ∷ qs) (n ∷ ns) zero d e same less = refl
given_more (q ∷ qs) (n ∷ ns) (suc i) d e same less = ap (λ (l : List Recipient). record q { amount = n } ∷ l) (given_more qs ns i d e (omega (arith, same)) (omega (arith, less)))

same_place : (qs : List Recipient) (ns : List ℕ) (m n : ℕ) → m ≡ n → given (take m qs) (take m ns) ≡ given (take n qs) (take n ns)
same_place qs ns m n e = ap (λ (x : ℕ). given (take x qs) (take x ns)) e

pub given_next : (qs : List Recipient) (ns : List ℕ) (i : ℕ) (q : Recipient) (copies : List Recipient) → length ns ≡ length qs → i < length qs → q ≡ get_or qs i q → copies ≡ given (take i qs) (take i ns)
    → copies ++ (record q { amount = get_or ns i 0 }) ∷ [] ≡ given (take (i + 1) qs) (take (i + 1) ns)
given_next qs ns i q copies same less at so_far =
    ap (λ (l : List Recipient). l ++ (record q { amount = get_or ns i 0 }) ∷ []) so_far
    ∙ (ap (λ (x : Recipient). given (take i qs) (take i ns) ++ (record x { amount = get_or ns i 0 }) ∷ []) at
    ∙ (given_more qs ns i q 0 same less ∙ same_place qs ns (suc i) (i + 1) (omega arith)))

pub given_all : (qs : List Recipient) (ns : List ℕ) (i : ℕ) (copies : List Recipient) → length ns ≡ length qs → length qs ≤ i → copies ≡ given (take i qs) (take i ns) → copies ≡ given qs ns
given_all qs ns i copies same most so_far =
    so_far ∙ (ap (λ (l : List Recipient). given l (take i ns)) (take_all i qs most) ∙ ap (given qs) (take_all i ns (omega (arith, same, most))))
