-- Marks at the places of a graph.
use Rattle.std.proofs.Common.{◌≡◌, ◌∙◌, ℕ, ◌<◌, ◌&&◌, Bool, false, List, length, get_or, sym, ap, arith}
use Rattle.std.specs.Prelude.{count_by}
use Rattle.std.proofs.lemmas.Bool.{false_from_ne_true}
use Rattle.payment_states.specs.Counts.{is_counted, ups}
use Rattle.payment_states.specs.Graph.{IsInOrder, below, within}
use Rattle.payment_states.proofs.CountSteps.{count_agree, count_filter}
use Rattle.payment_states.proofs.Paths.{decides, no_later}

-- none stands later
pub later : (g : List (List ℕ)) (i j : ℕ) → IsInOrder g → i < length g → i < j → within g (length g) i j ≡ false
later g i j order lt b = false_from_ne_true (within g (length g) i j) (λ h. let le = no_later g order ((decides g i j order lt).0 h) lt in absurd (omega arith))

-- the marked ones that are counted
pub ups_are : (g : List (List ℕ)) (counted marks : List Bool) (i : ℕ) → length marks ≡ length g → ((j : ℕ) → get_or marks j false ≡ within g (length g) i j)
    → count_by (λ j. is_counted counted j && get_or marks j false) (below (length marks)) ≡ ups g counted i
ups_are g counted marks i long is =
    ap (λ n. count_by (λ j. is_counted counted j && get_or marks j false) (below n)) long
    ∙ count_agree (λ j. is_counted counted j && get_or marks j false) (λ j. is_counted counted j && within g (length g) i j) (below (length g)) (λ j c. ap (λ b. is_counted counted j && b) (is j))
    ∙ sym (count_filter (is_counted counted) (within g (length g) i) (below (length g)))
