-- Results at hand, gathered one after another.
use Rattle.std.specs.Prelude.{ℕ, ◌≡◌, ◌<◌, ◌≤◌, ◌+◌, true, false, List, [], ◌∷◌, ◌++◌, length, drop, get_or, if◌then◌else◌}
use Rattle.std.proofs.Common.{sym, ap, ◌∙◌, append_assoc}
use Rattle.std.proofs.lemmas.List.{append-nil, drop_all, drop_more}
use Rattle.pick_problem.proofs.Deciding.{if_true, if_false}
use Rattle.search_run.specs.Found.{PlainFound}
use Rattle.search_run.specs.Run.{drawn_here, later_draws}
use Rattle.search_run.specs.Step.{PlainStep}

later_at : (seed : List ℕ) (steps : List PlainStep) (i : ℕ) (y : PlainStep) → i < length steps → y ≡ get_or steps i y → later_draws seed (drop i steps) ≡ drawn_here seed y ++ (if y.last then [] else later_draws seed (drop (i + 1) steps))
later_at seed steps i y below is = ap (later_draws seed) (drop_more steps i y below ∙ ap (λ (z : PlainStep). z ∷ drop (i + 1) steps) (sym is))

-- the draws from this step on come behind what is at hand
pub hand_ends : (seed : List ℕ) (steps : List PlainStep) (i : ℕ) (y : PlainStep) (hand new all : List PlainFound) → i < length steps → y ≡ get_or steps i y → new ≡ hand ++ drawn_here seed y → y.last ≡ true → hand ++ later_draws seed (drop i steps) ≡ all → new ≡ all
hand_ends seed steps i y hand new all below is e last h =
    e
    ∙ (ap (λ (l : List PlainFound). hand ++ l) (sym (append-nil (drawn_here seed y)) ∙ ap (λ (l : List PlainFound). drawn_here seed y ++ l) (sym (if_true y.last [] (later_draws seed (drop (i + 1) steps)) last)))
    ∙ (ap (λ (l : List PlainFound). hand ++ l) (sym (later_at seed steps i y below is)) ∙ h))

pub hand_goes : (seed : List ℕ) (steps : List PlainStep) (i : ℕ) (y : PlainStep) (hand new all : List PlainFound) → i < length steps → y ≡ get_or steps i y → new ≡ hand ++ drawn_here seed y → y.last ≡ false → hand ++ later_draws seed (drop i steps) ≡ all → new ++ later_draws seed (drop (i + 1) steps) ≡ all
hand_goes seed steps i y hand new all below is e more h =
    ap (λ (l : List PlainFound). l ++ later_draws seed (drop (i + 1) steps)) e
    ∙ (append_assoc hand (drawn_here seed y) (later_draws seed (drop (i + 1) steps))
    ∙ (ap (λ (l : List PlainFound). hand ++ (drawn_here seed y ++ l)) (sym (if_false y.last [] (later_draws seed (drop (i + 1) steps)) more))
    ∙ (ap (λ (l : List PlainFound). hand ++ l) (sym (later_at seed steps i y below is)) ∙ h)))

pub hand_over : (seed : List ℕ) (steps : List PlainStep) (i : ℕ) (hand all : List PlainFound) → length steps ≤ i → hand ++ later_draws seed (drop i steps) ≡ all → hand ≡ all
hand_over seed steps i hand all over h = sym (append-nil hand) ∙ (ap (λ (l : List PlainStep). hand ++ later_draws seed l) (sym (drop_all i steps over)) ∙ h)
