-- The Pending ones that a place reaches, and those that reach it, by marks.
use Rattle.std.proofs.Common.{◌≡◌, ◌∙◌, ℕ, ◌<◌, ◌||◌, ◌==◌, Bool, false, List, length, map, filter, get_or, sym, ap, arith, Contains}
use Rattle.std.specs.List.{list_any}
use Rattle.std.proofs.lemmas.List.Elements.{All-contains, All-contains_itself, All-filter, All-weaker}
use Rattle.payment_states.specs.Candidates.{is_pending}
use Rattle.payment_states.specs.Graph.{IsInOrder, below, kin, steps, within}
use Rattle.payment_states.specs.PendingView.{PendingView, kin_of, graph}
use Rattle.payment_states.proofs.Below.{below_within, get_or-map_below}
use Rattle.payment_states.proofs.FactSteps.{filter_agree_in, flag_is, graph_count}
use Rattle.payment_states.proofs.AbandonedSteps.{kin_within}
use Rattle.payment_states.proofs.Paths.{any_agree, parent_before, within_step}
use Rattle.payment_facts.specs.Pendings.{heirs, pending_above, pending_below}

-- a place reaches another where it is that one or a parent is marked, if those before it are marked that do
pub reached : (g : List (List ℕ)) (given i : ℕ) (ps : List ℕ) (marks : List Bool) → IsInOrder g → i < length g → ps ≡ steps g i → marks ≡ map (λ j. within g (length g) j given) (below i)
    → ((i == given) || list_any (λ p. get_or marks p false) ps) ≡ within g (length g) i given
reached g given i ps marks order lt ps_are marks_are =
    (λ k. (i == given) || list_any (λ p. get_or (marks_are k) p false) (ps_are k))
    ∙ ap (λ b. (i == given) || b)
    (any_agree (λ p. get_or (map (λ j. within g (length g) j given) (below i)) p false) (λ p. within g (length g) p given) (steps g i)
    (λ p c. get_or-map_below (λ j. within g (length g) j given) i p false (parent_before g i p order lt c)))
    ∙ sym (within_step g i given order lt)

module _ (w : PendingView) where
  pub above_are : (place n : ℕ) (g : List (List ℕ)) (marks flags : List Bool) → g ≡ graph w → n ≡ length g → flags ≡ map (is_pending w) (below (length w.pending)) → ((j : ℕ) → get_or marks j false ≡ within g (length g) place j)
      → filter (λ j. get_or flags j false) (filter (λ j. get_or marks j false) (below n)) ≡ pending_above w place
  above_are place n g marks flags g_is n_is flags_are marks_are =
      (λ k. filter (λ j. get_or flags j false) (filter (λ j. marks_are j k) (below (n_is k))))
      ∙ ap (λ (l : List (List ℕ)). filter (λ j. get_or flags j false) (kin l place)) g_is
      ∙ filter_agree_in (λ j. get_or flags j false) (is_pending w) (kin_of w place) (λ j c. let n = graph_count w in let lt = kin_within (graph w) place j c in flag_is w flags flags_are j (omega arith))

  heirs_within : (place j : ℕ) → Contains (heirs w place) j → j < length w.pending
  heirs_within place j c =
      All-contains (λ k. k < length w.pending) (heirs w place) j
      (All-filter (λ k. within (graph w) (length (graph w)) k place) (λ k. k < length w.pending) (below (length w.pending))
      (All-weaker (Contains (below (length w.pending))) (λ k. k < length w.pending) (λ k in'. below_within (length w.pending) k in') (below (length w.pending)) (All-contains_itself (below (length w.pending))))) c

  pub below_are : (place n : ℕ) (g : List (List ℕ)) (marks flags : List Bool) → g ≡ graph w → n ≡ length g → flags ≡ map (is_pending w) (below (length w.pending)) → marks ≡ map (λ j. within g (length g) j place) (below (length g))
      → filter (λ j. get_or flags j false) (filter (λ j. get_or marks j false) (below n)) ≡ pending_below w place
  below_are place n g marks flags g_is n_is flags_are marks_are =
      ap (λ m. filter (λ j. get_or flags j false) (filter (λ j. get_or marks j false) (below m))) n_is
      ∙ ap (filter (λ j. get_or flags j false))
      (filter_agree_in (λ j. get_or marks j false) (λ j. within g (length g) j place) (below (length g))
      (λ j c. ap (λ (l : List Bool). get_or l j false) marks_are ∙ get_or-map_below (λ j. within g (length g) j place) (length g) j false (below_within (length g) j c)))
      ∙ (λ k. filter (λ j. get_or flags j false) (filter (λ j. within (g_is k) (length (g_is k)) j place) (below (length (g_is k)))))
      ∙ ap (λ m. filter (λ j. get_or flags j false) (filter (λ j. within (graph w) (length (graph w)) j place) (below m))) (graph_count w)
      ∙ filter_agree_in (λ j. get_or flags j false) (is_pending w) (heirs w place) (λ j c. flag_is w flags flags_are j (heirs_within place j c))
