-- The Pending ones among the ancestors and the descendants of a pending transaction.
use Rattle.std.specs.Prelude.{ℕ, List, length, filter}
use Rattle.payment_states.specs.Candidates.{is_pending}
use Rattle.payment_states.specs.Graph.{below, within}
use Rattle.payment_states.specs.PendingView.{PendingView, kin_of, graph}

-- the places of those that are Pending among the one at a place and its ancestors, rising
abbrev pub pending_above : PendingView → ℕ → List ℕ
pending_above w i = filter (is_pending w) (kin_of w i)

-- a place and those that reach it by going from child to parent, rising
abbrev pub heirs : PendingView → ℕ → List ℕ
heirs w i = filter (λ j. within (graph w) (length (graph w)) j i) (below (length w.pending))

-- the places of those that are Pending among the one at a place and its descendants, rising
abbrev pub pending_below : PendingView → ℕ → List ℕ
pending_below w i = filter (is_pending w) (heirs w i)
