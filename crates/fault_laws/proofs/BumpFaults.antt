-- The words of why a payment isn't replaced tell that apart.
use Rattle.std.proofs.Common.{◌≡◌, ◌∙◌, ◌++◌, ◌∷◌, ℕ, List, [], Option, Some, None, codes, refl, sym, ap}
use Rattle.std.specs.Prelude.{IfSome}
use Rattle.std.specs.Fmt.{decimal}
use Rattle.fee_bump.specs.declared.fault.BumpFault.{BumpFault}
use Rattle.fee_bump.specs.declared.fault.BumpFault.TheVariants as bumps
use Rattle.fund_base.specs.declared.outpoint.OutPoint.{OutPoint}
use Rattle.payment_states.specs.declared.state.State.{State}
use Rattle.payment_states.specs.declared.state.State.TheVariants as states
use Rattle.command_end.proofs.CoinLaws.{coins_apart}
use Rattle.command_end.specs.Coin.{coin_text, shown_hash}
use Rattle.command_end.specs.Words.{bump_fault_words, found_words, state_words}
use Rattle.fault_laws.specs.Numbers.{HasBumpNumbers, HasStateNumbers}
use Rattle.fault_laws.proofs.OtherFaults.{shown}
use Rattle.fault_laws.proofs.ShownLaws.{hash_apart}
use Rattle.fault_laws.proofs.WordLaws.{after, decimal_apart, decimal_plain, differ, peel}

-- ---- states

state_apart : (s t : State) → HasStateNumbers s → HasStateNumbers t → state_words s ≡ state_words t → s ≡ t
unfolding state_words
state_apart (states.Confirmed m) (states.Confirmed n) p q e = ap (λ (k : ℕ). states.Confirmed k) (decimal_apart m n p q (after (codes "Confirmed ") (decimal m) (decimal n) e))
state_apart (states.Conflicted a) (states.Conflicted b) p q e = ap (λ (h : List ℕ). states.Conflicted h) (hash_apart a b p q (after (codes "Conflicted ") (shown_hash a) (shown_hash b) e))
state_apart states.Abandoned states.Abandoned p q e = refl
state_apart (states.Replaced a) (states.Replaced b) p q e = ap (λ (h : List ℕ). states.Replaced h) (hash_apart a b p q (after (codes "Replaced ") (shown_hash a) (shown_hash b) e))
state_apart states.Pending states.Pending p q e = refl
state_apart s t p q e = absurd (differ (state_words s) (state_words t) refl e)

none_apart : (s : State) → codes "None" ≡ state_words s → ⊥
unfolding state_words
none_apart (states.Confirmed m) e = differ (codes "None") (codes "Confirmed " ++ decimal m) refl e
none_apart (states.Conflicted a) e = differ (codes "None") (codes "Conflicted " ++ shown_hash a) refl e
none_apart states.Abandoned e = differ (codes "None") (codes "Abandoned") refl e
none_apart (states.Replaced a) e = differ (codes "None") (codes "Replaced " ++ shown_hash a) refl e
none_apart states.Pending e = differ (codes "None") (codes "Pending") refl e

found_apart : (s t : Option State) → IfSome s HasStateNumbers → IfSome t HasStateNumbers → found_words s ≡ found_words t → s ≡ t
unfolding found_words
found_apart None None p q e = refl
found_apart None (Some t) p q e = absurd (none_apart t e)
found_apart (Some s) None p q e = absurd (none_apart s (sym e))
found_apart (Some s) (Some t) p q e = ap (λ (x : State). Some x) (state_apart s t p q e)

-- ---- why a payment isn't replaced

-- what stands behind the words of the fault line
abbrev behind : BumpFault → List ℕ
behind (bumps.NotPending found) = codes "NotPending " ++ found_words found
behind bumps.NotSignalling = codes "NotSignalling"
behind (bumps.ForeignInput coin) = codes "ForeignInput " ++ coin_text coin
behind (bumps.TooManyEvicted n) = codes "TooManyEvicted " ++ decimal n
behind bumps.RateBelowIncrement = codes "RateBelowIncrement"
behind (bumps.RateNotHigher fee vsize) = codes "RateNotHigher " ++ (decimal fee ++ (32 ∷ decimal vsize))
behind bumps.Memory = []

behind_apart : (a b : BumpFault) → HasBumpNumbers a → HasBumpNumbers b → behind a ≡ behind b → a ≡ b
behind_apart (bumps.NotPending s) (bumps.NotPending t) p q e = ap (λ (x : Option State). bumps.NotPending x) (found_apart s t p q (after (codes "NotPending ") (found_words s) (found_words t) e))
behind_apart bumps.NotSignalling bumps.NotSignalling p q e = refl
behind_apart (bumps.ForeignInput c) (bumps.ForeignInput d) p q e = ap (λ (x : OutPoint). bumps.ForeignInput x) (coins_apart c d (shown c p) (shown d q) (after (codes "ForeignInput ") (coin_text c) (coin_text d) e))
behind_apart (bumps.TooManyEvicted m) (bumps.TooManyEvicted n) p q e = ap (λ (k : ℕ). bumps.TooManyEvicted k) (decimal_apart m n p q (after (codes "TooManyEvicted ") (decimal m) (decimal n) e))
behind_apart bumps.RateBelowIncrement bumps.RateBelowIncrement p q e = refl
behind_apart (bumps.RateNotHigher f u) (bumps.RateNotHigher g v) p q e =
    let rest = after (codes "RateNotHigher ") (decimal f ++ (32 ∷ decimal u)) (decimal g ++ (32 ∷ decimal v)) e in
    let first = peel (decimal f) (decimal g) (decimal u) (decimal v) (decimal_plain f p.0) (decimal_plain g q.0) rest in
    ap (λ (k : ℕ). bumps.RateNotHigher k u) (decimal_apart f g p.0 q.0 first.0) ∙ ap (λ (k : ℕ). bumps.RateNotHigher g k) (decimal_apart u v p.1 q.1 first.1)
behind_apart bumps.Memory bumps.Memory p q e = refl
behind_apart a b p q e = absurd (differ (behind a) (behind b) refl e)

pub bump_apart : (a b : BumpFault) → HasBumpNumbers a → HasBumpNumbers b → bump_fault_words a ≡ bump_fault_words b → a ≡ b
unfolding bump_fault_words
bump_apart bumps.Memory bumps.Memory p q e = refl
bump_apart bumps.Memory b p q e = absurd (differ (bump_fault_words bumps.Memory) (bump_fault_words b) refl e)
bump_apart a bumps.Memory p q e = absurd (differ (bump_fault_words a) (bump_fault_words bumps.Memory) refl e)
bump_apart a b p q e = behind_apart a b p q (after (codes "input bump ") (behind a) (behind b) e)
