-- Which files were asked for.
use Rattle.std.proofs.Common.{◌≡◌, ℕ, List, [], ◌∷◌, sym, subst}
use Rattle.fund_shelf.specs.Causes.{Asks, ShelfView}
use Rattle.fund_shelf.proofs.Asking.{asks_first, asks_then}
use Rattle.command_end.specs.Names.{Sources}
use Rattle.command_inputs.specs.Names.{Payment}
use Rattle.command_inputs.specs.Inputs as inputs
use Rattle.command_check.specs.Asked.{AsksInOrder, AsksNoLog}

-- the payment's alone
pub payment_asked : (s : Sources) (p : Payment) (report : List ℕ) (old new : ShelfView) → inputs.AsksInOrder s p old new → AsksInOrder s p report old new
payment_asked s p report old new a = asks_first (s.wallet ∷ s.blocks ∷ p.request ∷ []) (report ∷ p.log ∷ []) old.asked new.asked a

pub payment_no_log : (s : Sources) (p : Payment) (report : List ℕ) (old new : ShelfView) → inputs.AsksInOrder s p old new → AsksNoLog s p report old new
payment_no_log s p report old new a = asks_first (s.wallet ∷ s.blocks ∷ p.request ∷ []) (report ∷ []) old.asked new.asked a

-- and then those that are judged
pub both_asked : (s : Sources) (p : Payment) (report : List ℕ) (old middle new : ShelfView) → inputs.AsksInOrder s p old middle → Asks (report ∷ p.log ∷ []) middle.asked new.asked → AsksInOrder s p report old new
both_asked s p report old middle new a b = asks_then (s.wallet ∷ s.blocks ∷ p.request ∷ []) (report ∷ p.log ∷ []) old.asked middle.asked new.asked a b

pub report_asked : (s : Sources) (p : Payment) (report : List ℕ) (old middle new : ShelfView) → inputs.AsksInOrder s p old middle → Asks (report ∷ []) middle.asked new.asked → AsksNoLog s p report old new
report_asked s p report old middle new a b = asks_then (s.wallet ∷ s.blocks ∷ p.request ∷ []) (report ∷ []) old.asked middle.asked new.asked a b

-- ---- those that are judged

pub report_alone : (report log : List ℕ) (old new : ShelfView) → Asks (report ∷ []) old.asked new.asked → Asks (report ∷ log ∷ []) old.asked new.asked
report_alone report log old new a = asks_first (report ∷ []) (log ∷ []) old.asked new.asked a

pub report_and_log : (report log : List ℕ) (old middle new : ShelfView) → Asks (report ∷ []) old.asked middle.asked → Asks (log ∷ []) middle.asked new.asked → Asks (report ∷ log ∷ []) old.asked new.asked
report_and_log report log old middle new a b = asks_then (report ∷ []) (log ∷ []) old.asked middle.asked new.asked a b

pub asked_still : (report : List ℕ) (old middle new : ShelfView) → Asks (report ∷ []) old.asked middle.asked → new ≡ middle → Asks (report ∷ []) old.asked new.asked
asked_still report old middle new a same = subst (λ (v : ShelfView). Asks (report ∷ []) old.asked v.asked) (sym same) a
