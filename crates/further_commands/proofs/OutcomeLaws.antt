-- What the files of a command come to is one.
use Rattle.std.proofs.Common.{◌≡◌, ◌∙◌, ℕ, List, ap, sym}
use Rattle.command_settle.proofs.OutcomeLaws as settle_payment_outcomes
use Rattle.command_settle.specs.Outcome as settles
use Rattle.further_commands.specs.Command.{FurtherCommand, Wide, Settle, Share, Sweep}
use Rattle.further_commands.specs.Outcome.{ComesTo, Outcome, OfSettle}

pub one_outcome : (files : List ℕ → List ℕ) (c : FurtherCommand) (a b : Outcome) → ComesTo files c a → ComesTo files c b → a ≡ b
one_outcome files (Wide s p) a b x y = x ∙ sym y
one_outcome files (Settle n) a b x y = x.2 ∙ ap (λ (due : settles.Outcome). OfSettle due) (settle_payment_outcomes.one_outcome files n x.0 y.0 x.1 y.1) ∙ sym y.2
one_outcome files (Share s p) a b x y = x ∙ sym y
one_outcome files (Sweep s request) a b x y = x ∙ sym y
