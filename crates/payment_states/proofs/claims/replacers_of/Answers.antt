use Rattle.std.proofs.Common.{◌∙◌, ℕ, List, ap}
use Rattle.std.specs.Prelude.{bytes_eq}
use Rattle.std.specs.List.{list_any}
use Rattle.std.proofs.lemmas.List.{take_all}
use Rattle.payment_states.specs.Candidates.{is_replaced_by}
use Rattle.payment_states.specs.declared.state.Payment.{Payment}
use Rattle.payment_states.proofs.claims.replacers_of.Goals as goal

pub loop-payment-init : goal.loop-payment-init
loop-payment-init c = λ t. ap (λ (ks : List (List ℕ)). list_any (bytes_eq t) ks) c.new-set.ensures.empty

pub returns : goal.returns
returns c = λ t.
    c.loop-payment.invariant t
    ∙ ap (λ (ps : List Payment). list_any (λ (p : Payment). is_replaced_by t p.state) ps) (take_all c.loop-payment.payment-index c.args.payments.now c.loop-payment-test.false)
