use Rattle.std.proofs.Common.{◌≡◌, ◌∙◌, ◌||◌, Bool, true, false, cond, refl, sym, ap}
use Rattle.std.specs.Prelude.{bytes_eq}
use Rattle.indexmap.specs.IndexSet.{contains}
use Rattle.payment_states.specs.Candidates.{is_replaced_by}
use Rattle.payment_states.specs.declared.state.State.{State}
use Rattle.payment_states.proofs.claims.add_replacer.Goals as goal

turn : (b a : Bool) → cond b true a ≡ (a || b)
turn true true = refl
turn true false = refl
turn false true = refl
turn false false = refl

pub returns-in_ok-insert-in-Replaced : goal.returns-in_ok-insert-in-Replaced
returns-in_ok-insert-in-Replaced c = λ t.
    c.in_ok-insert-in-Replaced.ensures.updates.0 t
    ∙ turn (bytes_eq c.in-Replaced.by t) (contains bytes_eq c.args.set.now t)
    ∙ ap (λ (s : State). contains bytes_eq c.args.set.now t || is_replaced_by t s) (sym c.in-Replaced.is)
