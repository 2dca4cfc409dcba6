use Rattle.std.proofs.Common.{◌∙◌, ℕ, List, Option, map, ap, arith}
use Rattle.std.specs.Prelude.{option_and_then, nat_eq}
use Rattle.std.specs.Map.{lookup}
use Rattle.std.proofs.lemmas.List.{take_all}
use Rattle.payment_states.proofs.conflicts.names_at.Goals as goal

pub loop-place-init : goal.loop-place-init
loop-place-init c = (c.new-txids.ensures.items, c.new-txids.ensures.len)

pub returns-clause-names : goal.returns-clause-names
returns-clause-names c =
    let f : Option ℕ → Option (List ℕ) = option_and_then (λ k. lookup (nat_eq k) c.args.names.now.entries) in
    c.loop-place.invariant.0 ∙ ap (λ (ps : List (Option ℕ)). map f ps) (take_all c.loop-place.place-index c.args.places.now c.loop-place-test.false)

pub returns-clause-len : goal.returns-clause-len
returns-clause-len c = omega (arith, c.loop-place.invariant.1)
