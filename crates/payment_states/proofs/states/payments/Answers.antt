use Rattle.std.proofs.Common.{◌≡◌, ◌∙◌, ◌++◌, ◌∷◌, [], false, None, get_or, sym, ap, arith}
use Rattle.std.specs.Prelude.{option_and_then, slice_get}
use Rattle.std.proofs.lemmas.List.{get_or_default}
use Rattle.payment_states.specs.Graph.{below}
use Rattle.payment_states.specs.Least.{value_at}
use Rattle.payment_states.specs.Payments.{first_of}
use Rattle.payment_states.specs.ByPlace.{payment_by}
use Rattle.payment_states.proofs.Below.{map_below_more}
use Rattle.payment_states.proofs.states.payments.Goals as goal

pub loop-place-init : goal.loop-place-init
unfolding below
loop-place-init c = c.new-payments.ensures.items

pub loop-place-preserved : goal.loop-place-preserved
loop-place-preserved c =
    let i = c.loop-place.place in
    let txids = c.args.txids.now in
    let f = payment_by txids c.args.heights.now c.args.conflicts.now c.args.abandoned.now c.args.found.now c.args.firsts.now in
    let name : c.index-txids-place.result ≡ get_or txids i [] = c.index-txids-place.is ∙ get_or_default txids i c.index-txids-place.result [] c.loop-place-test.true in
    let conflict : c.index-conflicts-place.result ≡ get_or c.args.conflicts.now i None = c.index-conflicts-place.is ∙ get_or_default c.args.conflicts.now i c.index-conflicts-place.result None (omega arith) in
    let by : c.name_at-by.result ≡ option_and_then (slice_get txids) (option_and_then (value_at c.args.found.now) (value_at c.args.firsts.now i)) = c.name_at-by.ensures ∙ ap (option_and_then (slice_get txids)) c.value_of.ensures in
    let one : record { txid = c.index-txids-place.result; state = c.first_of-state.result } ≡ f i =
    λ k. record { txid = name k; state = (c.first_of-state.ensures ∙ (λ j. first_of (value_at c.args.heights.now i) (conflict j) (get_or c.args.abandoned.now i false) (by j))) k } in
    c.in_ok-push.ensures.items ∙ (λ k. c.loop-place.invariant k ++ one k ∷ []) ∙ sym (map_below_more f i)
