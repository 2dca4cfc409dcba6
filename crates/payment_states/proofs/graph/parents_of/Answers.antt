use Rattle.std.proofs.Common.{◌≡◌, ◌∙◌, ℕ, ◌++◌, List, Option, Vec, Global, sym, ap}
use Rattle.std.specs.Option.{option_to_list}
use Rattle.std.proofs.lemmas.List.{append-nil, take_all}
use Rattle.tx_codec.specs.declared.tx.TxIn.{TxIn}
use Rattle.payment_states.specs.ByPlace.{parents_by, place_by}
use Rattle.payment_states.proofs.GraphSteps.{filter_map_more}
use Rattle.payment_states.proofs.graph.parents_of.Goals as goal
use Rattle.payment_states.proofs.graph.parents_of.Goals.{in-Some+in_ok-push-in-Some, in-None}

pub loop-input-preserved : goal.loop-input-preserved
loop-input-preserved c =
    let old = c.loop-input.places.items in
    let new = c.match-open_place.places.items in
    let more : new ≡ old ++ option_to_list c.open_place.result =
    elim c.match-open_place.branch [
      | in-Some+in_ok-push-in-Some w ↦ ap (λ (v : Vec ℕ Global). v.items) w.places-is ∙ w.in_ok-push-in-Some.ensures.items ∙ ap (λ (o : Option ℕ). old ++ option_to_list o) (sym w.in-Some.is)
      | in-None w ↦ ap (λ (v : Vec ℕ Global). v.items) w.places-is ∙ sym (append-nil old) ∙ ap (λ (o : Option ℕ). old ++ option_to_list o) (sym w.in-None.is)
    ]
    in
    let place : TxIn → Option ℕ = λ i. place_by c.args.book.now.confirmed c.args.txids.now.keys i.prev.txid in
    more
    ∙ (λ k. c.loop-input.invariant k ++ option_to_list ((c.open_place.ensures ∙ ap place c.input-item.is) k))
    ∙ sym (filter_map_more place c.args.inputs.now c.loop-input.input-index c.input-item.result c.loop-input-test.true)

pub returns : goal.returns
returns c =
    c.new.ensures ∙ c.loop-input.invariant
    ∙ ap (λ (is : List TxIn). parents_by c.args.book.now.confirmed c.args.txids.now.keys is) (take_all c.loop-input.input-index c.args.inputs.now c.loop-input-test.false)
