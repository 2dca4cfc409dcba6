use Rattle.std.proofs.Common.{◌≡◌, ◌∙◌, ℕ, List, map, Option, Some, None, sym, ap}
use Rattle.std.specs.Prelude.{position, option_map, option_and_then, slice_get, bytes_eq}
use Rattle.payment_states.specs.Payments.{state_of}
use Rattle.payment_states.specs.declared.state.Payment.{Payment}
use Rattle.known_fees.proofs.Positions.{find_by_place, map_place, position-map}
use Rattle.payment_states.proofs.states.States.state.Goals as goal

-- a look-up by place, where the keys are the txids
looked_up : (txid : List ℕ) (ps : List Payment) (keys : List (List ℕ)) (r : Option ℕ) → keys ≡ map (λ (p : Payment). p.txid) ps → r ≡ position (bytes_eq txid) keys
    → option_and_then (λ i. option_map (λ (p : Payment). p.state) (slice_get ps i)) r ≡ state_of ps txid
looked_up txid ps keys r k e =
    map_place (λ (p : Payment). p.state) ps r
    ∙ ap (λ (o : Option ℕ). option_map (λ (p : Payment). p.state) (option_and_then (slice_get ps) o)) (e ∙ ap (position (bytes_eq txid)) k ∙ position-map (bytes_eq txid) (λ (p : Payment). p.txid) ps)
    ∙ ap (option_map (λ (p : Payment). p.state)) (find_by_place (λ (p : Payment). bytes_eq txid p.txid) ps)

pub returns-in-Some : goal.returns-in-Some
returns-in-Some c =
    c.state_in.ensures
    ∙ ap (λ (ps : List Payment). option_map (λ (p : Payment). p.state) (slice_get ps c.in-Some.place)) c.deref.ensures.value
    ∙ looked_up c.args.txid.now c.self.inside.payments.items c.self.inside.txids.keys (Some c.in-Some.place) c.self.invariant (sym c.in-Some.is ∙ c.get_index_of.ensures.index)
    ∙ ap (λ (ps : List Payment). state_of ps c.args.txid.now) c.self.view_is

pub returns-in-None : goal.returns-in-None
returns-in-None c =
    looked_up c.args.txid.now c.self.inside.payments.items c.self.inside.txids.keys None c.self.invariant (sym c.in-None.is ∙ c.get_index_of.ensures.index)
    ∙ ap (λ (ps : List Payment). state_of ps c.args.txid.now) c.self.view_is
