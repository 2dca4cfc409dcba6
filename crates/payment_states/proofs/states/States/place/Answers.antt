use Rattle.std.proofs.Common.{◌≡◌, ◌∙◌, ℕ, List, [], ap, sym}
use Rattle.std.proofs.lemmas.Bool.{eqb-true}
use Rattle.std.proofs.lemmas.List.{nil_from_length}
use Rattle.std.specs.Prelude.{bytes_eq, position}
use Rattle.payment_states.specs.ByPlace.{place_among}
use Rattle.payment_states.specs.declared.state.Payment.{Payment}
use Rattle.known_fees.proofs.Positions.{position-map}
use Rattle.payment_states.proofs.states.States.place.Goals as goal

pub returns-then-is_empty : goal.returns-then-is_empty
returns-then-is_empty c =
    let none : c.self.inside.payments.items ≡ [] = nil_from_length c.self.inside.payments.items (sym c.self.inside.payments.ok.0 ∙ eqb-true _ _ (sym c.is_empty.ensures ∙ c.if-is_empty.true)) in
    ap (λ (ps : List Payment). place_among ps c.args.txid.now) (sym none ∙ c.self.view_is)

pub returns : goal.returns
returns c =
    c.get_index_of.ensures.index
    ∙ ap (λ (l : List (List ℕ)). position (bytes_eq c.args.txid.now) l) c.self.invariant
    ∙ position-map (bytes_eq c.args.txid.now) (λ (p : Payment). p.txid) c.self.inside.payments.items
    ∙ ap (λ (ps : List Payment). place_among ps c.args.txid.now) c.self.view_is
