use Rattle.std.proofs.Common.{◌≡◌, ◌≢◌, ◌∙◌, ℕ, List, AllPairs, map, sym, ap, subst}
use Rattle.tx_codec.specs.Txid.{txid_of}
use Rattle.payment_states.specs.ByPlace.{view_by}
use Rattle.payment_states.specs.declared.state.Payment.{Payment}
use Rattle.payment_states.proofs.GraphSteps.{distinct_txids}
use Rattle.payment_states.proofs.StateSteps.{names_are}
use Rattle.payment_states.proofs.states.states_of.Goals as goal

-- the set has the txids in order, where the transactions are distinct
pub payments_of-requires-clause-set : goal.payments_of-requires-clause-set
payments_of-requires-clause-set c =
    let names : c.deref.result.now ≡ map txid_of c.args.pending.now = c.deref.ensures.value ∙ c.in_ok-names.ensures.txids in
    c.in_ok-txids.ensures.keys (subst (λ (l : List (List ℕ)). AllPairs (λ (s t : List ℕ). s ≢ t) l) (sym names) (distinct_txids c.args.pending.now c.requires.distinct)) ∙ names

pub invariant_of-result : goal.invariant_of-result
invariant_of-result c =
    let names : c.deref.result.now ≡ map txid_of c.args.pending.now = c.deref.ensures.value ∙ c.in_ok-names.ensures.txids in
    c.in_ok-txids.ensures.keys (subst (λ (l : List (List ℕ)). AllPairs (λ (s t : List ℕ). s ≢ t) l) (sym names) (distinct_txids c.args.pending.now c.requires.distinct))
    ∙ names
    ∙ sym (names_are (view_by c.args.book.now.confirmed c.args.pending.now c.args.abandoned.now))
    ∙ sym (ap (map (λ (p : Payment). p.txid)) c.in_ok-payments.ensures)
