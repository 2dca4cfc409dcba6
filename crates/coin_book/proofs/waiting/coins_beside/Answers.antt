use Rattle.std.proofs.Common.{◌∙◌, ap, sym, ℕ, List}
use Rattle.std.specs.Prelude.{bytes_eq, is_some}
use Rattle.std.specs.Map.{keys_of, lookup}
use Rattle.coin_book.specs.Invariant.{weigher}
use Rattle.coin_book.proofs.WaitSteps.{beside_fault, beside_made, beside_none}
use Rattle.coin_book.proofs.waiting.coins_beside.Goals as goal

pub returns-then-contains_key-clause-exact : goal.returns-then-contains_key-clause-exact
returns-then-contains_key-clause-exact c =
    beside_none (weigher c.args.weights.now.entries) c.args.heights.now.entries c.args.tx.now (keys_of c.args.pending.now.entries)
    (ap (λ (x : List ℕ). is_some (lookup (bytes_eq x) c.args.heights.now.entries)) (sym c.requires) ∙ sym c.contains_key.ensures ∙ c.if-contains_key.true)

pub returns-in-Ok-clause-made : goal.returns-in-Ok-clause-made
returns-in-Ok-clause-made c =
    beside_made (weigher c.args.weights.now.entries) c.args.heights.now.entries c.args.tx.now c.new-coins.result.entries _ c.in_ok-held.held.items
    (ap (λ (x : List ℕ). is_some (lookup (bytes_eq x) c.args.heights.now.entries)) (sym c.requires) ∙ sym c.contains_key.ensures ∙ c.if-contains_key.false)
    c.new-coins.ensures.empty c.in_ok-held.ensures.made c.in-Ok.ensures.added

pub returns-in-Ok-clause-exact : goal.returns-in-Ok-clause-exact
returns-in-Ok-clause-exact c =
    beside_fault (weigher c.args.weights.now.entries) c.args.heights.now.entries c.args.tx.now c.args.pending.now.entries c.new-coins.result.entries c.in_ok-held.held.items
    (ap (λ (x : List ℕ). is_some (lookup (bytes_eq x) c.args.heights.now.entries)) (sym c.requires) ∙ sym c.contains_key.ensures ∙ c.if-contains_key.false)
    c.new-coins.ensures.empty c.in_ok-held.ensures.made ∙ c.in-Ok.ensures.exact

pub returns-in-Err-clause-exact : goal.returns-in-Err-clause-exact
returns-in-Err-clause-exact c = λ other.
    beside_fault (weigher c.args.weights.now.entries) c.args.heights.now.entries c.args.tx.now c.args.pending.now.entries c.new-coins.result.entries c.in_ok-held.held.items
    (ap (λ (x : List ℕ). is_some (lookup (bytes_eq x) c.args.heights.now.entries)) (sym c.requires) ∙ sym c.contains_key.ensures ∙ c.if-contains_key.false)
    c.new-coins.ensures.empty c.in_ok-held.ensures.made ∙ c.in-Err.ensures.exact other
