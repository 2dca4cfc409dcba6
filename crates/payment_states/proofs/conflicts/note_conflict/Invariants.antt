use Rattle.std.proofs.Common.{◌≡◌, ℕ, take, Some}
use Rattle.payment_states.specs.ByPlace.{FindsTxid, first_conflict}
use Rattle.payment_states.proofs.conflicts.note_conflict.Given as goal

abbrev pub invariant-loop-input : goal.invariant-loop-input
invariant-loop-input l =
    (l.least ≡ first_conflict l.book.confirmed (take l.input-index l.inputs))
    × ((k : ℕ) → l.least ≡ Some k → FindsTxid l.book.confirmed l.names.entries k)
    × ((k : ℕ) → FindsTxid l.book.confirmed l.initial.names.entries k → FindsTxid l.book.confirmed l.names.entries k)
