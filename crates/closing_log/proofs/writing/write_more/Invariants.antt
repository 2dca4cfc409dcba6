use Rattle.std.proofs.Common.{ℕ, ◌∷◌, take}
use Rattle.std.specs.Fmt.{decimal}
use Rattle.std.specs.List.{flat_map}
use Rattle.fund_base.specs.Writer.{Feeds}
use Rattle.closing_log.proofs.writing.write_more.Given as goal

abbrev pub invariant-loop-place : goal.invariant-loop-place
invariant-loop-place g l = Feeds g.W.Writer.holds l.fn.out l.out (flat_map (λ (q : ℕ). 32 ∷ decimal q) (take l.place-index l.places))
