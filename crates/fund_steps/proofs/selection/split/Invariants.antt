use Rattle.std.proofs.Common.{◌≡◌, filter}
use Rattle.fund_steps.specs.Listed.{is_preset}
use Rattle.fund_steps.specs.Selection.{by_outpoint, unlisted}
use Rattle.fund_steps.proofs.selection.split.Given as goal

abbrev pub invariant-loop-candidate : goal.invariant-loop-candidate
invariant-loop-candidate l = (l.chosen.entries ≡ by_outpoint (filter (is_preset l.request) l.yielded)) × (l.rest.items ≡ unlisted l.request.coins l.yielded)
