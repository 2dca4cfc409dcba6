use Rattle.std.proofs.Common.{◌≡◌, ◌==◌, find, drop}
use Rattle.command_end.specs.StatusCode.{code_of}
use Rattle.command_end.specs.declared.status.Status.{Status}
use Rattle.people_advice.proofs.statuses.status_among.Given as goal

abbrev pub invariant-loop-status : goal.invariant-loop-status
invariant-loop-status l = find (λ (s : Status). code_of s == l.code) (drop l.status-index l.statuses) ≡ find (λ (s : Status). code_of s == l.code) l.statuses
