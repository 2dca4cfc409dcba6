use Rattle.std.proofs.Common.{◌≤◌, length}
use Rattle.fund_files.proofs.first_pass.look_in_records.Given as goal

abbrev pub invariant-records : goal.invariant-records
invariant-records l = length l.left ≤ length l.bytes

abbrev pub decreases-records : goal.decreases-records
decreases-records l = length l.left
