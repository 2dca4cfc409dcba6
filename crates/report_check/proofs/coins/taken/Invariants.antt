use Rattle.std.specs.Prelude.{option_copied}
use Rattle.std.specs.List.{AllZip}
use Rattle.std.proofs.Common.{take}
use Rattle.report_check.specs.Finding.{Takes}
use Rattle.report_check.proofs.coins.taken.Given as goal

abbrev pub invariant-taking : goal.invariant-taking
invariant-taking l = AllZip (Takes l.presets l.rest (option_copied l.row)) (take l.input-index l.inputs) l.coins.items
