use Rattle.std.proofs.Common.{◌≡◌, take}
use Rattle.search_run.proofs.keeping.copy_sections.Given as goal

abbrev pub invariant-loop-section : goal.invariant-loop-section
invariant-loop-section l = l.copied.items ≡ take l.section-index l.sections
