use Rattle.wide_check.proofs.SectionLaws.{accepted_is, accepted_without_fault, never_unmet, one_fault}
use Rattle.wide_check.proofs.TotalLaws.{judged}
use Rattle.wide_check.proofs.laws.wide_sections_are_judged.Goals as goal

pub returns : goal.returns
returns c = record { accepted = accepted_is; apart = accepted_without_fault; one = one_fault; some = judged; met = never_unmet }
