use Rattle.closing_log.specs.LogText.{IsLogText}
use Rattle.closing_log.proofs.FirstFaults.{one_place}
use Rattle.closing_log.proofs.WrittenLaws.{one_count}
use Rattle.closing_log.proofs.laws.faults_have_one_place.Goals as goal

pub returns : goal.returns
returns c = record { place = one_place IsLogText; count = one_count }
