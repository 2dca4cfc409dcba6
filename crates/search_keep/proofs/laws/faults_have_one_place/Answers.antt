use Rattle.closing_log.proofs.FirstFaults.{one_place}
use Rattle.search_keep.specs.SavedText.{IsSavedText}
use Rattle.search_keep.proofs.laws.faults_have_one_place.Goals as goal

pub returns : goal.returns
returns c = one_place IsSavedText
