use Rattle.std.proofs.Common.{◌<◌}
use Rattle.std.proofs.lemmas.List.Elements.{All-take}
use Rattle.desk_machine.proofs.FrontLaws.{fronts_of, whole_of}
use Rattle.desk_machine.proofs.laws.blocks_are_read_one_by_one.Goals as goal

pub returns-clause-front : goal.returns-clause-front
returns-clause-front c = λ file hash height fits. fronts_of file hash height (All-take (λ b. b < 256) 1_073_741_824 file fits)

pub returns-clause-whole : goal.returns-clause-whole
returns-clause-whole c = λ file hash height fits. whole_of file hash height (All-take (λ b. b < 256) 1_073_741_824 file fits)
