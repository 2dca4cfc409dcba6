use Rattle.entry_laws.proofs.ObjectFaults.{kind_law, member_law, missing_law, other_law}
use Rattle.entry_laws.proofs.values.objects_have_one_fault.Goals as goal

pub returns : goal.returns
returns c = record { kind = kind_law; member = member_law; missing = missing_law; other = other_law }
