use Rattle.entry_laws.proofs.ValueFaults.{flag_law, hex_law, list_law, number_law, text_law}
use Rattle.entry_laws.proofs.values.tells_kinds.Goals as goal

pub returns : goal.returns
returns c = record { number = number_law; hex = hex_law; flag = flag_law; text = text_law; list = list_law }
