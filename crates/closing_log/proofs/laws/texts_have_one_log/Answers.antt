use Rattle.closing_log.proofs.LogLaws.{one_log}
use Rattle.closing_log.proofs.WrittenLaws.{written_is_text, text_can}
use Rattle.closing_log.proofs.laws.texts_have_one_log.Goals as goal

pub returns : goal.returns
returns c = record { one = one_log; written = written_is_text; can = text_can }
