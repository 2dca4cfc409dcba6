use Rattle.search_keep.proofs.ToldLaws.{one_saved}
use Rattle.search_keep.proofs.WrittenLaws.{written_is_text}
use Rattle.search_keep.proofs.laws.texts_have_one_position.Goals as goal

pub returns : goal.returns
returns c = record { one = one_saved; written = written_is_text; can = λ bytes saved i. i.can; numbers = λ bytes saved i. i.numbers }
