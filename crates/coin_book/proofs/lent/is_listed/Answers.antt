use Rattle.coin_book.proofs.lent.is_listed.Goals as goal

pub returns : goal.returns
returns c = c.contains_key.ensures
