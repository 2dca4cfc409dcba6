use Rattle.coin_book.proofs.CallSteps.{comes_to}
use Rattle.coin_book.proofs.laws.order_of_calls.Goals as goal

pub returns : goal.returns
returns c = comes_to
