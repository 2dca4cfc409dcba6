use Rattle.std.proofs.Common.{◌∙◌, refl, sym, true≢false}
use Rattle.coin_book.proofs.wallet_book.WalletBook.settled.Goals as goal

pub returns-then-watches_coins-clause-unwatched : goal.returns-then-watches_coins-clause-unwatched
returns-then-watches_coins-clause-unwatched c = (
  λ e. absurd cc,
  λ lacks. absurd (true≢false (sym c.if-watches_coins.true ∙ c.watches_coins.ensures.unwatched.1 lacks)),
)

pub returns-else-watches_coins-clause-unwatched : goal.returns-else-watches_coins-clause-unwatched
returns-else-watches_coins-clause-unwatched c = (
  λ e. c.watches_coins.ensures.unwatched.0 c.if-watches_coins.false,
  λ lacks. refl,
)
