use Rattle.std.proofs.Common.{◌∙◌, ap, sym, ◌+◌, length}
use Rattle.coin_book.specs.Coins.{coins_of}
use Rattle.coin_book.specs.Faults.{fault_of}
use Rattle.coin_book.specs.History.{History}
use Rattle.coin_book.proofs.ShownCoins.{len_shown}
use Rattle.coin_book.proofs.WatchSteps.{history_is}
use Rattle.coin_book.proofs.watching.Watching.len.Goals as goal

pub returns-clause-count : goal.returns-clause-count
returns-clause-count c =
    (λ k. c.len.ensures.len k + c.len-2.ensures.len k)
    ∙ len_shown _ _ _ c.self.invariant.chain.coins c.self.invariant.waiting
    ∙ ap (λ (h : History). length (coins_of h)) (history_is c.self.view_is)

pub returns-clause-sound : goal.returns-clause-sound
returns-clause-sound c = ap fault_of (sym (history_is c.self.view_is)) ∙ c.self.invariant.sound
