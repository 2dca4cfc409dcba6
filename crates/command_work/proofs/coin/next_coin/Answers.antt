use Rattle.command_work.proofs.CoinLaws.{coin_is, first_drawn, first_left, second_drawn, second_left}
use Rattle.command_work.proofs.coin.next_coin.Goals as goal

pub returns-clause-coin : goal.returns-clause-coin
returns-clause-coin c number i few is =
    let left = first_left number i c.next_word-first.result c.args.words.now c.next_word-first.new.self few is c.next_word-first.ensures in
    coin_is number i c.next_word-first.result c.next_word-second.result c.value_of.result c.of.result
    (first_drawn number i c.next_word-first.result c.args.words.now c.next_word-first.new.self is c.next_word-first.ensures)
    (second_drawn number i c.next_word-second.result c.next_word-first.new.self c.next_word-second.new.self left c.next_word-second.ensures) c.value_of.ensures c.of.ensures

pub returns-clause-words : goal.returns-clause-words
returns-clause-words c number i few is =
    let left = first_left number i c.next_word-first.result c.args.words.now c.next_word-first.new.self few is c.next_word-first.ensures in
    second_left number i c.next_word-second.result c.next_word-first.new.self c.next_word-second.new.self few left c.next_word-second.ensures
