use Rattle.std.proofs.Common.{◌∙◌, ap, subst, sym}
use Rattle.block_feed.specs.Block.{ChainBlock}
use Rattle.coin_book.specs.History as histories
use Rattle.coin_book.specs.History.{History}
use Rattle.fund_files.specs.Chain.{IsChain}
use Rattle.fund_files.specs.declared.chain.Chain.{Chain}
use Rattle.wallet_text.specs.PlainWallet.{PlainWallet}
use Rattle.desk_chain.proofs.ChainLaws.{held_block}
use Rattle.desk_chain.proofs.chain.add_block.Goals as goal

pub returns-in-Ok-clause-held : goal.returns-in-Ok-clause-held
returns-in-Ok-clause-held c =
    let k = c.args.held.now in
    let b = c.args.block.now in
    let book = c.in-Ok.ensures.added ∙ ap (λ (x : Chain). histories.with_block x.book b) c.held.view_is in
    subst (λ (w : PlainWallet). IsChain (record { wallet = w; book = c.add_block.new.self; tip = record { height = c.block.inside.height; hash = c.block.inside.hash } })) (sym (ap (λ (x : Chain). x.wallet) c.held.view_is))
    (subst (λ (x : History). IsChain (record { wallet = k.wallet; book = x; tip = record { height = c.block.inside.height; hash = c.block.inside.hash } })) (sym book)
    (subst (λ (x : ChainBlock). IsChain (record { wallet = k.wallet; book = histories.with_block k.book b; tip = record { height = x.height; hash = x.hash } })) (sym c.block.view_is) (held_block k b c.requires.held c.requires.texts c.requires.height)))
