use Rattle.std.proofs.Common.{ap, ℕ, List, [], ◌∷◌}
use Rattle.std.proofs.lemmas.Result.{err_from_is_err_and}
use Rattle.fund_shelf.proofs.Asking.{asks_first, asks_then}
use Rattle.fund_files.specs.Contents.{HasWallet}
use Rattle.fund_files.proofs.FrameLaws.{only_one, only_reads_on}
use Rattle.fund_files.proofs.HeldLaws.{held_is}
use Rattle.fund_files.proofs.StopLaws.{at_blocks, at_wallet, not_refused}
use Rattle.fund_files.proofs.files.read_whole_chain.Goals as goal

pub returns-in_err-wallet-clause-stop : goal.returns-in_err-wallet-clause-stop
returns-in_err-wallet-clause-stop g c =
    let p = err_from_is_err_and c.from_residual.result c.from_residual.ensures.1 in
    rw (p.1, p.2) (at_wallet _ c.args.wallet.now c.args.blocks.now (g.H.Shelf.view c.args.shelf.now) (g.H.Shelf.view c.wallet_from.new.shelf) c.in_err-wallet.field-0.0 c.in_err-wallet.ensures.stop)

pub returns-in_err-book-clause-stop : goal.returns-in_err-book-clause-stop
returns-in_err-book-clause-stop g c =
    let p = err_from_is_err_and c.from_residual-in_err-book.result c.from_residual-in_err-book.ensures.1 in
    let old = g.H.Shelf.view c.args.shelf.now in
    let held : g.H.Shelf.tells → HasWallet (old.files c.args.wallet.now) c.in_ok-wallet.wallet = λ t. record { fits = c.in_ok-wallet.ensures.fits t; form = c.in_ok-wallet.ensures.form t } in
    rw (p.1, p.2) (at_blocks _ c.args.wallet.now c.args.blocks.now c.in_ok-wallet.wallet old (g.H.Shelf.view c.wallet_from.new.shelf) (g.H.Shelf.view c.whole_book_from.new.shelf) c.in_err-book.field-0.0 c.wallet_from.ensures.frame held c.in_err-book.ensures.frame c.in_err-book.ensures.stop)

pub returns-clause-held : goal.returns-clause-held
returns-clause-held g c =
    let old = g.H.Shelf.view c.args.shelf.now in
    let name = c.args.blocks.now in
    let held : g.H.Shelf.tells → HasWallet (old.files c.args.wallet.now) c.in_ok-wallet.wallet = λ t. record { fits = c.in_ok-wallet.ensures.fits t; form = c.in_ok-wallet.ensures.form t } in
    held_is _ (old.files c.args.wallet.now) (old.files name) ((g.H.Shelf.view c.wallet_from.new.shelf).files name) c.in_ok-wallet.wallet c.in_ok-book.book c.in_ok-book.tip c.in_ok-book.ensures.held
    (λ t. ap (λ (files : List ℕ → List ℕ). files name) (c.wallet_from.ensures.frame.same t)) c.in_ok-wallet.ensures.rules held

pub returns-clause-frame : goal.returns-clause-frame
returns-clause-frame g c = only_reads_on _ (g.H.Shelf.view c.args.shelf.now) (g.H.Shelf.view c.wallet_from.new.shelf) (g.H.Shelf.view c.whole_book_from.new.shelf) c.wallet_from.ensures.frame (only_one _ _ _ _ _ c.whole_book_from.ensures.frame)

-- ---- what is asked for

pub returns-in_err-wallet-clause-asked : goal.returns-in_err-wallet-clause-asked
returns-in_err-wallet-clause-asked g c = λ t. asks_first (c.args.wallet.now ∷ []) (c.args.blocks.now ∷ []) _ _ (c.wallet_from.ensures.asked t)

pub returns-in_err-book-clause-asked : goal.returns-in_err-book-clause-asked
returns-in_err-book-clause-asked g c = λ t. asks_then (c.args.wallet.now ∷ []) (c.args.blocks.now ∷ []) _ _ _ (c.wallet_from.ensures.asked t) (c.whole_book_from.ensures.frame.asked t)

pub returns-clause-asked : goal.returns-clause-asked
returns-clause-asked g c = λ t. asks_then (c.args.wallet.now ∷ []) (c.args.blocks.now ∷ []) _ _ _ (c.wallet_from.ensures.asked t) (c.whole_book_from.ensures.frame.asked t)

pub returns-in_err-wallet-clause-wallet_alone : goal.returns-in_err-wallet-clause-wallet_alone
returns-in_err-wallet-clause-wallet_alone g c = λ t.
    let p = err_from_is_err_and c.from_residual.result c.from_residual.ensures.1 in
    rw (p.1, p.2) (λ of_wallet. c.wallet_from.ensures.asked t)

pub returns-in_err-book-clause-wallet_alone : goal.returns-in_err-book-clause-wallet_alone
returns-in_err-book-clause-wallet_alone g c = λ t.
    let p = err_from_is_err_and c.from_residual-in_err-book.result c.from_residual-in_err-book.ensures.1 in
    rw (p.1, p.2) (λ of_wallet. absurd (cc (of_wallet, c.in_err-book.ensures.stop.own)))

pub returns-in_err-book-clause-refused_alone : goal.returns-in_err-book-clause-refused_alone
returns-in_err-book-clause-refused_alone g c = λ t cause refused.
    let held : HasWallet ((g.H.Shelf.view c.args.shelf.now).files c.args.wallet.now) c.in_ok-wallet.wallet = record { fits = c.in_ok-wallet.ensures.fits t; form = c.in_ok-wallet.ensures.form t } in
    absurd (not_refused _ c.in_ok-wallet.wallet cause held refused)

pub returns-clause-refused_alone : goal.returns-clause-refused_alone
returns-clause-refused_alone g c = λ t cause refused.
    let held : HasWallet ((g.H.Shelf.view c.args.shelf.now).files c.args.wallet.now) c.in_ok-wallet.wallet = record { fits = c.in_ok-wallet.ensures.fits t; form = c.in_ok-wallet.ensures.form t } in
    absurd (not_refused _ c.in_ok-wallet.wallet cause held refused)
