use Rattle.std.proofs.Common.{◌≡◌, ◌∙◌, Some, ap, refl, sym, ℕ, List, [], ◌∷◌}
use Rattle.std.proofs.lemmas.Result.{err_from_is_err_and}
use Rattle.fund_shelf.proofs.Asking.{asks_first, asks_then}
use Rattle.sha2.specs.Sha256.{sha256}
use Rattle.fund_files.specs.Contents.{HasWallet}
use Rattle.fund_files.proofs.DigestSteps.{some_is}
use Rattle.fund_files.proofs.FrameLaws.{only_one, only_reads_on}
use Rattle.fund_files.proofs.HeldLaws.{held_is}
use Rattle.fund_files.proofs.StopLaws.{at_blocks, at_wallet, not_refused}
use Rattle.fund_files.proofs.digests.read_chain_with_digests.Goals as goal

pub returns-in_err-wallet-clause-stop : goal.returns-in_err-wallet-clause-stop
returns-in_err-wallet-clause-stop g c =
    let p = err_from_is_err_and c.from_residual.result c.from_residual.ensures.1 in
    rw (p.1, p.2) (at_wallet _ c.args.wallet.now c.args.blocks.now (g.H.Shelf.view c.args.shelf.now) (g.H.Shelf.view c.wallet_with_digest.new.shelf) c.in_err-wallet.field-0.0 c.in_err-wallet.ensures.stop)

pub returns-in_err-read-clause-stop : goal.returns-in_err-read-clause-stop
returns-in_err-read-clause-stop g c =
    let p = err_from_is_err_and c.from_residual-in_err-read.result c.from_residual-in_err-read.ensures.1 in
    let old = g.H.Shelf.view c.args.shelf.now in
    let held : g.H.Shelf.tells → HasWallet (old.files c.args.wallet.now) c.in_ok-wallet.wallet = λ t. record { fits = c.in_ok-wallet.ensures.fits t; form = c.in_ok-wallet.ensures.form t } in
    rw (p.1, p.2) (at_blocks _ c.args.wallet.now c.args.blocks.now c.in_ok-wallet.wallet old (g.H.Shelf.view c.wallet_with_digest.new.shelf) (g.H.Shelf.view c.wallet_book_from.new.shelf) c.in_err-read.field-0.0 c.wallet_with_digest.ensures.frame held c.in_err-read.ensures.frame c.in_err-read.ensures.stop)

pub returns-in-Some-clause-held : goal.returns-in-Some-clause-held
returns-in-Some-clause-held g c =
    let old = g.H.Shelf.view c.args.shelf.now in
    let name = c.args.blocks.now in
    let held : g.H.Shelf.tells → HasWallet (old.files c.args.wallet.now) c.in_ok-wallet.wallet = λ t. record { fits = c.in_ok-wallet.ensures.fits t; form = c.in_ok-wallet.ensures.form t } in
    held_is _ (old.files c.args.wallet.now) (old.files name) ((g.H.Shelf.view c.wallet_with_digest.new.shelf).files name) c.in_ok-wallet.wallet c.in_ok-read.read.book c.in_ok-read.read.tip c.in_ok-read.ensures.held
    (λ t. ap (λ (files : List ℕ → List ℕ). files name) (c.wallet_with_digest.ensures.frame.same t)) c.in_ok-wallet.ensures.rules held

pub returns-in-Some-clause-frame : goal.returns-in-Some-clause-frame
returns-in-Some-clause-frame g c = only_reads_on _ (g.H.Shelf.view c.args.shelf.now) (g.H.Shelf.view c.wallet_with_digest.new.shelf) (g.H.Shelf.view c.wallet_book_from.new.shelf) c.wallet_with_digest.ensures.frame (only_one _ _ _ _ _ c.wallet_book_from.ensures.frame)

-- ---- what is asked for

pub returns-in_err-wallet-clause-asked : goal.returns-in_err-wallet-clause-asked
returns-in_err-wallet-clause-asked g c = λ t. asks_first (c.args.wallet.now ∷ []) (c.args.blocks.now ∷ []) _ _ (c.wallet_with_digest.ensures.asked t)

pub returns-in_err-read-clause-asked : goal.returns-in_err-read-clause-asked
returns-in_err-read-clause-asked g c = λ t. asks_then (c.args.wallet.now ∷ []) (c.args.blocks.now ∷ []) _ _ _ (c.wallet_with_digest.ensures.asked t) (c.wallet_book_from.ensures.frame.asked t)

pub returns-in-Some-clause-asked : goal.returns-in-Some-clause-asked
returns-in-Some-clause-asked g c = λ t. asks_then (c.args.wallet.now ∷ []) (c.args.blocks.now ∷ []) _ _ _ (c.wallet_with_digest.ensures.asked t) (c.wallet_book_from.ensures.frame.asked t)

pub returns-in_err-wallet-clause-wallet_alone : goal.returns-in_err-wallet-clause-wallet_alone
returns-in_err-wallet-clause-wallet_alone g c = λ t.
    let p = err_from_is_err_and c.from_residual.result c.from_residual.ensures.1 in
    rw (p.1, p.2) (λ of_wallet. c.wallet_with_digest.ensures.asked t)

pub returns-in_err-read-clause-wallet_alone : goal.returns-in_err-read-clause-wallet_alone
returns-in_err-read-clause-wallet_alone g c = λ t.
    let p = err_from_is_err_and c.from_residual-in_err-read.result c.from_residual-in_err-read.ensures.1 in
    rw (p.1, p.2) (λ of_wallet. absurd (cc (of_wallet, c.in_err-read.ensures.stop.own)))

pub returns-in_err-read-clause-refused_alone : goal.returns-in_err-read-clause-refused_alone
returns-in_err-read-clause-refused_alone g c = λ t cause refused.
    let held : HasWallet ((g.H.Shelf.view c.args.shelf.now).files c.args.wallet.now) c.in_ok-wallet.wallet = record { fits = c.in_ok-wallet.ensures.fits t; form = c.in_ok-wallet.ensures.form t } in
    absurd (not_refused _ c.in_ok-wallet.wallet cause held refused)

pub returns-in-Some-clause-refused_alone : goal.returns-in-Some-clause-refused_alone
returns-in-Some-clause-refused_alone g c = λ t cause refused.
    let held : HasWallet ((g.H.Shelf.view c.args.shelf.now).files c.args.wallet.now) c.in_ok-wallet.wallet = record { fits = c.in_ok-wallet.ensures.fits t; form = c.in_ok-wallet.ensures.form t } in
    absurd (not_refused _ c.in_ok-wallet.wallet cause held refused)

pub returns-in-None-clause-frame : goal.returns-in-None-clause-frame
returns-in-None-clause-frame g c = only_reads_on _ (g.H.Shelf.view c.args.shelf.now) (g.H.Shelf.view c.wallet_with_digest.new.shelf) (g.H.Shelf.view c.wallet_book_from.new.shelf) c.wallet_with_digest.ensures.frame (only_one _ _ _ _ _ c.wallet_book_from.ensures.frame)

pub returns-in-None-clause-asked : goal.returns-in-None-clause-asked
returns-in-None-clause-asked g c = λ t. asks_then (c.args.wallet.now ∷ []) (c.args.blocks.now ∷ []) _ _ _ (c.wallet_with_digest.ensures.asked t) (c.wallet_book_from.ensures.frame.asked t)

pub returns-in-None-clause-refused_alone : goal.returns-in-None-clause-refused_alone
returns-in-None-clause-refused_alone g c = λ t cause refused.
    let held : HasWallet ((g.H.Shelf.view c.args.shelf.now).files c.args.wallet.now) c.in_ok-wallet.wallet = record { fits = c.in_ok-wallet.ensures.fits t; form = c.in_ok-wallet.ensures.form t } in
    absurd (not_refused _ c.in_ok-wallet.wallet cause held refused)

-- ---- the digests

pub returns-in-Some-clause-digests : goal.returns-in-Some-clause-digests
returns-in-Some-clause-digests g c = λ t.
    let same = ap (λ (files : List ℕ → List ℕ). files c.args.blocks.now) (c.wallet_with_digest.ensures.frame.same t) in
    let found : c.in_ok-read.read.digest ≡ Some (sha256 ((g.H.Shelf.view c.wallet_with_digest.new.shelf).files c.args.blocks.now)) = c.in_ok-read.ensures.digest t refl in
    record {
      wallet = c.in_ok-wallet.ensures.digest t;
      blocks = some_is (sym c.in-Some.is ∙ found) ∙ ap sha256 same;
    }
