use Rattle.std.proofs.Common.{ℕ, List, map, string_bytes, subst}
use Rattle.std.proofs.lemmas.Result.{err_from_is_err_and}
use Rattle.fund_files.specs.FileStops.{StopsChain}
use Rattle.fund_files.specs.Joined.{IsChainOf}
use Rattle.max_words.proofs.AmountLaws.{files_stop, filled_so, not_filled, tried_so, unread}
use Rattle.max_words.proofs.filling.fill_at.Goals as goal

pub returns-clause-filled : goal.returns-clause-filled
returns-clause-filled g c =
    let files : List ℕ → List ℕ = (g.H.Shelf.view c.args.shelf.now).files in
    let held =
    subst (λ (b : List ℕ). IsChainOf g.H.Shelf.tells (files (string_bytes c.in_ok-asked.asked.names.wallet)) (files b) c.in-Ok.held) c.as_str-2.ensures.value
    (subst (λ (w : List ℕ). IsChainOf g.H.Shelf.tells (files w) (files c.as_str-2.result.now) c.in-Ok.held) c.as_str.ensures.value c.in-Ok.ensures.held) in
    filled_so g.H.Shelf.tells files c.args.drawn c.args.words.now c.args.place c.in_ok-amount.amount (map string_bytes c.in_ok-words.words.items) c.in_ok-asked.asked c.asked_for.result c.in-Ok.held c.in_ok-asked.was
    (record { others = c.asked_for.ensures.others; asks = c.asked_for.ensures.asks }) (record { held = held; most = c.in_ok-amount.ensures.most; unasked = c.in_ok-amount.ensures.unasked }) c.in_ok-words.ensures

pub returns-in_err-asked-clause-refused : goal.returns-in_err-asked-clause-refused
returns-in_err-asked-clause-refused g c =
    let p = err_from_is_err_and c.from_residual.result c.from_residual.ensures.1 in
    rw (p.1, p.2) (not_filled g.H.Shelf.tells (g.H.Shelf.view c.args.shelf.now) (g.H.Shelf.view c.args.shelf.now) c.args.drawn c.args.words.now c.args.place c.in_err-asked.field-0.0 c.in_err-asked.ensures.refused)

pub returns-in-Err-clause-refused : goal.returns-in-Err-clause-refused
returns-in-Err-clause-refused g c =
    let old = g.H.Shelf.view c.args.shelf.now in
    let new = g.H.Shelf.view c.read_chain-read.new.shelf in
    let tells = g.H.Shelf.tells in
    let why =
    subst (λ (b : List ℕ). StopsChain tells (string_bytes c.in_ok-asked.asked.names.wallet) b old new c.in-Err.stop) c.as_str-2.ensures.value
    (subst (λ (w : List ℕ). StopsChain tells w c.as_str-2.result.now old new c.in-Err.stop) c.as_str.ensures.value c.in-Err.ensures.stop) in
    files_stop tells old new c.args.drawn c.args.words.now c.args.place c.in_ok-asked.asked c.in-Err.stop c.stopped.result c.stopped.ensures.memory c.stopped.ensures.named
    (tried_so c.args.drawn c.args.words.now c.args.place c.in_ok-asked.asked c.asked_for.result c.in_ok-asked.was (record { others = c.asked_for.ensures.others; asks = c.asked_for.ensures.asks })) why

pub returns-in-Err-clause-unfailed : goal.returns-in-Err-clause-unfailed
returns-in-Err-clause-unfailed g c = λ none. unread c.in_ok-asked.asked.names c.in-Err.stop c.stopped.result c.stopped.ensures.named none c.in-Err.ensures.unfailed
