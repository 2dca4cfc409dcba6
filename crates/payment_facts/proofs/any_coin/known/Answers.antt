use Rattle.std.proofs.Common.{◌≡◌, ◌∙◌, IfOk, ap, subst}
use Rattle.coin_candidates.specs.declared.candidate.Candidate.{Candidate}
use Rattle.payment_facts.specs.AnyCoin.{waiting_at}
use Rattle.payment_states.specs.ByPlace.{candidate_by}
use Rattle.payment_states.specs.PendingView.{place_in}
use Rattle.payment_facts.proofs.AnySteps.{known_waiting, place_known, place_within}
use Rattle.payment_facts.proofs.any_coin.known.Goals as goal

pub waiting_at-requires-clause-place : goal.waiting_at-requires-clause-place
waiting_at-requires-clause-place c =
    let txid = c.args.coin.now.coin.txid in
    place_within c.args.wallet.now.pending txid c.place-place.result (c.place-place.ensures ∙ place_known c.args.wallet.now c.args.book.now c.args.states.now txid c.requires.states)

pub returns-in_ok-stands-in-None : goal.returns-in_ok-stands-in-None
returns-in_ok-stands-in-None c = λ rate told.
    let w = c.args.wallet.now in
    let h = c.args.book.now in
    let coin = c.args.coin.now in
    let place : c.place-place.result ≡ place_in w.pending coin.coin.txid = c.place-place.ensures ∙ place_known w h c.args.states.now coin.coin.txid c.requires.states in
    subst (λ (x : Candidate). IfOk c.described-in-None.result (λ k. k ≡ x))
    (ap (candidate_by h coin) (c.in_ok-stands-in-None.ensures.exact rate told ∙ ap (waiting_at w h rate) place) ∙ known_waiting w h c.args.tip rate coin c.in-None.is)
    c.described-in-None.ensures
