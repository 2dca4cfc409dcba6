use Rattle.std.proofs.Common.{rules, ◌≡◌, ◌∙◌, ◌&&◌, ap, not}
use Rattle.fund_files.specs.declared.chain.Chain.{Chain}
use Rattle.payment_states.specs.Candidates.{is_candidate, is_deep, is_spent}
use Rattle.fund_desk.proofs.ready.is_candidate.Goals as goal

pub returns : goal.returns
unfolding is_candidate
returns c =
    let k = c.args.held.now in
    let coin = c.args.coin.now in
    let seen : not c.is_empty-spent.result ≡ is_spent c.held.inside.book coin.coin = search rules in
    let spent = seen ∙ ap (λ (x : Chain). is_spent x.book coin.coin) c.held.view_is in
    let deep = c.is_deep.ensures ∙ ap (λ (x : Chain). is_deep x.tip.height coin) c.held.view_is in
    let claimed = c.contains-claimed.ensures ∙ c.requires.known.claimed coin.coin in
    let locked = c.contains-locked.ensures ∙ c.requires.known.locked coin.coin in
    c.may_be_spent.ensures ∙ (λ j. c.is_live-live.ensures j && (not (spent j) && (not (claimed j) && (not (locked j) && deep j))))
