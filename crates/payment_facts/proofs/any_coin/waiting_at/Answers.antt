use Rattle.std.proofs.Common.{◌≡◌, ◌∙◌, Bool, List, ℕ, ap}
use Rattle.payment_states.specs.ByPlace.{flag_at, number_at}
use Rattle.payment_facts.proofs.AnySteps.{stood, waiting_is}
use Rattle.payment_facts.proofs.any_coin.waiting_at.Goals as goal

pub returns-clause-exact : goal.returns-clause-exact
returns-clause-exact c = λ rate told.
    let place = c.args.place in
    let safe : c.flag_at.result ≡ flag_at c.args.facts.now.safe.items place = c.flag_at.ensures ∙ ap (λ (l : List Bool). flag_at l place) c.deref.ensures.value in
    let below : c.number_at.result ≡ number_at c.args.facts.now.descendants.items place = c.number_at.ensures ∙ ap (λ (l : List ℕ). number_at l place) c.deref-2.ensures.value in
    (λ k. stood (safe k) c.in_ok-ancestors.ancestors (below k) (c.amount_at.ensures k))
    ∙ waiting_is c.args.wallet.now c.args.book.now rate c.args.facts.now c.args.prices.now place c.in_ok-ancestors.ancestors c.requires.facts told c.requires.place c.in_ok-ancestors.ensures.exact
