use Rattle.std.proofs.Common.{◌≡◌, ◌∙◌, ◌↔◌, true, false, refl, sym, subst}
use Rattle.std.specs.List.{list_all}
use Rattle.std.specs.Map.{keys_of}
use Rattle.coin_book.specs.Asked.{HasUnwatchedCoin, Suffices}
use Rattle.coin_book.specs.Watched.{WatchedHistory, watches}
use Rattle.coin_book.proofs.AskedSteps.{coin_lacks, coins_suffice, coins_told}
use Rattle.coin_book.proofs.watching.Watching.watches_coins.Goals as goal

pub returns-then-all_watched-clause-whole : goal.returns-then-all_watched-clause-whole
returns-then-all_watched-clause-whole c =
    subst (λ (v : WatchedHistory). (c.all_watched-then-all_watched.result ≡ true) ↔ Suffices v) c.self.view_is
    (coins_suffice _ c.all_watched-then-all_watched.result c.self.invariant.watched
    (coins_told _ c.self.inside.watched c.self.inside.weights.entries c.self.inside.ledger c.self.inside.pending.entries c.self.inside.txids.keys c.self.inside.count true c.all_watched-then-all_watched.result c.self.invariant
    (sym c.if-all_watched.true ∙ c.all_watched.ensures) c.all_watched-then-all_watched.ensures))

pub returns-then-all_watched-clause-unwatched : goal.returns-then-all_watched-clause-unwatched
returns-then-all_watched-clause-unwatched c =
    subst (λ (v : WatchedHistory). (c.all_watched-then-all_watched.result ≡ false) ↔ HasUnwatchedCoin v) c.self.view_is
    (coin_lacks _ c.all_watched-then-all_watched.result
    (coins_told _ c.self.inside.watched c.self.inside.weights.entries c.self.inside.ledger c.self.inside.pending.entries c.self.inside.txids.keys c.self.inside.count true c.all_watched-then-all_watched.result c.self.invariant
    (sym c.if-all_watched.true ∙ c.all_watched.ensures) c.all_watched-then-all_watched.ensures))

pub returns-else-all_watched-clause-whole : goal.returns-else-all_watched-clause-whole
returns-else-all_watched-clause-whole c =
    subst (λ (v : WatchedHistory). (c.all_watched.result ≡ true) ↔ Suffices v) c.self.view_is
    (coins_suffice _ c.all_watched.result c.self.invariant.watched
    (c.if-all_watched.false ∙ coins_told _ c.self.inside.watched c.self.inside.weights.entries c.self.inside.ledger c.self.inside.pending.entries c.self.inside.txids.keys c.self.inside.count false (list_all (watches c.self.inside.watched) (keys_of c.self.inside.pending.entries)) c.self.invariant
    (sym c.if-all_watched.false ∙ c.all_watched.ensures) refl))

pub returns-else-all_watched-clause-unwatched : goal.returns-else-all_watched-clause-unwatched
returns-else-all_watched-clause-unwatched c =
    subst (λ (v : WatchedHistory). (c.all_watched.result ≡ false) ↔ HasUnwatchedCoin v) c.self.view_is
    (coin_lacks _ c.all_watched.result
    (c.if-all_watched.false ∙ coins_told _ c.self.inside.watched c.self.inside.weights.entries c.self.inside.ledger c.self.inside.pending.entries c.self.inside.txids.keys c.self.inside.count false (list_all (watches c.self.inside.watched) (keys_of c.self.inside.pending.entries)) c.self.invariant
    (sym c.if-all_watched.false ∙ c.all_watched.ensures) refl))
