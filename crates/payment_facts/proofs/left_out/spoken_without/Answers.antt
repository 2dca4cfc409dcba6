use Rattle.std.proofs.Common.{◌∙◌, not, Bool, Contains, sym, subst}
use Rattle.std.specs.Prelude.{bytes_eq}
use Rattle.std.proofs.lemmas.List.Elements.{All-filter}
use Rattle.indexmap.specs.IndexSet.{contains}
use Rattle.coin_book.specs.Asked.{AreWaiting}
use Rattle.tx_codec.specs.Transaction.{Transaction}
use Rattle.tx_codec.specs.Txid.{txid_of}
use Rattle.wallet_text.specs.WalletRules.{AreDistinct, ParentsComeFirst}
use Rattle.payment_states.specs.Candidates.{is_claimed}
use Rattle.payment_states.specs.ByPlace.{view_by}
use Rattle.payment_facts.proofs.LeftSteps.{apart_kept, order_kept}
use Rattle.payment_facts.proofs.left_out.spoken_without.Goals as goal

pub spoken_by-requires-clause-distinct : goal.spoken_by-requires-clause-distinct
spoken_by-requires-clause-distinct c =
    let keep : Transaction → Bool = λ t. not (contains bytes_eq c.args.gone.now (txid_of t)) in
    subst AreDistinct (sym (c.deref.ensures.value ∙ c.in_ok-left.ensures)) (apart_kept keep c.args.txs.now c.requires.distinct)

pub spoken_by-requires-clause-parents : goal.spoken_by-requires-clause-parents
spoken_by-requires-clause-parents c =
    let keep : Transaction → Bool = λ t. not (contains bytes_eq c.args.gone.now (txid_of t)) in
    subst ParentsComeFirst (sym (c.deref.ensures.value ∙ c.in_ok-left.ensures)) (order_kept keep c.args.txs.now c.requires.parents)

pub returns-clause-claimed : goal.returns-clause-claimed
returns-clause-claimed c = λ o.
    c.in_ok-spoken.ensures.claimed o
    ∙ (λ k. is_claimed (view_by c.args.book.now.confirmed ((c.deref.ensures.value ∙ c.in_ok-left.ensures) k) c.args.abandoned.now) o)

pub spoken_by-requires-clause-waiting : goal.spoken_by-requires-clause-waiting
spoken_by-requires-clause-waiting c =
    let keep : Transaction → Bool = λ t. not (contains bytes_eq c.args.gone.now (txid_of t)) in
    subst (AreWaiting c.args.book.now) (sym (c.deref.ensures.value ∙ c.in_ok-left.ensures)) (All-filter keep (Contains c.args.book.now.pending) c.args.txs.now c.requires.waiting)
