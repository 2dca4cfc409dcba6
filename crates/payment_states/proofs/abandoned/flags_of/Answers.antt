use Rattle.std.proofs.Common.{◌∙◌, ℕ, List, [], ◌∷◌, ◌++◌, Option, map, sym, ap, arith}
use Rattle.std.proofs.lemmas.List.{map_more, take_all}
use Rattle.payment_states.specs.ByPlace.{place_if}
use Rattle.payment_states.specs.PendingView.{is_listed}
use Rattle.payment_states.proofs.abandoned.flags_of.Goals as goal

pub loop-txid-init : goal.loop-txid-init
loop-txid-init c = (c.new-flags.ensures.items, c.new-flags.ensures.len)

pub loop-txid-preserved : goal.loop-txid-preserved
loop-txid-preserved c =
    let f : List ℕ → Option ℕ = λ t. place_if (is_listed c.args.abandoned.now t) 0 in (
      c.in_ok-push.ensures.items
          ∙ (λ k. c.loop-txid.invariant.0 k ++ (c.place_if.ensures ∙ ap (λ b. place_if b 0) (c.contains.ensures ∙ c.in_ok-set.ensures.has c.txid-item.result) ∙ ap f c.txid-item.is) k ∷ [])
          ∙ sym (map_more f c.args.txids.now c.loop-txid.txid-index c.txid-item.result c.loop-txid-test.true),
      omega (arith, c.in_ok-push.ensures.len),
    )

pub returns-clause-flags : goal.returns-clause-flags
returns-clause-flags c =
    let f : List ℕ → Option ℕ = λ t. place_if (is_listed c.args.abandoned.now t) 0 in
    c.loop-txid.invariant.0 ∙ ap (λ (ts : List (List ℕ)). map f ts) (take_all c.loop-txid.txid-index c.args.txids.now c.loop-txid-test.false)

pub returns-clause-len : goal.returns-clause-len
returns-clause-len c = omega (arith, c.loop-txid.invariant.1)
