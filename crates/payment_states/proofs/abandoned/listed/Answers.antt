use Rattle.std.proofs.Common.{◌∙◌, ℕ, cond, List, [], ◌∷◌, ◌++◌, take, sym, ap, arith}
use Rattle.std.specs.Prelude.{bytes_eq}
use Rattle.std.specs.List.{list_any}
use Rattle.std.proofs.lemmas.Grind.{common_steps}
use Rattle.std.proofs.lemmas.List.{take_all, take_more}
use Rattle.std.proofs.lemmas.List.Folds.{list_any_more}
use Rattle.indexmap.specs.IndexSet.{insert_key}
use Rattle.payment_states.specs.PendingView.{is_listed}
use Rattle.payment_states.proofs.GraphSteps.{fresh}
use Rattle.payment_states.proofs.abandoned.listed.Goals as goal

pub loop-txid-init : goal.loop-txid-init
loop-txid-init c = (λ t. ap (λ (ks : List (List ℕ)). list_any (bytes_eq t) ks) c.new-set.ensures.empty, λ apart. c.new-set.ensures.empty)

pub loop-txid-preserved : goal.loop-txid-preserved
loop-txid-preserved c =
    let xs = c.args.txids.now in
    let i = c.loop-txid.txid-index in
    let item = c.txid-item.result in
    let lt = c.loop-txid-test.true in (
      λ t. grind (arith, common_steps, list_any_more, c.loop-txid.invariant.0 t, c.in_ok-insert.ensures.updates.0 t),
      λ apart. c.in_ok-insert.ensures.keys
          ∙ ap (λ (ks : List (List ℕ)). insert_key bytes_eq ks item) (c.loop-txid.invariant.1 apart)
          ∙ ap (λ b. cond b (take i xs) (take i xs ++ item ∷ [])) (ap (λ x. list_any (bytes_eq x) (take i xs)) c.txid-item.is ∙ fresh xs i item apart lt)
          ∙ ap (λ x. take i xs ++ x ∷ []) c.txid-item.is
          ∙ sym (take_more xs i item lt),
    )

pub returns-clause-has : goal.returns-clause-has
returns-clause-has c = λ t. c.loop-txid.invariant.0 t ∙ ap (λ (ts : List (List ℕ)). is_listed ts t) (take_all c.loop-txid.txid-index c.args.txids.now c.loop-txid-test.false)

pub returns-clause-keys : goal.returns-clause-keys
returns-clause-keys c = λ apart. c.loop-txid.invariant.1 apart ∙ take_all c.loop-txid.txid-index c.args.txids.now c.loop-txid-test.false
