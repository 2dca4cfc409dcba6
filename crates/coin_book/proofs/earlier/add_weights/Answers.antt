use Rattle.std.proofs.Common.{◌≡◌, ◌∙◌, ◌++◌, ◌∷◌, [], sym, ap, take, List, ℕ}
use Rattle.std.specs.Prelude.{is_some}
use Rattle.std.proofs.lemmas.List.{take_more}
use Rattle.coin_book.specs.Coins.{weight_for}
use Rattle.coin_book.specs.Invariant.{weigher}
use Rattle.wallet_text.specs.declared.wallet.Watch.{Watch}
use Rattle.coin_book.proofs.WeightSteps.{insert_absent, weighed_new, weighed_old}
use Rattle.coin_book.proofs.earlier.add_weights.Goals as goal
use Rattle.coin_book.proofs.earlier.add_weights.Goals.{then-not-contains_key+in_ok-script+in_ok-insert, else-not-contains_key}

pub loop-watch-preserved : goal.loop-watch-preserved
loop-watch-preserved c = λ script.
    let i = c.loop-watch.watch-index in
    let s = c.watch-item.result in
    let front = take i c.args.scripts.now in
    let next = sym (take_more c.args.scripts.now i s c.loop-watch-test.true ∙ ap (λ (w : Watch). front ++ w ∷ []) (sym c.watch-item.is)) in
    let there : is_some (weigher c.loop-watch.weights.entries s.script) ≡ c.contains_key.result = sym (rw c.bytes.ensures at c.contains_key.ensures) in
    elim c.if-not-contains_key.branch [
      | then-not-contains_key+in_ok-script+in_ok-insert w ↦
          let items = w.in_ok-script.ensures.items_if_clones_equal (λ x y e. e) ∙ w.bytes-then-not-contains_key.ensures in
          let none = there ∙ w.if-not-contains_key.true in
          ap (λ m. weigher m.entries script) w.weights-is
          ∙ ap (λ es. weigher es script) (w.in_ok-insert.ensures.entries ∙ insert_absent c.loop-watch.weights.entries w.in_ok-script.script s.weight (ap (λ (q : List ℕ). is_some (weigher c.loop-watch.weights.entries q)) items ∙ none))
          ∙ weighed_new c.loop-watch.weights.entries front s w.in_ok-script.script script items (c.loop-watch.invariant script)
          ∙ ap (λ (l : List Watch). weight_for l script) next
      | else-not-contains_key w ↦
          ap (λ m. weigher m.entries script) w.weights-is
          ∙ weighed_old c.loop-watch.weights.entries front s script (there ∙ w.if-not-contains_key.false) c.loop-watch.invariant
          ∙ ap (λ (l : List Watch). weight_for l script) next
    ]
