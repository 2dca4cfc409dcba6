use Rattle.std.proofs.Common.{◌≡◌, ◌∙◌, ℕ, ◌<◌, ◌≤◌, ◌==◌, ◌||◌, ◌&&◌, List, length, take, get_or, sym, ap, subst, arith, All}
use Rattle.std.specs.List.{list_any}
use Rattle.std.proofs.lemmas.List.{take_all}
use Rattle.std.proofs.lemmas.List.Elements.{All-more, All-nil, All-weaker}
use Rattle.std.proofs.lemmas.List.Folds.{list_any_more}
use Rattle.payment_states.specs.Words.{has_flag}
use Rattle.payment_states.proofs.WordSteps.{flag_put, put_more, put_none}
use Rattle.payment_states.proofs.spans.flag_places.Goals as goal

pub loop-place-init : goal.loop-place-init
loop-place-init c = record {
  flags = λ j k. put_none (has_flag c.args.word k) (has_flag (get_or c.args.words.now j 0) k);
  low = omega arith;
  least = All-nil (λ p. c.args.low ≤ p);
}

pub loop-place-preserved : goal.loop-place-preserved
loop-place-preserved c =
    let i = c.loop-place.place-index in
    let xs = c.args.places.now in
    let p = get_or xs i 0 in
    let lt = c.loop-place-test.true in
    let inv = c.loop-place.invariant in
    let within : p < length c.loop-place.words = omega (arith, c.requires i 0 lt) in
    let least = c.min-low.ensures in
    record {
      flags = λ j k.
          let has = has_flag c.args.word k in
          let old = has_flag (get_or c.args.words.now j 0) k in
          flag_put c.loop-place.words p j k c.args.word within
          ∙ ap (λ b. (has && (p == j)) || b) (inv.flags j k)
          ∙ put_more has (p == j) (list_any (λ q. q == j) (take i xs)) old
          ∙ ap (λ b. (has && b) || old) (sym (list_any_more (λ q. q == j) xs i 0 lt));
      low = omega (arith, inv.low);
      least = All-more (λ q. c.min-low.result ≤ q) xs i 0 lt (All-weaker (λ q. c.loop-place.low ≤ q) (λ q. c.min-low.result ≤ q) (λ q h. omega arith) (take i xs) inv.least) (omega arith);
    }

pub returns-clause-flags : goal.returns-clause-flags
returns-clause-flags c = λ j k.
    c.loop-place.invariant.flags j k
    ∙ ap (λ (ps : List ℕ). (has_flag c.args.word k && list_any (λ p. p == j) ps) || has_flag (get_or c.args.words.now j 0) k) (take_all c.loop-place.place-index c.args.places.now c.loop-place-test.false)

pub returns-clause-low : goal.returns-clause-low
returns-clause-low c = c.loop-place.invariant.low

pub returns-clause-least : goal.returns-clause-least
returns-clause-least c = subst (λ (ps : List ℕ). All (λ p. c.loop-place.low ≤ p) ps) (take_all c.loop-place.place-index c.args.places.now c.loop-place-test.false) c.loop-place.invariant.least
