use Rattle.std.specs.Prelude.{◌≡◌, ℕ, ◌-◌, List, ◌++◌, length, take, drop}
use Rattle.std.specs.List.{range_with_len}
use Rattle.std.proofs.Common.{arith, ap, ◌∙◌}
use Rattle.std.proofs.lemmas.List.{take-append-le, take_all}
use Rattle.std.proofs.lemmas.List.FromFn.{length-range_with_len}
use Rattle.random_draw.specs.Order.{order_of, shuffled_from}
use Rattle.random_draw.proofs.shuffling.order.Goals as goal

pub shuffle-requires : goal.shuffle-requires
shuffle-requires c =
    let same : c.as_mut_slice.result.now ≡ range_with_len 0 c.args.count = c.as_mut_slice.ensures.value ∙ c.in_ok-places.ensures in
    omega (arith, ap (λ (xs : List ℕ). length xs) same, length-range_with_len 0 c.args.count, c.requires)

pub returns : goal.returns
unfolding order_of
returns c =
    let same : c.as_mut_slice.result.now ≡ range_with_len 0 c.args.count = c.as_mut_slice.ensures.value ∙ c.in_ok-places.ensures in
    let many : length c.as_mut_slice.result.now ≡ c.args.count = omega (arith, ap (λ (xs : List ℕ). length xs) same, length-range_with_len 0 c.args.count) in
    let len : length c.shuffle.new.places ≡ c.in_ok-places.places.len = omega (arith, c.as_mut_slice.ensures.len, c.shuffle.auto.places) in
    let kept : take c.in_ok-places.places.len (c.shuffle.new.places ++ drop (length c.shuffle.new.places) c.in_ok-places.places.items) ≡ c.shuffle.new.places =
    take-append-le c.in_ok-places.places.len c.shuffle.new.places (drop (length c.shuffle.new.places) c.in_ok-places.places.items) (omega arith) ∙ take_all c.in_ok-places.places.len c.shuffle.new.places (omega arith) in
    c.new.ensures ∙ (kept ∙ c.shuffle.ensures ∙ (ap (λ (xs : List ℕ). shuffled_from c.args.seed 0 (length c.as_mut_slice.result.now - 1) xs) same ∙ ap (λ (n : ℕ). shuffled_from c.args.seed 0 (n - 1) (range_with_len 0 c.args.count)) many))
