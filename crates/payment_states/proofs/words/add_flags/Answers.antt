use Rattle.std.proofs.Common.{◌≡◌, ◌∙◌, ℕ, ◌+◌, ◌<◌, ◌^◌, min, ap, arith}
use Rattle.payment_states.proofs.WordSteps.{flags_both}
use Rattle.payment_states.proofs.words.add_flags.Goals as goal

other_way : (a b : ℕ) → min a b ≡ min b a
other_way a b = omega arith

pub returns : goal.returns
returns c =
    let small : c.args.word < 2 ^ 64 = omega (arith, c.ranges.word) in
    c.saturating_add.ensures ∙ ap (λ n. min (c.args.count + n) 4294967295) (flags_both c.args.word c.args.counted small) ∙ other_way _ 4294967295
