use Rattle.std.proofs.Common.{◌≡◌, ◌-◌, ◌<◌, ◌^◌, ℕ, length, drop, ap, subst, sym, ◌∙◌, arith}
use Rattle.std.specs.Int.Digits.{number_from_digits_after}
use Rattle.base58_addr.specs.Rebasing.{joined}
use Rattle.base58_addr.proofs.Numbers.{nothing_left}
use Rattle.base58_addr.proofs.number.put_digits.Goals as goal

pub returns-clause-value : goal.returns-clause-value
returns-clause-value c =
    let room = c.loop-i.room in
    let base = c.args.base in
    let n = joined c.args.number.high c.args.number.low in
    let left = joined c.loop-i.left.high c.loop-i.left.low in
    let start : length c.loop-i.room - c.loop-i.i ≡ 0 = omega arith in
    let whole : number_from_digits_after base left room ≡ n =
    ap (λ (k : ℕ). number_from_digits_after base left (drop k room)) (sym start) ∙ c.loop-i.invariant.value in
    let long : length c.args.room.now ≡ length c.loop-i.room = omega arith in
    let none : left ≡ 0 = nothing_left base left n room whole (subst (λ (k : ℕ). n < base ^ k) long c.requires.fits) in
    ap (λ (k : ℕ). number_from_digits_after base k room) (sym none) ∙ whole
