-- What a replacement pays at greater sizes, and beside what the replaced payment pays.
use Rattle.std.proofs.Common.{◌≡◌, ℕ, ◌+◌, ◌-◌, ◌*◌, ◌<◌, ◌≤◌, subst, arith}
use Rattle.std.proofs.Math.Nat.{mul-le-mul_right}
use Rattle.fee_rates.proofs.FeeLaws.{fee_least}
use Rattle.fee_rates.specs.Fee.{fee_of}
use Rattle.fee_bump.specs.Bump.{burden_at, incremental}

-- each further virtual byte takes 1 satoshi at least
fee_more : (rate v d : ℕ) → 1000 ≤ rate → fee_of rate v + d ≤ fee_of rate (v + d)
fee_more rate v d high =
    let reach : rate * (v + d) ≤ 1000 * fee_of rate (v + d) = (fee_least rate (v + d)).holds in
    let each : 1000 * d ≤ rate * d = mul-le-mul_right d high in
    let le : fee_of rate v ≤ fee_of rate (v + d) - d = (fee_least rate v).least (fee_of rate (v + d) - d) (omega (arith, reach, each)) in
    omega (arith, le, reach, each)

paid_more : (fees rate v d : ℕ) → 1000 ≤ rate → fees + fee_of incremental (v + d) < burden_at fees v rate + fee_of rate (v + d)
paid_more fees rate v d high =
    let step : fee_of rate v + d ≤ fee_of rate (v + d) = fee_more rate v d high in
    let own : 1000 * v ≤ 1000 * fee_of 1000 v = (fee_least 1000 v).holds in
    let most : fee_of 1000 (v + d) ≤ v + d = (fee_least 1000 (v + d)).least (v + d) (omega arith) in
    omega (arith, step, own, most)

-- the incremental rate is paid for any size that isn't less
pub sizes_paid : (fees v u rate : ℕ) → v ≤ u → 1000 ≤ rate → fees + fee_of incremental u < burden_at fees v rate + fee_of rate u
sizes_paid fees v u rate le high =
    let e : v + (u - v) ≡ u = omega arith in
    subst (λ (n : ℕ). fees + fee_of incremental n < burden_at fees v rate + fee_of rate n) e (paid_more fees rate v (u - v) high)

-- what pays a higher rate pays more for its size
pub rate_higher : (old_fee old_vsize rate v fee : ℕ) → 1000 * old_fee < rate * old_vsize → 0 < v → fee_of rate v ≤ fee → old_fee * v < fee * old_vsize
rate_higher old_fee old_vsize rate v fee higher some pays =
    let reach : rate * v ≤ 1000 * fee_of rate v = (fee_least rate v).holds in
    let paid : rate * v ≤ 1000 * fee = omega (arith, reach, pays) in
    let scaled : (rate * v) * old_vsize ≤ (1000 * fee) * old_vsize = mul-le-mul_right old_vsize paid in
    let above : 1000 * old_fee + 1 ≤ rate * old_vsize = omega (arith, higher) in
    let strict : (1000 * old_fee + 1) * v ≤ (rate * old_vsize) * v = mul-le-mul_right v above in
    omega (arith, scaled, strict, some)
