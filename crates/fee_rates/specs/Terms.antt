-- What a search for coins has to meet, at given rates, for a payment of given sizes.
use Rattle.std.specs.Prelude.{ℕ, ℤ, pos, neg_ℤ, ◌≡◌, ◌↔◌, ◌<◌, false, ◌+◌, ◌*◌, ◌-◌, ◌≤◌, ◌+ℤ◌, ◌-ℤ◌, ◌≤ℤ◌, nat_le, max, length, if◌then◌else◌}
use Rattle.std.specs.Int.{int_max, int_min}
use Rattle.fund_base.specs.CompactSize.{compact}
use Rattle.fee_rates.specs.Fee.{fee_of, vsize_of, input_fee_of}
use Rattle.fee_rates.specs.declared.terms.Rates.{Rates}
use Rattle.fee_rates.specs.declared.terms.PaymentLoad.{PaymentLoad}
use Rattle.fee_rates.specs.declared.terms.Terms.{Terms}

-- rates and a target for change that have terms
pub record AreRates (r : Rates) : Type 0 where
  pub rate : r.rate ≤ 100_000_000
  pub discard : r.discard ≤ 100_000_000
  pub change_target : r.change_target ≤ 2_100_000_000_000_000

-- a payment that has terms
pub record IsLoad (l : PaymentLoad) : Type 0 where
  pub paid : l.paid ≤ 2_100_000_000_000_000
  pub outputs : l.outputs ≤ 1_000_000_000
  pub count : l.count ≤ 1_000_000_000
  pub preset_low : neg_ℤ (pos 1_000_000_000_000_000_000_000) ≤ℤ l.preset_effective
  pub preset_high : l.preset_effective ≤ℤ pos 1_000_000_000_000_000_000_000
  pub preset_weight : l.preset_weight ≤ 40_000_000_000
  pub burden : l.burden ≤ 1_000_000_000_000_000_000
  pub change_size : l.change_size ≤ 1_000_000_000
  pub change_weight : l.change_weight ≤ 400_000

-- the weight of the payment without its inputs and its change: four times the bytes of the version, the two
-- counts, the outputs and the lock time, and two for marker and flag (BIP 144). The outputs' count leaves
-- room for a change. The inputs' takes 3 bytes where more than 252 coins are at hand: of those that would
-- take 5, no payment has so many within its weight.
abbrev pub base_of : PaymentLoad → ℕ
base_of l = 4 * (4 + (if nat_le l.coins 252 then 1 else 3) + length (compact (l.count + 1)) + l.outputs + 4) + 2

-- what coins have to bring beyond their own fees: the payment, its fee without inputs, and the burden,
-- less what the presets bring
abbrev pub raw_of : Rates → PaymentLoad → ℤ
raw_of r l = pos (l.paid + fee_of r.rate (vsize_of (base_of l)) + l.burden) -ℤ l.preset_effective

-- the same, but at least 1 if there are no presets, so that a payment has an input
abbrev pub asked_of : Rates → PaymentLoad → ℤ
asked_of r l = if l.has_presets then raw_of r l else int_max (raw_of r l) (pos 1)

-- the same, a greater amount counting as 1,000,000,000,000,000,000: no coins bring that
abbrev pub target_of : Rates → PaymentLoad → ℤ
target_of r l = int_min (asked_of r l) (pos 1_000_000_000_000_000_000)

-- the fee of the change output
abbrev pub change_fee_of : Rates → PaymentLoad → ℕ
change_fee_of r l = fee_of r.rate l.change_size

-- the fee of spending the change later, at the discard rate
abbrev pub change_spend_of : Rates → PaymentLoad → ℕ
change_spend_of r l = input_fee_of r.discard l.change_weight

-- the least change that is worth making: it is more than its spending costs, and no dust
abbrev pub change_least_of : Rates → PaymentLoad → ℕ
change_least_of r l = max (change_spend_of r l + 1) l.change_dust

-- what the least change takes
abbrev pub small_of : Rates → PaymentLoad → ℤ
small_of r l = target_of r l +ℤ pos (change_fee_of r l) +ℤ pos (change_least_of r l)

-- the most that a payment without change may take: one more would do for the least change
abbrev pub hi_of : Rates → PaymentLoad → ℤ
hi_of r l = small_of r l -ℤ pos 1

-- what a change of the size that is aimed at takes
abbrev pub big_of : Rates → PaymentLoad → ℤ
big_of r l = target_of r l +ℤ pos (change_fee_of r l) +ℤ pos (max r.change_target (change_least_of r l))

-- the weight that is left for coins if there is no change: of 400,000 (Bitcoin Core, `MAX_STANDARD_TX_WEIGHT`)
abbrev pub plain_limit_of : PaymentLoad → ℕ
plain_limit_of l = 400_000 - base_of l - l.preset_weight

-- the weight that is left for coins beside a change
abbrev pub change_limit_of : PaymentLoad → ℕ
change_limit_of l = plain_limit_of l - 4 * l.change_size

-- all of these
unfoldable pub terms_of : Rates → PaymentLoad → Terms
terms_of r l =
    record {
      base = base_of l;
      target = target_of r l;
      hi = hi_of r l;
      small = small_of r l;
      big = big_of r l;
      change_fee = change_fee_of r l;
      change_spend = change_spend_of r l;
      change_least = change_least_of r l;
      plain_limit = plain_limit_of l;
      change_limit = change_limit_of l;
    }

-- How terms stand to one another. Payments without change and with one meet with no gap between them. The change that is
-- aimed at is no less than the least one. A payment without presets chooses a coin. The target is at most
-- 1,000,000,000,000,000,000, and up to that it is no less than what coins have to bring.
pub record TermsAgree (r : Rates) (l : PaymentLoad) (t : Terms) : Type 0 where
  pub order : t.target ≤ℤ t.hi
  pub gap : t.small ≡ t.hi +ℤ pos 1
  pub least : t.small ≡ t.target +ℤ pos (change_fee_of r l) +ℤ pos (change_least_of r l)
  pub big : t.small ≤ℤ t.big
  pub most : t.target ≤ℤ pos 1_000_000_000_000_000_000
  pub raw : raw_of r l ≤ℤ pos 1_000_000_000_000_000_000 → raw_of r l ≤ℤ t.target
  pub some : l.has_presets ≡ false → pos 1 ≤ℤ t.target
  pub raised : l.preset_effective ≡ pos 0 → t.target ≤ℤ (raw_of r l +ℤ pos 1)
  -- what a change costs: its own fee now, and that of spending it later
  pub fee : t.change_fee ≡ fee_of r.rate l.change_size
  pub spend : t.change_spend ≡ input_fee_of r.discard l.change_weight
  -- the least change is the least number that is more than its spending costs, and no dust
  pub worth : t.change_spend < t.change_least
  pub no_dust : l.change_dust ≤ t.change_least
  pub no_less : (n : ℕ) → t.change_spend < n → l.change_dust ≤ n → t.change_least ≤ n
  -- what is aimed at pays for the least change that is neither below the asked one nor below the least
  pub aimed : (t.target +ℤ pos t.change_fee +ℤ pos r.change_target) ≤ℤ t.big
  pub aims : (n : ℕ) → r.change_target ≤ n → t.change_least ≤ n → t.big ≤ℤ (t.target +ℤ pos t.change_fee +ℤ pos n)
  -- coins are within a limit exactly where the whole payment weighs at most 400,000, without change and with it
  pub plain : (w : ℕ) → 1 ≤ w → w ≤ t.plain_limit ↔ t.base + l.preset_weight + w ≤ 400_000
  pub change : (w : ℕ) → 1 ≤ w → w ≤ t.change_limit ↔ t.base + l.preset_weight + w + 4 * l.change_size ≤ 400_000
