-- All coins of a pool, and what a payment of them comes to.
use Rattle.std.specs.Prelude.{ℕ, pos, suc, ◌≡◌, ◌≤◌, ◌<◌, ◌+◌, ◌-◌, ◌-ℤ◌, Bool, true, false, All, Contains, List, [], ◌∷◌, get_or, length, min, nat_le, ◌*◌, sum_by, if◌then◌else◌}
use Rattle.std.specs.List.{flat_map}
use Rattle.std.proofs.Common.{refl, sym, ap, subst, ◌∙◌, arith, inl, inr}
use Rattle.std.proofs.lemmas.Int.{ints}
use Rattle.std.proofs.lemmas.List.Elements.{All-append, All-nil, Contains-append_cases}
use Rattle.coin_candidates.specs.Candidates.{AreCandidates}
use Rattle.coin_candidates.specs.declared.candidate.Candidate.{Candidate}
use Rattle.fund_base.specs.CompactSize.{compact}
use Rattle.fee_rates.proofs.FeeLaws.{weighed_parts}
use Rattle.fee_rates.specs.Fee.{fee_of, vsize_of}
use Rattle.fee_rates.specs.Output.{output_size_of}
use Rattle.fee_rates.specs.Terms.{base_of}
use Rattle.output_groups.proofs.OnceLaws.{pool_once}
use Rattle.output_groups.proofs.PoolLaws.{pool_meets}
use Rattle.output_groups.proofs.SortLaws.{is_pool}
use Rattle.output_groups.specs.Ladder.{Meets, confirmed_row, ladder_of, pending_row, unsafe_row}
use Rattle.output_groups.specs.Pool.{AreOnce, CountsKept}
use Rattle.output_groups.specs.PoolOf.{pool_of}
use Rattle.output_groups.specs.declared.rows.Row.{Row}
use Rattle.request_text.specs.PlainRequest.{PlainRequest}
use Rattle.request_text.specs.declared.request.Recipient.{Recipient}
use Rattle.fund_steps.proofs.SelectionLaws.{in_order_keeps, in_order_sorted}
use Rattle.fund_steps.proofs.SumLaws.{charges_are}
use Rattle.fund_steps.specs.Amounts.{AreWithin, charges_of, fees_of, prices_of, value_of, weight_of}
use Rattle.fund_plan.proofs.SpendLaws.{AreApart, apart_both}
use Rattle.fee_sharing.proofs.RowLaws.{ordered_fit}
use Rattle.fee_sharing.specs.Sweep.{KeepsAlone, PaysSwept, last_row, sweep_amount, sweep_load, sweep_pool, sweep_weight, swept_of}

-- ---- the last row

abbrev last_of : Bool → Bool → Row
last_of zero_conf include_unsafe = if zero_conf then (if include_unsafe then unsafe_row else pending_row 6 24 true) else confirmed_row 2 1

pub some_rows : (zero_conf include_unsafe : Bool) → 0 < length (ladder_of zero_conf include_unsafe)
some_rows true true = omega arith
some_rows true false = omega arith
some_rows false u = omega arith

pub last_is : (zero_conf include_unsafe : Bool) (d : Row) → get_or (ladder_of zero_conf include_unsafe) (length (ladder_of zero_conf include_unsafe) - 1) d ≡ last_of zero_conf include_unsafe
last_is true true d = refl
last_is true false d = refl
last_is false u d = refl

own_by : (zero_conf include_unsafe : Bool) → (last_of zero_conf include_unsafe).own ≤ (last_of zero_conf include_unsafe).foreign
own_by true true = omega arith
own_by true false = omega arith
own_by false u = omega arith

pub last_own : (r : PlainRequest) → (last_row r).own ≤ (last_row r).foreign
last_own r = own_by r.zero_conf r.include_unsafe

-- ---- all coins of groups

abbrev pub coins_in : List (List Candidate) → List Candidate
coins_in groups = flat_map (λ (g : List Candidate). g) groups

-- a coin of them is of a group
record StandsAt (groups : List (List Candidate)) (c : Candidate) : Type 0 where
  place : ℕ
  within : place < length groups
  held : Contains (get_or groups place []) c

stands_at : (groups : List (List Candidate)) (c : Candidate) → Contains (coins_in groups) c → StandsAt groups c
stands_at [] c h = absurd (omega (arith, h.1))
stands_at (g ∷ groups) c h =
    elim (Contains-append_cases g (coins_in groups) c h) [
      | inl here ↦ record { place = 0; within = omega arith; held = here }
      | inr later ↦ (let deep = stands_at groups c later in record { place = suc deep.place; within = omega (arith, deep.within); held = deep.held })
    ]

-- what holds of each coin of each group holds of each of them
each_in : (P : Candidate → Type 0) (groups : List (List Candidate)) → All (λ (g : List Candidate). All P g) groups → All P (coins_in groups)
each_in P [] each = All-nil P
each_in P (g ∷ groups) each = All-append P g (coins_in groups) (each 0 [] (omega arith)) (each_in P groups (λ k d below. each (suc k) d (omega (arith, below))))

once_tail : (cs : List Candidate) (g : List Candidate) (groups : List (List Candidate)) → AreOnce cs (g ∷ groups) → AreOnce cs groups
once_tail cs g groups once = record {
  held = λ k d below. once.held (suc k) d (omega (arith, below));
  within = λ k d below. once.within (suc k) d (omega (arith, below));
  between = λ i j d up below. once.between (suc i) (suc j) d (omega (arith, up)) (omega (arith, below));
}

-- they are of different outputs
all_apart : (cs : List Candidate) (groups : List (List Candidate)) → AreOnce cs groups → AreApart (coins_in groups)
all_apart cs [] once = λ i j d up below. absurd (omega (arith, below))
all_apart cs (g ∷ groups) once =
    apart_both g (coins_in groups) (once.within 0 [] (omega arith)) (all_apart cs groups (once_tail cs g groups once))
    (λ a b first second. let deep = stands_at groups b second in once.between 0 (suc deep.place) [] (omega arith) (omega (arith, deep.within)) a b first deep.held)

-- ---- the coins of a sweep

once_in : (r : PlainRequest) (cs : List Candidate) → AreCandidates cs → AreOnce cs (sweep_pool r cs).groups
once_in r cs h = pool_once false (last_row r) r.rate r.long_term cs (sweep_pool r cs) h (is_pool false (last_row r) r.rate r.long_term cs)

pub swept_fit : (r : PlainRequest) (cs : List Candidate) → AreCandidates cs → value_of cs ≤ 2_100_000_000_000_000 → AreWithin (swept_of r cs)
swept_fit r cs h worth =
    let groups = (sweep_pool r cs).groups in
    let once = once_in r cs h in
    ordered_fit cs (coins_in groups) h worth (all_apart cs groups once) (each_in (Contains cs) groups once.held)

-- what is left pays the fee of the whole weight, and the prices
left_pays : (amount value charges fees prices base whole : ℕ) → pos amount ≡ (pos value -ℤ pos charges) -ℤ pos base → charges ≡ fees + prices → whole ≤ base + fees → amount + whole + prices ≤ value
left_pays amount value charges fees prices base whole is parts all = omega (arith, ints, is)

-- the coins of a sweep pay
paying : (r : PlainRequest) (cs : List Candidate) (amount : ℕ) → AreCandidates cs → sweep_weight r (swept_of r cs) ≤ 400_000 → pos amount ≡ sweep_amount r (swept_of r cs) → PaysSwept r cs (swept_of r cs) amount
paying r cs amount h light is =
    let groups = (sweep_pool r cs).groups in
    let coins = swept_of r cs in
    let base = base_of (sweep_load r coins) in
    let own = last_own r in
    record {
      held = in_order_keeps (Contains cs) (coins_in groups) (each_in (Contains cs) groups (once_in r cs h).held);
      meet = in_order_keeps (Meets (last_row r)) (coins_in groups) (each_in (Meets (last_row r)) groups (pool_meets false (last_row r) r.rate r.long_term cs (sweep_pool r cs) own (is_pool false (last_row r) r.rate r.long_term cs)));
      sorted = in_order_sorted (coins_in groups);
      light = light;
      fee_covers =
          left_pays amount (value_of coins) (charges_of r.rate coins) (fees_of r.rate coins) (prices_of coins) (fee_of r.rate (vsize_of base)) (fee_of r.rate (vsize_of (base + weight_of coins))) is (charges_are r.rate coins) (weighed_parts (λ (c : Candidate). c.weight) r.rate base coins);
    }

pub paid_now : (r : PlainRequest) (cs coins : List Candidate) (amount : ℕ) → AreCandidates cs → coins ≡ swept_of r cs → sweep_weight r coins ≤ 400_000 → pos amount ≡ sweep_amount r coins → PaysSwept r cs coins amount
paid_now r cs coins amount h is light left =
    subst (λ (z : List Candidate). PaysSwept r cs z amount) (sym is) (paying r cs amount h (subst (λ (z : List Candidate). sweep_weight r z ≤ 400_000) is light) (left ∙ ap (λ (z : List Candidate). sweep_amount r z) is))

-- ---- from the pieces of a sweep

pub pool_is : (r inside : PlainRequest) (row : Row) (cs : List Candidate) → inside ≡ r → row ≡ last_row r → pool_of false row inside.rate inside.long_term cs ≡ sweep_pool r cs
pool_is r inside row cs same at = ap (λ (q : PlainRequest). pool_of false row q.rate q.long_term cs) same ∙ ap (λ (z : Row). pool_of false z r.rate r.long_term cs) at

pub few_alone : (r inside : PlainRequest) (row : Row) (cs : List Candidate) → inside ≡ r → row ≡ last_row r → ((n : ℕ) → CountsKept false row inside.rate cs n → n ≤ 10_000) → (n : ℕ) → KeepsAlone r cs n → n ≤ 10_000
few_alone r inside row cs same at few n keeps =
    few n (subst (λ (q : PlainRequest). CountsKept false row q.rate cs n) (sym same) (subst (λ (z : Row). CountsKept false z r.rate cs n) (sym at) keeps))

abbrev pub sized : List Recipient → ℕ
sized rs = min (sum_by (λ (q : Recipient). output_size_of q.script) rs) 1_000_000_000

abbrev pub counted : List Recipient → ℕ
counted rs = min (length rs) 1_000_000_000

abbrev base_with : (coins count outputs : ℕ) → ℕ
base_with coins count outputs = 4 * (4 + (if nat_le coins 252 then 1 else 3) + length (compact (count + 1)) + outputs + 4) + 2

pub base_is : (r : PlainRequest) (l : List Candidate) (coins count outputs : ℕ) → outputs ≡ sized r.recipients → count ≡ counted r.recipients → coins ≡ length l → base_with coins count outputs ≡ base_of (sweep_load r l)
unfolding sweep_load
base_is r l coins count outputs a b d = ap (λ (n : ℕ). base_with n count outputs) d ∙ ap (λ (n : ℕ). base_with (length l) n outputs) b ∙ ap (base_with (length l) (counted r.recipients)) a
