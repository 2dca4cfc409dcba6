-- The words of a workload are the spellings of its number and its count.
use Rattle.std.proofs.Common.{◌≡◌, ◌∙◌, ℕ, ◌<◌, ◌≤◌, ◌^◌, Bool, true, false, cond, nat_lt, List, [], ◌∷◌, Option, Some, None, refl, sym, ap, arith}
use Rattle.std.specs.Prelude.{◌↔◌, String, codes, string_bytes}
use Rattle.std.specs.Fmt.{decimal}
use Rattle.std.specs.declared.alloc.Global.{Global}
use Rattle.std.proofs.lemmas.Bool.{lt-ltb, ltb-true}
use Rattle.fund_base.proofs.Decimals.{found, only}
use Rattle.fund_base.specs.Decimal.{number_of}
use Rattle.fund_top.specs.Words.{Work, command_of, work_by, work_of}

abbrev most_number : ℕ
most_number = 9_223_372_036_854_775_807

-- with this verb the other words are asked for their numbers
asked : (verb first second : String Global) → string_bytes verb ≡ codes "work" → command_of (verb ∷ first ∷ second ∷ []) ≡ work_of (string_bytes first) (string_bytes second)
asked verb first second is = rw is refl

record IsSpelled (first second : List ℕ) (number count : ℕ) : Type 0 where
  number_is : number_of most_number first ≡ Some number
  count_is : number_of 10_000 second ≡ Some count
  some : nat_lt 0 count ≡ true

told : (first second : List ℕ) (number count : ℕ) → work_of first second ≡ Some (Work number count) → IsSpelled first second number count
told first second number count e = by (number_of most_number first) (number_of 10_000 second) refl refl e
  where
    kept : (n k : ℕ) (b : Bool) → nat_lt 0 k ≡ b → number_of most_number first ≡ Some n → number_of 10_000 second ≡ Some k → cond b (Some (Work n k)) None ≡ Some (Work number count) → IsSpelled first second number count
    kept n k true some a b e =
        let same_number : n ≡ number = cc in
        let same_count : k ≡ count = cc in
        record {
          number_is = a ∙ ap (λ (x : ℕ). Some x) same_number;
          count_is = b ∙ ap (λ (x : ℕ). Some x) same_count;
          some = ap (λ (x : ℕ). nat_lt 0 x) (sym same_count) ∙ some;
        }
    kept n k false some a b e = absurd cc

    by : (a b : Option ℕ) → number_of most_number first ≡ a → number_of 10_000 second ≡ b → work_by a b ≡ Some (Work number count) → IsSpelled first second number count
    by None b p q e = absurd cc
    by (Some n) None p q e = absurd cc
    by (Some n) (Some k) p q e = kept n k (nat_lt 0 k) refl p q e

spelling : (first second : List ℕ) (number count : ℕ) → IsSpelled first second number count → (first ≡ decimal number) × (number < 2 ^ 63) × (second ≡ decimal count) × (1 ≤ count) × (count ≤ 10_000)
spelling first second number count h =
    let a = found most_number first number h.number_is in
    let b = found 10_000 second count h.count_is in
    let low = a.1 in
    let high = b.1 in
    let some = ltb-true 0 count h.some in
    (a.0, omega arith, b.0, omega arith, omega arith)

spelled_back : (first second : List ℕ) (number count : ℕ) → (first ≡ decimal number) × (number < 2 ^ 63) × (second ≡ decimal count) × (1 ≤ count) × (count ≤ 10_000) → work_of first second ≡ Some (Work number count)
spelled_back first second number count h =
    let a = h.1 in
    let b = h.3 in
    let d = h.4 in
    let number_is : number_of most_number first ≡ Some number = only most_number number first (omega arith) (omega arith) h.0 in
    let count_is : number_of 10_000 second ≡ Some count = only 10_000 count second (omega arith) d h.2 in
    let some : nat_lt 0 count ≡ true = lt-ltb 0 count (omega arith) in
    ap (λ (x : Option ℕ). work_by x (number_of 10_000 second)) number_is
    ∙ ap (λ (x : Option ℕ). work_by (Some number) x) count_is
    ∙ ap (λ (x : Bool). cond x (Some (Work number count)) None) some

pub spelled : (verb first second : String Global) (number count : ℕ) → string_bytes verb ≡ codes "work" → (command_of (verb ∷ first ∷ second ∷ []) ≡ Some (Work number count)) ↔ ((string_bytes first ≡ decimal number) × (number < 2 ^ 63) × (string_bytes second ≡ decimal count) × (1 ≤ count) × (count ≤ 10_000))
spelled verb first second number count verb_is = (
  (λ e. spelling (string_bytes first) (string_bytes second) number count (told (string_bytes first) (string_bytes second) number count (sym (asked verb first second verb_is) ∙ e))),
  λ h. asked verb first second verb_is ∙ spelled_back (string_bytes first) (string_bytes second) number count h,
)
