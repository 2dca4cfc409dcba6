-- Which rates, tries and words are read, and when a range's own fault comes.
use Rattle.std.proofs.Common.{◌≡◌, ◌<◌, ◌≤◌, ◌==◌, ℕ, Bool, true, false, cond, ◌||◌, List, codes, nat_lt, ◌⊎◌, inl, inr, Result, Ok, Err, refl, sym, ap, subst, ◌∙◌, true≢false, arith}
use Rattle.std.specs.Prelude.{◌↔◌}
use Rattle.std.proofs.lemmas.Bool.{eqb-true, ltb-true, ltb-false, or_cases}
use Rattle.fund_base.specs.Parsing.{◌>>=◌}
use Rattle.fund_base.proofs.Laws.{bind_ok, guard_met, ok_is}
use Rattle.json_fields.proofs.NumberLaws as numbers
use Rattle.json_fields.specs.Fields.{number_at}
use Rattle.json_fields.specs.declared.fault.FieldFault.{FieldFault}
use Rattle.json_fields.specs.declared.fault.FieldFault.TheVariants.{Kind}
use Rattle.serde_json.specs.Data.{Data, number, unsigned}
use Rattle.request_text.specs.PlainRequest.{IsVersion}
use Rattle.request_text.specs.RequestText.{field, whole_at, rate_at, tries_at, version_at}
use Rattle.request_text.specs.declared.fault.Refusal.{Refusal}
use Rattle.request_text.specs.declared.fault.Refusal.TheVariants.{RateRange, TriesRange}

-- a test of a whole number, which was read or not
whole_is : {B : Type 0} (name : List ℕ) (d : Data) (then : ℕ → Result B Refusal) (out : Result B Refusal) → ((fault : FieldFault) → field {A = B} (Err fault) ≡ out → ⊥) → (whole_at name d >>= then) ≡ out
    → (n : ℕ) × (d ≡ number (unsigned n)) × (n ≤ 18_446_744_073_709_551_615) × (then n ≡ out)
whole_is {B} name d then out never e = by (number_at name 18_446_744_073_709_551_615 d) refl e
  where
    by : (r : Result ℕ FieldFault) → number_at name 18_446_744_073_709_551_615 d ≡ r → (field r >>= then) ≡ out → (n : ℕ) × (d ≡ number (unsigned n)) × (n ≤ 18_446_744_073_709_551_615) × (then n ≡ out)
    by (Ok n) is reads = let law = numbers.found name 18_446_744_073_709_551_615 n d is in (n, law.0, law.1, reads)
    by (Err fault) is reads = absurd (never fault reads)

whole_reads : {B : Type 0} (name : List ℕ) (d : Data) (then : ℕ → Result B Refusal) (n : ℕ) → d ≡ number (unsigned n) → n ≤ 18_446_744_073_709_551_615 → (whole_at name d >>= then) ≡ then n
whole_reads name d then n is le = ap (λ v. whole_at name v >>= then) is ∙ ap (λ r. field r >>= then) (numbers.only name 18_446_744_073_709_551_615 n le)

-- ---- rates

abbrev judged_rate : List ℕ → ℕ → Result ℕ Refusal
judged_rate name rate = cond (nat_lt 100_000_000 rate) (Err (RateRange name)) (Ok rate)

rate_fits : (name : List ℕ) (n : ℕ) → n ≤ 100_000_000 → judged_rate name n ≡ Ok n
rate_fits name n le = by (nat_lt 100_000_000 n) refl
  where
    by : (b : Bool) → nat_lt 100_000_000 n ≡ b → cond b (Err (RateRange name)) (Ok n) ≡ Ok n
    by true e = let lt = ltb-true 100_000_000 n e in absurd (omega arith)
    by false e = refl

rate_exceeds : (name : List ℕ) (n : ℕ) → 100_000_000 < n → judged_rate name n ≡ Err (RateRange name)
rate_exceeds name n lt = by (nat_lt 100_000_000 n) refl
  where
    by : (b : Bool) → nat_lt 100_000_000 n ≡ b → cond b (Err (RateRange name)) (Ok n) ≡ Err (RateRange name)
    by true e = refl
    by false e = let le = ltb-false 100_000_000 n e in absurd (omega arith)

abbrev IsRate : Data → ℕ → Type 0
IsRate d n = (d ≡ number (unsigned n)) × (n ≤ 100_000_000)

pub rate : (name : List ℕ) (d : Data) (n : ℕ) → (rate_at name d ≡ Ok n) ↔ IsRate d n
unfolding rate_at
rate name d n = (λ e. found (whole_is name d (judged_rate name) (Ok n) (λ f h. cc h) e), λ is. whole_reads name d (judged_rate name) n is.0 (let le = is.1 in omega arith) ∙ rate_fits name n is.1)
  where
    by : (m : ℕ) → d ≡ number (unsigned m) → (b : Bool) → nat_lt 100_000_000 m ≡ b → cond b (Err (RateRange name)) (Ok m) ≡ Ok n → IsRate d n
    by m is true e reads = absurd (cc reads)
    by m is false e reads = let same : m ≡ n = cc reads in subst (IsRate d) same (is, ltb-false 100_000_000 m e)

    found : (m : ℕ) × (d ≡ number (unsigned m)) × (m ≤ 18_446_744_073_709_551_615) × (judged_rate name m ≡ Ok n) → IsRate d n
    found r = by r.0 r.1 (nat_lt 100_000_000 r.0) refl r.3

abbrev Exceeds : List ℕ → Data → List ℕ → Type 0
Exceeds name d told = (told ≡ name) × ((n : ℕ) × (d ≡ number (unsigned n)) × (100_000_000 < n) × (n ≤ 18_446_744_073_709_551_615))

pub rate_range : (name : List ℕ) (d : Data) (told : List ℕ) → (rate_at name d ≡ Err (RateRange told)) ↔ Exceeds name d told
unfolding rate_at
rate_range name d told = (
  λ e. found (whole_is name d (judged_rate name) (Err (RateRange told)) (λ f h. cc h) e),
  λ is.
      whole_reads name d (judged_rate name) is.1.0 is.1.1 is.1.3 ∙ rate_exceeds name is.1.0 is.1.2 ∙ ap (λ t. Err (RateRange t)) (sym is.0),
)
  where
    by : (m : ℕ) → d ≡ number (unsigned m) → m ≤ 18_446_744_073_709_551_615 → (b : Bool) → nat_lt 100_000_000 m ≡ b → cond b (Err (RateRange name)) (Ok m) ≡ Err (RateRange told) → Exceeds name d told
    by m is le true e reads = (sym (cc reads), (m, is, ltb-true 100_000_000 m e, le))
    by m is le false e reads = absurd (cc reads)

    found : (m : ℕ) × (d ≡ number (unsigned m)) × (m ≤ 18_446_744_073_709_551_615) × (judged_rate name m ≡ Err (RateRange told)) → Exceeds name d told
    found r = by r.0 r.1 r.2 (nat_lt 100_000_000 r.0) refl r.3

-- ---- tries

abbrev judged_tries : ℕ → Result ℕ Refusal
judged_tries n = cond (n == 0 || nat_lt 10_000_000 n) (Err TriesRange) (Ok n)

-- the test of a number of tries is exact
abbrev OutOfRange : ℕ → Type 0
OutOfRange n = (n ≡ 0) ⊎ (10_000_000 < n)

tries_out : (n : ℕ) → (n == 0 || nat_lt 10_000_000 n) ≡ true → OutOfRange n
tries_out n e = by (n == 0) refl e
  where
    by : (b : Bool) → (n == 0) ≡ b → (b || nat_lt 10_000_000 n) ≡ true → OutOfRange n
    by true none test = inl (eqb-true n 0 none)
    by false some test = inr (ltb-true 10_000_000 n test)

tries_in : (n : ℕ) → (n == 0 || nat_lt 10_000_000 n) ≡ false → (1 ≤ n) × (n ≤ 10_000_000)
tries_in n e = by (n == 0) refl (nat_lt 10_000_000 n) refl e
  where
    some : (n == 0) ≡ false → n ≡ 0 → ⊥
    some test zero_is = true≢false (sym (rw zero_is refl) ∙ test)

    by : (a : Bool) → (n == 0) ≡ a → (b : Bool) → nat_lt 10_000_000 n ≡ b → (a || b) ≡ false → (1 ≤ n) × (n ≤ 10_000_000)
    by true none b more test = absurd (true≢false test)
    by false some_is true more test = absurd (true≢false test)
    by false some_is false more test = let not_none = some some_is in (omega arith, ltb-false 10_000_000 n more)

abbrev AreTries : Data → ℕ → Type 0
AreTries d n = (d ≡ number (unsigned n)) × (1 ≤ n) × (n ≤ 10_000_000)

pub tries : (d : Data) (n : ℕ) → (tries_at d ≡ Ok n) ↔ AreTries d n
unfolding tries_at
tries d n = (λ e. found (whole_is (codes "tries") d judged_tries (Ok n) (λ f h. cc h) e), λ is. whole_reads (codes "tries") d judged_tries n is.0 (let le = is.2 in omega arith) ∙ fits (n == 0 || nat_lt 10_000_000 n) refl is)
  where
    fits : (b : Bool) → (n == 0 || nat_lt 10_000_000 n) ≡ b → AreTries d n → cond b (Err TriesRange) (Ok n) ≡ Ok n
    fits true e is = out (tries_out n e)
      where
        out : OutOfRange n → Err TriesRange ≡ Ok n
        out (inl none) = let some = is.1 in absurd (omega arith)
        out (inr more) = let le = is.2 in absurd (omega arith)
    fits false e is = refl

    by : (m : ℕ) → d ≡ number (unsigned m) → (b : Bool) → (m == 0 || nat_lt 10_000_000 m) ≡ b → cond b (Err TriesRange) (Ok m) ≡ Ok n → AreTries d n
    by m is true e reads = absurd (cc reads)
    by m is false e reads = let same : m ≡ n = cc reads in let range = tries_in m e in subst (AreTries d) same (is, range.0, range.1)

    found : (m : ℕ) × (d ≡ number (unsigned m)) × (m ≤ 18_446_744_073_709_551_615) × (judged_tries m ≡ Ok n) → AreTries d n
    found r = by r.0 r.1 (r.0 == 0 || nat_lt 10_000_000 r.0) refl r.3

abbrev NoTries : Data → Type 0
NoTries d = (n : ℕ) × (d ≡ number (unsigned n)) × OutOfRange n × (n ≤ 18_446_744_073_709_551_615)

pub tries_range : (d : Data) → (tries_at d ≡ Err TriesRange) ↔ NoTries d
unfolding tries_at
tries_range d = (λ e. found (whole_is (codes "tries") d judged_tries (Err TriesRange) (λ f h. cc h) e), λ is. whole_reads (codes "tries") d judged_tries is.0 is.1 is.3 ∙ fails is.0 (is.0 == 0 || nat_lt 10_000_000 is.0) refl is.2)
  where
    fails : (n : ℕ) (b : Bool) → (n == 0 || nat_lt 10_000_000 n) ≡ b → OutOfRange n → cond b (Err TriesRange) (Ok n) ≡ Err TriesRange
    fails n true e is = refl
    fails n false e (inl none) = let range = tries_in n e in absurd (omega (arith, range.0))
    fails n false e (inr more) = let range = tries_in n e in absurd (omega (arith, range.1))

    by : (m : ℕ) → d ≡ number (unsigned m) → m ≤ 18_446_744_073_709_551_615 → (b : Bool) → (m == 0 || nat_lt 10_000_000 m) ≡ b → cond b (Err TriesRange) (Ok m) ≡ Err TriesRange → NoTries d
    by m is le true e reads = (m, is, tries_out m e, le)
    by m is le false e reads = absurd (cc reads)

    found : (m : ℕ) × (d ≡ number (unsigned m)) × (m ≤ 18_446_744_073_709_551_615) × (judged_tries m ≡ Err TriesRange) → NoTries d
    found r = by r.0 r.1 r.2 (r.0 == 0 || nat_lt 10_000_000 r.0) refl r.3

-- ---- versions

abbrev judged_version : ℕ → Result ℕ FieldFault
judged_version n = cond (n == 0 || n == 2) (Ok n) (Err (Kind (codes "psbt")))

version_by : (n : ℕ) → (n == 0 || n == 2) ≡ true → IsVersion n
version_by n e = elim (or_cases (n == 0) (n == 2) e) [
  | inl first ↦ inl (eqb-true n 0 first)
  | inr second ↦ inr (eqb-true n 2 second)
]

version_reads : (n : ℕ) → IsVersion n → judged_version n ≡ Ok n
version_reads n (inl is) = rw is refl
version_reads n (inr is) = rw is refl

abbrev IsVersionText : Data → ℕ → Type 0
IsVersionText d n = (d ≡ number (unsigned n)) × IsVersion n

small : (n : ℕ) → IsVersion n → n ≤ 4_294_967_295
small n (inl is) = omega (arith, is)
small n (inr is) = omega (arith, is)

pub versions : (d : Data) (n : ℕ) → (version_at d ≡ Ok n) ↔ IsVersionText d n
unfolding version_at
versions d n = (
  λ e.
      let a = bind_ok (number_at (codes "psbt") 4_294_967_295 d) judged_version n e in
      let law = numbers.found (codes "psbt") 4_294_967_295 a.0 d a.1 in
      let g = guard_met (a.0 == 0 || a.0 == 2) (Kind (codes "psbt")) (Ok a.0) n a.2 in
      subst (IsVersionText d) (ok_is a.0 n (Ok a.0) refl g.1) (law.0, version_by a.0 g.0),
  λ is.
      ap (λ v. number_at (codes "psbt") 4_294_967_295 v >>= judged_version) is.0 ∙ ap (λ r. r >>= judged_version) (numbers.only (codes "psbt") 4_294_967_295 n (small n is.1)) ∙ version_reads n is.1,
)

pub no_version : (d : Data) (fault : FieldFault) → version_at d ≡ Err fault → fault ≡ Kind (codes "psbt")
unfolding version_at
no_version d fault e = by (number_at (codes "psbt") 4_294_967_295 d) refl e
  where
    judged : (b : Bool) (n : ℕ) → cond b (Ok n) (Err (Kind (codes "psbt"))) ≡ Err fault → fault ≡ Kind (codes "psbt")
    judged true n reads = absurd (cc reads)
    judged false n reads = sym (cc reads)

    by : (r : Result ℕ FieldFault) → number_at (codes "psbt") 4_294_967_295 d ≡ r → (r >>= judged_version) ≡ Err fault → fault ≡ Kind (codes "psbt")
    by (Ok n) is reads = judged (n == 0 || n == 2) n reads
    by (Err other) is reads = sym (cc reads) ∙ numbers.fault (codes "psbt") 4_294_967_295 d other is
