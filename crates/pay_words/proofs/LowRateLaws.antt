-- What asks for a low rate is given the flag that allows it.
use Rattle.std.proofs.Common.{◌≡◌, ◌<◌, ℕ, Bool, true, false, ltb, List, Option, Some, None, Result, Ok, Err, String, if◌then◌else◌, refl, ap, subst, arith, inl, inr}
use Rattle.std.specs.Prelude.{◌&&◌, not}
use Rattle.std.specs.declared.alloc.Global.{Global}
use Rattle.std.proofs.lemmas.Bool.{and_cases, both_ways, lt-ltb, not-false}
use Rattle.fund_base.specs.Parsing.{◌>>=◌}
use Rattle.fund_base.proofs.Laws.{bind_ok, ok_is}
use Rattle.request_making.specs.declared.settings.Settings.{Settings}
use Rattle.pay_words.specs.Asked.{PlainAsked, asked_by, asked_in, names_in, some_paid}
use Rattle.pay_words.specs.Given.{flags_in, place_of}
use Rattle.pay_words.specs.Settings.{default_or, fee_rate, low_or_not, max_fee, settings_given}
use Rattle.pay_words.specs.Values.{has, rate_at, word_at}
use Rattle.pay_words.specs.Ways.{way_of}
use Rattle.pay_words.specs.declared.fault.WordFault.{WordFault}
use Rattle.pay_words.specs.declared.fault.WordFault.TheVariants as faults
use Rattle.pay_words.specs.declared.flag.Flag.TheVariants as flags
use Rattle.pay_words.specs.declared.given.Given.{Given}
use Rattle.pay_words.proofs.SettingsLaws.{settings_are}

low_allowed : (given : List Given) (place rate taken : ℕ) → low_or_not given place rate ≡ Ok taken → taken < 1_000 → has given flags.AllowLowRate ≡ true
low_allowed given place rate taken e low = by (ltb rate 1_000 && not (has given flags.AllowLowRate)) refl e
  where
    told : Result ℕ WordFault → Type 0
    told r = r ≡ Ok taken

    by : (b : Bool) → (ltb rate 1_000 && not (has given flags.AllowLowRate)) ≡ b → told (if b then Err (faults.LowRate place) else Ok rate) → has given flags.AllowLowRate ≡ true
    by true is here = absurd cc
    by false is here =
        let same : rate ≡ taken = ok_is rate taken (Ok rate) refl here in
        let less : ltb rate 1_000 ≡ true = lt-ltb rate 1_000 (omega (arith, same, low)) in
        elim (and_cases (ltb rate 1_000) (not (has given flags.AllowLowRate)) is) [
          | inl high ↦ absurd (both_ways (ltb rate 1_000) high less)
          | inr allowed ↦ not-false _ allowed
        ]

rate_allowed : (words : List (String Global)) (given : List Given) (rate : ℕ) → fee_rate words given ≡ Ok rate → rate < 1_000 → has given flags.AllowLowRate ≡ true
rate_allowed words given rate taken low = by (place_of given flags.FeeRate) taken
  where
    by : (o : Option ℕ) → default_or (Err (faults.Missing flags.FeeRate)) (λ place text. rate_at place text >>= λ r. low_or_not given place r) words o ≡ Ok rate → has given flags.AllowLowRate ≡ true
    by None here = absurd cc
    by (Some place) here = let b = bind_ok (rate_at place (word_at words place)) _ rate here in low_allowed given place b.0 rate b.2 low

-- what asks for a rate below 1 satoshi per virtual byte is given the flag that allows it
pub low_given : (drawn : List ℕ) (words : List (String Global)) (given : List Given) (asked : PlainAsked) → flags_in words ≡ Ok given → asked_in drawn words ≡ Ok asked → asked.settings.rate < 1_000 → has given flags.AllowLowRate ≡ true
unfolding asked_in asked_by
low_given drawn words given asked read is low =
    let read_in = bind_ok (flags_in words) (asked_by drawn words) asked is in
    let names = bind_ok (names_in words read_in.0) _ asked read_in.2 in
    let paid = bind_ok (some_paid words read_in.0) _ asked names.2 in
    let settings = bind_ok (settings_given drawn words read_in.0) _ asked paid.2 in
    let fee = bind_ok (max_fee words read_in.0) _ asked settings.2 in
    let way = bind_ok (way_of read_in.0 settings.0.method) _ asked fee.2 in
    let same : settings.0 ≡ asked.settings = ap (λ (r : Result PlainAsked WordFault). settings_or settings.0 r) way.2 in
    let one : read_in.0 ≡ given = ok_is read_in.0 given (flags_in words) read_in.1 read in
    subst (λ (g : List Given). has g flags.AllowLowRate ≡ true) one
    (rate_allowed words read_in.0 settings.0.rate (settings_are drawn words read_in.0 settings.0 settings.1).rate (omega (arith, ap (λ (s : Settings). s.rate) same, low)))
  where
    settings_or : Settings → Result PlainAsked WordFault → Settings
    settings_or default (Ok a) = a.settings
    settings_or default (Err e) = default
