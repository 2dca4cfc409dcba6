-- What the settings of a request have of the flags.
use Rattle.std.proofs.Common.{◌≡◌, ◌∙◌, ℕ, List, Option, Result, Ok, Err, String, ap}
use Rattle.std.specs.declared.alloc.Global.{Global}
use Rattle.fund_base.proofs.Laws.{bind_ok}
use Rattle.request_making.specs.declared.settings.Settings.{Settings}
use Rattle.pay_words.specs.Settings.{bump_or_none, fee_rate, locktime_or, method_or_usual, rate_or, seed_or, settings_given, target_or, tries_or}
use Rattle.pay_words.specs.declared.fault.WordFault.{WordFault}
use Rattle.pay_words.specs.declared.flag.Flag.TheVariants as flags
use Rattle.pay_words.specs.declared.given.Given.{Given}

-- their fee rate, and the payment that is replaced
pub record AreGiven (words : List (String Global)) (given : List Given) (settings : Settings) : Type 0 where
  pub rate : fee_rate words given ≡ Ok settings.rate
  pub bump : bump_or_none words given ≡ Ok settings.bump

pub settings_are : (drawn : List ℕ) (words : List (String Global)) (given : List Given) (settings : Settings) → settings_given drawn words given ≡ Ok settings → AreGiven words given settings
settings_are drawn words given settings e =
    let rate = bind_ok (fee_rate words given) _ settings e in
    let long_term = bind_ok (rate_or 10_000 flags.LongTerm words given) _ settings rate.2 in
    let discard = bind_ok (rate_or 10_000 flags.Discard words given) _ settings long_term.2 in
    let target = bind_ok (target_or 50_000 words given) _ settings discard.2 in
    let method = bind_ok (method_or_usual words given) _ settings target.2 in
    let tries = bind_ok (tries_or 100_000 words given) _ settings method.2 in
    let seed = bind_ok (seed_or drawn words given) _ settings tries.2 in
    let bump = bind_ok (bump_or_none words given) _ settings seed.2 in
    let locktime = bind_ok (locktime_or 0 words given) _ settings bump.2 in
    record {
      rate = rate.1 ∙ ap (λ (r : Result Settings WordFault). rate_in rate.0 r) locktime.2;
      bump = bump.1 ∙ ap (λ (r : Result Settings WordFault). bump_in bump.0 r) locktime.2;
    }
  where
    rate_in : ℕ → Result Settings WordFault → Result ℕ WordFault
    rate_in default (Ok s) = Ok s.rate
    rate_in default (Err e) = Ok default

    bump_in : Option (List ℕ) → Result Settings WordFault → Result (Option (List ℕ)) WordFault
    bump_in default (Ok s) = Ok s.bump
    bump_in default (Err e) = Ok default
