-- The settings of a request that words give.
use Rattle.std.specs.Prelude.{ℕ, ◌&&◌, not, nat_lt, List, String, Option, Some, None, Result, Ok, Err, if◌then◌else◌}
use Rattle.std.specs.declared.alloc.Global.{Global}
use Rattle.fund_base.specs.Parsing.{◌>>=◌}
use Rattle.request_making.specs.Asked.{plain_settings}
use Rattle.request_making.specs.declared.settings.Settings.{Settings}
use Rattle.request_text.specs.declared.request.Method.{Method}
use Rattle.request_text.specs.declared.request.Method.TheVariants as methods
use Rattle.pay_words.specs.Given.{place_of}
use Rattle.pay_words.specs.Values.{amount_at, has, locktime_at, method_at, number_at, rate_at, seed_at, txid_at, word_at}
use Rattle.pay_words.specs.declared.fault.WordFault.{WordFault}
use Rattle.pay_words.specs.declared.fault.WordFault.TheVariants as faults
use Rattle.pay_words.specs.declared.flag.Flag.{Flag}
use Rattle.pay_words.specs.declared.flag.Flag.TheVariants as flags
use Rattle.pay_words.specs.declared.given.Given.{Given}

-- what the word at a place says, or what is meant where there is none
abbrev pub default_or : {A : Type 0} → Result A WordFault → (ℕ → List ℕ → Result A WordFault) → List (String Global) → Option ℕ → Result A WordFault
default_or default reading words None = default
default_or default reading words (Some place) = reading place (word_at words place)

-- a flag that has to be given
abbrev pub needed : {A : Type 0} → Flag → (ℕ → List ℕ → Result A WordFault) → List (String Global) → List Given → Result A WordFault
needed flag reading words given = default_or (Err (faults.Missing flag)) reading words (place_of given flag)

-- a rate below 1 satoshi per virtual byte is refused, unless it is allowed
abbrev pub low_or_not : List Given → ℕ → ℕ → Result ℕ WordFault
low_or_not given place rate = if nat_lt rate 1_000 && not (has given flags.AllowLowRate) then Err (faults.LowRate place) else Ok rate

abbrev pub fee_rate : List (String Global) → List Given → Result ℕ WordFault
fee_rate words given = needed flags.FeeRate (λ place text. rate_at place text >>= λ rate. low_or_not given place rate) words given

abbrev pub rate_or : ℕ → Flag → List (String Global) → List Given → Result ℕ WordFault
rate_or rate flag words given = default_or (Ok rate) rate_at words (place_of given flag)

-- the change that is aimed at
abbrev pub target_or : ℕ → List (String Global) → List Given → Result ℕ WordFault
target_or target words given = default_or (Ok target) amount_at words (place_of given flags.ChangeTarget)

-- the method where none is given: weight where the recipients bear the fee, and else auto
abbrev pub usual_method : List Given → Method
usual_method given = if has given flags.FeeFromAmount then methods.Weight else methods.Auto

abbrev pub method_or_usual : List (String Global) → List Given → Result Method WordFault
method_or_usual words given = default_or (Ok (usual_method given)) method_at words (place_of given flags.Method)

abbrev pub tries_or : ℕ → List (String Global) → List Given → Result ℕ WordFault
tries_or tries words given = default_or (Ok tries) number_at words (place_of given flags.Tries)

abbrev pub seed_or : List ℕ → List (String Global) → List Given → Result (List ℕ) WordFault
seed_or drawn words given = default_or (Ok drawn) seed_at words (place_of given flags.Seed)

-- the payment that is replaced
abbrev pub some_txid : ℕ → List ℕ → Result (Option (List ℕ)) WordFault
some_txid place text = txid_at place text >>= λ txid. Ok (Some txid)

abbrev pub bump_or_none : List (String Global) → List Given → Result (Option (List ℕ)) WordFault
bump_or_none words given = default_or (Ok None) some_txid words (place_of given flags.Bump)

abbrev pub locktime_or : ℕ → List (String Global) → List Given → Result ℕ WordFault
locktime_or locktime words given = default_or (Ok locktime) locktime_at words (place_of given flags.LockTime)

abbrev pub some_amount : ℕ → List ℕ → Result (Option ℕ) WordFault
some_amount place text = amount_at place text >>= λ fee. Ok (Some fee)

-- the greatest fee that is taken
abbrev pub max_fee : List (String Global) → List Given → Result (Option ℕ) WordFault
max_fee words given = default_or (Ok None) some_amount words (place_of given flags.MaxFee)

-- The settings: what no flag says is what a request file means by leaving it out, but for the wallet's own pending outputs.
abbrev pub settings_given : List ℕ → List (String Global) → List Given → Result Settings WordFault
settings_given drawn words given = do
  rate ← fee_rate words given
  long_term ← rate_or 10_000 flags.LongTerm words given
  discard ← rate_or 10_000 flags.Discard words given
  change_target ← target_or 50_000 words given
  method ← method_or_usual words given
  tries ← tries_or 100_000 words given
  seed ← seed_or drawn words given
  bump ← bump_or_none words given
  locktime ← locktime_or 0 words given
  Ok (record (plain_settings rate method seed) {
    long_term = long_term;
    discard = discard;
    change_target = change_target;
    tries = tries;
    take = not (has given flags.Stop);
    zero_conf = has given flags.ZeroConf;
    include_unsafe = has given flags.Unsafe;
    group = has given flags.Group;
    replaceable = not (has given flags.NoReplace);
    locktime = locktime;
    bump = bump;
  })
