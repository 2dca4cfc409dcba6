-- The whole of what the words of `pay` ask for.
use Rattle.std.specs.Prelude.{ℕ, Bool, false, ◌≡◌, ◌≢◌, ◌==◌, List, [], ◌∷◌, String, length, map, bytes_eq, string_bytes, Option, Some, None, option_map, Result, Ok, Err, if◌then◌else◌}
use Rattle.std.specs.List.{flat_map, list_any}
use Rattle.std.specs.Option.{option_or}
use Rattle.std.specs.declared.alloc.Global.{Global}
use Rattle.fund_base.specs.Parsing.{◌>>=◌}
use Rattle.request_making.specs.declared.settings.Settings.{Settings}
use Rattle.pay_words.specs.Given.{flags_in, place_of}
use Rattle.pay_words.specs.Payments.{PlainPayment, coin_given, payments_from, plain_payment}
use Rattle.pay_words.specs.Settings.{default_or, max_fee, needed, settings_given}
use Rattle.pay_words.specs.Values.{has, text_of, word_at}
use Rattle.pay_words.specs.Ways.{way_of}
use Rattle.pay_words.specs.declared.asked.Asked.{Asked}
use Rattle.pay_words.specs.declared.asked.Names.{Names}
use Rattle.pay_words.specs.declared.fault.WordFault.{WordFault}
use Rattle.pay_words.specs.declared.fault.WordFault.TheVariants as faults
use Rattle.pay_words.specs.declared.flag.Flag.{Flag}
use Rattle.pay_words.specs.declared.flag.Flag.TheVariants as flags
use Rattle.pay_words.specs.declared.given.Given.{Given}
use Rattle.pay_words.specs.declared.way.Way.{Way}

-- names of files
pub record PlainNames : Type 0 where
  pub wallet : List ℕ
  pub blocks : List ℕ
  pub psbt : Option (List ℕ)
  pub log : Option (List ℕ)
  pub report : Option (List ℕ)
  pub request : Option (List ℕ)

abbrev pub plain_names : Names → PlainNames
plain_names n = record { wallet = string_bytes n.wallet; blocks = string_bytes n.blocks; psbt = option_map string_bytes n.psbt; log = option_map string_bytes n.log; report = option_map string_bytes n.report; request = option_map string_bytes n.request }

-- what is asked for
pub record PlainAsked : Type 0 where
  pub names : PlainNames
  pub payments : List PlainPayment
  pub settings : Settings
  pub coins : List (List ℕ)
  pub max_fee : Option ℕ
  pub way : Way
  pub show_request : Bool
  pub json : Bool
  pub progress : Bool

abbrev pub plain_asked : Asked → PlainAsked
plain_asked a = record {
  names = plain_names a.names;
  payments = map plain_payment a.payments.items;
  settings = a.settings;
  coins = map string_bytes a.coins.items;
  max_fee = a.max_fee;
  way = a.way;
  show_request = a.show_request;
  json = a.json;
  progress = a.progress;
}

-- the name of a file behind a flag, which isn't empty
abbrev pub name_behind : Flag → List ℕ → Result (List ℕ) WordFault
name_behind flag text = if length text == 0 then Err (faults.EmptyName flag) else Ok text

-- the name behind a flag that has to be given
abbrev pub needed_name : Flag → List (String Global) → List Given → Result (List ℕ) WordFault
needed_name flag words given = needed flag (λ place text. name_behind flag text) words given

-- the name behind a flag that may be left out
abbrev pub name_or_none : Flag → List (String Global) → List Given → Result (Option (List ℕ)) WordFault
name_or_none flag words given = default_or (Ok None) (λ place text. name_behind flag text >>= λ name. Ok (Some name)) words (place_of given flag)

-- the name of each file by itself
abbrev pub each_name : List (String Global) → List Given → Result PlainNames WordFault
each_name words given = do
  wallet ← needed_name flags.Wallet words given
  blocks ← needed_name flags.Blocks words given
  psbt ← name_or_none flags.Psbt words given
  log ← name_or_none flags.Log words given
  report ← name_or_none flags.Report words given
  request ← name_or_none flags.Request words given
  Ok (record { wallet = wallet; blocks = blocks; psbt = psbt; log = log; report = report; request = request })

-- a name is given here too
abbrev pub is_given : List ℕ → Option (List ℕ) → Bool
is_given name None = false
is_given name (Some text) = bytes_eq name text

-- it is given behind one of these flags
abbrev pub is_given_by_any : List (String Global) → List Given → List ℕ → List Flag → Bool
is_given_by_any words given name others = list_any (λ (f : Flag). is_given name (text_of words given f)) others

-- by the place of the name behind a flag, that place, where the name behind one of the others is the same
abbrev pub alike_by : List (String Global) → List Given → List Flag → Option ℕ → Option ℕ
alike_by words given others None = None
alike_by words given others (Some place) = if is_given_by_any words given (word_at words place) others then Some place else None

abbrev pub alike_at : List (String Global) → List Given → Flag → List Flag → Option ℕ
alike_at words given flag others = alike_by words given others (place_of given flag)

-- The place of the first name, in the order wallet, blocks, PSBT, log, report and request, that is that of a file before it too.
abbrev pub same_name : List (String Global) → List Given → Option ℕ
same_name words given =
    option_or (alike_at words given flags.Blocks (flags.Wallet ∷ []))
    (option_or (alike_at words given flags.Psbt (flags.Wallet ∷ flags.Blocks ∷ []))
    (option_or (alike_at words given flags.Log (flags.Wallet ∷ flags.Blocks ∷ flags.Psbt ∷ []))
    (option_or (alike_at words given flags.Report (flags.Wallet ∷ flags.Blocks ∷ flags.Psbt ∷ flags.Log ∷ [])) (alike_at words given flags.Request (flags.Wallet ∷ flags.Blocks ∷ flags.Psbt ∷ flags.Log ∷ flags.Report ∷ [])))))

-- names are taken, unless one stands twice
abbrev pub unless_same : {A : Type 0} → Option ℕ → A → Result A WordFault
unless_same None names = Ok names
unless_same (Some place) names = Err (faults.SameName place)

-- the names of files: the faults of each by itself come before that of two that are alike
abbrev pub names_in : List (String Global) → List Given → Result PlainNames WordFault
names_in words given = each_name words given >>= unless_same (same_name words given)

-- the payments, at least one
abbrev pub some_paid : List (String Global) → List Given → Result (List PlainPayment) WordFault
some_paid words given = payments_from words [] given >>= λ ps. if length ps == 0 then Err (faults.Missing flags.To) else Ok ps

-- by the flags that were given
unfoldable pub asked_by : List ℕ → List (String Global) → List Given → Result PlainAsked WordFault
asked_by drawn words given = do
  names ← names_in words given
  payments ← some_paid words given
  settings ← settings_given drawn words given
  fee ← max_fee words given
  way ← way_of given settings.method
  Ok (record {
    names = names;
    payments = payments;
    settings = settings;
    coins = flat_map (coin_given words) given;
    max_fee = fee;
    way = way;
    show_request = has given flags.ShowRequest;
    json = has given flags.Json;
    progress = has given flags.Progress;
  })

-- The whole: the first fault of the words, then of what they say, in the order names of files, names that are alike,
-- payments, settings, greatest fee, and flags that don't go together; or exactly what they ask for.
unfoldable pub asked_in : List ℕ → List (String Global) → Result PlainAsked WordFault
asked_in drawn words = flags_in words >>= asked_by drawn words

-- The names of files are apart: none is empty, and no two are one.
pub record AreApart (n : PlainNames) : Type 0 where
  pub wallet : n.wallet ≢ []
  pub blocks : n.blocks ≢ []
  pub psbt : n.psbt ≢ Some []
  pub log : n.log ≢ Some []
  pub report : n.report ≢ Some []
  pub request : n.request ≢ Some []
  pub sources : n.blocks ≢ n.wallet
  pub psbt_apart : (name : List ℕ) → n.psbt ≡ Some name → (name ≢ n.wallet) × (name ≢ n.blocks)
  pub log_apart : (name : List ℕ) → n.log ≡ Some name → (name ≢ n.wallet) × (name ≢ n.blocks) × (n.psbt ≢ Some name)
  pub report_apart : (name : List ℕ) → n.report ≡ Some name → (name ≢ n.wallet) × (name ≢ n.blocks) × (n.psbt ≢ Some name) × (n.log ≢ Some name)
  pub request_apart : (name : List ℕ) → n.request ≡ Some name → (name ≢ n.wallet) × (name ≢ n.blocks) × (n.psbt ≢ Some name) × (n.log ≢ Some name) × (n.report ≢ Some name)
