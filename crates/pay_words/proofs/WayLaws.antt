-- What words that ask for consolidating, or for a fee from the amounts, give beside it.
use Rattle.std.proofs.Common.{◌≡◌, ℕ, Bool, true, false, List, [], ◌∷◌, ◌++◌, Option, Some, None, Result, Ok, Err, String, if◌then◌else◌, refl, ap, sym, ◌∙◌}
use Rattle.std.specs.Prelude.{IsSome}
use Rattle.std.specs.List.{flat_map}
use Rattle.std.specs.Option.{option_or}
use Rattle.std.specs.declared.alloc.Global.{Global}
use Rattle.fund_base.proofs.Laws.{bind_ok, guard_met}
use Rattle.request_making.specs.declared.settings.Settings.{Settings}
use Rattle.request_text.specs.declared.request.Method.{Method}
use Rattle.request_text.specs.declared.request.Method.TheVariants as methods
use Rattle.pay_words.specs.Asked.{PlainAsked, asked_by, asked_in, names_in, some_paid}
use Rattle.pay_words.specs.Flags.{is_same}
use Rattle.pay_words.specs.Given.{flags_in, place_of}
use Rattle.pay_words.specs.Payments.{coin_given}
use Rattle.pay_words.specs.Settings.{default_or, max_fee, settings_given, some_txid}
use Rattle.pay_words.specs.Values.{word_at}
use Rattle.pay_words.specs.Ways.{alone_by, is_changeless, is_weight, unless_listed, way_beside, way_by, way_of}
use Rattle.pay_words.specs.declared.fault.WordFault.{WordFault}
use Rattle.pay_words.specs.declared.fault.WordFault.TheVariants as faults
use Rattle.pay_words.specs.declared.flag.Flag.TheVariants as flags
use Rattle.pay_words.specs.declared.given.Given.{Given}
use Rattle.pay_words.proofs.SettingsLaws.{settings_are}
use Rattle.pay_words.specs.declared.way.Way.{Way}
use Rattle.pay_words.specs.declared.way.Way.TheVariants as ways

-- no coin is listed where no flag for one is given
none_listed : (words : List (String Global)) (given : List Given) → place_of given flags.Coin ≡ None → flat_map (coin_given words) given ≡ []
unfolding place_of
none_listed words [] none = refl
none_listed words (g ∷ gs) none = by (is_same g.flag flags.Coin) none (none_listed words gs)
  where
    by : (b : Bool) → (if b then Some g.place else place_of gs flags.Coin) ≡ None → (place_of gs flags.Coin ≡ None → flat_map (coin_given words) gs ≡ []) → (if b then word_at words g.place ∷ [] else []) ++ flat_map (coin_given words) gs ≡ []
    by true here rest = absurd cc
    by false here rest = rest here

method_is : (m : Method) → is_changeless m ≡ true → m ≡ methods.Changeless
method_is methods.Auto e = absurd cc
method_is methods.Changeless e = refl
method_is methods.Weight e = absurd cc
method_is methods.Draw e = absurd cc
method_is methods.Manual e = absurd cc

is_weight_of : (m : Method) → is_weight m ≡ true → m ≡ methods.Weight
is_weight_of methods.Auto e = absurd cc
is_weight_of methods.Changeless e = absurd cc
is_weight_of methods.Weight e = refl
is_weight_of methods.Draw e = absurd cc
is_weight_of methods.Manual e = absurd cc

-- a way that is taken where no coin is listed
unlisted : (wanted : Way) (coin : Option ℕ) (way : Way) → unless_listed wanted coin ≡ Ok way → (coin ≡ None) × (wanted ≡ way)
unlisted wanted None way e = (refl, let same : wanted ≡ way = cc in same)
unlisted wanted (Some place) way e = absurd cc

-- by the flags
wide_by : (consolidates bears coin : Option ℕ) (method : Method) (way : Way) → way_by consolidates bears coin method ≡ Ok way → way ≡ ways.Wide → (method ≡ methods.Changeless) × (coin ≡ None)
wide_by None None coin method way made is = absurd (let fund : ways.Fund ≡ way = cc in cc)
wide_by None (Some place) coin method way made is =
    let met = guard_met (is_weight method) (faults.NotWeight place) (unless_listed ways.Share coin) way made in
    let share = (unlisted ways.Share coin way met.1).1 in
    absurd cc
wide_by (Some place) None coin method way made is =
    let met = guard_met (is_changeless method) (faults.NotChangeless place) (unless_listed ways.Wide coin) way made in
    (method_is method met.0, (unlisted ways.Wide coin way met.1).0)
wide_by (Some place) (Some other) coin method way made is = absurd cc

share_by : (consolidates bears coin : Option ℕ) (method : Method) (way : Way) → way_by consolidates bears coin method ≡ Ok way → way ≡ ways.Share → (method ≡ methods.Weight) × (coin ≡ None)
share_by None None coin method way made is = absurd (let fund : ways.Fund ≡ way = cc in cc)
share_by None (Some place) coin method way made is =
    let met = guard_met (is_weight method) (faults.NotWeight place) (unless_listed ways.Share coin) way made in
    (is_weight_of method met.0, (unlisted ways.Share coin way met.1).0)
share_by (Some place) None coin method way made is =
    let met = guard_met (is_changeless method) (faults.NotChangeless place) (unless_listed ways.Wide coin) way made in
    let wide = (unlisted ways.Wide coin way met.1).1 in
    absurd cc
share_by (Some place) (Some other) coin method way made is = absurd cc

-- a payment that is replaced is one by `fund`, and no coin is listed
alone_is : (coin consolidates bears : Option ℕ) (way : Way) → alone_by (option_or coin (option_or consolidates bears)) ≡ Ok way → (way ≡ ways.Fund) × (coin ≡ None)
alone_is None None None way made = (sym (let fund : ways.Fund ≡ way = cc in fund), refl)
alone_is None None (Some place) way made = absurd cc
alone_is None (Some place) bears way made = absurd cc
alone_is (Some place) consolidates bears way made = absurd cc

-- beside `--bump`, or without it
wide_beside : (bump consolidates bears coin : Option ℕ) (method : Method) (way : Way) → way_beside bump consolidates bears coin method ≡ Ok way → way ≡ ways.Wide → (method ≡ methods.Changeless) × (coin ≡ None)
wide_beside None consolidates bears coin method way made is = wide_by consolidates bears coin method way made is
wide_beside (Some place) consolidates bears coin method way made is = let fund = (alone_is coin consolidates bears way made).0 in absurd cc

share_beside : (bump consolidates bears coin : Option ℕ) (method : Method) (way : Way) → way_beside bump consolidates bears coin method ≡ Ok way → way ≡ ways.Share → (method ≡ methods.Weight) × (coin ≡ None)
share_beside None consolidates bears coin method way made is = share_by consolidates bears coin method way made is
share_beside (Some place) consolidates bears coin method way made is = let fund = (alone_is coin consolidates bears way made).0 in absurd cc

bumped_beside : (bump consolidates bears coin : Option ℕ) (method : Method) (way : Way) → IsSome bump → way_beside bump consolidates bears coin method ≡ Ok way → (way ≡ ways.Fund) × (coin ≡ None)
bumped_beside None consolidates bears coin method way none made = absurd cc
bumped_beside (Some place) consolidates bears coin method way some made = alone_is coin consolidates bears way made

-- the flags of what is asked for, by which its way was taken and its coins are listed
record IsAskedBy (drawn : List ℕ) (words : List (String Global)) (asked : PlainAsked) : Type 0 where
  given : List Given
  settings : settings_given drawn words given ≡ Ok asked.settings
  way : way_of given asked.settings.method ≡ Ok asked.way
  coins : asked.coins ≡ flat_map (coin_given words) given

asked_with : (drawn : List ℕ) (words : List (String Global)) (asked : PlainAsked) → asked_in drawn words ≡ Ok asked → IsAskedBy drawn words asked
unfolding asked_in asked_by
asked_with drawn words asked is =
    let given = bind_ok (flags_in words) (asked_by drawn words) asked is in
    let names = bind_ok (names_in words given.0) _ asked given.2 in
    let paid = bind_ok (some_paid words given.0) _ asked names.2 in
    let settings = bind_ok (settings_given drawn words given.0) _ asked paid.2 in
    let fee = bind_ok (max_fee words given.0) _ asked settings.2 in
    let way = bind_ok (way_of given.0 settings.0.method) _ asked fee.2 in
    let settings_is : settings.0 ≡ asked.settings = ap (λ (r : Result PlainAsked WordFault). of_ok (λ (a : PlainAsked). a.settings) settings.0 r) way.2 in
    let way_is : way.0 ≡ asked.way = ap (λ (r : Result PlainAsked WordFault). of_ok (λ (a : PlainAsked). a.way) way.0 r) way.2 in
    let coins_are : flat_map (coin_given words) given.0 ≡ asked.coins = ap (λ (r : Result PlainAsked WordFault). of_ok (λ (a : PlainAsked). a.coins) (flat_map (coin_given words) given.0) r) way.2 in
    record {
      given = given.0;
      settings = settings.1 ∙ ap (λ (s : Settings). let made : Result Settings WordFault = Ok s in made) settings_is;
      way = ap (λ (s : Settings). way_of given.0 s.method) (sym settings_is) ∙ (way.1 ∙ ap (λ (w : Way). let made : Result Way WordFault = Ok w in made) way_is);
      coins = sym coins_are;
    }
  where
    of_ok : {X : Type 0} → (PlainAsked → X) → X → Result PlainAsked WordFault → X
    of_ok get default (Ok a) = get a
    of_ok get default (Err e) = default

pub wide_asked : (drawn : List ℕ) (words : List (String Global)) (asked : PlainAsked) → asked_in drawn words ≡ Ok asked → asked.way ≡ ways.Wide → (asked.settings.method ≡ methods.Changeless) × (asked.coins ≡ [])
wide_asked drawn words asked is wide =
    let a = asked_with drawn words asked is in
    let found = wide_beside (place_of a.given flags.Bump) (place_of a.given flags.Consolidate) (place_of a.given flags.FeeFromAmount) (place_of a.given flags.Coin) asked.settings.method asked.way a.way wide in
    (found.0, a.coins ∙ none_listed words a.given found.1)

pub share_asked : (drawn : List ℕ) (words : List (String Global)) (asked : PlainAsked) → asked_in drawn words ≡ Ok asked → asked.way ≡ ways.Share → (asked.settings.method ≡ methods.Weight) × (asked.coins ≡ [])
share_asked drawn words asked is share =
    let a = asked_with drawn words asked is in
    let found = share_beside (place_of a.given flags.Bump) (place_of a.given flags.Consolidate) (place_of a.given flags.FeeFromAmount) (place_of a.given flags.Coin) asked.settings.method asked.way a.way share in
    (found.0, a.coins ∙ none_listed words a.given found.1)

-- a payment that is replaced is asked for by the flag
bump_given : (drawn : List ℕ) (words : List (String Global)) (given : List Given) (settings : Settings) (txid : List ℕ) → settings_given drawn words given ≡ Ok settings → settings.bump ≡ Some txid → IsSome (place_of given flags.Bump)
bump_given drawn words given settings txid e is = by (place_of given flags.Bump) settings.bump (settings_are drawn words given settings e).bump is
  where
    by : (o : Option ℕ) (bump : Option (List ℕ)) → default_or (Ok None) some_txid words o ≡ Ok bump → bump ≡ Some txid → IsSome o
    by None bump none some = absurd (let is_none : None ≡ bump = cc in cc)
    by (Some place) bump found some = refl

pub bump_asked : (drawn : List ℕ) (words : List (String Global)) (asked : PlainAsked) (txid : List ℕ) → asked_in drawn words ≡ Ok asked → asked.settings.bump ≡ Some txid → (asked.way ≡ ways.Fund) × (asked.coins ≡ [])
bump_asked drawn words asked txid is bump =
    let a = asked_with drawn words asked is in
    let found = bumped_beside (place_of a.given flags.Bump) (place_of a.given flags.Consolidate) (place_of a.given flags.FeeFromAmount) (place_of a.given flags.Coin) asked.settings.method asked.way (bump_given drawn words a.given asked.settings txid a.settings bump) a.way in
    (found.0, a.coins ∙ none_listed words a.given found.1)
