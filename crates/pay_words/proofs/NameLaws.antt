-- The names of files that words give are apart.
use Rattle.std.proofs.Common.{◌≡◌, ◌≢◌, ◌==◌, ℕ, Bool, true, false, List, [], ◌∷◌, length, Option, Some, None, Result, Ok, Err, String, if◌then◌else◌, refl, ap, subst, ◌∙◌}
use Rattle.std.specs.Prelude.{◌||◌, option_map}
use Rattle.std.specs.Option.{option_or}
use Rattle.std.specs.declared.alloc.Global.{Global}
use Rattle.std.proofs.lemmas.Slice.Eq.{bytes_eq-Decides}
use Rattle.fund_base.specs.Parsing.{◌>>=◌}
use Rattle.fund_base.proofs.Laws.{bind_ok}
use Rattle.pay_words.specs.Asked.{AreApart, PlainAsked, PlainNames, alike_at, alike_by, asked_by, asked_in, each_name, is_given, is_given_by_any, name_behind, name_or_none, names_in, needed_name, same_name, some_paid, unless_same}
use Rattle.pay_words.specs.Given.{flags_in, place_of}
use Rattle.pay_words.specs.Settings.{default_or, max_fee, settings_given}
use Rattle.pay_words.specs.Values.{text_of, word_at}
use Rattle.pay_words.specs.Ways.{way_of}
use Rattle.pay_words.specs.declared.fault.WordFault.{WordFault}
use Rattle.pay_words.specs.declared.fault.WordFault.TheVariants as faults
use Rattle.pay_words.specs.declared.flag.Flag.{Flag}
use Rattle.pay_words.specs.declared.flag.Flag.TheVariants as flags
use Rattle.pay_words.specs.declared.given.Given.{Given}

-- a name that is taken is that of the word, and isn't empty
name_is : (flag : Flag) (text name : List ℕ) → name_behind flag text ≡ Ok name → (text ≡ name) × (name ≢ [])
name_is flag text name taken = by (length text == 0) refl taken
  where
    by : (b : Bool) → (length text == 0) ≡ b → (if b then Err (faults.EmptyName flag) else Ok text) ≡ Ok name → (text ≡ name) × (name ≢ [])
    by true is here = cc
    by false is here =
        let same : text ≡ name = cc in
        (same, λ empty. let none : text ≡ [] = same ∙ empty in let zero_long = ap (λ (t : List ℕ). length t == 0) none in cc)

-- one that has to be given
needed_is : (flag : Flag) (words : List (String Global)) (given : List Given) (name : List ℕ) → needed_name flag words given ≡ Ok name → (text_of words given flag ≡ Some name) × (name ≢ [])
needed_is flag words given name taken = by (place_of given flag) taken
  where
    by : (o : Option ℕ) → default_or (Err (faults.Missing flag)) (λ place text. name_behind flag text) words o ≡ Ok name → (option_map (word_at words) o ≡ Some name) × (name ≢ [])
    by None no_name = cc
    by (Some place) here = let p = name_is flag (word_at words place) name here in (ap (λ (t : List ℕ). Some t) p.0, p.1)

-- one that may be left out
optional_is : (flag : Flag) (words : List (String Global)) (given : List Given) (name : Option (List ℕ)) → name_or_none flag words given ≡ Ok name → (text_of words given flag ≡ name) × (name ≢ Some [])
optional_is flag words given name taken = by (place_of given flag) taken
  where
    by : (o : Option ℕ) → default_or (Ok None) (λ place text. name_behind flag text >>= λ n. Ok (Some n)) words o ≡ Ok name → (option_map (word_at words) o ≡ name) × (name ≢ Some [])
    by None none = let is : None ≡ name = cc in (is, λ empty. cc)
    by (Some place) here =
        let parts = bind_ok (name_behind flag (word_at words place)) (λ n. Ok (Some n)) name here in
        let p = name_is flag (word_at words place) parts.0 parts.1 in
        let is : Some parts.0 ≡ name = cc (parts.2) in
        (ap (λ (t : List ℕ). Some t) p.0 ∙ is, λ empty. p.1 (cc (is, empty)))

-- the names behind these flags are others
abbrev Differs : List (String Global) → List Given → List ℕ → List Flag → Type 0
Differs words given name [] = Unit
Differs words given name (f ∷ fs) = ((other : List ℕ) → text_of words given f ≡ Some other → name ≢ other) × Differs words given name fs

-- where the name stands behind none of them
differs : (words : List (String Global)) (given : List Given) (name : List ℕ) (fs : List Flag) → is_given_by_any words given name fs ≡ false → Differs words given name fs
differs words given name [] none = tt
differs words given name (f ∷ fs) none = by (is_given name (text_of words given f)) refl (differs words given name fs) none
  where
    by : (b : Bool) → is_given name (text_of words given f) ≡ b → (is_given_by_any words given name fs ≡ false → Differs words given name fs) → (b || is_given_by_any words given name fs) ≡ false → Differs words given name (f ∷ fs)
    by true is rest here = cc
    by false is rest here = (λ other text same. let yes = ap (is_given name) text ∙ (bytes_eq-Decides name other).1 same in cc, rest here)

-- a name that isn't told as alike differs from the others
alike_none : (words : List (String Global)) (given : List Given) (flag : Flag) (others : List Flag) (name : List ℕ) → alike_at words given flag others ≡ None → text_of words given flag ≡ Some name → Differs words given name others
alike_none words given flag others name none is = by (place_of given flag) none is
  where
    told : (place : ℕ) (b : Bool) → (if b then Some place else None) ≡ None → b ≡ false
    told place true here = cc
    told place false here = refl

    by : (o : Option ℕ) → alike_by words given others o ≡ None → option_map (word_at words) o ≡ Some name → Differs words given name others
    by None here no_word = cc
    by (Some place) here word =
        let same : word_at words place ≡ name = cc in
        subst (λ (t : List ℕ). Differs words given t others) same (differs words given (word_at words place) others (told place (is_given_by_any words given (word_at words place) others) here))

-- a name that may be left out isn't one that it differs from
not_both : (words : List (String Global)) (given : List Given) (flag : Flag) (name : List ℕ) (o : Option (List ℕ)) → text_of words given flag ≡ o → ((other : List ℕ) → text_of words given flag ≡ Some other → name ≢ other) → o ≢ Some name
not_both words given flag name o is apart same = apart name (is ∙ same) refl

-- neither of two
neither : (a b : Option ℕ) → option_or a b ≡ None → (a ≡ None) × (b ≡ None)
neither None b none = (refl, none)
neither (Some place) b none = cc

-- the place of a name that stands twice
unless_is : (o : Option ℕ) (names taken : PlainNames) → unless_same o names ≡ Ok taken → (o ≡ None) × (names ≡ taken)
unless_is None names taken is = let same : names ≡ taken = cc in (refl, same)
unless_is (Some place) names taken is = cc

-- the names that were read
abbrev names_of : (wallet blocks : List ℕ) (psbt log report request : Option (List ℕ)) → PlainNames
names_of wallet blocks psbt log report request = record { wallet = wallet; blocks = blocks; psbt = psbt; log = log; report = report; request = request }

-- each of them, as it was read
record AreRead (words : List (String Global)) (given : List Given) (n : PlainNames) : Type 0 where
  wallet : needed_name flags.Wallet words given ≡ Ok n.wallet
  blocks : needed_name flags.Blocks words given ≡ Ok n.blocks
  psbt : name_or_none flags.Psbt words given ≡ Ok n.psbt
  log : name_or_none flags.Log words given ≡ Ok n.log
  report : name_or_none flags.Report words given ≡ Ok n.report
  request : name_or_none flags.Request words given ≡ Ok n.request

are_read : (words : List (String Global)) (given : List Given) (names : PlainNames) → each_name words given ≡ Ok names → AreRead words given names
are_read words given names each =
    let w = bind_ok (needed_name flags.Wallet words given) (λ wallet. needed_name flags.Blocks words given >>= λ blocks. name_or_none flags.Psbt words given >>= λ psbt. name_or_none flags.Log words given >>= λ log. name_or_none flags.Report words given >>= λ report. name_or_none flags.Request words given >>= λ request. Ok (names_of wallet blocks psbt log report request)) names each in
    let b = bind_ok (needed_name flags.Blocks words given) (λ blocks. name_or_none flags.Psbt words given >>= λ psbt. name_or_none flags.Log words given >>= λ log. name_or_none flags.Report words given >>= λ report. name_or_none flags.Request words given >>= λ request. Ok (names_of w.0 blocks psbt log report request)) names w.2 in
    let p = bind_ok (name_or_none flags.Psbt words given) (λ psbt. name_or_none flags.Log words given >>= λ log. name_or_none flags.Report words given >>= λ report. name_or_none flags.Request words given >>= λ request. Ok (names_of w.0 b.0 psbt log report request)) names b.2 in
    let l = bind_ok (name_or_none flags.Log words given) (λ log. name_or_none flags.Report words given >>= λ report. name_or_none flags.Request words given >>= λ request. Ok (names_of w.0 b.0 p.0 log report request)) names p.2 in
    let r = bind_ok (name_or_none flags.Report words given) (λ report. name_or_none flags.Request words given >>= λ request. Ok (names_of w.0 b.0 p.0 l.0 report request)) names l.2 in
    let q = bind_ok (name_or_none flags.Request words given) (λ request. Ok (names_of w.0 b.0 p.0 l.0 r.0 request)) names r.2 in
    let is : names_of w.0 b.0 p.0 l.0 r.0 q.0 ≡ names = cc (q.2) in
    subst (AreRead words given) is (record { wallet = w.1; blocks = b.1; psbt = p.1; log = l.1; report = r.1; request = q.1 })

-- none of them stands twice
record AreOnce (words : List (String Global)) (given : List Given) : Type 0 where
  blocks : alike_at words given flags.Blocks (flags.Wallet ∷ []) ≡ None
  psbt : alike_at words given flags.Psbt (flags.Wallet ∷ flags.Blocks ∷ []) ≡ None
  log : alike_at words given flags.Log (flags.Wallet ∷ flags.Blocks ∷ flags.Psbt ∷ []) ≡ None
  report : alike_at words given flags.Report (flags.Wallet ∷ flags.Blocks ∷ flags.Psbt ∷ flags.Log ∷ []) ≡ None
  request : alike_at words given flags.Request (flags.Wallet ∷ flags.Blocks ∷ flags.Psbt ∷ flags.Log ∷ flags.Report ∷ []) ≡ None

are_once : (words : List (String Global)) (given : List Given) → same_name words given ≡ None → AreOnce words given
are_once words given none =
    let b = neither _ _ none in
    let p = neither _ _ b.1 in
    let l = neither _ _ p.1 in
    let r = neither _ _ l.1 in
    record { blocks = b.0; psbt = p.0; log = l.0; report = r.0; request = r.1 }

-- names by themselves, of which none stands twice
apart_by : (words : List (String Global)) (given : List Given) (names : PlainNames) → each_name words given ≡ Ok names → same_name words given ≡ None → AreApart names
apart_by words given names each none =
    let read = are_read words given names each in
    let once = are_once words given none in
    let wallet = needed_is flags.Wallet words given names.wallet read.wallet in
    let blocks = needed_is flags.Blocks words given names.blocks read.blocks in
    let psbt = optional_is flags.Psbt words given names.psbt read.psbt in
    let log = optional_is flags.Log words given names.log read.log in
    let report = optional_is flags.Report words given names.report read.report in
    let request = optional_is flags.Request words given names.request read.request in
    record {
      wallet = wallet.1;
      blocks = blocks.1;
      psbt = psbt.1;
      log = log.1;
      report = report.1;
      request = request.1;
      sources = (alike_none words given flags.Blocks (flags.Wallet ∷ []) names.blocks once.blocks blocks.0).0 names.wallet wallet.0;
      psbt_apart = λ name is. let d = alike_none words given flags.Psbt (flags.Wallet ∷ flags.Blocks ∷ []) name once.psbt (psbt.0 ∙ is) in (d.0 names.wallet wallet.0, d.1.0 names.blocks blocks.0);
      log_apart = λ name is. let d = alike_none words given flags.Log (flags.Wallet ∷ flags.Blocks ∷ flags.Psbt ∷ []) name once.log (log.0 ∙ is) in (
        d.0 names.wallet wallet.0,
        d.1.0 names.blocks blocks.0,
        not_both words given flags.Psbt name names.psbt psbt.0 d.1.1.0,
      );
      report_apart = λ name is. let d = alike_none words given flags.Report (flags.Wallet ∷ flags.Blocks ∷ flags.Psbt ∷ flags.Log ∷ []) name once.report (report.0 ∙ is) in (
        d.0 names.wallet wallet.0,
        d.1.0 names.blocks blocks.0,
        not_both words given flags.Psbt name names.psbt psbt.0 d.1.1.0,
        not_both words given flags.Log name names.log log.0 d.1.1.1.0,
      );
      request_apart = λ name is. let d = alike_none words given flags.Request (flags.Wallet ∷ flags.Blocks ∷ flags.Psbt ∷ flags.Log ∷ flags.Report ∷ []) name once.request (request.0 ∙ is) in (
        d.0 names.wallet wallet.0,
        d.1.0 names.blocks blocks.0,
        not_both words given flags.Psbt name names.psbt psbt.0 d.1.1.0,
        not_both words given flags.Log name names.log log.0 d.1.1.1.0,
        not_both words given flags.Report name names.report report.0 d.1.1.1.1.0,
      );
    }

-- the names of what is asked for
pub names_apart : (drawn : List ℕ) (words : List (String Global)) (asked : PlainAsked) → asked_in drawn words ≡ Ok asked → AreApart asked.names
unfolding asked_in asked_by
names_apart drawn words asked is =
    let given = bind_ok (flags_in words) (asked_by drawn words) asked is in
    let names = bind_ok (names_in words given.0) _ asked given.2 in
    let each = bind_ok (each_name words given.0) (unless_same (same_name words given.0)) names.0 names.1 in
    let once = unless_is (same_name words given.0) each.0 names.0 each.2 in
    let apart = subst AreApart {x = each.0} once.1 (apart_by words given.0 each.0 each.1 once.0) in
    let paid = bind_ok (some_paid words given.0) _ asked names.2 in
    let settings = bind_ok (settings_given drawn words given.0) _ asked paid.2 in
    let fee = bind_ok (max_fee words given.0) _ asked settings.2 in
    let way = bind_ok (way_of given.0 settings.0.method) _ asked fee.2 in
    let same : names.0 ≡ asked.names = ap (λ (r : Result PlainAsked WordFault). names_or names.0 r) way.2 in
    subst AreApart {x = names.0} same apart
  where
    names_or : PlainNames → Result PlainAsked WordFault → PlainNames
    names_or default (Ok a) = a.names
    names_or default (Err e) = default
