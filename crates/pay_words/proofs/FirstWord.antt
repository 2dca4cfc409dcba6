-- Where memory runs out, the first word is that of a flag.
use Rattle.std.proofs.Common.{◌≡◌, ℕ, zero, suc, ◌<◌, List, [], ◌∷◌, length, get_or, Option, Some, None, Result, Ok, Err, String, string_bytes, refl, sym, subst, arith}
use Rattle.std.specs.Prelude.{IsOk, IsSome}
use Rattle.std.specs.declared.alloc.Global.{Global}
use Rattle.fund_base.proofs.Laws.{bind_ok}
use Rattle.pay_words.specs.Asked.{PlainNames, each_name, names_in, needed_name}
use Rattle.pay_words.specs.Flags.{flag_of}
use Rattle.pay_words.specs.Given.{BeginsWithFlag, ended_by, flags_from, flags_in, named, next_of, place_of}
use Rattle.pay_words.specs.declared.fault.WordFault.{WordFault}
use Rattle.pay_words.specs.declared.fault.WordFault.TheVariants.{Memory}
use Rattle.pay_words.specs.declared.flag.Flag.{Flag}
use Rattle.pay_words.specs.declared.flag.Flag.TheVariants as flags
use Rattle.pay_words.specs.declared.given.Given.{Given}

pub ok_is : {A E : Type 0} (r : Result A E) (x : A) → r ≡ Ok x → IsOk r
ok_is r x e = subst IsOk (sym e) refl

-- ---- the words one by one

-- what is given before the word at a place: nothing before the first, and before any other that is a flag's
pub record IsBehind (words : List (String Global)) (place : ℕ) (given : List Given) (wanted : Option Flag) : Type 0 where
  pub first : place ≡ 0 → (given ≡ []) × (wanted ≡ None)
  pub later : 0 < place → BeginsWithFlag words

named_flag : (o : Option Flag) → IsOk (named [] 0 o) → IsSome o
named_flag None h = absurd cc
named_flag (Some flag) h = refl

first_flag : (words : List (String Global)) (word : String Global) → 0 < length words → word ≡ get_or words 0 word → IsOk (next_of [] None 0 (string_bytes word)) → BeginsWithFlag words
first_flag [] word lt is h = absurd (omega (arith, lt))
first_flag (w ∷ words) word lt is h = subst (λ (x : String Global). IsSome (flag_of (string_bytes x))) is (named_flag (flag_of (string_bytes word)) h)

-- a word that is taken, or would be if there were memory
pub behind_flag : (words : List (String Global)) (place : ℕ) (given : List Given) (wanted : Option Flag) (word : String Global) → place < length words → word ≡ get_or words place word → IsBehind words place given wanted
    → IsOk (next_of given wanted place (string_bytes word)) → BeginsWithFlag words
behind_flag words zero given wanted word lt is behind h =
    let none = behind.first refl in
    first_flag words word lt is
    (subst (λ (o : Option Flag). IsOk (next_of [] o 0 (string_bytes word))) none.1 (subst (λ (gs : List Given). IsOk (next_of gs wanted 0 (string_bytes word))) none.0 h))
behind_flag words (suc place) given wanted word lt is behind h = behind.later (omega arith)

-- the end of the words takes no memory
pub never_ended : {A : Type 0} (given : A) (wanted : Option Flag) (r : Result A WordFault) → r ≡ ended_by given wanted → r ≡ Err Memory → ⊥
never_ended given None r is short = absurd cc
never_ended given (Some flag) r is short = absurd cc

-- ---- the whole

pub each_wallet : (words : List (String Global)) (given : List Given) (names : PlainNames) → each_name words given ≡ Ok names → IsOk (needed_name flags.Wallet words given)
each_wallet words given names e =
    let wallet = bind_ok (needed_name flags.Wallet words given) _ names e in
    ok_is (needed_name flags.Wallet words given) wallet.0 wallet.1

pub names_wallet : (words : List (String Global)) (given : List Given) (names : PlainNames) → names_in words given ≡ Ok names → IsOk (needed_name flags.Wallet words given)
names_wallet words given names e =
    let each = bind_ok (each_name words given) _ names e in
    each_wallet words given each.0 each.1

no_wallet : (given : List Given) → flags_in [] ≡ Ok given → IsOk (needed_name flags.Wallet [] given) → ⊥
unfolding flags_in flags_from place_of
no_wallet given e h =
    let none : [] ≡ given = cc in
    let missing : IsOk (needed_name flags.Wallet [] []) = subst (λ (gs : List Given). IsOk (needed_name flags.Wallet [] gs)) (sym none) h in
    absurd cc

-- the flags name a wallet only where the first word is that of a flag
pub wallet_flag : (words : List (String Global)) (given : List Given) → flags_in words ≡ Ok given → IsOk (needed_name flags.Wallet words given) → BeginsWithFlag words
unfolding flags_in flags_from
wallet_flag [] given e h = absurd (no_wallet given e h)
wallet_flag (w ∷ words) given e h =
    let first = bind_ok (next_of [] None 0 (string_bytes w)) _ given e in
    named_flag (flag_of (string_bytes w)) (ok_is (next_of [] None 0 (string_bytes w)) first.0 first.1)
