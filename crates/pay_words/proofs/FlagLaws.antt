-- Each flag is known by its word, and by no other.
use Rattle.std.proofs.Common.{◌≡◌, ℕ, Bool, true, false, List, [], ◌∷◌, Some, cond, bytes_eq, refl, sym}
use Rattle.std.specs.List.{find}
use Rattle.std.proofs.lemmas.Slice.Eq.{bytes_eq-Decides}
use Rattle.pay_words.specs.Flags.{flag_of, flag_word}
use Rattle.pay_words.specs.declared.flag.Flag.{Flag}
use Rattle.pay_words.specs.declared.flag.Flag.TheVariants as flags
use Rattle.pay_words.specs.declared.flag.TheConstants.{FLAGS}

pub word_known : (f : Flag) → flag_of (flag_word f) ≡ Some f
unfolding flag_of flag_word
word_known flags.Wallet = refl
word_known flags.Blocks = refl
word_known flags.To = refl
word_known flags.ToScript = refl
word_known flags.PayFile = refl
word_known flags.Keys = refl
word_known flags.FeeRate = refl
word_known flags.LongTerm = refl
word_known flags.Discard = refl
word_known flags.ChangeTarget = refl
word_known flags.Method = refl
word_known flags.Coin = refl
word_known flags.Tries = refl
word_known flags.Seed = refl
word_known flags.Bump = refl
word_known flags.LockTime = refl
word_known flags.MaxFee = refl
word_known flags.Psbt = refl
word_known flags.Log = refl
word_known flags.Report = refl
word_known flags.Request = refl
word_known flags.Group = refl
word_known flags.Consolidate = refl
word_known flags.FeeFromAmount = refl
word_known flags.Stop = refl
word_known flags.NoReplace = refl
word_known flags.ZeroConf = refl
word_known flags.Unsafe = refl
word_known flags.AllowLowRate = refl
word_known flags.ShowRequest = refl
word_known flags.Json = refl
word_known flags.Progress = refl

-- what a search finds passes its test
found_passes : {X : Type 0} (test : X → Bool) (xs : List X) (y : X) → find test xs ≡ Some y → test y ≡ true
found_passes test [] y found = cc
found_passes test (x ∷ xs) y found = by (test x) refl (found_passes test xs y) found
  where
    by : (b : Bool) → test x ≡ b → (find test xs ≡ Some y → test y ≡ true) → cond b (Some x) (find test xs) ≡ Some y → test y ≡ true
    by true is further here = cc
    by false is further here = further here

pub word_is : (word : List ℕ) (f : Flag) → flag_of word ≡ Some f → word ≡ flag_word f
unfolding flag_of
word_is word f found = sym ((bytes_eq-Decides (flag_word f) word).0 (found_passes (λ (g : Flag). bytes_eq (flag_word g) word) FLAGS f found))
