-- A flag with its value behind `=` is two words.
use Rattle.std.proofs.Common.{◌≡◌, ℕ, Bool, true, List, [], ◌∷◌, ◌++◌, length, length-append, ltb, Some, None, if◌then◌else◌, refl, ap, ◌∙◌, arith}
use Rattle.std.specs.List.{after_first, before_first, position_or_len}
use Rattle.std.proofs.lemmas.Bool.{lt-ltb}
use Rattle.pay_words.specs.Flags.{flag_of, flag_word, takes_value}
use Rattle.pay_words.specs.Payments.{is_equals}
use Rattle.pay_words.specs.Spread.{spread_by, spread_word}
use Rattle.pay_words.specs.declared.flag.Flag.{Flag}
use Rattle.pay_words.specs.declared.flag.Flag.TheVariants as flags

-- where the first `=` stands behind these
spread_at : (front value : List ℕ) → position_or_len is_equals (front ++ 61 ∷ value) ≡ length front
    → spread_by (front ++ 61 ∷ value) (Some (before_first is_equals (front ++ 61 ∷ value), after_first is_equals (front ++ 61 ∷ value))) ≡ front ∷ value ∷ []
    → spread_word (front ++ 61 ∷ value) ≡ front ∷ value ∷ []
spread_at front value at made =
    let word : List ℕ = front ++ 61 ∷ value in
    let within : ltb (position_or_len is_equals word) (length word) ≡ true = lt-ltb (position_or_len is_equals word) (length word) (omega (arith, at, length-append front (61 ∷ value))) in
    ap (λ (b : Bool). spread_by word (if b then Some (before_first is_equals word, after_first is_equals word) else None)) within ∙ made

pub two_words : (f : Flag) (value : List ℕ) → takes_value f ≡ true → spread_word (flag_word f ++ 61 ∷ value) ≡ flag_word f ∷ value ∷ []
unfolding flag_of flag_word
two_words flags.Wallet value takes = spread_at (flag_word flags.Wallet) value refl refl
two_words flags.Blocks value takes = spread_at (flag_word flags.Blocks) value refl refl
two_words flags.To value takes = spread_at (flag_word flags.To) value refl refl
two_words flags.ToScript value takes = spread_at (flag_word flags.ToScript) value refl refl
two_words flags.PayFile value takes = spread_at (flag_word flags.PayFile) value refl refl
two_words flags.Keys value takes = spread_at (flag_word flags.Keys) value refl refl
two_words flags.FeeRate value takes = spread_at (flag_word flags.FeeRate) value refl refl
two_words flags.LongTerm value takes = spread_at (flag_word flags.LongTerm) value refl refl
two_words flags.Discard value takes = spread_at (flag_word flags.Discard) value refl refl
two_words flags.ChangeTarget value takes = spread_at (flag_word flags.ChangeTarget) value refl refl
two_words flags.Method value takes = spread_at (flag_word flags.Method) value refl refl
two_words flags.Coin value takes = spread_at (flag_word flags.Coin) value refl refl
two_words flags.Tries value takes = spread_at (flag_word flags.Tries) value refl refl
two_words flags.Seed value takes = spread_at (flag_word flags.Seed) value refl refl
two_words flags.Bump value takes = spread_at (flag_word flags.Bump) value refl refl
two_words flags.LockTime value takes = spread_at (flag_word flags.LockTime) value refl refl
two_words flags.MaxFee value takes = spread_at (flag_word flags.MaxFee) value refl refl
two_words flags.Psbt value takes = spread_at (flag_word flags.Psbt) value refl refl
two_words flags.Log value takes = spread_at (flag_word flags.Log) value refl refl
two_words flags.Report value takes = spread_at (flag_word flags.Report) value refl refl
two_words flags.Request value takes = spread_at (flag_word flags.Request) value refl refl
two_words flags.Group value takes = absurd cc
two_words flags.Consolidate value takes = absurd cc
two_words flags.FeeFromAmount value takes = absurd cc
two_words flags.Stop value takes = absurd cc
two_words flags.NoReplace value takes = absurd cc
two_words flags.ZeroConf value takes = absurd cc
two_words flags.Unsafe value takes = absurd cc
two_words flags.AllowLowRate value takes = absurd cc
two_words flags.ShowRequest value takes = absurd cc
two_words flags.Json value takes = absurd cc
two_words flags.Progress value takes = absurd cc
