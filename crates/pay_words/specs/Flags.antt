-- The flags of `ninelace pay`: the word of each, and what may stand beside it.
use Rattle.std.specs.Prelude.{ℕ, Bool, true, false, List, codes, bytes_eq, find, Option}
use Rattle.pay_words.specs.declared.flag.Flag.{Flag}
use Rattle.pay_words.specs.declared.flag.Flag.TheVariants as flags
use Rattle.pay_words.specs.declared.flag.TheConstants.{FLAGS}

-- the word of a flag
unfoldable pub flag_word : Flag → List ℕ
flag_word flags.Wallet = codes "--wallet"
flag_word flags.Blocks = codes "--blocks"
flag_word flags.To = codes "--to"
flag_word flags.ToScript = codes "--to-script"
flag_word flags.PayFile = codes "--pay-file"
flag_word flags.Keys = codes "--keys"
flag_word flags.FeeRate = codes "--fee-rate"
flag_word flags.LongTerm = codes "--long-term"
flag_word flags.Discard = codes "--discard"
flag_word flags.ChangeTarget = codes "--change-target"
flag_word flags.Method = codes "--method"
flag_word flags.Coin = codes "--coin"
flag_word flags.Tries = codes "--tries"
flag_word flags.Seed = codes "--seed"
flag_word flags.Bump = codes "--bump"
flag_word flags.LockTime = codes "--locktime"
flag_word flags.MaxFee = codes "--max-fee"
flag_word flags.Psbt = codes "--psbt"
flag_word flags.Log = codes "--log"
flag_word flags.Report = codes "--report"
flag_word flags.Request = codes "--request"
flag_word flags.Group = codes "--group"
flag_word flags.Consolidate = codes "--consolidate"
flag_word flags.FeeFromAmount = codes "--fee-from-amount"
flag_word flags.Stop = codes "--stop"
flag_word flags.NoReplace = codes "--no-replace"
flag_word flags.ZeroConf = codes "--zero-conf"
flag_word flags.Unsafe = codes "--unsafe"
flag_word flags.AllowLowRate = codes "--allow-low-rate"
flag_word flags.ShowRequest = codes "--show-request"
flag_word flags.Json = codes "--json"
flag_word flags.Progress = codes "--progress"

-- two flags are one
abbrev pub is_same : Flag → Flag → Bool
is_same a b = bytes_eq (flag_word a) (flag_word b)

-- the word behind it is its value
abbrev pub takes_value : Flag → Bool
takes_value flags.Group = false
takes_value flags.Consolidate = false
takes_value flags.FeeFromAmount = false
takes_value flags.Stop = false
takes_value flags.NoReplace = false
takes_value flags.ZeroConf = false
takes_value flags.Unsafe = false
takes_value flags.AllowLowRate = false
takes_value flags.ShowRequest = false
takes_value flags.Json = false
takes_value flags.Progress = false
takes_value _ = true

-- it may be given more than once
abbrev pub may_repeat : Flag → Bool
may_repeat flags.To = true
may_repeat flags.ToScript = true
may_repeat flags.Coin = true
may_repeat _ = false

-- the first flag of this word
unfoldable pub flag_of : List ℕ → Option Flag
flag_of word = find (λ (f : Flag). bytes_eq (flag_word f) word) FLAGS
