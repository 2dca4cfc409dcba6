-- The letters of the tokens of a wide tree, in ASCII.
use Rattle.std.specs.Prelude.{ℕ, ◌==◌, Option, Some, None, if◌then◌else◌}
use Rattle.wide_check.specs.declared.token.WideReason.TheVariants.{Short, Over, Heavy, Wasteful, Ended}
use Rattle.wide_check.specs.declared.token.WideToken.{WideToken}
use Rattle.wide_check.specs.declared.token.WideToken.TheVariants.{Enter, Pass, Mark, Close}

-- I, T and B; S, O, H, V and N
abbrev pub letter_of : WideToken → ℕ
letter_of Enter = 73
letter_of Pass = 84
letter_of Mark = 66
letter_of (Close Short) = 83
letter_of (Close Over) = 79
letter_of (Close Heavy) = 72
letter_of (Close Wasteful) = 86
letter_of (Close Ended) = 78

-- the token of a letter
abbrev pub token_of : ℕ → Option WideToken
token_of b =
    if b == 73 then Some Enter
    else if b == 84 then Some Pass
    else if b == 66 then Some Mark
    else if b == 83 then Some (Close Short)
    else if b == 79 then Some (Close Over)
    else if b == 72 then Some (Close Heavy)
    else if b == 86 then Some (Close Wasteful)
    else if b == 78 then Some (Close Ended)
    else None
