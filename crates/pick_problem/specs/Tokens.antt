-- The letters of tokens, in ASCII.
use Rattle.std.specs.Prelude.{ℕ, ◌==◌, Option, Some, None, if◌then◌else◌}
use Rattle.pick_problem.specs.declared.token.Reason.TheVariants.{Short, Over, Heavy, NoRoom, Worse, Heavier, Far, Hit}
use Rattle.pick_problem.specs.declared.token.Token.{Token}
use Rattle.pick_problem.specs.declared.token.Token.TheVariants.{Enter, Pass, Close}

-- I and T; S, O, H, M, W, L, F and A
abbrev pub letter_of : Token → ℕ
letter_of Enter = 73
letter_of Pass = 84
letter_of (Close Short) = 83
letter_of (Close Over) = 79
letter_of (Close Heavy) = 72
letter_of (Close NoRoom) = 77
letter_of (Close Worse) = 87
letter_of (Close Heavier) = 76
letter_of (Close Far) = 70
letter_of (Close Hit) = 65

-- the token of a letter
abbrev pub token_of : ℕ → Option Token
token_of b =
    if b == 73 then Some Enter
    else if b == 84 then Some Pass
    else if b == 83 then Some (Close Short)
    else if b == 79 then Some (Close Over)
    else if b == 72 then Some (Close Heavy)
    else if b == 77 then Some (Close NoRoom)
    else if b == 87 then Some (Close Worse)
    else if b == 76 then Some (Close Heavier)
    else if b == 70 then Some (Close Far)
    else if b == 65 then Some (Close Hit)
    else None
