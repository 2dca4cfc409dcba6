-- Rows of digits written in another base, leading zeros kept (Bitcoin developer reference, 'Base58Check').
use Rattle.std.specs.Prelude.{ℕ, ◌+◌, ◌*◌, ◌^◌, ◌==◌, List, ◌++◌}
use Rattle.std.specs.List.{take_while}
use Rattle.std.specs.Int.Digits.{number_from_digits, digits_of}

-- the number of two parts
abbrev pub joined : ℕ → ℕ → ℕ
joined high low = high * 2 ^ 96 + low

-- the zeros that a row of digits begins with
abbrev pub leading : List ℕ → List ℕ
leading row = take_while (λ d. d == 0) row

-- The row of the same number in another base, with as many zeros before its digits.
unfoldable pub rebased : ℕ → ℕ → List ℕ → List ℕ
rebased from to row = leading row ++ digits_of to (number_from_digits from row)
