-- A text in base64 is one line, and no shorter than the bytes that it is of.
use Rattle.std.specs.Prelude.{ℕ, zero, suc, ◌≡◌, ◌+◌, ◌*◌, ◌/◌, ◌%◌, ◌<◌, ◌≤◌, List, [], ◌∷◌, ◌++◌, length, replicate, slice_index}
use Rattle.std.specs.List.{AllByRecursion}
use Rattle.std.proofs.Common.{arith, inl, inr}
use Rattle.std.proofs.lemmas.Bool.{cases_lt}
use Rattle.std.proofs.lemmas.List.{get_or_past, length-append}
use Rattle.base64.specs.Engines.{standard}
use Rattle.base64.specs.GeneralPurpose.{encode_of}
use Rattle.base64.specs.Rfc4648.{encode_group, encode_symbols, padding_len}
use Rattle.base64.proofs.RoundTrip.{length-encode_symbols}
use Rattle.base64.proofs.Tables.{are_tables_alphabet, is_alphabet-length, is_alphabet_printable, printable_range}
use Rattle.fund_report.specs.ReportText.{IsLine}

abbrev NoFeed : ℕ → Type 0
NoFeed b = b ≡ 10 → ⊥

abbrev HasNoFeed : List ℕ → Type 0
HasNoFeed text = AllByRecursion NoFeed text

feedless_both : (a b : List ℕ) → HasNoFeed a → HasNoFeed b → HasNoFeed (a ++ b)
feedless_both [] b h k = k
feedless_both (x ∷ a) b h k = (h.0, feedless_both a b h.1 k)

-- each place of the table holds a printed character, and behind it there are zeros
no_feed_at : (i : ℕ) → NoFeed (slice_index standard.encode_table i)
no_feed_at i e =
    let table = standard.encode_table in
    let whole = are_tables_alphabet table standard.decode_table 61 standard.tables in
    let size = is_alphabet-length table 61 whole in
    elim (cases_lt i 64) [
      | inl below ↦ (let printed = printable_range (slice_index table i) (is_alphabet_printable table 61 i whole below) in absurd (omega (arith, printed, e)))
      | inr past ↦ (let none = get_or_past table i 0 (omega (arith, size, past)) in absurd (omega (arith, none, e)))
    ]

symbols_feedless : (m : List ℕ) → HasNoFeed (encode_symbols standard.encode_table m)
unfolding encode_symbols
symbols_feedless [] = tt
symbols_feedless (a ∷ []) = (no_feed_at (a / 4), (no_feed_at (a % 4 * 16), tt))
symbols_feedless (a ∷ b ∷ []) = (no_feed_at (a / 4), (no_feed_at (a % 4 * 16 + b / 16), (no_feed_at (b % 16 * 4), tt)))
symbols_feedless (a ∷ b ∷ c ∷ rest) =
    feedless_both (encode_group standard.encode_table a b c) (encode_symbols standard.encode_table rest)
    (no_feed_at (a / 4), (no_feed_at (a % 4 * 16 + b / 16), (no_feed_at (b % 16 * 4 + c / 64), (no_feed_at (c % 64), tt))))
    (symbols_feedless rest)

padding_feedless : (n : ℕ) → HasNoFeed (replicate n 61)
padding_feedless zero = tt
padding_feedless (suc n) = (λ e. absurd (omega (arith, e)), padding_feedless n)

pub no_shorter : (m : List ℕ) → length m ≤ length (encode_of standard m)
no_shorter m =
    let symbols = encode_symbols standard.encode_table m in
    let all = length-append symbols (replicate (padding_len (length m)) 61) in
    let long = length-encode_symbols standard.encode_table m in
    omega (arith, all, long)

pub is_line : (m : List ℕ) → 0 < length m → IsLine (encode_of standard m)
is_line m some = record {
  some = let long = no_shorter m in omega (arith, long, some);
  feedless = feedless_both (encode_symbols standard.encode_table m) (replicate (padding_len (length m)) 61) (symbols_feedless m) (padding_feedless (padding_len (length m)));
}
