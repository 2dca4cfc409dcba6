-- How often a name is listed.
use Rattle.std.proofs.Common.{◌≡◌, ◌≢◌, ℕ, ◌+◌, ◌≤◌, List, [], ◌∷◌, ◌++◌, true, false, cond, sym, ◌∙◌, arith}
use Rattle.std.specs.Prelude.{String, string_bytes, bytes_eq}
use Rattle.std.specs.declared.alloc.Global.{Global}
use Rattle.std.proofs.lemmas.Bool.{false_from_ne_true}
use Rattle.std.proofs.lemmas.List.Sums.{sum_by-append}
use Rattle.std.proofs.lemmas.Slice.Eq.{bytes_eq-Decides}
use Rattle.fund_shelf.specs.Files.{times}

-- a name listed once more
pub times_push : (name : List ℕ) (names : List (String Global)) (one : String Global) → string_bytes one ≡ name → times name (names ++ one ∷ []) ≡ times name names + 1
times_push name names one is =
    let same : bytes_eq (string_bytes one) name ≡ true = (bytes_eq-Decides (string_bytes one) name).1 is in
    rw (sum_by-append (λ other. cond (bytes_eq (string_bytes other) name) 1 0) names (one ∷ []), same) (omega arith)

-- the other names are listed as before
pub times_other : (other name : List ℕ) (names : List (String Global)) (one : String Global) → string_bytes one ≡ name → other ≢ name → times other (names ++ one ∷ []) ≡ times other names
times_other other name names one is apart =
    let differs : bytes_eq (string_bytes one) other ≡ false = false_from_ne_true _ (λ same. apart (sym ((bytes_eq-Decides (string_bytes one) other).0 same) ∙ is)) in
    rw (sum_by-append (λ o. cond (bytes_eq (string_bytes o) other) 1 0) names (one ∷ []), differs) (omega arith)

pub times_grow : (name : List ℕ) (names : List (String Global)) (one : String Global) → times name names ≤ times name (names ++ one ∷ [])
times_grow name names one = omega (arith, sum_by-append (λ other. cond (bytes_eq (string_bytes other) name) 1 0) names (one ∷ []))
