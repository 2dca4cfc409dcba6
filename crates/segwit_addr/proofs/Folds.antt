-- The checksum, taken part by part.
use Rattle.std.proofs.Common.{◌≡◌, ℕ, List, ◌++◌, ◌/◌, ◌%◌}
use Rattle.std.specs.List.{fold}
use Rattle.std.proofs.lemmas.List.Sums.{fold-append}
use Rattle.std.proofs.lemmas.List.Folds.{fold-map}
use Rattle.segwit_addr.specs.Bech32.{polymod, expanded, polymod_step}

-- the high bits, the 0, the low bits and the values, one after the other
pub parts : (prefix values : List ℕ) → polymod (expanded prefix ++ values) ≡ fold polymod_step (fold (λ s c. polymod_step s (c % 32)) (polymod_step (fold (λ s c. polymod_step s (c / 32)) 1 prefix) 0) prefix) values
parts prefix values = simp (fold-append, fold-map)
