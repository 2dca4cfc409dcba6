-- The length of a witness program's script.
use Rattle.std.proofs.Common.{◌≤◌, ℕ, List, length, arith, IsTrue}
use Rattle.std.proofs.lemmas.Bool.Decides.{nat_tests}
use Rattle.segwit_addr.specs.Address.{is_witness}

-- it has a byte
pub some : (script : List ℕ) → IsTrue (is_witness script) → 1 ≤ length script
unfolding is_witness
some script h = grind (arith, nat_tests)

-- and at most 10,000
pub most : (script : List ℕ) → IsTrue (is_witness script) → length script ≤ 10_000
unfolding is_witness
most script h = grind (arith, nat_tests)
