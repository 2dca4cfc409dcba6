-- What a digest takes in three pieces.
use Rattle.std.specs.Prelude.{◌≡◌, ℕ, List, ◌++◌}
use Rattle.std.proofs.Common.{ap, subst, ◌∙◌, append_assoc}
use Rattle.sha2.specs.declared.Sha256.{Sha256}
use Rattle.sha2.specs.Hashers.{Holds256}
use Rattle.fund_base.specs.Writer.{Feeds}

pub taken : (h i : Sha256) (m x a : List ℕ) → x ≡ a → Holds256 h m → ((n : List ℕ) → Holds256 h n → Holds256 i (n ++ x)) → Holds256 i (m ++ a)
taken h i m x a e held more = subst (λ (r : List ℕ). Holds256 i (m ++ r)) e (more m held)

pub feeds_three : (h i j k : Sha256) (a b c x y z : List ℕ) → x ≡ a → y ≡ b → z ≡ c → ((m : List ℕ) → Holds256 h m → Holds256 i (m ++ x)) → ((m : List ℕ) → Holds256 i m → Holds256 j (m ++ y)) → ((m : List ℕ) → Holds256 j m → Holds256 k (m ++ z)) → Feeds Holds256 h k (a ++ b ++ c)
feeds_three h i j k a b c x y z ea eb ec first second third =
    record {
      feeds = λ m held.
          let e : ((m ++ a) ++ b) ++ c ≡ m ++ (a ++ b ++ c) = ap (λ (r : List ℕ). r ++ c) (append_assoc m a b) ∙ append_assoc m (a ++ b) c in
          let one : Holds256 i (m ++ a) = taken h i m x a ea held first in
          let two : Holds256 j ((m ++ a) ++ b) = taken i j (m ++ a) y b eb one second in
          subst (λ (r : List ℕ). Holds256 k r) e (taken j k ((m ++ a) ++ b) z c ec two third);
    }
