-- Parts put one after another at the front of a buffer.
use Rattle.std.proofs.Common.{◌≡◌, ℕ, ◌+◌, List, ◌++◌, length, take, drop, ap, sym, ◌∙◌, arith, subst}
use Rattle.std.proofs.lemmas.List.{drop-drop}
use Rattle.ninelace_c.specs.Told.{IsLaid, Parts}

-- one part more, of k bytes after the first n
put_more : (front part old one two : List ℕ) (n k : ℕ) → take n one ≡ front → drop n one ≡ drop n old → take (n + k) two ≡ take n one ++ part → drop (n + k) two ≡ drop (n + k) one
    → (take (n + k) two ≡ front ++ part) × (drop (n + k) two ≡ drop (n + k) old)
put_more front part old one two n k had behind more after = (
  more ∙ ap (λ (l : List ℕ). l ++ part) had,
  after ∙ sym (drop-drop k n one) ∙ ap (λ (l : List ℕ). drop k l) behind ∙ drop-drop k n old,
)

-- the three parts of an answer
pub laid : (p : Parts) (old one two new : List ℕ) (n m : ℕ) → n ≡ length p.printed → m ≡ length p.printed + length p.log
    → take (0 + length p.printed) one ≡ take 0 old ++ p.printed → drop (0 + length p.printed) one ≡ drop (0 + length p.printed) old
    → take (n + length p.log) two ≡ take n one ++ p.log → drop (n + length p.log) two ≡ drop (n + length p.log) one
    → take (m + length p.job) new ≡ take m two ++ p.job → drop (m + length p.job) new ≡ drop (m + length p.job) two → IsLaid p old new
laid p old one two new n m n_is m_is had₁ behind₁ had₂ behind₂ had₃ behind₃ =
    let start : 0 + length p.printed ≡ length p.printed = omega arith in
    let first_had : take (length p.printed) one ≡ p.printed = rw start at had₁ in
    let first_behind : drop (length p.printed) one ≡ drop (length p.printed) old = rw start at behind₁ in
    let second = put_more p.printed p.log old one two (length p.printed) (length p.log) first_had first_behind (rw n_is at had₂) (rw n_is at behind₂) in
    let third = put_more (p.printed ++ p.log) p.job old two new (length p.printed + length p.log) (length p.job) second.0 second.1 (rw m_is at had₃) (rw m_is at behind₃) in
    record { front = third.0; behind = third.1 }

-- the same of slices that are these parts
pub laid_parts : (p : Parts) (a b d old one two new : List ℕ) (n m : ℕ) → a ≡ p.printed → b ≡ p.log → d ≡ p.job → n ≡ length a → m ≡ length a + length b
    → take (0 + length a) one ≡ take 0 old ++ a → drop (0 + length a) one ≡ drop (0 + length a) old
    → take (n + length b) two ≡ take n one ++ b → drop (n + length b) two ≡ drop (n + length b) one
    → take (m + length d) new ≡ take m two ++ d → drop (m + length d) new ≡ drop (m + length d) two → IsLaid p old new
laid_parts p a b d old one two new n m a_is b_is d_is n_is m_is had₁ behind₁ had₂ behind₂ had₃ behind₃ =
    let q : Parts = record { printed = a; log = b; job = d } in
    let same : q ≡ p = ap (λ (x : List ℕ). let it : Parts = record { printed = x; log = b; job = d } in it) a_is ∙ ap (λ (x : List ℕ). let it : Parts = record { printed = p.printed; log = x; job = d } in it) b_is ∙ ap (λ (x : List ℕ). let it : Parts = record { printed = p.printed; log = p.log; job = x } in it) d_is in
    subst (λ (x : Parts). IsLaid x old new) same (laid q old one two new n m n_is m_is had₁ behind₁ had₂ behind₂ had₃ behind₃)
