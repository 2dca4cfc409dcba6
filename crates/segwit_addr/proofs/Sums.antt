-- The checksum of six values more: what they bring in, and which six bring it to a given sum.
use Rattle.std.proofs.Common.{◌≡◌, ℕ, ◌+◌, ◌*◌, ◌/◌, ◌%◌, ◌^◌, ◌<◌, List, [], ◌∷◌, ◌++◌, length, bit_xor, sym, ◌∙◌, ap, subst, refl, arith, lit<, add-zero, zero-add, append_assoc}
use Rattle.std.specs.List.{fold, All}
use Rattle.std.specs.Int.Bits.{xor_assoc, xor_zero_r, xor_self}
use Rattle.std.proofs.lemmas.Nat.{xor_comm, xor_lt, xor_mod, xor_shr, xor_block}
use Rattle.std.proofs.lemmas.List.Sums.{fold-append}
use Rattle.segwit_addr.specs.Bech32.{generator_at, polymod, polymod_step, expanded, checksum_of, six_values}

-- ---- exclusive or

-- what goes in twice goes out
twice_out : (a b : ℕ) → bit_xor a (bit_xor a b) ≡ b
twice_out a b = sym (xor_assoc a a b) ∙ ap (λ (x : ℕ). bit_xor x b) (xor_self a)

-- the order of the four is free
reordered : (a p v b : ℕ) → bit_xor (bit_xor (bit_xor a p) v) b ≡ bit_xor (bit_xor (bit_xor a 0) b) (bit_xor p v)
reordered a p v b =
    ap (λ (x : ℕ). bit_xor x b) (xor_assoc a p v)
    ∙ xor_assoc a (bit_xor p v) b
    ∙ ap (λ (x : ℕ). bit_xor a x) (xor_comm (bit_xor p v) b)
    ∙ sym (xor_assoc a b (bit_xor p v))
    ∙ ap (λ (x : ℕ). bit_xor (bit_xor x b) (bit_xor p v)) (sym (xor_zero_r a))

-- values moved up by five bits
moved_up : (a p : ℕ) → bit_xor a p * 32 ≡ bit_xor (a * 32) (p * 32)
moved_up a p = let e : bit_xor (a * 2 ^ 5 + 0) (p * 2 ^ 5 + 0) ≡ bit_xor a p * 2 ^ 5 + 0 = xor_block 5 a p 0 0 (omega arith) (omega arith) in
    sym (add-zero _) ∙ sym e ∙ (λ i. bit_xor (add-zero (a * 32) i) (add-zero (p * 32) i))

-- five bits after those that were moved up
put_behind : (p v : ℕ) → v < 32 → bit_xor (p * 32) v ≡ p * 32 + v
put_behind p v low = let e : bit_xor (p * 2 ^ 5 + 0) (0 * 2 ^ 5 + v) ≡ bit_xor p 0 * 2 ^ 5 + bit_xor 0 v = xor_block 5 p 0 0 v (omega arith) low in
    (λ i. bit_xor (sym (add-zero (p * 32)) i) (sym (zero-add v) i)) ∙ e ∙ ap (λ (x : ℕ). x * 32 + v) (xor_zero_r p)

-- ---- one value

-- what the bits that leave bring in
brought_in : ℕ → ℕ
brought_in top =
    bit_xor (generator_at top 0 0x3b6a57b2) (bit_xor (generator_at top 1 0x26508e6d) (bit_xor (generator_at top 2 0x1ea119fa) (bit_xor (generator_at top 3 0x3d4233dd) (generator_at top 4 0x2a1462b3))))

step_is : (sum value : ℕ) → polymod_step sum value ≡ bit_xor (bit_xor (sum % 2 ^ 25 * 32) value) (brought_in (sum / 2 ^ 25))
unfolding polymod_step brought_in
step_is sum value = simp xor_assoc

-- what stands in the low bits of the sum, which have not left yet, moves up, and the value comes after it
step_moved : (sum p value : ℕ) → p < 2 ^ 25 → value < 32 → polymod_step (bit_xor sum p) value ≡ bit_xor (polymod_step sum 0) (p * 32 + value)
step_moved sum p value low small =
    let none : p / 2 ^ 25 ≡ 0 = omega arith in
    let all : p % 2 ^ 25 ≡ p = omega arith in
    let top : bit_xor sum p / 2 ^ 25 ≡ sum / 2 ^ 25 = xor_shr sum p 25 ∙ ap (λ (x : ℕ). bit_xor (sum / 2 ^ 25) x) none ∙ xor_zero_r _ in
    let rest : bit_xor sum p % 2 ^ 25 * 32 ≡ bit_xor (sum % 2 ^ 25 * 32) (p * 32) = ap (λ (x : ℕ). x * 32) (xor_mod sum p 25 ∙ ap (λ (x : ℕ). bit_xor (sum % 2 ^ 25) x) all) ∙ moved_up (sum % 2 ^ 25) p in
    step_is (bit_xor sum p) value
    ∙ (λ i. bit_xor (bit_xor (rest i) value) (brought_in (top i)))
    ∙ reordered (sum % 2 ^ 25 * 32) (p * 32) value (brought_in (sum / 2 ^ 25))
    ∙ (λ i. bit_xor (sym (step_is sum 0) i) (put_behind p value small i))

generator_below : (top bit generator : ℕ) → generator < 2 ^ 30 → generator_at top bit generator < 2 ^ 30
unfolding generator_at
generator_below top bit generator low = grind arith

brought_below : (top : ℕ) → brought_in top < 2 ^ 30
unfolding brought_in
brought_below top =
    let g0 = generator_at top 0 0x3b6a57b2 in
    let g1 = generator_at top 1 0x26508e6d in
    let g2 = generator_at top 2 0x1ea119fa in
    let g3 = generator_at top 3 0x3d4233dd in
    let g4 = generator_at top 4 0x2a1462b3 in
    xor_lt 30 g0 (bit_xor g1 (bit_xor g2 (bit_xor g3 g4))) (generator_below top 0 0x3b6a57b2 (lit< tt))
    (xor_lt 30 g1 (bit_xor g2 (bit_xor g3 g4)) (generator_below top 1 0x26508e6d (lit< tt))
    (xor_lt 30 g2 (bit_xor g3 g4) (generator_below top 2 0x1ea119fa (lit< tt))
    (xor_lt 30 g3 g4 (generator_below top 3 0x3d4233dd (lit< tt)) (generator_below top 4 0x2a1462b3 (lit< tt)))))

-- a checksum has thirty bits
step_below : (sum value : ℕ) → value < 32 → polymod_step sum value < 2 ^ 30
step_below sum value small =
    subst (λ (x : ℕ). x < 2 ^ 30) (sym (step_is sum value))
    (xor_lt 30 (bit_xor (sum % 2 ^ 25 * 32) value) (brought_in (sum / 2 ^ 25)) (xor_lt 30 (sum % 2 ^ 25 * 32) value (omega arith) (omega arith)) (brought_below (sum / 2 ^ 25)))

-- ---- six values

abbrev zeros : List ℕ
zeros = 0 ∷ 0 ∷ 0 ∷ 0 ∷ 0 ∷ 0 ∷ []

-- six values as one number
abbrev packed : ℕ → ℕ → ℕ → ℕ → ℕ → ℕ → ℕ
packed a b c d e f = ((((a * 32 + b) * 32 + c) * 32 + d) * 32 + e) * 32 + f

six_moved : (sum a b c d e f : ℕ) → a < 32 → b < 32 → c < 32 → d < 32 → e < 32 → f < 32
    → fold polymod_step sum (a ∷ b ∷ c ∷ d ∷ e ∷ f ∷ []) ≡ bit_xor (fold polymod_step sum zeros) (packed a b c d e f)
six_moved sum a b c d e f ha hb hc hd he hf =
    let s1 = polymod_step sum 0 in
    let s2 = polymod_step s1 0 in
    let s3 = polymod_step s2 0 in
    let s4 = polymod_step s3 0 in
    let s5 = polymod_step s4 0 in
    let e1 : polymod_step sum a ≡ bit_xor s1 a = ap (λ (x : ℕ). polymod_step x a) (sym (xor_zero_r sum)) ∙ step_moved sum 0 a (omega arith) ha ∙ ap (λ (x : ℕ). bit_xor s1 x) (zero-add a) in
    let e2 : polymod_step (polymod_step sum a) b ≡ bit_xor s2 (a * 32 + b) = ap (λ (x : ℕ). polymod_step x b) e1 ∙ step_moved s1 a b (omega arith) hb in
    let e3 : polymod_step (polymod_step (polymod_step sum a) b) c ≡ bit_xor s3 ((a * 32 + b) * 32 + c) = ap (λ (x : ℕ). polymod_step x c) e2 ∙ step_moved s2 (a * 32 + b) c (omega arith) hc in
    let e4 : polymod_step (polymod_step (polymod_step (polymod_step sum a) b) c) d ≡ bit_xor s4 (((a * 32 + b) * 32 + c) * 32 + d) = ap (λ (x : ℕ). polymod_step x d) e3 ∙ step_moved s3 ((a * 32 + b) * 32 + c) d (omega arith) hd in
    let e5 : polymod_step (polymod_step (polymod_step (polymod_step (polymod_step sum a) b) c) d) e ≡ bit_xor s5 ((((a * 32 + b) * 32 + c) * 32 + d) * 32 + e) = ap (λ (x : ℕ). polymod_step x e) e4 ∙ step_moved s4 (((a * 32 + b) * 32 + c) * 32 + d) e (omega arith) he in
    ap (λ (x : ℕ). polymod_step x f) e5 ∙ step_moved s5 ((((a * 32 + b) * 32 + c) * 32 + d) * 32 + e) f (omega arith) hf

-- a number as six values is that number
packed_of_six : (n : ℕ) → n < 2 ^ 30 → packed (n / 2 ^ 25 % 32) (n / 2 ^ 20 % 32) (n / 2 ^ 15 % 32) (n / 2 ^ 10 % 32) (n / 2 ^ 5 % 32) (n % 32) ≡ n
packed_of_six n low =
    let a : n / 2 ^ 25 % 32 ≡ n / 2 ^ 25 = omega arith in
    let b : n / 2 ^ 25 * 32 + n / 2 ^ 20 % 32 ≡ n / 2 ^ 20 = omega arith in
    let c : n / 2 ^ 20 * 32 + n / 2 ^ 15 % 32 ≡ n / 2 ^ 15 = omega arith in
    let d : n / 2 ^ 15 * 32 + n / 2 ^ 10 % 32 ≡ n / 2 ^ 10 = omega arith in
    let e : n / 2 ^ 10 * 32 + n / 2 ^ 5 % 32 ≡ n / 2 ^ 5 = omega arith in
    let f : n / 2 ^ 5 * 32 + n % 32 ≡ n = omega arith in
    rw (a, b, c, d, e, f) refl

digit : (p a : ℕ) → a < 32 → (p * 32 + a) % 32 ≡ a
digit p a h = omega arith

-- and six values as a number are those values
six_of_packed : (a b c d e f : ℕ) → a < 32 → b < 32 → c < 32 → d < 32 → e < 32 → f < 32 → six_values (packed a b c d e f) ≡ a ∷ b ∷ c ∷ d ∷ e ∷ f ∷ []
six_of_packed a b c d e f ha hb hc hd he hf =
    let ea : packed a b c d e f / 2 ^ 25 % 32 ≡ a = omega arith in
    let eb : packed a b c d e f / 2 ^ 20 % 32 ≡ b = omega arith in
    let ec : packed a b c d e f / 2 ^ 15 % 32 ≡ c = omega arith in
    let ed : packed a b c d e f / 2 ^ 10 % 32 ≡ d = omega arith in
    let ee : packed a b c d e f / 2 ^ 5 % 32 ≡ e = omega arith in
    let ef : packed a b c d e f % 32 ≡ f = omega arith in
    λ i. ea i ∷ eb i ∷ ec i ∷ ed i ∷ ee i ∷ ef i ∷ []

-- six values that bring the checksum to a sum are those that the sum asks for
six_found : (sum target a b c d e f : ℕ) → a < 32 → b < 32 → c < 32 → d < 32 → e < 32 → f < 32
    → fold polymod_step sum (a ∷ b ∷ c ∷ d ∷ e ∷ f ∷ []) ≡ target → six_values (bit_xor (fold polymod_step sum zeros) target) ≡ a ∷ b ∷ c ∷ d ∷ e ∷ f ∷ []
six_found sum target a b c d e f ha hb hc hd he hf is =
    let given : bit_xor (fold polymod_step sum zeros) target ≡ packed a b c d e f =
    ap (λ (x : ℕ). bit_xor (fold polymod_step sum zeros) x) (sym is ∙ six_moved sum a b c d e f ha hb hc hd he hf) ∙ twice_out _ _ in
    ap (λ (x : ℕ). six_values x) given ∙ six_of_packed a b c d e f ha hb hc hd he hf

-- and those do bring it there
six_reach : (sum target : ℕ) → target < 2 ^ 30 → fold polymod_step sum (six_values (bit_xor (fold polymod_step sum zeros) target)) ≡ target
six_reach sum target low =
    let n = bit_xor (fold polymod_step sum zeros) target in
    let fits : n < 2 ^ 30 = xor_lt 30 _ _ (step_below _ 0 (omega arith)) low in
    six_moved sum (n / 2 ^ 25 % 32) (n / 2 ^ 20 % 32) (n / 2 ^ 15 % 32) (n / 2 ^ 10 % 32) (n / 2 ^ 5 % 32) (n % 32) (omega arith) (omega arith) (omega arith) (omega arith) (omega arith) (omega arith)
    ∙ ap (λ (x : ℕ). bit_xor (fold polymod_step sum zeros) x) (packed_of_six n fits)
    ∙ twice_out _ _

-- ---- a whole row

-- the sum of values goes on from that of those before
sum_on : (front own last : List ℕ) → polymod (front ++ (own ++ last)) ≡ fold polymod_step (polymod (front ++ own)) last
sum_on front own last = ap (λ (l : List ℕ). fold polymod_step 1 l) (sym (append_assoc front own last)) ∙ fold-append polymod_step 1 (front ++ own) last

checksum_is : (prefix own : List ℕ) (target : ℕ) → checksum_of prefix own target ≡ six_values (bit_xor (fold polymod_step (polymod (expanded prefix ++ own)) zeros) target)
checksum_is prefix own target = ap (λ (s : ℕ). six_values (bit_xor s target)) (sum_on (expanded prefix) own zeros)

last_found : (sum target : ℕ) (last : List ℕ) → length last ≡ 6 → All (λ v. v < 32) last → fold polymod_step sum last ≡ target → six_values (bit_xor (fold polymod_step sum zeros) target) ≡ last
last_found sum target [] long small is = absurd (omega arith)
last_found sum target (a ∷ []) long small is = absurd (omega arith)
last_found sum target (a ∷ b ∷ []) long small is = absurd (omega arith)
last_found sum target (a ∷ b ∷ c ∷ []) long small is = absurd (omega arith)
last_found sum target (a ∷ b ∷ c ∷ d ∷ []) long small is = absurd (omega arith)
last_found sum target (a ∷ b ∷ c ∷ d ∷ e ∷ []) long small is = absurd (omega arith)
last_found sum target (a ∷ b ∷ c ∷ d ∷ e ∷ f ∷ []) long small is =
    six_found sum target a b c d e f (small 0 0 (omega arith)) (small 1 0 (omega arith)) (small 2 0 (omega arith)) (small 3 0 (omega arith)) (small 4 0 (omega arith)) (small 5 0 (omega arith)) is
last_found sum target (a ∷ b ∷ c ∷ d ∷ e ∷ f ∷ g ∷ rest) long small is = absurd (omega arith)

-- the checksum that values have is the one that is theirs
pub checksum_found : (prefix own last : List ℕ) (target : ℕ) → length last ≡ 6 → All (λ v. v < 32) last → polymod (expanded prefix ++ (own ++ last)) ≡ target → checksum_of prefix own target ≡ last
checksum_found prefix own last target long small is =
    checksum_is prefix own target ∙ last_found (polymod (expanded prefix ++ own)) target last long small (sym (sum_on (expanded prefix) own last) ∙ is)

-- and with it a whole row has the sum
pub checksum_reaches : (prefix own : List ℕ) (target : ℕ) → target < 2 ^ 30 → polymod (expanded prefix ++ (own ++ checksum_of prefix own target)) ≡ target
checksum_reaches prefix own target low =
    ap (λ (l : List ℕ). polymod (expanded prefix ++ (own ++ l))) (checksum_is prefix own target)
    ∙ sum_on (expanded prefix) own (six_values (bit_xor (fold polymod_step (polymod (expanded prefix ++ own)) zeros) target))
    ∙ six_reach (polymod (expanded prefix ++ own)) target low
