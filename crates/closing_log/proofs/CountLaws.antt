-- A fault counts the sections that stand whole before it.
use Rattle.std.proofs.Common.{◌≡◌, ℕ, zero, suc, ◌+◌, ◌≤◌, List, [], ◌∷◌, ◌++◌, length, Result, Ok, Err, refl, sym, ap, subst, ◌∙◌, append_assoc, arith}
use Rattle.std.proofs.lemmas.List.{length-append, append_cancel_right}
use Rattle.closing_log.specs.declared.part.Part.{Part}
use Rattle.closing_log.specs.declared.part.Part.TheVariants.{End, Open, Closed}
use Rattle.closing_log.specs.Log.{PlainSection}
use Rattle.closing_log.specs.LogText.{AreSections, Anything}
use Rattle.closing_log.specs.Reading.{part_at, body_rest, body_at}
use Rattle.closing_log.proofs.Exactness.{ok_is, not_both}
use Rattle.closing_log.proofs.BodyLaws.{part_takes, part_again, part_stops, lines_long}

pub record Counted (done : List PlainSection) (bytes stop : List ℕ) (k : ℕ) : Type 0 where
  pub sections : List PlainSection
  pub front : List ℕ
  pub parts : bytes ≡ front ++ stop
  pub stand : AreSections sections Anything front
  pub count : k ≡ length done + length sections
  pub most : (ss : List PlainSection) → AreSections ss Anything front → length done + length ss ≤ k

-- no section stands before a part that stops
none_before : (bytes front stop : List ℕ) (ss : List PlainSection) → bytes ≡ front ++ stop → part_at bytes ≡ Err stop → AreSections ss Anything front → length ss ≡ 0
none_before bytes front stop [] parts e stand = refl
none_before bytes front stop (s ∷ ss) parts e stand =
    let whole : bytes ≡ stand.front ++ (stand.back ++ stop) = parts ∙ ap (λ t. t ++ stop) stand.parts ∙ append_assoc stand.front stand.back stop in
    absurd (not_both (Closed s, stand.back ++ stop) stop (part_at bytes) (part_again bytes (Closed s, stand.back ++ stop) (record { text = stand.front; parts = whole; closed = stand.first })) e)

-- behind a section as many stand as before less one
one_less : (bytes rest text front stop : List ℕ) (s : PlainSection) (n k : ℕ) (ss : List PlainSection) → part_at bytes ≡ Ok (Closed s, rest) → bytes ≡ text ++ rest → rest ≡ front ++ stop
    → n ≤ k → ((ts : List PlainSection) → AreSections ts Anything front → suc n + length ts ≤ k) → AreSections ss Anything (text ++ front) → n + length ss ≤ k
one_less bytes rest text front stop s n k [] read parts left le most stand = omega arith
one_less bytes rest text front stop s n k (t ∷ ts) read parts left le most stand =
    let whole : bytes ≡ stand.front ++ (stand.back ++ stop) = parts ∙ ap (λ x. text ++ x) left ∙ sym (append_assoc text front stop) ∙ ap (λ x. x ++ stop) stand.parts ∙ append_assoc stand.front stand.back stop in
    let again = part_again bytes (Closed t, stand.back ++ stop) (record { text = stand.front; parts = whole; closed = stand.first }) in
    let same : (Closed s, rest) ≡ (Closed t, stand.back ++ stop) = ok_is (Closed s, rest) (Closed t, stand.back ++ stop) (part_at bytes) read again in
    let tail : front ≡ stand.back = append_cancel_right front stand.back stop (sym left ∙ ap (λ (p : Part × List ℕ). p.1) same) in
    let few = most ts (subst (AreSections ts Anything) (sym tail) stand.others) in
    omega (arith, few)

nothing_stands : (ss : List PlainSection) → AreSections ss Anything [] → length ss ≡ 0
nothing_stands [] stand = refl
nothing_stands (s ∷ ss) stand = absurd (omega (arith, lines_long stand.front s stand.first, ap length stand.parts, length-append stand.front stand.back))

counted_of : (n : ℕ) (done : List PlainSection) (bytes stop : List ℕ) (k : ℕ) → length bytes ≤ suc n
    → ((s : PlainSection) (rest : List ℕ) → length rest ≤ n → body_at n (done ++ s ∷ []) rest ≡ Err (stop, k) → Counted (done ++ s ∷ []) rest stop k)
    → (r : Result (Part × List ℕ) (List ℕ)) → part_at bytes ≡ r → body_rest done (λ s rest. body_at n (done ++ s ∷ []) rest) r ≡ Err (stop, k) → Counted done bytes stop k
counted_of n done bytes stop k le others (Ok (End, rest)) is e = absurd cc
counted_of n done bytes stop k le others (Ok (Open o, rest)) is e = absurd cc
counted_of n done bytes stop k le others (Err left) is e =
    let pair : (left, length done) ≡ (stop, k) = cc in
    let same : left ≡ stop = ap (λ (p : List ℕ × ℕ). p.0) pair in
    let number : length done ≡ k = ap (λ (p : List ℕ × ℕ). p.1) pair in
    let failed : part_at bytes ≡ Err stop = is ∙ ap (λ (t : List ℕ). Err t) same in
    let s = part_stops bytes stop failed in
    record {
      sections = [];
      front = s.front;
      parts = s.parts;
      stand = tt;
      count = omega (arith, number);
      most = λ ss stand. omega (arith, number, none_before bytes s.front stop ss s.parts failed stand);
    }
counted_of n done bytes stop k le others (Ok (Closed s, rest)) is e =
    let p = part_takes bytes (Closed s, rest) is in
    let c = others s rest (omega (arith, lines_long p.text s p.closed, ap length p.parts, length-append p.text rest)) e in
    let grown : length (done ++ s ∷ []) ≡ suc (length done) = omega (arith, length-append done (s ∷ [])) in
    record {
      sections = s ∷ c.sections;
      front = p.text ++ c.front;
      parts = p.parts ∙ ap (λ x. p.text ++ x) c.parts ∙ sym (append_assoc p.text c.front stop);
      stand = record { front = p.text; back = c.front; parts = refl; first = p.closed; others = c.stand };
      count = omega (arith, c.count, grown);
      most = λ ss stand. one_less bytes rest p.text c.front stop s (length done) k ss is p.parts c.parts (omega (arith, c.count, grown)) (λ ts t. omega (arith, grown, c.most ts t)) stand;
    }

pub counted : (n : ℕ) (done : List PlainSection) (bytes stop : List ℕ) (k : ℕ) → length bytes ≤ n → body_at n done bytes ≡ Err (stop, k) → Counted done bytes stop k
unfolding body_at
counted zero done bytes stop k le e =
    let pair : (bytes, length done) ≡ (stop, k) = cc in
    let number : length done ≡ k = ap (λ (p : List ℕ × ℕ). p.1) pair in
    record {
      sections = [];
      front = [];
      parts = ap (λ (p : List ℕ × ℕ). p.0) pair;
      stand = tt;
      count = omega (arith, number);
      most = λ ss stand. omega (arith, number, nothing_stands ss stand);
    }
counted (suc n) done bytes stop k le e = counted_of n done bytes stop k le (λ s rest. counted n (done ++ s ∷ []) rest stop k) (part_at bytes) refl e
