-- Numbers and the byte behind them are read exactly.
use Rattle.std.proofs.Common.{◌≡◌, ℕ, suc, ◌^◌, ◌≤◌, ◌<◌, Bool, true, false, cond, List, [], ◌∷◌, ◌++◌, length, Option, Some, None, Result, Ok, Err, ◌⊎◌, inl, inr, refl, sym, ap, subst, ◌∙◌, append_assoc, arith}
use Rattle.std.specs.Prelude.{is_some}
use Rattle.std.specs.Fmt.{decimal}
use Rattle.std.specs.Str.Parse.{AllDigits}
use Rattle.std.proofs.lemmas.List.{append-nil, length-append, append_cancel_left, nil_from_length}
use Rattle.std.proofs.lemmas.Fmt.{decimal_is_IsNumeral_wide}
use Rattle.std.proofs.lemmas.Str.Parse.{digit_at}
use Rattle.fund_base.specs.Decimal.{number_of}
use Rattle.fund_base.proofs.Decimals.{found}
use Rattle.fund_base.proofs.Laws.{guard_met}
use Rattle.closing_log.specs.Exact.{Begins, StopsAt, NoneGoesOn}
use Rattle.closing_log.specs.Reading.{digits_at, end_at, number_end, number_at, is_one_of}
use Rattle.closing_log.proofs.Exactness.{Piece, Held, overlap, one_on}
use Rattle.closing_log.proofs.WideLaws.{wide_front, wide_nonempty, wide_only}

-- ---- what begins a number

some_true : {A : Type 0} (o : Option A) (x : A) → Some x ≡ o → is_some o ≡ true
some_true {A = A} o x e = ap (λ (q : Option A). is_some q) (sym e)

-- what begins the spelling of a number is a number that isn't greater
pub number_front : (most n : ℕ) (front more : List ℕ) → most < 10 ^ 64 → n ≤ most → decimal n ≡ front ++ more → 0 < length front → is_some (number_of most front) ≡ true
number_front most n front more small le is some =
    let s = wide_front n front more (omega arith) is some in
    some_true (number_of most front) s.number (sym (ap (number_of most) s.is ∙ wide_only most s.number small (omega (arith, s.le, le))))

-- ---- the digits

abbrev pub NoMore : ℕ → List ℕ → List ℕ → Type 0
NoMore most front [] = Unit {0}
NoMore most front (b ∷ rest) = is_some (number_of most (front ++ b ∷ [])) ≡ false

pub record Digits (most : ℕ) (front bytes : List ℕ) (d : List ℕ × List ℕ) : Type 0 where
  pub parts : front ++ bytes ≡ d.0 ++ d.1
  pub good : (d.0 ≡ front) ⊎ (is_some (number_of most d.0) ≡ true)
  pub ended : NoMore most d.0 d.1

digits_step : (most : ℕ) (front : List ℕ) (b : ℕ) (rest : List ℕ) → Digits most (front ++ b ∷ []) rest (digits_at most (front ++ b ∷ []) rest)
    → (t : Bool) → is_some (number_of most (front ++ b ∷ [])) ≡ t → Digits most front (b ∷ rest) (cond t (digits_at most (front ++ b ∷ []) rest) (front, b ∷ rest))
digits_step most front b rest d true is = record {
  parts = sym (one_on front b rest) ∙ d.parts;
  good = elim d.good [ inl same ↦ inr (ap (λ t. is_some (number_of most t)) same ∙ is) | inr fits ↦ inr fits ];
  ended = d.ended;
}
digits_step most front b rest d false is = record { parts = refl; good = inl refl; ended = is }

pub digits_are : (most : ℕ) (front bytes : List ℕ) → Digits most front bytes (digits_at most front bytes)
unfolding digits_at
digits_are most front [] = record { parts = refl; good = inl refl; ended = tt }
digits_are most front (b ∷ rest) = digits_step most front b rest (digits_are most (front ++ b ∷ []) rest) (is_some (number_of most (front ++ b ∷ []))) refl

-- a byte that is no digit ends a number
last_is_digit : (front : List ℕ) (e : ℕ) → e < 48 → AllDigits 10 (front ++ e ∷ []) → ⊥
last_is_digit [] e low all = omega (arith, low, digit_at (e ∷ []) 0 all (omega arith))
last_is_digit (c ∷ front) e low all = last_is_digit front e low all.1

not_with_of : (most : ℕ) (front : List ℕ) (e : ℕ) → most < 10 ^ 64 → e < 48 → (o : Option ℕ) → number_of most (front ++ e ∷ []) ≡ o → is_some o ≡ false
not_with_of most front e small low None is = refl
not_with_of most front e small low (Some v) is =
    let f = found most (front ++ e ∷ []) v is in
    let k = decimal_is_IsNumeral_wide v (omega arith) in
    let all : AllDigits 10 (front ++ e ∷ []) = subst (AllDigits 10) (sym f.0) k.0.1 in
    absurd (last_is_digit front e low all)

not_with : (most : ℕ) (front : List ℕ) (e : ℕ) → most < 10 ^ 64 → e < 48 → is_some (number_of most (front ++ e ∷ [])) ≡ false
not_with most front e small low = not_with_of most front e small low (number_of most (front ++ e ∷ [])) refl

digits_again : (most n : ℕ) (front more : List ℕ) (e : ℕ) (rest : List ℕ) → most < 10 ^ 64 → n ≤ most → e < 48 → decimal n ≡ front ++ more → digits_at most front (more ++ e ∷ rest) ≡ (decimal n, e ∷ rest)
unfolding digits_at
digits_again most n front [] e rest small le low is =
    let over : is_some (number_of most (front ++ e ∷ [])) ≡ false = not_with most front e small low in
    let whole : front ≡ decimal n = sym (append-nil front) ∙ sym is in
    rw over (ap (λ (t : List ℕ). (t, e ∷ rest)) whole)
digits_again most n front (c ∷ more) e rest small le low is =
    let parts : decimal n ≡ (front ++ c ∷ []) ++ more = is ∙ sym (one_on front c more) in
    let fits : is_some (number_of most (front ++ c ∷ [])) ≡ true = number_front most n (front ++ c ∷ []) more small le parts (omega (arith, length-append front (c ∷ []))) in
    rw fits (digits_again most n (front ++ c ∷ []) more e rest small le low parts)

-- ---- the number and its end

pub record IsNumber (most : ℕ) (ends text : List ℕ) (x : ℕ × ℕ) : Type 0 where
  pub small : x.0 ≤ most
  pub end : is_one_of ends x.1 ≡ true
  pub text_is : text ≡ decimal x.0 ++ x.1 ∷ []

pub record AreEnds (ends : List ℕ) : Type 0 where
  pub low : (e : ℕ) → is_one_of ends e ≡ true → e < 48
  pub one : ℕ
  pub is_one : is_one_of ends one ≡ true

end_takes : (ends : List ℕ) (n : ℕ) (rest : List ℕ) (x : (ℕ × ℕ) × List ℕ) → end_at ends n rest ≡ Ok x → (x.0.0 ≡ n) × (is_one_of ends x.0.1 ≡ true) × (rest ≡ x.0.1 ∷ x.1)
unfolding end_at
end_takes ends n [] x e = absurd cc
end_takes ends n (b ∷ rest) x e =
    let g = guard_met (is_one_of ends b) (b ∷ rest) (Ok ((n, b), rest)) x e in
    let same : ((n, b), rest) ≡ x = (let k = g.1 in cc) in
    subst (λ (y : (ℕ × ℕ) × List ℕ). (y.0.0 ≡ n) × (is_one_of ends y.0.1 ≡ true) × (b ∷ rest ≡ y.0.1 ∷ y.1)) same (refl, g.0, refl)

number_takes_of : (most : ℕ) (ends bytes : List ℕ) (x : (ℕ × ℕ) × List ℕ) (d : List ℕ × List ℕ) → Digits most [] bytes d → (o : Option ℕ) → number_of most d.0 ≡ o → number_end ends d.1 o ≡ Ok x → Held (IsNumber most ends) bytes x
number_takes_of most ends bytes x d are None is e = absurd cc
number_takes_of most ends bytes x d are (Some n) is e =
    let f = found most d.0 n is in
    let t = end_takes ends n d.1 x e in
    record {
      text = decimal x.0.0 ++ x.0.1 ∷ [];
      parts = are.parts ∙ ap (λ (r : List ℕ). d.0 ++ r) t.2 ∙ ap (λ (f : List ℕ). f ++ x.0.1 ∷ x.1) (f.0 ∙ ap decimal (sym t.0)) ∙ sym (one_on (decimal x.0.0) x.0.1 x.1);
      means = record { small = omega (arith, f.1, t.0); end = t.1; text_is = refl };
    }

push_parts : (a b : List ℕ) (x y : ℕ) → a ++ x ∷ [] ≡ b ++ y ∷ [] → (a ≡ b) × (x ≡ y)
push_parts [] [] x y e = (refl, cc)
push_parts [] (c ∷ b) x y e = absurd (omega (arith, ap length e, length-append b (y ∷ [])))
push_parts (c ∷ a) [] x y e = absurd (omega (arith, ap length e, length-append a (x ∷ [])))
push_parts (c ∷ a) (d ∷ b) x y e =
    let tails : a ++ x ∷ [] ≡ b ++ y ∷ [] = cc in
    let p = push_parts a b x y tails in
    let heads : c ≡ d = cc in
    (let q = p.0 in cc, p.1)

number_never_at : (most : ℕ) (ends front : List ℕ) (b : ℕ) (x : ℕ × ℕ) (more : List ℕ) → most < 10 ^ 64 → is_some (number_of most (front ++ b ∷ [])) ≡ false → (front ≡ decimal x.0 → b ≡ x.1 → ⊥) → x.0 ≤ most
    → (w : List ℕ) → front ++ b ∷ [] ≡ decimal x.0 ++ w → (front ++ b ∷ []) ++ more ≡ decimal x.0 ++ x.1 ∷ [] → ⊥
number_never_at most ends front b x more small none other le [] is whole =
    let fits : is_some (number_of most (front ++ b ∷ [])) ≡ true = number_front most x.0 (front ++ b ∷ []) [] small le (sym (append-nil (front ++ b ∷ []) ∙ is ∙ append-nil (decimal x.0))) (omega (arith, length-append front (b ∷ []))) in
    let no : true ≡ false = sym fits ∙ none in
    absurd cc
number_never_at most ends front b x more small none other le (c ∷ w) is whole =
    let behind : (c ∷ w) ++ more ≡ x.1 ∷ [] = append_cancel_left (decimal x.0) ((c ∷ w) ++ more) (x.1 ∷ []) (sym (append_assoc (decimal x.0) (c ∷ w) more) ∙ ap (λ t. t ++ more) (sym is) ∙ whole) in
    let lengths : suc (length (w ++ more)) ≡ 1 = ap length behind in
    let nothing : w ≡ [] = nil_from_length w (omega (arith, lengths, length-append w more)) in
    let here : c ≡ x.1 = cc in
    let ended : front ++ b ∷ [] ≡ decimal x.0 ++ x.1 ∷ [] = is ∙ ap (λ t. decimal x.0 ++ c ∷ t) nothing ∙ ap (λ k. decimal x.0 ++ k ∷ []) here in
    let parts = push_parts front (decimal x.0) b x.1 ended in
    other parts.0 parts.1

-- what a number and its end can't go on with
number_never : (most : ℕ) (ends front : List ℕ) (b : ℕ) (x : ℕ × ℕ) (more : List ℕ) → most < 10 ^ 64 → is_some (number_of most (front ++ b ∷ [])) ≡ false → (front ≡ decimal x.0 → b ≡ x.1 → ⊥) → IsNumber most ends ((front ++ b ∷ []) ++ more) x → ⊥
number_never most ends front b x more small none other means =
    elim (overlap (decimal x.0) (front ++ b ∷ []) (x.1 ∷ []) more (sym means.text_is)) [
      | inl l ↦
          let fits : is_some (number_of most (front ++ b ∷ [])) ≡ true = number_front most x.0 (front ++ b ∷ []) l.more small means.small l.is (omega (arith, length-append front (b ∷ []))) in
          let no : true ≡ false = sym fits ∙ none in
          absurd cc
      | inr l ↦ number_never_at most ends front b x more small none other means.small l.more l.is means.text_is
    ]

number_no_more : (most : ℕ) (ends front stop : List ℕ) → most < 10 ^ 64 → NoMore most front stop → ((x : ℕ × ℕ) (b : ℕ) (r : List ℕ) → stop ≡ b ∷ r → x.0 ≤ most → front ≡ decimal x.0 → b ≡ x.1 → is_one_of ends x.1 ≡ true → ⊥) → NoneGoesOn (IsNumber most ends) front stop
number_no_more most ends front [] small none other = tt
number_no_more most ends front (b ∷ r) small none other =
    λ begins. number_never most ends front b begins.value begins.more small none (λ f is. other begins.value b r refl begins.means.small f is begins.means.end) begins.means

pub number_begins : (most : ℕ) (ends : List ℕ) → AreEnds ends → Begins (IsNumber most ends) []
number_begins most ends ok = record { more = decimal 0 ++ ok.one ∷ []; value = (0, ok.one); means = record { small = omega arith; end = ok.is_one; text_is = refl } }

abbrev NotEnd : List ℕ → List ℕ → Type 0
NotEnd ends [] = Unit {0}
NotEnd ends (b ∷ rest) = is_one_of ends b ≡ false

end_stopped : (ends : List ℕ) (n b : ℕ) (rest stop : List ℕ) → (t : Bool) → is_one_of ends b ≡ t → cond {A = Result ((ℕ × ℕ) × List ℕ) (List ℕ)} t (Ok ((n, b), rest)) (Err (b ∷ rest)) ≡ Err stop → (b ∷ rest ≡ stop) × (is_one_of ends b ≡ false)
end_stopped ends n b rest stop true is e = absurd cc
end_stopped ends n b rest stop false is e = (cc, is)

end_stops : (ends : List ℕ) (n : ℕ) (rest stop : List ℕ) → end_at ends n rest ≡ Err stop → (rest ≡ stop) × NotEnd ends rest
unfolding end_at
end_stops ends n [] stop e = (cc, tt)
end_stops ends n (b ∷ rest) stop e = end_stopped ends n b rest stop (is_one_of ends b) refl e

number_stops_of : (most : ℕ) (ends bytes stop : List ℕ) (d : List ℕ × List ℕ) → most < 10 ^ 64 → AreEnds ends → Digits most [] bytes d → (o : Option ℕ) → number_of most d.0 ≡ o → number_end ends d.1 o ≡ Err stop → StopsAt (IsNumber most ends) bytes stop
number_stops_of most ends bytes stop d small ok are None is e =
    let left : d.1 ≡ stop = cc in
    let empty : d.0 ≡ [] = elim are.good [ inl same ↦ same | inr fits ↦ absurd (let no : is_some (number_of most d.0) ≡ false = ap (λ o. is_some o) is in let both : true ≡ false = sym fits ∙ no in cc) ] in
    let never : NoneGoesOn (IsNumber most ends) d.0 d.1 = number_no_more most ends d.0 d.1 small are.ended (λ x b r at le h same end. omega (arith, wide_nonempty x.0 (omega arith), ap length (sym h ∙ empty))) in
    record {
      front = [];
      parts = are.parts ∙ ap (λ (t : List ℕ). t ++ d.1) empty ∙ left;
      begins = number_begins most ends ok;
      never = subst (λ (t : List ℕ). NoneGoesOn (IsNumber most ends) [] t) left (subst (λ (f : List ℕ). NoneGoesOn (IsNumber most ends) f d.1) empty never);
    }
number_stops_of most ends bytes stop d small ok are (Some n) is e =
    let s = end_stops ends n d.1 stop e in
    let f = found most d.0 n is in
    let never : NoneGoesOn (IsNumber most ends) d.0 d.1 = number_no_more most ends d.0 d.1 small are.ended (λ x b r at le h same end. let no : is_one_of ends b ≡ false = subst (NotEnd ends) at s.1 in let both : true ≡ false = sym end ∙ ap (is_one_of ends) (sym same) ∙ no in absurd cc) in
    record {
      front = d.0;
      parts = are.parts ∙ ap (λ (t : List ℕ). d.0 ++ t) s.0;
      begins = record { more = ok.one ∷ []; value = (n, ok.one); means = record { small = f.1; end = ok.is_one; text_is = ap (λ (t : List ℕ). t ++ ok.one ∷ []) f.0 } };
      never = subst (λ (t : List ℕ). NoneGoesOn (IsNumber most ends) d.0 t) s.0 never;
    }

number_again : (most : ℕ) (ends text rest : List ℕ) (x : ℕ × ℕ) → most < 10 ^ 64 → AreEnds ends → IsNumber most ends text x → number_at most ends (text ++ rest) ≡ Ok (x, rest)
unfolding number_at end_at
number_again most ends text rest x small ok means =
    let whole : text ++ rest ≡ decimal x.0 ++ x.1 ∷ rest = ap (λ (t : List ℕ). t ++ rest) means.text_is ∙ one_on (decimal x.0) x.1 rest in
    let digits : digits_at most [] (text ++ rest) ≡ (decimal x.0, x.1 ∷ rest) = ap (digits_at most []) whole ∙ digits_again most x.0 [] (decimal x.0) x.1 rest small means.small (ok.low x.1 means.end) refl in
    let number : number_of most (decimal x.0) ≡ Some x.0 = wide_only most x.0 small means.small in
    let end : is_one_of ends x.1 ≡ true = means.end in
    rw (digits, number, end) refl

pub wide_piece : (most : ℕ) (ends : List ℕ) → most < 10 ^ 64 → AreEnds ends → Piece (number_at most ends) (IsNumber most ends)
unfolding number_at
wide_piece most ends small ok = record {
  takes = λ bytes x e. number_takes_of most ends bytes x (digits_at most [] bytes) (digits_are most [] bytes) (number_of most (digits_at most [] bytes).0) refl e;
  again = λ text rest x means. number_again most ends text rest x small ok means;
  stops = λ bytes stop e. number_stops_of most ends bytes stop (digits_at most [] bytes) small ok (digits_are most [] bytes) (number_of most (digits_at most [] bytes).0) refl e;
  some = number_begins most ends ok;
}

pub number_piece : (most : ℕ) (ends : List ℕ) → most < 2 ^ 64 → AreEnds ends → Piece (number_at most ends) (IsNumber most ends)
number_piece most ends small ok = wide_piece most ends (omega (arith, small)) ok
