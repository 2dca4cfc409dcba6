-- The line of the waste, that of the change, and that of the PSBT are read exactly.
use Rattle.std.proofs.Common.{◌≡◌, ℕ, zero, suc, ◌^◌, ◌≤◌, ◌<◌, Bool, true, false, eqb, List, [], ◌∷◌, ◌++◌, length, get_or, take, drop, Ok, Err, Option, Some, None, inl, inr, refl, sym, ap, subst, ◌∙◌, arith, eqb-true, one-add}
use Rattle.std.specs.Prelude.{⊤, codes, ℤ, pos, negsuc, IfSome}
use Rattle.std.specs.Fmt.{decimal, signed_decimal}
use Rattle.std.specs.List.{AllByRecursion, prefix_len}
use Rattle.std.proofs.lemmas.Bool.{eqb-false}
use Rattle.std.proofs.lemmas.Fmt.{decimal_is_IsNumeral_wide}
use Rattle.std.proofs.lemmas.List.{drop_at, length-append, take-append-drop, take_at}
use Rattle.std.proofs.lemmas.Str.Parse.{digit_at}
use Rattle.closing_log.specs.Exact.{Begins, NoneGoesOn, StopsAt}
use Rattle.closing_log.specs.Lines.{behind_at, number_line, positive_line}
use Rattle.closing_log.specs.Reading.{word_at}
use Rattle.closing_log.proofs.DigestLaws.{FailsFirst, passing}
use Rattle.closing_log.proofs.EitherLaws.{AllLed, Either, NoneLed, either_piece}
use Rattle.closing_log.proofs.Exactness.{Held, Made, Piece, one_on}
use Rattle.closing_log.proofs.LineLaws.{Behind, IsNumberLine, IsPositiveLine, behind_piece, number_line_piece, positive_piece}
use Rattle.closing_log.proofs.PartLaws.{made_piece, piece_as}
use Rattle.closing_log.proofs.WordLaws.{IsWord, word_piece}
use Rattle.fund_report.specs.Reading.{above_line, below_line, change_rest, is_text, neg_of, no_change, signed_line, some_change, text_end, text_line}
use Rattle.fund_report.specs.ReportText.{IsLine, IsSigned, IsWide, change_text}
use Rattle.fund_report.proofs.Loops.{feed_is, feed_not}

-- ---- how the line of a number begins

head_of : (a b : List ℕ) → 0 < length a → get_or (a ++ b) 0 0 ≡ get_or a 0 0
head_of [] b some = absurd (omega arith)
head_of (c ∷ a) b some = refl

-- with a digit
pub record HasDigit (text : List ℕ) : Type 0 where
  pub low : 48 ≤ get_or text 0 0
  pub high : get_or text 0 0 ≤ 57
  pub some : 0 < length text

number_head : (most : ℕ) (text : List ℕ) (n : ℕ) → most < 10 ^ 64 → IsNumberLine most text n → HasDigit text
number_head most text n small i =
    let k = (decimal_is_IsNumeral_wide n (omega (arith, i.small))).0 in
    let d = digit_at (decimal n) 0 k.1 k.0 in
    let head : get_or text 0 0 ≡ get_or (decimal n) 0 0 = ap (λ t. get_or t 0 0) i.is ∙ head_of (decimal n) (codes "\n") k.0 in
    record { low = omega (arith, head, d); high = omega (arith, head, d); some = omega (arith, k.0, ap length i.is, length-append (decimal n) (codes "\n")) }

-- ---- the waste

abbrev most_above : ℕ
most_above = 170_141_183_460_469_231_731_687_303_715_884_105_727

abbrev most_below : ℕ
most_below = 170_141_183_460_469_231_731_687_303_715_884_105_728

abbrev IsBelow : List ℕ → ℤ → Type 0
IsBelow = Made neg_of (Behind (codes "-") (IsPositiveLine most_below))

abbrev to_pos : ℕ → ℤ
to_pos n = pos n

abbrev IsAbove : List ℕ → ℤ → Type 0
IsAbove = Made to_pos (IsNumberLine most_above)

below_piece : Piece below_line IsBelow
below_piece = made_piece neg_of (behind_at (codes "-") (positive_line most_below)) (Behind (codes "-") (IsPositiveLine most_below)) (behind_piece (codes "-") (positive_line most_below) (IsPositiveLine most_below) (positive_piece most_below (omega arith) (omega arith)))

above_piece : Piece above_line IsAbove
above_piece = made_piece to_pos (number_line most_above) (IsNumberLine most_above) (number_line_piece most_above (omega arith))

below_led : AllLed 45 IsBelow
below_led = λ text z m. (ap (λ t. get_or t 0 0) m.means.parts, omega (arith, ap length m.means.parts))

above_led : NoneLed 45 IsAbove
above_led = λ text z m. let h = number_head most_above text m.value (omega arith) m.means in (λ is. omega (arith, is, h.low), h.some)

pub record IsSignedLine (text : List ℕ) (z : ℤ) : Type 0 where
  pub is : text ≡ signed_decimal z ++ codes "\n"
  pub small : IsSigned z

signed_below : (text : List ℕ) (z : ℤ) (n : ℕ) → z ≡ neg_of n → Behind (codes "-") (IsPositiveLine most_below) text n → IsSignedLine text z
signed_below text z zero is b = absurd (omega (arith, b.means.some))
signed_below text z (suc n) is b =
    let small : n ≤ most_above = omega (arith, b.means.number.small) in
    subst (IsSignedLine text) (sym is) (record { is = b.parts ∙ ap (λ t. codes "-" ++ t) b.means.number.is; small = small })

signed_to : (text : List ℕ) (z : ℤ) → Either IsBelow IsAbove text z → IsSignedLine text z
signed_to text z (inl m) = signed_below text z m.value m.is m.means
signed_to text z (inr m) = subst (IsSignedLine text) (sym m.is) (record { is = m.means.is; small = m.means.small })

signed_from : (text : List ℕ) (z : ℤ) → IsSignedLine text z → Either IsBelow IsAbove text z
signed_from text (pos n) i = inr (record { value = n; is = refl; means = record { small = i.small; is = i.is } })
signed_from text (negsuc n) i = inl (record {
  value = suc n;
  is = refl;
  means = record {
    back = decimal (suc n) ++ codes "\n";
    parts = i.is;
    means = record { some = omega arith; number = record { small = omega (arith, i.small); is = refl } };
  };
})

pub signed_piece : Piece signed_line IsSignedLine
signed_piece = piece_as signed_line (Either IsBelow IsAbove) IsSignedLine signed_to signed_from (either_piece ℤ 45 below_line above_line IsBelow IsAbove below_piece above_piece below_led above_led)

-- ---- the change

abbrev most_wide : ℕ
most_wide = 18_446_744_073_709_551_615

abbrev to_none : ⊤ → Option ℕ
to_none = λ u. None

abbrev to_some : ℕ → Option ℕ
to_some = λ n. Some n

abbrev IsNone : List ℕ → Option ℕ → Type 0
IsNone = Made to_none (IsWord (codes "none\n"))

abbrev IsAmount : List ℕ → Option ℕ → Type 0
IsAmount = Made to_some (IsNumberLine most_wide)

none_piece : Piece no_change IsNone
none_piece = made_piece to_none (word_at (codes "none\n")) (IsWord (codes "none\n")) (word_piece (codes "none\n"))

amount_piece : Piece some_change IsAmount
amount_piece = made_piece to_some (number_line most_wide) (IsNumberLine most_wide) (number_line_piece most_wide (omega arith))

none_led : AllLed 110 IsNone
none_led = λ text c m. (ap (λ t. get_or t 0 0) m.means, omega (arith, ap length m.means))

amount_led : NoneLed 110 IsAmount
amount_led = λ text c m. let h = number_head most_wide text m.value (omega arith) m.means in (λ is. omega (arith, is, h.high), h.some)

pub record IsChange (text : List ℕ) (c : Option ℕ) : Type 0 where
  pub is : text ≡ change_text c ++ codes "\n"
  pub small : IfSome c IsWide

change_to : (text : List ℕ) (c : Option ℕ) → Either IsNone IsAmount text c → IsChange text c
change_to text c (inl m) = subst (IsChange text) (sym m.is) (record { is = m.means; small = tt })
change_to text c (inr m) = subst (IsChange text) (sym m.is) (record { is = m.means.is; small = m.means.small })

change_from : (text : List ℕ) (c : Option ℕ) → IsChange text c → Either IsNone IsAmount text c
change_from text None i = inl (record { value = tt; is = refl; means = i.is })
change_from text (Some n) i = inr (record { value = n; is = refl; means = record { small = i.small; is = i.is } })

pub change_piece : Piece change_rest IsChange
change_piece = piece_as change_rest (Either IsNone IsAmount) IsChange change_to change_from (either_piece (Option ℕ) 110 no_change some_change IsNone IsAmount none_piece amount_piece none_led amount_led)

-- ---- the PSBT

pub record IsTextLine (text t : List ℕ) : Type 0 where
  pub is : text ≡ t ++ codes "\n"
  pub line : IsLine t

abbrev NoFeed : List ℕ → Type 0
NoFeed = AllByRecursion (λ b. b ≡ 10 → ⊥)

abbrev Passes : List ℕ → Type 0
Passes = AllByRecursion (λ b. is_text b ≡ true)

no_feed : (b : ℕ) → is_text b ≡ true → b ≡ 10 → ⊥
no_feed b passes is = let no : true ≡ false = sym passes ∙ feed_is b is in absurd cc

feedless : (bs : List ℕ) → Passes bs → NoFeed bs
feedless [] all = tt
feedless (b ∷ bs) all = (no_feed b all.0, feedless bs all.1)

passes : (bs : List ℕ) → NoFeed bs → Passes bs
passes [] all = tt
passes (b ∷ bs) all = (feed_not b all.0, passes bs all.1)

fails_at : (b : ℕ) (t : Bool) → eqb b 10 ≡ t → is_text b ≡ false → b ≡ 10
fails_at b true at fails = eqb-true b 10 at
fails_at b false at fails = absurd (let no : true ≡ false = sym (feed_not b (eqb-false b 10 at)) ∙ fails in cc)

feed_first : (b : ℕ) → is_text b ≡ false → b ≡ 10
feed_first b fails = fails_at b (eqb b 10) refl fails

text_takes : (front back bytes : List ℕ) (x : List ℕ × List ℕ) → bytes ≡ front ++ back → Passes front → FailsFirst is_text back → text_end front back ≡ Ok x → Held IsTextLine bytes x
unfolding text_end
text_takes front [] bytes x parts all fails e = absurd cc
text_takes [] (b ∷ back) bytes x parts all fails e = absurd cc
text_takes (c ∷ cs) (b ∷ back) bytes x parts all fails e =
    let same : (c ∷ cs, back) ≡ x = cc in
    let feed : b ≡ 10 = feed_first b fails in
    subst (λ (y : List ℕ × List ℕ). Held IsTextLine bytes y) same
    (record {
      text = (c ∷ cs) ++ codes "\n";
      parts = parts ∙ ap (λ (k : ℕ). (c ∷ cs) ++ k ∷ back) feed ∙ sym (one_on (c ∷ cs) 10 back);
      means = record { is = refl; line = record { some = omega arith; feedless = feedless (c ∷ cs) all } };
    })

prefix_here : (a b : List ℕ) → Passes a → FailsFirst is_text b → prefix_len is_text (a ++ b) ≡ length a
prefix_here [] [] fa fb = refl
prefix_here [] (x ∷ b) fa fb = rw fb refl
prefix_here (c ∷ a) b fa fb = let first : is_text c ≡ true = fa.0 in rw first (one-add (prefix_len is_text (a ++ b)) ∙ ap suc (prefix_here a b fa.1 fb))

text_here : (a b : List ℕ) → Passes a → FailsFirst is_text b → text_line (a ++ b) ≡ text_end a b
text_here a b fa fb =
    let n = prefix_here a b fa fb in
    let front : take (prefix_len is_text (a ++ b)) (a ++ b) ≡ a = ap (λ k. take k (a ++ b)) n ∙ take_at a b (length a) refl in
    let back : drop (prefix_len is_text (a ++ b)) (a ++ b) ≡ b = ap (λ k. drop k (a ++ b)) n ∙ drop_at a b (length a) refl in
    rw (front, back) refl

end_read : (t rest : List ℕ) → 0 < length t → text_end t (10 ∷ rest) ≡ Ok (t, rest)
unfolding text_end
end_read [] rest some = absurd (omega arith)
end_read (c ∷ cs) rest some = refl

text_again : (text rest t : List ℕ) → IsTextLine text t → text_line (text ++ rest) ≡ Ok (t, rest)
text_again text rest t i =
    let whole : text ++ rest ≡ t ++ 10 ∷ rest = ap (λ x. x ++ rest) i.is ∙ one_on t 10 rest in
    ap text_line whole ∙ text_here t (10 ∷ rest) (passes t i.line.feedless) refl ∙ end_read t rest i.line.some

text_begins : (front : List ℕ) → NoFeed front → Begins IsTextLine front
text_begins [] all = record { more = 120 ∷ 10 ∷ []; value = 120 ∷ []; means = record { is = refl; line = record { some = omega arith; feedless = (λ is. omega (arith, is), tt) } } }
text_begins (c ∷ cs) all = record { more = 10 ∷ []; value = c ∷ cs; means = record { is = refl; line = record { some = omega arith; feedless = all } } }

-- no such line begins with a line feed
fed : (b : ℕ) (more t : List ℕ) → b ≡ 10 → b ∷ more ≡ t ++ codes "\n" → 0 < length t → NoFeed t → ⊥
fed b more [] feed is some all = omega arith
fed b more (c ∷ t) feed is some all = let heads : b ≡ c = cc in all.0 (sym heads ∙ feed)

text_stops : (front back bytes stop : List ℕ) → bytes ≡ front ++ back → Passes front → FailsFirst is_text back → text_end front back ≡ Err stop → StopsAt IsTextLine bytes stop
unfolding text_end
text_stops front [] bytes stop parts all fails e =
    let is : [] ≡ stop = cc in
    subst (λ (s : List ℕ). StopsAt IsTextLine bytes s) is (record { front = front; parts = parts; begins = text_begins front (feedless front all); never = tt })
text_stops [] (b ∷ back) bytes stop parts all fails e =
    let is : b ∷ back ≡ stop = cc in
    let feed : b ≡ 10 = feed_first b fails in
    let never : NoneGoesOn IsTextLine [] (b ∷ back) = λ begins. fed b begins.more begins.value feed begins.means.is begins.means.line.some begins.means.line.feedless in
    subst (λ (s : List ℕ). StopsAt IsTextLine bytes s) is (record { front = []; parts = parts; begins = text_begins [] tt; never = never })
text_stops (c ∷ cs) (b ∷ back) bytes stop parts all fails e = absurd cc

pub text_piece : Piece text_line IsTextLine
text_piece = record {
  takes = λ bytes x e. let p = passing is_text bytes in text_takes (take (prefix_len is_text bytes) bytes) (drop (prefix_len is_text bytes) bytes) bytes x (sym (take-append-drop (prefix_len is_text bytes) bytes)) p.all p.stops e;
  again = λ text rest x means. text_again text rest x means;
  stops = λ bytes stop e. let p = passing is_text bytes in text_stops (take (prefix_len is_text bytes) bytes) (drop (prefix_len is_text bytes) bytes) bytes stop (sym (take-append-drop (prefix_len is_text bytes) bytes)) p.all p.stops e;
  some = text_begins [] tt;
}
