-- What is written of a log is a text of it.
use Rattle.std.proofs.Common.{◌≡◌, ℕ, zero, suc, ◌+◌, ◌≤◌, ◌<◌, Bool, true, false, List, [], ◌∷◌, ◌++◌, length, get_or, All, Option, Some, None, inl, inr, refl, sym, ap, subst, ◌∙◌, append_assoc, arith}
use Rattle.std.specs.Prelude.{IsSome, is_some, IfSome, ◌↔◌}
use Rattle.std.specs.List.{flat_map, AllByRecursion}
use Rattle.std.proofs.lemmas.List.{get_or_past}
use Rattle.std.proofs.lemmas.List.Concat.{flat_map-cons}
use Rattle.std.proofs.lemmas.Bool.{cases_lt}
use Rattle.hex.specs.Hex.{encode_lower, lower_digits, IsBytes}
use Rattle.hex.proofs.HexLemmas.{decode_of-encode_lower, decode_sized-twice, length-encode_with}
use Rattle.closing_log.specs.Log.{PlainSection, PlainOpen, PlainLog}
use Rattle.closing_log.specs.LogText.{IsDigest, IsEnding, AreSections, CanBeClosed, CanBeOpen, CanBeWritten, IsSizedSection, IsSizedOpen, IsSized, IsClosed, IsLogText, IsCount, section_text, ending_text, text_of}

byte_at : (digest : List ℕ) (i : ℕ) → All (λ b. b < 256) digest → get_or digest i 0 < 256
byte_at digest i small = elim (cases_lt i (length digest)) [
  | inl lt ↦ small i 0 lt
  | inr le ↦ let none : get_or digest i 0 ≡ 0 = get_or_past digest i 0 le in omega arith
]

pub digest_written : (digest : List ℕ) → length digest ≡ 32 → All (λ b. b < 256) digest → IsDigest (encode_lower digest) digest
digest_written digest len small =
    let bytes : IsBytes digest = λ i. byte_at digest i small in
    let twice : length (encode_lower digest) ≡ 64 = omega (arith, length-encode_with lower_digits digest, len) in
    decode_sized-twice (encode_lower digest) 32 (omega (arith, twice)) ∙ decode_of-encode_lower digest bytes

section_written : (s : PlainSection) → CanBeClosed s → IsSizedSection s → IsClosed (section_text s) s
section_written s can sized = record { digits = encode_lower s.digest; lines = refl; digest = digest_written s.digest sized.digest.0 sized.digest.1; row = sized.row; can = can; places = sized.places }

ending_written : (tail : Option PlainOpen) (ended : Bool) → IfSome tail CanBeOpen → IfSome tail IsSizedOpen → IsSome tail ↔ (ended ≡ false) → IsEnding (ending_text tail ended) tail ended
ending_written None true can sized is = refl
ending_written None false can sized is = absurd (let h : is_some {T = PlainOpen} None ≡ true = is.1 refl in cc)
ending_written (Some o) true can sized is = absurd (let h : true ≡ false = is.0 refl in cc)
ending_written (Some o) false can sized is = record { digits = encode_lower o.digest; lines = refl; digest = digest_written o.digest sized.digest.0 sized.digest.1; row = sized.row; can = can }

sections_written : (ss : List PlainSection) (Ending : List ℕ → Type 0) (back : List ℕ) → AllByRecursion CanBeClosed ss → AllByRecursion IsSizedSection ss → Ending back → AreSections ss Ending (flat_map section_text ss ++ back)
sections_written [] Ending back can sized end = end
sections_written (s ∷ ss) Ending back can sized end = record {
  front = section_text s;
  back = flat_map section_text ss ++ back;
  parts = ap (λ t. t ++ back) (flat_map-cons section_text s ss) ∙ append_assoc (section_text s) (flat_map section_text ss) back;
  first = section_written s can.0 sized.0;
  others = sections_written ss Ending back can.1 sized.1 end;
}

pub written_is_text : (log : PlainLog) → CanBeWritten log → IsSized log → IsLogText (text_of log) log
unfolding text_of
written_is_text log can sized = record {
  back = flat_map section_text log.closed ++ ending_text log.tail log.ended;
  parts = refl;
  sections = sections_written log.closed (λ text. IsEnding text log.tail log.ended) (ending_text log.tail log.ended) can.closed sized.closed (ending_written log.tail log.ended can.tail sized.tail can.ended);
}

pub text_is_of : (log : PlainLog) (text : List ℕ) → text ≡ text_of log → CanBeWritten log → IsSized log → IsLogText text log
text_is_of log text is can sized = subst (λ (t : List ℕ). IsLogText t log) (sym is) (written_is_text log can sized)

-- ---- the other way

ending_can : (text : List ℕ) (tail : Option PlainOpen) (ended : Bool) → IsEnding text tail ended → IfSome tail CanBeOpen × (IsSome tail ↔ (ended ≡ false))
ending_can text None true is = (tt, (λ h. absurd cc, λ h. absurd cc))
ending_can text None false is = absurd is
ending_can text (Some o) true is = absurd is
ending_can text (Some o) false is = (is.can, (λ h. refl, λ h. refl))

sections_can : (ss : List PlainSection) (tail : Option PlainOpen) (ended : Bool) (text : List ℕ) → AreSections ss (λ t. IsEnding t tail ended) text → AllByRecursion CanBeClosed ss × (IfSome tail CanBeOpen × (IsSome tail ↔ (ended ≡ false)))
sections_can [] tail ended text is = (tt, ending_can text tail ended is)
sections_can (s ∷ ss) tail ended text is = let others = sections_can ss tail ended is.back is.others in ((is.first.can, others.0), others.1)

pub text_can : (bytes : List ℕ) (log : PlainLog) → IsLogText bytes log → CanBeWritten log
text_can bytes log i = let c = sections_can log.closed log.tail log.ended i.back i.sections in record { closed = c.0; tail = c.1.0; ended = c.1.1 }

-- ---- one count

count_le : (bytes : List ℕ) (place m n : ℕ) → IsCount bytes place m → IsCount bytes place n → m ≤ n
count_le bytes place zero n first second = omega arith
count_le bytes place (suc m) n first second = let s = first.some (omega arith) in let le = second.most s.0 s.2 in omega (arith, le, s.1)

pub one_count : (bytes : List ℕ) (place m n : ℕ) → IsCount bytes place m → IsCount bytes place n → m ≡ n
one_count bytes place m n first second = omega (arith, count_le bytes place m n first second, count_le bytes place n m second first)
