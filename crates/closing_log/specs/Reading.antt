-- Reading line by line, from left to right. What can't be read is answered by the bytes that are left where no text
-- goes on as they do.
use Rattle.std.specs.Prelude.{ℕ, zero, suc, ◌==◌, ◌&&◌, nat_le, Bool, true, false, List, [], ◌∷◌, ◌++◌, length, take, drop, codes, Option, Some, None, is_some, Result, Ok, Err, if◌then◌else◌, ⊤}
use Rattle.std.specs.List.{prefix_len, list_any}
use Rattle.hex.specs.Hex.{decode_sized, is_hex_digit}
use Rattle.hex.specs.declared.error.FromHexError.{FromHexError}
use Rattle.fund_base.specs.Decimal.{number_of}
use Rattle.fund_base.specs.Parsing.{◌>>=◌}
use Rattle.closing_log.specs.declared.log.Stage.{Stage}
use Rattle.closing_log.specs.declared.log.Stage.TheVariants.{Changeless, LeanBig, LeanSmall}
use Rattle.closing_log.specs.declared.part.Head.{Head}
use Rattle.closing_log.specs.declared.part.Lead.{Lead}
use Rattle.closing_log.specs.declared.part.Lead.TheVariants.{Ends, Begins}
use Rattle.closing_log.specs.declared.part.Part.{Part}
use Rattle.closing_log.specs.declared.part.Part.TheVariants.{End, Open, Closed}
use Rattle.closing_log.specs.Log.{PlainSection, PlainOpen, PlainLog}
use Rattle.closing_log.specs.LogText.{stage_word}

-- ---- one part behind the other

-- two parts, the second as the first says
abbrev pub both_at : {X Y : Type 0} → (List ℕ → Result (X × List ℕ) (List ℕ)) → (X → List ℕ → Result (Y × List ℕ) (List ℕ)) → List ℕ → Result ((X × Y) × List ℕ) (List ℕ)
both_at first second bytes = first bytes >>= λ x. second x.0 x.1 >>= λ y. Ok ((x.0, y.0), y.1)

-- a part told as another value
abbrev pub made_at : {X Y : Type 0} → (X → Y) → (List ℕ → Result (X × List ℕ) (List ℕ)) → List ℕ → Result (Y × List ℕ) (List ℕ)
made_at make item bytes = item bytes >>= λ x. Ok (make x.0, x.1)

-- ---- words

unfoldable pub word_at : List ℕ → List ℕ → Result (⊤ × List ℕ) (List ℕ)
word_at [] rest = Ok (tt, rest)
word_at (c ∷ word) [] = Err []
word_at (c ∷ word) (b ∷ rest) = if c == b then word_at word rest else Err (b ∷ rest)

-- the shorter of two rests: of several words that don't fit, the one that fits longest says where reading stops
abbrev pub shorter_of : List ℕ → List ℕ → List ℕ
shorter_of a b = if nat_le (length a) (length b) then a else b

-- a word that was read as x, or what else is tried
abbrev pub told_or : {X : Type 0} → X → (List ℕ → Result (X × List ℕ) (List ℕ)) → Result (⊤ × List ℕ) (List ℕ) → Result (X × List ℕ) (List ℕ)
told_or x others (Ok y) = Ok (x, y.1)
told_or x others (Err left) = others left

-- the first of these words that stands here
unfoldable pub choice_at : {X : Type 0} → (X → List ℕ) → List X → List ℕ → List ℕ → Result (X × List ℕ) (List ℕ)
choice_at word [] stop bytes = Err stop
choice_at word (x ∷ xs) stop bytes = told_or x (λ left. choice_at word xs (shorter_of left stop) bytes) (word_at (word x) bytes)

abbrev pub searched : List Stage
searched = Changeless ∷ LeanBig ∷ LeanSmall ∷ []

abbrev pub stage_at : List ℕ → Result (Stage × List ℕ) (List ℕ)
stage_at bytes = choice_at stage_word searched bytes bytes

-- ---- numbers

-- as many bytes as still are a number of at most `most`, and those behind them
unfoldable pub digits_at : ℕ → List ℕ → List ℕ → List ℕ × List ℕ
digits_at most front [] = (front, [])
digits_at most front (b ∷ rest) = if is_some (number_of most (front ++ b ∷ [])) then digits_at most (front ++ b ∷ []) rest else (front, b ∷ rest)

abbrev pub is_one_of : List ℕ → ℕ → Bool
is_one_of ends b = list_any (λ (e : ℕ). e == b) ends

-- the byte that ends a number
unfoldable pub end_at : List ℕ → ℕ → List ℕ → Result ((ℕ × ℕ) × List ℕ) (List ℕ)
end_at ends n [] = Err []
end_at ends n (b ∷ rest) = if is_one_of ends b then Ok ((n, b), rest) else Err (b ∷ rest)

abbrev pub number_end : List ℕ → List ℕ → Option ℕ → Result ((ℕ × ℕ) × List ℕ) (List ℕ)
number_end ends rest (Some n) = end_at ends n rest
number_end ends rest None = Err rest

-- a number of at most `most`, and one of these bytes behind it
unfoldable pub number_at : ℕ → List ℕ → List ℕ → Result ((ℕ × ℕ) × List ℕ) (List ℕ)
number_at most ends bytes =
    let d = digits_at most [] bytes in
    number_end ends d.1 (number_of most d.0)

-- numbers with a blank between them, up to a line feed; there are fewer than `turns` of them
unfoldable pub places_from : ℕ → List ℕ → List ℕ → Result (List ℕ × List ℕ) (List ℕ)
places_from zero done bytes = Err bytes
places_from (suc turns) done bytes = do
  p ← number_at 4_294_967_295 (32 ∷ 10 ∷ []) bytes
  if p.0.1 == 10 then Ok (done ++ p.0.0 ∷ [], p.1) else places_from turns (done ++ p.0.0 ∷ []) p.1

abbrev pub places_at : List ℕ → Result (List ℕ × List ℕ) (List ℕ)
places_at bytes = places_from (length bytes) [] bytes

-- places or `none`, up to a line feed
unfoldable pub answer_at : List ℕ → Result (Option (List ℕ) × List ℕ) (List ℕ)
answer_at [] = Err []
answer_at (b ∷ rest) =
    if b == 110 then made_at (λ (u : ⊤). None) (word_at (codes "none\n")) (b ∷ rest) else made_at (λ (ps : List ℕ). Some ps) places_at (b ∷ rest)

-- ---- digests

abbrev pub digest_end : List ℕ → Result (List ℕ) FromHexError → Result (List ℕ × List ℕ) (List ℕ)
digest_end bytes (Ok digest) = Ok (digest, drop 64 bytes)
digest_end bytes (Err e) = Err (drop (prefix_len is_hex_digit bytes) bytes)

unfoldable pub digest_at : List ℕ → Result (List ℕ × List ℕ) (List ℕ)
digest_at bytes = digest_end bytes (decode_sized (take 64 bytes) 32)

-- ---- a section

-- the line of a section behind its first word, and the word before its letters
abbrev pub head_of : (ℕ × ℕ) × (Stage × (⊤ × (List ℕ × ⊤))) → Head
head_of h = record { row = h.0.0; stage = h.1.0; digest = h.1.1.1.0 }

abbrev pub head_at : List ℕ → Result (Head × List ℕ) (List ℕ)
head_at bytes = made_at head_of (both_at (number_at 255 (32 ∷ [])) (λ n. both_at stage_at (λ s. both_at (word_at (codes " ")) (λ u. both_at digest_at (λ d. word_at (codes "\ntokens ")))))) bytes

abbrev pub is_letter : ℕ → Bool
is_letter b = nat_le 33 b && nat_le b 126

-- letters up to the end of the bytes, or some letters and a line feed; whether it was the line feed
unfoldable pub letters_end : List ℕ → List ℕ → Result ((List ℕ × Bool) × List ℕ) (List ℕ)
letters_end letters [] = Ok ((letters, false), [])
letters_end [] (b ∷ rest) = Err (b ∷ rest)
letters_end (c ∷ cs) (b ∷ rest) = if b == 10 then Ok ((c ∷ cs, true), rest) else Err (b ∷ rest)

abbrev pub letters_at : List ℕ → Result ((List ℕ × Bool) × List ℕ) (List ℕ)
letters_at bytes = let n = prefix_len is_letter bytes in letters_end (take n bytes) (drop n bytes)

abbrev pub section_of : Head → List ℕ → Option (List ℕ) → PlainSection
section_of h letters answer = record { row = h.row; stage = h.stage; digest = h.digest; letters = letters; answer = answer }

abbrev pub open_of : Head → List ℕ → PlainOpen
open_of h letters = record { row = h.row; stage = h.stage; digest = h.digest; letters = letters }

-- the line of the answer
abbrev pub closing_at : Head → List ℕ → List ℕ → Result (Part × List ℕ) (List ℕ)
closing_at h letters bytes = made_at (λ (a : ⊤ × Option (List ℕ)). Closed (section_of h letters a.1)) (both_at (word_at (codes "answer ")) (λ u. answer_at)) bytes

abbrev pub letters_rest : Head → (List ℕ × Bool) × List ℕ → Result (Part × List ℕ) (List ℕ)
letters_rest h l = if l.0.1 then closing_at h l.0.0 l.1 else Ok (Open (open_of h l.0.0), l.1)

abbrev pub section_rest : Head → List ℕ → Result (Part × List ℕ) (List ℕ)
section_rest h bytes = letters_at bytes >>= letters_rest h

-- ---- the whole

abbrev pub lead_word : Lead → List ℕ
lead_word Ends = codes "end\n"
lead_word Begins = codes "section "

abbrev pub lead_at : List ℕ → Result (Lead × List ℕ) (List ℕ)
lead_at bytes = choice_at lead_word (Ends ∷ Begins ∷ []) bytes bytes

-- nothing stands behind the last line
abbrev pub end_of : List ℕ → Result (Part × List ℕ) (List ℕ)
end_of [] = Ok (End, [])
end_of (b ∷ rest) = Err (b ∷ rest)

abbrev pub led_at : Lead → List ℕ → Result (Part × List ℕ) (List ℕ)
led_at Ends bytes = end_of bytes
led_at Begins bytes = head_at bytes >>= λ h. section_rest h.0 h.1

unfoldable pub part_at : List ℕ → Result (Part × List ℕ) (List ℕ)
part_at bytes = lead_at bytes >>= λ m. led_at m.0 m.1

-- a part, and what is read behind a section
abbrev pub body_rest : List PlainSection → (PlainSection → List ℕ → Result PlainLog (List ℕ × ℕ)) → Result (Part × List ℕ) (List ℕ) → Result PlainLog (List ℕ × ℕ)
body_rest done others (Err stop) = Err (stop, length done)
body_rest done others (Ok (End, rest)) = Ok (record { closed = done; tail = None; ended = true })
body_rest done others (Ok (Open o, rest)) = Ok (record { closed = done; tail = Some o; ended = false })
body_rest done others (Ok (Closed s, rest)) = others s rest

-- Sections, fewer than `turns`, and what ends the text; a fault with the number of sections before it.
unfoldable pub body_at : ℕ → List PlainSection → List ℕ → Result PlainLog (List ℕ × ℕ)
body_at zero done bytes = Err (bytes, length done)
body_at (suc turns) done bytes = body_rest done (λ s rest. body_at turns (done ++ s ∷ []) rest) (part_at bytes)

abbrev pub log_rest : Result (⊤ × List ℕ) (List ℕ) → Result PlainLog (List ℕ × ℕ)
log_rest (Ok u) = body_at (length u.1) [] u.1
log_rest (Err stop) = Err (stop, 0)

unfoldable pub log_at : List ℕ → Result PlainLog (List ℕ × ℕ)
log_at bytes = log_rest (word_at (codes "fund-log 1\n") bytes)
