-- Writing one thing behind the other.
use Rattle.std.proofs.Common.{◌≡◌, ℕ, zero, suc, ◌-◌, ◌≤◌, min, List, [], ◌∷◌, ◌++◌, length, drop, sym, ap, subst, ◌∙◌, append_assoc, arith, inl, inr}
use Rattle.std.specs.Prelude.{codes}
use Rattle.std.specs.List.{flat_map}
use Rattle.std.proofs.lemmas.List.{length-append, drop-append-le, drop_all}
use Rattle.std.proofs.lemmas.Bool.{cases_lt}
use Rattle.hex.specs.Hex.{encode_lower}
use Rattle.fund_base.specs.Writer.{Feeds}
use Rattle.closing_log.specs.Behind.{KeepsBehind}
use Rattle.closing_log.specs.Log.{PlainSection, PlainLog}
use Rattle.closing_log.specs.LogText.{answer_text, head_text, section_text, ending_text, text_of}

pub feeds_then : {W : Type 0} (holds : W → List ℕ → Type 0) (a b c : W) (x y : List ℕ) → Feeds holds a b x → Feeds holds b c y → Feeds holds a c (x ++ y)
feeds_then holds a b c x y p q = record { feeds = λ m h. subst (holds c) (append_assoc m x y) (q.feeds (m ++ x) (p.feeds m h)) }

pub feeds_section : {W : Type 0} (holds : W → List ℕ → Type 0) (a b c d : W) (s t : PlainSection) (letters : List ℕ) → s ≡ t → letters ≡ s.letters → Feeds holds a b (head_text (encode_lower s.digest) s.row s.stage) → Feeds holds b c letters
    → Feeds holds c d (codes "\nanswer " ++ (answer_text s.answer ++ codes "\n")) → Feeds holds a d (section_text t)
feeds_section holds a b c d s t letters is same p q r =
    subst (λ (x : PlainSection). Feeds holds a d (section_text x)) is
    (feeds_then holds a b d (head_text (encode_lower s.digest) s.row s.stage) (s.letters ++ (codes "\nanswer " ++ (answer_text s.answer ++ codes "\n"))) p
    (feeds_then holds b c d s.letters (codes "\nanswer " ++ (answer_text s.answer ++ codes "\n")) (subst (λ (l : List ℕ). Feeds holds b c l) same q) r))

pub feeds_text : {W : Type 0} (holds : W → List ℕ → Type 0) (a b c d : W) (s t : PlainLog) (sections : List PlainSection) → s ≡ t → sections ≡ s.closed → Feeds holds a b (codes "fund-log 1\n") → Feeds holds b c (flat_map section_text sections)
    → Feeds holds c d (ending_text s.tail s.ended) → Feeds holds a d (text_of t)
unfolding text_of
feeds_text holds a b c d s t sections is same p q r =
    subst (λ (x : PlainLog). Feeds holds a d (text_of x)) is
    (feeds_then holds a b d (codes "fund-log 1\n") (flat_map section_text s.closed ++ ending_text s.tail s.ended) p
    (feeds_then holds b c d (flat_map section_text s.closed) (ending_text s.tail s.ended) (subst (λ (l : List PlainSection). Feeds holds b c (flat_map section_text l)) same q) r))

-- ---- the bytes behind a place

rest_behind : (from skip : ℕ) (taken bytes : List ℕ) → length taken ≤ from → skip ≡ min (from - length taken) (length bytes) → drop skip bytes ≡ drop from (taken ++ bytes)
rest_behind from skip [] bytes le is =
    elim (cases_lt from (length bytes)) [
      | inl lt ↦ ap (λ k. drop k bytes) (omega (arith, is))
      | inr long ↦ drop_all skip bytes (omega (arith, is)) ∙ sym (drop_all from bytes long)
    ]
rest_behind zero skip (c ∷ taken) bytes le is = absurd (omega arith)
rest_behind (suc from) skip (c ∷ taken) bytes le is = rest_behind from skip taken bytes (omega arith) (omega (arith, is))

pub keeps_more : (kept more : List ℕ) (left pass : ℕ) (bytes m : List ℕ) → more ≡ drop pass bytes → pass ≡ min left (length bytes) → KeepsBehind kept left m → KeepsBehind (kept ++ more) (left - pass) (m ++ bytes)
keeps_more kept more left pass bytes [] more-is pass-is keeps = absurd keeps
keeps_more kept more left pass bytes (from ∷ taken) more-is pass-is keeps = (
  elim (cases_lt (length taken) from) [
    | inl lt ↦
        let none : drop from taken ≡ [] = drop_all from taken (omega arith) in
        ap (λ t. t ++ more) (keeps.0 ∙ none) ∙ more-is ∙ rest_behind from pass taken bytes (omega arith) (omega (arith, pass-is, keeps.1))
    | inr le ↦
        let nothing : pass ≡ 0 = omega (arith, pass-is, keeps.1) in
        ap (λ t. t ++ more) keeps.0 ∙ ap (λ t. drop from taken ++ t) (more-is ∙ ap (λ k. drop k bytes) nothing) ∙ sym (drop-append-le from taken bytes le)
  ],
  omega (arith, pass-is, keeps.1, length-append taken bytes),
)
