-- Lines are those of coins, one after another.
use Rattle.std.specs.Prelude.{ℕ, ◌≡◌, ◌<◌, ◌≤◌, ◌+◌, ◌↔◌, List, [], ◌∷◌, map, length, Some, None}
use Rattle.std.proofs.Common.{refl, sym, ap, subst, ◌∙◌, drop, get_or}
use Rattle.std.proofs.lemmas.List.{drop_all, nil_from_length}
use Rattle.coin_candidates.specs.declared.candidate.Candidate.{Candidate}
use Rattle.fund_report.specs.declared.report.InLine.{InLine}
use Rattle.report_check.specs.Naming.{Matches}
use Rattle.report_check.specs.Payment.{line_of}
use Rattle.report_check.proofs.SliceLaws.{drop_step}

abbrev pub AreLines : List InLine → List Candidate → Type 0
AreLines lines coins = lines ≡ map line_of coins

pub lines_more : (l : InLine) (ls : List InLine) (coins rest : List Candidate) → Matches l coins (Some rest) → (AreLines (l ∷ ls) coins ↔ AreLines ls rest)
lines_more l ls coins rest (c, is, line) =
    (λ e. let whole : l ∷ ls ≡ line_of c ∷ map line_of rest = e ∙ ap (map line_of) is in cc, λ e. ap (λ (x : InLine). x ∷ ls) line ∙ (ap (λ (xs : List InLine). line_of c ∷ xs) e ∙ sym (ap (map line_of) is)))

pub lines_stop : (l : InLine) (ls : List InLine) (coins : List Candidate) → Matches l coins None → AreLines (l ∷ ls) coins → ⊥
lines_stop l ls [] h e = cc
lines_stop l ls (c ∷ cs) h e = h (cc)

pub lines_end : (coins : List Candidate) → (coins ≡ [] ↔ AreLines [] coins)
lines_end [] = (λ e. refl, λ e. refl)
lines_end (c ∷ cs) = (λ e. absurd (cc), λ e. absurd (let x : [] ≡ line_of c ∷ map line_of cs = e in cc))

-- ---- along the lines

pub lines_next : (lines : List InLine) (coins rest next : List Candidate) (i : ℕ) (l : InLine) → i < length lines → l ≡ get_or lines i l → (AreLines (drop i lines) rest ↔ AreLines lines coins) → Matches l rest (Some next) → (AreLines (drop (i + 1) lines) next ↔ AreLines lines coins)
lines_next lines coins rest next i l below is h m =
    let more = lines_more l (drop (i + 1) lines) rest next m in
    let same = drop_step lines i l below is in
    (λ k. h.0 (subst (λ (ls : List InLine). AreLines ls rest) (sym same) (more.1 k)), λ k. more.0 (subst (λ (ls : List InLine). AreLines ls rest) same (h.1 k)))

pub lines_halt : (lines : List InLine) (coins rest : List Candidate) (i : ℕ) (l : InLine) → i < length lines → l ≡ get_or lines i l → (AreLines (drop i lines) rest ↔ AreLines lines coins) → Matches l rest None → AreLines lines coins → ⊥
lines_halt lines coins rest i l below is h m k =
    lines_stop l (drop (i + 1) lines) rest m (subst (λ (ls : List InLine). AreLines ls rest) (drop_step lines i l below is) (h.1 k))

pub lines_over : (lines : List InLine) (coins rest : List Candidate) (i : ℕ) → length lines ≤ i → (AreLines (drop i lines) rest ↔ AreLines lines coins) → (length rest ≡ 0 ↔ AreLines lines coins)
lines_over lines coins rest i end h =
    let ended = lines_end rest in
    let none = drop_all i lines end in (
      λ e. h.0 (subst (λ (ls : List InLine). AreLines ls rest) (sym none) (ended.0 (nil_from_length rest e))),
      λ k. ap length (ended.1 (subst (λ (ls : List InLine). AreLines ls rest) none (h.1 k))),
    )
