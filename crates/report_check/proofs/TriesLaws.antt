-- Tries are counted section by section.
use Rattle.std.specs.Prelude.{ℕ, ◌≡◌, ◌<◌, ◌≤◌, ◌+◌, ◌==◌, ◌↔◌, List, length, filter}
use Rattle.std.specs.List.{count_by}
use Rattle.std.proofs.Common.{ap, sym, ◌∙◌, arith, drop, get_or}
use Rattle.std.proofs.lemmas.List.{drop_all}
use Rattle.std.proofs.lemmas.List.Sums.{length-filter, sum_by-cons}
use Rattle.closing_log.specs.Log.{PlainSection}
use Rattle.report_check.specs.Proved.{tries_in}
use Rattle.report_check.proofs.SliceLaws.{drop_step}

-- how many tries the letters of a section tell of
abbrev pub tries_at : PlainSection → ℕ
tries_at s = length (filter (λ (b : ℕ). b == 73) s.letters)

-- a count of those that pass, and how many are left of a list of them
pub tries_counted : (letters : List ℕ) → count_by (λ (b : ℕ). b == 73) letters ≡ length (filter (λ (b : ℕ). b == 73) letters)
tries_counted letters = sym (length-filter (λ (b : ℕ). b == 73) letters)

-- those from a section on are its own and those behind it
tries_from : (sections : List PlainSection) (i : ℕ) (s : PlainSection) → i < length sections → s ≡ get_or sections i s → tries_in (drop i sections) ≡ tries_at s + tries_in (drop (i + 1) sections)
tries_from sections i s below is = ap tries_in (drop_step sections i s below is) ∙ sum_by-cons tries_at s (drop (i + 1) sections)

pub tries_next : (tries left rest n : ℕ) (sections : List PlainSection) (i : ℕ) (s : PlainSection) → i < length sections → s ≡ get_or sections i s → (tries ≡ tries_in sections ↔ left ≡ tries_in (drop i sections)) → n ≡ tries_at s → rest + n ≡ left → (tries ≡ tries_in sections ↔ rest ≡ tries_in (drop (i + 1) sections))
tries_next tries left rest n sections i s below is h own sum =
    let all = tries_from sections i s below is in
    (λ e. let here = h.0 e in omega (arith, here, all, own, sum), λ e. h.1 (omega (arith, e, all, own, sum)))

pub tries_halt : (tries left n : ℕ) (sections : List PlainSection) (i : ℕ) (s : PlainSection) → i < length sections → s ≡ get_or sections i s → (tries ≡ tries_in sections ↔ left ≡ tries_in (drop i sections)) → n ≡ tries_at s → (n ≤ left → ⊥) → tries ≡ tries_in sections → ⊥
tries_halt tries left n sections i s below is h own less e = let all = tries_from sections i s below is in let here = h.0 e in less (omega (arith, here, all, own))

pub tries_over : (tries left : ℕ) (sections : List PlainSection) (i : ℕ) → length sections ≤ i → (tries ≡ tries_in sections ↔ left ≡ tries_in (drop i sections)) → (left ≡ 0 ↔ tries ≡ tries_in sections)
tries_over tries left sections i end h =
    let none : tries_in (drop i sections) ≡ 0 = ap tries_in (drop_all i sections end) in
    (λ e. h.1 (omega (arith, e, none)), λ e. let here = h.0 e in omega (arith, here, none))
