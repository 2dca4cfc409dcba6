-- What holds over a run of several calls of the outside.
use Rattle.std.proofs.Common.{◌≡◌, ◌≤◌, ℕ, ◌+◌, min, List, ◌++◌, length, take, sym, ◌∙◌, ap, arith, append_assoc}
use Rattle.std.proofs.Math.Seq.{take-append-add}
use Rattle.std.proofs.lemmas.List.{append-nil, take_all, take_min, take-append-le}
use Rattle.fund_shelf.specs.Causes.{Rose, HasPart}

-- a count that rose over the later part of a run rose over the whole
pub rose_earlier : (start middle end : ℕ) → start ≤ middle → Rose middle end → Rose start end
rose_earlier start middle end le rose = omega arith

-- a count that rose over the earlier part of a run rose over the whole
pub rose_later : (start middle end : ℕ) → middle ≤ end → Rose start middle → Rose start end
rose_later start middle end le rose = omega arith

-- a count that is 0 didn't rise
pub not_rose_zero : Rose 0 0 → ⊥
not_rose_zero rose = omega arith

-- nothing is a part of what is due
pub part_none : (before due now : List ℕ) → now ≡ before → HasPart before due now
part_none before due now same = (0, same ∙ sym (append-nil before))

-- all is a part of what is due
pub part_all : (before due now : List ℕ) → now ≡ before ++ due → HasPart before due now
part_all before due now is = (length due, is ∙ ap (λ (l : List ℕ). before ++ l) (sym (take_all (length due) due (omega arith))))

-- a part of what is due first is a part of the whole
pub part_first : (before first second now : List ℕ) → HasPart before first now → HasPart before (first ++ second) now
part_first before first second now part =
    let n = min part.0 (length first) in
    (n, part.1 ∙ ap (λ (l : List ℕ). before ++ l) (sym (take_min part.0 first) ∙ sym (take-append-le n first second (omega arith))))

-- what is due first whole, and behind it a part of the second, are a part of the whole
pub part_second : (before first second middle now : List ℕ) → middle ≡ before ++ first → HasPart middle second now → HasPart before (first ++ second) now
part_second before first second middle now is part = (
  length first + part.0,
  part.1
      ∙ ap (λ (l : List ℕ). l ++ take part.0 second) is
      ∙ append_assoc before first (take part.0 second)
      ∙ ap (λ (l : List ℕ). before ++ l) (sym (take-append-add first second part.0)),
)
