-- The words of marks and stages, and those before coins, are read exactly.
use Rattle.std.proofs.Common.{◌≡◌, ℕ, List, [], ◌∷◌, ◌++◌, Ok, refl}
use Rattle.std.specs.Prelude.{codes}
use Rattle.std.specs.List.{AllByRecursion}
use Rattle.closing_log.specs.declared.log.Stage.{Stage}
use Rattle.closing_log.specs.declared.log.Stage.TheVariants.{Presets, Changeless, LeanBig, Draw, LeanSmall, Wide}
use Rattle.closing_log.specs.declared.mark.Mark.{Mark}
use Rattle.closing_log.specs.declared.mark.Mark.TheVariants.{Exhausted, Partial, Drawn, Given}
use Rattle.closing_log.specs.LogText.{stage_word}
use Rattle.closing_log.specs.MarkWord.{mark_word}
use Rattle.closing_log.specs.Reading.{choice_at, word_at}
use Rattle.closing_log.proofs.Exactness.{Piece}
use Rattle.closing_log.proofs.WordLaws.{IsOneOf, choice_piece}
use Rattle.fund_report.specs.declared.parts.Next.{Next}
use Rattle.fund_report.specs.declared.parts.Next.TheVariants.{Coin, Weight}
use Rattle.fund_report.specs.NextWord.{next_word}
use Rattle.fund_report.specs.Reading.{mark_at, marks, next_at, stage_at, stages}
use Rattle.fund_report.specs.ReportText.{IsRead}

-- ---- marks

abbrev pub AnyMark : Mark → Type 0
AnyMark m = Unit {0}

each_mark : (P : Mark → Type 0) → AllByRecursion P marks → (m : Mark) → AnyMark m → P m
each_mark P all Exhausted is = all.0
each_mark P all Partial is = all.1.0
each_mark P all Drawn is = all.1.1.0
each_mark P all Given is = all.1.1.1.0

mark_again : (m : Mark) (rest : List ℕ) → AnyMark m → choice_at mark_word marks (mark_word m ++ rest) (mark_word m ++ rest) ≡ Ok (m, rest)
unfolding choice_at word_at
mark_again Exhausted rest is = refl
mark_again Partial rest is = refl
mark_again Drawn rest is = refl
mark_again Given rest is = refl

pub mark_piece : Piece mark_at (IsOneOf mark_word AnyMark)
mark_piece = choice_piece mark_word AnyMark marks (tt, (tt, (tt, (tt, tt)))) each_mark mark_again (record { more = codes "given"; value = Given; means = (tt, refl) })

-- ---- stages

each_stage : (P : Stage → Type 0) → AllByRecursion P stages → (s : Stage) → IsRead s → P s
each_stage P all Presets is = all.0
each_stage P all Changeless is = all.1.0
each_stage P all LeanBig is = all.1.1.0
each_stage P all Draw is = all.1.1.1.0
each_stage P all LeanSmall is = all.1.1.1.1.0
each_stage P all Wide is = absurd is

stage_again : (s : Stage) (rest : List ℕ) → IsRead s → choice_at stage_word stages (stage_word s ++ rest) (stage_word s ++ rest) ≡ Ok (s, rest)
unfolding choice_at word_at
stage_again Presets rest is = refl
stage_again Changeless rest is = refl
stage_again LeanBig rest is = refl
stage_again Draw rest is = refl
stage_again LeanSmall rest is = refl
stage_again Wide rest is = absurd is

pub stage_piece : Piece stage_at (IsOneOf stage_word IsRead)
stage_piece = choice_piece stage_word IsRead stages (tt, (tt, (tt, (tt, (tt, tt))))) each_stage stage_again (record { more = codes "draw"; value = Draw; means = (tt, refl) })

-- ---- what stands after a coin

abbrev pub AnyNext : Next → Type 0
AnyNext n = Unit {0}

each_next : (P : Next → Type 0) → AllByRecursion P (Coin ∷ Weight ∷ []) → (n : Next) → AnyNext n → P n
each_next P all Coin is = all.0
each_next P all Weight is = all.1.0

next_again : (n : Next) (rest : List ℕ) → AnyNext n → choice_at next_word (Coin ∷ Weight ∷ []) (next_word n ++ rest) (next_word n ++ rest) ≡ Ok (n, rest)
unfolding choice_at word_at
next_again Coin rest is = refl
next_again Weight rest is = refl

pub next_piece : Piece next_at (IsOneOf next_word AnyNext)
next_piece = choice_piece next_word AnyNext (Coin ∷ Weight ∷ []) (tt, (tt, tt)) each_next next_again (record { more = codes "in "; value = Coin; means = (tt, refl) })
