-- The log as it is written, piece by piece.
use Rattle.std.specs.Prelude.{ℕ, ◌++◌, List, codes}
use Rattle.std.specs.List.{flat_map}
use Rattle.fund_base.specs.Writer.{Feeds}
use Rattle.closing_log.proofs.Feeding.{feeds_then}
use Rattle.wide_plan.specs.LogText.{section_text, text_of}
use Rattle.wide_plan.specs.Rows.{PlainWideSection}

pub feeds_log : {W : Type 0} (holds : W → List ℕ → Type 0) (a b c d : W) (sections : List PlainWideSection) → Feeds holds a b (codes "wide-log 1\n") → Feeds holds b c (flat_map section_text sections) → Feeds holds c d (codes "end\n") → Feeds holds a d (text_of sections)
unfolding text_of
feeds_log holds a b c d sections p q r =
    feeds_then holds a b d (codes "wide-log 1\n") (flat_map section_text sections ++ codes "end\n") p
    (feeds_then holds b c d (flat_map section_text sections) (codes "end\n") q r)
