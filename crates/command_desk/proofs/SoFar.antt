-- What holds before each line of a script.
use Rattle.std.specs.Prelude.{ℕ, ◌≡◌, List, [], ◌∷◌, ◌++◌, Bool, true, false, length}
use Rattle.std.proofs.Common.{refl, sym, ap, ◌∙◌, subst, append_assoc, arith}
use Rattle.std.proofs.lemmas.List.{append-nil}
use Rattle.fund_shelf.specs.Causes.{Asks, CountsNeverFall, OnlyReads, ShelfView, SinkView}
use Rattle.fund_shelf.proofs.Asking.{asks_first, asks_then}
use Rattle.fund_files.proofs.FrameLaws.{only_reads_on}
use Rattle.command_end.proofs.WholeLaws.{took_on}
use Rattle.command_end.specs.Printed.{TookAll}
use Rattle.desk_machine.specs.State.{PlainDesk}
use Rattle.command_desk.specs.Line.{line_of, wanted}
use Rattle.command_desk.specs.Script.{lines_of}
use Rattle.command_desk.specs.Asked.{file_in, files_in}
use Rattle.command_desk.specs.Course.{Answers, Course}
use Rattle.command_desk.specs.Halts.{IsDoneLine}
use Rattle.command_desk.specs.Running.{RunsDone, StandsAt}
use Rattle.command_desk.proofs.CourseLaws.{course_more, files_append, files_more}

-- no line is done yet, and the sink is as it was; or some are
abbrev pub IsFirst : Bool → List (List ℕ) → SinkView → SinkView → Type 0
IsFirst true front sink sink' = (front ≡ []) × (sink' ≡ sink)
IsFirst false front sink sink' = (line : List ℕ) × (lines : List (List ℕ)) × (front ≡ line ∷ lines)

-- Some lines are done. To them this was printed, which stands in the sink, and the desk was led so far; their files alone were
-- asked for.
pub record SoFar (told_files told : Type 0) (text : List ℕ) (d : PlainDesk) (shelf : ShelfView) (sink : SinkView) (rest : List ℕ) (now : PlainDesk) (is_first : Bool) (shelf' : ShelfView) (sink' : SinkView) : Type 0 where
  pub front : List (List ℕ)
  pub printed : List ℕ
  pub parts : lines_of text ≡ front ++ lines_of rest
  pub first : IsFirst is_first front sink sink'
  pub course : told_files → Course shelf.files front d printed now
  pub written : told → sink'.written ≡ sink.written ++ printed
  pub asked : told_files → Asks (files_in front) shelf.asked shelf'.asked
  pub frame : OnlyReads told_files shelf shelf'
  pub all_read : shelf'.reads ≡ shelf.reads
  pub counts : CountsNeverFall sink sink'
  pub took : TookAll sink sink'

some_before : (front : List (List ℕ)) (line : List ℕ) → (l : List ℕ) × (lines : List (List ℕ)) × (front ++ line ∷ [] ≡ l ∷ lines)
some_before [] line = (line, [], refl)
some_before (l ∷ front) line = (l, front ++ line ∷ [], refl)

-- a line is at hand
module _ (told_files told : Type 0) (text : List ℕ) (d : PlainDesk) (shelf : ShelfView) (sink : SinkView) (rest : List ℕ) (now : PlainDesk) (is_first : Bool) (shelf' : ShelfView) (sink' : SinkView) (words behind : List ℕ) (h : SoFar told_files told text d shelf sink rest now is_first shelf' sink') (next : lines_of rest ≡ words ∷ lines_of behind) where
  pub asked_with : (shelf'' : ShelfView) → (told_files → Asks (file_in (wanted (line_of words))) shelf'.asked shelf''.asked) → told_files → Asks (files_in (h.front ++ words ∷ [])) shelf.asked shelf''.asked
  asked_with shelf'' asked t =
      subst (λ (names : List (List ℕ)). Asks names shelf.asked shelf''.asked) (sym (files_more h.front words))
      (asks_then (files_in h.front) (file_in (wanted (line_of words))) shelf.asked shelf'.asked shelf''.asked (h.asked t) (asked t))

  -- what the whole asks for
  pub asked_all : (shelf'' : ShelfView) → (told_files → Asks (file_in (wanted (line_of words))) shelf'.asked shelf''.asked) → told_files → Asks (files_in (lines_of text)) shelf.asked shelf''.asked
  asked_all shelf'' asked t =
      subst (λ (names : List (List ℕ)). Asks names shelf.asked shelf''.asked)
      (sym (ap files_in (h.parts ∙ ap (λ (ls : List (List ℕ)). h.front ++ ls) next ∙ sym (append_assoc h.front (words ∷ []) (lines_of behind))) ∙ files_append (h.front ++ words ∷ []) (lines_of behind)))
      (asks_first (files_in (h.front ++ words ∷ [])) (files_in (lines_of behind)) shelf.asked shelf''.asked (asked_with shelf'' asked t))

  pub stands_at : (shelf'' : ShelfView) → (told_files → Asks (file_in (wanted (line_of words))) shelf'.asked shelf''.asked) → StandsAt told_files [] text d shelf shelf'' h.front words h.printed now
  stands_at shelf'' asked = record {
    rest = lines_of behind;
    parts = h.parts ∙ ap (λ (ls : List (List ℕ)). h.front ++ ls) next;
    course = h.course;
    asked = asked_with shelf'' asked;
  }

  pub so_far_more : (e : PlainDesk) (shelf'' : ShelfView) (sink'' : SinkView) → IsDoneLine told_files told shelf'.files (line_of words) now e sink' sink'' → (told_files → Asks (file_in (wanted (line_of words))) shelf'.asked shelf''.asked)
      → OnlyReads told_files shelf' shelf'' → shelf''.reads ≡ shelf'.reads → CountsNeverFall sink' sink'' → TookAll sink' sink'' → SoFar told_files told text d shelf sink behind e false shelf'' sink''
  so_far_more e shelf'' sink'' done asked frame all_read counts took = record {
    front = h.front ++ words ∷ [];
    printed = h.printed ++ done.printed;
    parts = h.parts ∙ ap (λ (ls : List (List ℕ)). h.front ++ ls) next ∙ sym (append_assoc h.front (words ∷ []) (lines_of behind));
    first = some_before h.front words;
    course = λ t. course_more shelf.files h.front words d now e h.printed done.printed (h.course t) (subst (λ (files : List ℕ → List ℕ). Answers files (line_of words) now done.printed e) (h.frame.same t) (done.answers t));
    written = λ t. done.written t ∙ ap (λ (l : List ℕ). l ++ done.printed) (h.written t) ∙ append_assoc sink.written h.printed done.printed;
    asked = asked_with shelf'' asked;
    frame = only_reads_on told_files shelf shelf' shelf'' h.frame frame;
    all_read = all_read ∙ h.all_read;
    counts = record { faults = omega (arith, h.counts.faults, counts.faults); refusals = omega (arith, h.counts.refusals, counts.refusals) };
    took = took_on sink sink' sink'' h.took took;
  }

-- no line is left
pub no_lines : (rest : List ℕ) → length rest ≡ 0 → lines_of rest ≡ []
unfolding lines_of
no_lines [] is = refl
no_lines (b ∷ rest) is = absurd (omega (arith, is))

all_lines : (text rest : List ℕ) (front : List (List ℕ)) → lines_of text ≡ front ++ lines_of rest → lines_of rest ≡ [] → front ≡ lines_of text
all_lines text rest front parts none = sym (parts ∙ ap (λ (ls : List (List ℕ)). front ++ ls) none ∙ append-nil front)

module _ (told_files told : Type 0) (text : List ℕ) (d : PlainDesk) (shelf : ShelfView) (sink : SinkView) (rest : List ℕ) (now : PlainDesk) (is_first : Bool) (shelf' : ShelfView) (sink' : SinkView) (h : SoFar told_files told text d shelf sink rest now is_first shelf' sink') (none : lines_of rest ≡ []) where
  pub so_far_all : RunsDone told_files told text d shelf sink sink'
  so_far_all = (h.printed, now, (λ t. subst (λ (lines : List (List ℕ)). Course shelf.files lines d h.printed now) (all_lines text rest h.front h.parts none) (h.course t)), h.written)

  pub asked_whole : told_files → Asks (files_in (lines_of text)) shelf.asked shelf'.asked
  asked_whole t = subst (λ (lines : List (List ℕ)). Asks (files_in lines) shelf.asked shelf'.asked) (all_lines text rest h.front h.parts none) (h.asked t)
