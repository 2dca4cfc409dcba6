-- How a run ends at a line that isn't done.
use Rattle.std.specs.Prelude.{ℕ, ◌≡◌, List, [], ◌∷◌, ◌++◌, Bool, true, false, codes}
use Rattle.std.proofs.Common.{refl, sym, ap, ◌∙◌, subst, inl, inr}
use Rattle.fund_shelf.specs.Causes.{Asks, HasPart, Rose, ShelfView, SinkView}
use Rattle.fund_shelf.proofs.Outside.{rose_earlier}
use Rattle.command_end.proofs.WholeLaws.{not_whole, wanting_stops}
use Rattle.command_end.specs.AnswerLines.{IsWanting}
use Rattle.command_end.specs.Lines.{GotLine, fault_line}
use Rattle.command_end.specs.Printed.{TellsWhole}
use Rattle.command_end.specs.declared.status.Status.{Status}
use Rattle.command_end.specs.declared.status.Status.TheVariants as statuses
use Rattle.desk_machine.specs.State.{PlainDesk}
use Rattle.command_desk.specs.Line.{Line, line_of, wanted}
use Rattle.command_desk.specs.Script.{lines_of}
use Rattle.command_desk.specs.Asked.{file_in}
use Rattle.command_desk.specs.Course.{Answers, IsCommandLine, IsLong, file_name, long_word}
use Rattle.command_desk.specs.Halts.{EndsAt, EndsFirst, HaltsLine, HasPutPart, IsUnreadLine, status_of}
use Rattle.command_desk.specs.Running.{GotBefore, RunsOn, StandsAt, StopsAt, StopsInside}
use Rattle.command_desk.specs.declared.halt.Halt.{Halt}
use Rattle.command_desk.specs.declared.halt.Halt.TheVariants as halts
use Rattle.command_desk.proofs.CourseLaws.{names_file}
use Rattle.command_desk.proofs.SoFar.{IsFirst, SoFar, stands_at}

module _ (told_files told : Type 0) (text : List ℕ) (d : PlainDesk) (shelf : ShelfView) (sink : SinkView) (rest : List ℕ) (now : PlainDesk) (is_first : Bool) (shelf' : ShelfView) (sink' : SinkView) (words behind : List ℕ) (h : SoFar told_files told text d shelf sink rest now is_first shelf' sink') (next : lines_of rest ≡ words ∷ lines_of behind) (shelf'' : ShelfView) (sink'' sink''' : SinkView) (asked : told_files → Asks (file_in (wanted (line_of words))) shelf'.asked shelf''.asked) where
  StandsThere : Type 0
  StandsThere = StandsAt told_files [] text d shelf shelf'' h.front words h.printed now

  stands_there : StandsThere
  unfolding StandsThere
  stands_there = stands_at told_files told text d shelf sink rest now is_first shelf' sink' words behind h next shelf'' asked

  StopsWith : List ℕ → Type 0
  StopsWith said = StopsAt told_files told [] text d shelf shelf'' sink sink''' words said

  EndsAs : Status → Type 0
  EndsAs result = RunsOn told_files told [] text d shelf shelf'' sink sink''' result

  -- ---- before the reply

  got_first : (said : List ℕ) (front : List (List ℕ)) → front ≡ [] → (told → GotLine (fault_line said) sink sink''') → told → GotBefore said front h.printed sink sink'''
  got_first said front none got t = subst (λ (ls : List (List ℕ)). GotBefore said ls h.printed sink sink''') (sym none) (got t)

  got_later : (said : List ℕ) (front : List (List ℕ)) → ((line : List ℕ) × (lines : List (List ℕ)) × (front ≡ line ∷ lines)) → (told → sink'''.written ≡ sink.written ++ h.printed) → told → GotBefore said front h.printed sink sink'''
  got_later said front some got t = subst (λ (ls : List (List ℕ)). GotBefore said ls h.printed sink sink''') (sym some.2) (got t)

  stops : (said : List ℕ) → (told → GotBefore said h.front h.printed sink sink''') → StopsWith said
  unfolding StopsWith StandsThere
  stops said got = record { front = h.front; printed = h.printed; new = now; stands = stands_there; got = got }

  -- the line was put where no reply was printed: the sink was as at the beginning
  line_first : (said : List ℕ) → IsFirst true h.front sink sink' → sink'' ≡ sink' → (told → GotLine (fault_line said) sink'' sink''') → StopsWith said
  line_first said first same got = stops said (got_first said h.front first.0 (λ t. subst (λ (v : SinkView). GotLine (fault_line said) v sink''') (same ∙ first.1) (got t)))

  line_later : (said : List ℕ) → IsFirst false h.front sink sink' → sink'' ≡ sink' → sink''' ≡ sink'' → StopsWith said
  line_later said some same end = stops said (got_later said h.front some (λ t. ap (λ (v : SinkView). v.written) (end ∙ same) ∙ h.written t))

  want_ends : (result : Status) → IsCommandLine (line_of words) → IsFirst true h.front sink sink' → sink'' ≡ sink' → IsWanting told sink'' sink''' result → EndsAs result
  unfolding EndsAs StopsWith
  want_ends result order first same w = subst EndsAs (sym w.0) (inl (words, order, line_first (codes "memory") first same w.1))

  unread : IsUnreadLine (line_of words) shelf' shelf'' → StopsWith (codes "read " ++ file_name (line_of words)) → EndsAs statuses.ReadFault
  unfolding EndsAs StopsWith
  unread x s =
      (words, x.0, x.1, rose_earlier (shelf.reads x.0.file) (shelf'.reads x.0.file) (shelf''.reads x.0.file) (h.frame.reads x.0.file) x.2, subst StopsWith (ap (λ (name : List ℕ). codes "read " ++ name) (names_file (line_of words) x.0 x.1)) s)

  long : (told_files → IsLong shelf'.files (line_of words)) → StopsWith (codes "limit " ++ long_word (line_of words)) → EndsAs statuses.Limit
  unfolding EndsAs StopsWith
  long x s = (words, (λ t. subst (λ (files : List ℕ → List ℕ). IsLong files (line_of words)) (h.frame.same t) (x t)), s)

  -- ---- in the reply

  inside : sink''' ≡ sink'' → HasPutPart told_files told shelf'.files (line_of words) now sink' sink'' → StopsInside told_files told [] text d shelf shelf'' sink sink'''
  unfolding StandsThere
  inside end p = record {
    front = h.front;
    line = words;
    printed = h.printed;
    reply = p.reply;
    new = now;
    next = p.next;
    stands = stands_there;
    answers = λ t. subst (λ (files : List ℕ → List ℕ). Answers files (line_of words) now p.reply p.next) (h.frame.same t) (p.answers t);
    part = λ t.
        subst (λ (v : SinkView). HasPart (sink.written ++ h.printed) p.reply v.written) (sym end)
        (subst (λ (l : List ℕ). HasPart l p.reply sink''.written) (h.written t) (p.part t));
  }

  unwritten : (result : Status) → result ≡ statuses.WriteFault → sink''' ≡ sink'' → Rose sink'.faults sink''.faults → HasPutPart told_files told shelf'.files (line_of words) now sink' sink'' → EndsAs result
  unfolding EndsAs
  unwritten result is end rose p =
      subst EndsAs (sym is)
      (rose_earlier sink.faults sink'.faults sink'''.faults h.counts.faults (subst (λ (v : SinkView). Rose sink'.faults v.faults) (sym end) rose), inside end p)

  full : (result : Status) → result ≡ statuses.Memory → sink''' ≡ sink'' → Rose sink'.refusals sink''.refusals → HasPutPart told_files told shelf'.files (line_of words) now sink' sink'' → EndsAs result
  unfolding EndsAs
  full result is end rose p =
      subst EndsAs (sym is)
      (inr (rose_earlier sink.refusals sink'.refusals sink'''.refusals h.counts.refusals (subst (λ (v : SinkView). Rose sink'.refusals v.refusals) (sym end) rose), inside end p))

  -- ---- all

  first_ends : (halt : Halt) (result : Status) → IsFirst true h.front sink sink' → HaltsLine told_files told (line_of words) now shelf' shelf'' sink' sink'' halt → EndsAt told (line_of words) halt true sink'' sink''' result → EndsAs result
  first_ends halts.Unread result first x a = subst EndsAs (sym a.0) (unread x.0 (line_first (codes "read " ++ file_name (line_of words)) first x.1 a.1))
  first_ends halts.TooLong result first x a = subst EndsAs (sym a.0) (long x.0 (line_first (codes "limit " ++ long_word (line_of words)) first x.1 a.1))
  first_ends halts.Unwritten result first x e = unwritten result e.0 e.1 x.0 x.1
  first_ends halts.Full result first x e = full result e.0 e.1 x.0 x.1
  first_ends halts.Memory result first x w = want_ends result x.0 first x.1 w

  later_ends : (halt : Halt) (result : Status) → IsFirst false h.front sink sink' → HaltsLine told_files told (line_of words) now shelf' shelf'' sink' sink'' halt → EndsAt told (line_of words) halt false sink'' sink''' result → EndsAs result
  unfolding EndsAs StopsWith
  later_ends halts.Unread result some x e = subst EndsAs (sym e.0) (unread x.0 (line_later (codes "read " ++ file_name (line_of words)) some x.1 e.1))
  later_ends halts.TooLong result some x e = subst EndsAs (sym e.0) (long x.0 (line_later (codes "limit " ++ long_word (line_of words)) some x.1 e.1))
  later_ends halts.Unwritten result some x e = unwritten result e.0 e.1 x.0 x.1
  later_ends halts.Full result some x e = full result e.0 e.1 x.0 x.1
  later_ends halts.Memory result some x e = subst EndsAs (sym e.0) (inl (words, x.0, line_later (codes "memory") some x.1 e.1))

  by_first : (b : Bool) → is_first ≡ b → (halt : Halt) (result : Status) → HaltsLine told_files told (line_of words) now shelf' shelf'' sink' sink'' halt → EndsAt told (line_of words) halt is_first sink'' sink''' result → EndsAs result
  by_first true is halt result x e =
      first_ends halt result (subst (λ (b : Bool). IsFirst b h.front sink sink') is h.first) x (subst (λ (b : Bool). EndsAt told (line_of words) halt b sink'' sink''' result) is e)
  by_first false is halt result x e =
      later_ends halt result (subst (λ (b : Bool). IsFirst b h.front sink sink') is h.first) x (subst (λ (b : Bool). EndsAt told (line_of words) halt b sink'' sink''' result) is e)

  pub halt_ends : (halt : Halt) (result : Status) → HaltsLine told_files told (line_of words) now shelf' shelf'' sink' sink'' halt → EndsAt told (line_of words) halt is_first sink'' sink''' result → RunsOn told_files told [] text d shelf shelf'' sink sink''' result
  unfolding EndsAs
  halt_ends halt result x e = by_first is_first refl halt result x e

-- ---- no line that isn't done is told as done

status_untold : (halt : Halt) → TellsWhole (status_of halt) → ⊥
status_untold halts.Unread whole = whole
status_untold halts.TooLong whole = whole
status_untold halts.Unwritten whole = whole
status_untold halts.Full whole = whole
status_untold halts.Memory whole = whole

first_untold : (told : Type 0) (line : Line) (halt : Halt) (sink sink' : SinkView) (result : Status) → EndsFirst told line halt sink sink' result → TellsWhole result → ⊥
first_untold told line halts.Unread sink sink' result a whole = not_whole statuses.ReadFault result (λ w. w) a.0 whole
first_untold told line halts.TooLong sink sink' result a whole = not_whole statuses.Limit result (λ w. w) a.0 whole
first_untold told line halts.Unwritten sink sink' result a whole = not_whole statuses.WriteFault result (λ w. w) a.0 whole
first_untold told line halts.Full sink sink' result a whole = not_whole statuses.Memory result (λ w. w) a.0 whole
first_untold told line halts.Memory sink sink' result a whole = wanting_stops told sink sink' result a whole

pub end_untold : (told : Type 0) (line : Line) (halt : Halt) (is_first : Bool) (sink sink' : SinkView) (result : Status) → EndsAt told line halt is_first sink sink' result → TellsWhole result → ⊥
end_untold told line halt true sink sink' result a whole = first_untold told line halt sink sink' result a whole
end_untold told line halt false sink sink' result a whole = not_whole (status_of halt) result (status_untold halt) a.0 whole
