-- The lines of a script have one course, and are calls of the machine.
use Rattle.std.specs.Prelude.{ℕ, ◌≡◌, List, [], ◌∷◌, ◌++◌, Option, Some, None}
use Rattle.std.proofs.Common.{refl, sym, ap, ◌∙◌, subst, inl}
use Rattle.desk_machine.specs.Commands.{Command}
use Rattle.desk_machine.specs.Machine.{step_of}
use Rattle.desk_machine.specs.Runs.{Runs, Said}
use Rattle.desk_machine.specs.State.{PlainDesk}
use Rattle.command_desk.specs.Line.{Line, command_of, line_of}
use Rattle.command_desk.specs.Calls.{Shows, ShowsBy}
use Rattle.command_desk.specs.Course.{AnswersBy, Course}
use Rattle.command_desk.proofs.ReplyLaws.{one_line}

-- ---- one course

same_desk : (line : Line) (o : Option Command) (old new other : PlainDesk) (a b : List ℕ) → AnswersBy line o old a new → AnswersBy line o old b other → new ≡ other
same_desk line None old new other a b x y = x.1 ∙ sym y.1
same_desk line (Some command) old new other a b x y = x.next_is ∙ sym y.next_is

same_reply : (line : Line) (o : Option Command) (old new other : PlainDesk) (a b : List ℕ) → AnswersBy line o old a new → AnswersBy line o old b other → a ≡ b
same_reply line None old new other a b x y = x.0 ∙ sym y.0
same_reply line (Some command) old new other a b x y = x.printed_is ∙ one_line line x.reply y.reply (x.reply_is ∙ sym y.reply_is) ∙ sym y.printed_is

module _ (files : List ℕ → List ℕ) where
  -- the rest of the one, from where the other stands
  moved : (lines : List (List ℕ)) (mid here other : PlainDesk) (b : List ℕ) → mid ≡ here → Course files lines here b other → Course files lines mid b other
  moved lines mid here other b same c = subst (λ (d : PlainDesk). Course files lines d b other) (sym same) c

  pub one_desk : (lines : List (List ℕ)) (old new other : PlainDesk) (a b : List ℕ) → Course files lines old a new → Course files lines old b other → new ≡ other
  one_desk [] old new other a b x y = x.1 ∙ sym y.1
  one_desk (line ∷ lines) old new other a b x y =
      one_desk lines x.1 new other x.2 y.2 x.4 (moved lines x.1 y.1 other y.2 (same_desk (line_of line) (command_of files (line_of line)) old x.1 y.1 x.0 y.0 x.3.1 y.3.1) y.4)

  pub one_text : (lines : List (List ℕ)) (old new other : PlainDesk) (a b : List ℕ) → Course files lines old a new → Course files lines old b other → a ≡ b
  one_text [] old new other a b x y = x.0 ∙ sym y.0
  one_text (line ∷ lines) old new other a b x y =
      let first : x.0 ≡ y.0 = same_reply (line_of line) (command_of files (line_of line)) old x.1 y.1 x.0 y.0 x.3.1 y.3.1 in
      let rest : x.2 ≡ y.2 =
      one_text lines x.1 new other x.2 y.2 x.4 (moved lines x.1 y.1 other y.2 (same_desk (line_of line) (command_of files (line_of line)) old x.1 y.1 x.0 y.0 x.3.1 y.3.1) y.4) in
      x.5 ∙ ap (λ (l : List ℕ). l ++ x.2) first ∙ ap (λ (l : List ℕ). y.0 ++ l) rest ∙ sym y.5

  -- ---- calls

  with_line : (line : Line) (o : Option Command) (others : List Said → List ℕ → Type 0) (old mid new : PlainDesk) (first rest printed : List ℕ) (said : List Said) → AnswersBy line o old first mid → printed ≡ first ++ rest → others said rest → Runs mid said new
      → (all : List Said) × ShowsBy line o others all printed × Runs old all new
  with_line line None others old mid new first rest printed said a is shown runs = (said, (rest, shown, is ∙ ap (λ (l : List ℕ). l ++ rest) a.0), subst (λ (d : PlainDesk). Runs d said new) a.1 runs)
  with_line line (Some command) others old mid new first rest printed said a is shown runs = (
    record { command = command; reply = (step_of old command).reply } ∷ said,
    (a.reply, rest, refl, a.reply_is, shown, is ∙ ap (λ (l : List ℕ). l ++ rest) a.printed_is),
    (mid, inl (record { reply_is = refl; next_is = a.next_is }), runs),
  )

  pub are_calls : (lines : List (List ℕ)) (old new : PlainDesk) (printed : List ℕ) → Course files lines old printed new → (said : List Said) × Shows files lines said printed × Runs old said new
  are_calls [] old new printed c = ([], (refl, c.0), c.1)
  are_calls (line ∷ lines) old new printed c =
      let r = are_calls lines c.1 new c.2 c.4 in
      with_line (line_of line) (command_of files (line_of line)) (Shows files lines) old c.1 new c.0 c.2 printed r.0 c.3.1 c.5 r.1 r.2
