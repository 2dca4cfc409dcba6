-- The calls of a script's lines are given bytes, and a script's desk keeps what the laws of desks ask for.
use Rattle.std.specs.Prelude.{ℕ, ◌≡◌, List, [], ◌∷◌, All, Some}
use Rattle.std.proofs.Common.{sym, ap, subst}
use Rattle.fund_base.specs.Cursor.{IsBytes}
use Rattle.command_end.specs.Names.{Sources}
use Rattle.desk_machine.specs.Commands.{Command}
use Rattle.desk_machine.specs.Runs.{Runs, Said}
use Rattle.desk_machine.specs.State.{PlainDesk}
use Rattle.fund_files.specs.Chain.{chain_from}
use Rattle.desk_laws.proofs.DeskLaws.{IsKept, new_kept}
use Rattle.checked_runs.proofs.ChainRuleLaws.{chain_booked}
use Rattle.desk_laws.specs.Claimed.{HasBytes, HaveBytes, IsBooked, IsClaimed}
use Rattle.command_desk.proofs.CallLaws.{are_calls}
use Rattle.command_desk.specs.Calls.{Shows, ShowsBy}
use Rattle.command_desk.specs.Course.{Course}
use Rattle.command_desk.specs.Line.{Line, Open, Turn, Commit, Close, Release, Blocks, Pending, Other, command_of, line_of}
use Rattle.command_desk.specs.Script.{lines_of}
use Rattle.command_desk.specs.Starts.{StartsFrom}

pub is_booked : (files : List ℕ → List ℕ) (s : Sources) (script text : List ℕ) (d : PlainDesk) → StartsFrom (Unit {0}) files s script text d → IsBooked d.held
is_booked files s script text d h =
    let same : d.held ≡ chain_from h.wallet h.blocks = ap (λ (x : PlainDesk). x.held) h.desk_is in
    subst IsBooked (sym same) (chain_booked (files s.wallet) (files s.blocks) h.wallet h.blocks (h.inputs tt).chain)

module _ (files : List ℕ → List ℕ) (fit : (name : List ℕ) → IsBytes (files name)) where
  -- the call of a line, by its command
  by_call : (line : Line) (command : Command) (others : List Said → List ℕ → Type 0) (said : List Said) (printed : List ℕ) → HasBytes command → ((rest : List Said) (p : List ℕ) → others rest p → HaveBytes rest)
      → ShowsBy line (Some command) others said printed → HaveBytes said
  by_call line command others [] printed bytes each h = absurd h
  by_call line command others (s ∷ said) printed bytes each h = (subst HasBytes (sym h.2) bytes, each said h.1 h.4)

  by_line : (line : Line) (others : List Said → List ℕ → Type 0) (said : List Said) (printed : List ℕ) → ((rest : List Said) (p : List ℕ) → others rest p → HaveBytes rest)
      → ShowsBy line (command_of files line) others said printed → HaveBytes said
  by_line (Open name file) others said printed each h = by_call (Open name file) _ others said printed (fit file) each h
  by_line (Turn name tries) others said printed each h = by_call (Turn name tries) _ others said printed tt each h
  by_line (Commit name) others said printed each h = by_call (Commit name) _ others said printed tt each h
  by_line (Close name) others said printed each h = by_call (Close name) _ others said printed tt each h
  by_line (Release txid) others said printed each h = by_call (Release txid) _ others said printed tt each h
  by_line (Blocks file) others said printed each h = by_call (Blocks file) _ others said printed (fit file) each h
  by_line (Pending hex) others said printed each h = by_call (Pending hex) _ others said printed tt each h
  by_line Other others said printed each h = each said h.0 h.1

  fed : (lines : List (List ℕ)) (said : List Said) (printed : List ℕ) → Shows files lines said printed → HaveBytes said
  fed [] said printed h = subst HaveBytes (sym h.0) tt
  fed (line ∷ lines) said printed h = by_line (line_of line) (Shows files lines) said printed (fed lines) h

pub are_fed : (files : List ℕ → List ℕ) (lines : List (List ℕ)) (d new : PlainDesk) (printed : List ℕ) → ((name : List ℕ) → IsBytes (files name)) → Course files lines d printed new
    → (said : List Said) × Shows files lines said printed × Runs d said new × HaveBytes said
are_fed files lines d new printed fit course = let r = are_calls files lines d new printed course in (r.0, r.1, r.2, fed files fit lines r.0 printed r.1)

kept : (files : List ℕ → List ℕ) (s : Sources) (script text : List ℕ) (d new : PlainDesk) (printed : List ℕ) → ((name : List ℕ) → IsBytes (files name))
    → StartsFrom (Unit {0}) files s script text d → Course files (lines_of text) d printed new → IsKept new
kept files s script text d new printed fit h course =
    let r = are_fed files (lines_of text) d new printed fit course in
    let booked = chain_booked (files s.wallet) (files s.blocks) h.wallet h.blocks (h.inputs tt).chain in
    new_kept (chain_from h.wallet h.blocks) new r.0 booked r.3 (subst (λ (x : PlainDesk). Runs x r.0 new) h.desk_is r.2)

pub are_claimed : (files : List ℕ → List ℕ) (s : Sources) (script text : List ℕ) (d new : PlainDesk) (printed : List ℕ) → ((name : List ℕ) → IsBytes (files name))
    → StartsFrom (Unit {0}) files s script text d → Course files (lines_of text) d printed new → All IsClaimed new.jobs
are_claimed files s script text d new printed fit h course = (kept files s script text d new printed fit h course).jobs

pub stays_booked : (files : List ℕ → List ℕ) (s : Sources) (script text : List ℕ) (d new : PlainDesk) (printed : List ℕ) → ((name : List ℕ) → IsBytes (files name))
    → StartsFrom (Unit {0}) files s script text d → Course files (lines_of text) d printed new → IsBooked new.held
stays_booked files s script text d new printed fit h course = (kept files s script text d new printed fit h course).held
