-- How a desk ends is what its files come to, where nothing failed.
use Rattle.std.specs.Prelude.{ℕ, ◌≡◌, ◌≤◌, ◌<◌, ◌⊎◌, ◌||◌, List, [], ◌∷◌, ◌++◌, Bool, true, false, Contains, length, nat_lt, Err}
use Rattle.std.specs.List.{list_any}
use Rattle.std.proofs.Common.{refl, sym, ap, ◌∙◌, subst, inl, inr, cond}
use Rattle.std.proofs.lemmas.Bool.{cond-false, cond-true, le-ltb, lt-ltb}
use Rattle.fund_shelf.specs.Causes.{ShelfView, SinkView}
use Rattle.block_feed.specs.Block.{ChainBlock}
use Rattle.wallet_text.specs.PlainWallet.{PlainWallet}
use Rattle.fund_files.proofs.ChainLaws.{chain_held}
use Rattle.fund_files.specs.Cause.{FileCause, cause_of}
use Rattle.fund_files.specs.Contents.{HasChain}
use Rattle.fund_files.specs.Outcome.{chain_of}
use Rattle.command_end.specs.Names.{Sources}
use Rattle.command_end.specs.declared.status.Status.{Status}
use Rattle.command_end.specs.declared.status.Status.TheVariants as statuses
use Rattle.desk_machine.specs.State.{PlainDesk}
use Rattle.command_desk.specs.Script.{lines_of}
use Rattle.command_desk.specs.Asked.{first_names}
use Rattle.command_desk.specs.Outcome.{Outcome, Refused, TooLong, Halted, Replied, IsRefusal, by_chain, by_lines, by_script, outcome_of, is_long, status_of}
use Rattle.command_desk.specs.Running.{StopsInside}
use Rattle.command_desk.specs.Starts.{StartsFrom}
use Rattle.command_desk.specs.Statuses.{Ends, EndsRunning, NoneFailed, NoneUnread}
use Rattle.command_desk.proofs.CourseLaws.{first_begun, first_is_long, first_within, long_is, none_long, some_long, stands_there}

-- ---- by the lines

two_tests : (first later b : Bool) → (first || later) ≡ b → status_of (cond first TooLong (cond later Halted Replied)) ≡ cond b statuses.Limit statuses.Done
two_tests true later b is = ap (λ (x : Bool). cond x statuses.Limit statuses.Done) is
two_tests false true b is = ap (λ (x : Bool). cond x statuses.Limit statuses.Done) is
two_tests false false b is = ap (λ (x : Bool). cond x statuses.Limit statuses.Done) is

lines_status : (files : List ℕ → List ℕ) (lines : List (List ℕ)) (b : Bool) → list_any (is_long files) lines ≡ b → status_of (by_lines files lines) ≡ cond b statuses.Limit statuses.Done
lines_status files [] b is = ap (λ (x : Bool). cond x statuses.Limit statuses.Done) is
lines_status files (line ∷ lines) b is = two_tests (is_long files line) (list_any (is_long files) lines) b is

not_first : (later : Bool) → IsRefusal (cond later Halted Replied) → ⊥
not_first true h = h
not_first false h = h

lines_begun : (files : List ℕ → List ℕ) (lines : List (List ℕ)) → first_is_long files lines ≡ false → IsRefusal (by_lines files lines) → ⊥
lines_begun files [] is h = h
lines_begun files (line ∷ lines) is h = not_first (list_any (is_long files) lines) (subst IsRefusal (cond-false (is_long files line) TooLong (cond (list_any (is_long files) lines) Halted Replied) is) h)

-- what is refused by the script is so for a limit
lines_limit : (files : List ℕ → List ℕ) (lines : List (List ℕ)) → IsRefusal (by_lines files lines) → status_of (by_lines files lines) ≡ statuses.Limit
lines_limit files [] h = absurd h
lines_limit files (line ∷ lines) h = by (is_long files line) (list_any (is_long files) lines) h
  where
    by : (first later : Bool) → IsRefusal (cond first TooLong (cond later Halted Replied)) → status_of (cond first TooLong (cond later Halted Replied)) ≡ statuses.Limit
    by true later h = refl
    by false true h = absurd h
    by false false h = absurd h

script_limit : (files : List ℕ → List ℕ) (text : List ℕ) → IsRefusal (by_script files text) → status_of (by_script files text) ≡ statuses.Limit
script_limit files text h = by (nat_lt 16777216 (length text)) h
  where
    by : (long : Bool) → IsRefusal (cond long TooLong (by_lines files (lines_of text))) → status_of (cond long TooLong (by_lines files (lines_of text))) ≡ statuses.Limit
    by true h = refl
    by false h = lines_limit files (lines_of text) h

long_script : (files : List ℕ → List ℕ) (text : List ℕ) → 16777216 < length text → by_script files text ≡ TooLong
long_script files text h = cond-true (nat_lt 16777216 (length text)) TooLong (by_lines files (lines_of text)) (lt-ltb 16777216 (length text) h)

short_script : (files : List ℕ → List ℕ) (text : List ℕ) → length text ≤ 16777216 → by_script files text ≡ by_lines files (lines_of text)
short_script files text h = cond-false (nat_lt 16777216 (length text)) TooLong (by_lines files (lines_of text)) (le-ltb 16777216 (length text) h)

-- ---- by the files

module _ (s : Sources) (script : List ℕ) (shelf shelf' : ShelfView) where
  held_due : (w : PlainWallet) (bs : List ChainBlock) → HasChain (shelf.files s.wallet) (shelf.files s.blocks) w bs → outcome_of shelf.files s script ≡ by_script shelf.files (shelf.files script)
  held_due w bs h = ap (by_chain shelf.files (shelf.files script)) (chain_held (shelf.files s.wallet) (shelf.files s.blocks) w bs h)

  cause_due : (cause : FileCause) → chain_of (shelf.files s.wallet) (shelf.files s.blocks) ≡ Err cause → outcome_of shelf.files s script ≡ Refused cause
  cause_due cause is = ap (by_chain shelf.files (shelf.files script)) is

  module _ (told_files : Type 0) (t : told_files) (text : List ℕ) (d : PlainDesk) (h : StartsFrom told_files shelf.files s script text d) where
    text_due : outcome_of shelf.files s script ≡ by_script shelf.files text
    text_due = held_due h.wallet h.blocks (h.inputs t).chain ∙ ap (by_script shelf.files) (sym (h.text_is t))

    text_fits : length text ≤ 16777216
    text_fits = subst (λ (said : List ℕ). length said ≤ 16777216) (sym (h.text_is t)) (h.inputs t).fits

    lines_due : outcome_of shelf.files s script ≡ by_lines shelf.files (lines_of text)
    lines_due = text_due ∙ short_script shelf.files text text_fits

    status_is : (b : Bool) → list_any (is_long shelf.files) (lines_of text) ≡ b → status_of (outcome_of shelf.files s script) ≡ cond b statuses.Limit statuses.Done
    status_is b is = ap status_of lines_due ∙ lines_status shelf.files (lines_of text) b is

    none_refused : first_is_long shelf.files (lines_of text) ≡ false → IsRefusal (outcome_of shelf.files s script) → ⊥
    none_refused is refusal = lines_begun shelf.files (lines_of text) is (subst IsRefusal lines_due refusal)

    limit_refused : IsRefusal (outcome_of shelf.files s script) → status_of (outcome_of shelf.files s script) ≡ statuses.Limit
    limit_refused refusal = ap status_of text_due ∙ script_limit shelf.files text (subst IsRefusal text_due refusal)

    inside_refused : (told : Type 0) (names : List (List ℕ)) (sink sink' : SinkView) → StopsInside told_files told names text d shelf shelf' sink sink' → IsRefusal (outcome_of shelf.files s script) → ⊥
    inside_refused told names sink sink' x refusal =
        none_refused (ap (first_is_long shelf.files) x.stands.parts ∙ first_begun shelf.files x.front x.stands.rest x.line d x.new x.next x.printed x.reply (x.stands.course t) (x.answers t)) refusal

    -- a line that the run came to is one of the script's
    line_there : (front rest : List (List ℕ)) (line : List ℕ) → lines_of text ≡ front ++ line ∷ rest → Contains (lines_of (shelf.files script)) line
    line_there front rest line parts = subst (λ (ls : List (List ℕ)). Contains ls line) (sym parts ∙ ap lines_of (h.text_is t)) (stands_there front rest line)

-- ---- by the status

module _ (told_files told : Type 0) (s : Sources) (script : List ℕ) (shelf shelf' : ShelfView) (sink sink' : SinkView) (t : told_files) where
  due : Outcome
  due = outcome_of shelf.files s script

  run_due : NoneFailed s script shelf shelf' sink sink' → (result : Status) → EndsRunning told_files told s script shelf shelf' sink sink' result → (result ≡ status_of due) ⊎ (result ≡ statuses.Memory)
  unfolding due
  run_due none statuses.Done h = inl (sym (status_is s script shelf shelf' told_files t h.text h.desk h.starts false (none_long shelf.files (lines_of h.text) h.desk h.runs.1 h.runs.0 (h.runs.2 t))))
  run_due none statuses.Limit h =
      let x = h.runs.2 in
      inl (sym (status_is s script shelf shelf' told_files t h.text h.desk h.starts true (ap (list_any (is_long shelf.files)) x.stands.parts ∙ some_long shelf.files x.front x.stands.rest h.runs.0 (long_is shelf.files h.runs.0 (h.runs.1 t)))))
  run_due none statuses.ReadFault h =
      let x = h.runs.4 in
      absurd (none.reads.lines h.runs.0 h.runs.1 (line_there s script shelf shelf' told_files t h.text h.desk h.starts x.front x.stands.rest h.runs.0 x.stands.parts) h.runs.2 h.runs.3)
  run_due none statuses.WriteFault h = absurd (none.sinks h.runs.0)
  run_due none statuses.Memory h = inr refl
  run_due none statuses.NoSelection h = absurd h.runs
  run_due none statuses.Unfinished h = absurd h.runs
  run_due none statuses.Usage h = absurd h.runs
  run_due none statuses.Input h = absurd h.runs
  run_due none statuses.KeepFault h = absurd h.runs
  run_due none statuses.Saved h = absurd h.runs
  run_due none statuses.CheckRefused h = absurd h.runs
  run_due none statuses.Settle h = absurd h.runs

  pub ends_complete : NoneFailed s script shelf shelf' sink sink' → (result : Status) → Ends told_files told s script shelf shelf' sink sink' result → (result ≡ status_of (outcome_of shelf.files s script)) ⊎ (result ≡ statuses.Memory)
  unfolding due
  ends_complete none result (inr h) = run_due none result h
  ends_complete none statuses.Input (inl h) = inl (sym (ap status_of (cause_due s script shelf shelf' (cause_of h.0) (h.2 t).due) ∙ h.1))
  ends_complete none statuses.Limit (inl (inl h)) = inl (sym (ap status_of (cause_due s script shelf shelf' (cause_of h.0) (h.2 t).due) ∙ h.1))
  ends_complete none statuses.Limit (inl (inr h)) =
      let x = h.0 t in
      inl (sym (ap status_of (held_due s script shelf shelf' x.chain.0 x.chain.1 x.chain.2 ∙ long_script shelf.files (shelf.files script) x.long)))
  ends_complete none statuses.ReadFault (inl (inl h)) = absurd (none.reads.chain h.0 h.1)
  ends_complete none statuses.ReadFault (inl (inr h)) = absurd (none.reads.the_script h.0)
  ends_complete none statuses.Memory (inl h) = inr refl
  ends_complete none statuses.Done (inl h) = absurd h
  ends_complete none statuses.NoSelection (inl h) = absurd h
  ends_complete none statuses.Unfinished (inl h) = absurd h
  ends_complete none statuses.Usage (inl h) = absurd h
  ends_complete none statuses.WriteFault (inl h) = absurd h
  ends_complete none statuses.KeepFault (inl h) = absurd h
  ends_complete none statuses.Saved (inl h) = absurd h
  ends_complete none statuses.CheckRefused (inl h) = absurd h
  ends_complete none statuses.Settle (inl h) = absurd h

  -- ---- what is refused

  module _ (none : NoneUnread s script shelf shelf') (refusal : IsRefusal (outcome_of shelf.files s script)) where
    run_refused : (result : Status) → EndsRunning told_files told s script shelf shelf' sink sink' result → (result ≡ status_of due) ⊎ (result ≡ statuses.Memory)
    unfolding due
    run_refused statuses.Done h =
        absurd (none_refused s script shelf shelf' told_files t h.text h.desk h.starts (first_within shelf.files (lines_of h.text) h.desk h.runs.1 h.runs.0 (h.runs.2 t)) refusal)
    run_refused statuses.Limit h = inl (sym (limit_refused s script shelf shelf' told_files t h.text h.desk h.starts refusal))
    run_refused statuses.ReadFault h =
        let x = h.runs.4 in
        absurd (none.lines h.runs.0 h.runs.1 (line_there s script shelf shelf' told_files t h.text h.desk h.starts x.front x.stands.rest h.runs.0 x.stands.parts) h.runs.2 h.runs.3)
    run_refused statuses.WriteFault h = absurd (inside_refused s script shelf shelf' told_files t h.text h.desk h.starts told (first_names s script) sink sink' h.runs.1 refusal)
    run_refused statuses.Memory h = inr refl
    run_refused statuses.NoSelection h = absurd h.runs
    run_refused statuses.Unfinished h = absurd h.runs
    run_refused statuses.Usage h = absurd h.runs
    run_refused statuses.Input h = absurd h.runs
    run_refused statuses.KeepFault h = absurd h.runs
    run_refused statuses.Saved h = absurd h.runs
    run_refused statuses.CheckRefused h = absurd h.runs
    run_refused statuses.Settle h = absurd h.runs

    pub ends_refused : (result : Status) → Ends told_files told s script shelf shelf' sink sink' result → (result ≡ status_of (outcome_of shelf.files s script)) ⊎ (result ≡ statuses.Memory)
    unfolding due
    ends_refused result (inr h) = run_refused result h
    ends_refused statuses.Input (inl h) = inl (sym (ap status_of (cause_due s script shelf shelf' (cause_of h.0) (h.2 t).due) ∙ h.1))
    ends_refused statuses.Limit (inl (inl h)) = inl (sym (ap status_of (cause_due s script shelf shelf' (cause_of h.0) (h.2 t).due) ∙ h.1))
    ends_refused statuses.Limit (inl (inr h)) =
        let x = h.0 t in
        inl (sym (ap status_of (held_due s script shelf shelf' x.chain.0 x.chain.1 x.chain.2 ∙ long_script shelf.files (shelf.files script) x.long)))
    ends_refused statuses.ReadFault (inl (inl h)) = absurd (none.chain h.0 h.1)
    ends_refused statuses.ReadFault (inl (inr h)) = absurd (none.the_script h.0)
    ends_refused statuses.Memory (inl h) = inr refl
    ends_refused statuses.Done (inl h) = absurd h
    ends_refused statuses.NoSelection (inl h) = absurd h
    ends_refused statuses.Unfinished (inl h) = absurd h
    ends_refused statuses.Usage (inl h) = absurd h
    ends_refused statuses.WriteFault (inl h) = absurd h
    ends_refused statuses.KeepFault (inl h) = absurd h
    ends_refused statuses.Saved (inl h) = absurd h
    ends_refused statuses.CheckRefused (inl h) = absurd h
    ends_refused statuses.Settle (inl h) = absurd h
