-- What a statement leaves of a transaction that it runs in: the last commit stays. And what statements write there, one
-- after another.
use Rattle.std.proofs.Common.{◌≡◌, [], ◌∷◌, Bool, false, IfErr, IsTrue, List, Ok, OnErr, OnOk, Err, None, Option, Result, Some, arith, if◌then◌else◌, inl, inr, subst, sym, true, ◌∙◌, ℕ}
use Rattle.sqlite.specs.Store.{Ghosts}
use Rattle.sqlite.specs.Held.{Held, state}
use Rattle.sqlite.specs.Steps.{FailsToCommit}
use Rattle.sqlite.specs.Order.{Row}
use Rattle.sqlite.specs.declared.error.Error.{Error}
use Rattle.sqlite.specs.State.{State, Fails, HasCleanDisk, FailsToQuery, FailsToShow, IsNotRun, IsRolledBack, KeepsCommit, KeepsCounts, Shows, QueriesRow, QueriesRowInside, Shown, ShowsRows}
use Rattle.sqlite.proofs.InsideLemmas.{keeps_then, unchanged_keeps}
use Rattle.sqlite.proofs.StateLemmas.{survives_then}
use Rattle.keep_sqlite.specs.Saving.{IsAsBefore, IsRun, MakesTables, Saves, StaysInside, TellsInside, WritesJob, WritesRows, add_text, drop_text, keep_text}
use Rattle.keep_sqlite.specs.Tables.{AreMadeBy, job_text, part_text}
use Rattle.sqlite.specs.declared.types.Value.TheVariants.{Blob, Int, Text}
use Rattle.fund_outside.specs.declared.keeper.KeepFault.{KeepFault}
use Rattle.keep_sqlite.specs.Reported.{reported_answer}
use Rattle.std.specs.Prelude.{pos}

module _ (old new : State) (inside : IsTrue old.in_transaction) where
  shown_keeps : (sql : List ℕ) (c : _) (params : Row) (rows : List Row) (returning : Option _) → ShowsRows old new sql c params rows returning → KeepsCommit old new × (new.in_transaction ≡ old.in_transaction)
  shown_keeps sql c params rows None h = (unchanged_keeps old new (inl h.3), h.3.0.mode)
  shown_keeps sql c params rows (Some what) h =
      let shown = h.1.shown in
      (record { was_open = λ _. shown.was_open; committed = λ _. subst (λ b. new.committed ≡ (if b then old.committed else new.now)) inside shown.committed_is }, shown.mode)

  fails_keeps : (too_big : Type 0) (e : Error) → Fails old new too_big e → KeepsCommit old new
  fails_keeps too_big e h = unchanged_keeps old new (inr h.3)

  failed_show_keeps : (sql : List ℕ) (c : _) (params : Row) (e : Error) (returning : Option _) → FailsToShow old new sql c params e returning → KeepsCommit old new
  failed_show_keeps sql c params e None h = unchanged_keeps old new (inl h.3)
  failed_show_keeps sql c params e (Some what) (inl refused) = unchanged_keeps old new (inl refused.1)
  failed_show_keeps sql c params e (Some what) (inr failed) = fails_keeps _ e failed

  not_run_keeps : (sql : List ℕ) (params : Row) (e : Error) → IsNotRun old new sql params e → KeepsCommit old new
  unfolding IsNotRun
  not_run_keeps sql params e (inl refused) = unchanged_keeps old new (inl refused.1)
  not_run_keeps sql params e (inr failed) = fails_keeps _ e failed

  failed_query_keeps : (sql : List ℕ) (params : Row) (e : Error) → FailsToQuery sql params old new e → KeepsCommit old new
  unfolding FailsToQuery
  failed_query_keeps sql params e (inl h) = not_run_keeps sql params e h
  failed_query_keeps sql params e (inr h) = failed_show_keeps sql h.0 _ e h.0.returning h.2

  -- a query leaves the last commit
  pub query_keeps : (sql : List ℕ) (params : Row) (answer : Result Row Error) → QueriesRowInside sql params old new answer → KeepsCommit old new
  unfolding QueriesRow Shown
  query_keeps sql params (Ok row) (inl h) = unchanged_keeps old new (inl h.1)
  query_keeps sql params (Ok row) (inr h) = (shown_keeps sql h.1.0 _ h.0 h.1.0.returning h.1.2).0
  query_keeps sql params (Err e) (inl (inl h)) = failed_query_keeps sql params e h
  query_keeps sql params (Err e) (inl (inr h)) = (shown_keeps sql h.1.0 _ _ h.1.0.returning h.1.2).0
  query_keeps sql params (Err e) (inr h) = unchanged_keeps old new (inl h.5)

  -- and, where it shows a row, stays in the transaction
  pub query_stays : (sql : List ℕ) (params : Row) (row : Row) → QueriesRowInside sql params old new (Ok row) → IsTrue new.in_transaction
  unfolding QueriesRow Shown
  query_stays sql params row (inl h) = h.1.0.mode ∙ inside
  query_stays sql params row (inr h) = (shown_keeps sql h.1.0 _ h.0 h.1.0.returning h.1.2).1 ∙ inside

  on_ok : {T : Type 0} {P : Type 0} (told : Result T Error) → P → OnOk told P
  on_ok (Ok x) p = p
  on_ok (Err e) p = tt

  -- so it does where the tables are told of
  pub told_stays : (sql : List ℕ) (params : Row) (answer : Result Row Error) (told : Result Bool Error) → QueriesRowInside sql params old new answer → AreMadeBy answer told → OnOk told (IsTrue new.in_transaction)
  told_stays sql params (Ok row) told h made = on_ok told (query_stays sql params row h)
  told_stays sql params (Err e) told h made = rw made tt

-- one call after another
pub inside_then : {S : Type 0} (g : Ghosts S) {T U : Type 0} (a b c : Held S) (given : T) (result : Result U Error) → StaysInside g {T = T} a b (Ok given) → StaysInside g b c result → StaysInside g a c result
inside_then g a b c given result one two = record {
  kept = λ inside clean. let early : HasCleanDisk (state g b) = omega (arith, two.survives.clean) in keeps_then (state g a) (state g b) (state g c) (one.kept inside early) (two.kept (one.inside inside early) clean);
  inside = λ inside clean. two.inside (one.inside inside (omega (arith, two.survives.clean))) clean;
  survives = survives_then (state g a) (state g b) (state g c) _ _ (λ _. ⊥) (λ _ db none. none) (λ _ db none. none) one.survives two.survives;
}

-- a call that has failed leaves it so, whatever its value would have been
pub failed_inside : {S : Type 0} (g : Ghosts S) {T U : Type 0} (a b : Held S) (e : Error) (result : Result U Error) → result ≡ Err e → StaysInside g {T = T} a b (Err e) → StaysInside g a b result
failed_inside g a b e result is one = record { kept = one.kept; inside = λ inside clean. rw is tt; survives = one.survives }

pub done_inside : {S : Type 0} (g : Ghosts S) {T U : Type 0} (a b : Held S) (given : T) (done : U) → StaysInside g {T = T} a b (Ok given) → StaysInside g {T = U} a b (Ok done)
done_inside g a b given done one = record { kept = one.kept; inside = one.inside; survives = one.survives }

-- an answer that is told fails where it failed
pub told_err : {T : Type 0} (P : Type 0) (answer : Result T Error) (result : Result T KeepFault) → result ≡ reported_answer answer → OnErr answer P → OnErr result P
told_err P (Ok given) result is p = rw is tt
told_err P (Err error) result is p = rw is p

module _ {S : Type 0} (g : Ghosts S) (old mid new : Held S) (settled : IsTrue (state g old).is_open → (state g old).now ≡ (state g old).committed) where
  -- what is rolled back is as before it began
  pub rolled_back : KeepsCommit (state g (record old { in_transaction = true })) (state g mid) → IsRolledBack (state g mid) (state g new) → IsTrue (state g new).is_open → IsAsBefore g old new
  rolled_back kept undone is_open =
      let was = undone.was_open is_open in
      let left = undone.undone is_open in
      let same = kept.committed was in
      record { now = left.0 ∙ same ∙ sym (settled (kept.was_open was)); committed = left.1 ∙ same }

  -- so is what couldn't be committed
  pub uncommitted : KeepsCommit (state g (record old { in_transaction = true })) (state g mid) → IsTrue mid.in_transaction → (e : Error) → FailsToCommit (state g mid) (state g new) e → IsTrue (state g new).is_open → IsAsBefore g old new
  uncommitted kept inside e (inl failed) is_open = rolled_back kept failed.3 is_open
  uncommitted kept inside e (inr ended) is_open = absurd (let e = sym inside ∙ ended.1 in cc)

pub on_err : {T : Type 0} (P : Error → Type 0) (Q : Type 0) (result : Result T Error) → IfErr result P → ((e : Error) → P e → Q) → OnErr result Q
on_err P Q (Ok given) said so = tt
on_err P Q (Err e) said so = so e said

-- ---- what was written

-- of an error nothing is said
pub failed_on : {T : Type 0} (P : Type 0) (e : Error) (result : Result T Error) → result ≡ Err e → OnOk result P
failed_on P e result is = rw is tt

map_ok : {T : Type 0} (P Q : Type 0) (result : Result T Error) → (P → Q) → OnOk result P → OnOk result Q
map_ok P Q (Ok given) so p = so p
map_ok P Q (Err e) so p = tt

-- what is so is so of a value
pub any_ok : {T : Type 0} (P : Type 0) (result : Result T KeepFault) → P → OnOk result P
any_ok P (Ok given) p = p
any_ok P (Err fault) p = tt

-- nothing is said of a failure
pub no_ok : {T : Type 0} (P : Type 0) (fault : KeepFault) (result : Result T KeepFault) → result ≡ Err fault → OnOk result P
no_ok P fault result is = rw is tt

-- what is written is told where it was done
pub told_ok : {T : Type 0} (P : Type 0) (answer : Result T Error) (result : Result T KeepFault) → result ≡ reported_answer answer → OnOk answer P → OnOk result P
told_ok P (Ok given) result is p = rw is p
told_ok P (Err error) result is p = rw is tt

module _ {S : Type 0} (g : Ghosts S) where
  -- the disk was clean before a call too
  clean_before : {T : Type 0} (a b : Held S) (result : Result T Error) → StaysInside g a b result → HasCleanDisk (state g b) → HasCleanDisk (state g a)
  clean_before a b result stays clean = omega (arith, stays.survives.clean)

  module _ {T U V : Type 0} (a b c d : Held S) (given : T) (more : U) (result : Result V Error) (one : StaysInside g a b (Ok given)) (two : StaysInside g b c (Ok more)) (three : StaysInside g c d result) (clean : HasCleanDisk (state g d)) (inside : IsTrue a.in_transaction) where
    clean_c : HasCleanDisk (state g c)
    clean_c = clean_before c d result three clean

    clean_b : HasCleanDisk (state g b)
    clean_b = clean_before b c (Ok more) two clean_c

    in_b : IsTrue b.in_transaction
    in_b = one.inside inside clean_b

    in_c : IsTrue c.in_transaction
    in_c = two.inside in_b clean_c

    -- the tables weren't there, and both were made
    pub made_then : (HasCleanDisk (state g b) → TellsInside g a b (Ok false)) → (HasCleanDisk (state g c) → IsTrue b.in_transaction → IsRun g job_text [] b c) → (HasCleanDisk (state g d) → IsTrue c.in_transaction → OnOk result (IsRun g part_text [] c d))
        → OnOk result (MakesTables g a d)
    made_then told first last = map_ok (IsRun g part_text [] c d) (MakesTables g a d) result (λ (made : IsRun g part_text [] c d). (b, false, told clean_b, (c, first clean_c in_b, made))) (last clean in_c)

    -- the rows of a job were written
    pub rows_then : (job : List ℕ) (number : ℕ) (part saved : List ℕ)
        → (HasCleanDisk (state g b) → IsTrue a.in_transaction → IsRun g drop_text (Text job ∷ Int (pos number) ∷ []) a b)
        → (HasCleanDisk (state g c) → IsTrue b.in_transaction → IsRun g add_text (Text job ∷ Blob part ∷ []) b c)
        → (HasCleanDisk (state g d) → IsTrue c.in_transaction → OnOk result (IsRun g keep_text (Text job ∷ Blob saved ∷ []) c d))
        → OnOk result (WritesRows g job number part saved a d)
    rows_then job number part saved drops adds keeps = map_ok (IsRun g keep_text (Text job ∷ Blob saved ∷ []) c d) (WritesRows g job number part saved a d) result (λ (kept : IsRun g keep_text (Text job ∷ Blob saved ∷ []) c d). record { dropped = b; added = c; drops = drops clean_b inside; adds = adds clean_c in_b; keeps = kept }) (keeps clean in_c)

  -- the tables are there, and then the rows of a job were written
  pub job_then : {T U : Type 0} (a b c : Held S) (given : T) (result : Result U Error) (job : List ℕ) (number : ℕ) (part saved : List ℕ) → StaysInside g a b (Ok given) → StaysInside g b c result → HasCleanDisk (state g c) → IsTrue a.in_transaction
      → (HasCleanDisk (state g b) → IsTrue a.in_transaction → MakesTables g a b) → (HasCleanDisk (state g c) → IsTrue b.in_transaction → OnOk result (WritesRows g job number part saved b c)) → OnOk result (WritesJob g job number part saved a c)
  job_then a b c given result job number part saved one two clean inside makes writes =
      let clean_b = clean_before b c result two clean in
      map_ok (WritesRows g job number part saved b c) (WritesJob g job number part saved a c) result (λ (rows : WritesRows g job number part saved b c). (b, makes clean_b inside, rows)) (writes clean (one.inside inside clean_b))

  -- the transaction showed this when it was committed
  abbrev Ends : Held S → Held S → Type 0
  Ends mid new = IsTrue (state g mid).in_transaction × Shows (state g mid) (state g new) (state g mid).now (state g mid).now false × KeepsCounts (state g mid) (state g new) × ((state g new).marks ≡ [])

  -- what was written is committed
  pub saved_by : {U : Type 0} (old mid new shown : Held S) (result : Result U Error) (job : List ℕ) (number : ℕ) (part saved : List ℕ) → new ≡ shown → WritesJob g job number part saved (record old { in_transaction = true }) mid → OnOk result (Ends mid new) → OnOk result (Saves g job number part saved old shown)
  saved_by old mid new shown result job number part saved same writes ends =
      map_ok (Ends mid new) (Saves g job number part saved old shown) result (λ (done : Ends mid new). subst (Saves g job number part saved old) same (record { last = mid; writes = writes; now = done.1.now_is; committed = done.1.committed_is })) ends
