-- What a call finds in the file, by what it finds in the tables.
use Rattle.std.proofs.Common.{◌≡◌, Err, Ok, IsSome, IsTrue, None, Option, Result, Some, false, is_some, refl}
use Rattle.std.specs.Prelude.{ℕ, Vec}
use Rattle.std.specs.Option.{option_or}
use Rattle.std.specs.declared.alloc.Global.{Global}
use Rattle.sqlite.specs.Store.{Ghosts}
use Rattle.sqlite.specs.declared.error.Error.{Error}
use Rattle.sqlite.specs.Held.{Held, state}
use Rattle.sqlite.specs.Opening.{is_open_error}
use Rattle.sqlite.specs.State.{HasCleanDisk}
use Rattle.keep_sqlite.specs.Calls.{Answers, AnswersFrom, AnswersIn}
use Rattle.keep_sqlite.specs.JobFile.{IsOpened, IsTaken}
use Rattle.keep_sqlite.specs.declared.tables.Call.{Call}
use Rattle.keep_sqlite.specs.declared.tables.Call.TheVariants.{Load, Part, Save}

module _ {S : Type 0} (g : Ghosts S) where
  -- there is a database for the call
  pub is_one : (old opened : Option (Held S)) → IsOpened g old opened → IsSome (option_or opened old)
  is_one (Some held) opened is = rw is refl
  is_one None None is = absurd is
  is_one None (Some made) is = refl

  -- an open gives nothing where one is held, and else the new one
  pub held_opened : (old : Option (Held S)) → IsSome old → IsOpened g old None
  held_opened (Some held) is = refl
  held_opened None is = absurd (let e = is in cc)

  pub made_opened : (old : Option (Held S)) (made : Held S) → is_some old ≡ false → IsTaken g None made → IsOpened g old (Some made)
  made_opened (Some held) made is new = absurd (let e = is in cc)
  made_opened None made is new = new

  taken_answers : (call : Call) (old : Option (Held S)) (taken new : Held S) (found : Result (Option (Vec ℕ Global)) Error) → IsTaken g old taken → (HasCleanDisk (state g new) → Answers g call taken new found) → AnswersIn g call old (Some new) found
  taken_answers (Load job) old taken new found is said = λ clean. (taken, is, said clean)
  taken_answers (Part job number) old taken new found is said = λ clean. (taken, is, said clean)
  taken_answers (Save job first part saved) old taken new (Ok x) is said = λ clean. (taken, is, said clean)
  taken_answers (Save job first part saved) old taken new (Err e) is said = tt

  taken_from : (call : Call) (old : Option (Held S)) (taken : Held S) (new : Option (Held S)) (found : Result (Option (Vec ℕ Global)) Error) → IsTaken g old taken → AnswersFrom g call (Some taken) new found → AnswersIn g call old new found
  taken_from call old taken None found is said = absurd said
  taken_from call old taken (Some new) found is said = taken_answers call old taken new found is said

  -- what it finds from there on is what it finds in the file
  pub answers_in : (call : Call) (old opened new : Option (Held S)) (found : Result (Option (Vec ℕ Global)) Error) → IsOpened g old opened → AnswersFrom g call (option_or opened old) new found → AnswersIn g call old new found
  answers_in call (Some held) opened new found is said = taken_from call (Some held) held new found refl (rw is at said)
  answers_in call None None new found is said = absurd is
  answers_in call None (Some made) new found is said = taken_from call None made new found is said

  -- so is why it can't be opened
  pub unopened_in : (call : Call) (error : Error) → IsTrue (is_open_error error) → AnswersIn g call None None (Err error)
  unopened_in (Load job) error is = (refl, is)
  unopened_in (Part job number) error is = (refl, is)
  unopened_in (Save job first part saved) error is = tt
