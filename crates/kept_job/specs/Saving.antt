-- What a save leaves of a job.
use Rattle.std.specs.Prelude.{ℕ, ◌≡◌, ◌+◌, List, ◌++◌, drop, length, Option, Some}
use Rattle.sha2.specs.Sha256.{sha256}
use Rattle.closing_log.specs.LogText as logs
use Rattle.fund_outside.specs.Kept.{KeptJob, after_save}
use Rattle.fund_plan.specs.Resumed.{log_in, saved_at}
use Rattle.fund_plan.specs.State.{PlanState}
use Rattle.search_keep.specs.SavedText.{IsSavedText, PlainSaved, text_of}
use Rattle.kept_job.specs.Jobs.{with_log}

-- what is kept of a log already: so many parts, which are these bytes joined
pub record PlainBehind : Type 0 where
  pub parts : ℕ
  pub bytes : List ℕ

-- The bytes are the saved text of a plan for this digest of a job, with so many parts, and with this digest of the parts
-- joined; and they read as that.
pub record IsSavedOf (digest : List ℕ) (parts : ℕ) (log : List ℕ) (s : PlanState) (text : List ℕ) : Type 0 where
  pub saved : PlainSaved
  pub saves : saved_at digest parts s ≡ Some saved
  pub text_is : text ≡ text_of (with_log saved log)
  pub reads : IsSavedText text (with_log saved log)

-- the bytes of a plan's log behind so many
abbrev pub log_behind : ℕ → PlanState → List ℕ
log_behind count s = drop count (logs.text_of (log_in s))

-- A job once a plan is kept behind so many parts, which are these bytes joined: these parts are as they were, where they
-- were there, one stands behind them with the bytes of the log behind those, and the saved text counts it. It has the SHA-256
-- of all these bytes.
pub record IsSavedBehind (digest : List ℕ) (s : PlanState) (parts : ℕ) (bytes : List ℕ) (old new : Option KeptJob) : Type 0 where
  pub text : List ℕ
  pub saved : IsSavedOf digest (parts + 1) (sha256 (bytes ++ log_behind (length bytes) s)) s text
  pub is : new ≡ after_save old parts (log_behind (length bytes) s) text
