-- Lists of commands, and what they are to one job.
use Rattle.std.specs.Prelude.{ℕ, ◌≡◌, ◌≢◌, ◌⊎◌, ◌+◌, ◌++◌, List, [], ◌∷◌, Bool, bytes_eq, map, MatchBool, if◌then◌else◌}
use Rattle.fund_plan.specs.Outcome.{end_at, is_partial, stand_after}
use Rattle.fund_steps.specs.Plan.{PlainPlan}
use Rattle.desk_machine.specs.Commands.{Command, Open, Turn, Commit, Close, Release, Blocks, Pending}
use Rattle.desk_machine.specs.Does.{Does, IsLagging}
use Rattle.desk_machine.specs.Replies.{Reply, Committed, Closed, NoMemory}
use Rattle.desk_machine.specs.State.{Job, PlainDesk}
use Rattle.desk_machine.specs.Turns.{run_reply, turn_reply, turned}

-- a call: a command, and what was replied
pub record Said : Type 0 where
  pub command : Command
  pub reply : Reply

-- these calls lead from one desk to another
abbrev pub Runs : PlainDesk → List Said → PlainDesk → Type 0
Runs d [] new = new ≡ d
Runs d (s ∷ rest) new = (mid : PlainDesk) × Does d s.command s.reply mid × Runs mid rest new

-- ---- a job alone

-- a turn: its tries, and what was replied
pub record Played : Type 0 where
  pub tries : ℕ
  pub reply : Reply

-- What a turn does to a job, which speaks of the job alone: of no desk, book or payment.
abbrev pub Plays : Job → Played → Job → Type 0
Plays j p k = ((p.reply ≡ turn_reply j.state p.tries) × (k ≡ turned j p.tries)) ⊎ ((p.reply ≡ NoMemory) × IsLagging j p.tries k)

-- these turns lead a job from one state to another
abbrev pub Alone : Job → List Played → Job → Type 0
Alone j [] k = k ≡ j
Alone j (p ∷ rest) k = (mid : Job) × Plays j p mid × Alone mid rest k

-- ---- the turns of a job among calls

abbrev pub turn_in : List ℕ → Reply → Command → List Played
turn_in name reply (Turn other n) = if bytes_eq name other then record { tries = n; reply = reply } ∷ [] else []
turn_in name reply (Open other request) = []
turn_in name reply (Commit other) = []
turn_in name reply (Close other) = []
turn_in name reply (Release txid) = []
turn_in name reply (Blocks bytes) = []
turn_in name reply (Pending hex) = []

-- those of the job of this name, in order
abbrev pub turns_of : List ℕ → List Said → List Played
turns_of name [] = []
turns_of name (s ∷ rest) = turn_in name s.reply s.command ++ turns_of name rest

-- a commit of this name isn't answered by a payment, and a close isn't answered: the job stays open
abbrev pub StaysOpen : List ℕ → Reply → Command → Type 0
StaysOpen name reply (Commit other) = other ≡ name → (txid psbt : List ℕ) → reply ≢ Committed txid psbt
StaysOpen name reply (Close other) = other ≡ name → reply ≢ Closed
StaysOpen name reply (Open other request) = Unit {0}
StaysOpen name reply (Turn other n) = Unit {0}
StaysOpen name reply (Release txid) = Unit {0}
StaysOpen name reply (Blocks bytes) = Unit {0}
StaysOpen name reply (Pending hex) = Unit {0}

-- through all of these calls
abbrev pub KeepOpen : List ℕ → List Said → Type 0
KeepOpen name [] = Unit {0}
KeepOpen name (s ∷ rest) = StaysOpen name s.reply s.command × KeepOpen name rest

-- the job's turns had memory enough
abbrev pub AllFed : List Played → Type 0
AllFed [] = Unit {0}
AllFed (p ∷ rest) = (p.reply ≢ NoMemory) × AllFed rest

-- the tries that turns were given
abbrev pub tries_in : List Played → List ℕ
tries_in ps = map (λ (p : Played). p.tries) ps

-- ---- turns and the run

-- after so many tries a result of the plan's run is taken for want of tries
abbrev pub is_taken_short : PlainPlan → ℕ → Bool
is_taken_short p n = is_partial (end_at p (stand_after p n))

-- Each of these turns is replied to as before.
abbrev pub ReplyAgain : Reply → List Played → Type 0
ReplyAgain reply [] = Unit {0}
ReplyAgain reply (p ∷ rest) = (p.reply ≡ reply) × ReplyAgain reply rest

-- Behind n tries, each of these turns is replied to by the run of the plan with its tries more, and so on from there. Where
-- a result was taken for want of tries, those behind it are replied to as before.
abbrev pub AreOfRun : PlainPlan → ℕ → List Played → Type 0
AreOfRun p n [] = Unit {0}
AreOfRun p n (x ∷ rest) =
    (x.reply ≡ run_reply p n x.tries) × MatchBool (is_taken_short p (n + x.tries)) (ReplyAgain x.reply rest) (AreOfRun p (n + x.tries) rest)
