-- The words of the command line.
use Rattle.std.specs.Prelude.{ℕ, ◌≤◌, not, ◌&&◌, nat_lt, List, [], ◌∷◌, length, String, string_bytes, bytes_eq, codes, Bool, Option, Some, None, if◌then◌else◌}
use Rattle.std.specs.declared.alloc.Global.{Global}
use Rattle.fund_base.specs.Decimal.{number_of}
use Rattle.fund_outside.specs.JobName.{is_job_name}
use Rattle.command_end.specs.Names.{Sources}
use Rattle.command_inputs.specs.Names.{Payment}
use Rattle.further_commands.specs.Command.{FurtherCommand, Settle, Share, Sweep, Wide}

-- to list payments and coins; to fund a payment, with a job to keep it as where it isn't finished; to go on with a job; to
-- check the report of a payment; to fund one from a workload; to run a script at a desk; or to do one of the commands beside
-- these
pub data Command : Type 0 where
  Coins : Sources → Command
  Fund : Sources → Payment → (job : Option (List ℕ)) → Command
  Resume : Sources → Payment → (job : List ℕ) → Command
  Check : Sources → Payment → (report : List ℕ) → Command
  Work : (number count : ℕ) → Command
  Desk : Sources → (script : List ℕ) → Command
  Further : FurtherCommand → Command

-- no name is empty
abbrev pub are_named : Sources → Bool
are_named s = nat_lt 0 (length s.wallet) && nat_lt 0 (length s.blocks)

-- no name is empty, and the log is none of the files that are read
abbrev pub names_stand : Sources → Payment → Bool
names_stand s p =
    are_named s
    && ((nat_lt 0 (length p.request) && nat_lt 0 (length p.log))
    && (not (bytes_eq p.log s.wallet) && (not (bytes_eq p.log s.blocks) && not (bytes_eq p.log p.request))))

-- no name is empty
abbrev pub are_judged : Sources → Payment → (report : List ℕ) → Bool
are_judged s p report = are_named s && (nat_lt 0 (length p.request) && (nat_lt 0 (length report) && nat_lt 0 (length p.log)))

-- a command, where its names stand
abbrev pub where_stands : Bool → Command → Option Command
where_stands stands c = if stands then Some c else None

-- the files of the first two names
abbrev pub sources : String Global → String Global → Sources
sources wallet blocks = record { wallet = string_bytes wallet; blocks = string_bytes blocks }

-- the files of the other two
abbrev pub payment : String Global → String Global → Payment
payment request log = record { request = string_bytes request; log = string_bytes log }

-- the listing of files, where their names stand
abbrev pub listing_of : List ℕ → List ℕ → Option Command
listing_of wallet blocks = where_stands (are_named (record { wallet = wallet; blocks = blocks })) (Coins (record { wallet = wallet; blocks = blocks }))

-- a payment from files, where their names stand
abbrev pub payment_of : (wallet blocks request log : List ℕ) → Option Command
payment_of wallet blocks request log =
    where_stands (names_stand (record { wallet = wallet; blocks = blocks }) (record { request = request; log = log })) (Fund (record { wallet = wallet; blocks = blocks }) (record { request = request; log = log }) None)

-- a wide search for a payment from files, where their names stand
abbrev pub wide_of : (wallet blocks request log : List ℕ) → Option Command
wide_of wallet blocks request log =
    where_stands (names_stand (record { wallet = wallet; blocks = blocks }) (record { request = request; log = log })) (Further (Wide (record { wallet = wallet; blocks = blocks }) (record { request = request; log = log })))

-- a payment whose recipients bear the fee from files, where their names stand
abbrev pub share_of : (wallet blocks request log : List ℕ) → Option Command
share_of wallet blocks request log =
    where_stands (names_stand (record { wallet = wallet; blocks = blocks }) (record { request = request; log = log })) (Further (Share (record { wallet = wallet; blocks = blocks }) (record { request = request; log = log })))

-- the sweep by files, where none of their names is empty
abbrev pub sweep_of : (wallet blocks request : List ℕ) → Option Command
sweep_of wallet blocks request = where_stands (are_named (record { wallet = wallet; blocks = blocks }) && nat_lt 0 (length request)) (Further (Sweep (record { wallet = wallet; blocks = blocks }) request))

-- the settling of a payment by files, where none of their names is empty
abbrev pub settle_of : (wallet request report tx : List ℕ) → Option Command
settle_of wallet request report tx =
    where_stands ((nat_lt 0 (length wallet) && nat_lt 0 (length request)) && (nat_lt 0 (length report) && nat_lt 0 (length tx))) (Further (Settle (record { wallet = wallet; request = request; report = report; tx = tx })))

-- the check of files, where their names stand
abbrev pub check_of : (wallet blocks request report log : List ℕ) → Option Command
check_of wallet blocks request report log =
    where_stands (are_judged (record { wallet = wallet; blocks = blocks }) (record { request = request; log = log }) report) (Check (record { wallet = wallet; blocks = blocks }) (record { request = request; log = log }) report)

-- a desk of files, where their names stand
abbrev pub desk_of : (wallet blocks script : List ℕ) → Option Command
desk_of wallet blocks script = where_stands (are_named (record { wallet = wallet; blocks = blocks }) && nat_lt 0 (length script)) (Desk (record { wallet = wallet; blocks = blocks }) script)

-- a workload of some coins, of two numbers that were read
abbrev pub work_by : Option ℕ → Option ℕ → Option Command
work_by None count = None
work_by (Some number) None = None
work_by (Some number) (Some count) = where_stands (nat_lt 0 count) (Work number count)

-- The workload of two words: a number of 0 to 9,223,372,036,854,775,807 and a count of 1 to 10,000, each as its decimal
-- digits without a leading zero.
abbrev pub work_of : List ℕ → List ℕ → Option Command
work_of number count = work_by (number_of 9_223_372_036_854_775_807 number) (number_of 10_000 count)

-- the count of a workload's coins
abbrev pub IsInRange : Command → Type 0
IsInRange (Coins s) = Unit {0}
IsInRange (Fund s p job) = Unit {0}
IsInRange (Resume s p job) = Unit {0}
IsInRange (Check s p report) = Unit {0}
IsInRange (Work number count) = (1 ≤ count) × (count ≤ 10_000)
IsInRange (Desk s script) = Unit {0}
IsInRange (Further c) = Unit {0}

-- a command with a job, by its verb
abbrev pub job_command : Sources → Payment → (verb job : List ℕ) → Option Command
job_command s p verb job =
    if bytes_eq verb (codes "fund")
    then where_stands (names_stand s p && is_job_name job) (Fund s p (Some job))
    else (if bytes_eq verb (codes "resume") then where_stands (names_stand s p && is_job_name job) (Resume s p job) else None)

-- a command of three names, by its verb
abbrev pub of_three_names : (verb wallet blocks third : List ℕ) → Option Command
of_three_names verb wallet blocks third = if bytes_eq verb (codes "desk") then desk_of wallet blocks third else if bytes_eq verb (codes "sweep") then sweep_of wallet blocks third else None

-- a command of four names, by its verb
abbrev pub of_four_names : (verb first second third fourth : List ℕ) → Option Command
of_four_names verb first second third fourth =
    if bytes_eq verb (codes "fund")
    then payment_of first second third fourth
    else if bytes_eq verb (codes "wide") then wide_of first second third fourth
    else if bytes_eq verb (codes "share") then share_of first second third fourth
    else if bytes_eq verb (codes "settle") then settle_of first second third fourth else None

-- a command of five names, by its verb
abbrev pub of_five_names : (verb wallet blocks request fourth fifth : List ℕ) → Option Command
of_five_names verb wallet blocks request fourth fifth =
    if bytes_eq verb (codes "check")
    then check_of wallet blocks request fourth fifth
    else job_command (record { wallet = wallet; blocks = blocks }) (record { request = request; log = fourth }) verb fifth

-- the command that the words are: coins WALLET BLOCKS, work NUMBER COUNT, desk WALLET BLOCKS SCRIPT, fund WALLET BLOCKS
-- REQUEST LOG, with or without a JOB, resume WALLET BLOCKS REQUEST LOG JOB, check WALLET BLOCKS REQUEST REPORT LOG, wide WALLET
-- BLOCKS REQUEST LOG, share WALLET BLOCKS REQUEST LOG, sweep WALLET BLOCKS REQUEST, or settle WALLET REQUEST REPORT TX
abbrev pub command_of : List (String Global) → Option Command
command_of (verb ∷ first ∷ second ∷ []) =
    if bytes_eq (string_bytes verb) (codes "coins")
    then listing_of (string_bytes first) (string_bytes second)
    else if bytes_eq (string_bytes verb) (codes "work") then work_of (string_bytes first) (string_bytes second) else None
command_of (verb ∷ wallet ∷ blocks ∷ third ∷ []) = of_three_names (string_bytes verb) (string_bytes wallet) (string_bytes blocks) (string_bytes third)
command_of (verb ∷ first ∷ second ∷ third ∷ fourth ∷ []) = of_four_names (string_bytes verb) (string_bytes first) (string_bytes second) (string_bytes third) (string_bytes fourth)
command_of (verb ∷ wallet ∷ blocks ∷ request ∷ fourth ∷ fifth ∷ []) =
    of_five_names (string_bytes verb) (string_bytes wallet) (string_bytes blocks) (string_bytes request) (string_bytes fourth) (string_bytes fifth)
command_of _ = None
