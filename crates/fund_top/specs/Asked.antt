-- Which files a command reads, and in what order.
use Rattle.std.specs.Prelude.{◌≡◌, [], ◌∷◌, ◌++◌}
use Rattle.fund_shelf.specs.Causes.{Asks, ShelfView}
use Rattle.fund_files.specs.Cause.{FileCause}
use Rattle.fund_files.specs.FileStops.{IsWalletCause}
use Rattle.fund_steps.specs.Plan.{PlainPlan}
use Rattle.command_check.specs.Asked as checks
use Rattle.command_check.specs.Evidence.{HasLoggedReport, HavePlan}
use Rattle.command_inputs.specs.Inputs.{AsksInOrder, NoneBehind}
use Rattle.command_desk.specs.Script.{lines_of}
use Rattle.command_desk.specs.Asked as desks
use Rattle.further_commands.specs.Asked as further
use Rattle.fund_top.specs.Words.{Command, Coins, Fund, Resume, Check, Work, Desk, Further}

-- The files that its words name are asked for, one after the other, each as often as its reading takes, and no other name is.
-- The log of a payment isn't: it is written. A job asks for no file once more: its digest is that of the bytes that were
-- read. Behind a file that is refused none is asked for. A check asks for its log only beside a report that has one, and for
-- neither report nor log where the payment is refused. A desk asks for its script, and then for the files that the lines of it
-- name.
abbrev pub AsksFor : Command → ShelfView → ShelfView → Type 0
AsksFor (Coins s) shelf shelf' =
    Asks (s.wallet ∷ s.blocks ∷ []) shelf.asked shelf'.asked
    × ((cause : FileCause) → IsWalletCause (shelf.files s.wallet) cause → Asks (s.wallet ∷ []) shelf.asked shelf'.asked)
AsksFor (Fund s p job) shelf shelf' = AsksInOrder s p shelf shelf' × NoneBehind s shelf shelf'
AsksFor (Resume s p job) shelf shelf' = AsksInOrder s p shelf shelf' × NoneBehind s shelf shelf'
AsksFor (Check s p report) shelf shelf' =
    checks.AsksInOrder s p report shelf shelf'
    × NoneBehind s shelf shelf'
    × ((HasLoggedReport (shelf.files report) → ⊥) → checks.AsksNoLog s p report shelf shelf')
    × (((plan : PlainPlan) → HavePlan shelf.files s p plan → ⊥) → checks.AsksPayment s p shelf shelf')
AsksFor (Work number count) shelf shelf' = shelf'.asked ≡ shelf.asked
AsksFor (Desk s script) shelf shelf' =
    Asks (desks.first_names s script ++ desks.files_in (lines_of (shelf.files script))) shelf.asked shelf'.asked × desks.NoneBehind s script shelf shelf'
AsksFor (Further c) shelf shelf' = further.AsksFor c shelf shelf'
