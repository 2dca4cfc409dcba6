use Rattle.std.proofs.Common.{◌≡◌, ◌++◌, take, string_bytes}
use Rattle.command_pay.specs.Table.{shares_text}
use Rattle.command_pay.proofs.shares.put_shares.Given as goal

abbrev pub invariant-loop-place : goal.invariant-loop-place
invariant-loop-place l = string_bytes l.text ≡ string_bytes l.initial.text ++ shares_text (take l.place l.payments) (take l.place l.amounts)
