use Rattle.std.proofs.Common.{◌∙◌, ap, refl}
use Rattle.fund_top.specs.Command.{plain}
use Rattle.fund_top.specs.Words.{command_of}
use Rattle.fund_top.proofs.RunLaws.{command_due, command_ends, command_goes_on, command_reads, command_refuses, command_stays, command_usage, usage_due, usage_ends, usage_goes_on, usage_reads, usage_refuses, usage_stays, usage_told}
use Rattle.fund_top.proofs.top.run.Goals as goal

-- ---- words that are a command

pub returns-in-Some-clause-usage : goal.returns-in-Some-clause-usage
returns-in-Some-clause-usage g c = command_usage _ (plain c.in-Some.command) _ (c.in-Some.ensures.command ∙ ap command_of c.as_slice.ensures.value) c.act.result c.act.ensures.ends

pub returns-in-Some-clause-ends : goal.returns-in-Some-clause-ends
returns-in-Some-clause-ends g c = command_ends _ (plain c.in-Some.command) _ (c.in-Some.ensures.command ∙ ap command_of c.as_slice.ensures.value) c.act.result c.act.ensures.ends

pub returns-in-Some-clause-honest : goal.returns-in-Some-clause-honest
returns-in-Some-clause-honest g c = record { all_read = c.act.ensures.all_read; all_written = c.act.ensures.all_written; all_put = c.act.ensures.all_put; unfailed = c.act.ensures.unfailed }

pub returns-in-Some-clause-stays : goal.returns-in-Some-clause-stays
returns-in-Some-clause-stays g c = command_stays _ (plain c.in-Some.command) _ (c.in-Some.ensures.command ∙ ap command_of c.as_slice.ensures.value) c.act.result c.act.ensures.others c.act.ensures.kept c.act.ensures.jobs

pub returns-in-Some-clause-reads : goal.returns-in-Some-clause-reads
returns-in-Some-clause-reads g c = command_reads _ (plain c.in-Some.command) _ (c.in-Some.ensures.command ∙ ap command_of c.as_slice.ensures.value) c.act.result c.act.ensures.asked c.act.ensures.apart

pub returns-in-Some-clause-uninterrupted : goal.returns-in-Some-clause-uninterrupted
returns-in-Some-clause-uninterrupted g c = command_goes_on _ (plain c.in-Some.command) _ (c.in-Some.ensures.command ∙ ap command_of c.as_slice.ensures.value) c.act.result c.act.ensures.ends

pub returns-in-Some-clause-refused : goal.returns-in-Some-clause-refused
returns-in-Some-clause-refused g c = command_refuses _ (plain c.in-Some.command) _ (c.in-Some.ensures.command ∙ ap command_of c.as_slice.ensures.value) c.act.result c.act.ensures.ends

pub returns-in-Some-clause-complete : goal.returns-in-Some-clause-complete
returns-in-Some-clause-complete g c = command_due _ (plain c.in-Some.command) _ (c.in-Some.ensures.command ∙ ap command_of c.as_slice.ensures.value) c.act.result c.act.ensures.ends

-- ---- words that are none

pub returns-in-None-clause-usage : goal.returns-in-None-clause-usage
returns-in-None-clause-usage g c = usage_told _ _ (c.in-None.ensures.command ∙ ap command_of c.as_slice.ensures.value) c.put_line.ensures.line refl refl

pub returns-in-None-clause-ends : goal.returns-in-None-clause-ends
returns-in-None-clause-ends g c = usage_ends _ _ (c.in-None.ensures.command ∙ ap command_of c.as_slice.ensures.value)

pub returns-in-None-clause-honest : goal.returns-in-None-clause-honest
returns-in-None-clause-honest g c = record { all_read = λ other. refl; all_written = λ other. refl; all_put = λ whole. absurd whole; unfailed = λ other. refl }

pub returns-in-None-clause-stays : goal.returns-in-None-clause-stays
returns-in-None-clause-stays g c = usage_stays _ _ (c.in-None.ensures.command ∙ ap command_of c.as_slice.ensures.value) refl

pub returns-in-None-clause-reads : goal.returns-in-None-clause-reads
returns-in-None-clause-reads g c = usage_reads _ _ (c.in-None.ensures.command ∙ ap command_of c.as_slice.ensures.value)

pub returns-in-None-clause-uninterrupted : goal.returns-in-None-clause-uninterrupted
returns-in-None-clause-uninterrupted g c = usage_goes_on _ _ (c.in-None.ensures.command ∙ ap command_of c.as_slice.ensures.value)

pub returns-in-None-clause-refused : goal.returns-in-None-clause-refused
returns-in-None-clause-refused g c = usage_refuses _ _ (c.in-None.ensures.command ∙ ap command_of c.as_slice.ensures.value)

pub returns-in-None-clause-complete : goal.returns-in-None-clause-complete
returns-in-None-clause-complete g c = usage_due _ _ (c.in-None.ensures.command ∙ ap command_of c.as_slice.ensures.value)
