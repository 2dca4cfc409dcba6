use Rattle.std.proofs.Common.{◌∙◌, Err, ap, sym}
use Rattle.desk_machine.specs.Machine.{plan_by}
use Rattle.desk_machine.specs.Replies.{plain_refusal}
use Rattle.desk_machine.specs.State.{desk_of}
use Rattle.desk_machine.specs.declared.reply.Refusal.{Refusal}
use Rattle.request_text.specs.RequestText.{request_of}
use Rattle.fund_desk.proofs.opening.make.Goals as goal

pub returns-in-Ok-request_refusal : goal.returns-in-Ok-request_refusal
returns-in-Ok-request_refusal c = record {
  made =
      ap (plan_by (desk_of c.args.held.now c.args.committed.now)) (c.in-Ok-request_refusal.ensures.other (request_of c.args.bytes.now) c.in-Err.ensures.exact)
      ∙ sym (ap (λ (r : Refusal). Err (plain_refusal r)) c.in-Ok-request_refusal.ensures.refusal);
}
