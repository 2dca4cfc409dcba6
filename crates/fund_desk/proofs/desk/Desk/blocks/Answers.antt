use Rattle.std.proofs.Common.{ap, subst, sym}
use Rattle.wallet_text.specs.PlainWallet.{PlainWallet}
use Rattle.desk_machine.specs.State.{PlainDesk}
use Rattle.desk_chain.specs.PendingTxids.{AreTxidsOf}
use Rattle.fund_desk.proofs.DeskLaws.{desk_grown}
use Rattle.fund_desk.proofs.StepLaws.{blocks_left, blocks_next, blocks_reply}
use Rattle.fund_desk.proofs.desk.Desk.blocks.Goals as goal

pub invariant_of-self : goal.invariant_of-self
invariant_of-self c =
    let d : PlainDesk = record { held = c.self.inside.held; committed = c.self.inside.committed.items; jobs = c.self.inside.jobs.items } in
    let same = c.add_blocks.ensures.wallet in
    let rules = desk_grown d c.add_blocks.new.held c.self.invariant.0 c.add_blocks.ensures.held (ap (λ (w : PlainWallet). w.change) same) in
    (rules, subst (λ (w : PlainWallet). AreTxidsOf w.pending c.self.inside.txids) (sym same) c.self.invariant.1)

pub returns-clause-reply : goal.returns-clause-reply
returns-clause-reply c =
    let d : PlainDesk = record { held = c.self.inside.held; committed = c.self.inside.committed.items; jobs = c.self.inside.jobs.items } in
    blocks_reply c.add_blocks.result c.args.self.now d c.args.bytes.now c.self.view_is c.add_blocks.ensures.reply

pub returns-clause-next : goal.returns-clause-next
returns-clause-next c =
    let d : PlainDesk = record { held = c.self.inside.held; committed = c.self.inside.committed.items; jobs = c.self.inside.jobs.items } in
    blocks_next c.add_blocks.result c.args.self.now d c.args.bytes.now c.add_blocks.new.held c.self.view_is c.add_blocks.ensures.next

pub returns-clause-memory : goal.returns-clause-memory
returns-clause-memory c =
    let d : PlainDesk = record { held = c.self.inside.held; committed = c.self.inside.committed.items; jobs = c.self.inside.jobs.items } in
    blocks_left c.add_blocks.result c.args.self.now d c.args.bytes.now c.add_blocks.new.held c.self.view_is c.add_blocks.ensures.memory
