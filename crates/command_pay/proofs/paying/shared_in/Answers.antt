use Rattle.command_pay.proofs.paying.shared_in.Goals as goal

pub unreachable-requires : goal.unreachable-requires
unreachable-requires c =
    let memory = c.in-Err-Form.ensures.only c.requires.0 c.requires.1 in
    let form = c.in-Err-Form.field-0-is in
    cc
