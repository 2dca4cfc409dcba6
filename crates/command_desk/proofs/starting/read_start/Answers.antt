use Rattle.command_end.specs.Names.{plain_sources}
use Rattle.command_desk.proofs.StopLaws.{chain_behind, in_order, script_asked, script_behind}
use Rattle.command_desk.proofs.starting.read_start.Goals as goal

pub returns-in-Ok-clause-none_behind : goal.returns-in-Ok-clause-none_behind
returns-in-Ok-clause-none_behind g c = λ t.
    let s = plain_sources c.args.sources.now in
    let old = g.H.Shelf.view c.args.shelf.now in
    let mid = g.H.Shelf.view c.read_whole_chain.new.shelf in
    let new = g.H.Shelf.view c.start_with.new.shelf in
    script_behind s c.args.script.now old mid new (in_order s c.args.script.now old mid new g.H.Shelf.tells c.in-Ok.held c.in-Ok.ensures.held t) (script_asked s c.args.script.now old mid new (c.read_whole_chain.ensures.asked t) (c.start_with.ensures.asked t))

pub returns-in-Err-clause-none_behind : goal.returns-in-Err-clause-none_behind
returns-in-Err-clause-none_behind g c = λ t.
    chain_behind (plain_sources c.args.sources.now) c.args.script.now (g.H.Shelf.view c.args.shelf.now) (g.H.Shelf.view c.read_whole_chain.new.shelf) (c.read_whole_chain.ensures.refused_alone t) (c.read_whole_chain.ensures.asked t)
