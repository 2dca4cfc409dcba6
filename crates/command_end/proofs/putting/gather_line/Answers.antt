use Rattle.std.proofs.Common.{[], ◌∷◌, ◌++◌}
use Rattle.std.specs.Prelude.{codes}
use Rattle.command_end.specs.Parts.{parts_text}
use Rattle.command_end.proofs.PutLaws.{gathered_on, lost_first, lost_later, on_err}
use Rattle.command_end.proofs.putting.gather_line.Goals as goal

pub returns-in_err-gather-clause-cut : goal.returns-in_err-gather-clause-cut
returns-in_err-gather-clause-cut g c = on_err _ _
    (lost_first g.O.Sink.tells (codes "fault ") ((parts_text c.args.words.now) ++ (10 ∷ [])) c.args.held.now.items (g.O.Sink.view c.args.out.now) (g.O.Sink.view c.gather.new.out) c.in_err-gather.ensures.cut)

pub returns-in_err-gather_parts-clause-cut : goal.returns-in_err-gather_parts-clause-cut
returns-in_err-gather_parts-clause-cut g c = on_err _ _
    (lost_later g.O.Sink.tells (codes "fault ") ((parts_text c.args.words.now) ++ (10 ∷ [])) c.args.held.now.items c.gather.new.held.items (g.O.Sink.view c.args.out.now) (g.O.Sink.view c.gather.new.out) (g.O.Sink.view c.gather_parts.new.out) c.in_ok-gather.ensures.whole
    (lost_first g.O.Sink.tells (parts_text c.args.words.now) (10 ∷ []) c.gather.new.held.items (g.O.Sink.view c.gather.new.out) (g.O.Sink.view c.gather_parts.new.out) c.in_err-gather_parts.ensures.cut))

pub returns-in_err-gather-2-clause-cut : goal.returns-in_err-gather-2-clause-cut
returns-in_err-gather-2-clause-cut g c = on_err _ _
    (lost_later g.O.Sink.tells (codes "fault ") ((parts_text c.args.words.now) ++ (10 ∷ [])) c.args.held.now.items c.gather.new.held.items (g.O.Sink.view c.args.out.now) (g.O.Sink.view c.gather.new.out) (g.O.Sink.view c.gather-2.new.out) c.in_ok-gather.ensures.whole
    (lost_later g.O.Sink.tells (parts_text c.args.words.now) (10 ∷ []) c.gather.new.held.items c.gather_parts.new.held.items (g.O.Sink.view c.gather.new.out) (g.O.Sink.view c.gather_parts.new.out) (g.O.Sink.view c.gather-2.new.out) c.in_ok-gather_parts.ensures.whole c.in_err-gather-2.ensures.cut))

pub returns-clause-whole : goal.returns-clause-whole
returns-clause-whole g c =
    gathered_on g.O.Sink.tells (codes "fault ") ((parts_text c.args.words.now) ++ (10 ∷ [])) c.args.held.now.items c.gather.new.held.items c.gather-2.new.held.items (g.O.Sink.view c.args.out.now) (g.O.Sink.view c.gather.new.out) (g.O.Sink.view c.gather-2.new.out) c.in_ok-gather.ensures.whole
    (gathered_on g.O.Sink.tells (parts_text c.args.words.now) (10 ∷ []) c.gather.new.held.items c.gather_parts.new.held.items c.gather-2.new.held.items (g.O.Sink.view c.gather.new.out) (g.O.Sink.view c.gather_parts.new.out) (g.O.Sink.view c.gather-2.new.out) c.in_ok-gather_parts.ensures.whole c.in_ok-gather-2.ensures.whole)
