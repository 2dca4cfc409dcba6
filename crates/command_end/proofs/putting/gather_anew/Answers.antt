use Rattle.std.proofs.Common.{◌∙◌, ◌++◌, [], ◌∷◌, List, ℕ, ap}
use Rattle.command_end.proofs.PutLaws.{cut_first, gathered_put, on_err}
use Rattle.command_end.proofs.putting.gather_anew.Goals as goal

pub returns-in_err-put_held-clause-cut : goal.returns-in_err-put_held-clause-cut
returns-in_err-put_held-clause-cut g c = on_err _ _
    (cut_first g.O.Sink.tells c.args.held.now.items (c.args.byte ∷ []) (g.O.Sink.view c.args.out.now) (g.O.Sink.view c.put_held.new.out) c.in_err-put_held.ensures.cut)

pub returns-clause-whole : goal.returns-clause-whole
returns-clause-whole g c =
    gathered_put g.O.Sink.tells (c.args.byte ∷ []) c.args.held.now.items c.push.new.self.items (g.O.Sink.view c.args.out.now) (g.O.Sink.view c.put_held.new.out)
    (c.push.ensures.items ∙ ap (λ (l : List ℕ). l ++ (c.args.byte ∷ [])) c.in_ok-put_held.ensures.none) c.in_ok-put_held.ensures.whole
