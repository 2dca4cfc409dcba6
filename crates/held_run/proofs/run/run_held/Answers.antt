use Rattle.std.proofs.Common.{◌≡◌, ◌∙◌, ℕ, List, [], Option, map, ap, refl, sym, subst, string_bytes}
use Rattle.std.specs.Prelude.{Bool, ◌≢◌}
use Rattle.fund_shelf.specs.Causes.{ShelfView, SinkView}
use Rattle.fund_shelf.specs.SureSink.{view_of as sink_view}
use Rattle.fund_outside.specs.Kept.{KeeperView}
use Rattle.fund_outside.specs.SureKeeper.{view_of as keeper_view}
use Rattle.command_end.specs.declared.status.Status.TheVariants as statuses
use Rattle.fund_top.specs.Outside.{outside}
use Rattle.fund_top.specs.Words.{Command, command_of}
use Rattle.held_run.specs.Held.{IsBeside, KeepsFiles, held_view}
use Rattle.held_run.proofs.RunLaws.{Promises, is_run, keeps_others, none_unwritten, other_count, other_file, run_told}
use Rattle.held_run.proofs.run.run_held.Goals as goal

pub returns-clause-run : goal.returns-clause-run
returns-clause-run g c = λ stands command words writes.
    let s = c.new-shelf.result in
    let shelf : ShelfView = held_view (g.H.Shelf.view s.shelf) s.request.items s.log.items (map string_bytes s.asked.items) in
    let s' = c.run-status.new.shelf in
    let shelf' : ShelfView = held_view (g.H.Shelf.view s'.shelf) s'.request.items s'.log.items (map string_bytes s'.asked.items) in
    let sink : SinkView = sink_view c.new-out.result in
    let sink' : SinkView = sink_view c.run-status.new.out in
    let keeper : KeeperView = keeper_view c.new-keeper.result in
    let keeper' : KeeperView = keeper_view c.run-status.new.keeper in
    let o : Option Command = command_of c.args.words.now.items in
    let e = c.run-status.ensures in
    let promises : Promises (outside g.H.Shelf.tells (Unit {0}) (Unit {0}) shelf shelf' sink sink' keeper keeper') o c.run-status.result =
    record { usage = e.usage; ends = e.ends; honest = e.honest; stays = e.stays; reads = e.reads; refused = e.refused; complete = e.complete } in
    let apart : c.run-status.result ≢ statuses.WriteFault = none_unwritten g.H.Shelf.tells stands command o shelf shelf' sink sink' keeper keeper' c.run-status.result writes words e.usage.usage.1 refl refl refl refl e.ends.write_fault in
    let after : ShelfView = g.H.Shelf.view c.into_files.result in
    let left : IsBeside after shelf' = record {
      request = s'.request.items;
      log = s'.log.items;
      names = map string_bytes s'.asked.items;
      is = ap (λ (v : ShelfView). held_view v s'.request.items s'.log.items (map string_bytes s'.asked.items)) (sym c.into_files.ensures);
    } in
    run_told g.H.Shelf.tells stands command c.args.request.items (g.H.Shelf.view c.args.files) after c.run-status.result c.written.result.now c.log.result.now c.run_of-ended.result c.run_of-ended.ensures.status c.run_of-ended.ensures.said c.run_of-ended.ensures.log
    (is_run g.H.Shelf.tells stands command (g.H.Shelf.view c.args.files) after c.args.request.items c.written.result.now c.log.result.now o shelf shelf' sink sink' keeper keeper' c.run-status.result promises
    words c.new-shelf.ensures c.new-out.ensures c.new-keeper.ensures.view c.written.ensures c.log.ensures apart refl refl left)

pub returns-clause-files : goal.returns-clause-files
returns-clause-files g c = λ stands command words writes.
    let s = c.new-shelf.result in
    let shelf : ShelfView = held_view (g.H.Shelf.view s.shelf) s.request.items s.log.items (map string_bytes s.asked.items) in
    let s' = c.run-status.new.shelf in
    let shelf' : ShelfView = held_view (g.H.Shelf.view s'.shelf) s'.request.items s'.log.items (map string_bytes s'.asked.items) in
    let sink : SinkView = sink_view c.new-out.result in
    let sink' : SinkView = sink_view c.run-status.new.out in
    let keeper : KeeperView = keeper_view c.new-keeper.result in
    let keeper' : KeeperView = keeper_view c.run-status.new.keeper in
    let o : Option Command = command_of c.args.words.now.items in
    let files : ShelfView = g.H.Shelf.view c.args.files in
    let given_back : g.H.Shelf.view c.into_files.result ≡ g.H.Shelf.view s'.shelf = c.into_files.ensures in
    let e = c.run-status.ensures in
    let apart : c.run-status.result ≢ statuses.WriteFault = none_unwritten g.H.Shelf.tells stands command o shelf shelf' sink sink' keeper keeper' c.run-status.result writes words e.usage.usage.1 refl refl refl refl e.ends.write_fault in
    let stays : KeepsFiles g.H.Shelf.tells files (g.H.Shelf.view s'.shelf) = record {
      files = λ told name other.
          sym (other_file (g.H.Shelf.view s'.shelf).files s'.request.items s'.log.items name other)
          ∙ keeps_others g.H.Shelf.tells stands command o shelf.files shelf'.files writes words (λ none. ap (λ (v : ShelfView). v.files) (e.usage.untouched (e.usage.usage.1 none))) e.stays.others told name other.1
          ∙ ap (λ (v : ShelfView). v.files name) c.new-shelf.ensures
          ∙ other_file files.files c.args.request.items [] name other;
      writes = λ name other.
          sym (other_count (g.H.Shelf.view s'.shelf).writes name other)
          ∙ ap (λ (f : List ℕ → ℕ). f name) (e.honest.all_written apart)
          ∙ ap (λ (v : ShelfView). v.writes name) c.new-shelf.ensures
          ∙ other_count files.writes name other;
    } in
    subst (λ (v : ShelfView). KeepsFiles g.H.Shelf.tells files v) (sym given_back) stays
