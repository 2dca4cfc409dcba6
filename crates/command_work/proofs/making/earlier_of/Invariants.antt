use Rattle.std.specs.Prelude.{◌≡◌, ◌*◌}
use Rattle.command_work.specs.Coins.{total_of, words_at}
use Rattle.command_work.specs.Load.{earlier_of}
use Rattle.command_work.proofs.making.earlier_of.Given as goal

-- two words are used for each coin, and what is made is of those before it
abbrev pub invariant-loop-index : goal.invariant-loop-index
invariant-loop-index l = record {
  words : l.words ≡ words_at l.fn.number (2 * l.index);
  earlier : l.earlier.items ≡ earlier_of l.fn.number l.index;
  total : l.total ≡ total_of l.fn.number l.index;
}
