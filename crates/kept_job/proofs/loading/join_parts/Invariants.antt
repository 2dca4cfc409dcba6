use Rattle.std.proofs.Common.{◌≡◌, ◌≤◌, length}
use Rattle.sha2.specs.Hashers.{Holds256}
use Rattle.kept_job.proofs.JoinLaws.{IsJoined}
use Rattle.kept_job.proofs.loading.join_parts.Given as goal

abbrev pub invariant-joining : goal.invariant-joining
invariant-joining g l = record {
  joined : g.K.Keeper.tells → IsJoined ((g.K.Keeper.view l.initial.keeper).jobs l.job) l.number l.bytes.items;
  hashed : Holds256 l.hasher l.bytes.items;
  fits : length l.bytes.items ≤ 67108864;
  same : g.K.Keeper.tells → (g.K.Keeper.view l.keeper).jobs ≡ (g.K.Keeper.view l.initial.keeper).jobs;
  faults : (g.K.Keeper.view l.keeper).faults ≡ (g.K.Keeper.view l.initial.keeper).faults;
}
