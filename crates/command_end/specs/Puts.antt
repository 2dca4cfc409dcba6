-- What becomes of bytes that are put.
use Rattle.std.specs.Prelude.{ℕ, ◌≡◌, ◌≤◌, ◌⊎◌, List, ◌++◌}
use Rattle.fund_shelf.specs.Causes.{HasPart, Rose, SinkView}

-- A sink has got these bytes whole, and no count changed.
pub record IsWhole (told : Type 0) (bytes : List ℕ) (old new : SinkView) : Type 0 where
  pub written : told → new.written ≡ old.written ++ bytes
  pub faults : new.faults ≡ old.faults
  pub refusals : new.refusals ≡ old.refusals

-- These bytes stand behind those that were held: the first of all of them went to the sink, the others are held now, and no
-- count changed.
pub record IsGathered (told : Type 0) (bytes held held' : List ℕ) (old new : SinkView) : Type 0 where
  pub sent : List ℕ
  pub order : held ++ bytes ≡ sent ++ held'
  pub written : told → new.written ≡ old.written ++ sent
  pub faults : new.faults ≡ old.faults
  pub refusals : new.refusals ≡ old.refusals

-- A sink failed or found no memory, and has got a part of these bytes. The count of that rose, and none fell.
pub record IsCut (told : Type 0) (bytes : List ℕ) (old new : SinkView) : Type 0 where
  pub part : told → HasPart old.written bytes new.written
  pub rose : Rose old.faults new.faults ⊎ Rose old.refusals new.refusals
  pub faults : old.faults ≤ new.faults
  pub refusals : old.refusals ≤ new.refusals
