use Rattle.std.proofs.Common.{List, ◌≡◌, subst}
use Rattle.std.specs.Prelude.{IsSome, ◌⊎◌}
use Rattle.psbt_codec.specs.Psbt.{Pair}
use Rattle.psbt_codec.specs.Reading.{value_of, version_of}
use Rattle.psbt_codec.specs.declared.pairs.Part.TheVariants.{Global}
use Rattle.psbt_codec.proofs.FirstPairLaws.{first_by}
use Rattle.psbt_codec.proofs.MapReads.{map_room}
use Rattle.psbt_codec.proofs.reading.maps_of.Goals as goal

pub behind_global-requires : goal.behind_global-requires
behind_global-requires c =
    let room = map_room Global c.args.cursor.now c.in_ok-pairs.pairs.items c.pairs_of.new.cursor c.fork-front.ensures.bytes c.fork-front.ensures.bounded c.in_ok-pairs.ensures.gives in
    record { room = rw (c.deref.ensures.value, c.place.ensures, c.fork-front.ensures.same) room }

pub returns-clause-begun : goal.returns-clause-begun
returns-clause-begun c = λ memory. first_by c.args.cursor.now c.in_ok-pairs.pairs.items c.pairs_of.new.cursor c.in_ok-pairs.ensures.gives (subst (λ (l : List Pair). IsSome (value_of 0 l) ⊎ (version_of l ≡ 2)) c.deref.ensures.value (c.behind_global.ensures.short memory))
