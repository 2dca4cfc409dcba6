use Rattle.std.proofs.Common.{ℕ, ◌-◌, List, take, ltb, length, ◌<◌}
use Rattle.std.proofs.lemmas.List.Elements.{All-take}
use Rattle.block_feed.proofs.FeedLaws.{file_again, file_found, file_none, fits_from, none_file}
use Rattle.block_feed.proofs.Refusals.{next_refused}
use Rattle.block_feed.proofs.Refused.{next_there}
use Rattle.block_feed.proofs.laws.judges_records.Goals as goal

pub returns-clause-end : goal.returns-clause-end
returns-clause-end c = λ file state. (file_none 1_073_741_824 file state.hash state.height state.place, λ ends. none_file 1_073_741_824 file state.hash state.height state.place ends.0 ends.1)

pub returns-clause-block : goal.returns-clause-block
returns-clause-block c = λ file state block behind fits. file_found 1_073_741_824 file state.hash state.height state.place block behind (fits_from 1_073_741_824 state.place (behind - state.place) file (All-take (λ b. b < 256) 1_073_741_824 file fits))

pub returns-clause-read : goal.returns-clause-read
returns-clause-read c = λ file rest state block begins within.
    let r = file_again 1_073_741_824 file state.hash state.height state.place block rest begins within in
    (r.behind, r.reads, r.left)

pub returns-clause-fault : goal.returns-clause-fault
returns-clause-fault c = λ file state fault fits.
    let bytes : List ℕ = take 1_073_741_824 file in
    let seen = All-take (λ b. b < 256) 1_073_741_824 file fits in
    (next_refused (ltb 1_073_741_824 (length file)) bytes state.hash state.height state.place fault seen, next_there (ltb 1_073_741_824 (length file)) bytes state.hash state.height state.place fault seen)
