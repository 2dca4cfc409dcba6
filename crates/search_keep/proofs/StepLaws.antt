-- Reading the lines after the stage.
use Rattle.std.proofs.Common.{◌≡◌, ℕ, List, Option, Result, Ok, Err, ap, ◌∙◌}
use Rattle.fund_base.specs.Parsing.{◌>>=◌}
use Rattle.closing_log.specs.declared.fault.LineFault.{LineFault}
use Rattle.closing_log.specs.declared.fault.LineFault.TheVariants as lines
use Rattle.closing_log.specs.Gives.{Fails}
use Rattle.closing_log.specs.Reading.{both_at, made_at}
use Rattle.search_keep.specs.declared.lines.Start.{Start}
use Rattle.search_keep.specs.declared.saved.Version.{Version}
use Rattle.search_keep.specs.Reading.{best_at, chosen_at, last_at, next_at, position_at, saved_of}

made_is : {X Y : Type 0} (make : X → Y) (item : List ℕ → Result (X × List ℕ) (List ℕ)) (bytes : List ℕ) (r : Result (X × List ℕ) (List ℕ)) → item bytes ≡ r → made_at make item bytes ≡ (r >>= λ x. Ok (make x.0, x.1))
made_is {X = X} make item bytes r is = ap (λ (q : Result (X × List ℕ) (List ℕ)). q >>= λ x. Ok (make x.0, x.1)) is

both_is : {X Y : Type 0} (first : List ℕ → Result (X × List ℕ) (List ℕ)) (second : X → List ℕ → Result (Y × List ℕ) (List ℕ)) (bytes : List ℕ) (x : X) (rest : List ℕ) (r : Result (Y × List ℕ) (List ℕ))
    → first bytes ≡ Ok (x, rest) → second x rest ≡ r → both_at first second bytes ≡ (r >>= λ y. Ok ((x, y.0), y.1))
both_is {X = X} {Y = Y} first second bytes x rest r one is =
    ap (λ (q : Result (X × List ℕ) (List ℕ)). q >>= λ x. second x.0 x.1 >>= λ y. Ok ((x.0, y.0), y.1)) one
    ∙ ap (λ (q : Result (Y × List ℕ) (List ℕ)). q >>= λ y. Ok ((x, y.0), y.1)) is

abbrev Last : Type 0
Last = ℕ × Option (List ℕ)

abbrev last : Version → ℕ → Option (List ℕ) → List ℕ → Result (Last × List ℕ) (List ℕ)
last version tries best = last_at version tries

abbrev bests : Version → ℕ → ℕ → List ℕ → Result ((Option (List ℕ) × Last) × List ℕ) (List ℕ)
bests version tries next = both_at best_at (last version tries)

abbrev nexts : Version → ℕ → List ℕ → List ℕ → Result ((ℕ × (Option (List ℕ) × Last)) × List ℕ) (List ℕ)
nexts version tries chosen = both_at next_at (bests version tries)

abbrev positioned : Version → ℕ → List ℕ → Result ((List ℕ × (ℕ × (Option (List ℕ) × Last))) × List ℕ) (List ℕ)
positioned version tries = both_at chosen_at (nexts version tries)

module _ (h : Start) (bytes a b chosen : List ℕ) (next : ℕ) (one : chosen_at bytes ≡ Ok (chosen, a)) (two : next_at a ≡ Ok (next, b)) where
  position_is : (r : Result ((Option (List ℕ) × Last) × List ℕ) (List ℕ)) → bests h.version h.tries next b ≡ r → position_at h bytes ≡ (r >>= λ y. Ok (saved_of h (chosen, (next, y.0)), y.1))
  position_is (Ok y) is =
      made_is (saved_of h) (positioned h.version h.tries) bytes (Ok ((chosen, (next, y.0)), y.1)) (both_is chosen_at (nexts h.version h.tries) bytes chosen a (Ok ((next, y.0), y.1)) one (both_is next_at (bests h.version h.tries) a next b (Ok y) two is))
  position_is (Err stop) is =
      made_is (saved_of h) (positioned h.version h.tries) bytes (Err stop) (both_is chosen_at (nexts h.version h.tries) bytes chosen a (Err stop) one (both_is next_at (bests h.version h.tries) a next b (Err stop) two is))

  pub position_best_fails : (e : LineFault) → Fails e (best_at b) → Fails e (position_at h bytes)
  position_best_fails lines.Memory three = tt
  position_best_fails (lines.Form stop) three = position_is (Err stop.now) (ap (λ (q : Result (Option (List ℕ) × List ℕ) (List ℕ)). q >>= λ x. last h.version h.tries x.0 x.1 >>= λ y. Ok ((x.0, y.0), y.1)) three)

  pub position_last_fails : (c : List ℕ) (best : Option (List ℕ)) (stop : List ℕ) → best_at b ≡ Ok (best, c) → last_at h.version h.tries c ≡ Err stop → position_at h bytes ≡ Err stop
  position_last_fails c best stop three four = position_is (Err stop) (both_is best_at (last h.version h.tries) b best c (Err stop) three four)

  pub position_read : (c d : List ℕ) (best : Option (List ℕ)) (parts : ℕ) (log : Option (List ℕ)) → best_at b ≡ Ok (best, c) → last_at h.version h.tries c ≡ Ok ((parts, log), d)
      → position_at h bytes ≡ Ok (record { job = h.job; tries = h.tries; row = h.row; stage = h.stage; chosen = chosen; next = next; best = best; parts = parts; log = log }, d)
  position_read c d best parts log three four = position_is (Ok ((best, (parts, log)), d)) (both_is best_at (last h.version h.tries) b best c (Ok ((parts, log), d)) three four)
