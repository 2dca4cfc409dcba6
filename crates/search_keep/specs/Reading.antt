-- Reading line by line, from left to right. What can't be read is answered by the bytes that are left where no text
-- goes on as they do.
use Rattle.std.specs.Prelude.{ℕ, ◌==◌, ◌+◌, min, List, [], ◌∷◌, codes, Option, Some, None, Result, Ok, Err, if◌then◌else◌, ⊤}
use Rattle.closing_log.specs.declared.log.Stage.{Stage}
use Rattle.closing_log.specs.Lines.{behind_at, ended_at, number_line, positive_line}
use Rattle.closing_log.specs.Reading.{both_at, choice_at, digest_at, made_at, places_at, stage_at, word_at}
use Rattle.fund_base.specs.Parsing.{◌>>=◌}
use Rattle.search_keep.specs.declared.lines.Start.{Start}
use Rattle.search_keep.specs.declared.saved.Version.{Version}
use Rattle.search_keep.specs.declared.saved.Version.TheVariants.{First, Second}
use Rattle.search_keep.specs.SavedText.{PlainSaved, version_word}

-- ---- parts of lines

-- places up to a line feed, or this word in their stead, which begins with the byte m
unfoldable pub marked_line : ℕ → List ℕ → List ℕ → Result (Option (List ℕ) × List ℕ) (List ℕ)
marked_line m word [] = Err []
marked_line m word (b ∷ rest) =
    if b == m then made_at (λ (u : ⊤). None) (word_at word) (b ∷ rest) else made_at (λ (ps : List ℕ). Some ps) places_at (b ∷ rest)

abbrev pub or_none : Option (List ℕ) → List ℕ
or_none None = []
or_none (Some ps) = ps

abbrev pub chosen_line : List ℕ → Result (List ℕ × List ℕ) (List ℕ)
chosen_line = made_at or_none (marked_line 45 (codes "-\n"))

abbrev pub best_line : List ℕ → Result (Option (List ℕ) × List ℕ) (List ℕ)
best_line = marked_line 110 (codes "none\n")

-- ---- the lines

abbrev pub start_of : Version × (List ℕ × (ℕ × (ℕ × Stage))) → Start
start_of v = record { version = v.0; job = v.1.0; tries = v.1.1.0; row = v.1.1.1.0; stage = v.1.1.1.1 }

-- the lines up to the stage
abbrev pub versions : List Version
versions = First ∷ Second ∷ []

abbrev pub version_at : List ℕ → Result (Version × List ℕ) (List ℕ)
version_at bytes = choice_at version_word versions bytes bytes

abbrev pub version_line : List ℕ → Result (Version × List ℕ) (List ℕ)
version_line = behind_at (codes "fund-saved ") (ended_at version_at)

abbrev pub job_at : List ℕ → Result (List ℕ × List ℕ) (List ℕ)
job_at = behind_at (codes "job ") (ended_at digest_at)

abbrev pub tries_at : List ℕ → Result (ℕ × List ℕ) (List ℕ)
tries_at = behind_at (codes "tries ") (number_line 18_446_744_073_709_551_615)

abbrev pub row_at : List ℕ → Result (ℕ × List ℕ) (List ℕ)
row_at = behind_at (codes "row ") (number_line 255)

abbrev pub stage_line : List ℕ → Result (Stage × List ℕ) (List ℕ)
stage_line = behind_at (codes "stage ") (ended_at stage_at)

abbrev pub start_at : List ℕ → Result (Start × List ℕ) (List ℕ)
start_at = made_at start_of (both_at version_line (λ v. both_at job_at (λ j. both_at tries_at (λ n. both_at row_at (λ r. stage_line)))))

-- there is at most one part more than there are tries
abbrev pub most_parts : ℕ → ℕ
most_parts tries = min tries 4_294_967_294 + 1

abbrev pub saved_of : Start → List ℕ × (ℕ × (Option (List ℕ) × (ℕ × Option (List ℕ)))) → PlainSaved
saved_of h v = record { job = h.job; tries = h.tries; row = h.row; stage = h.stage; chosen = v.0; next = v.1.0; best = v.1.1.0; parts = v.1.1.1.0; log = v.1.1.1.1 }

-- the lines behind the stage
abbrev pub chosen_at : List ℕ → Result (List ℕ × List ℕ) (List ℕ)
chosen_at = behind_at (codes "chosen ") chosen_line

abbrev pub next_at : List ℕ → Result (ℕ × List ℕ) (List ℕ)
next_at = behind_at (codes "next ") (number_line 4_294_967_295)

abbrev pub best_at : List ℕ → Result (Option (List ℕ) × List ℕ) (List ℕ)
best_at = behind_at (codes "best ") best_line

abbrev pub parts_at : ℕ → List ℕ → Result (ℕ × List ℕ) (List ℕ)
parts_at tries = behind_at (codes "parts ") (positive_line (most_parts tries))

-- the line of the log's digest, which the second version has
abbrev pub log_at : Version → List ℕ → Result (Option (List ℕ) × List ℕ) (List ℕ)
log_at First = made_at (λ (u : ⊤). None) (word_at [])
log_at Second = made_at (λ (digest : List ℕ). Some digest) (behind_at (codes "log ") (ended_at digest_at))

-- the last lines
abbrev pub last_at : Version → ℕ → List ℕ → Result ((ℕ × Option (List ℕ)) × List ℕ) (List ℕ)
last_at version tries = both_at (parts_at tries) (λ p. log_at version)

abbrev pub position_at : Start → List ℕ → Result (PlainSaved × List ℕ) (List ℕ)
position_at h = made_at (saved_of h) (both_at chosen_at (λ c. both_at next_at (λ n. both_at best_at (λ b. last_at h.version h.tries))))

-- ---- the whole

-- nothing stands behind the last line
abbrev pub end_of : PlainSaved → List ℕ → Result PlainSaved (List ℕ)
end_of s [] = Ok s
end_of s (b ∷ rest) = Err (b ∷ rest)

abbrev pub position_end : Start → List ℕ → Result PlainSaved (List ℕ)
position_end h bytes = position_at h bytes >>= λ y. end_of y.0 y.1

unfoldable pub saved_at : List ℕ → Result PlainSaved (List ℕ)
saved_at bytes = start_at bytes >>= λ x. position_end x.0 x.1
