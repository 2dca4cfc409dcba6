-- What reading a saved text tells is what the bytes are.
use Rattle.std.proofs.Common.{◌≡◌, ℕ, ◌+◌, ◌-◌, ◌<◌, List, [], ◌∷◌, length, Result, Ok, Err, refl, sym, ap, subst, ◌∙◌, arith}
use Rattle.std.specs.Prelude.{IfOk, IfErr, MatchResult}
use Rattle.fund_base.specs.Parsing.{◌>>=◌}
use Rattle.closing_log.specs.Exact.{IsFirstFault}
use Rattle.closing_log.proofs.FirstFaults.{first_fault, one_meaning, read_means, read_stops, stop_within}
use Rattle.search_keep.specs.declared.fault.SavedFault.{SavedFault}
use Rattle.search_keep.specs.declared.fault.SavedFault.TheVariants as faults
use Rattle.search_keep.specs.declared.lines.Start.{Start}
use Rattle.search_keep.specs.Reading.{end_of, position_at, position_end, saved_at, start_at}
use Rattle.search_keep.specs.SavedText.{IsSavedText, PlainSaved}
use Rattle.search_keep.specs.Reported.{IsSavedTextFault, IsPlaceOf, Agrees}
use Rattle.search_keep.proofs.TextLaws.{text_law}

-- a text has one position
pub one_saved : (bytes : List ℕ) (a b : PlainSaved) → IsSavedText bytes a → IsSavedText bytes b → a ≡ b
one_saved bytes a b first second = one_meaning saved_at IsSavedText text_law bytes a b first second

fault_at : (bytes stop : List ℕ) (place : ℕ) → saved_at bytes ≡ Err stop → place + length stop ≡ length bytes → IsFirstFault IsSavedText bytes place
fault_at bytes stop place e place-is = first_fault saved_at IsSavedText text_law bytes stop place e place-is

-- ---- what the reader tells

tell_fault : (bytes stop : List ℕ) (f : SavedFault) → f ≡ faults.Form (length bytes - length stop) → saved_at bytes ≡ Err stop → Agrees bytes (Err f) (saved_at bytes)
tell_fault bytes stop f is e =
    let place : IsPlaceOf bytes (saved_at bytes) (length bytes - length stop) = record { stop = stop; is = e; place_is = omega (arith, stop_within IsSavedText bytes stop (read_stops saved_at IsSavedText text_law bytes stop e)) } in
    subst (λ (g : SavedFault). Agrees bytes (Err g) (saved_at bytes)) (sym is) place

pub tell_start : (bytes stop : List ℕ) (f : SavedFault) → f ≡ faults.Form (length bytes - length stop) → start_at bytes ≡ Err stop → Agrees bytes (Err f) (saved_at bytes)
unfolding saved_at
tell_start bytes stop f is e = tell_fault bytes stop f is (ap (λ (r : Result (Start × List ℕ) (List ℕ)). r >>= λ x. position_end x.0 x.1) e)

behind_start : (bytes : List ℕ) (x : Start × List ℕ) (r : Result PlainSaved (List ℕ)) → start_at bytes ≡ Ok x → position_end x.0 x.1 ≡ r → saved_at bytes ≡ r
unfolding saved_at
behind_start bytes x r e is = ap (λ (r : Result (Start × List ℕ) (List ℕ)). r >>= λ x. position_end x.0 x.1) e ∙ is

abbrev ends : Result (PlainSaved × List ℕ) (List ℕ) → Result PlainSaved (List ℕ)
ends r = r >>= λ y. end_of y.0 y.1

pub tell_position : (bytes rest stop : List ℕ) (start : Start) (f : SavedFault) → f ≡ faults.Form (length bytes - length stop) → start_at bytes ≡ Ok (start, rest) → position_at start rest ≡ Err stop → Agrees bytes (Err f) (saved_at bytes)
tell_position bytes rest stop start f is e p = tell_fault bytes stop f is (behind_start bytes (start, rest) (Err stop) e (ap ends p))

end_fails : (s : PlainSaved) (after : List ℕ) → 0 < length after → end_of s after ≡ Err after
end_fails s [] some = absurd (omega arith)
end_fails s (b ∷ after) some = refl

pub tell_end : (bytes rest after : List ℕ) (start : Start) (s : PlainSaved) (f : SavedFault) → f ≡ faults.Form (length bytes - length after) → start_at bytes ≡ Ok (start, rest) → position_at start rest ≡ Ok (s, after) → 0 < length after → Agrees bytes (Err f) (saved_at bytes)
tell_end bytes rest after start s f is e p some = tell_fault bytes after f is (behind_start bytes (start, rest) (Err after) e (ap ends p ∙ end_fails s after some))

pub tell_saved : (bytes rest after : List ℕ) (start : Start) (s : PlainSaved) → start_at bytes ≡ Ok (start, rest) → position_at start rest ≡ Ok (s, after) → after ≡ [] → saved_at bytes ≡ Ok s
tell_saved bytes rest after start s e p nothing = behind_start bytes (start, rest) (Ok s) e (ap ends p ∙ ap (end_of s) nothing)

-- ---- the clauses

pub tells_found : (bytes : List ℕ) (r : Result PlainSaved SavedFault) → Agrees bytes r (saved_at bytes) → IfOk r (λ s. IsSavedText bytes s)
tells_found bytes (Ok s) e = read_means saved_at IsSavedText text_law bytes s e
tells_found bytes (Err f) e = tt

pub tells_only : (bytes : List ℕ) (r : Result PlainSaved SavedFault) → Agrees bytes r (saved_at bytes) → (s : PlainSaved) → IsSavedText bytes s → MatchResult r (λ read. read ≡ s) (λ e. e ≡ faults.Memory)
tells_only bytes (Ok read) e s i = one_saved bytes read s (read_means saved_at IsSavedText text_law bytes read e) i
tells_only bytes (Err faults.Memory) e s i = refl
tells_only bytes (Err (faults.Form place)) e s i = absurd ((fault_at bytes e.stop place e.is e.place_is).whole s i)
tells_only bytes (Err (faults.JobElse a b)) e s i = absurd e
tells_only bytes (Err faults.Spent) e s i = absurd e
tells_only bytes (Err faults.IllFormed) e s i = absurd e

pub tells_fault : (bytes : List ℕ) (r : Result PlainSaved SavedFault) → Agrees bytes r (saved_at bytes) → IfErr r (IsSavedTextFault bytes)
tells_fault bytes (Ok s) e = tt
tells_fault bytes (Err faults.Memory) e = tt
tells_fault bytes (Err (faults.Form place)) e = fault_at bytes e.stop place e.is e.place_is
tells_fault bytes (Err (faults.JobElse a b)) e = absurd e
tells_fault bytes (Err faults.Spent) e = absurd e
tells_fault bytes (Err faults.IllFormed) e = absurd e
