-- What is printed to lines, and which files they name, where a line more is done.
use Rattle.std.specs.Prelude.{ℕ, ◌≡◌, ◌≤◌, List, [], ◌∷◌, ◌++◌, Contains, Bool, true, false, length, nat_lt, Option, Some, None, IfSome}
use Rattle.std.specs.List.{list_any}
use Rattle.std.specs.Option.{option_map_or}
use Rattle.std.proofs.Common.{refl, sym, ap, ◌∙◌, subst, append_assoc}
use Rattle.std.proofs.lemmas.Bool.{le-ltb, lt-ltb, or_left, or_right}
use Rattle.std.proofs.lemmas.List.{append-nil}
use Rattle.std.proofs.lemmas.List.Elements.{Contains-append_left, Contains-append_right, Contains-push}
use Rattle.desk_machine.specs.State.{PlainDesk}
use Rattle.command_desk.specs.Line.{Line, Open, Turn, Commit, Close, Release, Blocks, Pending, Other, Wanted, line_of, wanted}
use Rattle.command_desk.specs.Asked.{file_in, files_in}
use Rattle.command_desk.specs.Course.{Answers, Course, IsLong, IsWithin, file_name}
use Rattle.command_desk.specs.Outcome.{is_long}

-- ---- one line more

pub course_more : (files : List ℕ → List ℕ) (front : List (List ℕ)) (line : List ℕ) (d mid e : PlainDesk) (printed reply : List ℕ) → Course files front d printed mid → Answers files (line_of line) mid reply e → Course files (front ++ line ∷ []) d (printed ++ reply) e
course_more files [] line d mid e printed reply c a =
    (reply, e, [], subst (λ (x : PlainDesk). Answers files (line_of line) x reply e) c.1 a, (refl, refl), ap (λ (p : List ℕ). p ++ reply) c.0 ∙ sym (append-nil reply))
course_more files (l ∷ front) line d mid e printed reply c a =
    (c.0, c.1, c.2 ++ reply, c.3, course_more files front line c.1 mid e c.2 reply c.4 a, ap (λ (p : List ℕ). p ++ reply) c.5 ∙ append_assoc c.0 c.2 reply)

pub files_append : (front rest : List (List ℕ)) → files_in (front ++ rest) ≡ files_in front ++ files_in rest
files_append [] rest = refl
files_append (l ∷ front) rest =
    ap (λ (names : List (List ℕ)). file_in (wanted (line_of l)) ++ names) (files_append front rest)
    ∙ sym (append_assoc (file_in (wanted (line_of l))) (files_in front) (files_in rest))

pub files_more : (front : List (List ℕ)) (line : List ℕ) → files_in (front ++ line ∷ []) ≡ files_in front ++ file_in (wanted (line_of line))
files_more front line = files_append front (line ∷ []) ∙ ap (λ (names : List (List ℕ)). files_in front ++ names) (append-nil (file_in (wanted (line_of line))))

-- ---- a line among others

pub stands_there : (front rest : List (List ℕ)) (line : List ℕ) → Contains (front ++ line ∷ rest) line
stands_there front rest line = Contains-append_right front (line ∷ rest) line (Contains-append_left (line ∷ []) rest line (Contains-push [] line))

-- ---- the file of a line

pub names_file : (line : Line) (want : Wanted) → wanted line ≡ Some want → file_name line ≡ want.file
names_file (Open name file) want is = ap (λ (o : Option Wanted). option_map_or (λ (w : Wanted). w.file) o []) is
names_file (Blocks file) want is = ap (λ (o : Option Wanted). option_map_or (λ (w : Wanted). w.file) o []) is
names_file (Turn name tries) want is = absurd (cc)
names_file (Commit name) want is = absurd (cc)
names_file (Close name) want is = absurd (cc)
names_file (Release txid) want is = absurd (cc)
names_file (Pending hex) want is = absurd (cc)
names_file Other want is = absurd (cc)

within_by : (files : List ℕ → List ℕ) (o : Option Wanted) → IfSome o (λ (w : Wanted). length (files w.file) ≤ w.most) → option_map_or (λ (w : Wanted). nat_lt w.most (length (files w.file))) o false ≡ false
within_by files None h = refl
within_by files (Some w) h = le-ltb w.most (length (files w.file)) h

pub within_long : (files : List ℕ → List ℕ) (line : List ℕ) → IsWithin files (line_of line) → is_long files line ≡ false
within_long files line h = within_by files (wanted (line_of line)) h

pub long_is : (files : List ℕ → List ℕ) (line : List ℕ) → IsLong files (line_of line) → is_long files line ≡ true
long_is files line h =
    ap (λ (o : Option Wanted). option_map_or (λ (w : Wanted). nat_lt w.most (length (files w.file))) o false) h.names
    ∙ lt-ltb h.want.most (length (files h.want.file)) h.long

-- ---- which of the lines is too long

pub none_long : (files : List ℕ → List ℕ) (lines : List (List ℕ)) (d e : PlainDesk) (printed : List ℕ) → Course files lines d printed e → list_any (is_long files) lines ≡ false
none_long files [] d e printed c = refl
none_long files (l ∷ lines) d e printed c = rw (within_long files l c.3.0) (none_long files lines c.1 e c.2 c.4)

pub some_long : (files : List ℕ → List ℕ) (front rest : List (List ℕ)) (line : List ℕ) → is_long files line ≡ true → list_any (is_long files) (front ++ line ∷ rest) ≡ true
some_long files [] rest line h = or_left (is_long files line) (list_any (is_long files) rest) h
some_long files (l ∷ front) rest line h = or_right (is_long files l) (list_any (is_long files) (front ++ line ∷ rest)) (some_long files front rest line h)

-- the first of some lines is too long, if there is one
abbrev pub first_is_long : (List ℕ → List ℕ) → List (List ℕ) → Bool
first_is_long files [] = false
first_is_long files (line ∷ lines) = is_long files line

-- the first of lines that were replied to
pub first_within : (files : List ℕ → List ℕ) (lines : List (List ℕ)) (d e : PlainDesk) (printed : List ℕ) → Course files lines d printed e → first_is_long files lines ≡ false
first_within files [] d e printed c = refl
first_within files (l ∷ lines) d e printed c = within_long files l c.3.0

-- the same, and of one that was begun to be replied to
pub first_begun : (files : List ℕ → List ℕ) (front rest : List (List ℕ)) (line : List ℕ) (d e f : PlainDesk) (printed reply : List ℕ) → Course files front d printed e → Answers files (line_of line) e reply f → first_is_long files (front ++ line ∷ rest) ≡ false
first_begun files [] rest line d e f printed reply c a = within_long files line a.0
first_begun files (l ∷ front) rest line d e f printed reply c a = within_long files l c.3.0
