-- Why the command stops, file by file.
use Rattle.std.proofs.Common.{◌≡◌, ◌≢◌, ◌∙◌, ℕ, List, [], ◌∷◌, Result, Ok, Err, Vec, Global, refl, sym, ap, subst}
use Rattle.std.specs.Prelude.{IfErr, IfOk, MatchResult}
use Rattle.coin_book.specs.History.{History}
use Rattle.fund_shelf.proofs.Asking.{asks_first, asks_then}
use Rattle.fund_shelf.proofs.Outside.{rose_earlier}
use Rattle.fund_shelf.specs.Causes.{Asks, OnlyReads, ShelfView}
use Rattle.fund_shelf.specs.declared.pieces.ReadError.{ReadError}
use Rattle.fund_shelf.specs.declared.pieces.ReadError.TheVariants as reads
use Rattle.fund_files.specs.Joined.{IsChainOf}
use Rattle.fund_files.specs.Chain.{history_of}
use Rattle.fund_files.specs.declared.chain.Chain.{Chain}
use Rattle.fund_files.specs.declared.refusal.File.{File}
use Rattle.fund_files.specs.declared.refusal.File.TheVariants.{Wallet, Blocks}
use Rattle.fund_files.specs.declared.stop.Stop.{Stop as ChainStop}
use Rattle.fund_files.specs.declared.stop.Stop.TheVariants as chains
use Rattle.command_end.specs.Names.{Sources}
use Rattle.command_complete.specs.Asked.{AsksChain, AsksInOrder, AsksUpTo}
use Rattle.command_complete.specs.Outcome.{HasBook, IsTooLong, IsWithin}
use Rattle.command_complete.specs.Made.{IsCompletedFile, IsRefused, IsSpelled, text_of}
use Rattle.command_complete.specs.Statuses.{IsPrinted}
use Rattle.command_complete.specs.Stops.{StopsAtFile, StopsFor, StopsReading, TellsRead, read_stop_of}
use Rattle.command_complete.specs.declared.stop.Stop.{Stop}
use Rattle.command_complete.specs.declared.stop.Stop.TheVariants as stops

module _ (told : Type 0) (s : Sources) (name : List ℕ) (old middle new : ShelfView) (k : Chain) (held : IsChainOf told (old.files s.wallet) (old.files s.blocks) k) (only : OnlyReads told old middle) where
  book_is : k.book ≡ history_of k.wallet held.held.blocks
  book_is = ap (λ (x : Chain). x.book) held.held.is

  pub has_book : told → HasBook old.files s k.book
  has_book t = record { wallet = k.wallet; blocks = held.held.blocks; chain = held.chain t; is = book_is }

  back : (P : List ℕ → Type 0) → told → P (middle.files name) → P (old.files name)
  back P t h = subst (λ (files : List ℕ → List ℕ). P (files name)) (only.same t) h

  -- at the reading of the PSBT file
  pub reading_stops : (stop : Stop) → StopsReading told name middle new stop → StopsFor told s name old new stop
  reading_stops (stops.Chain stop) h = absurd h
  reading_stops stops.Read h = (rose_earlier _ _ _ (only.reads name) h, λ t. (k.book, has_book t))
  reading_stops stops.TooLong h = λ t. ((k.book, has_book t), back IsTooLong t (h t))
  reading_stops (stops.Refused refusal) h = absurd h
  reading_stops stops.Memory h = tt

  module _ (file : List ℕ) (read : told → file ≡ middle.files name) (fits : told → IsWithin (middle.files name)) where
    file_is : told → file ≡ old.files name
    file_is t = read t ∙ ap (λ (files : List ℕ → List ℕ). files name) (only.same t)

    -- at its bytes
    pub file_stops : (stop : Stop) → StopsAtFile k.book file stop → StopsFor told s name old new stop
    file_stops (stops.Chain stop) h = absurd h
    file_stops stops.Read h = absurd h
    file_stops stops.TooLong h = absurd h
    file_stops (stops.Refused refusal) h = λ t. (k.book, has_book t, back IsWithin t (fits t), subst (λ (bytes : List ℕ). IsRefused k.book bytes refusal) (file_is t) h)
    file_stops stops.Memory h = tt

    pub printed_is : (text : List ℕ) → IsCompletedFile k.book file text → IsPrinted told old.files s name text
    printed_is text made =
        let moved : IsCompletedFile (history_of k.wallet held.held.blocks) file text = subst (λ (h : History). IsCompletedFile h file text) book_is made in
        record {
          wallet = k.wallet;
          blocks = held.held.blocks;
          file = file;
          made = moved;
          chain = held.chain;
          read = file_is;
          comes_to = λ t. record {
            book = history_of k.wallet held.held.blocks;
            holds = record { wallet = k.wallet; blocks = held.held.blocks; chain = held.chain t; is = refl };
            fits = back IsWithin t (fits t);
            version = moved.version;
            before = moved.before;
            spelled = subst (λ (bytes : List ℕ). IsSpelled (text_of bytes) moved.version moved.before) (file_is t) moved.spelled;
            completed = moved.completed;
          };
        }

-- ---- which files were asked for

pub chain_asked : (s : Sources) (name : List ℕ) (old new : ShelfView) → AsksChain s old new → AsksInOrder s name old new
chain_asked s name old new a = asks_first (s.wallet ∷ s.blocks ∷ []) (name ∷ []) old.asked new.asked a

pub all_asked : (s : Sources) (name : List ℕ) (old middle new : ShelfView) → AsksChain s old middle → Asks (name ∷ []) middle.asked new.asked → AsksInOrder s name old new
all_asked s name old middle new a b = asks_then (s.wallet ∷ s.blocks ∷ []) (name ∷ []) old.asked middle.asked new.asked a b

-- what was asked for up to a stop at the reading of the PSBT, and at its bytes
pub reading_up_to : (told : Type 0) (s : Sources) (name : List ℕ) (old middle new : ShelfView) (stop : Stop) → StopsReading told name middle new stop → AsksInOrder s name old new → AsksUpTo s name old new stop
reading_up_to told s name old middle new (stops.Chain stop) h a = absurd h
reading_up_to told s name old middle new stops.Read h a = a
reading_up_to told s name old middle new stops.TooLong h a = a
reading_up_to told s name old middle new (stops.Refused refusal) h a = a
reading_up_to told s name old middle new stops.Memory h a = a

pub file_up_to : (h : History) (s : Sources) (name file : List ℕ) (old new : ShelfView) (stop : Stop) → StopsAtFile h file stop → AsksInOrder s name old new → AsksUpTo s name old new stop
file_up_to h s name file old new (stops.Chain stop) at a = absurd at
file_up_to h s name file old new stops.Read at a = a
file_up_to h s name file old new stops.TooLong at a = a
file_up_to h s name file old new (stops.Refused refusal) at a = a
file_up_to h s name file old new stops.Memory at a = a

-- ---- which stops tell of a read that failed

pub not_read : (stop : Stop) → (TellsRead stop → ⊥) → stop ≢ stops.Read
not_read stop not e = not (subst TellsRead (sym e) tt)

not_chain_read : (stop : ChainStop) (file : File) → (TellsRead (stops.Chain stop) → ⊥) → stop ≢ chains.Read file
not_chain_read stop file not e = not (subst (λ (x : ChainStop). TellsRead (stops.Chain x)) (sym e) tt)

same_err : {X E : Type 0} (a b : E) → ◌≡◌ {A = Result X E} (Err a) (Err b) → a ≡ b
same_err a b e = cc

-- what is read isn't refused
pub ok_apart : {X E : Type 0} (x : X) (fault : E) → ◌≡◌ {A = Result X E} (Ok x) (Err fault) → ⊥
ok_apart x fault e = cc

pub whole_unfailed : {X Y R : Type 0} (error : ReadError) (stop : Stop) → stop ≡ read_stop_of error → (◌≡◌ {A = Result X Stop} (Err stop) (Err stops.Read) → ⊥) → ((◌≡◌ {A = Result Y ReadError} (Err error) (Err reads.Failed) → ⊥) → R) → R
whole_unfailed {X = X} {Y = Y} error stop is other by =
    let refused : Stop → Result X Stop = λ s. Err s in
    by (λ e. other (ap refused (is ∙ ap read_stop_of (same_err {X = Y} error reads.Failed e))))

pub read_unfailed : {X R : Type 0} (stop : Stop) → (TellsRead stop → ⊥) → ((◌≡◌ {A = Result X Stop} (Err stop) (Err stops.Read) → ⊥) → R) → R
read_unfailed {X = X} stop not by = by (λ e. not_read stop not (same_err {X = X} stop stops.Read e))

pub chain_unfailed : {X R : Type 0} (stop : ChainStop) → (TellsRead (stops.Chain stop) → ⊥) → ((◌≡◌ {A = Result X ChainStop} (Err stop) (Err (chains.Read Wallet)) → ⊥) → (◌≡◌ {A = Result X ChainStop} (Err stop) (Err (chains.Read Blocks)) → ⊥) → R) → R
chain_unfailed {X = X} stop not by = by (λ e. not_chain_read stop Wallet not (same_err {X = X} stop (chains.Read Wallet) e)) (λ e. not_chain_read stop Blocks not (same_err {X = X} stop (chains.Read Blocks) e))

-- ---- results

pub either_unfailed : {X R : Type 0} (result : Result X Stop) → R → MatchResult result (λ (x : X). R) (λ (stop : Stop). (TellsRead stop → ⊥) → R)
either_unfailed (Ok x) r = r
either_unfailed (Err stop) r = λ not. r

pub if_file_stops : (told : Type 0) (s : Sources) (name : List ℕ) (old middle new : ShelfView) (k : Chain) (held : IsChainOf told (old.files s.wallet) (old.files s.blocks) k) (only : OnlyReads told old middle) (file : List ℕ) {X : Type 0} (result : Result X Stop)
    → (told → file ≡ middle.files name) → (told → IsWithin (middle.files name)) → IfErr result (StopsAtFile k.book file) → IfErr result (StopsFor told s name old new)
if_file_stops told s name old middle new k held only file (Ok x) read fits h = tt
if_file_stops told s name old middle new k held only file (Err stop) read fits h = file_stops told s name old middle new k held only file read fits stop h

pub if_printed : (told : Type 0) (s : Sources) (name : List ℕ) (old middle new : ShelfView) (k : Chain) (held : IsChainOf told (old.files s.wallet) (old.files s.blocks) k) (only : OnlyReads told old middle) (file : List ℕ) (result : Result (Vec ℕ Global) Stop)
    → (told → file ≡ middle.files name) → (told → IsWithin (middle.files name)) → IfOk result (λ text. IsCompletedFile k.book file text.items) → IfOk result (λ text. IsPrinted told old.files s name text.items)
if_printed told s name old middle new k held only file (Ok text) read fits h = printed_is told s name old middle new k held only file read fits text.items h
if_printed told s name old middle new k held only file (Err stop) read fits h = tt

pub if_file_up_to : (h : History) (s : Sources) (name file : List ℕ) (old new : ShelfView) {X : Type 0} (result : Result X Stop) → IfErr result (StopsAtFile h file) → AsksInOrder s name old new → IfErr result (AsksUpTo s name old new)
if_file_up_to h s name file old new (Ok x) at a = tt
if_file_up_to h s name file old new (Err stop) at a = file_up_to h s name file old new stop at a
