-- What is given to a call, as files and jobs in memory.
use Rattle.std.specs.Prelude.{ℕ, ◌≡◌, List, [], ◌∷◌, Option, Some, None, bytes_eq, codes, unwrap_or, if◌then◌else◌}
use Rattle.fund_shelf.specs.Causes.{ShelfView, SinkView}
use Rattle.fund_outside.specs.Kept.{KeptJob}
use Rattle.packed_jobs.specs.Packed.{IsPackedIn, IsPackedJob}
use Rattle.fund_calls.specs.Names.{checked_name, job_name, report_name, request_name}
use Rattle.fund_calls.specs.declared.given.Given.{Given}

-- the bytes of each file
pub record PlainGiven : Type 0 where
  pub wallet : List ℕ
  pub blocks : List ℕ
  pub request : List ℕ
  pub report : List ℕ
  pub log : List ℕ
  pub tx : List ℕ

-- those that are lent
abbrev pub plain_given : Given → PlainGiven
plain_given g = record { wallet = g.wallet.now; blocks = g.blocks.now; request = g.request.now; report = g.report.now; log = g.log.now; tx = g.tx.now }

-- none is given
abbrev pub no_files : PlainGiven
no_files = record { wallet = []; blocks = []; request = []; report = []; log = []; tx = [] }

-- the bytes of the first of some named files that has a name
abbrev pub found_in : List (List ℕ × List ℕ) → List ℕ → Option (List ℕ)
found_in [] name = None
found_in (file ∷ files) name = if bytes_eq file.0 name then Some file.1 else found_in files name

-- its bytes, and none where no file has the name
abbrev pub held_in : List (List ℕ × List ℕ) → List ℕ → List ℕ
held_in files name = unwrap_or (found_in files name) []

-- the bytes that are given, by the names of the files
abbrev pub files_of : PlainGiven → List ℕ → List ℕ
files_of g =
    held_in
    ((codes "wallet", g.wallet) ∷ (codes "blocks", g.blocks) ∷ (request_name, g.request) ∷ (report_name, g.report) ∷ (checked_name, g.log) ∷ (codes "tx", g.tx) ∷ [])

-- these files, of which none was asked for
abbrev pub shelf_of : PlainGiven → ShelfView
shelf_of g = record { files = files_of g; reads = λ _. 0; writes = λ _. 0; asked = [] }

-- a sink in which nothing is written
abbrev pub empty_sink : SinkView
empty_sink = record { written = []; faults = 0; refusals = 0 }

-- Where no packed job is given, none is kept; where one is, the job that its bytes are is kept under its name.
abbrev pub IsKeptIn : Option (List ℕ) → (List ℕ → Option KeptJob) → Type 0
IsKeptIn None jobs = jobs ≡ (λ _. None)
IsKeptIn (Some bytes) jobs = IsPackedIn bytes (jobs job_name)

-- A packed job is given, and its bytes are none.
abbrev pub IsNoJob : Option (List ℕ) → Type 0
IsNoJob None = ⊥
IsNoJob (Some bytes) = IsPackedJob bytes → ⊥
