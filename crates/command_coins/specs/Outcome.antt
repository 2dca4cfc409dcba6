-- What the files of a listing come to.
use Rattle.std.specs.Prelude.{ℕ, List, Result, Ok, Err}
use Rattle.command_coins.specs.Listing.{listing_of}
use Rattle.fund_files.specs.Cause.{FileCause}
use Rattle.fund_files.specs.Outcome.{chain_of}
use Rattle.fund_files.specs.declared.chain.Chain.{Chain}
use Rattle.payment_states.specs.Candidates.{candidates_of}
use Rattle.payment_states.specs.Payments.{payments_of}
use Rattle.command_end.specs.Names.{Sources}

-- the listing of a chain: its tip, its payments and their states, its coins that may be spent
unfoldable pub listing_in : Chain → List ℕ
listing_in k = listing_of k.tip.height k.tip.hash (payments_of k.wallet k.book) (candidates_of k.wallet k.book k.tip.height 0)

-- by the chain that the files hold, or the cause for which they are refused
abbrev pub by_chain : Result Chain FileCause → Result (List ℕ) FileCause
by_chain (Err cause) = Err cause
by_chain (Ok k) = Ok (listing_in k)

-- the listing, or the cause for which the files are refused
abbrev pub outcome_of : (List ℕ → List ℕ) → Sources → Result (List ℕ) FileCause
outcome_of files s = by_chain (chain_of (files s.wallet) (files s.blocks))
