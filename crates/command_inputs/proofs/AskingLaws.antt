-- The files of a payment: the order in which they are asked for, and that those before one are in order.
use Rattle.std.proofs.Common.{◌≡◌, ◌∙◌, ℕ, List, [], ◌∷◌, sym, ap, subst}
use Rattle.fund_shelf.specs.Causes.{Asks, ShelfView}
use Rattle.fund_files.specs.Digests.{AreDigests}
use Rattle.fund_files.specs.declared.digests.ChainDigests.{ChainDigests}
use Rattle.kept_job.specs.Digest.{digest_by}
use Rattle.sha2.specs.Sha256.{sha256}
use Rattle.command_end.specs.Names.{Sources}
use Rattle.command_inputs.specs.Digest.{digest_in}
use Rattle.command_inputs.specs.Inputs.{AsksInOrder}
use Rattle.command_inputs.specs.Names.{Payment}

-- ---- the digest

-- by the digests of the three files, which stay as they were while they are read
pub digest_is : (files seen : List ℕ → List ℕ) (s : Sources) (p : Payment) (chain : ChainDigests) (asked d : List ℕ) → AreDigests (files s.wallet) (files s.blocks) chain → seen ≡ files → asked ≡ sha256 (seen p.request) → d ≡ digest_by chain.wallet chain.blocks asked → d ≡ digest_in files s p
digest_is files seen s p chain asked d are same request is =
    is
    ∙ ap (λ (x : List ℕ). digest_by x chain.blocks asked) are.wallet
    ∙ ap (λ (x : List ℕ). digest_by (sha256 (files s.wallet)) x asked) are.blocks
    ∙ ap (λ (x : List ℕ). digest_by (sha256 (files s.wallet)) (sha256 (files s.blocks)) x) (request ∙ ap (λ (f : List ℕ → List ℕ). sha256 (f p.request)) same)

-- ---- what was asked for

-- where nothing more is asked for
pub asked_on : (s : Sources) (p : Payment) (old middle new : ShelfView) → new.asked ≡ middle.asked → AsksInOrder s p old middle → AsksInOrder s p old new
asked_on s p old middle new same h = subst (λ (names : List (List ℕ)). Asks (s.wallet ∷ s.blocks ∷ p.request ∷ []) old.asked names) (sym same) h
