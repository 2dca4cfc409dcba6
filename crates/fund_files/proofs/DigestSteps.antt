-- What the digest of a block file has taken while its blocks are read.
use Rattle.std.proofs.Common.{◌≡◌, ◌<◌, ℕ, true, false, List, [], take, Ok, Option, Some, None, ap, sym, subst, arith}
use Rattle.std.specs.Prelude.{is_some, IsSome}
use Rattle.std.specs.Option.{option_map_or}
use Rattle.sha2.specs.Sha256.{sha256}
use Rattle.sha2.specs.declared.Sha256.{Sha256}
use Rattle.block_feed.specs.Block.{ChainBlock}
use Rattle.block_feed.specs.Digest.{HasTaken, IsDigest}
use Rattle.block_feed.specs.Feed.{Digests, FeedState}
use Rattle.block_feed.proofs.DigestLaws.{digest_as, digest_more, digest_whole}

-- at the beginning nothing
pub taken_none : (told : Type 0) (file : List ℕ) (feed : FeedState) → feed.place ≡ 0 → HasTaken feed.hasher [] → told → HasTaken feed.hasher (take feed.place file)
taken_none told file feed start taken t = subst (λ (n : ℕ). HasTaken feed.hasher (take n file)) (sym start) taken

-- with a block the bytes up to its end; the file that is seen is this one
pub taken_more : (told : Type 0) (file seen : List ℕ) (feed next : FeedState) (block : ChainBlock) → (told → seen ≡ file) → (told → Digests seen feed next (Ok (Some block))) → (told → feed.place < next.place) → (told → HasTaken feed.hasher (take feed.place file)) → told → HasTaken next.hasher (take next.place file)
taken_more told file seen feed next block same digests up taken t =
    let above = up t in
    digest_more file feed next block (subst (λ (f : List ℕ). Digests f feed next (Ok (Some block))) (same t) (digests t)) (omega (arith, above)) (taken t)

-- at the end the whole file
pub taken_all : (told : Type 0) (file seen : List ℕ) (begun feed next : FeedState) → is_some feed.hasher ≡ is_some begun.hasher → (told → seen ≡ file) → (told → Digests seen feed next (Ok None)) → (told → HasTaken feed.hasher (take feed.place file)) → told → IsDigest begun.hasher file next.digest
taken_all told file seen begun feed next asked same digests taken t =
    digest_as feed.hasher begun.hasher file next.digest asked (digest_whole file feed next (subst (λ (f : List ℕ). Digests f feed next (Ok None)) (same t) (digests t)) (taken t))

-- a digest that was asked for is that of the file
pub digest_is : (hasher : Option Sha256) (file : List ℕ) (found : Option (List ℕ)) → IsSome hasher → IsDigest hasher file found → found ≡ Some (sha256 file)
digest_is None file found asked is = absurd (let no : false ≡ true = asked in cc)
digest_is (Some h) file found asked is = is

-- two digests that are there are the same
pub some_is : {a b : List ℕ} → Some a ≡ Some b → a ≡ b
some_is {a} is = ap (λ (o : Option (List ℕ)). option_map_or (λ (x : List ℕ). x) o a) is
