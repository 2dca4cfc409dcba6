-- What the digest of a file takes.
use Rattle.std.proofs.Common.{◌≡◌, ◌≤◌, ◌<◌, ℕ, ◌+◌, ◌-◌, ltb, List, [], ◌++◌, length, take, drop, Result, Ok, Err, Option, Some, None, sym, ◌∙◌, ap, subst, append_assoc, arith}
use Rattle.std.specs.Prelude.{is_some, IfOk, IfSome, IfNone}
use Rattle.std.proofs.Math.Seq.{take-add}
use Rattle.std.proofs.lemmas.List.{append-nil, take_all, take-append-drop}
use Rattle.sha2.specs.declared.Sha256.{Sha256}
use Rattle.fund_base.specs.Writer.{Feeds}
use Rattle.block_feed.specs.Block.{ChainBlock}
use Rattle.block_feed.specs.Digest.{HasTaken, IsDigest}
use Rattle.block_feed.specs.Feed.{FeedState, next_in, Gives, Digests}
use Rattle.block_feed.specs.Parts.{IsFirstPart}
use Rattle.block_feed.specs.declared.fault.FeedFault.{FeedFault}
use Rattle.block_feed.proofs.FeedLaws.{file_none}
use Rattle.block_feed.proofs.PartLaws.{first_from, seen_take, tail_all, taken_more}

pub feeds_none : (h : Option Sha256) → Feeds HasTaken h h []
feeds_none h = record { feeds = λ m taken. subst (λ (l : List ℕ). HasTaken h l) (sym (append-nil m)) taken }

pub feeds_both : (a b c : Option Sha256) (x y : List ℕ) → Feeds HasTaken a b x → Feeds HasTaken b c y → Feeds HasTaken a c (x ++ y)
feeds_both a b c x y first second = record { feeds = λ m taken. subst (λ (l : List ℕ). HasTaken c l) (append_assoc m x y) (second.feeds (m ++ x) (first.feeds m taken)) }

pub feeds_as : (a b : Option Sha256) (x y : List ℕ) → x ≡ y → Feeds HasTaken a b x → Feeds HasTaken a b y
feeds_as a b x y same f = subst (λ (l : List ℕ). Feeds HasTaken a b l) same f

-- one piece more
pub feeds_more : (a b c : Option Sha256) (rest piece : List ℕ) (k : ℕ) → IsFirstPart (drop k rest) piece → Feeds HasTaken a b (take k rest) → Feeds HasTaken b c piece → Feeds HasTaken a c (take (k + length piece) rest)
feeds_more a b c rest piece k first before more = feeds_as a c _ _ (sym (taken_more rest piece k first)) (feeds_both a b c (take k rest) piece before more)

-- and then nothing
pub feeds_all : (a b : Option Sha256) (rest piece : List ℕ) (k : ℕ) → IsFirstPart (drop k rest) piece → length piece ≡ 0 → Feeds HasTaken a b (take k rest) → Feeds HasTaken a b rest
feeds_all a b rest piece k first none before = feeds_as a b _ _ (tail_all rest piece k first none) before

-- whichever of the two it is that was asked
pub digest_as : (a b : Option Sha256) (bytes : List ℕ) (digest : Option (List ℕ)) → is_some a ≡ is_some b → IsDigest a bytes digest → IsDigest b bytes digest
digest_as None None bytes digest same is = is
digest_as None (Some b) bytes digest same is = absurd cc
digest_as (Some a) None bytes digest same is = absurd cc
digest_as (Some a) (Some b) bytes digest same is = is

-- what a call takes, in the words of the file
pub gives_digests : (m : ℕ) (file : List ℕ) (old new : FeedState) (result : Result (Option ChainBlock) FeedFault) → Gives old new result (next_in (ltb m (length file)) (take m file) old.hash old.height old.place)
    → IfOk result (λ o. IfSome o (λ _. (old.place < new.place) × (new.place ≤ m)))
    → IfOk result (λ o. IfSome o (λ _. Feeds HasTaken old.hasher new.hasher (take (new.place - old.place) (drop old.place (take m file)))))
    → IfOk result (λ o. IfNone o ((bytes : List ℕ) → HasTaken old.hasher bytes → IsDigest old.hasher (bytes ++ drop old.place (take m file)) new.digest))
    → Digests file old new result
gives_digests m file old new (Ok None) given within taken whole = λ bytes has.
    let n = file_none m file old.hash old.height old.place given in
    subst (λ (l : List ℕ). IsDigest old.hasher (bytes ++ drop old.place l) new.digest) (take_all m file n.1) (whole bytes has)
gives_digests m file old new (Ok (Some block)) given within taken whole = λ bytes has.
    let up = within.0 in
    let low = within.1 in
    let same : take (new.place - old.place) (drop old.place (take m file)) ≡ take (new.place - old.place) (drop old.place file) = seen_take m old.place (new.place - old.place) file (omega arith) in
    subst (λ (l : List ℕ). HasTaken new.hasher (bytes ++ l)) same (taken.feeds bytes has)
gives_digests m file old new (Err e) given within taken whole = tt

-- of a file that stays as it is
pub digest_more : (file : List ℕ) (old new : FeedState) (block : ChainBlock) → Digests file old new (Ok (Some block)) → old.place ≤ new.place → HasTaken old.hasher (take old.place file) → HasTaken new.hasher (take new.place file)
digest_more file old new block digests up taken =
    let place : old.place + (new.place - old.place) ≡ new.place = omega arith in
    let whole : take old.place file ++ take (new.place - old.place) (drop old.place file) ≡ take new.place file = sym (take-add old.place (new.place - old.place) file) ∙ ap (λ (n : ℕ). take n file) place in
    subst (λ (l : List ℕ). HasTaken new.hasher l) whole (digests (take old.place file) taken)

pub digest_whole : (file : List ℕ) (old new : FeedState) → Digests file old new (Ok None) → HasTaken old.hasher (take old.place file) → IsDigest old.hasher file new.digest
digest_whole file old new digests taken = subst (λ (l : List ℕ). IsDigest old.hasher l new.digest) (take-append-drop old.place file) (digests (take old.place file) taken)

-- ---- a scan from a place on

pub taken_none : (h : Option Sha256) (rest : List ℕ) (k : ℕ) → k ≡ 0 → Feeds HasTaken h h (take k rest)
taken_none h rest k none = feeds_as h h [] (take k rest) (ap (λ (n : ℕ). take n rest) (sym none)) (feeds_none h)

pub taken_more_from : (a b c : Option Sha256) (front piece : List ℕ) (place at next : ℕ) → place ≤ at → next ≡ at + length piece → IsFirstPart (drop at front) piece → Feeds HasTaken a b (take (at - place) (drop place front)) → Feeds HasTaken b c piece → Feeds HasTaken a c (take (next - place) (drop place front))
taken_more_from a b c front piece place at next le is first before more =
    let count : (at - place) + length piece ≡ next - place = omega arith in
    feeds_as a c _ _ (ap (λ (n : ℕ). take n (drop place front)) count) (feeds_more a b c (drop place front) piece (at - place) (first_from front piece place at le first) before more)

pub taken_all_from : (a b : Option Sha256) (front piece : List ℕ) (place at : ℕ) → place ≤ at → length piece ≡ 0 → IsFirstPart (drop at front) piece → Feeds HasTaken a b (take (at - place) (drop place front)) → Feeds HasTaken a b (drop place front)
taken_all_from a b front piece place at le none first before = feeds_all a b (drop place front) piece (at - place) (first_from front piece place at le first) none before

-- ---- what a call takes

-- the two parts of a record
pub block_takes : (a b c : Option Sha256) (rest seen head told body : List ℕ) (n : ℕ) → seen ≡ head → told ≡ body → Feeds HasTaken a b seen → Feeds HasTaken b c told → head ++ body ≡ take (8 + length body) rest → n ≡ 8 + length body → Feeds HasTaken a c (take n rest)
block_takes a b c rest seen head told body n first second taken more parts count =
    feeds_as a c _ _ (parts ∙ ap (λ (k : ℕ). take k rest) (sym count)) (feeds_both a b c head body (feeds_as a b seen head first taken) (feeds_as b c told body second more))

-- and the end, by a copy of what has taken the bytes before it
pub end_takes : (old copy tail : Option Sha256) (rest : List ℕ) (digest : Option (List ℕ)) → copy ≡ old → Feeds HasTaken copy tail rest → is_some tail ≡ is_some copy → ((bytes : List ℕ) → HasTaken tail bytes → IsDigest tail bytes digest) → (bytes : List ℕ) → HasTaken old bytes → IsDigest old (bytes ++ rest) digest
end_takes old copy tail rest digest same taken asked whole bytes has =
    digest_as tail old (bytes ++ rest) digest (asked ∙ ap is_some same) (whole (bytes ++ rest) (taken.feeds bytes (subst (λ (h : Option Sha256). HasTaken h bytes) (sym same) has)))
