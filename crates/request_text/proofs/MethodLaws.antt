-- Which word names which method.
use Rattle.std.proofs.Common.{◌≡◌, ℕ, Bool, true, false, cond, List, bytes_eq, codes, Option, Some, None, refl, ap, ◌∙◌}
use Rattle.std.proofs.lemmas.Slice.Eq.{bytes_eq-Decides}
use Rattle.request_text.specs.RequestText.{method_in}
use Rattle.request_text.specs.Rules.{word_of}
use Rattle.request_text.specs.declared.request.Method.{Method}
use Rattle.request_text.specs.declared.request.Method.TheVariants.{Auto, Changeless, Weight, Draw, Manual}

-- a first test that passes, or the tests after it
either : (b : Bool) (k m : Method) (rest : Option Method) (word : List ℕ) → (b ≡ true → word ≡ word_of k) → (rest ≡ Some m → word ≡ word_of m) → cond b (Some k) rest ≡ Some m → word ≡ word_of m
either true k m rest word here behind e = let same : k ≡ m = cc e in here refl ∙ ap word_of same
either false k m rest word here behind e = behind e

pub found : (word : List ℕ) (method : Method) → method_in word ≡ Some method → word ≡ word_of method
unfolding method_in
found word method e =
    either (bytes_eq word (codes "auto")) Auto method _ word (bytes_eq-Decides word (codes "auto")).0
    (either (bytes_eq word (codes "changeless")) Changeless method _ word (bytes_eq-Decides word (codes "changeless")).0
    (either (bytes_eq word (codes "weight")) Weight method _ word (bytes_eq-Decides word (codes "weight")).0
    (either (bytes_eq word (codes "draw")) Draw method _ word (bytes_eq-Decides word (codes "draw")).0
    (either (bytes_eq word (codes "manual")) Manual method None word (bytes_eq-Decides word (codes "manual")).0
    (λ h. absurd (cc h)))))) e

pub only : (method : Method) → method_in (word_of method) ≡ Some method
unfolding method_in
only Auto = refl
only Changeless = refl
only Weight = refl
only Draw = refl
only Manual = refl
