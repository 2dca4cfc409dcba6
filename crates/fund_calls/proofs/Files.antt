-- The files that are given are held by their names.
use Rattle.std.proofs.Common.{◌≡◌, ◌∙◌, ℕ, List, [], ◌∷◌, ap}
use Rattle.std.specs.Prelude.{String, Vec, codes, string_bytes}
use Rattle.std.specs.declared.alloc.Global.{Global}
use Rattle.fund_shelf.specs.Causes.{ShelfView}
use Rattle.fund_shelf.specs.Files.{bytes_of}
use Rattle.fund_calls.specs.Given.{PlainGiven, held_in, shelf_of}

abbrev pub Named : Type 0
Named = String Global × Vec ℕ Global

-- six files by their names
abbrev six : (n₁ b₁ n₂ b₂ n₃ b₃ n₄ b₄ n₅ b₅ n₆ b₆ : List ℕ) → ShelfView
six n₁ b₁ n₂ b₂ n₃ b₃ n₄ b₄ n₅ b₅ n₆ b₆ = record { files = held_in ((n₁, b₁) ∷ (n₂, b₂) ∷ (n₃, b₃) ∷ (n₄, b₄) ∷ (n₅, b₅) ∷ (n₆, b₆) ∷ []); reads = λ _. 0; writes = λ _. 0; asked = [] }

pub files_are : (v : ShelfView) (g : PlainGiven) (f₁ f₂ f₃ f₄ f₅ f₆ : Named) → v ≡ record { files = bytes_of (f₁ ∷ f₂ ∷ f₃ ∷ f₄ ∷ f₅ ∷ f₆ ∷ []); reads = λ _. 0; writes = λ _. 0; asked = [] }
    → string_bytes f₁.0 ≡ codes "wallet" → f₁.1.items ≡ g.wallet → string_bytes f₂.0 ≡ codes "blocks" → f₂.1.items ≡ g.blocks → string_bytes f₃.0 ≡ codes "request" → f₃.1.items ≡ g.request
    → string_bytes f₄.0 ≡ codes "report" → f₄.1.items ≡ g.report → string_bytes f₅.0 ≡ codes "checked" → f₅.1.items ≡ g.log → string_bytes f₆.0 ≡ codes "tx" → f₆.1.items ≡ g.tx → v ≡ shelf_of g
files_are v g f₁ f₂ f₃ f₄ f₅ f₆ is n₁ b₁ n₂ b₂ n₃ b₃ n₄ b₄ n₅ b₅ n₆ b₆ =
    is
    ∙ ap (λ (x : List ℕ). six x f₁.1.items (string_bytes f₂.0) f₂.1.items (string_bytes f₃.0) f₃.1.items (string_bytes f₄.0) f₄.1.items (string_bytes f₅.0) f₅.1.items (string_bytes f₆.0) f₆.1.items) n₁
    ∙ ap (λ (x : List ℕ). six (codes "wallet") x (string_bytes f₂.0) f₂.1.items (string_bytes f₃.0) f₃.1.items (string_bytes f₄.0) f₄.1.items (string_bytes f₅.0) f₅.1.items (string_bytes f₆.0) f₆.1.items) b₁
    ∙ ap (λ (x : List ℕ). six (codes "wallet") g.wallet x f₂.1.items (string_bytes f₃.0) f₃.1.items (string_bytes f₄.0) f₄.1.items (string_bytes f₅.0) f₅.1.items (string_bytes f₆.0) f₆.1.items) n₂
    ∙ ap (λ (x : List ℕ). six (codes "wallet") g.wallet (codes "blocks") x (string_bytes f₃.0) f₃.1.items (string_bytes f₄.0) f₄.1.items (string_bytes f₅.0) f₅.1.items (string_bytes f₆.0) f₆.1.items) b₂
    ∙ ap (λ (x : List ℕ). six (codes "wallet") g.wallet (codes "blocks") g.blocks x f₃.1.items (string_bytes f₄.0) f₄.1.items (string_bytes f₅.0) f₅.1.items (string_bytes f₆.0) f₆.1.items) n₃
    ∙ ap (λ (x : List ℕ). six (codes "wallet") g.wallet (codes "blocks") g.blocks (codes "request") x (string_bytes f₄.0) f₄.1.items (string_bytes f₅.0) f₅.1.items (string_bytes f₆.0) f₆.1.items) b₃
    ∙ ap (λ (x : List ℕ). six (codes "wallet") g.wallet (codes "blocks") g.blocks (codes "request") g.request x f₄.1.items (string_bytes f₅.0) f₅.1.items (string_bytes f₆.0) f₆.1.items) n₄
    ∙ ap (λ (x : List ℕ). six (codes "wallet") g.wallet (codes "blocks") g.blocks (codes "request") g.request (codes "report") x (string_bytes f₅.0) f₅.1.items (string_bytes f₆.0) f₆.1.items) b₄
    ∙ ap (λ (x : List ℕ). six (codes "wallet") g.wallet (codes "blocks") g.blocks (codes "request") g.request (codes "report") g.report x f₅.1.items (string_bytes f₆.0) f₆.1.items) n₅
    ∙ ap (λ (x : List ℕ). six (codes "wallet") g.wallet (codes "blocks") g.blocks (codes "request") g.request (codes "report") g.report (codes "checked") x (string_bytes f₆.0) f₆.1.items) b₅
    ∙ ap (λ (x : List ℕ). six (codes "wallet") g.wallet (codes "blocks") g.blocks (codes "request") g.request (codes "report") g.report (codes "checked") g.log x f₆.1.items) n₆
    ∙ ap (λ (x : List ℕ). six (codes "wallet") g.wallet (codes "blocks") g.blocks (codes "request") g.request (codes "report") g.report (codes "checked") g.log (codes "tx") x) b₆
