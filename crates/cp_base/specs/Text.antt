-- Texts of lines, and of words parted by one space.
use Rattle.std.specs.Prelude.{◌≡◌, ℕ, ◌==◌, not, List, [], ◌∷◌, ◌++◌, IsTrue}
use Rattle.std.specs.List.{list_all}

-- the text, ended by a line feed
abbrev pub line : List ℕ → List ℕ
line text = text ++ 10 ∷ []

-- no byte of the text is this one
abbrev pub Lacks : ℕ → List ℕ → Type 0
Lacks byte text = IsTrue (list_all (λ b. not (b == byte)) text)

-- bytes were appended
abbrev pub Grew : List ℕ → List ℕ → Type 0
Grew old new = (more : List ℕ) × (new ≡ old ++ more)
