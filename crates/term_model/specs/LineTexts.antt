-- Lines of text: a line feed ends each; docs/PROFILE.md, section 5.
use Rattle.std.specs.Prelude.{ℕ, List, [], ◌∷◌, ◌++◌, codes, decimal}

abbrev pub line_feed : List ℕ
line_feed = 10 ∷ []

abbrev pub two_words : List ℕ → ℕ → List ℕ → List ℕ
two_words word number text = word ++ (decimal number ++ (codes " " ++ (text ++ line_feed)))

abbrev pub one_word : List ℕ → ℕ → List ℕ
one_word word number = word ++ (decimal number ++ line_feed)
