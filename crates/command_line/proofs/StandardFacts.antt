-- StandardFacts: examples of words in their forms: docs/OPERATING.md, Commands.
use Rattle.std.proofs.Common.{◌≡◌, [], ◌∷◌, get_or, refl, arith}
use Rattle.std.specs.Prelude.{codes}
use Rattle.std.specs.Fmt.{digits}
use Rattle.command_line.specs.WordForms.{AreWordsOf, IsNumberIn, IsPlace, words_of}
use Rattle.command_line.specs.WordForms.Command.{Load, Run}

a_place : IsPlace (codes "element.gdmo")
a_place e = let same : get_or (101 ∷ []) 0 0 ≡ 45 = e in omega (arith, same)

no_place : IsPlace (codes "--help") → ⊥
no_place place = place refl

-- an empty word is a name too
an_empty_place : IsPlace []
an_empty_place e = let same : 0 ≡ 45 = e in omega (arith, same)

the_words : words_of (Run (codes "script") (codes "element.gdmo" ∷ [])) ≡
    codes "run" ∷ codes "script" ∷ codes "element.gdmo" ∷ []
the_words = refl

the_count : IsNumberIn 1 100000 (codes "100000")
unfolding digits
the_count = record { number = 100000; spelt = refl; from = omega arith; to = omega arith }

the_load : AreWordsOf (codes "load" ∷ codes "0" ∷ codes "100000" ∷ []) (Load (codes "0") (codes "100000"))
unfolding digits
the_load = (refl, (record { number = 0; spelt = refl; from = omega arith; to = omega arith }, the_count))
